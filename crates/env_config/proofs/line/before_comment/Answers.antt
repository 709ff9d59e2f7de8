use Rattle.std.proofs.Common.{◌∙◌, ap, sym, subst, Bool, take, rules}
use Rattle.std.specs.Str.Iter.{char_indices_offset, char_indices_rest}
use Rattle.env_config.proofs.CommentLemmas.{Walks, walk_begins, walk_more, walk_stops, walk_ends}
use Rattle.env_config.proofs.LineLemmas.{front_range}
use Rattle.env_config.proofs.line.before_comment.Goals as goal

pub loop-place-init : goal.loop-place-init
loop-place-init c = record {
  can_next = search rules;
  finite = tt;
  walks = walk_begins c.args.text.now _ _ (search rules) (search rules) c.utf8.text;
}

pub returns-then-begins_comment : goal.returns-then-begins_comment
returns-then-begins_comment c =
    let text = c.args.text.now in
    let at = c.loop-place.place-iterator in
    let steps = c.in-Some.ensures.steps in
    c.range.ensures.value ∙ front_range text c.in-Some.place ∙ ap (λ n. take n text) steps.0
    ∙ walk_stops text (char_indices_offset at) (char_indices_rest at) c.loop-place.follows_space c.in-Some.c (char_indices_rest c.next.new.self) c.loop-place.invariant.walks (sym c.begins_comment.ensures ∙ c.if-begins_comment.true) steps.1

pub loop-place-preserved : goal.loop-place-preserved
loop-place-preserved c =
    let text = c.args.text.now in
    let at = c.loop-place.place-iterator in
    let next = c.next.new.self in
    let steps = c.in-Some.ensures.steps in
    record {
      can_next = search rules;
      finite = tt;
      walks = subst (λ (b : Bool). Walks text (char_indices_offset next) (char_indices_rest next) b) (sym c.is_whitespace-follows_space.ensures)
          (walk_more text (char_indices_offset at) (char_indices_rest at) c.loop-place.follows_space c.in-Some.c (char_indices_offset next) (char_indices_rest next) c.loop-place.invariant.walks (sym c.begins_comment.ensures ∙ c.if-begins_comment.false) steps.1 steps.2);
    }

pub returns : goal.returns
returns c =
    let at = c.loop-place.place-iterator in
    walk_ends c.args.text.now (char_indices_offset at) (char_indices_rest at) c.loop-place.follows_space c.loop-place.invariant.walks c.in-None.ensures.steps.0

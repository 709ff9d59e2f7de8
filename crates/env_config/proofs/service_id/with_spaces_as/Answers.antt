use Rattle.std.proofs.Common.{◌∙◌, ◌++◌, ap, sym, lit<, Some, None, List, ℕ, string_bytes, rules}
use Rattle.std.proofs.lemmas.Str.Pattern.{split_parts}
use Rattle.env_config.proofs.ServiceLemmas.{spaces_more, spaces_none}
use Rattle.env_config.proofs.service_id.with_spaces_as.Goals as goal

pub loop-word-preserved : goal.loop-word-preserved
loop-word-preserved c =
    let word = c.in-Some.word in
    let others = c.in-Some.others in
    let parts = split_parts 32 c.loop-word.rest.now (Some (word, others)) c.in-Some.ensures.cases (lit< tt) in
    record {
      to_come = spaces_more c.args.sign.now (string_bytes c.loop-word.name) word.now c.loop-word.rest.now others.now (string_bytes c.push_str.new.self) (string_bytes c.push_str-in-Some.new.self) _
          parts.0 parts.1 c.in_ok-push_str.ensures.bytes c.in_ok-push_str-2.ensures.bytes c.loop-word.invariant.to_come;
      text = search rules;
    }

pub returns : goal.returns
returns c =
    let rest = c.loop-word.rest.now in
    c.in_ok-push_str-3.ensures.bytes
    ∙ ap (λ (xs : List ℕ). string_bytes c.loop-word.name ++ xs) (sym (spaces_none c.args.sign.now rest (split_parts 32 rest None c.in_default.ensures.cases (lit< tt))))
    ∙ c.loop-word.invariant.to_come

use Rattle.std.proofs.Common.{◌≡◌, Bool, ◌&&◌, IfOk, slice_index_or, [], ap, ap₂, sym, subst, ◌∙◌}
use Rattle.env_config.specs.Source.{file_of}
use Rattle.awsign_settings.specs.Own.{alone, part_key}
use Rattle.awsign_settings.specs.ValueLine.{begins_with_key, has_other, has_value, lines_of, other_file}
use Rattle.awsign_settings.proofs.ValueLineLemmas.{found_line}
use Rattle.awsign_settings.proofs.value_line.has_value.Goals as goal

pub returns-then-not-begins_with_key : goal.returns-then-not-begins_with_key
unfolding has_value
returns-then-not-begins_with_key c =
    let file = file_of c.args.file.now in
    let begins : c.begins_with_key.result ≡ begins_with_key (part_key c.args.part) (slice_index_or (lines_of file.contents) c.args.at []) =
    c.begins_with_key.ensures ∙ ap₂ begins_with_key c.key.ensures (found_line c.args.lines.now (lines_of file.contents) c.args.at _ c.requires.lines c.requires.within) in
    ap (λ (b : Bool). b && has_other c.args.part c.args.value.now (alone c.args.profile.now (other_file file c.args.part c.args.at)))
    (sym c.if-not-begins_with_key.true ∙ begins)

pub returns : goal.returns
unfolding has_value
returns c =
    let file = file_of c.args.file.now in
    let begins : c.begins_with_key.result ≡ begins_with_key (part_key c.args.part) (slice_index_or (lines_of file.contents) c.args.at []) =
    c.begins_with_key.ensures ∙ ap₂ begins_with_key c.key.ensures (found_line c.args.lines.now (lines_of file.contents) c.args.at _ c.requires.lines c.requires.within) in
    let Given : Bool → Type 0 = λ b. IfOk c.has_other.result (λ has. has ≡ b) in
    subst Given
    (ap (λ file. has_other c.args.part c.args.value.now (alone c.args.profile.now file)) c.in_ok-other.ensures
    ∙ ap (λ (b : Bool). b && has_other c.args.part c.args.value.now (alone c.args.profile.now (other_file file c.args.part c.args.at)))
    (sym c.if-not-begins_with_key.false ∙ begins))
    c.has_other.ensures

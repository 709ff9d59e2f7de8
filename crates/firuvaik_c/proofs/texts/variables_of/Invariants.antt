use Rattle.std.proofs.Common.{◌≡◌, map, take, true}
use Rattle.std.specs.List.{list_all}
use Rattle.firuvaik_c.specs.Asked.{is_text_field, lent_pair}
use Rattle.firuvaik_c.proofs.texts.variables_of.Given as goal

-- the fields that passed are texts, and are among the variables
abbrev pub invariant-loop-field : goal.invariant-loop-field
invariant-loop-field l =
    (list_all is_text_field (take l.field-index l.fields) ≡ true) × (l.env ≡ map lent_pair (take l.field-index l.fields))

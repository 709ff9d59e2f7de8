use Rattle.std.proofs.Common.{◌≡◌, map, take, true}
use Rattle.std.specs.List.{list_all}
use Rattle.firuvaik_c.specs.Asked.{is_text_field}
use Rattle.firuvaik_c.specs.Messages.{text_header}
use Rattle.firuvaik_c.proofs.message.text_headers.Given as goal

-- the fields that passed are texts, and are among the headers
abbrev pub invariant-loop-field : goal.invariant-loop-field
invariant-loop-field l =
    (list_all is_text_field (take l.field-index l.fields) ≡ true) × (l.headers.items ≡ map text_header (take l.field-index l.fields))

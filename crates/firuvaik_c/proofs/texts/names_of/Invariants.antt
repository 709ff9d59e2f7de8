use Rattle.std.proofs.Common.{◌≡◌, map, take, true, string_bytes}
use Rattle.std.specs.List.{list_all}
use Rattle.std.specs.Str.{is_utf8}
use Rattle.firuvaik_c.proofs.texts.names_of.Given as goal

-- the names that passed are texts, and were copied
abbrev pub invariant-loop-name : goal.invariant-loop-name
invariant-loop-name l =
    (list_all (λ name. is_utf8 name.bytes.now) (take l.name-index l.names) ≡ true)
    × (map string_bytes l.copies.items ≡ map (λ name. name.bytes.now) (take l.name-index l.names))

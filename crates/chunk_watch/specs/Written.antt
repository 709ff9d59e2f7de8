-- A chunk as it is written, and that nothing else is handed out.
use Rattle.std.specs.Prelude.{◌≡◌, ◌⊎◌, ℕ, ◌<◌, ◌≤◌, List, [], ◌++◌, codes, length, Some}
use Rattle.std.specs.Str.Parse.{AllDigits, digits_value}
use Rattle.aws_chunked.specs.Text.{crlf}
use Rattle.chunk_watch.specs.Walk.{ChunkPoint, Rules, in_chunks, next_place, step}

-- bytes begin with a chunk of data, of at most so many bytes, that carries this signature: up to eight hexadecimal digits of its length, `;chunk-signature=` and
-- the signature, the end of the line, the data, and the end of its line
pub record BeginsChunk (most : ℕ) (signature given rest bytes : List ℕ) : Type 0 where
  pub digits : List ℕ
  pub few : length digits ≤ 8
  pub hexadecimal : AllDigits 16 digits
  pub counted : digits_value 16 digits ≡ length given
  pub some : 0 < length given
  pub within : length given ≤ most
  pub text : bytes ≡ digits ++ (codes ";chunk-signature=" ++ (signature ++ (crlf ++ (given ++ (crlf ++ rest)))))

-- what a step hands out is nothing, or the data of the chunk that stands first and carries its own signature, and the walk goes on behind that
abbrev pub HandsSigned : Rules → Type 0
HandsSigned rules =
    (before left given : List ℕ) (place : ℕ) (next : ChunkPoint) → step rules (in_chunks before place left) ≡ Some (given, next)
    → (given ≡ []) ⊎ ((rest : List ℕ) × BeginsChunk rules.most (rules.own before given) given rest left
    × (next ≡ in_chunks (rules.own before given) (next_place place) rest))

-- An upload in signed chunks, for a caller.
use Rattle.std.specs.Prelude.{◌≡◌, ◌⊎◌, ℕ, ℤ, List, length, map, Option, Some, None, Result, Ok, Err, option_map}
use Rattle.std.specs.List.{list_all}
use Rattle.std.specs.Option.{option_or}
use Rattle.aws_chunked.specs.Text.{head_text}
use Rattle.sigv4.specs.Chunk.{chunk_signature, trailer_signature}
use Rattle.sigv4.specs.Query.{Pair}
use Rattle.sigv4.specs.Refusal.{unfit_headers}
use Rattle.sigv4.specs.declared.error.SigningError.{SigningError}
use Rattle.sigv4.specs.declared.error.SigningError.TheVariants.{NoMemory}
use Rattle.chunk_watch.specs.Trailers.{trailers_text}
use Rattle.firuvaik_c.specs.Asked.{is_text_field, lent_header, moment_at, unless_utf8}
use Rattle.firuvaik_c.specs.Faults.{fault_of_signing, no_memory}
use Rattle.firuvaik_c.specs.Links.{key_signer, linkless}
use Rattle.firuvaik_c.specs.declared.answer.Made.{Made}
use Rattle.firuvaik_c.specs.declared.fault.Fault.{Fault}
use Rattle.firuvaik_c.specs.declared.lent.Field.{Field}
use Rattle.firuvaik_c.specs.declared.lent.Signer.{Signer}

-- the signature of the next chunk
abbrev pub next_chunk_signature : Signer → ℤ → List ℕ → List ℕ → List ℕ
next_chunk_signature signer seconds chunk before = chunk_signature chunk (key_signer signer) (moment_at seconds) before

-- the line before the next chunk, and its signature; or the first reason why there is none, or memory ran out
abbrev pub GivesChunk : Signer → ℤ → List ℕ → List ℕ → Result Made Fault → Type 0
GivesChunk signer seconds chunk before (Ok made) =
    (linkless signer seconds before ≡ None) × (made.text.items ≡ head_text (length chunk) (Some (next_chunk_signature signer seconds chunk before)))
    × (made.signature ≡ next_chunk_signature signer seconds chunk before)
GivesChunk signer seconds chunk before (Err fault) = (linkless signer seconds before ≡ Some fault) ⊎ (fault ≡ no_memory)

-- the trailers that fields are, their names in lower case
abbrev pub lent_trailers : List Field → List Pair
lent_trailers trailers = map lent_header trailers

-- why trailers aren't signed: there is no link, or a field isn't a text, or no header
abbrev pub trailers_refusal : Signer → ℤ → List Field → List ℕ → Option Fault
trailers_refusal signer seconds trailers before =
    option_or (linkless signer seconds before)
    (option_or (unless_utf8 (list_all is_text_field trailers)) (option_map fault_of_signing (unfit_headers 1 (lent_trailers trailers))))

-- the signature of the trailers that fields are
abbrev pub lent_trailers_signature : Signer → ℤ → List Field → List ℕ → List ℕ
lent_trailers_signature signer seconds trailers before = trailer_signature (lent_trailers trailers) (key_signer signer) (moment_at seconds) before

-- the lines of the trailers, and their signature; or the first reason why there are none, or memory ran out
abbrev pub GivesTrailers : Signer → ℤ → List Field → List ℕ → Result Made Fault → Type 0
GivesTrailers signer seconds trailers before (Ok made) =
    (trailers_refusal signer seconds trailers before ≡ None)
    × (made.text.items ≡ trailers_text (lent_trailers trailers) (lent_trailers_signature signer seconds trailers before))
    × (made.signature ≡ lent_trailers_signature signer seconds trailers before)
GivesTrailers signer seconds trailers before (Err fault) = (trailers_refusal signer seconds trailers before ≡ Some fault) ⊎ (fault ≡ no_memory)

-- a text and a signature are made, or memory ran out
abbrev pub MakesText : List ℕ → List ℕ → Result Made SigningError → Type 0
MakesText text signature (Ok made) = (made.text.items ≡ text) × (made.signature ≡ signature)
MakesText text signature (Err error) = error ≡ NoMemory

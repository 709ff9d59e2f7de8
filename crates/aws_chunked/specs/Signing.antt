-- What a signer answers for the parts of a body.
use Rattle.std.specs.Prelude.{◌≡◌, ℕ, ◌⊎◌, Bool, true, false, List, [], ◌∷◌, Option, Some, None, option_map, Result, Ok, Err, String, string_bytes}
use Rattle.std.specs.declared.alloc.Global.{Global}
use Rattle.sigv4.specs.ChunkTold.{SignsChunk, SignsTrailers}
use Rattle.sigv4.specs.declared.chunk_signer.SignChunk as SignChunk
use Rattle.sigv4.specs.declared.error.SigningError.{SigningError}
use Rattle.sigv4.specs.declared.error.SigningError.TheVariants.{SignerNotWired}
use Rattle.aws_chunked.specs.Error.{signing_error}
use Rattle.aws_chunked.specs.Text.{Part, chunk, chunk_text, tail, tail_text}
use Rattle.aws_chunked.specs.declared.error.AwsChunkedBodyError.{AwsChunkedBodyError}
use Rattle.aws_chunked.specs.declared.error.AwsChunkedBodyError.TheVariants.{FailedToSign}

-- a signer before a call, its answer, and the signer after it
abbrev pub Answering : Type 0 → Type 1
Answering G = G → Result (String Global) SigningError → G → Type 0

-- what a signer answers for a chunk, and what it answers for trailers
abbrev pub ChunkAnswers : {G : Type 0} → SignChunk.Ghosts G → List ℕ → Answering G
ChunkAnswers signer piece old answer new = signer.signs old piece answer new × SignsChunk (signer.told old) piece answer (signer.told new)

abbrev pub TrailerAnswers : {G : Type 0} → SignChunk.Ghosts G → List (List ℕ × List ℕ) → Answering G
TrailerAnswers signer trailers old answer new = signer.closes old trailers answer new × SignsTrailers (signer.told old) trailers answer (signer.told new)

-- an unsigned body asks no signer; a signed one has the signature that its signer answers, or the error of what it answers, or else
-- of a signer that isn't wired
abbrev pub SignsWhereSigned : {G : Type 0} → Answering G → Bool → Option G → Result (Option (String Global)) AwsChunkedBodyError → Option G → Type 0
SignsWhereSigned answers false old (Ok signature) new = (signature ≡ None) × (new ≡ old)
SignsWhereSigned answers false old (Err error) new = ⊥
SignsWhereSigned answers true None (Ok signature) new = ⊥
SignsWhereSigned answers true None (Err error) new = (error ≡ FailedToSign SignerNotWired) × (new ≡ None)
SignsWhereSigned {G} answers true (Some old) (Ok signature) new =
    (after : G) × (answer : String Global) × answers old (Ok answer) after × (signature ≡ Some answer) × (new ≡ Some after)
SignsWhereSigned {G} answers true (Some old) (Err error) new =
    (after : G) × (why : SigningError) × answers old (Err why) after × (error ≡ signing_error why) × (new ≡ Some after)

-- whether trailers have a signature: in a signed body those of a list that isn't empty
abbrev pub has_signature : Bool → List (List ℕ × List ℕ) → Bool
has_signature is_signed [] = false
has_signature is_signed (trailer ∷ trailers) = is_signed

-- the text of a part with what the signer answers for it: a signature of a chunk, and two of the end, of the empty chunk and of the
-- trailers
abbrev pub MakesPart : {G : Type 0} → SignChunk.Ghosts G → Bool → Part → Option G → List ℕ → Option G → Type 0
MakesPart signer is_signed (chunk piece) old text new =
    (signature : Option (String Global)) × SignsWhereSigned (ChunkAnswers signer piece) is_signed old (Ok signature) new
    × (text ≡ chunk_text (option_map string_bytes signature) piece)
MakesPart {G} signer is_signed (tail trailers) old text new =
    (signature : Option (String Global)) × (between : Option G) × (last : Option (String Global))
    × SignsWhereSigned (ChunkAnswers signer []) is_signed old (Ok signature) between
    × SignsWhereSigned (TrailerAnswers signer trailers) (has_signature is_signed trailers) between (Ok last) new
    × (text ≡ tail_text (option_map string_bytes signature) trailers (option_map string_bytes last))

-- the signer refuses a part, or a signed body has none
abbrev pub FailsPart : {G : Type 0} → SignChunk.Ghosts G → Bool → Part → Option G → AwsChunkedBodyError → Option G → Type 0
FailsPart signer is_signed (chunk piece) old error new = SignsWhereSigned (ChunkAnswers signer piece) is_signed old (Err error) new
FailsPart {G} signer is_signed (tail trailers) old error new =
    SignsWhereSigned (ChunkAnswers signer []) is_signed old (Err error) new
    ⊎ ((signature : Option (String Global)) × (between : Option G) × SignsWhereSigned (ChunkAnswers signer []) is_signed old (Ok signature) between
    × SignsWhereSigned (TrailerAnswers signer trailers) (has_signature is_signed trailers) between (Err error) new)

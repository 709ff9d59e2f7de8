-- A body in memory, signed or not: it gives its text, and has no fault.
use Rattle.std.specs.Prelude.{◌≡◌, ℕ, ◌≤◌, ◌<◌, List, [], ◌++◌, length, Option, None, Some}
use Rattle.std.specs.List.{AllByRecursion}
use Rattle.smithy_core.specs.declared.outside.frame_part.FramePart.{FramePart}
use Rattle.smithy_core.specs.declared.outside.frame_source.FrameSource as FrameSource
use Rattle.sigv4.specs.declared.chunk_signer.SignChunk as SignChunk
use Rattle.aws_chunked.specs.Body.{Trailer, actual_length, options_in, parts_due, body_source, total_of}
use Rattle.aws_chunked.specs.Due.{due}
use Rattle.aws_chunked.specs.Options.{counted, declared_length}
use Rattle.aws_chunked.specs.Text.{Part, chunk, tail}
use Rattle.aws_chunked.specs.declared.body.AwsChunkedBody.{AwsChunkedBody}

-- the text, where it is told
abbrev pub text_or_none : Option (List ℕ) → List ℕ
text_or_none None = []
text_or_none (Some text) = text

-- a chunk of data, or the end with these trailers
abbrev pub EndsWith : List Trailer → Part → Type 0
EndsWith trailers (chunk bytes) = Unit {0}
EndsWith trailers (tail last) = last ≡ trailers

-- a body of a few frames, signed or not, whose data and trailers have the declared lengths: it has no fault
pub record IsSoundBody {F G : Type 0} (source : FrameSource.Ghosts F) (signer : SignChunk.Ghosts G) (body : AwsChunkedBody F G) : Type 0 where
  pub text : List ℕ
  pub text_is : due source signer body ≡ Some text
  pub trailers : List Trailer
  pub declared : counted (actual_length (options_in body).is_signed trailers) ≡ counted (declared_length (options_in body).trailer_lengths)
  pub short : (options_in body).stream_length ≤ 4294967295
  pub total : total_of source body ≡ Some (options_in body).stream_length
  pub parts : List Part
  pub parts_are : parts_due source body ≡ Some parts
  pub with_trailers : AllByRecursion (EndsWith trailers) parts
  pub frames : List FramePart
  pub frames_are : source.left (body_source body) ≡ Some frames
  pub few : length frames ≤ 2

-- the text of a body that is still to be answered
abbrev pub text_left : {F G : Type 0} → FrameSource.Ghosts F → SignChunk.Ghosts G → AwsChunkedBody F G → List ℕ
text_left source signer body = text_or_none (due source signer body)

-- the body is sound, and its text is this
abbrev pub IsSoundBodyOf : {F G : Type 0} → FrameSource.Ghosts F → SignChunk.Ghosts G → List ℕ → AwsChunkedBody F G → Type 0
IsSoundBodyOf source signer text body = IsSoundBody source signer body × (text_left source signer body ≡ text)

-- a sound body gave these bytes, some of them: they come first in the text that was left, and the rest of it is left now
abbrev pub GivesNextText : {F G : Type 0} → FrameSource.Ghosts F → SignChunk.Ghosts G → AwsChunkedBody F G → AwsChunkedBody F G → List ℕ → Type 0
GivesNextText source signer old new bytes =
    IsSoundBody source signer new × (text_left source signer old ≡ bytes ++ text_left source signer new) × (0 < length bytes)

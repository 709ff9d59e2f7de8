-- What is left of a body that has taken nothing.
use Rattle.std.proofs.Common.{◌≡◌, ◌+◌, ℕ, List, length, Option, None, Some, refl, ap, ◌∙◌, arith}
use Rattle.std.specs.Prelude.{option_map}
use Rattle.std.specs.declared.alloc.Global.{Global}
use Rattle.seg_buf.specs.Segments.{Segments}
use Rattle.smithy_core.specs.declared.outside.frame_source.FrameSource as FrameSource
use Rattle.smithy_core.specs.declared.outside.frame_part.FramePart.{FramePart}
use Rattle.aws_chunked.specs.Body.{IsNewBody, TextLeft, data_before, data_left, listed, parts_due, parts_left, text_to_come_with, total_of, trailers_due, trailers_from, trailers_left}
use Rattle.aws_chunked.specs.Options.{Options, counted}
use Rattle.aws_chunked.specs.Passing.{filled_before, pieces_due, pieces_to_come, pieces_of, pieces_with}
use Rattle.aws_chunked.specs.declared.phase.Phase.TheVariants as phase
use Rattle.aws_chunked.specs.declared.piece_engine.Sent.TheVariants as sent
use Rattle.aws_chunked.specs.Text.{parts_of}
use Rattle.aws_chunked.specs.declared.body.AwsChunkedBody.{AwsChunkedBody}

-- a body that has taken nothing, with these empty buffers for its data and its text
abbrev pub new_body : {F G : Type 0} → Global → F → Options → Segments → List ℕ → AwsChunkedBody F G
new_body alloc from options held ready = record {
  alloc = alloc;
  options = options;
  source = from;
  came = record { phase = phase.Data; taken = 0; trailers = None };
  chunks = record { signer = None; held = held; ready = ready };
  pieces = record { sent = sent.Nothing };
}

module _ {F G : Type 0} (source : FrameSource.Ghosts F) where
  parts_new : (body : AwsChunkedBody F G) (from : F) (options : Options) → IsNewBody from options body → (frames : List FramePart)
      → (text_to_come_with body frames).parts ≡ parts_of options.chunk_size (data_before frames) (listed (trailers_from None frames))
  parts_new body from options new frames =
      λ i. parts_left (new.starts i) (new.encoded i).chunk_size (new.nothing_held i) (new.no_trailers i) frames

  pub new_parts : (body : AwsChunkedBody F G) (from : F) (options : Options) → IsNewBody from options body
      → parts_due source body ≡ option_map (λ (frames : List FramePart). parts_of options.chunk_size (data_before frames) (listed (trailers_from None frames))) (source.left from)
  new_parts body from options new =
      ap (λ (f : F). option_map (λ (rest : TextLeft). rest.parts) (option_map (text_to_come_with body) (source.left f))) new.reads_from ∙ by (source.left from)
    where
      by : (left : Option (List FramePart)) → option_map (λ (rest : TextLeft). rest.parts) (option_map (text_to_come_with body) left)
          ≡ option_map (λ (frames : List FramePart). parts_of options.chunk_size (data_before frames) (listed (trailers_from None frames))) left
      by None = refl
      by (Some frames) = ap Some (parts_new body from options new frames)

  pub new_trailers : (body : AwsChunkedBody F G) (from : F) (options : Options) → IsNewBody from options body
      → trailers_due source body ≡ option_map (trailers_from None) (source.left from)
  new_trailers body from options new =
      ap (λ (f : F). option_map (λ (rest : TextLeft). rest.trailers) (option_map (text_to_come_with body) (source.left f))) new.reads_from ∙ by (source.left from)
    where
      by : (left : Option (List FramePart)) → option_map (λ (rest : TextLeft). rest.trailers) (option_map (text_to_come_with body) left) ≡ option_map (trailers_from None) left
      by None = refl
      by (Some frames) = ap Some (λ i. trailers_left (new.starts i) (new.no_trailers i) frames)

  pub new_total : (body : AwsChunkedBody F G) (from : F) (options : Options) → IsNewBody from options body
      → total_of source body ≡ option_map (λ (frames : List FramePart). counted (length (data_before frames))) (source.left from)
  new_total body from options new =
      ap (λ (f : F). option_map (λ (rest : TextLeft). rest.total) (option_map (text_to_come_with body) (source.left f))) new.reads_from ∙ by (source.left from)
    where
      same : (frames : List FramePart) → (text_to_come_with body frames).total ≡ counted (length (data_before frames))
      same frames = (λ i. counted (new.nothing_counted i + length (data_left (new.starts i) frames))) ∙ ap counted (omega arith)

      by : (left : Option (List FramePart)) → option_map (λ (rest : TextLeft). rest.total) (option_map (text_to_come_with body) left)
          ≡ option_map (λ (frames : List FramePart). counted (length (data_before frames))) left
      by None = refl
      by (Some frames) = ap Some (same frames)

  pub new_pieces : (body : AwsChunkedBody F G) (from : F) (options : Options) → IsNewBody from options body
      → pieces_due source body ≡ option_map (λ (frames : List FramePart). pieces_of sent.Nothing options.stream_length (filled_before frames) (listed (trailers_from None frames))) (source.left from)
  new_pieces body from options new = ap (λ (f : F). option_map (pieces_with body) (source.left f)) new.reads_from ∙ by (source.left from)
    where
      by : (left : Option (List FramePart)) → option_map (pieces_with body) left
          ≡ option_map (λ (frames : List FramePart). pieces_of sent.Nothing options.stream_length (filled_before frames) (listed (trailers_from None frames))) left
      by None = refl
      by (Some frames) = ap Some (λ i. pieces_to_come (new.nothing_sent i) (new.starts i) (new.encoded i).stream_length (new.no_trailers i) frames)

use Rattle.std.proofs.Common.{◌≡◌, ◌++◌, [], ℕ, List, subst, sym}
use Rattle.std.specs.Prelude.{IfOk}
use Rattle.aws_chunked.specs.Body.{Trailer}
use Rattle.aws_chunked.specs.Text.{tail_text}
use Rattle.awsign_chunk.specs.Sending.{behind, last_mark, mark_of}
use Rattle.awsign_chunk.specs.Sent.{checksum_trailers}
use Rattle.awsign_chunk.proofs.SendingLemmas.{end_alone}
use Rattle.awsign_chunk.proofs.chunks.end_text.Goals as goal

pub returns : goal.returns
returns c = λ before who t checksum bytes size over years holds.
    let is_signed = c.args.plan.is_signed in
    let Is : List ℕ → Type 0 = λ text. IfOk c.signed_end.result (λ made. made.items ≡ text) in
    let IsWith : List Trailer → Type 0 =
    λ ts. IfOk c.signed_end.result (λ made. made.items ≡ tail_text (mark_of is_signed [] who t before) ts (last_mark is_signed who t (behind is_signed [] who t before) ts))
    in
    subst Is (sym (end_alone is_signed who t size before (c.args.plan.trailers ++ checksum_trailers checksum bytes)))
    (subst IsWith (c.in_ok-push_to.ensures checksum bytes holds) (c.signed_end.ensures before who t over years))

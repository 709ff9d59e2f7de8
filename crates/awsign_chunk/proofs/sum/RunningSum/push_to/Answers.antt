use Rattle.std.proofs.Common.{◌≡◌, ◌∙◌, ◌++◌, ◌∷◌, [], ℕ, List, ap, codes, subst, sym}
use Rattle.std.specs.Prelude.{OnOk}
use Rattle.std.specs.Int.{to_be_bytes, w32}
use Rattle.base64.specs.Engines.{standard}
use Rattle.base64.specs.GeneralPurpose.{encode_of}
use Rattle.aws_chunked.specs.Body.{Trailer}
use Rattle.awsign_chunk.specs.Sum.{HoldsSum}
use Rattle.awsign_chunk.specs.declared.sum.RunningSum.{RunningSum}
use Rattle.awsign_chunk.proofs.SumLemmas.{crc_trailer, digest_trailer}
use Rattle.awsign_chunk.proofs.sum.RunningSum.push_to.Goals as goal

pub returns-in-Crc32 : goal.returns-in-Crc32
returns-in-Crc32 c = λ checksum taken holds.
    let Appends : List Trailer → Type 0 = λ more. OnOk c.push_value.result (c.push_value.new.trailers ≡ c.args.trailers.now ++ more) in
    let bytes = c.as_slice.ensures ∙ c.to_be_bytes-value.ensures ∙ ap (to_be_bytes w32) c.value.ensures in
    let held = subst (λ (sum : RunningSum). HoldsSum sum checksum taken) c.in-Crc32.is holds in
    subst Appends
    (ap (λ (value : List ℕ). (codes "x-amz-checksum-crc32", encode_of standard value) ∷ []) bytes ∙ sym (crc_trailer c.in-Crc32.crc checksum taken held))
    c.push_value.ensures

pub returns-in-Sha256 : goal.returns-in-Sha256
returns-in-Sha256 c = λ checksum taken holds.
    let Appends : List Trailer → Type 0 =
    λ more. OnOk c.push_value-in-Sha256.result (c.push_value-in-Sha256.new.trailers ≡ c.args.trailers.now ++ more)
    in
    let held = subst (λ (sum : RunningSum). HoldsSum sum checksum taken) c.in-Sha256.is holds in
    subst Appends
    (ap (λ (value : List ℕ). (codes "x-amz-checksum-sha256", encode_of standard value) ∷ []) c.as_slice-in-Sha256.ensures
    ∙ sym (digest_trailer c.in-Sha256.hasher c.finalize-value.result checksum taken held c.finalize-value.ensures))
    c.push_value-in-Sha256.ensures

use Rattle.std.proofs.Common.{◌≡◌, of_z, rules, to_z, ◌∙◌}
use Rattle.std.specs.Int.{w64}
use Rattle.eventstream.specs.Key.{Signer}
use Rattle.sigv4.proofs.SecondHasherLemmas.{hashes_second}
use Rattle.sigv4.proofs.second_hasher.SecondHasher.new.Goals as goal

pub returns-clause-hashes : goal.returns-clause-hashes
returns-clause-hashes c secret keyed =
    let signer : Signer = record { secret = secret; region = c.args.region.now; name = c.args.name.now } in
    let same : to_z w64 (of_z w64 c.secs.result) ≡ c.args.at.secs = search rules in
    hashes_second signer c.args.at _ c.update.new.self _ _ same (c.update.ensures _ _ keyed) (c.as_slice.ensures.value ∙ c.in_ok-lines.ensures)
    c.in_ok-date_digits.ensures

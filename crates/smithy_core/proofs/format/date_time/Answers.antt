use Rattle.std.proofs.Common.{◌≡◌, arith, append_assoc, refl, ◌++◌, ◌/◌, ◌∙◌}
use Rattle.std.proofs.lemmas.Str.{encode_ascii}
use Rattle.std.specs.Fmt.{styled_decimal}
use Rattle.smithy_core.specs.CivilText.{two_digits}
use Rattle.smithy_core.specs.Format.{date_time_of}
use Rattle.smithy_core.proofs.FormatLemmas.{two_padded, four_padded}
use Rattle.smithy_core.proofs.format.date_time.Goals as goal

pub returns : goal.returns
unfolding date_time_of
returns c =
    let date = c.args.civil in
    let year : styled_decimal c.laid_out.result date.year ≡ two_digits (date.year / 100) ++ two_digits date.year = rw c.laid_out.ensures (four_padded date.year c.requires.fits.year) in
    let month : styled_decimal c.laid_out-2.result date.month ≡ two_digits date.month = rw c.laid_out-2.ensures (two_padded date.month (omega (arith, c.requires.fits.month_high))) in
    let day : styled_decimal c.laid_out-3.result date.day ≡ two_digits date.day = rw c.laid_out-3.ensures (two_padded date.day c.requires.fits.day) in
    let hour : styled_decimal c.laid_out-4.result date.hour ≡ two_digits date.hour = rw c.laid_out-4.ensures (two_padded date.hour c.requires.fits.hour) in
    let minute : styled_decimal c.laid_out-5.result date.minute ≡ two_digits date.minute = rw c.laid_out-5.ensures (two_padded date.minute c.requires.fits.minute) in
    let second : styled_decimal c.laid_out-6.result date.second ≡ two_digits date.second = rw c.laid_out-6.ensures (two_padded date.second c.requires.fits.second) in
    let head = c.in_ok-text.ensures.ok in
    let front = c.in_ok-push_fraction.ensures in
    let all = c.in_ok-push.ensures.bytes in
    let zulu = encode_ascii 90 (omega arith) in
    all ∙ simp (zulu, front, head, year, month, day, hour, minute, second, append_assoc) refl

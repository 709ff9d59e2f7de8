use Rattle.std.proofs.Common.{◌≡◌, append_assoc, refl, ◌++◌, ◌/◌, ◌∙◌}
use Rattle.std.proofs.lemmas.Result.{IfOk-weaker}
use Rattle.std.specs.Fmt.{styled_decimal}
use Rattle.smithy_core.specs.CivilText.{two_digits}
use Rattle.smithy_core.specs.Format.{http_date_of}
use Rattle.smithy_core.proofs.FormatLemmas.{two_padded, four_padded}
use Rattle.smithy_core.proofs.format.http_date.Goals as goal

pub returns : goal.returns
unfolding http_date_of
returns c =
    let date = c.args.civil in
    let day : styled_decimal c.laid_out.result date.day ≡ two_digits date.day = rw c.laid_out.ensures (two_padded date.day c.requires.fits.day) in
    let year : styled_decimal c.laid_out-2.result date.year ≡ two_digits (date.year / 100) ++ two_digits date.year = rw c.laid_out-2.ensures (four_padded date.year c.requires.fits.year) in
    let hour : styled_decimal c.laid_out-3.result date.hour ≡ two_digits date.hour = rw c.laid_out-3.ensures (two_padded date.hour c.requires.fits.hour) in
    let minute : styled_decimal c.laid_out-4.result date.minute ≡ two_digits date.minute = rw c.laid_out-4.ensures (two_padded date.minute c.requires.fits.minute) in
    let second : styled_decimal c.laid_out-5.result date.second ≡ two_digits date.second = rw c.laid_out-5.ensures (two_padded date.second c.requires.fits.second) in
    IfOk-weaker c.format.result _ _ (λ text same. same ∙ simp (day, year, hour, minute, second, c.day_name-day_name.ensures, c.month_name-month_name.ensures, append_assoc) refl) c.format.ensures.ok

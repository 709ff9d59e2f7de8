-- The scope is UTF-8.
use lib.Utf8.{encode}
use Rattle.std.proofs.Common.{ℕ, List, ◌++◌, IsUtf8, codes, refl}
use Rattle.std.proofs.lemmas.Str.{IsUtf8-append}
use Rattle.smithy_core.specs.Moment.{Instant}
use Rattle.smithy_core.specs.Civil.{civil_of, date}
use Rattle.smithy_core.specs.CivilText.{date_of}
use Rattle.smithy_core.proofs.CivilTextLemmas.{date_utf8}
use Rattle.eventstream.specs.Key.{scope}

slash_utf8 : IsUtf8 (codes "/")
unfolding encode
slash_utf8 = (codes "/", (refl, refl))

last_utf8 : IsUtf8 (codes "/aws4_request")
unfolding encode
last_utf8 = (codes "/aws4_request", (refl, refl))

-- the scope of a region and a name that are UTF-8
pub scope_utf8 : (t : Instant) (region name : List ℕ) → IsUtf8 region → IsUtf8 name → IsUtf8 (scope t region name)
unfolding scope date
scope_utf8 t region name is_region is_name =
    let day = date_of (civil_of t) in
    let to_slash = IsUtf8-append day (codes "/") (date_utf8 (civil_of t)) slash_utf8 in
    let to_region = IsUtf8-append (day ++ codes "/") region to_slash is_region in
    let to_second = IsUtf8-append (day ++ codes "/" ++ region) (codes "/") to_region slash_utf8 in
    let to_name = IsUtf8-append (day ++ codes "/" ++ region ++ codes "/") name to_second is_name in
    IsUtf8-append (day ++ codes "/" ++ region ++ codes "/" ++ name) (codes "/aws4_request") to_name last_utf8

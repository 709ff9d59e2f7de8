-- The moment of a signature.
use Rattle.std.specs.Prelude.{Option, Some, None, ℤ}
use Rattle.smithy_core.specs.Moment.{Instant, shifted}
use Rattle.aws_auth.specs.declared.options.HttpSignatureType.{HttpSignatureType}
use Rattle.aws_auth.specs.declared.options.HttpSignatureType.TheVariants.{HttpRequestHeaders, HttpRequestQueryParams}

-- the moment of a signature: shifted by the skew in headers, and as it is in a query, since a presigned URL is a function of its inputs
abbrev pub signing_moment : Instant → HttpSignatureType → Option ℤ → Instant
signing_moment now HttpRequestHeaders (Some millis) = shifted now millis
signing_moment now HttpRequestHeaders None = now
signing_moment now HttpRequestQueryParams skew = now

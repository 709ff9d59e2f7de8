-- Faults of targets.
use Rattle.std.specs.Prelude.{ℕ, List, codes}
use Rattle.http_uri.specs.declared.error.UriError.{UriError}
use Rattle.http_uri.specs.declared.error.UriError.TheVariants.{Invalid, OutOfMemory}
use Rattle.smithy_http.specs.declared.uri_fault.UriFault.{UriFault}
use Rattle.smithy_http.specs.declared.uri_fault.UriFault.TheVariants.{InvalidUri, NoMemory}

-- the fault of an error of `http_uri`
abbrev pub uri_fault_of : UriError → UriFault
uri_fault_of (Invalid kind) = InvalidUri
uri_fault_of OutOfMemory = NoMemory

-- what the fault of a target that isn't built prints
abbrev pub uri_fault_text : UriFault → List ℕ
uri_fault_text InvalidUri = codes "invalid target"
uri_fault_text NoMemory = codes "no memory"

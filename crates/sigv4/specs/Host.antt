-- The value that a request's `host` header has where it isn't given.
use Rattle.std.specs.Prelude.{ℕ, Bool, false, ◌&&◌, ◌||◌, nat_lt, List, codes, bytes_eq, Option, Some, None, option_map, if◌then◌else◌}
use Rattle.http_uri.specs.ByteClasses.{colon, index_after_last, rsplit_once_back}
use Rattle.http_uri.specs.Grammar.{authority_host}
use Rattle.smithy_http.specs.Target.{Target}

-- the authority has this text after its last `:`
abbrev pub has_port : List ℕ → List ℕ → Bool
has_port port authority = nat_lt 0 (index_after_last colon authority) && bytes_eq (rsplit_once_back colon authority) port

-- the scheme and the text of its default port
abbrev pub has_default_port : Option (List ℕ) → List ℕ → Bool
has_default_port None authority = false
has_default_port (Some scheme) authority =
    (bytes_eq scheme (codes "http") && has_port (codes "80") authority)
    || (bytes_eq scheme (codes "https") && has_port (codes "443") authority)

-- the host alone before the scheme's default port, which clients don't send (RFC 9110, section 4.2), and else the whole authority, its user and its port included
abbrev pub host_of : Option (List ℕ) → List ℕ → List ℕ
host_of scheme authority = if has_default_port scheme authority then authority_host authority else authority

-- the host of a target that has an authority
unfoldable pub host_text : Target → Option (List ℕ)
host_text target = option_map (host_of target.scheme) target.authority

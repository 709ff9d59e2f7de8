-- Targets of requests: the parts that `http_uri` reads, and the text that joins them again (RFC 3986, section 5.3).
use Rattle.std.specs.Prelude.{ℕ, List, [], ◌++◌, codes, Option, IsNone, IsSome}
use Rattle.http_uri.specs.ByteClasses.{framed_text}
use Rattle.http_uri.specs.Uri.{SpellsNone, uri_scheme, uri_authority, uri_path, uri_query}
use Rattle.http_uri.specs.declared.uri.Uri.{Uri}

-- the parts of a request's target, without a fragment
pub record Target : Type 0 where
  pub scheme : Option (List ℕ)
  pub authority : Option (List ℕ)
  pub path : List ℕ
  pub query : Option (List ℕ)

-- the parts that were read: no fragment, and `/` for an empty path
abbrev pub target_of : Uri → Target
target_of uri = record { scheme = uri_scheme uri; authority = uri_authority uri; path = uri_path uri; query = uri_query uri }

-- the parts joined
unfoldable pub target_text : Target → List ℕ
target_text t = framed_text [] t.scheme (codes "://") ++ (framed_text [] t.authority [] ++ (t.path ++ framed_text (codes "?") t.query []))

-- an authority without a scheme
abbrev pub IsAuthorityAlone : Target → Type 0
IsAuthorityAlone t = IsNone t.scheme × IsSome t.authority

-- the text is accepted as a target
abbrev pub IsAccepted : List ℕ → Type 0
IsAccepted text = ¬ (SpellsNone text)

-- a text after a scheme and an authority
abbrev pub at_authority : List ℕ → List ℕ → List ℕ → List ℕ
at_authority scheme authority text = scheme ++ (codes "://" ++ (authority ++ text))

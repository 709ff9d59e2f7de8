-- Targets at an endpoint, and what applying it promises.
use Rattle.std.specs.Prelude.{◌≡◌, ◌==◌, ℕ, List, [], ◌∷◌, ◌++◌, codes, if◌then◌else◌, Some, unwrap_or, Result, Ok, Err, IsNone, IsSome, string_bytes}
use Rattle.http_uri.specs.ByteClasses.{slash}
use Rattle.http_uri.specs.Grammar.{IsAuthority}
use Rattle.http_uri.specs.Uri.{Spells, SpellsNone}
use Rattle.http_uri.specs.declared.uri.Uri.{Uri}
use Rattle.smithy_http.specs.Target.{Target, target_text}
use Rattle.smithy_http.specs.declared.endpoint_error.InvalidEndpointError.{InvalidEndpointError}
use Rattle.smithy_http.specs.declared.endpoint_error.InvalidEndpointError.TheVariants.{EndpointMustHaveScheme, FailedToConstructAuthority, FailedToConstructUri, NoMemory}

-- a path without its last `/`, where it ends with one
abbrev pub without_last_slash : List ℕ → List ℕ
without_last_slash [] = []
without_last_slash (byte ∷ []) = if byte == slash then [] else byte ∷ []
without_last_slash (byte ∷ next ∷ path) = byte ∷ without_last_slash (next ∷ path)

-- a path without its first `/`, where it begins with one
abbrev pub without_first_slash : List ℕ → List ℕ
without_first_slash [] = []
without_first_slash (byte ∷ path) = if byte == slash then path else byte ∷ path

-- the endpoint's authority after a prefix
abbrev pub prefixed_authority : List ℕ → Target → List ℕ
prefixed_authority prefix endpoint = prefix ++ unwrap_or endpoint.authority []

-- the endpoint's path without its last `/`, then `/`, and then the target's path without its first `/`
abbrev pub joined_path : List ℕ → List ℕ → List ℕ
joined_path endpoint path = without_last_slash endpoint ++ (codes "/" ++ without_first_slash path)

-- the target at the endpoint, whose query doesn't count
abbrev pub at_endpoint : List ℕ → Target → Target → Target
at_endpoint prefix endpoint target = record {
  scheme = endpoint.scheme;
  authority = Some (prefixed_authority prefix endpoint);
  path = joined_path endpoint.path target.path;
  query = target.query;
}

-- the target at the endpoint, or the first test that fails: its authority is one, the endpoint has a scheme, its text is accepted
abbrev pub MovesTo : List ℕ → Target → Target → Result Uri InvalidEndpointError → Type 0
MovesTo prefix endpoint target (Ok uri) =
    IsAuthority (prefixed_authority prefix endpoint) × IsSome endpoint.scheme × Spells (target_text (at_endpoint prefix endpoint target)) uri
MovesTo prefix endpoint target (Err (FailedToConstructAuthority authority)) =
    ¬ (IsAuthority (prefixed_authority prefix endpoint)) × (string_bytes authority ≡ prefixed_authority prefix endpoint)
MovesTo prefix endpoint target (Err EndpointMustHaveScheme) = IsAuthority (prefixed_authority prefix endpoint) × IsNone endpoint.scheme
MovesTo prefix endpoint target (Err FailedToConstructUri) =
    IsAuthority (prefixed_authority prefix endpoint) × IsSome endpoint.scheme × SpellsNone (target_text (at_endpoint prefix endpoint target))
MovesTo prefix endpoint target (Err NoMemory) = Unit {0}

-- the target at the endpoint comes in place of the URI, or the first test that fails is told
abbrev pub Applies : List ℕ → Target → Target → Uri → Result (Unit {0}) InvalidEndpointError → Type 0
Applies prefix endpoint target uri (Ok _) = MovesTo prefix endpoint target (Ok uri)
Applies prefix endpoint target uri (Err error) = MovesTo prefix endpoint target (Err error)

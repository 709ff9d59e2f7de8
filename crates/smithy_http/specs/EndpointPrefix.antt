-- What a prefix of an endpoint's authority promises.
use Rattle.std.specs.Prelude.{◌≡◌, ℕ, List, Result, Ok, Err, string_bytes}
use Rattle.http_uri.specs.Grammar.{IsAuthority}
use Rattle.smithy_http.specs.declared.endpoint_error.InvalidEndpointError.{InvalidEndpointError}
use Rattle.smithy_http.specs.declared.endpoint_error.InvalidEndpointError.TheVariants.{EndpointMustHaveScheme, FailedToConstructAuthority, FailedToConstructUri, NoMemory}

-- the text is an authority and is there, or it is none and is told
abbrev pub ChecksAuthority : {A : Type 0} → (A → List ℕ) → List ℕ → Result A InvalidEndpointError → Type 0
ChecksAuthority text_of text (Ok authority) = IsAuthority text × (text_of authority ≡ text)
ChecksAuthority text_of text (Err (FailedToConstructAuthority authority)) = ¬ (IsAuthority text) × (string_bytes authority ≡ text)
ChecksAuthority text_of text (Err EndpointMustHaveScheme) = ⊥
ChecksAuthority text_of text (Err FailedToConstructUri) = ⊥
ChecksAuthority text_of text (Err NoMemory) = Unit {0}

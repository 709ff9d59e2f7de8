-- What building a target promises.
use Rattle.std.specs.Prelude.{◌≡◌, ◌⊎◌, ℕ, List, [], ◌∷◌, ◌++◌, codes, Option, Some, None, Result, Ok, Err, String, string_bytes, unwrap_or, fold}
use Rattle.std.specs.declared.alloc.Global.{Global}
use Rattle.http_uri.specs.Uri.{Spells, SpellsNone, uri_query}
use Rattle.http_uri.specs.declared.uri.Uri.{Uri}
use Rattle.smithy_http.specs.Escape.{base_set, escaped}
use Rattle.smithy_http.specs.Query.{pair}
use Rattle.smithy_http.specs.Target.{Target, target_of, target_text, IsAuthorityAlone}
use Rattle.smithy_http.specs.declared.uri_fault.UriFault.{UriFault}
use Rattle.smithy_http.specs.declared.uri_fault.UriFault.TheVariants.{InvalidUri, NoMemory}

-- what stands before one more pair: the query and `&`, where it isn't empty
abbrev pub before_pair : Option (List ℕ) → List ℕ
before_pair None = []
before_pair (Some []) = []
before_pair (Some (byte ∷ query)) = (byte ∷ query) ++ codes "&"

-- the target with one more pair in its query
abbrev pub with_pair : Target → List ℕ → List ℕ → Target
with_pair t key value = record t { query = Some (before_pair t.query ++ pair key value) }

-- the target with more pairs, one after another
abbrev pub with_pairs : Target → List (List ℕ × List ℕ) → Target
with_pairs t pairs = fold (λ target p. with_pair target p.0 p.1) t pairs

-- a pair with its key and its value escaped
abbrev pub escaped_pair : List ℕ × List ℕ → List ℕ × List ℕ
escaped_pair p = (escaped base_set p.0, escaped base_set p.1)

-- the target without a query
abbrev pub without_query : Target → Target
without_query t = record t { query = None }

-- the text spells this target, which doesn't have an authority without a scheme
abbrev pub SpellsTarget : List ℕ → Uri → Type 0
SpellsTarget text uri = Spells text uri × ¬ (IsAuthorityAlone (target_of uri))

-- the text spells none, or one that has an authority without a scheme
abbrev pub SpellsNoTarget : List ℕ → Type 0
SpellsNoTarget text = SpellsNone text ⊎ ((uri : Uri) × Spells text uri × IsAuthorityAlone (target_of uri))

-- the target is refused: it has an authority without a scheme, or its text isn't accepted
abbrev pub IsRefused : Target → Type 0
IsRefused t = IsAuthorityAlone t ⊎ SpellsNone (target_text t)

-- a URI is read, exactly where the text spells a target
abbrev pub ReadsTarget : List ℕ → Result Uri UriFault → Type 0
ReadsTarget text (Ok uri) = SpellsTarget text uri
ReadsTarget text (Err InvalidUri) = SpellsNoTarget text
ReadsTarget text (Err NoMemory) = Unit {0}

-- a target is read, exactly where the text spells one
abbrev pub ReadsTargetParts : List ℕ → Result Target UriFault → Type 0
ReadsTargetParts text (Ok t) = (uri : Uri) × SpellsTarget text uri × (t ≡ target_of uri)
ReadsTargetParts text (Err InvalidUri) = SpellsNoTarget text
ReadsTargetParts text (Err NoMemory) = Unit {0}

-- a URI is read, exactly where the text spells one
abbrev pub ParsesUri : List ℕ → Result Uri UriFault → Type 0
ParsesUri text (Ok uri) = Spells text uri
ParsesUri text (Err InvalidUri) = SpellsNone text
ParsesUri text (Err NoMemory) = Unit {0}

-- the target is built, exactly where it isn't refused
abbrev pub BuildsTarget : Target → Result Uri UriFault → Type 0
BuildsTarget t (Ok uri) = ¬ (IsAuthorityAlone t) × Spells (target_text t) uri
BuildsTarget t (Err InvalidUri) = IsRefused t
BuildsTarget t (Err NoMemory) = Unit {0}

-- the query of the target that is built, or nothing where that has none
abbrev pub BuildsQuery : Target → Result (String Global) UriFault → Type 0
BuildsQuery t (Ok query) = (uri : Uri) × BuildsTarget t (Ok uri) × (string_bytes query ≡ unwrap_or (uri_query uri) [])
BuildsQuery t (Err fault) = BuildsTarget t (Err fault)

-- the text that is read when the target is built
abbrev pub BuildsText : Target → Result (String Global) UriFault → Type 0
BuildsText t (Ok text) = (uri : Uri) × BuildsTarget t (Ok uri) × (string_bytes text ≡ target_text t)
BuildsText t (Err fault) = BuildsTarget t (Err fault)

-- the parts of the target are joined, unless it has an authority without a scheme
abbrev pub JoinsText : Target → Result (String Global) UriFault → Type 0
JoinsText t (Ok text) = ¬ (IsAuthorityAlone t) × (string_bytes text ≡ target_text t)
JoinsText t (Err InvalidUri) = IsAuthorityAlone t
JoinsText t (Err NoMemory) = Unit {0}

-- The names of the signed headers, and the tests of them.
use Rattle.std.specs.Prelude.{◌≡◌, ◌⊎◌, ℕ, ◌<◌, Bool, true, false, ◌&&◌, ◌||◌, ◌==◌, not, List, [], ◌∷◌, bytes_eq, codes, length, is_some, Result, Ok, Err, map}
use Rattle.std.specs.Borrow.{Bor}
use Rattle.std.specs.Cmp.Lexicographic.{slice_cmp}
use Rattle.std.specs.Ordering.{nat_cmp}
use Rattle.std.specs.declared.cmp.Ordering.{Ordering}
use Rattle.std.specs.declared.cmp.Ordering.TheVariants.{Less, Equal, Greater}
use Rattle.std.specs.List.{list_all, list_any, starts_with}
use Rattle.smithy_core.specs.TextPairs.{first_value, lower}
use Rattle.sigv4.specs.Canonical.{excluded_token}
use Rattle.sigv4.specs.Query.{Pair}
use Rattle.sigv4.specs.declared.settings.SessionTokenMode.{SessionTokenMode}
use Rattle.sigv4.specs.declared.settings.SignatureLocation.{SignatureLocation}
use Rattle.sigv4.specs.declared.settings.SignatureLocation.TheVariants.{Headers, QueryParams}
use Rattle.request_door.specs.DoorOrder.{IsFirstMet, NoneMet}
use Rattle.request_door.specs.declared.fault.DoorFault.{DoorFault}
use Rattle.request_door.specs.declared.fault.DoorFault.TheVariants.{TooManyNames, BadNames, AbsentHeader, UnsignedHost, UnsignedHeader, NoMemory}
use Rattle.request_door.specs.declared.limits.Limits.{Limits}

-- an order of two texts says that the first comes before the second
abbrev pub is_before : Ordering → Bool
is_before Less = true
is_before Equal = false
is_before Greater = false

-- a text comes before another, byte by byte
abbrev pub is_text_before : List ℕ → List ℕ → Bool
is_text_before first second = is_before (slice_cmp nat_cmp first second)

-- the names are in lower case, and each comes before the next; so none is empty, and none is there twice
abbrev pub are_ordered_after : List ℕ → List (List ℕ) → Bool
are_ordered_after last [] = true
are_ordered_after last (name ∷ names) = is_text_before last name && (bytes_eq name (lower name) && are_ordered_after name names)

-- a header of this name is there; the host goes by the target where none is
abbrev pub is_there : List Pair → List ℕ → Bool
is_there headers name = bytes_eq name (codes "host") || is_some (first_value headers (lower name))

-- the names of AWS's headers that needn't be signed: the token's where it is added after signing, and in query form two that AWS's own clients leave out
abbrev pub unsigned_by_right : SignatureLocation → SessionTokenMode → List (List ℕ)
unsigned_by_right Headers mode = excluded_token mode (codes "x-amz-security-token")
unsigned_by_right QueryParams mode = codes "x-amz-user-agent" ∷ codes "x-amz-checksum-mode" ∷ excluded_token mode (codes "x-amz-security-token")

-- a header of this name has to be signed
abbrev pub is_owed : SignatureLocation → SessionTokenMode → List ℕ → Bool
is_owed place mode name = starts_with (λ a b. a == b) name (codes "x-amz-") && not (list_any (bytes_eq name) (unsigned_by_right place mode))

-- a header is signed, where it has to be
abbrev pub is_signed_as_owed : SignatureLocation → SessionTokenMode → List (List ℕ) → Pair → Bool
is_signed_as_owed place mode names header = not (is_owed place mode header.0) || list_any (bytes_eq header.0) names

-- the tests of the names, in their order
abbrev pub name_tests : List DoorFault
name_tests = TooManyNames ∷ BadNames ∷ AbsentHeader ∷ UnsignedHost ∷ UnsignedHeader ∷ []

-- a test of the names: they are more than the limit; they aren't in lower case and in order; a header isn't there; the host isn't signed; one of AWS's
-- headers isn't signed
abbrev pub MeetsName : SignatureLocation → SessionTokenMode → Limits → List Pair → List (List ℕ) → DoorFault → Type 0
MeetsName place mode limits headers names TooManyNames = limits.names < length names
MeetsName place mode limits headers names BadNames = are_ordered_after [] names ≡ false
MeetsName place mode limits headers names AbsentHeader = list_all (is_there headers) names ≡ false
MeetsName place mode limits headers names UnsignedHost = list_any (bytes_eq (codes "host")) names ≡ false
MeetsName place mode limits headers names UnsignedHeader = list_all (is_signed_as_owed place mode names) headers ≡ false
MeetsName place mode limits headers names _ = ⊥

-- the texts of borrowed names
abbrev pub name_texts : List (Bor (List ℕ)) → List (List ℕ)
name_texts names = map (λ name. name.now) names

-- no test of the names is met, or else the first that is, unless memory ran out
abbrev pub PassesNames : SignatureLocation → SessionTokenMode → Limits → List Pair → List (List ℕ) → Result (Unit {0}) DoorFault → Type 0
PassesNames place mode limits headers names (Ok _) = NoneMet (MeetsName place mode limits headers names) name_tests
PassesNames place mode limits headers names (Err fault) = IsFirstMet (MeetsName place mode limits headers names) name_tests fault ⊎ (fault ≡ NoMemory)

-- What setting a header promises, where headers are pairs of a name in lower case and a value.
use Rattle.std.specs.Prelude.{◌≡◌, ℕ, List, [], ◌∷◌, ◌++◌, codes, Result, Ok, Err, IsNone, MatchOption}
use Rattle.smithy_core.specs.TextPairs.{first_value, lower}
use Rattle.smithy_core.specs.HeaderGrammar.{IsHeaderName, IsHeaderValue}
use Rattle.smithy_http.specs.declared.set_header.HeaderFault.{HeaderFault}
use Rattle.smithy_http.specs.declared.set_header.HeaderFault.TheVariants.{InvalidHeaderName, InvalidHeaderValue, NoMemory}

-- where a header has the name nothing changes, else the header is appended; or the first test that fails: the name, and where it is absent the value
abbrev pub SetsIfAbsent : List ℕ → List ℕ → List (List ℕ × List ℕ) → List (List ℕ × List ℕ) → Result (Unit {0}) HeaderFault → Type 0
SetsIfAbsent name value old new (Ok _) =
    IsHeaderName name × MatchOption (first_value old (lower name)) (IsHeaderValue value × (new ≡ old ++ (lower name, value) ∷ [])) (λ _. new ≡ old)
SetsIfAbsent name value old new (Err InvalidHeaderName) = ¬ (IsHeaderName name) × (new ≡ old)
SetsIfAbsent name value old new (Err InvalidHeaderValue) =
    IsHeaderName name × IsNone (first_value old (lower name)) × ¬ (IsHeaderValue value) × (new ≡ old)
SetsIfAbsent name value old new (Err NoMemory) = new ≡ old

-- what the fault of a header that isn't set prints
abbrev pub header_fault_text : HeaderFault → List ℕ
header_fault_text InvalidHeaderName = codes "invalid header name"
header_fault_text InvalidHeaderValue = codes "invalid header value"
header_fault_text NoMemory = codes "no memory"

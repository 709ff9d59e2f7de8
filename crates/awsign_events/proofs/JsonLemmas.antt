-- A message in JSON, part by part.
use Rattle.std.proofs.Common.{◌≡◌, ℕ, ◌≤◌, List, [], ◌∷◌, ◌++◌, drop, length, codes, refl, sym, ap, ◌∙◌, append-nil, append_assoc}
use Rattle.std.specs.List.{flat_map}
use Rattle.std.proofs.lemmas.List.{drop_all}
use Rattle.smithy_core.specs.Header.{Header}
use Rattle.smithy_core.specs.Message.{Parts}
use Rattle.awsign_events.specs.EventText.{json_message, json_payload, json_triple, json_triples}

-- headers, the first behind a lead and each other one behind a comma
abbrev pub triples_behind : List ℕ → List Header → List ℕ
triples_behind lead [] = []
triples_behind lead (h ∷ hs) = (lead ++ json_triple h) ++ triples_behind (codes ",") hs

behind_commas : (headers : List Header) → triples_behind (codes ",") headers ≡ flat_map (λ (h : Header). codes "," ++ json_triple h) headers
behind_commas [] = refl
behind_commas (h ∷ hs) = ap (λ (rest : List ℕ). (codes "," ++ json_triple h) ++ rest) (behind_commas hs)

-- behind no lead they have commas between them
joined_behind : (headers : List Header) → triples_behind [] headers ≡ json_triples headers
joined_behind [] = refl
joined_behind (h ∷ hs) = ap (λ (rest : List ℕ). json_triple h ++ rest) (behind_commas hs)

-- where no header is to come, all are written with commas between them
pub all_joined : (text start lead : List ℕ) (index : ℕ) (headers : List Header) → length headers ≤ index
    → text ++ triples_behind lead (drop index headers) ≡ start ++ triples_behind [] headers → text ≡ start ++ json_triples headers
all_joined text start lead index headers past is =
    sym (append-nil text) ∙ ap (λ (left : List Header). text ++ triples_behind lead left) (sym (drop_all index headers past)) ∙ is
    ∙ ap (λ (joined : List ℕ). start ++ joined) (joined_behind headers)

-- the front, the headers and the payload are the message
pub json_parts : (text begun headed all : List ℕ) (message : Parts) (headers : List Header) (payload : List ℕ) → begun ≡ text ++ codes "{\"headers\":[" → headers ≡ message.headers
    → headed ≡ begun ++ json_triples headers → payload ≡ message.payload → all ≡ headed ++ json_payload payload → all ≡ text ++ json_message message
unfolding json_message
json_parts text begun headed all message headers payload begins same heads pays ends =
    let triples = json_triples message.headers in
    let rest = json_payload message.payload in
    ends ∙ ap (λ (p : List ℕ). headed ++ json_payload p) pays
    ∙ ap (λ (h : List ℕ). h ++ rest) (heads ∙ ap (λ (hs : List Header). begun ++ json_triples hs) same ∙ ap (λ (b : List ℕ). b ++ triples) begins)
    ∙ append_assoc (text ++ codes "{\"headers\":[") triples rest ∙ append_assoc text (codes "{\"headers\":[") (triples ++ rest)

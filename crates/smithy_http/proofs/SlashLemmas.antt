-- A path without its first or its last `/`.
use Rattle.std.proofs.Common.{◌≡◌, ◌≢◌, ℕ, ◌==◌, Bool, true, false, cond, List, [], ◌∷◌, ◌++◌, Option, Some, None, MatchOption, unwrap_or, Bor, refl, sym, ap, ◌∙◌}
use Rattle.std.proofs.lemmas.Bool.{eqb-true}
use Rattle.smithy_http.specs.Endpoint.{without_first_slash, without_last_slash}

first_kept : (byte : ℕ) (path : List ℕ) (b : Bool) → (byte == 47) ≡ b → ((rest : List ℕ) → byte ∷ path ≢ 47 ∷ rest) → cond b path (byte ∷ path) ≡ byte ∷ path
first_kept byte path true e none = absurd (none path (ap (λ (x : ℕ). x ∷ path) (eqb-true byte 47 e)))
first_kept byte path false e none = refl

no_first : (path : List ℕ) → ((rest : List ℕ) → path ≢ 47 ∷ rest) → without_first_slash path ≡ path
no_first [] none = refl
no_first (byte ∷ path) none = first_kept byte path (byte == 47) refl none

-- what stripping the character at the front gives, or else the path
pub stripped_first : (path : Bor (List ℕ)) (found : Option (Bor (List ℕ)))
    → MatchOption found ((rest : List ℕ) → path.now ≢ 47 ∷ rest) (λ x. path.now ≡ 47 ∷ x.now)
    → (unwrap_or found path).now ≡ without_first_slash path.now
stripped_first path None none = sym (no_first path.now none)
stripped_first path (Some rest) is = sym (ap without_first_slash is)

last_gone : (front : List ℕ) → without_last_slash (front ++ 47 ∷ []) ≡ front
last_gone [] = refl
last_gone (byte ∷ []) = refl
last_gone (byte ∷ next ∷ front) = ap (λ (path : List ℕ). byte ∷ path) (last_gone (next ∷ front))

last_kept : (byte : ℕ) (b : Bool) → (byte == 47) ≡ b → ((front : List ℕ) → byte ∷ [] ≢ front ++ 47 ∷ []) → cond b [] (byte ∷ []) ≡ byte ∷ []
last_kept byte true e none = absurd (none [] (ap (λ (x : ℕ). x ∷ []) (eqb-true byte 47 e)))
last_kept byte false e none = refl

no_last : (path : List ℕ) → ((front : List ℕ) → path ≢ front ++ 47 ∷ []) → without_last_slash path ≡ path
no_last [] none = refl
no_last (byte ∷ []) none = last_kept byte (byte == 47) refl none
no_last (byte ∷ next ∷ path) none =
    ap (λ (rest : List ℕ). byte ∷ rest) (no_last (next ∷ path) (λ front is. none (byte ∷ front) (ap (λ (rest : List ℕ). byte ∷ rest) is)))

-- what stripping the character at the end gives, or else the path
pub stripped_last : (path : Bor (List ℕ)) (found : Option (Bor (List ℕ)))
    → MatchOption found ((front : List ℕ) → path.now ≢ front ++ 47 ∷ []) (λ x. path.now ≡ x.now ++ 47 ∷ [])
    → (unwrap_or found path).now ≡ without_last_slash path.now
stripped_last path None none = sym (no_last path.now none)
stripped_last path (Some front) is = sym (ap without_last_slash is ∙ last_gone front.now)

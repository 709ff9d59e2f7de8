-- The test of UTF-8.
use Rattle.std.proofs.Common.{◌≡◌, ℕ, List, Bool, true, false, refl}
use Rattle.std.specs.Prelude.{IsUtf8}
use Rattle.std.specs.Str.{is_utf8}
use Rattle.std.proofs.lemmas.Str.{IsUtf8-from_is_utf8, is_utf8-from_IsUtf8}

-- text passes the test
pub is_text : (bytes : List ℕ) → IsUtf8 bytes → is_utf8 bytes ≡ true
is_text bytes is = is_utf8-from_IsUtf8 bytes is

-- other bytes don't
pub no_text : (bytes : List ℕ) → (IsUtf8 bytes → ⊥) → is_utf8 bytes ≡ false
no_text bytes refused = by_test (is_utf8 bytes) (λ is. refused (IsUtf8-from_is_utf8 bytes is))
  where
    by_test : (b : Bool) → (b ≡ true → ⊥) → b ≡ false
    by_test true refused = absurd (refused refl)
    by_test false refused = refl

-- The escapes of a trace are those of percent-encoding with the controls as the set, and each of their bytes is visible.
use Rattle.std.proofs.Common.{◌≡◌, ℕ, ◌<◌, ◌≤◌, inl, inr, true, false, not, ◌||◌, Bool, cond, List, [], ◌∷◌, ◌++◌, IsTrue, refl, sym, ap, ◌∙◌, subst, arith}
use Rattle.std.proofs.lemmas.Bool.{agree_below_at, cases_order}
use Rattle.std.proofs.lemmas.Bool.Decides.{nat_tests}
use Rattle.std.proofs.lemmas.List.Elements.{All-weaker}
use Rattle.std.specs.Char.{is_ascii}
use Rattle.http_header.specs.Token.{AllPass, is_value_byte}
use Rattle.percent_encoding.specs.AsciiSet.{contains, should_percent_encode}
use Rattle.percent_encoding.specs.Percent.{percent_encode, percent_encode_byte}
use Rattle.percent_encoding.proofs.PercentLemmas.{All-percent_encode, IsEscapeByte}
use Rattle.percent_encoding.specs.declared.ascii_set.TheConstants.{CONTROLS}
use Rattle.smithy_core.specs.HeaderGrammar.{IsHeaderValue}
use Rattle.aws_intercept.specs.Recursion.{escaped_trace, is_visible}

-- the set of the code escapes the bytes that aren't visible
agrees : (byte : ℕ) → should_percent_encode CONTROLS byte ≡ not (is_visible byte)
unfolding should_percent_encode
agrees byte = elim (cases_order byte 128) [
  | inl same ↦ beyond (omega arith)
  | inr (inl small) ↦ within small
  | inr (inr large) ↦ beyond (omega arith)
]
  where
    within : byte < 128 → (not (is_ascii byte) || contains CONTROLS byte) ≡ not (is_visible byte)
    within small =
        let ascii : is_ascii byte ≡ true = grind (arith, nat_tests) in
        rw ascii (agree_below_at (contains CONTROLS) (λ b. not (is_visible b)) 128 byte refl small)

    beyond : 128 ≤ byte → (not (is_ascii byte) || contains CONTROLS byte) ≡ not (is_visible byte)
    beyond large =
        let other : is_ascii byte ≡ false = grind (arith, nat_tests) in
        let hidden : is_visible byte ≡ false = grind (arith, nat_tests) in
        rw (other, hidden) refl

flip : (visible : Bool) (xs ys : List ℕ) → cond (not visible) xs ys ≡ cond visible ys xs
flip true xs ys = refl
flip false xs ys = refl

pub by_controls : (text : List ℕ) → percent_encode CONTROLS text ≡ escaped_trace text
unfolding percent_encode escaped_trace
by_controls [] = refl
by_controls (byte ∷ text) =
    rw (agrees byte, flip (is_visible byte) (percent_encode_byte byte) (byte ∷ []))
    (ap (λ (rest : List ℕ). cond (is_visible byte) (byte ∷ []) (percent_encode_byte byte) ++ rest) (by_controls text))

kept_visible : (byte : ℕ) → should_percent_encode CONTROLS byte ≡ false → IsTrue (is_visible byte)
kept_visible byte kept = by_test (is_visible byte) (sym (agrees byte) ∙ kept)
  where
    by_test : (visible : Bool) → not visible ≡ false → IsTrue visible
    by_test true same = refl
    by_test false same = cc

escape_visible : (byte : ℕ) → IsEscapeByte byte → IsTrue (is_visible byte)
escape_visible byte escape = grind (arith, nat_tests)

-- each byte of an escaped text is visible, or a space
pub escaped_visible : (text : List ℕ) → AllPass is_visible (escaped_trace text)
escaped_visible text =
    subst (λ (bytes : List ℕ). AllPass is_visible bytes) (by_controls text)
    (All-percent_encode (λ byte. IsTrue (is_visible byte)) CONTROLS text kept_visible escape_visible)

visible_fits : (byte : ℕ) → IsTrue (is_visible byte) → IsTrue (is_value_byte byte)
visible_fits byte visible = grind (arith, nat_tests)

-- an escaped text is a header's value
pub escaped_fits : (text : List ℕ) → IsHeaderValue (escaped_trace text)
escaped_fits text =
    All-weaker (λ byte. IsTrue (is_visible byte)) (λ byte. IsTrue (is_value_byte byte)) visible_fits (escaped_trace text) (escaped_visible text)

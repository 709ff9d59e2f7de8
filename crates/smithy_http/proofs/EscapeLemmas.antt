-- The sets of the code are those of the definitions.
use Rattle.std.proofs.Common.{◌≡◌, ℕ, ◌<◌, ◌≤◌, inl, inr, true, false, not, ◌||◌, Bool, cond, List, [], ◌∷◌, ◌++◌, refl, sym, ap, arith}
use Rattle.std.proofs.lemmas.Bool.{agree_below, agree_below_at, cases_order}
use Rattle.std.proofs.lemmas.Bool.Decides.{nat_tests}
use Rattle.std.specs.Char.{is_ascii}
use Rattle.percent_encoding.specs.declared.ascii_set.AsciiSet.{AsciiSet}
use Rattle.percent_encoding.specs.AsciiSet.{contains, should_percent_encode}
use Rattle.percent_encoding.specs.Percent.{percent_encode, percent_encode_byte}
use Rattle.smithy_http.specs.Escape.{base_set, greedy_set, escaped}
use Rattle.smithy_http.specs.declared.escape.TheConstants.{BASE_SET, GREEDY_SET}

-- the set of the code escapes the bytes that the test passes
abbrev pub Agrees : AsciiSet → (ℕ → Bool) → Type 0
Agrees set test = (byte : ℕ) → should_percent_encode set byte ≡ test byte

-- as far as ASCII goes by computing, and every byte past it is escaped
pub agrees : (set : AsciiSet) (test : ℕ → Bool) → agree_below (contains set) test 128 ≡ true → ((byte : ℕ) → 128 ≤ byte → test byte ≡ true) → Agrees set test
unfolding should_percent_encode
agrees set test below past byte = elim (cases_order byte 128) [
  | inl same ↦ beyond (omega arith)
  | inr (inl small) ↦ within small
  | inr (inr large) ↦ beyond (omega arith)
]
  where
    within : byte < 128 → (not (is_ascii byte) || contains set byte) ≡ test byte
    within small =
        let ascii : is_ascii byte ≡ true = grind (arith, nat_tests) in
        rw ascii (agree_below_at (contains set) test 128 byte below small)

    beyond : 128 ≤ byte → (not (is_ascii byte) || contains set byte) ≡ test byte
    beyond large =
        let other : is_ascii byte ≡ false = grind (arith, nat_tests) in
        rw other (sym (past byte large))

no_plain : (byte : ℕ) → 128 ≤ byte → base_set byte ≡ true
no_plain byte past = grind (arith, nat_tests)

no_plain_or_slash : (byte : ℕ) → 128 ≤ byte → greedy_set byte ≡ true
no_plain_or_slash byte past = grind (arith, nat_tests)

-- two sets that agree on each byte escape a text to one text
pub same_text : (set : AsciiSet) (test : ℕ → Bool) → Agrees set test → (text : List ℕ) → percent_encode set text ≡ escaped test text
unfolding percent_encode escaped
same_text set test same [] = refl
same_text set test same (byte ∷ text) = rw (same byte) (ap (λ (rest : List ℕ). cond (test byte) (percent_encode_byte byte) (byte ∷ []) ++ rest) (same_text set test same text))

pub by_base_set : (text : List ℕ) → percent_encode BASE_SET text ≡ escaped base_set text
by_base_set text = same_text BASE_SET base_set (agrees BASE_SET base_set refl no_plain) text

pub by_greedy_set : (text : List ℕ) → percent_encode GREEDY_SET text ≡ escaped greedy_set text
by_greedy_set text = same_text GREEDY_SET greedy_set (agrees GREEDY_SET greedy_set refl no_plain_or_slash) text

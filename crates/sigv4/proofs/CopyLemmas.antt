-- Lists of copies have the same texts.
use Rattle.std.proofs.Common.{◌≡◌, ℕ, List, [], ◌∷◌, map, refl, ap₂}
use Rattle.std.specs.List.{AllZip}
use Rattle.std.specs.Prelude.{String, string_bytes}
use Rattle.std.specs.declared.alloc.Global.{Global}
use Rattle.std.proofs.lemmas.List.Elements.{same_from_all_zip}
use Rattle.smithy_core.specs.TextPairs.{text_pairs}
use Rattle.sigv4.specs.Instructions.{Instruction}

pub texts_copied : (texts copies : List (String Global)) → AllZip (λ text copy. string_bytes copy ≡ string_bytes text) texts copies
    → map string_bytes copies ≡ map string_bytes texts
texts_copied [] [] copied = refl
texts_copied [] (copy ∷ copies) copied = absurd copied
texts_copied (text ∷ texts) [] copied = absurd copied
texts_copied (text ∷ texts) (copy ∷ copies) copied = ap₂ (λ (t : List ℕ) (ts : List (List ℕ)). t ∷ ts) copied.0 (texts_copied texts copies copied.1)

pub pairs_copied : (pairs copies : List (String Global × String Global))
    → AllZip (λ p q. (string_bytes q.0 ≡ string_bytes p.0) × (string_bytes q.1 ≡ string_bytes p.1)) pairs copies → text_pairs copies ≡ text_pairs pairs
pairs_copied [] [] copied = refl
pairs_copied [] (copy ∷ copies) copied = absurd copied
pairs_copied (pair ∷ pairs) [] copied = absurd copied
pairs_copied (pair ∷ pairs) (copy ∷ copies) copied =
    ap₂ (λ (p : List ℕ × List ℕ) (ps : List (List ℕ × List ℕ)). p ∷ ps) (ap₂ (λ (a b : List ℕ). (a, b)) copied.0.0 copied.0.1) (pairs_copied pairs copies copied.1)

pub headers_copied : (headers copies : List Instruction) → AllZip (λ header copy. copy ≡ header) headers copies → copies ≡ headers
headers_copied headers copies copied = same_from_all_zip (λ header copy. copy ≡ header) headers copies copied (λ x y same. same)

-- Pieces that came, and those that are to come.
use Rattle.std.proofs.Common.{◌≡◌, ℕ, suc, ◌+◌, ◌^◌, ◌<◌, ◌≤◌, ◌⊎◌, inl, inr, List, ◌∷◌, ◌++◌, length, map, take, drop, get_or, sym, ap, ◌∙◌, arith, length-append}
use Rattle.std.proofs.Math.Seq.{drop-cons}
use Rattle.std.proofs.lemmas.Grind.{flat_map-append}
use Rattle.std.proofs.lemmas.List.{map-id, take-append-drop}
use Rattle.std.specs.List.{flat_map}
use Rattle.aws_signing.specs.Received.{RefusesBytes}
use Rattle.aws_signing.specs.declared.fault.AwsSigningError.{AwsSigningError}
use Rattle.aws_signing.specs.declared.fault.AwsSigningError.TheVariants.{NoMemory, StreamTooLong}

-- all pieces together are as long as those that came and the next one
pub within : (all came : List (List ℕ)) (piece : List ℕ) → map (λ x. x) came ≡ take (length came) all → length came < length all
    → piece ≡ get_or all (length came) piece → length (flat_map (λ p. p) came) + length piece ≤ length (flat_map (λ p. p) all)
within all came piece before more next =
    let rest = drop (suc (length came)) all in
    let split : all ≡ came ++ (piece ∷ rest) =
    sym (take-append-drop (length came) all) ∙ ap (λ xs. xs ++ drop (length came) all) (sym before ∙ map-id came)
    ∙ ap (λ xs. came ++ xs) (drop-cons all (length came) piece more ∙ ap (λ x. x ∷ rest) (sym next)) in
    let joined = ap (flat_map (λ p. p)) split ∙ flat_map-append (λ p. p) came (piece ∷ rest) in
    omega (arith, ap length joined, length-append (flat_map (λ p. p) came) (piece ++ flat_map (λ p. p) rest), length-append piece (flat_map (λ p. p) rest))

-- a piece that isn't taken makes all pieces too many, or memory ran out
pub refuses : (all came received piece : List ℕ) (error : AwsSigningError) → received ≡ came → length came + length piece ≤ length all
    → ((2 ^ 64 ≤ length received + length piece) × (error ≡ StreamTooLong)) ⊎ (error ≡ NoMemory) → RefusesBytes all error
refuses all came received piece error same long (inl over) = inl (omega (arith, over.0, long, ap length same), over.1)
refuses all came received piece error same long (inr memory) = inr memory

use Rattle.std.proofs.Common.{◌≡◌, ℕ, ◌+◌, ◌<◌, ◌≤◌, List, [], ◌∷◌, ◌++◌, length, drop, replicate, codes, refl, true, false, nat_lt, arith, length-append, append-nil}
use Rattle.std.proofs.lemmas.List.{drop-replicate}
use Rattle.std.proofs.lemmas.Bool.Decides.{nat_tests}
use Rattle.sha2.specs.Sha256.{compress, digest_bytes, first_words, hash_after, rounds, schedule, sha256}
use Rattle.hex.specs.Hex.{encode_lower, encode_with}
use Rattle.mac_core.specs.Mac.{key_block, short_key}

-- a key of at most 64 bytes stands for itself
pub block_of_short : (front back : List ℕ) → length front + length back ≤ 64
    → (front ++ back) ++ drop (length (front ++ back)) (replicate 64 0) ≡ key_block (front ++ back)
unfolding key_block short_key
block_of_short front back short =
    let test : nat_lt 64 (length (front ++ back)) ≡ false = grind (arith, nat_tests, length-append {A = ℕ}) in
    simp (test, drop-replicate)

-- a longer key has its digest in its place
pub block_of_long : (front back digest : List ℕ) → 64 < length front + length back → digest ≡ sha256 (front ++ back)
    → (digest ++ []) ++ drop (length (digest ++ [])) (replicate 64 0) ≡ key_block (front ++ back)
unfolding key_block short_key
block_of_long front back digest long is =
    let test : nat_lt 64 (length (front ++ back)) ≡ true = grind (arith, nat_tests, length-append {A = ℕ}) in
    simp (test, append-nil, is, drop-replicate)

pub ruleset blocks = (block_of_short, block_of_long)

-- the digest of no bytes, by computation
pub none_digested : (bytes : List ℕ) → length bytes ≡ 0 → codes "e3b0c44298fc1c149afbf4c8996fb92427ae41e4649b934ca495991b7852b855" ≡ encode_lower (sha256 bytes)
unfolding sha256 hash_after compress rounds schedule first_words digest_bytes encode_with
none_digested [] none = refl
none_digested (byte ∷ bytes) none = absurd (omega arith)

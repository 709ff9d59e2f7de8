-- The end of a body is read as it is, or without loose line feeds.
use Rattle.std.proofs.Common.{◌≡◌, ℕ, ◌++◌, Bool, true, false, cond, List, [], ◌∷◌, inl, inr, sym, ap, ◌∙◌, subst, append_assoc, append-nil}
use Rattle.std.specs.Prelude.{Result, Ok, Err, String}
use Rattle.std.specs.declared.alloc.Global.{Global}
use Rattle.aws_chunked.specs.Body.{Trailer}
use Rattle.chunk_watch.specs.EndRead.{ReadsEitherEnd, ReadsEnd}
use Rattle.chunk_watch.specs.Trailers.{IsNoEnd, is_loose, plain_after, plain_lines}
use Rattle.chunk_watch.specs.declared.fault.ChunkFault.{ChunkFault}
use Rattle.chunk_watch.specs.declared.fault.ChunkFault.TheVariants.{BadTrailers}

abbrev Reading : Type 0
Reading = Result (List Trailer × String Global) ChunkFault

pub read_first : (bytes : List ℕ) (read : List Trailer × String Global) → ReadsEnd bytes (Ok read) → ReadsEitherEnd bytes (Ok read)
read_first bytes (trailers, signature) reads = inl reads

no_end : (bytes : List ℕ) → ReadsEnd bytes (Err BadTrailers) → IsNoEnd bytes
no_end bytes (inl (bad, lacks)) = lacks
no_end bytes (inr room) = absurd (cc)

pub read_second : (bytes plain : List ℕ) (result : Reading) → ReadsEnd bytes (Err BadTrailers) → plain ≡ plain_lines bytes → ReadsEnd plain result → ReadsEitherEnd bytes result
read_second bytes plain (Ok (trailers, signature)) first same reads =
    inr (no_end bytes first, subst (λ (p : List ℕ). ReadsEnd p (Ok (trailers, signature))) same reads)
read_second bytes plain (Err fault) first same (inl (bad, lacks)) = inl (bad, no_end bytes first, subst IsNoEnd same lacks)
read_second bytes plain (Err fault) first same (inr room) = inr room

-- one byte more, which is left out or isn't
module _ (out others : List ℕ) (before byte : ℕ) (b : Bool) (tells : b ≡ is_loose before byte others) where
  after : (loose : Bool) → b ≡ loose → cond loose (plain_after byte others) (byte ∷ plain_after byte others) ≡ plain_after before (byte ∷ others)
  after loose told = ap (λ (b : Bool). cond b (plain_after byte others) (byte ∷ plain_after byte others)) (sym told ∙ tells)

  pub loose_more : (new : List ℕ) → b ≡ true → new ≡ out → new ++ plain_after byte others ≡ out ++ plain_after before (byte ∷ others)
  loose_more new told same = ap (λ (n : List ℕ). n ++ plain_after byte others) same ∙ ap (λ (r : List ℕ). out ++ r) (after true told)

  pub kept_more : (new : List ℕ) → b ≡ false → new ≡ out ++ byte ∷ [] → new ++ plain_after byte others ≡ out ++ plain_after before (byte ∷ others)
  kept_more new told pushed =
      ap (λ (n : List ℕ). n ++ plain_after byte others) pushed
      ∙ (append_assoc out (byte ∷ []) (plain_after byte others) ∙ ap (λ (r : List ℕ). out ++ r) (after false told))

-- the bytes so far with those of the rest
pub plain_on : (out new rest others all : List ℕ) (before byte : ℕ) → out ++ plain_after before rest ≡ all → rest ≡ byte ∷ others
    → new ++ plain_after byte others ≡ out ++ plain_after before (byte ∷ others) → new ++ plain_after byte others ≡ all
plain_on out new rest others all before byte held first more = more ∙ (ap (λ (r : List ℕ). out ++ plain_after before r) (sym first) ∙ held)

pub plain_done : (out rest all : List ℕ) (before : ℕ) → out ++ plain_after before rest ≡ all → rest ≡ [] → out ≡ all
plain_done out rest all before held none_left = sym (append-nil out) ∙ (ap (λ (r : List ℕ). out ++ plain_after before r) (sym none_left) ∙ held)

pub ruleset bytes_more = (loose_more, kept_more)

pub ruleset lines_plain = (plain_on, plain_done)

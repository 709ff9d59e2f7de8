-- Counts of what is outside, over two calls.
use Rattle.std.proofs.Common.{ℕ, ◌≤◌, inl, inr, arith}
use Rattle.smithy_core.specs.Outside.{RoseOrStands}

pub rose_before : (old between new : ℕ) → old ≤ between → RoseOrStands between new → RoseOrStands old new
rose_before old between new low (inl rose) = inl (omega arith)
rose_before old between new low (inr stands) = inr stands

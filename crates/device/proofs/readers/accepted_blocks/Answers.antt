use Rattle.std.proofs.Common.{◌≡◌, ℕ, ◌⊎◌, inl, inr, sym, arith}
use native.Mathlib.Nat.{div-zero, div-eq_of_lt}
use Rattle.merkle.specs.Blocks.{block_count}
use Rattle.wire.specs.Geometry.{count_of}
use Rattle.machine.specs.Readers.{accepted_blocks}
use Rattle.device.proofs.readers.accepted_blocks.Goals as goal

-- without a length of its blocks or of its image it has none
none : (L T : ℕ) → (L ≡ 0) ⊎ ((L ≡ 0 → ⊥) × (T ≡ 0)) → 0 ≡ block_count L T
unfolding block_count
none L T (inl e) = rw e (sym (div-zero _))
none L T (inr (n, e)) = rw e (sym (div-eq_of_lt (omega arith)))

pub returns-in-Complete : goal.returns-in-Complete
unfolding accepted_blocks count_of
returns-in-Complete c = rw c.in-Complete.is (none _ _ c.if-manifest-eq0-2.either)

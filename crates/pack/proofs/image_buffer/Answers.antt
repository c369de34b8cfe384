use mathlib.Core.Path.{sym}
use Prim.Native.Nat.{ℕ, ◌*◌}
use lib.ListN.{length-replicate}
use Rattle.merkle.specs.Limits.{max_blocks}
use Rattle.pack.proofs.image_buffer.Goals as goal

pub returns : goal.returns
returns c = sym (length-replicate {A = ℕ} (max_blocks * 1024) 0)

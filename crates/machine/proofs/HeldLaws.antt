-- The first of the held hashes, in the flat array.
use mathlib.Core.Path.{◌≡◌, refl, ap}
use mathlib.Core.Bool.{not}
use mathlib.Core.List.{List, []}
use Prim.Native.Nat.{ℕ, zero, suc, ◌<◌}
use native.Mathlib.Omega.{arith}
use lib.ListN.{take, get_or}
use Rattle.octets.specs.Octets.{equal}
use Rattle.merkle.specs.Limits.{hash_length}
use Rattle.merkle.specs.Hash.{plain, climb}
use Rattle.merkle.specs.Frontier.{carried_count, held_count}
use Rattle.merkle.specs.Held.{hashes_in, held_in, next_held, fits}
use Rattle.merkle.proofs.CountLaws.{held-pos}
use Rattle.wire.specs.Geometry.{count_of, block_length}
use Rattle.wire.specs.Message.{block_in, hashes_after}
use Rattle.machine.specs.declared.state.Stage.TheVariants.{Loading}
use Rattle.machine.specs.declared.state.Device.{Device}
use Rattle.machine.specs.Device.{held_by}
use Rattle.machine.specs.Refusals.{mismatch}

first-in : (c : ℕ) (bytes : List ℕ) → 0 < c → get_or (hashes_in c bytes) 0 [] ≡ take hash_length bytes
unfolding hashes_in
first-in zero bytes h = absurd (omega arith)
first-in (suc c) bytes h = refl

-- 14 while loading, with j blocks accepted
module _ (H : List ℕ → List ℕ) (d : Device) (j : ℕ) (stage : d.stage ≡ Loading (suc j)) (below : j < count_of d.manifest) where
  abbrev k : ℕ
  k = block_length d.manifest.block_len d.manifest.image_len (suc j)

  pub mismatch-is : (m : List ℕ) → mismatch H d (suc j) m ≡ not (fits (plain H) (count_of d.manifest) j d.hashes (block_in k m) (hashes_after k m))
  unfolding mismatch held_by held_in next_held fits
  mismatch-is m =
      rw (stage, held_by)
      (ap (λ x. not (equal x (climb (plain H) (block_in k m) (hashes_in (carried_count (count_of d.manifest) (suc j)) (hashes_after k m)))))
      (first-in (held_count (count_of d.manifest) j) _ (held-pos (count_of d.manifest) j below)))

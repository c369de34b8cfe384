-- When a device makes sense: refusal 1 does not apply.
use mathlib.Core.Path.{◌≡◌, refl}
use mathlib.Core.Bool.{false, ◌||◌, true≢false}
use Prim.Native.Nat.{ℕ, suc, ◌<◌}
use native.Mathlib.Omega.{arith}
use borrow.Author.Tests.{ne_eqb, le-ltb}
use Rattle.merkle.specs.Limits.{max_blocks}
use Rattle.merkle.specs.Blocks.{block_count}
use Rattle.wire.specs.Size.{wrong_size}
use Rattle.wire.specs.Geometry.{count_of}
use Rattle.wire.proofs.SizeLaws.{Sized, or-false, outside-not}
use Rattle.machine.specs.declared.state.Stage.{Stage}
use Rattle.machine.specs.declared.state.Stage.TheVariants.{Idle, Loading, Complete}
use Rattle.machine.specs.declared.state.Device.{Device}
use Rattle.machine.specs.Refusals.{wrong_version, senseless, not_complete}

not-wrong : (L T : ℕ) → Sized L T → wrong_size L T ≡ false
unfolding wrong_size
not-wrong L T z = rw (z.allowed, ne_eqb T 0 (λ e. omega (arith, z.some)), le-ltb max_blocks (block_count L T) z.count)

-- a stage that 10 of an update lets pass
pub not-complete : (t : Stage) → not_complete t ≡ false → t ≡ Complete
unfolding not_complete
not-complete Idle e = absurd (true≢false e)
not-complete (Loading i) e = absurd (true≢false e)
not-complete Complete e = refl

-- the manifest of a device that makes sense and is not idle breaks neither 4 nor 5
pub sound : (d : Device) → senseless d ≡ false → (d.stage ≡ Idle → ⊥) → (wrong_version d.manifest ≡ false) × (wrong_size d.manifest.block_len d.manifest.image_len ≡ false)
unfolding senseless
sound d e busy = go d.stage refl
  where
    go : (t : Stage) → d.stage ≡ t → (wrong_version d.manifest ≡ false) × (wrong_size d.manifest.block_len d.manifest.image_len ≡ false)
    go Idle z = absurd (busy z)
    go (Loading i) z = or-false (wrong_version d.manifest) _ (or-false (wrong_version d.manifest || _) _ (rw z at e)).0
    go Complete z = or-false (wrong_version d.manifest) _ (rw z at e)

-- so a complete one has an allowed size
pub complete-size : (d : Device) → senseless d ≡ false → d.stage ≡ Complete → wrong_size d.manifest.block_len d.manifest.image_len ≡ false
complete-size d e q = (sound d e (λ z. let w : ◌≡◌ {A = ℕ} 0 1 = cc in omega arith)).1

module _ (d : Device) where
  pub sense-idle : d.stage ≡ Idle → senseless d ≡ false
  unfolding senseless
  sense-idle e = rw (e, senseless)

  module _ (version : wrong_version d.manifest ≡ false) (size : Sized d.manifest.block_len d.manifest.image_len) where
    whole : wrong_version d.manifest || wrong_size d.manifest.block_len d.manifest.image_len ≡ false
    whole = rw (version, not-wrong d.manifest.block_len d.manifest.image_len size)

    pub sense-loading : (k : ℕ) → d.stage ≡ Loading (suc k) → k < count_of d.manifest → senseless d ≡ false
    unfolding senseless
    sense-loading k e h = rw (e, senseless, whole, outside-not (count_of d.manifest) (suc k) (λ e. omega arith) h)

    pub sense-complete : d.stage ≡ Complete → senseless d ≡ false
    unfolding senseless
    sense-complete e = rw (e, senseless, whole)

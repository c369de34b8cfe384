-- Which kinds bring a block, and which of those are updates.
use mathlib.Core.Path.{◌≡◌, refl, sym}
use mathlib.Core.Logic.{◌⊎◌, inl, inr}
use mathlib.Core.Bool.{true, false, true≢false}
use Rattle.wire.specs.declared.kind.Kind.{Kind}
use Rattle.wire.specs.declared.kind.Kind.TheVariants.{Program, Block, Update, PathUpdate, Unknown}
use Rattle.device.specs.Inner.{updates}

-- the arm of those that bring a block, and the updates among them
pub bringing : (k : Kind) → (k ≡ Block) ⊎ ((k ≡ Update) ⊎ (k ≡ PathUpdate)) → updates k ≡ false → k ≡ Block
unfolding updates
bringing k (inl e) q = e
bringing k (inr (inl e)) q = absurd (true≢false (rw e at q))
bringing k (inr (inr e)) q = absurd (true≢false (rw e at q))

pub updating : (k : Kind) → updates k ≡ true → (k ≡ Update) ⊎ (k ≡ PathUpdate)
unfolding updates
updating Program e = absurd (true≢false (sym e))
updating Block e = absurd (true≢false (sym e))
updating Update e = inl refl
updating PathUpdate e = inr refl
updating Unknown e = absurd (true≢false (sym e))

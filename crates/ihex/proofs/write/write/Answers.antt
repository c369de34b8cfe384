use mathlib.Core.Path.{ap, sym, ◌∙◌}
use Rattle.std.proofs.Common.{rules}
use Prim.Native.Nat.{ℕ}
use lib.ListN.{replicate}
use Rattle.ihex.proofs.LineLaws.{line_cut}
use Rattle.ihex.proofs.PlaceLaws.{writing_start, writing-done, writing-inside, writing-next}
use Rattle.ihex.proofs.write.write.Goals as goal

pub loop-line-init : goal.loop-line-init
loop-line-init c = λ bs j.
    rw (c.into_iter-line-iterator.ensures.into_iter_gives, c.split_inclusive-line-items.ensures.rest)
    (writing_start _ _ bs (c.clear.ensures ∙ ap (λ (n : ℕ). replicate n 255) (sym c.clear.auto.out)) j)

pub place-upper-requires : goal.place-upper-requires
place-upper-requires c =
    let size = c.loop-line.auto.out ∙ c.clear.auto.out in
    let cut = line_cut _ _ _ _ _ _ c.in-Some.ensures.steps (λ f a r g h. search rules) in
    let writes = rw c.clear.auto.out at (c.loop-line.invariant c.requires.1.0 (rw c.clear.auto.out c.requires.1.1)) in
    (rw size c.requires.0, rw size (writing-inside _ _ _ writes cut))

pub loop-line-preserved : goal.loop-line-preserved
loop-line-preserved c = λ bs j.
    let cut = line_cut _ _ _ _ _ _ c.in-Some.ensures.steps (λ f a r g h. search rules) in
    writing-next _ _ bs (c.loop-line.invariant bs j) cut (rw c.loop-line.auto.out at c.place-upper.ensures)

pub returns : goal.returns
returns c = λ bs j. writing-done _ _ bs (rw c.clear.auto.out at (c.loop-line.invariant bs (rw c.clear.auto.out j))) c.in-None.ensures.steps.0

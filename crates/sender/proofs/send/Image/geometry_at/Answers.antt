use Rattle.std.proofs.Common.{ℕ, sym, ap, ◌∙◌, refl}
use Rattle.std.proofs.lemmas.Result.{err_from_is_err_and}
use Rattle.wire.specs.Refusal.{first_that_applies}
use Rattle.wire.specs.Size.{outside}
use Rattle.sender.proofs.BlockLaws.{size, counted}
use Rattle.sender.proofs.SendLaws.{first-of}
use Rattle.sender.proofs.send.Image.geometry_at.Goals as goal

pub returns-in_err-geometry : goal.returns-in_err-geometry
returns-in_err-geometry c = let p = err_from_is_err_and c.from_residual.result c.from_residual.ensures.1 in rw (p.1, p.2) (first-of _ _ c.in_err-geometry.ensures)

pub returns-then-outside : goal.returns-then-outside
unfolding first_that_applies
returns-then-outside c =
    let k = c.in_ok-geometry.ensures in
    let o = ap (λ (n : ℕ). outside n c.args.number) (sym (c.count.ensures ∙ counted k)) ∙ sym c.outside.ensures ∙ c.if-outside.true in
    rw (size k, o) refl

pub returns : goal.returns
returns c = let k = c.in_ok-geometry.ensures in (k, ap (λ (n : ℕ). outside n c.args.number) (sym (c.count.ensures ∙ counted k)) ∙ sym c.outside.ensures ∙ c.if-outside.false)

use Rattle.std.proofs.Common.{◌≡◌, ◌+◌, ◌-◌, sym, ◌∙◌, arith}
use Rattle.wire.specs.Geometry.{count_of}
use Rattle.wire.proofs.SizeLaws.{sized}
use Rattle.wire.proofs.GeometryLaws.{before-is}
use Rattle.device.proofs.place.Place.advance.Goals as goal

pub advance-requires : goal.advance-requires
unfolding count_of
advance-requires c =
    let p = c.args.self.now in
    let e = c.count-n.ensures in
    let b : c.index.result ≡ p.number - 1 = c.index.ensures ∙ sym (before-is p.number) in
    let z : c.index.result + 1 ≡ p.number = omega (arith, b, p.low) in
    (omega (arith, e, b, p.low, p.high), omega (arith, e, (sized _ _ p.sized).count), rw (z, e) c.requires)

pub stage_after-requires : goal.stage_after-requires
unfolding count_of
stage_after-requires c = omega (arith, c.count-n.ensures, (sized _ _ c.args.self.now.sized).count)

use Rattle.std.proofs.Common.{◌≡◌, ◌-◌, refl, sym, ◌∙◌, arith}
use Rattle.sha256.specs.Sha256.{digest}
use Rattle.wire.specs.Geometry.{count_of}
use Rattle.wire.proofs.GeometryLaws.{before-is, block-length-few}
use Rattle.device.proofs.ConditionLaws.{lacks-is, whole-cost}
use Rattle.device.proofs.place.Place.compare_with.Goals as goal

pub root_with-compressions-requires : goal.root_with-compressions-requires
unfolding count_of
root_with-compressions-requires c =
    let p = c.args.self.now in
    let n = rw (c.geometry.ensures.0, c.geometry.ensures.1) at c.blocks-blocks.ensures.2 in
    let b : c.index.result ≡ p.number - 1 = c.index.ensures ∙ sym (before-is p.number) in
    (omega (arith, n, b, p.low, p.high), rw c.requires.1 (block-length-few _ _ p.number p.sized))

pub returns : goal.returns
unfolding count_of
returns c =
    let p = c.args.self.now in
    let b = c.blocks-blocks.ensures in
    let g = c.geometry.ensures in
    let i : c.index.result ≡ p.number - 1 = c.index.ensures ∙ sym (before-is p.number) in
    let found = rw (b.0, b.1, b.2, g.0, g.1, i) at c.root_with-compressions.ensures in (
      lacks-is p.manifest.now c.args.flash.now digest c.args.block.now p.number _ _ _ c.requires.0 p.low p.high refl c.requires.1 found.0 c.equal.ensures,
      whole-cost p.manifest.now c.args.flash.now digest c.args.block.now p.number _ _ c.requires.0 p.low p.high refl c.requires.1 found.1,
    )

use Rattle.std.proofs.Common.{◌≡◌, ◌-◌, refl, sym, ◌∙◌, [], arith}
use Rattle.sha256.specs.Sha256.{digest}
use Rattle.wire.specs.Geometry.{count_of}
use Rattle.wire.proofs.SizeLaws.{sized}
use Rattle.wire.proofs.GeometryLaws.{before-is}
use Rattle.wire.proofs.MessageLaws.{due}
use Rattle.machine.specs.declared.state.Stage.TheVariants.{Loading}
use Rattle.device.specs.Fields.{device_of}
use Rattle.device.proofs.ConditionLaws.{measured, rest-long, mismatch-found, compared-cost}
use Rattle.device.proofs.place.Place.compare.Goals as goal

pub block_in-requires : goal.block_in-requires
block_in-requires c = rw c.own_len-len.ensures (due _ _ _ _ (measured _ _ _ c.requires)).long

pub hashes_after-requires : goal.hashes_after-requires
hashes_after-requires c = rw c.own_len-len.ensures (due _ _ _ _ (measured _ _ _ c.requires)).long

pub fits-requires : goal.fits-requires
unfolding count_of
fits-requires c =
    let p = c.args.self.now in
    let e = c.count.ensures in
    let b : c.index.result ≡ p.number - 1 = c.index.ensures ∙ sym (before-is p.number) in (
      omega (arith, e, b, p.low, p.high),
      omega (arith, e, (sized _ _ p.sized).count),
      rw b (rest-long p.manifest.now p.number _ _ c.args.message.now _ p.low e c.own_len-len.ensures c.hashes_after.ensures (due _ _ _ _ (measured _ _ _ c.requires))),
    )

pub returns : goal.returns
returns c =
    let p = c.args.self.now in
    let n = c.count.ensures in
    let k = c.own_len-len.ensures in
    let h = c.block_in.ensures in
    let r = c.hashes_after.ensures in
    let b : c.index.result ≡ p.number - 1 = c.index.ensures ∙ sym (before-is p.number) in (
      λ model key. mismatch-found digest (device_of model key (Loading p.number) p.manifest.now c.args.hashes.now) p.number _ _ c.args.message.now _ _ _ refl p.low p.high n k h r
          (rw b at c.fits.ensures.0),
      compared-cost digest p.manifest.now p.number _ [] c.args.message.now n _ _ _ _ p.low k h r (rw b at c.fits.ensures.1),
    )

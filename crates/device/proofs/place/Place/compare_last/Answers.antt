use Rattle.std.proofs.Common.{◌≡◌, length, ap, sym, ◌∙◌}
use Rattle.sha256.specs.Sha256.{digest}
use Rattle.wire.proofs.MessageLaws.{due, length-block}
use Rattle.device.proofs.ConditionLaws.{measured, not_last, at_last, not-last-cost, at-last-cost}
use Rattle.device.proofs.place.Place.compare_last.Goals as goal

pub returns-then-from-count : goal.returns-then-from-count
returns-then-from-count c =
    let p = c.args.self.now in
    let n = c.count.ensures in
    let apart : p.number ≡ c.count.result → ⊥ = λ e. c.if-from-count.true (c.from.ensures ∙ e) in
    (not_last digest p.manifest.now p.number _ c.args.flash.now c.args.message.now n apart, not-last-cost digest p.manifest.now p.number _ c.args.flash.now c.args.message.now n apart)

pub block_in-requires : goal.block_in-requires
block_in-requires c = rw c.own_len.ensures (due _ _ _ _ (measured _ _ _ c.requires.1)).long

pub compare_with-requires : goal.compare_with-requires
compare_with-requires c =
    let k = c.own_len.ensures in
    let d = due _ _ _ _ (measured _ _ _ c.requires.1) in
    (c.requires.0, ap length c.block_in.ensures ∙ length-block _ c.args.message.now (rw k d.long) ∙ k)

pub returns : goal.returns
returns c =
    let p = c.args.self.now in
    let n = c.count.ensures in
    let e : p.number ≡ c.count.result = sym c.from.ensures ∙ c.if-from-count.false in (
      at_last digest p.manifest.now p.number _ c.args.flash.now c.args.message.now n _ _ _ e c.own_len.ensures c.block_in.ensures c.compare_with.ensures.0,
      at-last-cost digest p.manifest.now p.number _ c.args.flash.now c.args.message.now n _ _ _ e c.own_len.ensures c.block_in.ensures c.compare_with.ensures.1,
    )

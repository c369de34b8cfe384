use Rattle.std.proofs.Common.{length, sym, ap, ◌∙◌}
use Rattle.wire.proofs.MessageLaws.{length-update-block}
use Rattle.device.proofs.JudgeLaws.{successor-known, current-known}
use Rattle.device.proofs.UpdateJudgeLaws.{block-whole}
use Rattle.device.proofs.view.View.judge_update.Goals as goal

pub lacks_root-requires : goal.lacks_root-requires
lacks_root-requires c = current-known c.args.self.now _ _ c.in_ok-judge_successor.ensures

pub of-requires : goal.of-requires
of-requires c = (successor-known c.args.self.now _ _ c.in_ok-judge_successor.ensures).0

pub update_signature-requires : goal.update_signature-requires
update_signature-requires c =
    let p = c.in_ok-place.place in
    block-whole p.manifest.now p.number _ c.args.flash.now c.args.message.now c.own_len-len.ensures (sym c.if-below_least_update.ensures)

pub update_block-requires : goal.update_block-requires
update_block-requires c =
    let p = c.in_ok-place.place in
    block-whole p.manifest.now p.number _ c.args.flash.now c.args.message.now c.own_len-len.ensures (sym c.if-below_least_update.ensures)

pub compare_with-tree-requires : goal.compare_with-tree-requires
compare_with-tree-requires c =
    let p = c.in_ok-place.place in
    let whole = block-whole p.manifest.now p.number _ c.args.flash.now c.args.message.now c.own_len-len.ensures (sym c.if-below_least_update.ensures) in (
      rw c.in_ok-place.ensures.0 (successor-known c.args.self.now _ _ c.in_ok-judge_successor.ensures).1,
      ap length c.update_block.ensures ∙ length-update-block _ c.args.message.now whole ∙ c.own_len-len.ensures,
    )

use Rattle.std.proofs.Common.{sym}
use Rattle.device.proofs.JudgeLaws.{successor-known}
use Rattle.device.proofs.UpdateJudgeLaws.{path-whole}
use Rattle.device.proofs.view.View.judge_path_update.Goals as goal

pub of-requires : goal.of-requires
of-requires c = (successor-known c.args.self.now _ _ c.in_ok-judge_successor.ensures).0

pub path_signature-requires : goal.path_signature-requires
path_signature-requires c =
    let p = c.in_ok-place.place in
    path-whole p.manifest.now p.number _ c.args.flash.now c.args.message.now c.own_len-len.ensures _ c.depth-depth.ensures (sym c.if-below_least_path.ensures)

pub judge_path-requires : goal.judge_path-requires
judge_path-requires c =
    let p = c.in_ok-place.place in (
      rw c.in_ok-place.ensures.0 (successor-known c.args.self.now _ _ c.in_ok-judge_successor.ensures).1,
      c.depth-depth.ensures,
      path-whole p.manifest.now p.number _ c.args.flash.now c.args.message.now c.own_len-len.ensures _ c.depth-depth.ensures (sym c.if-below_least_path.ensures),
    )

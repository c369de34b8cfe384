use Rattle.std.proofs.Common.{sym}
use Rattle.device.proofs.JudgeLaws.{awaited}
use Rattle.device.proofs.view.View.judge_unhashed.Goals as goal

-- a block is awaited
pub invariant_of-place : goal.invariant_of-place
invariant_of-place c = let w = awaited c.args.self.now c.requires.0 (sym c.if-not_loading.ensures) c.next_of-next.ensures in record { sized = w.size; low = w.low; high = w.high }

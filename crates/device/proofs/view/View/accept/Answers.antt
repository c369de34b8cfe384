use mathlib.Core.Path.{sym, ◌∙◌}
use Rattle.sha256.specs.Sha256.{digest}
use Rattle.lms.specs.Lms.{valid}
use Rattle.machine.specs.Step.{accept}
use Rattle.machine.proofs.RefusalLaws.{program-passed}
use Rattle.device.proofs.KindLaws.{bringing}
use Rattle.device.proofs.view.View.accept.Goals as goal

pub accept_program-requires : goal.accept_program-requires
accept_program-requires c = (program-passed digest valid _ _ _ _ (sym c.requires.0 ∙ c.in-Program.is) c.requires.1.unrefused).long

pub accept_block-requires : goal.accept_block-requires
accept_block-requires c = (c.requires.0, bringing c.args.kind c.in-Block.is, c.requires.1)

pub returns-in-Program : goal.returns-in-Program
unfolding accept
returns-in-Program c = rw c.in-Program.is (c.accept_program.ensures _ _)

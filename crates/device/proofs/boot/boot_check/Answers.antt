use Rattle.std.proofs.Common.{[], sym}
use Rattle.machine.proofs.SenseLaws.{not-complete, complete-size}
use Rattle.device.proofs.boot.boot_check.Goals as goal

-- a complete device that makes sense has a program of an allowed size
pub lacks_root-requires : goal.lacks_root-requires
lacks_root-requires c =
    (complete-size _ (sym (c.if-senseless.ensures 0 [] [])) (not-complete _ (sym c.if-not_complete.ensures)), sym c.if-too_small.ensures)

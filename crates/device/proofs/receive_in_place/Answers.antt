use Rattle.std.proofs.Common.{◌∙◌}
use Rattle.device.proofs.AcceptLaws.{unrefused, step-refused, step-accepted, held-step}
use Rattle.device.proofs.receive_in_place.Goals as goal

pub accept-next-requires : goal.accept-next-requires
accept-next-requires c = (c.kind_of-kind.ensures, record { budget = c.args.budget; unrefused = unrefused _ _ _ _ c.kind_of-kind.ensures c.in-Ok.ensures })

pub returns-in-Err : goal.returns-in-Err
returns-in-Err c =
    let whole = c.in-Some.ensures.cases in
    rw (c.refused-in-Err.ensures, whole.same)
    (held-step _ _ _ _ whole.long ∙ step-refused _ _ _ _ c.kind_of-kind.ensures (rw whole.same at c.in-Err.ensures))

pub returns-in-Ok : goal.returns-in-Ok
returns-in-Ok c =
    let whole = c.in-Some.ensures.cases in
    held-step _ _ _ _ whole.long ∙ step-accepted _ _ _ _ c.kind_of-kind.ensures (rw whole.same at c.in-Ok.ensures) (rw whole.same at c.accept-next.ensures)

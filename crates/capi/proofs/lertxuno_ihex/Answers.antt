use Rattle.std.proofs.Common.{ap, ◌∙◌}
use Rattle.ihex.specs.Read.{TextAnswer}
use Rattle.capi.specs.Call.{ihex_outcome, read_text}
use Rattle.capi.proofs.lertxuno_ihex.Goals as goal

pub returns-in-Ok : goal.returns-in-Ok
unfolding read_text
returns-in-Ok c =
    let out = c.read.new.out in
    ap ihex_outcome c.read.ensures ∙ ap (λ (a : TextAnswer). ihex_outcome (record { answer = a; buffer = out })) c.in-Ok.is

pub returns-in-Err : goal.returns-in-Err
unfolding read_text
returns-in-Err c =
    let out = c.read.new.out in
    ap ihex_outcome c.read.ensures ∙ ap (λ (a : TextAnswer). ihex_outcome (record { answer = a; buffer = out })) c.in-Err.is ∙ rw c.number_of.ensures

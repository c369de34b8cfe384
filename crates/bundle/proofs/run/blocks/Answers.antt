use Rattle.std.proofs.Common.{◌∙◌, refl, sym, arith}
use Rattle.bundle.proofs.RunLaws.{looping-start, looping-end, line-fits, one_more, stopped, accepted, all_blocks, rerun, few-blocks}
use Rattle.bundle.proofs.run.blocks.Goals as goal

pub loop-number-init : goal.loop-number-init
loop-number-init c = (refl, looping-start _ _ _ _ _ _ _ _)

pub due_len-requires : goal.due_len-requires
due_len-requires c = let l = c.loop-number in (l.invariant.1.first, omega (arith, c.count-n.ensures))

pub put_message-requires : goal.put_message-requires
put_message-requires c =
    let w = c.loop-number.invariant.1 in
    let few = few-blocks _ _ c.known_geometry-geometry.result.allowed c.count-n.ensures in
    line-fits _ _ _ _ _ _ _ _ w w.last few c.requires.1 _ (omega arith) (omega arith)

pub overflow_step-number : goal.overflow_step-number
overflow_step-number c = let few = few-blocks _ _ c.known_geometry-geometry.result.allowed c.count-n.ensures in omega (arith, few)

pub returns-then-is_err : goal.returns-then-is_err
returns-then-is_err c =
    let w = c.loop-number.invariant in
    let g = c.known_geometry-geometry in
    let few = few-blocks _ _ g.result.allowed c.count-n.ensures in
    let r = stopped _ _ _ _ _ _ _ _ w.1 (omega arith) few c.requires.1 _ _ _ c.due_len.ensures c.min-len.ensures c.receive-outcome.ensures _ c.answer_number.ensures (omega arith)
    c.put_message.ensures.put (sym c.is_err.ensures.value ∙ c.if-is_err.true) in
    record {
      same_buffer = c.put_message.ensures.same_buffer ∙ w.0;
      ran = rerun (all_blocks _ _ _ g.ensures.0 g.ensures.1 c.count-n.ensures) r.0;
      short = r.1;
    }

pub returns-else-is_err : goal.returns-else-is_err
returns-else-is_err c =
    let l = c.loop-number in
    let g = c.known_geometry-geometry in
    let few = few-blocks _ _ g.result.allowed c.count-n.ensures in
    let w = one_more _ _ _ _ _ _ _ _ l.invariant.1 (omega arith) few c.requires.1 _ _ _ c.due_len.ensures c.min-len.ensures c.receive-outcome.ensures _ c.answer_number.ensures (omega arith)
    c.put_message.ensures.put refl (omega arith) (accepted _ (sym c.is_err.ensures.value ∙ c.if-is_err.false)) in
    let r = looping-end _ _ _ _ _ _ _ _ w (omega arith) few in
    record {
      same_buffer = c.put_message.ensures.same_buffer ∙ l.invariant.0;
      ran = rerun (all_blocks _ _ _ g.ensures.0 g.ensures.1 c.count-n.ensures) r.0;
      short = r.1;
    }

pub loop-number-preserved : goal.loop-number-preserved
loop-number-preserved c =
    let l = c.loop-number in
    let few = few-blocks _ _ c.known_geometry-geometry.result.allowed c.count-n.ensures in (
      c.put_message.ensures.same_buffer ∙ l.invariant.0,
      one_more _ _ _ _ _ _ _ _ l.invariant.1 (omega arith) few c.requires.1 _ _ _ c.due_len.ensures c.min-len.ensures c.receive-outcome.ensures _ c.answer_number.ensures (omega arith)
          c.put_message.ensures.put refl (omega arith) (accepted _ (sym c.is_err.ensures.value ∙ c.if-is_err.false)),
    )

pub returns : goal.returns
returns c =
    let w = c.loop-number.invariant in
    let g = c.known_geometry-geometry in
    let few = few-blocks _ _ g.result.allowed c.count-n.ensures in
    let r = looping-end _ _ _ _ _ _ _ _ w.1 (omega arith) few in
    record {
      same_buffer = w.0;
      ran = rerun (all_blocks _ _ _ g.ensures.0 g.ensures.1 c.count-n.ensures) r.0;
      short = r.1;
    }

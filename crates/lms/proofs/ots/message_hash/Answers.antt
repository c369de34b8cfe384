use mathlib.Core.Path.{ap, ◌∙◌}
use mathlib.Core.List.{List, ◌++◌}
use Prim.Native.Nat.{ℕ}
use Rattle.lms.specs.Notation.{H}
use Rattle.lms.specs.Ots.{message_hash}
use Rattle.lms.proofs.ots.message_hash.Goals as goal

pub returns : goal.returns
unfolding message_hash
returns c =
    let a = c.args in
    (c.finish.ensures _ (c.update-3.ensures _ (c.update-2.ensures _ (c.update.ensures _ c.new.ensures)))).0
    ∙ ap (λ (s : List ℕ). H (s ++ a.c.now ++ a.message.now)) c.start-s.ensures

-- `wake::answer::line_len` meets its contract.
use mathlib.Core.Path.{ap, ◌∙◌}
use Rattle.std.specs.Prelude.{Option}
use Rattle.std.specs.Option.{unwrap_or}
use Prim.Native.Nat.{ℕ}
use lib.ListN.{length}
use Rattle.wake.proofs.LineLaws.{line-position}
use Rattle.wake.proofs.answer.line_len.Goals as goal

pub returns : goal.returns
returns c = c.unwrap_or.ensures ∙ ap (λ (o : Option ℕ). unwrap_or o (length c.args.text.now)) c.first_lf.ensures ∙ line-position c.args.text.now

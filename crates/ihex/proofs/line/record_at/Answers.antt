use mathlib.Core.Path.{sym, ap, ◌∙◌}
use mathlib.Core.List.{List}
use Rattle.std.proofs.Common.{rules}
use Prim.Native.Nat.{ℕ}
use Rattle.ihex.specs.Line.{record_in}
use Rattle.ihex.specs.Code.{record_read}
use Rattle.ihex.proofs.LineLaws.{line_cut, line-nth, line-past}
use Rattle.ihex.proofs.JudgeLaws.{no_record}
use Rattle.ihex.proofs.line.record_at.Goals as goal

pub returns-in_err-line : goal.returns-in_err-line
returns-in_err-line c =
    let r = c.in_err-line.ensures.runs in
    c.from_residual.ensures
    ∙ sym (ap (λ (s : List ℕ). record_read (record_in s))
    (rw (← c.saturating_sub.ensures, ← c.split_inclusive.ensures.rest, ← r.1) (line-past (λ s. s.rest.now) r.0 _ r.2.0 r.2.1 (λ s t x h. line_cut _ _ _ _ _ _ h (λ f a r g h. search rules)) (λ s t e. e.0)))
    ∙ ap record_read no_record)

pub returns : goal.returns
returns c =
    let r = c.in_ok-line.ensures.runs in
    c.record_in.ensures
    ∙ ap (λ (s : List ℕ). record_read (record_in s))
    (rw (← c.saturating_sub.ensures, ← c.split_inclusive.ensures.rest, ← r.1) (line-nth (λ s. s.rest.now) r.0 _ _ r.2.1 (λ s t x h. line_cut _ _ _ _ _ _ h (λ f a r g h. search rules))))

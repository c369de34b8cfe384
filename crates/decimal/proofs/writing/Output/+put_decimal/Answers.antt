use Rattle.std.proofs.Common.{◌≡◌, ℕ, ◌+◌, ◌/◌, ◌%◌, ◌<◌, [], ◌∷◌, length, sym, ap, ◌∙◌, arith, length-append}
use Rattle.decimal.specs.Decimal.{decimal}
use Rattle.decimal.specs.declared.writing.Output.{Output}
use Rattle.decimal.proofs.WritingLaws.{decimal-small, decimal-large}
use Rattle.decimal.proofs.AppendedLaws.{retold, joined, room}
use Rattle.decimal.proofs.writing.Output.+put_decimal.Goals.{then-number-ge10, else-number-ge10}
use Rattle.decimal.proofs.writing.Output.+put_decimal.Goals as goal

-- the lengths of both forms
small-length : (n : ℕ) → n < 10 → length (decimal n) ≡ 1
small-length n h = ap length (decimal-small n h)

large-length : (n : ℕ) → (n < 10 → ⊥) → length (decimal n) ≡ length (decimal (n / 10)) + 1
large-length n h = ap length (decimal-large n (omega arith)) ∙ length-append (decimal (n / 10)) ((48 + n % 10) ∷ [])

pub put_decimal-requires : goal.put_decimal-requires
put_decimal-requires t c = (omega arith, omega (arith, c.requires, large-length c.args.number (omega arith)))

pub put-requires : goal.put-requires
put-requires t c =
    elim c.if-number-ge10.branch [
      | then-number-ge10 w ↦ rw w.self-is (room w.put_decimal.ensures.put 1 (omega (arith, c.requires, large-length c.args.number (omega arith))))
      | else-number-ge10 w ↦ rw w.self-is (omega (arith, c.requires, small-length c.args.number (omega arith)))
    ]

pub returns : goal.returns
returns t c =
    elim c.if-number-ge10.branch [
      | then-number-ge10 w ↦ record {
        same_buffer = c.put.ensures.same_buffer ∙ ap (λ (o : Output). o.buffer.ghost_name) w.self-is ∙ w.put_decimal.ensures.same_buffer;
        put = retold (joined w.put_decimal.ensures.put (rw w.self-is at c.put.ensures.put) (omega (arith, c.requires, large-length c.args.number (omega arith)))) (sym (decimal-large c.args.number (omega arith)));
      }
      | else-number-ge10 w ↦ record {
        same_buffer = c.put.ensures.same_buffer ∙ ap (λ (o : Output). o.buffer.ghost_name) w.self-is;
        put = retold (rw w.self-is at c.put.ensures.put) (sym (decimal-small c.args.number (omega arith)));
      }
    ]

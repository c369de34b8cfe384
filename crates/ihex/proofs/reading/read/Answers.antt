use mathlib.Core.Path.{◌≡◌, sym, ap, ◌∙◌}
use mathlib.Core.List.{List, ◌++◌}
use Prim.Native.Nat.{ℕ}
use lib.ListN.{drop}
use lib.Seq.{length-take-le}
use Rattle.std.proofs.lemmas.Result.{err_from_is_err_and}
use Rattle.ihex.specs.Text.{image_of}
use Rattle.ihex.specs.Read.{Read}
use Rattle.ihex.proofs.ReadLaws.{read-size, read-area, read_names, read-fault, answer-names, answer-fault}
use Rattle.ihex.proofs.reading.read.Goals as goal

pub returns-then-wrong_length : goal.returns-then-wrong_length
returns-then-wrong_length c = read-size _ _ _ _ (sym c.wrong_length.ensures ∙ c.if-wrong_length.true)

pub returns-then-out-len : goal.returns-then-out-len
returns-then-out-len c = read-area _ _ _ _ (sym c.wrong_length.ensures ∙ c.if-wrong_length.false) c.if-out-len.true

pub returns-in_err-judge : goal.returns-in_err-judge
returns-in_err-judge c =
    let p = err_from_is_err_and c.from_residual.result c.from_residual.ensures.1 in
    rw (p.1, p.2)
    (read-fault _ _ _ _ _ _ (sym c.wrong_length.ensures ∙ c.if-wrong_length.false) c.if-out-len.false (answer-fault _ _ (sym c.in_err-judge.ensures)))

pub write-requires : goal.write-requires
write-requires c =
    let size = length-take-le c.args.len c.args.out.now c.if-out-len.false in
    let good = answer-names _ (sym c.in_ok-judge.ensures) in
    (rw size (sym c.wrong_length.ensures ∙ c.if-wrong_length.false), (good.0, rw size good.1))

pub returns : goal.returns
returns c =
    let a = c.args in
    let size = length-take-le a.len a.out.now c.if-out-len.false in
    let good = answer-names _ (sym c.in_ok-judge.ensures) in
    let written : c.write.new.out ≡ image_of a.base a.len good.0 = (rw size at c.write.ensures) good.0 good.1 in
    read_names _ _ _ _ good.0 (sym c.wrong_length.ensures ∙ c.if-wrong_length.false) c.if-out-len.false good.1
    ∙ ap (λ (y : List ℕ). record { answer = Read; buffer = y ++ drop a.len a.out.now }) (sym written)

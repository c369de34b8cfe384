use mathlib.Core.Path.{◌≡◌, sym, ap, ap₂, ◌∙◌}
use mathlib.Core.List.{List}
use Rattle.std.specs.Prelude.{Option, Some}
use Prim.Native.Nat.{ℕ, ◌+◌, ◌-◌, ◌*◌, ◌^◌, ◌<◌}
use native.Mathlib.Omega.{arith}
use lib.ListN.{length}
use lib.Seq.{paste}
use Rattle.ihex.specs.Line.{Line, data00, line_of}
use Rattle.ihex.specs.Code.{data_in, Placeable}
use Rattle.ihex.proofs.StepLaws.{fits, is-data}
use Rattle.ihex.proofs.PlaceLaws.{DataInside, inside, places-empty, places-data}
use Rattle.ihex.proofs.write.place.Goals as goal

-- where the data of a line of type 00 are
held : {base k u a n : ℕ} {x : Option Line} {vs : List ℕ} → Placeable base k u x → x ≡ Some (data00 a vs) → length vs ≡ n → (n ≡ 0 → ⊥) → u * 65536 + a < 2 ^ 32 → DataInside base k u a vs
held {base} {k} {u} {a} {n} {x} {vs} p e size full small = inside base k u a vs (fits _ _ p.0) small (omega (arith, size, full)) (rw e at p.1)

pub returns-in_default : goal.returns-in_default
returns-in_default c =
    let d = is-data (line_of c.args.line.now) (rw c.in-Some-Data.field-0-is at c.in-Some-Data.ensures) in
    rw d.1.0 (places-empty _ _ _ _ d.0 (omega (arith, d.1.1)))

pub overflow_sub-first : goal.overflow_sub-first
overflow_sub-first c =
    let d = is-data (line_of c.args.line.now) (rw c.in-Some-Data.field-0-is at c.in-Some-Data.ensures) in
    (held {u = c.args.upper} c.requires d.1.0 d.1.1 c.if-count-ne0.true (omega arith)).low

pub put-requires : goal.put-requires
put-requires c =
    let d = is-data (line_of c.args.line.now) (rw c.in-Some-Data.field-0-is at c.in-Some-Data.ensures) in
    let i = held {u = c.args.upper} c.requires d.1.0 d.1.1 c.if-count-ne0.true (omega arith) in
    (sym (ap (λ (o : Option Line). length (data_in o)) d.1.0 ∙ d.1.1), omega (arith, i.low, i.high, d.1.1))

pub returns-in-Some-Data : goal.returns-in-Some-Data
returns-in-Some-Data c =
    let a = c.args in
    let d = is-data (line_of a.line.now) (rw c.in-Some-Data.field-0-is at c.in-Some-Data.ensures) in
    let e =
    c.put.ensures
    ∙ ap₂ {C = List ℕ} (λ (s : List ℕ) (n : ℕ). paste a.out.now (a.upper * 65536 + c.in-Some-Data.address - a.base) s n) (ap data_in d.1.0) (sym d.1.1)
    in
    rw d.1.0 (places-data _ _ _ _ d.0 (fits _ _ c.requires.0) (held {u = a.upper} c.requires d.1.0 d.1.1 c.if-count-ne0.true (omega arith)) e)

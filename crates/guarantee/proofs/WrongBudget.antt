-- Budgets in the toy world: what the right device answers and reports below, at and above a total; and wrong devices. Where the comment says 'alone', all other clauses of
-- demand 3 hold of the device, by reading. A block of 64 bytes takes 2 compressions and two hashes 2, so the first block of the two costs 4, and the last one 2 and the
-- whole tree's 6.
use Rattle.std.proofs.Common.{◌≡◌, refl, ap, Bool, false, cond, ◌&&◌, not, List, [], ◌∷◌, ◌++◌, ℕ, pred, ◌+◌, ◌-◌, arith, eqb, ltb, lit<, lit≤, Ok, Err}
use Rattle.merkle.specs.Shape.{shape}
use Rattle.merkle.specs.Hash.{plain}
use Rattle.merkle.specs.Cost.{cost_without}
use Rattle.wire.specs.declared.kind.Kind.TheVariants.{Block}
use Rattle.wire.specs.declared.refusal.Refusal.TheVariants as refusal
use Rattle.wire.specs.Refusal.{refusal_number, first_that_applies}
use Rattle.wire.specs.Geometry.{count_of, blocks_of}
use Rattle.wire.specs.Cost.{comparison_cost}
use Rattle.sender.specs.Job.{block_for, update_for, path_for}
use Rattle.machine.specs.declared.state.Device.{Device}
use Rattle.machine.specs.Answer.{Accepted}
use Rattle.machine.specs.Device.{next_of, Outcome}
use Rattle.machine.specs.Refusals.{mismatch, spent, refusals}
use Rattle.machine.specs.Readers.{number_of}
use Rattle.machine.specs.Step.{accept, total, outcome, Call}
use Rattle.machine.proofs.RefusalLaws.{ahead, behind}
use Rattle.guarantee.specs.Part.{call}
use Rattle.guarantee.specs.Run.{Trace, empty, ◌▷◌, outcome_to, answer_to}
use Rattle.guarantee.specs.Demand3.{Calls, Honest, begin, next, other}
use Rattle.guarantee.proofs.Toy.{Step, toy, any, part, job, newer, fresh, flash, program, right, refusing_as, by_kind, computing, loaded}

-- the two blocks, a second block of another image, and the list before each of the two
abbrev pub first : List ℕ
first = block_for toy job.image 1

abbrev pub last : List ℕ
last = block_for toy job.image 2

abbrev pub foreign : List ℕ
foreign = block_for toy newer.image 2

abbrev pub begun : Trace Call
begun = empty ▷ program

abbrev pub half : Trace Call
half = begun ▷ call 4 first

-- the answer's number, and what is reported
abbrev pub outcome_of : Trace Call → Call → Outcome
outcome_of cs c = outcome_to right fresh flash cs c

abbrev pub number : Trace Call → Call → ℕ
number cs c = number_of (outcome_of cs c).answer

abbrev pub reported : Trace Call → Call → ℕ × ℕ
reported cs c = ((outcome_of cs c).compressions, (outcome_of cs c).budget)

-- 20 below the total, and neither at it nor above; 12 before 20, and 20 before 14; the other kinds look at no budget.
pub right-budgets : (number begun (call 3 first) ≡ 20)
    × (number begun (call 4 first) ≡ 0)
    × (number begun (call 5 first) ≡ 0)
    × (number half (call 7 last) ≡ 20)
    × (number half (call 8 last) ≡ 0)
    × (number half (call 9 last) ≡ 0)
    × (number begun (call 0 (first ++ (1 ∷ []))) ≡ 12)
    × (number half (call 7 foreign) ≡ 20)
    × (number half (call 8 foreign) ≡ 14)
    × (number empty (call 0 program.message) ≡ 0)
    × (number loaded (call 0 (update_for toy newer 2 [])) ≡ 0)
    × (number loaded (call 0 (path_for toy newer 2 [])) ≡ 0)
unfolding computing
right-budgets = (refl, refl, refl, refl, refl, refl, refl, refl, refl, refl, refl, refl)

-- An accepted block reports its total, any other message 0; with it goes the budget handed in.
pub right-reports : (reported begun (call 5 first) ≡ (4, 5))
    × (reported half (call 9 last) ≡ (8, 9))
    × (reported half (call 7 last) ≡ (0, 7))
    × (reported half (call 8 foreign) ≡ (0, 8))
    × (reported loaded (call 3 (update_for toy newer 2 [])) ≡ (0, 3))
unfolding computing
right-reports = (refl, refl, refl, refl, refl)

-- A block that is refused for its budget may come again with one that suffices: the run is honest.
untaken : answer_to right fresh flash begun (call 3 first) ≡ Accepted → ⊥
unfolding computing
untaken e = let z : ◌≡◌ {A = ℕ} 20 0 = ap number_of e in omega arith

pub again : Honest toy any part right fresh flash job empty program 1 (begun ▷ call 3 first ▷ call 4 first)
unfolding computing
again = next (lit< tt) refl refl (lit≤ tt) (other (λ t. untaken t.1) begin)

-- A device with another test for 20, and what it reports of an accepted block.
judging : (over : Device → List ℕ → Call → Bool) (cost : Device → List ℕ → Call → ℕ) → Step
judging over cost = by_kind right (λ d f c.
    let es = refusals toy any c.budget Block d f c.message in
    outcome (first_that_applies (ahead refusal.Spent es ++ ((refusal.Spent, over d f c) ∷ behind refusal.Spent es))) c.budget (cost d f c) d f (accept Block d f c.message)) right right

cost_of : Device → List ℕ → Call → ℕ
cost_of d f c = total toy Block d f c.message

-- what the runs compute with
counting : ℕ
unfolding computing ahead behind judging cost_of
counting = 0

-- It refuses at equality. (So it refuses an honest block, too.)
pub strict : Step
strict = judging (λ d f c. not (ltb (cost_of d f c) c.budget)) cost_of

pub strict-caught : Calls toy any part strict fresh flash begun → ⊥
unfolding counting strict
strict-caught h =
    let z : ◌≡◌ {A = ℕ} 20 0 = ap number_of (h.answers (call 4 first)) in
    omega arith

-- It leaves the whole tree out of the last block's total, so that it takes one over its budget, and reports too little.
compared : Device → List ℕ → Call → ℕ
compared d f c = comparison_cost toy d.manifest (next_of d.stage) c.message

pub partial : Step
partial = judging (λ d f c. ltb c.budget (compared d f c)) compared

pub partial-caught : Calls toy any part partial fresh flash half → ⊥
unfolding counting compared partial
partial-caught h =
    let z : ◌≡◌ {A = ℕ} 0 20 = ap number_of (h.answers (call 7 last)) in
    omega arith

-- It counts the last block's own digest once, in the comparison, and not again in the whole tree.
once : Device → List ℕ → Call → ℕ
once d f c =
    let s = d.manifest in
    let i = next_of d.stage in
    compared d f c + cond (eqb i (count_of s)) (cost_without (plain toy) (pred i) (blocks_of s f) 0 (shape (count_of s))) 0

pub thrifty : Step
thrifty = judging (λ d f c. ltb c.budget (once d f c)) once

pub thrifty-caught : Calls toy any part thrifty fresh flash half → ⊥
unfolding counting compared once cost_without thrifty
thrifty-caught h =
    let z : ◌≡◌ {A = ℕ} 0 20 = ap number_of (h.answers (call 7 last)) in
    omega arith

-- It takes a block over its budget: alone.
pub lavish : Step
lavish = judging (λ d f c. false) cost_of

pub lavish-caught : Calls toy any part lavish fresh flash begun → ⊥
unfolding counting lavish
lavish-caught h =
    let z : ◌≡◌ {A = ℕ} 0 20 = ap number_of (h.answers (call 3 first)) in
    omega arith

-- It looks at the budget after the hash, 14 before 20; or before the length, 20 before 12: each alone.
pub tardy : Step
tardy = by_kind right (λ d f c.
    let o = right d f c in
    cond (eqb (number_of o.answer) (refusal_number refusal.Spent) && mismatch toy d (next_of d.stage) c.message) (refusing_as refusal.Mismatch d f c) o) right right

pub tardy-caught : Calls toy any part tardy fresh flash half → ⊥
unfolding counting tardy
tardy-caught h =
    let z : ◌≡◌ {A = ℕ} 14 20 = ap number_of (h.answers (call 7 foreign)) in
    omega arith

pub eager : Step
eager = by_kind right (λ d f c.
    let o = right d f c in
    cond (eqb (number_of o.answer) (refusal_number refusal.Length) && spent toy c.budget d.manifest (next_of d.stage) f c.message) (refusing_as refusal.Spent d f c) o) right right

pub eager-caught : Calls toy any part eager fresh flash begun → ⊥
unfolding counting eager
eager-caught h =
    let z : ◌≡◌ {A = ℕ} 20 12 = ap number_of (h.answers (call 0 (first ++ (1 ∷ [])))) in
    omega arith

-- It lets a budget refuse an update: alone.
pub stingy : Step
stingy = by_kind right right (λ d f c. let o = right d f c in cond (eqb (number_of o.answer) 0 && eqb c.budget 0) (refusing_as refusal.Spent d f c) o) right

pub stingy-caught : Calls toy any part stingy fresh flash loaded → ⊥
unfolding counting stingy
stingy-caught h =
    let z : ◌≡◌ {A = ℕ} 20 0 = ap number_of (h.answers (call 0 (update_for toy newer 2 []))) in
    omega arith

-- A device that reports other numbers, of a block or of any message.
saying : (count left : Outcome → ℕ) → Step
saying count left d f c = let o = right d f c in record { answer = o.answer; compressions = count o; budget = left o; device = o.device; flash = o.flash }

reporting : (count left : Outcome → ℕ) → Step
reporting count left = by_kind right (saying count left) right right

-- It reports one too few; the whole budget instead of the total; or what is left of the budget instead of the budget: each alone.
pub undercounting : Step
undercounting = reporting (λ o. pred o.compressions) (λ o. o.budget)

pub undercounting-caught : Calls toy any part undercounting fresh flash begun → ⊥
unfolding counting saying reporting undercounting
undercounting-caught h =
    let z : ◌≡◌ {A = ℕ} 3 4 = (h.reports (call 9 first) refl).0 in
    omega arith

pub charging : Step
charging = reporting (λ o. elim o.answer [ Ok _ ↦ o.budget | Err r ↦ 0 ]) (λ o. o.budget)

pub charging-caught : Calls toy any part charging fresh flash begun → ⊥
unfolding counting saying reporting charging
charging-caught h =
    let z : ◌≡◌ {A = ℕ} 9 4 = (h.reports (call 9 first) refl).0 in
    omega arith

pub settling : Step
settling = reporting (λ o. o.compressions) (λ o. o.budget - o.compressions)

pub settling-caught : Calls toy any part settling fresh flash begun → ⊥
unfolding counting saying reporting settling
settling-caught h =
    let z : ◌≡◌ {A = ℕ} 5 9 = (h.reports (call 9 first) refl).1 in
    omega arith

-- It reports of a refused block what its comparison took; or 1 of an accepted update: each alone.
pub owning : Step
owning = by_kind right (λ d f c. saying (λ o. elim o.answer [ Ok _ ↦ o.compressions | Err r ↦ compared d f c ]) (λ o. o.budget) d f c) right right

pub owning-caught : Calls toy any part owning fresh flash half → ⊥
unfolding counting compared saying owning
owning-caught h =
    let z : ◌≡◌ {A = ℕ} 2 0 = (h.reports (call 8 foreign) refl).0 in
    omega arith

pub inventing : Step
inventing = by_kind right right (saying (λ o. elim o.answer [ Ok _ ↦ 1 | Err r ↦ 0 ]) (λ o. o.budget)) right

pub inventing-caught : Calls toy any part inventing fresh flash loaded → ⊥
unfolding counting saying inventing
inventing-caught h =
    let z : ◌≡◌ {A = ℕ} 1 0 = (h.reports (call 9 (update_for toy newer 2 [])) refl).0 in
    omega arith

use Rattle.std.proofs.Common.{◌≡◌, List, ℕ, ◌+◌, refl, arith}
use mathlib.Core.Path.{ap₂}
use Rattle.sha256.specs.Sha256.{digest}
use Rattle.wire.specs.declared.manifest.Manifest.{Manifest}
use Rattle.wire.specs.Cost.{comparison_cost, last_cost, block_cost}
use Rattle.device.proofs.JudgeLaws.{unhashed, block-verdict}
use Rattle.device.proofs.view.View.judge_block.Goals as goal

-- both comparisons together are the message's total
total : (s : Manifest) (flash m : List ℕ) (i x y : ℕ) → x ≡ comparison_cost digest s i m → y ≡ last_cost digest s i flash m → x + y ≡ block_cost digest s i flash m
unfolding block_cost
total s flash m i x y ex ey = ap₂ (λ a b. a + b) ex ey

pub invariant_of-place : goal.invariant_of-place
invariant_of-place c =
    let u = unhashed _ c.args.self.now _ _ c.requires.0 c.next_of.ensures c.in_ok-judge_unhashed.ensures in
    record { sized = u.awaits.size; low = u.awaits.low; high = u.awaits.high }

pub compare-own-requires : goal.compare-own-requires
compare-own-requires c = (unhashed _ c.args.self.now _ _ c.requires.0 c.next_of.ensures c.in_ok-judge_unhashed.ensures).due

pub returns-then-not-own : goal.returns-then-not-own
returns-then-not-own c =
    let u = unhashed _ c.args.self.now _ _ c.requires.0 c.next_of.ensures c.in_ok-judge_unhashed.ensures in
    rw (← c.next_of.ensures) (block-verdict u c.args.hashes.now (c.compare-own.ensures.0 _ _) refl c.if-not-own.true refl refl)

pub compare_last-whole-requires : goal.compare_last-whole-requires
compare_last-whole-requires c = let u = unhashed _ c.args.self.now _ _ c.requires.0 c.next_of.ensures c.in_ok-judge_unhashed.ensures in (u.room, u.due)

pub returns-then-not-whole : goal.returns-then-not-whole
returns-then-not-whole c =
    let u = unhashed _ c.args.self.now _ _ c.requires.0 c.next_of.ensures c.in_ok-judge_unhashed.ensures in
    rw (← c.next_of.ensures) (block-verdict u c.args.hashes.now (c.compare-own.ensures.0 _ _) c.compare_last-whole.ensures.0 c.if-not-own.false c.if-not-whole.true refl)

pub overflow_add-result : goal.overflow_add-result
overflow_add-result c =
    let u = unhashed _ c.args.self.now _ _ c.requires.0 c.next_of.ensures c.in_ok-judge_unhashed.ensures in
    omega (arith, total _ _ _ _ _ _ c.compare-own.ensures.1 c.compare_last-whole.ensures.1, u.covered, c.ranges.budget)

pub overflow_cast-result : goal.overflow_cast-result
overflow_cast-result c =
    let u = unhashed _ c.args.self.now _ _ c.requires.0 c.next_of.ensures c.in_ok-judge_unhashed.ensures in
    omega (arith, total _ _ _ _ _ _ c.compare-own.ensures.1 c.compare_last-whole.ensures.1, u.covered, c.ranges.budget)

pub returns : goal.returns
returns c =
    let u = unhashed _ c.args.self.now _ _ c.requires.0 c.next_of.ensures c.in_ok-judge_unhashed.ensures in
    rw (← c.next_of.ensures)
    (block-verdict u c.args.hashes.now (c.compare-own.ensures.0 _ _) c.compare_last-whole.ensures.0 c.if-not-own.false c.if-not-whole.false
    (total _ _ _ _ _ _ c.compare-own.ensures.1 c.compare_last-whole.ensures.1))

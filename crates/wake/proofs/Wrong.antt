-- Wrong answers, each of which fails the claim: one that counts a number that just fits as not fitting, one that takes the last block into the comparison, one that
-- goes up to 1,537 blocks, and one that answers 1 where two blocks do not fit.
use mathlib.Core.Path.{◌≡◌, refl, ap, ◌∙◌}
use mathlib.Core.Bool.{Bool, true, false, cond, ◌&&◌}
use mathlib.Core.List.{[]}
use Prim.Native.Nat.{ℕ, suc, pred, ◌-◌, ◌≤◌, ◌<◌}
use native.Mathlib.Omega.{arith}
use lib.Dec.{leb, ltb, lit≤}
use lib.ListN.{replicate}
use Rattle.sha256.specs.Sha256.{digest}
use Rattle.merkle.specs.Limits.{max_blocks}
use Rattle.merkle.specs.Blocks.{block_count}
use Rattle.merkle.specs.Shape.{size, depth, least_from, split, build, shape}
use Rattle.merkle.specs.Frontier.{largest, right_siblings, siblings, carried_count}
use Rattle.merkle.specs.Hash.{plain}
use Rattle.merkle.specs.Cost.{known_cost}
use Rattle.wire.specs.declared.manifest.Manifest.{Manifest}
use Rattle.wire.specs.Size.{allowed_length, wrong_size}
use Rattle.wire.specs.Geometry.{count_of, block_length}
use Rattle.wire.specs.Message.{due_length}
use Rattle.wire.specs.Cost.{block_cost}
use Rattle.wake.specs.Wake.{message_cost, all_to, all_fit, largest_to}
use Rattle.wake.specs.Claims.{ProgramOf, MessageOf, MostFit}
use Rattle.merkle.proofs.FirstLaws.{first-grows}
use Rattle.wake.proofs.FitLaws.{fit, spent, here, from-above}
use Rattle.wake.proofs.MostLaws.{cost-of}

-- the answer by another test, or up to another limit
abbrev answer_by : (fits : (L B n : ℕ) → Bool) (limit L B : ℕ) → ℕ
answer_by fits limit L B = cond (allowed_length L && fits L B 2) (largest_to (fits L B) limit) 0

pub strict : (L B n : ℕ) → Bool
strict L B n = all_to (λ i. ltb (message_cost L n i) B) (pred n)

pub with_last : (L B n : ℕ) → Bool
with_last L B n = all_to (λ i. leb (message_cost L n i) B) n

-- a program of two blocks of 64 bytes, whose first message costs 4
two : Manifest
two = record { version = 1; block_len = 64; model = 0; serial = 1; image_len = 128; root = [] }

two-program : ProgramOf 64 two
unfolding two wrong_size allowed_length block_count
two-program = record { blocks = refl; size = refl }

two-message : MessageOf two 1 (replicate 128 0) (replicate 99 0)
unfolding two due_length block_length block_count carried_count siblings largest right_siblings shape build split depth least_from size
two-message = record { area = lit≤ tt; long = refl }

two_blocks : count_of two ≡ 2
unfolding two count_of block_count
two_blocks = refl

first-four : message_cost 64 2 1 ≡ 4
unfolding known_cost carried_count siblings largest right_siblings shape build split depth least_from size
first-four = refl

-- where 0 is answered for 64 and 4, though two blocks fit
refuted : (most : ℕ → ℕ → ℕ) → most 64 4 ≡ 0 → MostFit most → ⊥
unfolding allowed_length
refuted most none claim =
    let big : 1 < count_of two = omega (arith, two_blocks) in
    let above : most 64 4 < count_of two = omega (arith, two_blocks) in
    let costs : block_cost digest two 1 (replicate 128 0) (replicate 99 0) ≡ 4 =
    cost-of two-program 1 (omega arith) big (replicate 128 0) (replicate 99 0) two-message
    ∙ ap (λ n. known_cost (plain digest) 64 n 0 64) two_blocks
    ∙ first-four in
    let more = (claim 64 4).larger two two-program big above (replicate 128 0) (replicate 99 0) two-message in
    omega (arith, costs, more)

pub strict-fails : MostFit (answer_by strict max_blocks) → ⊥
unfolding strict allowed_length all_to known_cost carried_count siblings largest right_siblings shape build split depth least_from size
strict-fails = refuted (answer_by strict max_blocks) refl

pub with-last-fails : MostFit (answer_by with_last max_blocks) → ⊥
unfolding with_last allowed_length all_to known_cost carried_count siblings largest right_siblings shape build split depth least_from size
with-last-fails = refuted (answer_by with_last max_blocks) refl

-- where every number of blocks fits
within : (message_cost 64 2 1 ≤ 24) × (message_cost 64 (suc max_blocks) 1 ≤ 24)
unfolding known_cost carried_count siblings largest right_siblings shape build split depth least_from size
within = (lit≤ tt, lit≤ tt)

pub over-fails : MostFit (answer_by all_fit (suc max_blocks)) → ⊥
unfolding allowed_length
over-fails claim =
    let two-fit : all_fit 64 24 2 ≡ true = fit 64 24 2 (omega arith) within.0 in
    let top : largest_to (all_fit 64 24) (suc max_blocks) ≡ suc max_blocks = here (all_fit 64 24) max_blocks (fit 64 24 (suc max_blocks) (omega arith) within.1) in
    let answer : answer_by all_fit (suc max_blocks) 64 24 ≡ suc max_blocks = rw two-fit top in
    omega (arith, answer, (claim 64 24).limit)

-- without the test for n = 2 the largest is 1, of which no message stands before the last
pub untested : (L B : ℕ) → ℕ
untested L B = cond (allowed_length L) (largest_to (all_fit L B) max_blocks) 0

one-fits : all_fit 64 3 1 ≡ true
unfolding all_fit all_to
one-fits = refl

above-one : (n : ℕ) → 1 < n → all_fit 64 3 n ≡ false
above-one n big =
    spent 64 3 n big (omega (arith, first-four, first-grows (plain digest) 64 2 n (omega arith) (omega arith)))

pub untested-fails : MostFit untested → ⊥
unfolding untested allowed_length
untested-fails claim =
    let one : largest_to (all_fit 64 3) max_blocks ≡ 1 = from-above (all_fit 64 3) 1 (max_blocks - 1) (λ m low high. above-one m low) ∙ here (all_fit 64 3) 0 one-fits in
    (claim 64 3).several one

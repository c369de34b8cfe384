-- The hash so far, with the siblings and the turns still to come, leads to the top, and the compressions so far, with those still to come, are the total.
use Rattle.std.proofs.Common.{◌≡◌, ◌+◌, ◌*◌, ◌≤◌, Bool, List, length}
use Rattle.sha256.specs.Sha256.{digest, compressions}
use Rattle.merkle.specs.Limits.{hash_length}
use Rattle.merkle.specs.Shape.{Place}
use Rattle.merkle.specs.Hash.{plain, leaf_input, leaf_hash}
use Rattle.merkle.specs.Path.{ascend}
use Rattle.merkle.specs.Turns.{turns_of}
use Rattle.merkle.specs.Held.{hashes_in}
use Rattle.merkle.specs.Cost.{ascend_cost}
use Rattle.merkle.proofs.TurnLaws.{Rising}
use Rattle.merkle.proofs.siblings.climb.Given as goal

abbrev pub invariant-loop-sibling : goal.invariant-loop-sibling
invariant-loop-sibling l =
    let H = plain digest in
    (length l.x ≡ hash_length) × (l.took ≤ 576460752303423488 + 2 * l.sibling-index)
    × ((ws : List (Place × Bool)) → l.turns ≡ turns_of ws → length l.siblings ≡ hash_length * length ws
    → Rising H (ascend H (leaf_hash H l.block) ws (hashes_in (length ws) l.siblings))
    (compressions (leaf_input H l.block) + ascend_cost H (leaf_hash H l.block) ws (hashes_in (length ws) l.siblings)) l.hashes l.x l.took l.left l.sibling-index)

-- `merkle::frontier::fits` meets its contract: every sibling of the climb stands on the right.
use Rattle.std.proofs.Common.{◌≡◌, suc, ◌+◌, ◌*◌, ◌/◌, length, sym, ap, ◌∙◌, arith}
use Rattle.sha256.specs.Sha256.{digest, compressions}
use Rattle.merkle.specs.Limits.{hash_length}
use Rattle.merkle.specs.Hash.{plain, leaf_input, leaf_hash, climb_from, climb}
use Rattle.merkle.specs.Frontier.{carried_count}
use Rattle.merkle.specs.Held.{hashes_in}
use Rattle.merkle.specs.Cost.{climb_from_cost, climb_cost, fits_cost}
use Rattle.merkle.proofs.CostLaws.{rights, rights-none, rights-length, rights-fit}
use Rattle.merkle.proofs.HeldLaws.{fits-is}
use Rattle.merkle.proofs.frontier.fits.Goals as goal

pub returns : goal.returns
unfolding climb fits_cost climb_cost
returns c =
    let a = c.args in
    let H = plain digest in
    let k = carried_count a.n (a.before + 1) in
    let m = a.siblings.now in
    let x = leaf_hash H a.block.now in
    let z : a.before + 1 ≡ suc a.before = omega arith in
    let many : length m / hash_length ≡ k = omega (arith, c.requires.2) in
    let e = c.climb-took.ensures (rights k) (sym (rights-none k)) (c.requires.2 ∙ ap (λ j. hash_length * j) (sym (rights-length k))) in
    let r = rights-fit H x k m in (
      fits-is H a.n a.before c.next_at-start.result a.hashes.now a.block.now m
          _ _ c.next_at-start.ensures.0 c.requires.2 (e.0 ∙ r.0 ∙ ap (λ j. climb_from H x (hashes_in j m)) (sym many)) c.equal.ensures,
      e.1 ∙ ap (λ j. compressions (leaf_input H a.block.now) + j) (r.1 ∙ ap (λ j. climb_from_cost H x (hashes_in (carried_count a.n j) m)) z),
    )

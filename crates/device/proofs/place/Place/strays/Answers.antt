use mathlib.Core.Path.{ap, ap₂, ◌∙◌}
use mathlib.Core.Bool.{not}
use mathlib.Core.List.{List}
use Prim.Native.Nat.{ℕ}
use Rattle.octets.specs.Octets.{equal}
use Rattle.sha256.specs.Sha256.{digest}
use Rattle.merkle.specs.Shape.{shape}
use Rattle.merkle.specs.Hash.{plain}
use Rattle.merkle.specs.Path.{leaf_depth, path_hash}
use Rattle.merkle.specs.Held.{hashes_in}
use Rattle.machine.specs.Refusals.{strays}
use Rattle.device.proofs.place.Place.strays.Goals as goal

pub returns : goal.returns
unfolding strays
returns c =
    let a = c.args in
    ap not (c.equal.ensures ∙ ap (λ (x : List ℕ). equal x a.root.now) (c.path_hash.ensures.0
    ∙ ap₂ (λ c i. path_hash (plain digest) 0 (shape c) i a.block.now (hashes_in (leaf_depth c i) a.siblings.now)) c.count.ensures c.index.ensures))

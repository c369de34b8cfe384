-- What an accepted kind 4 message does to the tree: with the old root before, the new root after, or its path clashes with the tree.
use Rattle.std.proofs.Common.{◌≡◌, sym, ap, ap₂, ◌∙◌, ◌⊎◌, inl, inr, Bool, false, List, ℕ, suc, pred, ◌+◌, ◌<◌, arith, length, take}
use Rattle.merkle.specs.Limits.{hash_length}
use Rattle.merkle.specs.Blocks.{block_count, cut}
use Rattle.merkle.specs.Shape.{size, shape}
use Rattle.merkle.specs.Hash.{plain, hash, hashes, root_over}
use Rattle.merkle.specs.Path.{path_siblings, leaf_depth, way, path_hash}
use Rattle.merkle.proofs.ShapeLaws.{size-shape}
use Rattle.merkle.proofs.HashLaws.{hash-same}
use Rattle.merkle.proofs.HeldLaws.{length-hashes_in}
use Rattle.merkle.proofs.PathLaws.{hash-replaced}
use Rattle.merkle.proofs.PathBindingLaws as binding
use Rattle.merkle.proofs.WayLaws.{leaf-depths}
use Rattle.wire.specs.declared.manifest.Manifest.{Manifest}
use Rattle.wire.specs.Geometry.{count_of, block_length, blocks_of, with_block, tree_over}
use Rattle.wire.specs.Message.{manifest_in, update_number, update_block, least_update}
use Rattle.wire.proofs.GeometryLaws.{with_blocks}
use Rattle.wire.proofs.MessageLaws.{length-update-block}
use Rattle.machine.specs.declared.state.Device.{Device}
use Rattle.machine.specs.Flash.{updated}
use Rattle.machine.specs.Refusals.{unlike}
use Rattle.machine.proofs.RefusalLaws.{alike-lengths, PathPassed, path-block}
use Rattle.guarantee.specs.Run.{siblings_in}
use Rattle.guarantee.specs.Demand3.{Clash}

-- manifests that refusal 13 does not tell apart have the same blocks and the same tree
alike-tree : (H : List ℕ → List ℕ) (s old : Manifest) (f : List ℕ) → unlike s old ≡ false → tree_over H s f ≡ tree_over H old f
unfolding tree_over blocks_of count_of
alike-tree H s old f e = let q = alike-lengths s old e in ap₂ (λ L T. root_over (plain H) (cut L (take T f)) (block_count L T)) q.0 q.1

module _ (H : List ℕ → List ℕ) (hash-long : (x : List ℕ) → length (H x) ≡ hash_length) (valid : (key message signature : List ℕ) → Bool) (d : Device) (flash m : List ℕ) (p : PathPassed H valid d flash m) where
  abbrev s : Manifest
  s = manifest_in m

  abbrev n : ℕ
  n = count_of (manifest_in m)

  abbrev i : ℕ
  i = pred (update_number m)

  abbrev f : ℕ → List ℕ
  f = blocks_of (manifest_in m) flash

  abbrev x : List ℕ
  x = update_block (block_length (manifest_in m).block_len (manifest_in m).image_len (update_number m)) m

  abbrev ys : List (List ℕ)
  ys = siblings_in m

  number : suc (pred (update_number m)) ≡ update_number m
  number = omega (arith, p.successor.turn)

  below : pred (update_number m) < count_of (manifest_in m)
  below = omega (arith, p.successor.turn)

  within : i < size (shape n)
  within = rw (size-shape n (omega (arith, below))) below

  -- the tree with the new block, from the new block and the true siblings
  replaced : tree_over H s (updated s flash m) ≡ path_hash (plain H) 0 (shape n) i x (hashes (plain H) f (path_siblings 0 (shape n) i))
  unfolding tree_over updated least_update
  replaced =
      let L = s.block_len in
      let long : length x ≡ block_length L s.image_len (suc i) = length-update-block _ m (path-block H valid d flash m p) ∙ ap (block_length L s.image_len) (sym number) in
      ap (λ k. root_over (plain H) (blocks_of s (with_block L flash k x)) n) (sym number)
      ∙ hash-same (plain H) {o = 0} {u = 0} (shape n) (record { block = λ j h. with_blocks s i flash below p.successor.room x long (0 + j) })
      ∙ hash-replaced (plain H) f (shape n) i x within

  pub path-tree : tree_over H d.manifest flash ≡ d.manifest.root → (tree_over H s (updated s flash m) ≡ s.root) ⊎ Clash H flash m
  unfolding tree_over
  path-tree e =
      let lead : path_hash (plain H) 0 (shape n) i (f i) ys ≡ hash (plain H) f 0 (shape n) = p.old ∙ sym e ∙ sym (alike-tree H s d.manifest flash p.successor.alike) in
      let count : length (way 0 (shape n) i) ≡ length ys = leaf-depths.1 n i below ∙ sym (length-hashes_in (leaf_depth n i) _) in
      go (binding.path-binding (plain H) hash-long f (f i) 0 (shape n) i within ys count lead)
    where
      go : binding.Bound (plain H) hash-long f (f i) ys 0 (shape n) i → (tree_over H s (updated s flash m) ≡ s.root) ⊎ Clash H flash m
      go (inl b) = inl (replaced ∙ ap (path_hash (plain H) 0 (shape n) i x) (sym b.1) ∙ p.new)
      go (inr c) = inr c

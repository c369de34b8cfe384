-- What the updates of both kinds meet: the tests that both have first, then their own, by the manifest and the number that were read from the message.
use Rattle.std.proofs.Common.{◌≡◌, false, List, ℕ, ◌+◌, ◌*◌, ◌≤◌, pred, length}
use lib.Dec.{ltb}
use borrow.Author.Tests.{ltb-false}
use Rattle.merkle.specs.Limits.{hash_length}
use Rattle.merkle.specs.Path.{leaf_depth}
use Rattle.wire.specs.declared.kind.Kind.TheVariants.{Update}
use Rattle.wire.specs.declared.manifest.Manifest.{Manifest}
use Rattle.wire.specs.Geometry.{count_of, block_length}
use Rattle.wire.specs.Message.{least_length, least_update, least_path}

module _ (s : Manifest) (i k : ℕ) (flash m : List ℕ) (ek : k ≡ block_length s.block_len s.image_len i) where
  -- the message has the block whole
  pub block-whole : ltb (length m) (least_update s.block_len s.image_len i) ≡ false → least_length Update + k ≤ length m
  unfolding least_update
  block-whole e = rw ek (ltb-false _ _ e)

  -- .. and its siblings
  pub path-whole : (depth : ℕ) → depth ≡ leaf_depth (count_of s) (pred i) → ltb (length m) (least_path s.block_len s.image_len i) ≡ false
      → least_length Update + k + hash_length * depth ≤ length m
  unfolding least_update least_path count_of
  path-whole depth ed e = rw (ek, ed) (ltb-false _ _ e)

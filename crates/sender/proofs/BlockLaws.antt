-- What the tests of size and number leave to the sender, and the lengths that follow.
use mathlib.Core.Path.{◌≡◌, sym, ap, ◌∙◌}
use mathlib.Core.Bool.{false}
use mathlib.Core.List.{List}
use Prim.Native.Nat.{ℕ, pred, ◌+◌, ◌-◌, ◌*◌, ◌^◌, ◌≤◌, ◌<◌}
use native.Mathlib.Omega.{arith}
use lib.ListN.{length, take}
use lib.Seq.{take-length}
use Rattle.sha256.specs.Sha256.{digest}
use Rattle.merkle.specs.Limits.{max_blocks, hash_length}
use Rattle.merkle.specs.Blocks.{block_count, cut}
use Rattle.merkle.specs.Frontier.{carried_count}
use Rattle.merkle.specs.Path.{leaf_depth}
use Rattle.wire.specs.declared.kind.Kind.TheVariants.{Block, Update}
use Rattle.wire.specs.declared.geometry.Geometry.{Geometry}
use Rattle.wire.specs.Size.{wrong_size, outside}
use Rattle.wire.specs.Geometry.{block_length}
use Rattle.wire.specs.Message.{least_length, due_length, least_update, least_path}
use Rattle.wire.proofs.SizeLaws.{sized, inside}
use Rattle.wire.proofs.MessageLaws.{due-length}
use Rattle.sender.specs.Job.{Image, Job, count, blocks, block_for, update_for, path_for}
use Rattle.sender.specs.Given.{LengthsOf}
use Rattle.sender.proofs.JobLaws as job

module _ {x : Image} {g : Geometry} (of : LengthsOf x g) where
  pub size : wrong_size x.block_len (length x.bytes) ≡ false
  size = rw (← of.block_len, ← of.image_len) g.allowed

  pub counted : block_count g.block_len g.image_len ≡ count x
  unfolding count
  counted = rw (of.block_len, of.image_len)

  -- what the tree asks of the blocks, at their number n
  pub blocks-fit : (n : ℕ) → n ≡ block_count g.block_len g.image_len → (0 < n) × (n ≤ max_blocks) × ((n - 1) * g.block_len ≤ length x.bytes) × (g.block_len ≤ 1024)
  blocks-fit n e = let z = sized g.block_len g.image_len g.allowed in rw e (z.first, z.count, omega (arith, z.below, of.image_len), z.most)

  -- a number that is not refused
  module _ (i : ℕ) (o : outside (count x) i ≡ false) where
    pub in-range : (0 < i) × (i ≤ block_count g.block_len g.image_len)
    in-range = let r = inside (count x) i o in (r.0, rw counted r.1)

    pub fits-number : i < 2 ^ 16
    fits-number = let r = in-range in let z = sized g.block_len g.image_len g.allowed in omega (arith, r.1, z.count)

    -- the block that the code cuts out, and its length
    module _ {block : List ℕ} (e : block ≡ cut g.block_len (take g.image_len x.bytes) (pred i)) where
      pub own : block ≡ blocks x (pred i)
      unfolding blocks
      own = e ∙ rw (of.block_len, of.image_len, take-length x.bytes)

      pub one : length block ≡ block_length g.block_len g.image_len i
      one = rw (of.block_len, of.image_len) (ap length own ∙ job.length-one x i in-range.0)

      -- block message and path update, by the hashes that the code writes
      pub due-parts : (n k : ℕ) → n ≡ count x → k ≡ due_length g.block_len g.image_len i
          → k ≡ least_length Block + length block + hash_length * carried_count n (i - 1 + 1)
      due-parts n k en ek =
          let d = due-length g.block_len g.image_len i (carried_count n (i - 1 + 1)) in-range.0 (ap (λ (y : ℕ). carried_count y (i - 1 + 1)) (en ∙ sym counted)) in
          omega (arith, one, d, ek)

      pub path-parts : (n k : ℕ) → n ≡ count x → k ≡ least_path g.block_len g.image_len i
          → k ≡ least_length Update + length block + hash_length * leaf_depth n (i - 1)
      unfolding least_path least_update
      path-parts n k en ek = let p : i - 1 ≡ pred i = omega (arith, in-range.0) in rw (en ∙ sym counted, p) (omega (arith, one, ek))

    -- the lengths of the messages themselves
    pub block-long : (k : ℕ) → k ≡ due_length g.block_len g.image_len i → length (block_for digest x i) ≡ k
    block-long k e = job.length-block x i in-range.0 ∙ sym (rw (← of.block_len, ← of.image_len) e)

module _ (j : Job) {g : Geometry} (of : LengthsOf j.image g) (i : ℕ) (o : outside (count j.image) i ≡ false) (signature : List ℕ) where
  pub update-long : (k : ℕ) → k ≡ least_update g.block_len g.image_len i → length (update_for digest j i signature) ≡ k + length signature
  update-long k e = job.length-update j i (in-range of i o).0 signature ∙ ap (λ (y : ℕ). y + length signature) (sym (rw (← of.block_len, ← of.image_len) e))

  pub path-long : (k : ℕ) → k ≡ least_path g.block_len g.image_len i → length (path_for digest j i signature) ≡ k + length signature
  path-long k e = job.length-path j i (in-range of i o).0 signature ∙ ap (λ (y : ℕ). y + length signature) (sym (rw (← of.block_len, ← of.image_len) e))

-- A block's siblings written from the highest down, on the way from the whole tree to the block.
use Rattle.std.proofs.Common.{◌≡◌, ℕ, ◌+◌, ◌-◌, ◌*◌, ◌<◌, ◌≤◌, ◌≢◌, List, ◌++◌, length, drop, sym, ap, ◌∙◌, subst, ⊎_elim, arith}
use lib.Seq.{paste}
use Rattle.octets.specs.Octets.{joined}
use Rattle.merkle.specs.Limits.{hash_length}
use Rattle.merkle.specs.Shape.{split, shape, Place}
use Rattle.merkle.specs.Hash.{Hashing, hash, hashes, root_over}
use Rattle.merkle.specs.Path.{path_siblings, leaf_depth, sent_path, path_hash}
use Rattle.merkle.specs.Held.{hashes_in}
use Rattle.merkle.proofs.ShapeLaws.{lt-or-le, size-shape, split_between}
use Rattle.merkle.proofs.HashLaws.{length-hashes}
use Rattle.merkle.proofs.HeldLaws.{length-joined}
use Rattle.merkle.proofs.FitsLaws.{sized-hashes, hashes-back}
use Rattle.merkle.proofs.PathLaws.{path-other}
use Rattle.merkle.proofs.WayLaws.{siblings-left, siblings-right, siblings-none, depth-at}
use Rattle.merkle.proofs.WritingLaws.{Filling, filling-none, filling-room, filling-one, filling-all}

module _ (H : Hashing) (f : ℕ → List ℕ) (n before : ℕ) (out : List ℕ) where
  -- The block is block i of the subtree over m blocks that starts after `first`; the siblings within that are still to be written.
  pub record Inside (now : List ℕ) (first m i depth : ℕ) : Type 0 where
    pub low : i < m
    pub high : first + m ≤ n
    pub filling : Filling H f (path_siblings 0 (shape n) before) out now (path_siblings first (shape m) i) depth

  pub inside-all : before < n → (depth : ℕ) → depth ≡ leaf_depth n before → hash_length * leaf_depth n before ≤ length out → Inside out 0 n before depth
  inside-all h depth e room =
      record { low = h; high = omega arith; filling = filling-none H f (path_siblings 0 (shape n) before) out depth (e ∙ sym (depth-at 0 n before)) (rw e room) }

module _ {H : Hashing} {f : ℕ → List ℕ} {n before : ℕ} {out now : List ℕ} {first m i depth : ℕ} (w : Inside H f n before out now first m i depth) where
  module _ {k : ℕ} (is : k ≡ split m) (big : 1 < m) where
    between : (0 < k) × (k < m)
    between = split_between m k big is

    module _ (lt : i < k) where
      pub left-room : (0 < depth) × (hash_length * (depth - 1) + hash_length ≤ length now)
      left-room = filling-room w.filling (path_siblings first (shape k) i) (first + k) (shape (m - k)) (siblings-left first m i k big is lt)

      pub to-left : ((x : List ℕ) → length (H.function x) ≡ hash_length)
          → Inside H f n before out (paste now (hash_length * (depth - 1)) (hash H f (first + k) (shape (m - k))) hash_length) first k i (depth - 1)
      to-left sized =
          let h = w.high in
          record {
            low = lt;
            high = omega (arith, between);
            filling = filling-one w.filling (path_siblings first (shape k) i) (first + k) (shape (m - k)) (siblings-left first m i k big is lt) sized;
          }

    module _ (le : k ≤ i) where
      pub right-room : (0 < depth) × (hash_length * (depth - 1) + hash_length ≤ length now)
      right-room = filling-room w.filling (path_siblings (first + k) (shape (m - k)) (i - k)) first (shape k) (siblings-right first m i k big is le w.low)

      pub to-right : ((x : List ℕ) → length (H.function x) ≡ hash_length)
          → Inside H f n before out (paste now (hash_length * (depth - 1)) (hash H f first (shape k)) hash_length) (first + k) (m - k) (i - k) (depth - 1)
      to-right sized =
          let h = w.high in
          let l = w.low in
          record {
            low = omega arith;
            high = omega (arith, between);
            filling = filling-one w.filling (path_siblings (first + k) (shape (m - k)) (i - k)) first (shape k) (siblings-right first m i k big is le l) sized;
          }

    pub some_left : 0 < depth
    some_left = ⊎_elim (λ h. (left-room h).0) (λ h. (right-room h).0) (lt-or-le i k)

  pub inside-done : m ≤ 1 → now ≡ sent_path H n f before ++ drop (hash_length * leaf_depth n before) out
  unfolding sent_path
  inside-done h =
      let all : List Place = path_siblings 0 (shape n) before in
      filling-all (subst (λ ps. Filling H f all out now ps depth) (siblings-none first m i h) w.filling)
      ∙ ap (λ c. joined (hashes H f all) ++ drop (hash_length * c) out) (depth-at 0 n before)

-- What the sender sends of a path is as long as the leaf is deep.
module _ (H : Hashing) where
  pub length-sent-path : ((x : List ℕ) → length (H.function x) ≡ hash_length) → (n : ℕ) (f : ℕ → List ℕ) (i : ℕ) → length (sent_path H n f i) ≡ hash_length * leaf_depth n i
  unfolding sent_path
  length-sent-path sized n f i =
      length-joined (sized-hashes H sized f (path_siblings 0 (shape n) i)) ∙ ap (λ c. hash_length * c) (length-hashes H f (path_siblings 0 (shape n) i) ∙ depth-at 0 n i)

  -- It is read back, and leads to the root of every tree that differs in that block at most.
  pub sent-leads : ((x : List ℕ) → length (H.function x) ≡ hash_length) → (n : ℕ) (f g : ℕ → List ℕ) (i : ℕ) → i < n → ((j : ℕ) → j < n → j ≢ i → f j ≡ g j)
      → path_hash H 0 (shape n) i (g i) (hashes_in (leaf_depth n i) (sent_path H n f i)) ≡ root_over H g n
  unfolding sent_path leaf_depth
  sent-leads sized n f g i h other =
      let z = size-shape n (omega arith) in
      ap (path_hash H 0 (shape n) i (g i)) (hashes-back H sized f (path_siblings 0 (shape n) i)) ∙ path-other H f g (shape n) i (rw z h) (λ j k. other j (rw z at k))

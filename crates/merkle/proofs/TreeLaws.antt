-- The tree over blocks by halves, and its hashes in one array: what the proofs of `put_hash` and its callers cite.
use Rattle.std.proofs.Common.{◌≡◌, ℕ, ◌+◌, ◌-◌, ◌*◌, ◌%◌, ◌^◌, ◌<◌, ◌≤◌, List, length, take, drop, sym, refl, ap, ◌∙◌, ap₂, inr, mul-le-mul_right, add-mul, zero-mul, zero-add, arith, length-drop, length-take-le, take-take, drop-drop, take_at, pow_mono}
use lib.Seq.{paste, take-paste}
use Rattle.octets.specs.Octets.{part}
use Rattle.sha256.specs.Sha256.{compressions}
use Rattle.octets.proofs.CopyLaws.{part-part, paste-from, paste-later}
use Rattle.merkle.specs.Limits.{hash_length, held_bytes}
use Rattle.merkle.specs.Blocks.{cut, overlay}
use Rattle.merkle.specs.Shape.{Shape, depth, split, shape}
use Rattle.merkle.specs.Hash.{Hashing, leaf_input, leaf_hash, node_hash, hash}
use Rattle.merkle.specs.Cost.{cost, cost_without}
use Rattle.merkle.proofs.ShapeLaws.{shape-leaf, halves, size-left, size-shape, depth-fits}
use Rattle.merkle.proofs.HashLaws.{hash-node, hash-same}
use Rattle.merkle.proofs.BlockLaws.{overlay-same, overlay-other}
use Rattle.merkle.proofs.CostLaws.{without-new, without-kept, without-beyond, without-within, cost-same}

-- The subtree over n blocks of len bytes that starts with block `first` (blocks before it), with block `at` of the bytes replaced: the rest is what the bytes have
-- from `first` on, `skip` says how far block `at` is from there, and `new` is the hash of the block that replaces it.
pub record Subtree (H : Hashing) (len : ℕ) (bytes block : List ℕ) (at : ℕ) (new rest : List ℕ) (first n skip : ℕ) : Type 0 where
  pub small : first + n < 2 ^ 64
  pub skips : (skip + first) % 2 ^ 64 ≡ at
  pub starts : drop (first * len) bytes ≡ rest
  pub replaced : at < first + n → new ≡ leaf_hash H block

module _ {H : Hashing} {len : ℕ} {bytes block : List ℕ} {at : ℕ} {new rest : List ℕ} {first n skip : ℕ} (s : Subtree H len bytes block at new rest first n skip) where
  -- of its halves, the blocks split at k
  pub left-of : (k : ℕ) → k < n → Subtree H len bytes block at new rest first k skip
  left-of k h =
      let l = s.small in
      record { small = omega arith; skips = s.skips; starts = s.starts; replaced = λ g. s.replaced (omega arith) }

  pub right_of : (k d : ℕ) → k < n → (d + k) % 2 ^ 64 ≡ skip → Subtree H len bytes block at new (drop (k * len) rest) (first + k) (n - k) d
  right_of k d h e =
      let l = s.small in
      let z = s.skips in
      record {
        small = omega arith;
        skips = omega arith;
        starts = ap (λ x. drop x bytes) (add-mul first k len) ∙ sym (drop-drop (k * len) (first * len) bytes) ∙ ap (drop (k * len)) s.starts;
        replaced = λ g. s.replaced (omega arith);
      }

  -- of a single block, which is the replaced one where none are skipped
  one : n ≡ 1 → leaf_hash H (overlay (cut len bytes) at block first) ≡ hash H (overlay (cut len bytes) at block) first (shape n)
  unfolding hash
  one e = rw (shape-leaf n (omega arith)) refl

  pub one-new : n ≡ 1 → skip ≡ 0 → new ≡ hash H (overlay (cut len bytes) at block) first (shape n)
  one-new e z =
      let l = s.small in
      let k = s.skips in
      let f : first ≡ at = omega arith in
      s.replaced (omega arith) ∙ ap (leaf_hash H) (sym (rw f (overlay-same (cut len bytes) at block))) ∙ one e

  pub one_kept : n ≡ 1 → skip < 2 ^ 64 → (skip ≡ 0 → ⊥) → leaf_hash H (take len rest) ≡ hash H (overlay (cut len bytes) at block) first (shape n)
  one_kept e g z =
      let l = s.small in
      let k = s.skips in
      ap (leaf_hash H) (sym (overlay-other (cut len bytes) at block first (λ f. z (omega arith)) ∙ unfold cut in ap (take len) s.starts)) ∙ one e

  -- and what that takes
  pub one-new-cost : n ≡ 1 → skip ≡ 0 → 0 ≡ cost_without H at (overlay (cut len bytes) at block) first (shape n)
  one-new-cost e z =
      let l = s.small in
      let k = s.skips in
      without-new H at (overlay (cut len bytes) at block) first n e (omega arith)

  pub one-kept-cost : n ≡ 1 → skip < 2 ^ 64 → (skip ≡ 0 → ⊥)
      → compressions (leaf_input H (take len rest)) ≡ cost_without H at (overlay (cut len bytes) at block) first (shape n)
  one-kept-cost e g z =
      let l = s.small in
      let k = s.skips in
      let other : first ≡ at → ⊥ = λ f. z (omega arith) in
      ap (λ b. compressions (leaf_input H b)) (sym (overlay-other (cut len bytes) at block first other ∙ unfold cut in ap (take len) s.starts))
      ∙ without-kept H at (overlay (cut len bytes) at block) first n e other

-- The hash of the tree over n blocks, o before it, from those of its halves.
pub hash-two : (H : Hashing) (f : ℕ → List ℕ) (o n k : ℕ) (x y : List ℕ) → 1 < n → k ≡ split n → x ≡ hash H f o (shape k) → y ≡ hash H f (o + k) (shape (n - k))
    → node_hash H x y ≡ hash H f o (shape n)
hash-two H f o n k x y big is ex ey =
    ap₂ (λ u v. node_hash H u v) ex (ey ∙ ap (λ z. hash H f (o + z) (shape (n - k))) (sym (size-left n k big is)))
    ∙ sym (ap (hash H f o) (halves n k big is) ∙ hash-node H f o (shape k) (shape (n - k)))

-- A replaced block that is none of the tree's leaves the hash as it is.
pub hash-beyond : (H : Hashing) (f : ℕ → List ℕ) (at : ℕ) (b : List ℕ) (o n : ℕ) → 0 < n → o + n ≤ at → hash H (overlay f at b) o (shape n) ≡ hash H f o (shape n)
hash-beyond H f at b o n pos h =
    hash-same H (shape n) (record { block = λ j k. overlay-other f at b (o + j) (λ e. omega (arith, size-shape n pos)) })

pub cost-beyond : (H : Hashing) (f : ℕ → List ℕ) (at : ℕ) (b : List ℕ) (o n : ℕ) → 0 < n → o + n ≤ at → cost_without H at (overlay f at b) o (shape n) ≡ cost H f o (shape n)
cost-beyond H f at b o n pos h =
    without-beyond H at (overlay f at b) o (shape n) (inr (omega (arith, size-shape n pos)))
    ∙ cost-same H (shape n) (record { block = λ j k. overlay-other f at b (o + j) (λ e. omega (arith, size-shape n pos)) })

-- A replaced block that is one of the tree's.
pub cost-with : (H : Hashing) (f : ℕ → List ℕ) (at : ℕ) (b : List ℕ) (n c r : ℕ) → at < n → c ≡ compressions (leaf_input H b) → r ≡ cost_without H at (overlay f at b) 0 (shape n)
    → c + r ≡ cost H (overlay f at b) 0 (shape n)
cost-with H f at b n c r lt ec er =
    let w = without-within H at (overlay f at b) 0 (shape n) (omega arith) (omega (arith, size-shape n (omega arith))) in
    let e : compressions (leaf_input H (overlay f at b at)) ≡ c = ap (λ x. compressions (leaf_input H x)) (overlay-same f at b) ∙ sym ec in
    omega arith

-- The bytes, as blocks of len bytes, are those of `whole`, as blocks of L bytes, from block `first` on.
pub record PartOf (L : ℕ) (whole : List ℕ) (first len : ℕ) (bytes : List ℕ) : Type 0 where
  pub long : len ≡ L
  pub starts : bytes ≡ drop (first * L) whole

pub part-all : (L : ℕ) (whole : List ℕ) → PartOf L whole 0 L whole
part-all L whole = record { long = refl; starts = sym (ap (λ x. drop x whole) (zero-mul L)) }

module _ {L : ℕ} {whole : List ℕ} {first len : ℕ} {bytes : List ℕ} (p : PartOf L whole first len bytes) where
  -- its halves
  pub part-left : {k : ℕ} {a : List ℕ} → a ≡ bytes → k ≡ len → PartOf L whole first k a
  part-left ea ek = record { long = ek ∙ p.long; starts = ea ∙ p.starts }

  pub part-right : (m : ℕ) {k : ℕ} {a : List ℕ} → a ≡ drop (m * len) bytes → k ≡ len → PartOf L whole (first + m) k a
  part-right m ea ek =
      record { long = ek ∙ p.long; starts = ea ∙ rw (p.long, p.starts, add-mul first m L, drop-drop (m * L) (first * L) whole) }

  -- the hash of a tree over it
  pub part-hash : (H : Hashing) (s : Shape) → hash H (cut len bytes) 0 s ≡ hash H (cut L whole) first s
  unfolding cut
  part-hash H s = hash-same H s (record { block = λ j k. same j })
    where
      same : (j : ℕ) → cut len bytes (0 + j) ≡ cut L whole (first + j)
      same j =
          let z : 0 + j ≡ j = omega arith in
          rw (p.long, p.starts, z, add-mul first j L, drop-drop (j * L) (first * L) whole)

-- So deep a tree has no more blocks than this.
pub blocks-few : (to n : ℕ) → to + hash_length * depth n ≤ held_bytes → n ≤ 2048
blocks-few to n h = let d : depth n ≤ 11 = omega arith in omega (arith, depth-fits n, pow_mono d)

-- The bytes are long enough for both halves.
pub short_fits : (L A n k : ℕ) → k ≤ n → (n - 1) * L ≤ A → (k - 1) * L ≤ A
short_fits L A n k h q = let e : k - 1 ≤ n - 1 = omega arith in omega (arith, mul-le-mul_right L e)

pub left-fits : (L A n k : ℕ) → k < n → (n - 1) * L ≤ A → k * L ≤ A
left-fits L A n k h q = let e : k ≤ n - 1 = omega arith in omega (arith, mul-le-mul_right L e)

pub right-fits : (L n k m : ℕ) (a : List ℕ) → 0 < m → k + m ≤ n → (n - 1) * L ≤ length a → (m - 1) * L ≤ length (drop (k * L) a)
right-fits L n k m a pos h q =
    let e : k + (m - 1) ≤ n - 1 = omega arith in
    rw (length-drop (k * L) a) (omega (arith, mul-le-mul_right L e, add-mul k (m - 1) L))

-- Arrays that agree up to index i + k have the same part there.
pub part_same : (a b : List ℕ) (i k : ℕ) → take (i + k) a ≡ take (i + k) b → part i k a ≡ part i k b
part_same a b i k e = sym (within a) ∙ ap (part i k) e ∙ within b
  where
    within : (s : List ℕ) → part i k (take (i + k) s) ≡ part i k s
    within s = part-part s 0 (i + k) i k (omega arith) ∙ ap (λ j. part j k s) (zero-add i)

-- The array of a tree's hashes: what stands before index `to` is as it was, and so is the one that replaces a block's own.
abbrev pub Kept : (to : ℕ) (was now : List ℕ) → Type 0
Kept to was now = (take to now ≡ take to was) × (drop (held_bytes + hash_length) now ≡ drop (held_bytes + hash_length) was)

pub kept_then : (to i : ℕ) → to ≤ i → (a b c : List ℕ) → Kept to a b → Kept i b c → Kept to a c
kept_then to i h a b c p q = (sym (take-take to i c h) ∙ ap (take to) q.0 ∙ take-take to i b h ∙ p.0, q.1 ∙ p.1)

pub kept-long : (to : ℕ) (a b : List ℕ) → held_bytes + hash_length < length a → Kept to a b → length b ≡ length a
kept-long to a b h k = omega (arith, length-drop (held_bytes + hash_length) a, length-drop (held_bytes + hash_length) b, ap length k.1)

-- A hash x is put to index `to`.
module _ (a x : List ℕ) (to : ℕ) (long : length x ≡ hash_length) (room : to + hash_length ≤ length a) where
  pub put-here : part to hash_length (paste a to x (length x)) ≡ x
  put-here = ap (take hash_length) (paste-from a x to (omega arith)) ∙ take_at x (drop (to + length x) a) hash_length long

  put-before : take to (paste a to x (length x)) ≡ take to a
  put-before =
      sym (take-take to (to + length x) (paste a to x (length x)) (omega arith)) ∙ ap (take to) (take-paste a to x (length x) (omega arith) (omega arith))
      ∙ take_at (take to a) (take (length x) x) to (length-take-le to a (omega arith))

  pub put-kept : to ≤ held_bytes → Kept to a (paste a to x (length x))
  put-kept h = (put-before, paste-later a x to (held_bytes + hash_length) (omega arith) (omega arith) refl)

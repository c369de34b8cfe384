-- The split is the largest power of two below n; the tree over n blocks has n blocks and the depth's levels.
-- Its two equations, `shape-leaf` and `shape-node`, are all that later laws use of it.
use Rattle.std.proofs.Common.{◌≡◌, ℕ, zero, suc, pred, ◌+◌, ◌-◌, ◌*◌, ◌^◌, ◌<◌, ◌≤◌, max, ◌⊎◌, sym, refl, ap, ◌∙◌, ap₂, inl, inr, ⊎_elim, pow-suc, arith, lit<, pow_pos, pow_mono, le-ltb, lt-ltb, le-leb}
use native.Mathlib.Nat.{pow-zero}
use native.Mathlib.Decide.{dec_lt}
use borrow.Author.Tests.{lt-leb}
use Rattle.merkle.specs.Shape.{Shape, leaf, node, size, height, least_from, depth, split, build, shape}
use Rattle.merkle.specs.Claims.{SplitLargest, ShapeHalves, DepthLeast}

pub lt-or-le : (a b : ℕ) → (a < b) ⊎ (b ≤ a)
lt-or-le a b = go (dec_lt a b)
  where
    go : Dec (a < b) → (a < b) ⊎ (b ≤ a)
    go (yes p) = inl p
    go (no n) = inr (omega arith)

pub size-pos : (s : Shape) → 0 < size s
unfolding size
size-pos leaf = lit< tt
size-pos (node l r) = omega (arith, size-pos l)

pub size-leaf : size leaf ≡ 1
unfolding size
size-leaf = refl

pub size-node : (l r : Shape) → size (node l r) ≡ size l + size r
unfolding size
size-node l r = refl

lt-pow : (n : ℕ) → n < 2 ^ n
lt-pow zero = omega arith
lt-pow (suc n) = omega (arith, lt-pow n, pow-suc 2 n)

least-here : (tries d n : ℕ) → n ≤ 2 ^ d → least_from (suc tries) d n ≡ d
unfolding least_from
least-here tries d n h = rw (le-leb n (2 ^ d) h, least_from)

least-later : (tries d n : ℕ) → 2 ^ d < n → least_from (suc tries) d n ≡ least_from tries (suc d) n
unfolding least_from
least-later tries d n h = rw (lt-leb n (2 ^ d) h, least_from)

least_fits : (tries d n : ℕ) → n ≤ 2 ^ (d + tries) → n ≤ 2 ^ least_from tries d n
unfolding least_from
least_fits zero d n h = let e : d + 0 ≡ d = omega arith in rw e at h
least_fits (suc tries) d n h = go (lt-or-le (2 ^ d) n) (least_fits tries (suc d) n (let e : d + suc tries ≡ suc d + tries = omega arith in rw e at h))
  where
    go : (2 ^ d < n) ⊎ (n ≤ 2 ^ d) → n ≤ 2 ^ least_from tries (suc d) n → n ≤ 2 ^ least_from (suc tries) d n
    go (inl p) ih = rw (least-later tries d n p) ih
    go (inr p) ih = rw (least-here tries d n p) p

-- a power that is too small has a smaller exponent
below-exponent : (d e n : ℕ) → 2 ^ d < n → n ≤ 2 ^ e → d < e
below-exponent d e n lo hi = ⊎_elim (λ (w : d < e). w) (λ (w : e ≤ d). absurd (omega (arith, pow_mono w))) (lt-or-le d e)

least-least : (tries d n e : ℕ) → d ≤ e → n ≤ 2 ^ e → least_from tries d n ≤ e
unfolding least_from
least-least zero d n e le h = le
least-least (suc tries) d n e le h = go (lt-or-le (2 ^ d) n) (least-least tries (suc d) n e)
  where
    go : (2 ^ d < n) ⊎ (n ≤ 2 ^ d) → (suc d ≤ e → n ≤ 2 ^ e → least_from tries (suc d) n ≤ e) → least_from (suc tries) d n ≤ e
    go (inl p) ih = rw (least-later tries d n p) (ih (below-exponent d e n p h) h)
    go (inr p) ih = rw (least-here tries d n p) le

-- The depth d is the least with 2 to the power d at least n.
pub depth-fits : (n : ℕ) → n ≤ 2 ^ depth n
unfolding depth
depth-fits n = least_fits n 0 n (let e : 0 + n ≡ n = omega arith in rw e (omega (arith, lt-pow n)))

pub depth-least : (n d : ℕ) → n ≤ 2 ^ d → depth n ≤ d
unfolding depth
depth-least n d h = least-least n 0 n d (omega arith) h

-- The split k of n blocks is the largest power of two below n.
pub record Split (n k : ℕ) : Type 0 where
  pub exponent : ℕ
  pub power : k ≡ 2 ^ exponent
  pub pos : 0 < k
  pub below : k < n
  pub twice : n ≤ 2 * k
  pub largest : (e : ℕ) → 2 ^ e < n → 2 ^ e ≤ k

pub split-known : (n : ℕ) → 1 < n → Split n (split n)
unfolding split
split-known n h = go (depth n) refl
  where
    go : (d : ℕ) → depth n ≡ d → Split n (split n)
    go zero e = absurd (omega (arith, (rw e at (depth-fits n)), pow-zero 2))
    go (suc d) e =
        let here : split n ≡ 2 ^ d = ap (λ k. 2 ^ pred k) e in
        let fits : n ≤ 2 ^ suc d = (rw e at (depth-fits n)) in
        let under : 2 ^ d < n = ⊎_elim (λ (w : 2 ^ d < n). w) (λ (w : n ≤ 2 ^ d). absurd (omega (arith, depth-least n d w))) (lt-or-le (2 ^ d) n) in
        record {
          exponent = d;
          power = here;
          pos = rw here (pow_pos d);
          below = rw here under;
          twice = rw here (omega (arith, pow-suc 2 d));
          largest = λ j lo. rw here (pow_mono (omega (arith, below-exponent j (suc d) n lo fits)));
        }

-- A power of two below n, whose double is not below n, is the split.
pub split-is : (n e : ℕ) → 2 ^ e < n → n ≤ 2 * 2 ^ e → split n ≡ 2 ^ e
unfolding split
split-is n e lo hi =
    let up : depth n ≤ suc e = depth-least n (suc e) (omega (arith, pow-suc 2 e)) in
    let down : e < depth n = below-exponent e (depth n) n lo (depth-fits n) in
    ap (λ k. 2 ^ k) (omega arith)

build-leaf : (levels n : ℕ) → n ≤ 1 → build levels n ≡ leaf
unfolding build
build-leaf zero n h = refl
build-leaf (suc levels) n h = rw (le-ltb 1 n h, build)

build-node : (levels n : ℕ) → 1 < n → build (suc levels) n ≡ node (build levels (split n)) (build levels (n - split n))
unfolding build
build-node levels n h = rw (lt-ltb 1 n h, build)

-- any bound from n on will do
build-enough : (a b n : ℕ) → n ≤ a → n ≤ b → build a n ≡ build b n
build-enough zero b n p q = build-leaf 0 n (omega arith) ∙ sym (build-leaf b n (omega arith))
build-enough (suc a) zero n p q = build-leaf (suc a) n (omega arith) ∙ sym (build-leaf 0 n (omega arith))
build-enough (suc a) (suc b) n p q = go (lt-or-le 1 n) (build-enough a b)
  where
    go : (1 < n) ⊎ (n ≤ 1) → ((m : ℕ) → m ≤ a → m ≤ b → build a m ≡ build b m) → build (suc a) n ≡ build (suc b) n
    go (inr w) ih = build-leaf (suc a) n w ∙ sym (build-leaf (suc b) n w)
    go (inl w) ih =
        let k = split-known n w in
        let below = k.below in
        let pos = k.pos in
        build-node a n w ∙ ap₂ node (ih (split n) (omega arith) (omega arith)) (ih (n - split n) (omega arith) (omega arith)) ∙ sym (build-node b n w)

pub shape-leaf : (n : ℕ) → n ≤ 1 → shape n ≡ leaf
unfolding shape
shape-leaf n h = build-leaf n n h

shape-node : (n : ℕ) → 1 < n → shape n ≡ node (shape (split n)) (shape (n - split n))
unfolding shape
shape-node zero h = absurd (omega arith)
shape-node (suc m) h =
    let k = split-known (suc m) h in
    let below = k.below in
    let pos = k.pos in
    build-node m (suc m) h
    ∙ ap₂ node (build-enough m (split (suc m)) (split (suc m)) (omega arith) (omega arith))
    (build-enough m (suc m - split (suc m)) (suc m - split (suc m)) (omega arith) (omega arith))

-- What holds of one block, and of a tree where it holds of both halves, holds of the tree over n blocks.
pub by-halves : (P : ℕ → Shape → Type 0) → P 1 leaf
    → ((n k : ℕ) → 1 < n → k ≡ split n → k < n → P k (shape k) → P (n - k) (shape (n - k)) → P n (node (shape k) (shape (n - k))))
    → (n : ℕ) → 0 < n → P n (shape n)
by-halves P one two n pos = go n n pos (omega arith)
  where
    go : (bound n : ℕ) → 0 < n → n ≤ bound → P n (shape n)
    go zero n pos le = absurd (omega arith)
    go (suc bound) n pos le = step (lt-or-le 1 n) (go bound)
      where
        step : (1 < n) ⊎ (n ≤ 1) → ((m : ℕ) → 0 < m → m ≤ bound → P m (shape m)) → P n (shape n)
        step (inr w) ih = let e : n ≡ 1 = omega arith in rw (shape-leaf n w, e) one
        step (inl w) ih =
            let k = split-known n w in
            let below = k.below in
            let pos = k.pos in
            rw (shape-node n w) (two n (split n) w refl below (ih (split n) pos (omega arith)) (ih (n - split n) (omega arith) (omega arith)))

pub size-shape : (n : ℕ) → 0 < n → size (shape n) ≡ n
unfolding size
size-shape = by-halves (λ n s. size s ≡ n) refl (λ n k big is lt a b. omega arith)

pub height-node : (l r : Shape) → height (node l r) ≡ suc (max (height l) (height r))
unfolding height
height-node l r = refl

-- the depth is the one exponent whose power of two is at least n and not twice n
pub depth_is : (n d : ℕ) → n ≤ 2 ^ d → 2 ^ d < 2 * n → depth n ≡ d
depth_is n d fits least =
    ⊎_elim (λ (w : depth n < d). absurd (omega (arith, pow_mono w, pow-suc 2 (depth n), depth-fits n)))
    (λ (w : d ≤ depth n). omega (arith, depth-least n d fits))
    (lt-or-le (depth n) d)

pub depth-one : depth 1 ≡ 0
depth-one = depth_is 1 0 (omega (arith, pow-zero 2)) (omega (arith, pow-zero 2))

-- The left half is one level less deep, and the right half no deeper than that.
pub depth-halves : (n k : ℕ) → 1 < n → k ≡ split n → (depth n ≡ suc (depth k)) × (depth (n - k) ≤ depth k)
depth-halves n k big is =
    let s = split-known n big in
    let e = s.exponent in
    let here : k ≡ 2 ^ e = is ∙ s.power in
    let half : depth k ≡ e = depth_is k e (omega arith) (omega (arith, pow_pos e)) in
    let whole : depth n ≡ suc e = depth_is n (suc e) (omega (arith, pow-suc 2 e)) (omega (arith, pow-suc 2 e)) in
    let twice = s.twice in
    (omega arith, rw half (depth-least (n - k) e (omega arith)))

height-depth : (n : ℕ) → 0 < n → height (shape n) ≡ depth n
unfolding height
height-depth =
    by-halves (λ n s. height s ≡ depth n) (sym depth-one)
    (λ n k big is lt a b. let d = depth-halves n k big is in height-node (shape k) (shape (n - k)) ∙ omega arith)

-- What the claims say of the tree over n blocks.
pub split-largest : SplitLargest
split-largest n h = let s = split-known n h in record { exponent = s.exponent; power = s.power; below = s.below; largest = s.largest }

pub shape-halves : ShapeHalves
shape-halves = (shape-leaf 1 (omega arith), shape-node, size-shape)

pub depth-known : DepthLeast
depth-known n = (depth-fits n, depth-least n, height-depth n)

-- The tree over n blocks, n above 1, from its halves, k the split.
module _ (n k : ℕ) (big : 1 < n) (is : k ≡ split n) where
  pub split_between : (0 < k) × (k < n)
  split_between = let s = split-known n big in (rw is s.pos, rw is s.below)

  pub halves : shape n ≡ node (shape k) (shape (n - k))
  halves = rw is (shape-node n big)

  pub size-left : size (shape k) ≡ k
  size-left = size-shape k split_between.0

  pub size-right : size (shape (n - k)) ≡ n - k
  size-right = let s = split_between in size-shape (n - k) (omega arith)

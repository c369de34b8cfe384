-- The largest subtree at a block found by halving, and its right siblings written from the highest down.
use Rattle.std.proofs.Common.{◌≡◌, ℕ, suc, ◌+◌, ◌-◌, ◌*◌, ◌<◌, ◌≤◌, List, [], ◌∷◌, ◌++◌, length, drop, sym, refl, ap, ◌∙◌, subst, zero-add, arith}
use lib.Seq.{paste}
use Rattle.octets.specs.Octets.{joined}
use Rattle.merkle.specs.Limits.{hash_length}
use Rattle.merkle.specs.Shape.{split, shape, Place}
use Rattle.merkle.specs.Hash.{Hashing, hash, hashes}
use Rattle.merkle.specs.Frontier.{largest, right_siblings, siblings, carried_count}
use Rattle.merkle.specs.Held.{sent}
use Rattle.merkle.proofs.ShapeLaws.{shape-leaf, split_between, halves, size-left}
use Rattle.merkle.proofs.FrontierLaws.{largest-zero, largest-left, largest-right}
use Rattle.merkle.proofs.WritingLaws.{Filling, filling-none, filling-room, filling-one, filling-all}

-- The largest subtree that starts after `before` of n blocks is the largest after i of m blocks that stand within the n.
pub record Within (n before m i : ℕ) : Type 0 where
  pub start : ℕ
  pub at : start + i ≡ before
  pub low : i < m
  pub high : start + m ≤ n
  pub same : largest 0 (shape n) before ≡ largest start (shape m) i

pub within_all : (n before : ℕ) → before < n → Within n before n before
within_all n before h = record { start = 0; at = zero-add before; low = h; high = omega arith; same = refl }

module _ (n before m i k : ℕ) (w : Within n before m i) (pos : 0 < i) (is : k ≡ split m) where
  big : 1 < m
  big = let l = w.low in omega arith

  pub within-left : i < k → Within n before k i
  within-left lt =
      let s = split_between m k big is in
      let h = w.high in
      record {
        start = w.start;
        at = w.at;
        low = lt;
        high = omega arith;
        same = w.same ∙ ap (λ s. largest w.start s i) (halves m k big is)
            ∙ largest-left w.start (shape k) (shape (m - k)) i pos (rw (size-left m k big is) lt);
      }

  pub within-right : k ≤ i → Within n before (m - k) (i - k)
  within-right le =
      let s = split_between m k big is in
      let h = w.high in
      let l = w.low in
      let a = w.at in
      record {
        start = w.start + k;
        at = omega arith;
        low = omega arith;
        high = omega arith;
        same = w.same ∙ ap (λ s. largest w.start s i) (halves m k big is)
            ∙ largest-right w.start (shape k) (shape (m - k)) i (rw (size-left m k big is) le)
            ∙ ap (λ x. largest (w.start + x) (shape (m - k)) (i - x)) (size-left m k big is);
      }

pub within-found : (n before m i : ℕ) → i ≤ 0 → Within n before m i → (0 < m) × (before + m ≤ n) × (largest 0 (shape n) before ≡ (before, shape m))
within-found n before m i h w =
    let z : i ≡ 0 = omega arith in
    let a = w.at in
    let l = w.low in
    let k = w.high in (
      omega arith,
      omega arith,
      w.same ∙ ap (largest w.start (shape m)) z ∙ largest-zero w.start (shape m) ∙ ap (λ (x : ℕ). (x, shape m)) (omega arith),
    )

-- The right siblings of m blocks: those of the left half, and the right half.
siblings-halves : (o m k : ℕ) → 1 < m → k ≡ split m → right_siblings o (shape m) ≡ right_siblings o (shape k) ++ ((o + k, shape (m - k)) ∷ [])
siblings-halves o m k big is =
    rw (halves m k big is) (unfold right_siblings in (ap (λ x. right_siblings o (shape k) ++ ((o + x, shape (m - k)) ∷ [])) (size-left m k big is)))

carried-is : (n before : ℕ) → carried_count n (before + 1) ≡ length (siblings 0 (shape n) before)
unfolding carried_count
carried-is n before = let z : before + 1 ≡ suc before = omega arith in rw z

module _ (H : Hashing) (f : ℕ → List ℕ) (n before : ℕ) (out : List ℕ) where
  -- The right siblings above the block in the subtree over m blocks that starts with it are still to be written.
  pub record Writing (now : List ℕ) (m c : ℕ) : Type 0 where
    pub high : before + m ≤ n
    pub filling : Filling H f (siblings 0 (shape n) before) out now (right_siblings before (shape m)) c

  pub writing-none : (m c : ℕ) → before + m ≤ n → largest 0 (shape n) before ≡ (before, shape m) → c ≡ carried_count n (before + 1) → hash_length * c ≤ length out → Writing out m c
  unfolding siblings
  writing-none m c h e is room =
      let all = filling-none H f (siblings 0 (shape n) before) out c (is ∙ carried-is n before) room in
      record { high = h; filling = subst (λ (p : Place). Filling H f (siblings 0 (shape n) before) out out (right_siblings p.0 p.1) c) e all }

module _ {H : Hashing} {f : ℕ → List ℕ} {n before : ℕ} {out now : List ℕ} {m c : ℕ} (w : Writing H f n before out now m c) where
  module _ {k : ℕ} (is : k ≡ split m) (big : 1 < m) where
    pub writing-room : (0 < c) × (hash_length * (c - 1) + hash_length ≤ length now)
    writing-room = filling-room w.filling (right_siblings before (shape k)) (before + k) (shape (m - k)) (siblings-halves before m k big is)

    pub writing-one : ((x : List ℕ) → length (H.function x) ≡ hash_length)
        → Writing H f n before out (paste now (hash_length * (c - 1)) (hash H f (before + k) (shape (m - k))) hash_length) k (c - 1)
    writing-one sized =
        let h = w.high in
        record {
          high = omega (arith, split_between m k big is);
          filling = filling-one w.filling (right_siblings before (shape k)) (before + k) (shape (m - k)) (siblings-halves before m k big is) sized;
        }

  pub writing-done : m ≤ 1 → now ≡ sent H n f before ++ drop (hash_length * carried_count n (before + 1)) out
  unfolding sent right_siblings
  writing-done h =
      let all : List Place = siblings 0 (shape n) before in
      filling-all (subst (λ s. Filling H f all out now (right_siblings before s) c) (shape-leaf m h) w.filling)
      ∙ ap (λ x. joined (hashes H f all) ++ drop (hash_length * x) out) (sym (carried-is n before))

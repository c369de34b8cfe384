-- Blocks of a run of bytes: writing one changes that one alone, and equal blocks are equal bytes.
use Rattle.std.proofs.Common.{◌≡◌, ℕ, zero, suc, ◌+◌, ◌-◌, ◌*◌, ◌/◌, ◌%◌, ◌<◌, ◌≤◌, min, Bool, true, false, cond, eqb, ◌≢◌, ◌⊎◌, List, ◌++◌, length, take, drop, sym, refl, ap, ◌∙◌, ap₂, inl, inr, append_assoc, append-nil, le_trans, mul-le-mul_right, mod-lt, div-add-mod', div-mul-le_self, arith, length-drop, take-append-drop, drop_of_length-le, length-take, length-take-le, take_all, drop-drop, take_at, take-add, eq-eqb, ne_eqb, eqb-true}
use native.Mathlib.Nat.{div-zero}
use lib.Seq.{paste, take-append-le, drop-append-le, drop-append-add, length-paste, length_paste_head}
use borrow.Author.Tests.{eqb-false}
use Rattle.merkle.specs.Blocks.{block_count, cut, overlay}
use Rattle.merkle.specs.Claims.{Rounded, CountRounded}
use Rattle.octets.proofs.CopyLaws.{paste-from}
use Rattle.merkle.proofs.ShapeLaws.{lt-or-le}

pub block-count : CountRounded
unfolding block_count
block-count L T pos some = go ((T + (L - 1)) / L) (div-add-mod' (T + (L - 1)) L) (mod-lt (T + (L - 1)) pos)
  where
    go : (n : ℕ) → n * L + (T + (L - 1)) % L ≡ T + (L - 1) → (T + (L - 1)) % L < L → Rounded L T n
    go zero e h = absurd (omega arith)
    go (suc m) e h =
        let z : suc m - 1 ≡ m = omega arith in
        record { some = omega arith; below = rw z (omega arith); enough = omega arith }

-- A block starts within the bytes.
pub block-starts : (L T i : ℕ) → i < block_count L T → (0 < L) × (i * L < T)
unfolding block_count
block-starts zero T i h = absurd (omega (arith, div-zero (T + (0 - 1))))
block-starts (suc k) T i h =
    let e : suc i * suc k ≤ T + (suc k - 1) = le_trans (mul-le-mul_right (suc k) h) (div-mul-le_self (T + (suc k - 1)) (suc k)) in
    (omega arith, omega arith)

module _ (f : ℕ → List ℕ) (at : ℕ) (b : List ℕ) where
  pub overlay-same : overlay f at b at ≡ b
  unfolding overlay
  overlay-same = rw (eq-eqb at at refl, overlay)

  pub overlay-other : (j : ℕ) → j ≢ at → overlay f at b j ≡ f j
  unfolding overlay
  overlay-other j n = rw (ne_eqb j at n, overlay)

-- Blocks that agree with g's but for one are g's with that one replaced by g's own.
pub overlay-is : (f g : ℕ → List ℕ) (at : ℕ) (j : ℕ) → (j ≢ at → f j ≡ g j) → overlay f at (g at) j ≡ g j
unfolding overlay
overlay-is f g at j other = go (eqb j at) refl
  where
    go : (t : Bool) → eqb j at ≡ t → cond t (g at) (f j) ≡ g j
    go true e = ap g (sym (eqb-true j at e))
    go false e = other (eqb-false j at e)

-- A block within the front of a run of bytes.
pub cut-front : (L : ℕ) (u v : List ℕ) (j : ℕ) → j * L + L ≤ length u → cut L (u ++ v) j ≡ cut L u j
unfolding cut
cut-front L u v j h = rw (drop-append-le (j * L) u v (omega arith)) (take-append-le L (drop (j * L) u) v (rw (length-drop (j * L) u) (omega arith)))

-- The first n + 1 blocks are the first n and one more.
pub take-blocks : (L : ℕ) (a : List ℕ) (n : ℕ) → take (suc n * L) a ≡ take (n * L) a ++ cut L a n
unfolding cut
take-blocks L a n = let e : suc n * L ≡ n * L + L = omega arith in rw e (take-add (n * L) L a)

-- Equal blocks mean equal bytes.
pub blocks-equal : (L : ℕ) (a b : List ℕ) (n : ℕ) → ((j : ℕ) → j < n → cut L a j ≡ cut L b j) → take (n * L) a ≡ take (n * L) b
blocks-equal L a b zero e = let z : 0 * L ≡ 0 = omega arith in rw z
blocks-equal L a b (suc n) e =
    take-blocks L a n ∙ ap₂ {C = List ℕ} (λ u v. u ++ v) (blocks-equal L a b n (λ j g. e j (omega arith))) (e n (omega arith)) ∙ sym (take-blocks L b n)

-- A block x, as long as the one it replaces, is written at its place.
module _ (L : ℕ) (a x : List ℕ) (i : ℕ) (room : i * L ≤ length a) (long : length x ≡ length (cut L a i)) where
  after : List ℕ
  after = paste a (i * L) x (length x)

  size-x : length x ≡ min L (length a - i * L)
  unfolding cut
  size-x = long ∙ length-take L (drop (i * L) a) ∙ ap (min L) (length-drop (i * L) a)

  fits : i * L + length x ≤ length a
  fits = omega (arith, size-x)

  length-after : length after ≡ length a
  unfolding after
  length-after = length-paste a (i * L) x (length x) fits (omega arith)

  written-here : cut L after i ≡ x
  unfolding cut after
  written-here = rw (paste-from a x (i * L) room) (go (lt-or-le (length x) L))
    where
      go : (length x < L) ⊎ (L ≤ length x) → take L (x ++ drop (i * L + length x) a) ≡ x
      go (inl w) = rw (drop_of_length-le a {i = i * L + length x} (omega (arith, size-x)), append-nil x) (take_all L x (omega arith))
      go (inr w) = take_at x (drop (i * L + length x) a) L (omega (arith, size-x))

  written-before : (j : ℕ) → j < i → cut L after j ≡ cut L a j
  unfolding after
  written-before j lt =
      let m : suc j * L ≤ i * L = mul-le-mul_right L lt in
      let lp : length (take (i * L) a) ≡ i * L = length-take-le (i * L) a room in
      ap (λ y. cut L y j) (append_assoc (take (i * L) a) (take (length x) x) (drop (i * L + length x) a))
      ∙ cut-front L (take (i * L) a) (take (length x) x ++ drop (i * L + length x) a) j (omega arith)
      ∙ sym (cut-front L (take (i * L) a) (drop (i * L) a) j (omega arith)) ∙ ap (λ y. cut L y j) (take-append-drop (i * L) a)

  written_after : (j : ℕ) → i < j → cut L after j ≡ cut L a j
  unfolding cut after
  written_after j lt = go (lt-or-le (length x) L)
    where
      m : suc i * L ≤ j * L
      m = mul-le-mul_right L lt

      go : (length x < L) ⊎ (L ≤ length x) → take L (drop (j * L) after) ≡ take L (drop (j * L) a)
      go (inl w) = rw (drop_of_length-le after {i = j * L} (omega (arith, m, size-x, length-after)), drop_of_length-le a {i = j * L} (omega (arith, m, size-x)))
      go (inr w) =
          let k : i * L + length x + (j * L - (i * L + length x)) ≡ j * L = omega (arith, m, size-x) in
          let head : length (take (i * L) a ++ take (length x) x) ≡ i * L + length x = length_paste_head a (i * L) x (length x) room (omega arith) in
          ap (take L)
          (ap (λ y. drop y after) (sym k ∙ ap (λ y. y + (j * L - (i * L + length x))) (sym head))
          ∙ drop-append-add (take (i * L) a ++ take (length x) x) (drop (i * L + length x) a) (j * L - (i * L + length x))
          ∙ drop-drop (j * L - (i * L + length x)) (i * L + length x) a ∙ ap (λ y. drop y a) k)

  -- Then the blocks are those before with this one replaced.
  pub written : (j : ℕ) → cut L (paste a (i * L) x (length x)) j ≡ overlay (cut L a) i x j
  unfolding after
  written j = go (lt-or-le j i) (lt-or-le i j)
    where
      go : (j < i) ⊎ (i ≤ j) → (i < j) ⊎ (j ≤ i) → cut L after j ≡ overlay (cut L a) i x j
      go (inl u) v = written-before j u ∙ sym (overlay-other (cut L a) i x j (λ e. omega arith))
      go (inr u) (inl v) = written_after j v ∙ sym (overlay-other (cut L a) i x j (λ e. omega arith))
      go (inr u) (inr v) = let e : j ≡ i = omega arith in rw e (written-here ∙ sym (overlay-same (cut L a) i x))

-- Copies and parts.
use mathlib.Core.Path.{◌≡◌, refl, sym, ap, ap₂, ◌∙◌}
use mathlib.Core.List.{List, [], ◌∷◌, ◌++◌, append_assoc, append-nil}
use Prim.Native.Nat.{ℕ, zero, suc, ◌+◌, ◌-◌, ◌≤◌, ◌<◌}
use native.Mathlib.Nat.{zero-add}
use native.Mathlib.Numerals.{add-one}
use native.Mathlib.Omega.{arith}
use lib.ListN.{length, take, drop, get_or, set, length-drop, drop_of_length-le}
use lib.Seq.{paste, paste-suc, drop-paste, take-length, take_all, take_at, take-take, drop_at, drop-drop, length-take-le}
use Rattle.octets.specs.Octets.{part}

pub length_part : (s : List ℕ) (i k : ℕ) → i + k ≤ length s → length (part i k s) ≡ k
length_part s i k h = length-take-le k (drop i s) (rw (length-drop i s) (omega arith))

-- the slices s[i..i + k] and s[i..], as the borrow checker states them
pub part-between : (s : List ℕ) (i k : ℕ) → take (i + k - i) (drop i s) ≡ part i k s
part-between s i k = let e : i + k - i ≡ k = omega arith in rw e

pub part-from : (s : List ℕ) (i : ℕ) → take (length s - i) (drop i s) ≡ drop i s
part-from s i = take_all (length s - i) (drop i s) (rw (length-drop i s) (omega arith))

inner : (s : List ℕ) (j n k : ℕ) → j + n ≤ k → take n (drop j (take k s)) ≡ take n (drop j s)
inner s zero n k h = take-take n k s (omega arith)
inner s (suc j) n zero h = absurd (omega arith)
inner [] (suc j) n (suc k) h = refl
inner (x ∷ s) (suc j) n (suc k) h = inner s j n k (omega arith)

-- a part of a part
pub part-part : (s : List ℕ) (i k j n : ℕ) → j + n ≤ k → part j n (part i k s) ≡ part (i + j) n s
part-part s i k j n h = inner (drop i s) j n k h ∙ ap (take n) (drop-drop j i s)

-- the second part of x ++ y
pub part-second : (x y : List ℕ) (i k : ℕ) → length x ≡ i → length y ≡ k → part i k (x ++ y) ≡ y
part-second x y i k e f = ap (take k) (drop_at x y i e) ∙ take_all k y (omega arith)

-- one byte more of a copy
pub paste-next : (d₀ s d : List ℕ) (at i : ℕ) {v : ℕ} → d ≡ paste d₀ at s i → at + i < length d₀ → i < length s → v ≡ get_or s i 0 → set d (at + i) v ≡ paste d₀ at s (i + 1)
paste-next d₀ s d at i e h k g = rw (e, g) (paste-suc d₀ at s i 0 h k ∙ ap (paste d₀ at s) (sym (add-one i)))

-- what stands from at on after a copy to at
pub paste-from : (d s : List ℕ) (at : ℕ) → at ≤ length d → drop at (paste d at s (length s)) ≡ s ++ drop (at + length s) d
paste-from d s at h =
    ap (drop at) (append_assoc (take at d) (take (length s) s) (drop (at + length s) d))
    ∙ drop_at (take at d) (take (length s) s ++ drop (at + length s) d) at (length-take-le at d h)
    ∙ ap (λ (x : List ℕ). x ++ drop (at + length s) d) (take-length s)

-- what stands behind a copy stays
pub paste-later : (d s : List ℕ) (at i : ℕ) {r : List ℕ} → at + length s ≤ length d → at + length s ≤ i → r ≡ paste d at s (length s) → drop i r ≡ drop i d
paste-later d s at i l h e =
    let n = at + length s in
    let k : n + (i - n) ≡ i = omega arith in
    let cut : (x : List ℕ) → drop (i - n) (drop n x) ≡ drop i x = λ x. drop-drop (i - n) n x ∙ ap (λ (j : ℕ). drop j x) k in
    ap (drop i) e ∙ sym (cut (paste d at s (length s))) ∙ ap (drop (i - n)) (drop-paste d at s (length s) (omega arith) (omega arith)) ∙ cut d

-- a copy to the end
pub paste-end : (d s : List ℕ) (at : ℕ) → at + length s ≡ length d → paste d at s (length s) ≡ take at d ++ s
paste-end d s at e =
    rw (take-length s, drop_of_length-le d {i = at + length s} (omega arith)) (append-nil (take at d ++ s))

-- a copy over the whole
pub paste-whole : (d s : List ℕ) → length d ≡ length s → paste d 0 s (length s) ≡ s
paste-whole d s e = paste-end d s 0 (zero-add (length s) ∙ sym e)

-- a copy to the start
pub paste-front : (d s : List ℕ) (k : ℕ) → length s ≡ k → paste d 0 s (length s) ≡ s ++ drop k d
paste-front d s k e = ap₂ {C = List ℕ} (λ (x : List ℕ) (n : ℕ). x ++ drop n d) (take-length s) (zero-add (length s) ∙ e)

-- A buffer d that is written from its start, piece by piece: the first byte, and a copy to just behind what is there.
pub set_first : (d : List ℕ) (x : ℕ) → 0 < length d → set d 0 x ≡ (x ∷ []) ++ drop 1 d
set_first [] x h = absurd (omega arith)
set_first (y ∷ d) x h = refl

pub paste-behind : (d p s : List ℕ) (k : ℕ) → length p ≡ k → k + length s ≤ length d → paste (p ++ drop k d) k s (length s) ≡ (p ++ s) ++ drop (k + length s) d
paste-behind d p s k e h =
    ap₂ {C = List ℕ} (λ (x y : List ℕ). (x ++ y) ++ drop (k + length s) (p ++ drop k d)) (take_at p (drop k d) k e) (take-length s)
    ∙ ap (λ (x : List ℕ). (p ++ s) ++ x)
    (sym (drop-drop (length s) k (p ++ drop k d)) ∙ ap (drop (length s)) (drop_at p (drop k d) k e) ∙ drop-drop (length s) k d)

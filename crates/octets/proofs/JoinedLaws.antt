-- Strings one behind the other: their length, where each stands, copies that make them, and a string cut into them.
use mathlib.Core.Path.{◌≡◌, refl, sym, ap, ap₂, ◌∙◌}
use mathlib.Core.List.{List, [], ◌∷◌, ◌++◌, map, append_assoc, append-nil, head-eq_of_cons-eq, tail-eq_of_cons-eq}
use Prim.Native.Nat.{ℕ, zero, suc, ◌+◌}
use native.Mathlib.Nat.{zero-add}
use native.Mathlib.Omega.{arith}
use lib.ListN.{length, take, drop, get_or, replicate, length-append, length-replicate, drop_of_length-le, take-append-drop}
use lib.Seq.{paste, take_at, take_all, take-length, length-paste, take-paste, drop_at, drop-drop}
use Rattle.octets.specs.Octets.{part, joined, up_to}

joined-append : (xs ys : List (List ℕ)) → joined (xs ++ ys) ≡ joined xs ++ joined ys
unfolding joined
joined-append [] ys = refl
joined-append (x ∷ xs) ys = ap (λ (s : List ℕ). x ++ s) (joined-append xs ys) ∙ sym (append_assoc x (joined xs) (joined ys))

-- one more at the end
pub joined-last : (xs : List (List ℕ)) (x : List ℕ) → joined (xs ++ (x ∷ [])) ≡ joined xs ++ x
unfolding joined
joined-last xs x = joined-append xs (x ∷ []) ∙ ap (λ (s : List ℕ). joined xs ++ s) (append-nil x)

pub joined-suc : (k : ℕ) (f : ℕ → List ℕ) → joined (up_to (suc k) f) ≡ joined (up_to k f) ++ f k
unfolding up_to
joined-suc k f = joined-last (up_to k f) (f k)

-- The sum of lengths.
abbrev pub total : List ℕ → ℕ
total [] = 0
total (k ∷ ks) = k + total ks

length-joined : (xs : List (List ℕ)) → length (joined xs) ≡ total (map length xs)
unfolding joined
length-joined [] = refl
length-joined (x ∷ xs) = length-append x (joined xs) ∙ ap (λ (n : ℕ). length x + n) (length-joined xs)

stand : (xs : List (List ℕ)) (i : ℕ) → part (total (take i (map length xs))) (get_or (map length xs) i 0) (joined xs) ≡ get_or xs i []
unfolding joined
stand [] i = refl
stand (x ∷ xs) zero = take_at x (joined xs) (length x) refl
stand (x ∷ xs) (suc i) =
    let n = total (take i (map length xs)) in
    ap (take (get_or (map length xs) i 0)) (sym (drop-drop n (length x) (x ++ joined xs)) ∙ ap (drop n) (drop_at x (joined xs) (length x) refl)) ∙ stand xs i

-- The buffer r comes of d by copies of pieces xs of the lengths ks, one behind the other, from index at on.
pub data Copies : ℕ → List ℕ → List (List ℕ) → List ℕ → List ℕ → Type 0 where
  none : {at : ℕ} {d : List ℕ} → Copies at d [] [] d
  copy : {at k : ℕ} {d d' x r ks : List ℕ} {xs : List (List ℕ)} → d' ≡ paste d at x (length x) → Copies (at + k) d' xs ks r → Copies at d (x ∷ xs) (k ∷ ks) r

copied-from : {at : ℕ} {d r ks : List ℕ} {xs : List (List ℕ)} → Copies at d xs ks r → map length xs ≡ ks → at + total ks ≡ length d → r ≡ take at d ++ joined xs
unfolding joined
copied-from {at} {d} none l e = sym (append-nil (take at d) ∙ take_all at d (omega arith))
copied-from {at} {d} (copy {k = k} {d' = d'} {x = x} {xs = xs} f c) l e =
    let n : length x ≡ k = head-eq_of_cons-eq l in
    let size : length d' ≡ length d = ap length f ∙ length-paste d at x (length x) (omega arith) (omega arith) in
    let front : take (at + k) d' ≡ take at d ++ x = ap₂ take (ap (λ (m : ℕ). at + m) (sym n)) f ∙ take-paste d at x (length x) (omega arith) (omega arith) ∙ rw (take-length x) in
    copied-from c (tail-eq_of_cons-eq l) (omega arith) ∙ ap (λ (s : List ℕ). s ++ joined xs) front ∙ append_assoc (take at d) x (joined xs)

-- Pieces xs of the lengths ks: how long they are together, where piece i stands, and that copies to a buffer that they fill leave them there.
module _ (ks : List ℕ) (xs : List (List ℕ)) (lengths : map length xs ≡ ks) where
  pub joined_length : length (joined xs) ≡ total ks
  joined_length = length-joined xs ∙ ap total lengths

  pub stands : (i : ℕ) → part (total (take i ks)) (get_or ks i 0) (joined xs) ≡ get_or xs i []
  stands i = rw (← lengths) (stand xs i)

  pub copied-over : {d r : List ℕ} → length d ≡ total ks → Copies 0 d xs ks r → r ≡ joined xs
  copied-over e c = copied-from c lengths (zero-add (total ks) ∙ sym e)

  pub copied : {r : List ℕ} → Copies 0 (replicate (total ks) 0) xs ks r → r ≡ joined xs
  copied = copied-over (length-replicate {A = ℕ} (total ks) 0)

-- The pieces of the lengths ks that stand in a string from index at on.
abbrev pub parts_from : ℕ → List ℕ → List ℕ → List (List ℕ)
parts_from at [] s = []
parts_from at (k ∷ ks) s = part at k s ∷ parts_from (at + k) ks s

-- A string is its parts, one behind the other.
pub joined-parts : (at : ℕ) (ks s : List ℕ) → at + total ks ≡ length s → joined (parts_from at ks s) ≡ drop at s
unfolding joined
joined-parts at [] s e = sym (drop_of_length-le s {i = at} (omega arith))
joined-parts at (k ∷ ks) s e =
    ap (λ (t : List ℕ). part at k s ++ t) (joined-parts (at + k) ks s (omega arith) ∙ sym (drop-drop k at s)) ∙ take-append-drop k (drop at s)

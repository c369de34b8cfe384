-- A buffer that is filled piece by piece.
use mathlib.Core.Path.{◌≡◌, refl, sym, ap, ◌∙◌}
use mathlib.Core.List.{List, [], ◌∷◌, ◌++◌}
use Prim.Native.Nat.{ℕ, suc, ◌+◌, ◌≤◌, ◌<◌}
use native.Mathlib.Omega.{arith}
use lib.ListN.{length, take, set, length-append, length-set}
use lib.Seq.{paste, length-paste, take-paste, take-length, take_all, take-suc-set, take-take, take-append_seam}

-- the buffer r of n bytes begins with p
pub record Begun (n : ℕ) (r p : List ℕ) : Type 0 where
  pub size : length r ≡ n
  pub front : take (length p) r ≡ p

pub begun : {n : ℕ} {r : List ℕ} → length r ≡ n → Begun n r []
begun e = record { size = e; front = refl }

module _ {n k : ℕ} {r p : List ℕ} (b : Begun n r p) (e : length p ≡ k) where
  -- s is copied to just behind p
  pub more : (s : List ℕ) {r' : List ℕ} → k + length s ≤ n → r' ≡ paste r k s (length s) → Begun n r' (p ++ s)
  more s {r'} h f =
      let t : take k r ≡ p = rw (← e) b.front in
      let w : length (p ++ s) ≡ k + length s = length-append p s ∙ ap (λ (x : ℕ). x + length s) e in
      record {
        size = ap length f ∙ length-paste r k s (length s) (omega (arith, b.size)) (omega arith) ∙ b.size;
        front =
            ap (λ (x : ℕ). take x r') w
            ∙ ap (take (k + length s)) f
            ∙ take-paste r k s (length s) (omega (arith, b.size)) (omega arith)
            ∙ rw (take-length s, t);
      }

  -- one byte is stored there
  pub one : (x : ℕ) → k < n → Begun n (set r k x) (p ++ (x ∷ []))
  one x h =
      let t : take k r ≡ p = rw (← e) b.front in
      let w : length (p ++ (x ∷ [])) ≡ suc k = length-append p (x ∷ []) ∙ omega arith in
      record {
        size = length-set r k x ∙ b.size;
        front = ap (λ (y : ℕ). take y (set r k x)) w ∙ take-suc-set r k x (omega (arith, b.size)) ∙ ap (λ (l : List ℕ). l ++ (x ∷ [])) t;
      }

pub whole : {n : ℕ} {r p : List ℕ} → Begun n r p → length p ≡ n → r ≡ p
whole {n} {r} {p} b e = sym (take_all (length p) r (omega (arith, b.size))) ∙ b.front

pub less : {n : ℕ} {r : List ℕ} (p s : List ℕ) → Begun n r (p ++ s) → Begun n r p
less {n} {r} p s b =
    record {
      size = b.size;
      front =
          sym (take-take (length p) (length (p ++ s)) r (omega (arith, length-append p s)))
          ∙ ap (take (length p)) b.front
          ∙ take-append_seam p s;
    }

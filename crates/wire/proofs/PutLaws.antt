-- A buffer d that is written from its start, part behind part.
use mathlib.Core.Path.{◌≡◌, refl, sym, ap, ap₂, ◌∙◌}
use mathlib.Core.List.{List, [], ◌∷◌, ◌++◌, append_assoc, append-nil}
use Prim.Native.Nat.{ℕ, ◌+◌, ◌-◌, ◌≤◌, ◌<◌}
use native.Mathlib.Omega.{arith}
use lib.ListN.{length, take, drop, set, length-append, length-drop, drop_of_length-le}
use lib.Seq.{paste, take_at, drop_at, drop-drop}
use borrow.Rule.Slice.PartMut.{put_mid, post_of}
use Rattle.octets.proofs.CopyLaws.{part-from, set_first, paste-front, paste-behind}
use Rattle.wire.specs.Message.{at_start}

-- r is d with the k bytes p at its start
pub record Put (d r p : List ℕ) (k : ℕ) : Type 0 where
  pub is : r ≡ p ++ drop k d
  pub size : length p ≡ k

pub put_first : (d : List ℕ) (x : ℕ) → 0 < length d → Put d (set d 0 x) (x ∷ []) 1
put_first d x h = record { is = set_first d x h; size = refl }

-- what a function leaves that puts bytes to the start
pub put-start : {d r p : List ℕ} (k : ℕ) → length p ≡ k → r ≡ at_start p d → Put d r p k
put-start {d} {r} {p} k l e = record { is = e ∙ ap (λ (x : ℕ). p ++ drop x d) l; size = l }

module _ {d r p : List ℕ} {k : ℕ} (b : Put d r p k) where
  pub put-more : (s : List ℕ) (k' : ℕ) {r' : List ℕ} → k + length s ≤ length d → k' ≡ k + length s → r' ≡ paste r k s (length s) → Put d r' (p ++ s) k'
  put-more s k' h e f =
      record {
        is = f ∙ ap (λ (x : List ℕ). paste x k s (length s)) b.is ∙ paste-behind d p s k b.size h ∙ ap (λ (j : ℕ). (p ++ s) ++ drop j d) (sym e);
        size = length-append p s ∙ omega (arith, b.size);
      }

  pub length-put : k ≤ length d → length r ≡ length d
  length-put h = ap length b.is ∙ length-append p (drop k d) ∙ omega (arith, b.size, length-drop k d)

  pub put_all : r ≡ at_start p d
  put_all = b.is ∙ ap (λ (x : ℕ). p ++ drop x d) (sym b.size)

  -- a call that writes s to the start of the part behind p
  pub put-part : (s mid : List ℕ) → k + length s ≤ length d
      → mid ≡ s ++ drop (length s) (take (length r - k) (drop k r)) → put_mid k (length r - k) r mid ≡ (p ++ s) ++ drop (k + length s) d
  put-part s mid h e =
      let l : length r ≡ length d = length-put (omega arith) in
      let f : take k r ≡ p = ap (take k) b.is ∙ take_at p (drop k d) k b.size in
      let g : take (length r - k) (drop k r) ≡ drop k d = part-from r k ∙ ap (drop k) b.is ∙ drop_at p (drop k d) k b.size in
      let o : post_of k (length r - k) r ≡ [] = drop_of_length-le (drop k r) {i = length r - k} (omega (arith, length-drop k r)) in
      ap₂ {C = List ℕ} (λ (x y : List ℕ). x ++ (mid ++ y)) f o
      ∙ ap (λ (x : List ℕ). p ++ x) (append-nil mid ∙ e ∙ ap (λ (x : List ℕ). s ++ drop (length s) x) g ∙ ap (λ (x : List ℕ). s ++ x) (drop-drop (length s) k d))
      ∙ sym (append_assoc p s (drop (k + length s) d))

  pub put-part-more : (s mid : List ℕ) (k' : ℕ) → k' ≡ k + length s → k' ≤ length d
      → mid ≡ s ++ drop (length s) (take (length r - k) (drop k r)) → Put d (put_mid k (length r - k) r mid) (p ++ s) k'
  put-part-more s mid k' e h f =
      record { is = put-part s mid (omega arith) f ∙ ap (λ (j : ℕ). (p ++ s) ++ drop j d) (sym e); size = length-append p s ∙ omega (arith, b.size) }

-- one copy to the start
pub ruleset front = (paste-front)

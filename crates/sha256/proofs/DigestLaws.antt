-- The digest's bytes, one word after the other.
use Rattle.std.proofs.Common.{◌≡◌, ℕ, zero, suc, ◌+◌, ◌*◌, ◌/◌, ◌<◌, ◌≤◌, List, [], ◌∷◌, ◌++◌, map, length, get_or, take, sym, refl, ap, ◌∙◌, ap₂, add-one, arith, length-append, take_all, take-suc}
use mathlib.Core.List.{map-append}
use lib.Seq.{take-paste, take-length, paste}
use Rattle.octets.specs.Octets.{bytes, joined}
use Rattle.octets.proofs.NumberLaws.{length-bytes}
use Rattle.octets.proofs.JoinedLaws.{joined-last}
use Rattle.sha256.specs.Sha256.{H0, compress, sums, hash_value, pad, concatenated, digest}
use Rattle.sha256.specs.Claims.{DigestLength}

snoc : (ws : List ℕ) (x : ℕ) → concatenated (ws ++ (x ∷ [])) ≡ concatenated ws ++ bytes 4 x
unfolding concatenated
snoc ws x = ap joined (map-append (bytes 4) ws (x ∷ [])) ∙ joined-last (map (bytes 4) ws) (bytes 4 x)

module _ (h out : List ℕ) (i : ℕ) (e : take (4 * i) out ≡ concatenated (take i h)) where
  pub concatenated-more : (b : List ℕ) → i < length h → 4 * i + 4 ≤ length out → b ≡ bytes 4 (get_or h i 0)
      → take (4 * (i + 1)) (paste out (4 * i) b (length b)) ≡ concatenated (take (i + 1) h)
  concatenated-more b l k f =
      let n : length b ≡ 4 = ap length f ∙ length-bytes 4 (get_or h i 0) in
      let m : 4 * (i + 1) ≡ 4 * i + length b = omega arith in
      let t : take (i + 1) h ≡ take i h ++ (get_or h i 0 ∷ []) = rw (add-one i) (take-suc h i 0 l) in
      rw m
      (take-paste out (4 * i) b (length b) (omega arith) (omega arith)
      ∙ ap₂ {C = List ℕ} (λ (x y : List ℕ). x ++ y) e (take-length b ∙ f)
      ∙ sym (snoc (take i h) (get_or h i 0)) ∙ ap concatenated (sym t))

  pub concatenated-all : length h ≡ 8 → length out ≡ 32 → 8 ≤ i → out ≡ concatenated h
  concatenated-all l k g = sym (take_all (4 * i) out (omega arith)) ∙ e ∙ ap concatenated (take_all i h (omega arith))

length-concatenated : (ws : List ℕ) → length (concatenated ws) ≡ 4 * length ws
unfolding concatenated joined
length-concatenated [] = refl
length-concatenated (w ∷ ws) =
    length-append (bytes 4 w) (concatenated ws) ∙ ap₂ (λ (a b : ℕ). a + b) (length-bytes 4 w) (length-concatenated ws) ∙ omega arith

length-hash : (H : List ℕ) (n : ℕ) (m : List ℕ) → length H ≡ 8 → length (hash_value H n m) ≡ 8
unfolding hash_value compress sums
length-hash H zero m e = e
length-hash H (suc n) m e = refl

pub length-digest : DigestLength
unfolding digest H0
length-digest m = length-concatenated (hash_value H0 (length (pad m) / 64) (pad m)) ∙ ap (λ (k : ℕ). 4 * k) (length-hash H0 (length (pad m) / 64) (pad m) refl)

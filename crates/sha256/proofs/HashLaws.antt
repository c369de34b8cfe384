-- The hash value over the blocks of a message that grows, and the digest from the bytes after the whole blocks.
use Rattle.std.proofs.Common.{◌≡◌, ℕ, zero, suc, ◌+◌, ◌*◌, ◌/◌, ◌%◌, ◌^◌, ◌≤◌, ◌<◌, List, [], ◌++◌, length, get_or, take, drop, sym, refl, ap, ◌∙◌, ap₂, add-one, mul-suc, mul-add, arith, length-append, length-drop, take_all, drop-drop}
use lib.Seq.{take-append-le, drop-append-le}
use Rattle.std.specs.Simd.{first_chunks}
use Rattle.sha256.specs.Sha256.{hash_value, block, compress, H0, digest, concatenated, pad, padding}
use Rattle.sha256.specs.Context.{Pending}

-- what follows whole blocks does not change their hash value
hash-kept : (H : List ℕ) (n : ℕ) (m s : List ℕ) → 64 * n ≤ length m → hash_value H n (m ++ s) ≡ hash_value H n m
unfolding hash_value block
hash-kept H zero m s h = refl
hash-kept H (suc n) m s h =
    let g : 64 * n + 64 ≤ length m = omega (arith, mul-suc 64 n) in
    let d : drop (64 * n) (m ++ s) ≡ drop (64 * n) m ++ s = drop-append-le (64 * n) m s (omega arith) in
    let t : take 64 (drop (64 * n) m ++ s) ≡ take 64 (drop (64 * n) m) = take-append-le 64 (drop (64 * n) m) s (omega (arith, length-drop (64 * n) m)) in
    ap₂ compress (hash-kept H n m s (omega arith)) (ap (take 64) d ∙ t)

-- one block
pub hash-one : (h x : List ℕ) → length x ≡ 64 → hash_value h (length x / 64) x ≡ compress h x
unfolding hash_value block
hash-one h x e = rw e (ap (compress h) (take_all 64 x (omega arith)))

block-later : (a b : ℕ) (m : List ℕ) → block (a + b) m ≡ block b (drop (64 * a) m)
unfolding block
block-later a b m = ap (take 64) (ap (λ (k : ℕ). drop k m) (mul-add 64 a b) ∙ sym (drop-drop (64 * b) (64 * a) m))

-- a blocks, then b more
hash-add : (H : List ℕ) (a b : ℕ) (m : List ℕ) → hash_value H (a + b) m ≡ hash_value (hash_value H a m) b (drop (64 * a) m)
unfolding hash_value
hash-add H a zero m = let z : a + 0 ≡ a = omega arith in rw z
hash-add H a (suc b) m =
    let z : a + suc b ≡ suc (a + b) = omega arith in
    rw z (ap₂ compress (hash-add H a b m) (block-later a b m))

pub length_rest : {h r : List ℕ} {t : ℕ} {m : List ℕ} → Pending h r t m → length r ≡ length m % 64
length_rest {m = m} p = ap length p.waiting ∙ length-drop (64 * (length m / 64)) m ∙ omega arith

module _ {h r : List ℕ} {t : ℕ} {m : List ℕ} (p : Pending h r t m) (s : List ℕ) where
  blocks : length (m ++ s) / 64 ≡ length m / 64 + length (r ++ s) / 64
  blocks = omega (arith, length-append m s, length-append r s, length_rest p)

  cut : drop (64 * (length m / 64)) (m ++ s) ≡ r ++ s
  cut = drop-append-le (64 * (length m / 64)) m s (omega arith) ∙ ap (λ (l : List ℕ). l ++ s) (sym p.waiting)

  hash-grown : hash_value H0 (length (m ++ s) / 64) (m ++ s) ≡ hash_value h (length (r ++ s) / 64) (r ++ s)
  hash-grown =
      ap (λ (k : ℕ). hash_value H0 k (m ++ s)) blocks ∙ hash-add H0 (length m / 64) (length (r ++ s) / 64) (m ++ s)
      ∙ ap₂ (λ (x y : List ℕ). hash_value x (length (r ++ s) / 64) y) (hash-kept H0 (length m / 64) m s (omega arith) ∙ sym p.compressed) cut

  -- the message grows by s: the whole blocks of what was left and s are compressed, and what follows them is left
  pub grown : {h' r' : List ℕ} {t' : ℕ} → h' ≡ hash_value h (length (r ++ s) / 64) (r ++ s) → r' ≡ drop (64 * (length (r ++ s) / 64)) (r ++ s)
      → t' ≡ (t + length s) % 2 ^ 64 → Pending h' r' t' (m ++ s)
  grown e f g =
      record {
        compressed = e ∙ sym hash-grown;
        waiting =
            f ∙ ap (drop (64 * (length (r ++ s) / 64))) (sym cut) ∙ drop-drop (64 * (length (r ++ s) / 64)) (64 * (length m / 64)) (m ++ s)
            ∙ ap (λ (k : ℕ). drop k (m ++ s)) (sym (mul-add 64 (length m / 64) (length (r ++ s) / 64)) ∙ ap (λ (k : ℕ). 64 * k) (sym blocks));
        counted = g ∙ omega (arith, p.counted, length-append m s);
      }

-- the digest, from the hash value after the whole blocks and the bytes after them
pub digest-pending : {h r : List ℕ} {t : ℕ} {m : List ℕ} → Pending h r t m → (x : List ℕ) → x ≡ r ++ padding (8 * length m)
    → digest m ≡ concatenated (hash_value h (length x / 64) x)
unfolding digest pad
digest-pending {h = h} {m = m} p x e = ap concatenated (hash-grown p (padding (8 * length m)) ∙ ap (λ (y : List ℕ). hash_value h (length y / 64) y) (sym e))

-- or from that after the message and its padding
pub finished : {h r : List ℕ} {t : ℕ} (m s : List ℕ) → s ≡ padding (8 * length m) → Pending h r t (m ++ s) → concatenated h ≡ digest m
unfolding digest pad
finished m s e p = ap concatenated (p.compressed ∙ ap (λ (x : List ℕ). hash_value H0 (length (m ++ x) / 64) (m ++ x)) e)

-- or from one block, the padded message
pub digest-block : (m x : List ℕ) → pad m ≡ x → length x ≡ 64 → concatenated (compress H0 x) ≡ digest m
unfolding digest
digest-block m x e l = ap concatenated (sym (hash-one H0 x l) ∙ ap (λ (y : List ℕ). hash_value H0 (length y / 64) y) (sym e))

-- the whole blocks of s, as the library cuts them
chunk-is : (k i : ℕ) (s : List ℕ) → i < k → get_or (first_chunks 64 k s) i [] ≡ block i s
unfolding block
chunk-is zero i s h = absurd (omega arith)
chunk-is (suc k) zero s h = refl
chunk-is (suc k) (suc i) s h = chunk-is k i (drop 64 s) (omega arith) ∙ sym (block-later 1 i s) ∙ ap (λ (n : ℕ). block n s) (omega arith)

-- a turn over them
pub hash-more : (H s : List ℕ) (i : ℕ) {g r : List ℕ} {bs : List (List ℕ)} → i < length s / 64 → bs ≡ first_chunks 64 (length s / 64) s → g ≡ hash_value H i s
    → r ≡ compress g (get_or bs i []) → r ≡ hash_value H (i + 1) s
unfolding hash_value
hash-more H s i h c e f = rw (add-one i) (f ∙ ap₂ compress e (ap (λ (bs : List (List ℕ)). get_or bs i []) c ∙ chunk-is (length s / 64) i s h))

-- What an update makes of a context: m is the message before it, s the piece.
use Rattle.std.proofs.Common.{◌≡◌, ℕ, ◌+◌, ◌*◌, ◌/◌, ◌%◌, ◌^◌, ◌<◌, List, [], ◌++◌, length, take, drop, sym, refl, ap, ◌∙◌, subst, append_assoc, append-nil, arith, length-append, length-drop, drop_of_length-le, length-take-le, take_at}
use lib.Seq.{paste, take-length, take-paste}
use Rattle.octets.proofs.CopyLaws.{paste-end, paste-front}
use Rattle.sha256.specs.Sha256.{hash_value, compress}
use Rattle.sha256.specs.Context.{Pending}
use Rattle.sha256.proofs.HashLaws.{hash-one, length_rest, grown}

-- a context's fields: H, the buffer B and the length n
module _ {H : List ℕ} (B : List ℕ) {n : ℕ} {m : List ℕ} (l : length B ≡ 64) (p : Pending H (take (n % 64) B) n m) (s : List ℕ) where
  length-left : length (take (n % 64) B ++ s) ≡ n % 64 + length s
  length-left = length-append (take (n % 64) B) s ∙ ap (λ (k : ℕ). k + length s) (length-take-le (n % 64) B (omega arith))

  -- s ends within the block, and waits behind the bytes before it
  pub stored : {n' : ℕ} → n % 64 + length s < 64 → n' ≡ (n + length s) % 2 ^ 64 → Pending H (take (n' % 64) (paste B (n % 64) s (length s))) n' (m ++ s)
  unfolding hash_value
  stored {n'} h e =
      let q : length (take (n % 64) B ++ s) / 64 ≡ 0 = omega (arith, length-left) in
      let k : n' % 64 ≡ n % 64 + length s = omega arith in
      let t : take (n' % 64) (paste B (n % 64) s (length s)) ≡ take (n % 64) B ++ s =
      rw k (take-paste B (n % 64) s (length s) (omega arith) (omega arith) ∙ ap (λ (z : List ℕ). take (n % 64) B ++ z) (take-length s)) in
      grown p s (rw q refl) (rw q t) e

  -- s completes the block
  pub completed : {H' : List ℕ} → n % 64 + length s ≡ 64 → H' ≡ compress H (paste B (n % 64) s (length s)) → Pending H' [] ((n + length s) % 2 ^ 64) (m ++ s)
  completed h e =
      let x = take (n % 64) B ++ s in
      let a : length x ≡ 64 = length-left ∙ omega arith in
      let b : paste B (n % 64) s (length s) ≡ x = paste-end B s (n % 64) (omega arith) in
      grown p s (e ∙ ap (compress H) b ∙ sym (hash-one H x a)) (sym (drop_of_length-le x {i = 64 * (length x / 64)} (omega arith))) refl

-- no byte waits
pub none-waits : {H : List ℕ} (B : List ℕ) {n : ℕ} {m : List ℕ} → n % 64 ≡ 0 → Pending H (take (n % 64) B) n m → Pending H [] ((n + 0) % 2 ^ 64) (m ++ [])
none-waits {H} B {n} {m} z p =
    subst (Pending H [] ((n + 0) % 2 ^ 64)) (sym (append-nil m))
    (record { compressed = p.compressed; waiting = ap (λ (k : ℕ). take k B) (sym z) ∙ p.waiting; counted = omega (arith, p.counted) })

-- a block starts k bytes after n
starts : (n k c : ℕ) → 0 ≡ c % 64 → (n + k) % 2 ^ 64 ≡ c % 2 ^ 64 → (n + k) % 64 ≡ 0
starts n k c h e = omega arith

-- then g bytes later as many wait
later : (n k g : ℕ) {n' : ℕ} → (n + k) % 64 ≡ 0 → n' ≡ (n + (k + g)) % 2 ^ 64 → n' % 64 ≡ g % 64
later n k g h e = omega arith

-- the length after the piece, by way of its first k bytes
total : (n k g : ℕ) → (n + (k + g)) % 2 ^ 64 ≡ ((n + k) % 2 ^ 64 + g) % 2 ^ 64
total n k g = omega arith

-- The piece is f, behind which a block starts, and z: the whole blocks of z are compressed, and x, what follows them, begins the buffer.
pub continued : {H : List ℕ} (B : List ℕ) (n : ℕ) (m f z : List ℕ) {H' x : List ℕ} {n' : ℕ} → Pending H [] ((n + length f) % 2 ^ 64) (m ++ f)
    → H' ≡ hash_value H (length z / 64) z → x ≡ drop (64 * (length z / 64)) z → n' ≡ (n + length (f ++ z)) % 2 ^ 64
    → Pending H' (take (n' % 64) (paste B 0 x (length x))) n' (m ++ (f ++ z))
continued {H} B n m f z {H'} {x} {n'} p g d o =
    let a : length x ≡ length z % 64 = ap length d ∙ length-drop (64 * (length z / 64)) z ∙ omega arith in
    let t : n' ≡ (n + (length f + length z)) % 2 ^ 64 = o ∙ ap (λ (k : ℕ). (n + k) % 2 ^ 64) (length-append f z) in
    let w : n' % 64 ≡ length x = later n (length f) (length z) (starts n (length f) (length (m ++ f)) (length_rest p) p.counted) t ∙ sym a in
    let r : take (n' % 64) (paste B 0 x (length x)) ≡ drop (64 * (length z / 64)) z =
    rw (w, paste-front B x (length x) refl) (take_at x (drop (length x) B) (length x) refl ∙ d) in
    subst (Pending H' (take (n' % 64) (paste B 0 x (length x))) n') (append_assoc m f z) (grown p z g r (t ∙ total n (length f) (length z)))

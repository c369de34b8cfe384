-- One step of a chain, on the block that holds its hash input; one chain more.
use mathlib.Core.Path.{◌≡◌, refl, sym, ap, ap₂, ◌∙◌}
use mathlib.Core.List.{List, [], ◌∷◌, ◌++◌, append_assoc}
use Prim.Native.Nat.{ℕ, suc, ◌+◌, ◌-◌, ◌*◌, ◌^◌, ◌≤◌, ◌<◌}
use native.Mathlib.Nat.{mod-eq_of_lt}
use native.Mathlib.Numerals.{add-one}
use native.Mathlib.Omega.{arith}
use lib.Dec.{lit<}
use lib.ListN.{length, drop, set, length-append, length-set, take-append-drop}
use lib.Seq.{paste, drop-set-lt}
use Rattle.octets.specs.Octets.{bytes, part}
use Rattle.octets.proofs.NumberLaws.{length-bytes}
use Rattle.octets.proofs.JoinedLaws.{joined-suc}
use Rattle.sha256.specs.Sha256.{zero_bits, padding, pad, H0, compress, concatenated}
use Rattle.sha256.proofs.HashLaws.{digest-block}
use Rattle.lms.specs.Notation.{u8str, u16str, u32str, coef, H}
use Rattle.lms.specs.Ots.{chain, z, zs}
use Rattle.octets.proofs.BufferLaws.{Begun, more, one, less}
use Rattle.octets.proofs.CopyLaws.{paste-later}

-- what every hash input begins with has 22 bytes
pub start-length : (I : List ℕ) (r d : ℕ) → length I ≡ 16 → length (I ++ u32str r ++ u16str d) ≡ 22
start-length I r d e = simp (length-append, length-bytes) (omega arith)

one_byte : (j : ℕ) → j < 256 → u8str j ≡ j ∷ []
unfolding bytes
one_byte j h = ap (λ (x : ℕ). x ∷ []) (mod-eq_of_lt h)

-- the padding of a message of 55 bytes
abbrev pub padding55 : List ℕ
padding55 = 0x80 ∷ 0 ∷ 0 ∷ 0 ∷ 0 ∷ 0 ∷ 0 ∷ 0x01 ∷ 0xb8 ∷ []

pad55 : (m : List ℕ) → length m ≡ 55 → pad m ≡ m ++ padding55
unfolding pad padding zero_bits bytes
pad55 m e = rw e refl

module _ (I : List ℕ) (q i a : ℕ) (y : List ℕ) (j : ℕ) where
  -- the hash of a step's input is the next tmp
  stepped : (tmp : List ℕ) → a ≤ j → j < 256 → tmp ≡ chain I q i a y (j - a) → H (I ++ u32str q ++ u16str i ++ (j ∷ []) ++ tmp) ≡ chain I q i a y (j + 1 - a)
  unfolding chain
  stepped tmp l h e =
      let k : j + 1 - a ≡ suc (j - a) = omega arith in
      let f : a + (j - a) ≡ j = omega arith in
      rw k (ap₂ (λ (b t : List ℕ). H (I ++ u32str q ++ u16str i ++ b ++ t)) (sym (one_byte j h) ∙ ap u8str (sym f)) e)

  -- the block with j and tmp in their places still begins and ends as it did, and its hash is the next tmp
  pub block-turn : {block block' r : List ℕ} (tmp : List ℕ) → length I ≡ 16 → Begun 64 block (I ++ u32str q ++ u16str i) → drop 55 block ≡ padding55
      → length tmp ≡ 32 → block' ≡ paste (set block 22 j) 23 tmp (length tmp) → a ≤ j → j < 256 → tmp ≡ chain I q i a y (j - a)
      → r ≡ concatenated (compress H0 block')
      → Begun 64 block' (I ++ u32str q ++ u16str i) × (drop 55 block' ≡ padding55) × (r ≡ chain I q i a y (j + 1 - a))
  block-turn {block = block} {block' = block'} tmp f b d w e l h g hashed =
      let s = start-length I q i f in
      let k = I ++ u32str q ++ u16str i in
      let t : length (k ++ (j ∷ [])) ≡ 23 = length-append k (j ∷ []) ∙ omega arith in
      let m = k ++ (j ∷ []) ++ tmp in
      let n : length m ≡ 55 = length-append (k ++ (j ∷ [])) tmp ∙ omega arith in
      let front : Begun 64 block' m = more (one b s j (omega arith)) t tmp (omega arith) e in
      let back : drop 55 block' ≡ padding55 =
      paste-later (set block 22 j) tmp 23 55 (rw (length-set block 22 j) (omega (arith, b.size))) (omega arith) e ∙ drop-set-lt 55 block 22 j (lit< tt) ∙ d in
      let whole : pad m ≡ block' =
      pad55 m n ∙ ap₂ {C = List ℕ} (λ (x y : List ℕ). x ++ y) (sym (rw n at front.front)) (sym back) ∙ take-append-drop 55 block' in
      (less k (j ∷ []) (less (k ++ (j ∷ [])) tmp front), back, hashed ∙ digest-block m block' whole front.size ∙ stepped tmp l h g)

-- the chain that the code runs is chain i
pub z-found : (I : List ℕ) (q w : ℕ) (S y : List ℕ) (i a top : ℕ) {yi r : List ℕ} → a ≡ coef S i w → top ≡ 2 ^ w - 1 → yi ≡ part (32 * i) 32 y
    → r ≡ chain I q i a yi (top - a) → r ≡ z I q w S y i
unfolding z
z-found I q w S y i a top e f g h = cc

pub zs-suc : (s I : List ℕ) (q w : ℕ) (S y : List ℕ) (i : ℕ) → s ++ zs I q w S y i ++ z I q w S y i ≡ s ++ zs I q w S y (i + 1)
unfolding zs
zs-suc s I q w S y i = rw (add-one i, joined-suc i (z I q w S y)) (append_assoc s (zs I q w S y i) (z I q w S y i))

-- RFC 8554, section 4: LM-OTS, the one-time signature.
use Rattle.std.specs.Prelude.{cond, List, ◌++◌, ℕ, zero, suc, ◌+◌, ◌-◌, ◌*◌, ◌/◌, ◌^◌, eqb}
use Rattle.std.specs.Prelude.{Option, None, Some}
use Rattle.octets.specs.Octets.{part, joined, up_to}
use Rattle.lms.specs.Notation.{u8str, u16str, u32str, coef, H, D_PBLC, D_MESG}

-- 4.1, table 1: the digit width w, the number p of chains, and the checksum's shift ls, of the types 3 (LMOTS_SHA256_N32_W4) and 4 (LMOTS_SHA256_N32_W8)
pub record Row : Type 0 where
  pub w : ℕ
  pub p : ℕ
  pub ls : ℕ

unfoldable pub table1 : ℕ → Option Row
table1 type =
    cond (eqb type 3) (Some (record { w = 4; p = 67; ls = 4 }))
    (cond (eqb type 4) (Some (record { w = 8; p = 34; ls = 0 }))
    None)

-- 4.4: the sum, over the first k digits of S, of 2^w - 1 - digit; so many steps (4.6) the chains of these digits take
unfoldable pub steps : (w : ℕ) (S : List ℕ) (k : ℕ) → ℕ
steps w S zero = 0
steps w S (suc k) = steps w S k + (2 ^ w - 1 - coef S k w)

-- algorithm 2: the checksum of a hash value Q, over its 8 * 32 / w digits
unfoldable pub Cksm : (t : Row) (Q : List ℕ) → ℕ
Cksm t Q = steps t.w Q (8 * 32 / t.w) * 2 ^ t.ls

-- 4.6: the string whose digits say where the chains begin, Q || Cksm(Q)
unfoldable pub checked : (t : Row) (Q : List ℕ) → List ℕ
checked t Q = Q ++ u16str (Cksm t Q)

-- algorithm 4b, step 3, for the key's identifier I and the leaf's number q
module _ (I : List ℕ) (q : ℕ) where
  -- Q
  unfoldable pub message_hash : (C message : List ℕ) → List ℕ
  message_hash C message = H (I ++ u32str q ++ u16str D_MESG ++ C ++ message)

  -- tmp of chain i, begun at j = a with y, after k steps
  unfoldable pub chain : (i a : ℕ) (y : List ℕ) (k : ℕ) → List ℕ
  chain i a y zero = y
  chain i a y (suc k) = H (I ++ u32str q ++ u16str i ++ u8str (a + k) ++ chain i a y k)

  -- z[i], for y[0] || .. || y[p-1] = y: from j = a, digit i of S, up to 2^w - 2
  unfoldable pub z : (w : ℕ) (S y : List ℕ) (i : ℕ) → List ℕ
  z w S y i = chain i (coef S i w) (part (32 * i) 32 y) (2 ^ w - 1 - coef S i w)

  -- z[0] || .. || z[k-1]
  unfoldable pub zs : (w : ℕ) (S y : List ℕ) (k : ℕ) → List ℕ
  zs w S y k = joined (up_to k (z w S y))

-- Kc, of a signature: type (4 bytes), C (32), y[0] to y[p-1]
unfoldable pub Kc : (t : Row) (I : List ℕ) (q : ℕ) (message signature : List ℕ) → List ℕ
Kc t I q message signature =
    let C = part 4 32 signature in
    let y = part 36 (32 * t.p) signature in
    H (I ++ u32str q ++ u16str D_PBLC ++ zs I q t.w (checked t (message_hash I q C message)) y t.p)

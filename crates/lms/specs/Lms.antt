-- RFC 8554, section 5.4.2: whether a signature over a message is valid under a public key.
use Rattle.std.specs.Prelude.{Bool, false, ◌&&◌, List, ℕ, ◌+◌, ◌*◌, ◌^◌, eqb, ltb, length}
use Rattle.std.specs.Prelude.{None, Some}
use Rattle.octets.specs.Octets.{part, equal}
use Rattle.lms.specs.Notation.{strTou32}
use Rattle.lms.specs.Ots.{Row, table1, Kc}
use Rattle.lms.specs.Tree.{table2, Tc}

-- the bytes of a public key: tree type (4), one-time signature type (4), I (16), T[1] (32)
abbrev pub key_length : ℕ
key_length = 56

-- the bytes of a one-time signature: type (4), C (32), y[0] to y[p-1]
abbrev pub ots_bytes : Row → ℕ
ots_bytes t = 4 + 32 * (t.p + 1)

-- the bytes of a signature: q (4), one-time signature, tree type (4), path[0] to path[h-1]
abbrev pub signature_length : (t : Row) (h : ℕ) → ℕ
signature_length t h = 4 + ots_bytes t + 4 + 32 * h

-- Algorithms 6 and 6a, for types that the tables have
unfoldable pub valid_at : (t : Row) (h : ℕ) (key message signature : List ℕ) → Bool
valid_at t h key message signature =
    let I = part 8 16 key in
    let q = strTou32 (part 0 4 signature) in
    let K = Kc t I q message (part 4 (ots_bytes t) signature) in
    eqb (length signature) (signature_length t h)
    && eqb (strTou32 (part 4 4 signature)) (strTou32 (part 4 4 key))
    && eqb (strTou32 (part (4 + ots_bytes t) 4 signature)) (strTou32 (part 0 4 key))
    && ltb q (2 ^ h)
    && equal (Tc h I q K (part (4 + ots_bytes t + 4) (32 * h) signature)) (part 24 32 key)

-- whether a signature is valid; none is for a key of another length or of types that the tables do not have
unfoldable pub valid : (key message signature : List ℕ) → Bool
valid key message signature =
    eqb (length key) key_length
    && elim (table1 (strTou32 (part 4 4 key))) [
      | None ↦ false
      | Some t ↦ elim (table2 (strTou32 (part 0 4 key))) [ None ↦ false | Some h ↦ valid_at t h key message signature ]
    ]

-- The manifest's bytes, written and read: each the other's inverse.
use mathlib.Core.Path.{◌≡◌, sym, ◌∙◌}
use mathlib.Core.List.{List, [], ◌∷◌, map}
use Prim.Native.Nat.{ℕ}
use native.Mathlib.Omega.{arith}
use lib.ListN.{length, take, get_or, replicate}
use Rattle.octets.specs.Octets.{Bytes, bytes, part}
use Rattle.octets.proofs.CopyLaws.{length_part}
use Rattle.octets.proofs.JoinedLaws.{total, Copies, joined_length, stands, copied, joined-parts}
use Rattle.octets.proofs.NumberLaws.{length-bytes, number-back, bytes-part, part-below}
use Rattle.merkle.specs.Limits.{hash_length}
use Rattle.wire.specs.declared.manifest.Manifest.{Manifest}
use Rattle.wire.specs.Manifest.{manifest_length, written, read, Fits}
use Rattle.wire.specs.Claims.{ManifestLong, ManifestBack, BytesBack}

-- the lengths of the fields
abbrev lengths : List ℕ
lengths = 2 ∷ 2 ∷ 4 ∷ 4 ∷ 4 ∷ hash_length ∷ []

-- copies of the fields, one behind the other, are the manifest's bytes
module _ (s : Manifest) (root : length s.root ≡ hash_length) {v b m e t : List ℕ} where
  pub filled : v ≡ bytes 2 s.version → b ≡ bytes 2 s.block_len → m ≡ bytes 4 s.model → e ≡ bytes 4 s.serial → t ≡ bytes 4 s.image_len
      → {r : List ℕ} → Copies 0 (replicate (total lengths) 0) (v ∷ b ∷ m ∷ e ∷ t ∷ s.root ∷ []) lengths r → r ≡ written s
  unfolding written
  filled ev eb em ee et c =
      copied lengths (v ∷ b ∷ m ∷ e ∷ t ∷ s.root ∷ []) (rw (ev, eb, em, ee, et, root) (simp length-bytes)) c ∙ rw (ev, eb, em, ee, et)

-- where the fields of the written bytes stand
module _ (s : Manifest) (root : length s.root ≡ hash_length) where
  abbrev fields : List (List ℕ)
  fields = bytes 2 s.version ∷ bytes 2 s.block_len ∷ bytes 4 s.model ∷ bytes 4 s.serial ∷ bytes 4 s.image_len ∷ s.root ∷ []

  fields-long : map length fields ≡ lengths
  fields-long = simp (length-bytes, root)

  pub length-written : length (written s) ≡ manifest_length
  unfolding written
  length-written = joined_length lengths fields fields-long

  field : (i : ℕ) → part (total (take i lengths)) (get_or lengths i 0) (written s) ≡ get_or fields i []
  unfolding written
  field = stands lengths fields fields-long

pub read-written : ManifestBack
unfolding read
read-written s f =
    let at = field s f.root in
    λ i.
    record {
      version = number-back 2 s.version (at 0) f.version i;
      block_len = number-back 2 s.block_len (at 1) f.block_len i;
      model = number-back 4 s.model (at 2) f.model i;
      serial = number-back 4 s.serial (at 3) f.serial i;
      image_len = number-back 4 s.image_len (at 4) f.image_len i;
      root = at 5 i;
    }

pub written_read : BytesBack
unfolding written read
written_read b l h =
    cc (
      bytes-part b h 0 2 (omega arith),
      bytes-part b h 2 2 (omega arith),
      bytes-part b h 4 4 (omega arith),
      bytes-part b h 8 4 (omega arith),
      bytes-part b h 12 4 (omega arith),
      joined-parts 0 lengths b (sym l),
    )

-- a manifest read from bytes fits its own
pub read_fits : (b : List ℕ) → length b ≡ manifest_length → Bytes b → Fits (read b)
unfolding read
read_fits b l h =
    record {
      version = part-below b h 0 2 (omega arith);
      block_len = part-below b h 2 2 (omega arith);
      model = part-below b h 4 4 (omega arith);
      serial = part-below b h 8 4 (omega arith);
      image_len = part-below b h 12 4 (omega arith);
      root = length_part b 16 hash_length (omega arith);
    }

pub manifest-long : ManifestLong
manifest-long = length-written

-- The manifest (01: slip). "Slip, 48 bytes: version (2 bytes, value 1), L (2), model (4), serial (4), T (4), root (32)."
use Rattle.std.specs.Prelude.{◌≡◌, List, [], ◌∷◌, ℕ, ◌^◌, ◌<◌, length}
use Rattle.octets.specs.Octets.{bytes, number, part, joined}
use Rattle.merkle.specs.Limits.{hash_length}
use Rattle.wire.specs.declared.manifest.Manifest.{Manifest}

abbrev pub manifest_length : ℕ
manifest_length = 48

-- a manifest's bytes, and the manifest that bytes stand for
unfoldable pub written : Manifest → List ℕ
written s = joined (bytes 2 s.version ∷ bytes 2 s.block_len ∷ bytes 4 s.model ∷ bytes 4 s.serial ∷ bytes 4 s.image_len ∷ s.root ∷ [])

unfoldable pub read : List ℕ → Manifest
read b =
    record {
      version = number (part 0 2 b);
      block_len = number (part 2 2 b);
      model = number (part 4 4 b);
      serial = number (part 8 4 b);
      image_len = number (part 12 4 b);
      root = part 16 hash_length b;
    }

-- the fields fit their bytes
pub record Fits (s : Manifest) : Type 0 where
  pub version : s.version < 256 ^ 2
  pub block_len : s.block_len < 256 ^ 2
  pub model : s.model < 256 ^ 4
  pub serial : s.serial < 256 ^ 4
  pub image_len : s.image_len < 256 ^ 4
  pub root : length s.root ≡ hash_length

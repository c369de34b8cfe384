-- What an accepted message writes to the flash (01: area); s is the manifest that it goes by.
use Rattle.std.specs.Prelude.{List, ℕ}
use Rattle.wire.specs.declared.manifest.Manifest.{Manifest}
use Rattle.wire.specs.Geometry.{block_length, with_block}
use Rattle.wire.specs.Message.{block_in, update_number, update_block}

-- "Accepting kind 2 writes block i to its place and nothing else"
unfoldable pub stored : Manifest → (i : ℕ) → (flash m : List ℕ) → List ℕ
stored s i flash m = with_block s.block_len flash i (block_in (block_length s.block_len s.image_len i) m)

-- "Accepting kind 3 writes that one block"; so does kind 4
unfoldable pub updated : Manifest → (flash m : List ℕ) → List ℕ
updated s flash m =
    let i = update_number m in
    with_block s.block_len flash i (update_block (block_length s.block_len s.image_len i) m)

-- A program's blocks in the flash: where they end, and a block written to its place.
use mathlib.Core.Path.{◌≡◌, refl, sym, ap, ap₂, ◌∙◌}
use mathlib.Core.Logic.{◌⊎◌, inl, inr, ◌≢◌}
use mathlib.Core.Bool.{false}
use mathlib.Core.List.{List, ◌++◌, append_assoc}
use Prim.Native.Nat.{ℕ, zero, suc, pred, ◌+◌, ◌-◌, ◌*◌, min, ◌≤◌, ◌<◌}
use native.Mathlib.Nat.{zero-add}
use native.Mathlib.Omega.{arith}
use lib.ListN.{length, take, drop, length-take, length-drop, length-append, take-append-drop}
use lib.Seq.{paste, length-paste, length-take-le, take_all, take_at, drop_at, take-length, take-take, drop-drop, take-append-le, drop-append-le}
use Rattle.octets.specs.Octets.{part}
use Rattle.octets.proofs.CopyLaws.{part-between, part-part}
use Rattle.merkle.specs.Blocks.{block_count, cut, overlay}
use Rattle.merkle.proofs.CountLaws.{counted-most}
use Rattle.merkle.proofs.WayLaws.{depth-few}
use Rattle.merkle.proofs.ShapeLaws.{lt-or-le}
use Rattle.merkle.proofs.BlockLaws.{block-count, block-starts, overlay-same, overlay-other, overlay-is, take-blocks, blocks-equal, written}
use Rattle.wire.specs.declared.manifest.Manifest.{Manifest}
use Rattle.wire.specs.Size.{wrong_size}
use Rattle.wire.specs.Geometry.{count_of, block_length, block_start, blocks_of, with_block}
use Rattle.wire.specs.Message.{at_start}
use Rattle.wire.specs.Claims.{BlockLengths}
use Rattle.wire.proofs.SizeLaws.{sized, some_lengths}

-- the number of blocks before block i
pub before-is : (i : ℕ) → i - 1 ≡ pred i
before-is zero = refl
before-is (suc i) = omega arith

-- no block is longer than L
pub block-length-most : (L T i : ℕ) → block_length L T i ≤ L
unfolding block_length
block-length-most L T i = omega arith

pub block-length-few : (L T i : ℕ) → wrong_size L T ≡ false → block_length L T i ≤ 1024
block-length-few L T i e = omega (arith, block-length-most L T i, (sized L T e).most)

-- each block of a run of bytes has its length
pub length_cut : (L : ℕ) (a : List ℕ) (i : ℕ) → length (cut L a i) ≡ block_length L (length a) (suc i)
unfolding cut block_length
length_cut L a i = length-take L (drop (i * L) a) ∙ ap (min L) (length-drop (i * L) a)

-- the block with i blocks before it, of n that hold T bytes
module _ (L T i : ℕ) (below : i < block_count L T) where
  pub block_within : i * L + block_length L T (suc i) ≤ T
  unfolding block_length
  block_within = omega (arith, block-starts L T i below)

  -- only the last block may be shorter than L; it ends with the program
  pub block-full : suc i < block_count L T → block_length L T (suc i) ≡ L
  unfolding block_length
  block-full h = let e : suc i * L ≡ i * L + L = omega arith in omega (arith, block-starts L T (suc i) h)

  pub blocks-enough : T ≤ block_count L T * L
  blocks-enough = let b = block-starts L T i below in (block-count L T b.0 (omega (arith, b.1))).enough

  pub block_last : block_count L T ≤ suc i → i * L + block_length L T (suc i) ≡ T
  unfolding block_length
  block_last h =
      let e : block_count L T ≡ suc i = omega arith in
      let m : suc i * L ≡ i * L + L = omega arith in
      omega (arith, block-starts L T i below, rw e at blocks-enough)

-- the same of block i, from 1
pub block-ends : (L T i : ℕ) → 0 < i → i ≤ block_count L T → block_length L T i + (i - 1) * L ≤ T
block-ends L T i some known =
    let e : suc (i - 1) ≡ i = omega arith in
    let within = rw e at (block_within L T (i - 1) (omega arith)) in
    omega arith

-- the lengths of all n blocks
pub block-lengths : BlockLengths
block-lengths L T pos some =
    let n = block_count L T in
    let r = block-count L T pos some in
    let p : suc (n - 1) ≡ n = omega (arith, r.some) in
    let end : (n - 1) * L + block_length L T n ≡ T = rw p at (block_last L T (n - 1) (omega (arith, r.some)) (omega arith)) in
    record {
      earlier = λ i low h. let e : suc (i - 1) ≡ i = omega arith in rw e at (block-full L T (i - 1) (omega arith) (omega arith));
      last = omega arith;
      range = (omega (arith, r.below), block-length-most L T n);
    }

-- a block of the first T bytes, as it stands there
pub cut_stands : (L T i : ℕ) (a : List ℕ) → i < block_count L T → cut L (take T a) i ≡ part (i * L) (block_length L T (suc i)) a
unfolding cut block_length
cut_stands L T i a below =
    let at = i * L in
    let k = block_length L T (suc i) in
    let few : length (cut L (take T a) i) ≤ k = omega (arith, length_cut L (take T a) i, length-take T a) in
    sym (take_all k (cut L (take T a) i) few) ∙ take-take k L (drop at (take T a)) (block-length-most L T (suc i))
    ∙ part-part a 0 T at k (block_within L T i below) ∙ ap (λ j. part j k a) (zero-add at)

-- a block written to its place is a copy to there
pub with-copied : (L : ℕ) (flash : List ℕ) (i : ℕ) (x : List ℕ) → paste flash (block_start L i) x (length x) ≡ with_block L flash i x
unfolding with_block
with-copied L flash i x = let at = block_start L i in ap (λ (y : List ℕ). take at flash ++ y ++ drop (at + length x) flash) (take-length x)

pub length-written : (L : ℕ) (flash : List ℕ) (i : ℕ) (x : List ℕ) → block_start L i + length x ≤ length flash → length (with_block L flash i x) ≡ length flash
length-written L flash i x h = ap length (sym (with-copied L flash i x)) ∙ length-paste flash (block_start L i) x (length x) h (omega arith)

-- what stands behind a block's place is not touched
pub with-front : (L : ℕ) (f g : List ℕ) (i : ℕ) (x : List ℕ) → block_start L i + length x ≤ length f → with_block L (f ++ g) i x ≡ with_block L f i x ++ g
unfolding with_block
with-front L f g i x h =
    let at = block_start L i in
    rw (take-append-le at f g (omega arith), drop-append-le (at + length x) f g h) (sym (append_assoc (take at f ++ x) (drop (at + length x) f) g))

-- so neither is what stands behind the first T bytes, where the block ends within them
pub with-split : (L T i : ℕ) (f x : List ℕ) → T ≤ length f → block_start L i + length x ≤ T → with_block L f i x ≡ with_block L (take T f) i x ++ drop T f
with-split L T i f x room h =
    ap (λ y. with_block L y i x) (sym (take-append-drop T f)) ∙ with-front L (take T f) (drop T f) i x (omega (arith, length-take-le T f room))

-- and wherever it ends, what they are then follows from what they were
pub with-run : (L T i : ℕ) (f g x : List ℕ) → length f ≡ length g → take T f ≡ take T g → take T (with_block L f i x) ≡ take T (with_block L g i x)
with-run L T i f g x long same = go (lt-or-le T (length f)) (lt-or-le T (block_start L i)) (lt-or-le T (block_start L i + length x))
  where
    at : ℕ
    at = block_start L i

    within : (y : List ℕ) → T < length y → at + length x ≤ T → take T (with_block L y i x) ≡ with_block L (take T y) i x
    within y room h =
        let lu : length (take T y) ≡ T = length-take-le T y (omega arith) in
        ap (take T) (with-split L T i y x (omega arith) h) ∙ take_at (with_block L (take T y) i x) (drop T y) T (length-written L (take T y) i x (omega arith) ∙ lu)

    across : (y : List ℕ) → T < length y → at ≤ T → T < at + length x → take T (with_block L y i x) ≡ take T (take at (take T y) ++ x)
    across y room h end =
        unfold with_block in
        take-append-le T (take at y ++ x) (drop (at + length x) y) (omega (arith, length-append (take at y) x, length-take-le at y (omega arith)))
        ∙ ap (λ z. take T (z ++ x)) (sym (take-take at T y h))

    behind : (y : List ℕ) → T < length y → T < at → take T (with_block L y i x) ≡ take T y
    behind y room h =
        unfold with_block in
        let few : T ≤ length (take at y) = omega (arith, length-take at y) in
        take-append-le T (take at y ++ x) (drop (at + length x) y) (omega (arith, length-append (take at y) x)) ∙ take-append-le T (take at y) x few ∙ take-take T at y (omega arith)

    go : (T < length f) ⊎ (length f ≤ T) → (T < at) ⊎ (at ≤ T) → (T < at + length x) ⊎ (at + length x ≤ T) → take T (with_block L f i x) ≡ take T (with_block L g i x)
    go (inr h) a b = ap (λ y. take T (with_block L y i x)) (sym (take_all T f h) ∙ same ∙ take_all T g (omega arith))
    go (inl h) (inl a) b = behind f h a ∙ same ∙ sym (behind g (omega arith) a)
    go (inl h) (inr a) (inl b) = across f h a b ∙ ap (λ u. take T (take at u ++ x)) same ∙ sym (across g (omega arith) a b)
    go (inl h) (inr a) (inr b) = within f h b ∙ ap (λ u. with_block L u i x) same ∙ sym (within g (omega arith) b)

-- the block with i blocks before it, in a flash that has room for the program
module _ (s : Manifest) (i : ℕ) (flash : List ℕ) (below : i < count_of s) (room : s.image_len ≤ length flash) where
  abbrev L : ℕ
  L = s.block_len

  abbrev T : ℕ
  T = s.image_len

  abbrev long : ℕ
  long = block_length L T (suc i)

  pub block-end : i * L + long ≤ length flash
  unfolding count_of
  block-end = omega (arith, block_within L T i below)

  run_long : length (take T flash) ≡ T
  run_long = length-take-le T flash room

  pub length-in : length (blocks_of s flash i) ≡ long
  unfolding blocks_of
  length-in = length_cut L (take T flash) i ∙ ap (λ t. block_length L t (suc i)) run_long

  module _ (x : List ℕ) (size : length x ≡ long) where
    pub length-with : length (with_block L flash (suc i) x) ≡ length flash
    length-with = length-written L flash (suc i) x (omega (arith, block-end))

    fits : i * L + length x ≤ length (take T flash)
    unfolding count_of
    fits = omega (arith, block_within L T i below, run_long)

    -- the program's bytes with the block written, and those behind as they were
    parts : with_block L flash (suc i) x ≡ with_block L (take T flash) (suc i) x ++ drop T flash
    parts = with-split L T (suc i) flash x room (omega (arith, fits, run_long))

    run-with : length (with_block L (take T flash) (suc i) x) ≡ T
    run-with = length-written L (take T flash) (suc i) x fits ∙ run_long

    -- the blocks are those before with this one replaced
    pub with_blocks : (j : ℕ) → blocks_of s (with_block L flash (suc i) x) j ≡ overlay (blocks_of s flash) i x j
    unfolding blocks_of
    with_blocks j =
        let run = take T flash in
        ap (λ (y : List ℕ). cut L y j) (ap (take T) parts ∙ take_at (with_block L run (suc i) x) (drop T flash) T run-with ∙ sym (with-copied L run (suc i) x))
        ∙ written L run x i (omega (arith, fits)) (size ∙ sym length-in) j

    pub with-here : blocks_of s (with_block L flash (suc i) x) i ≡ x
    with-here = with_blocks i ∙ overlay-same (blocks_of s flash) i x

    pub with-before : (j : ℕ) → j < i → blocks_of s (with_block L flash (suc i) x) j ≡ blocks_of s flash j
    with-before j h = with_blocks j ∙ overlay-other (blocks_of s flash) i x j (λ e. omega arith)

    -- nothing behind the program is written
    pub with-behind : drop T (with_block L flash (suc i) x) ≡ drop T flash
    with-behind = ap (drop T) parts ∙ drop_at (with_block L (take T flash) (suc i) x) (drop T flash) T run-with

    -- up to its end the flash is what stood before the block, and the block
    pub with-start : take (i * L + length x) (with_block L flash (suc i) x) ≡ take (i * L) flash ++ x
    unfolding with_block
    with-start =
        let a : length (take (i * L) flash) ≡ i * L = length-take-le (i * L) flash (omega (arith, block-end)) in
        take_at (take (i * L) flash ++ x) (drop (i * L + length x) flash) (i * L + length x) (omega (arith, length-append (take (i * L) flash) x))

-- what stands before a block and behind it is all that is left of the flash
pub with-same : (L i : ℕ) (f g x : List ℕ) → take (block_start L i) f ≡ take (block_start L i) g → drop (block_start L i + length x) f ≡ drop (block_start L i + length x) g
    → with_block L f i x ≡ with_block L g i x
unfolding with_block
with-same L i f g x before behind = rw (before, behind)

-- the first j blocks of w over an old flash, and one block more
pub more-blocks : (L j : ℕ) (w old : List ℕ) → j * L ≤ length w → with_block L (at_start (take (j * L) w) old) (suc j) (cut L w j) ≡ at_start (take (suc j * L) w) old
unfolding with_block
more-blocks L j w old fits =
    let b : List ℕ = cut L w j in
    let front : List ℕ = take (j * L) w in
    let lf : length front ≡ j * L = length-take-le (j * L) w fits in
    let all : List ℕ = at_start front old in
    let more : take (suc j * L) w ≡ front ++ b = take-blocks L w j in
    let e : j * L + length b ≡ length front + length b = omega arith in
    ap₂ {C = List ℕ} (λ u v. u ++ v)
    (ap (λ u. u ++ b) (take_at front (drop (length front) old) (j * L) lf) ∙ sym more)
    (ap (λ k. drop k all) e ∙ sym (drop-drop (length b) (length front) all) ∙ ap (drop (length b)) (drop_at front (drop (length front) old) (length front) refl)
    ∙ drop-drop (length b) (length front) old ∙ ap (λ k. drop k old) (sym (ap length more ∙ length-append front b)))

-- a flash that begins with a program's bytes has their blocks
module _ (s : Manifest) (w old : List ℕ) (whole : length w ≡ s.image_len) where
  pub start-run : take s.image_len (at_start w old) ≡ w
  start-run = take_at w (drop (length w) old) s.image_len whole

  pub start-blocks : blocks_of s (at_start w old) ≡ cut s.block_len w
  unfolding blocks_of
  start-blocks = ap (cut s.block_len) start-run

-- where a flash begins with v, and w differs from v in one block at most, with that block written it begins with w
pub one-changed : (L : ℕ) (v w old : List ℕ) (i : ℕ) → length v ≡ length w → i < block_count L (length w)
    → ((j : ℕ) → j < block_count L (length w) → j ≢ i → cut L v j ≡ cut L w j) → with_block L (at_start v old) (suc i) (cut L w i) ≡ at_start w old
one-changed L v w old i lv below other =
    let T = length w in
    let n = block_count L T in
    let x = cut L w i in
    let size : length x ≡ block_length L T (suc i) = length_cut L w i in
    let fits : i * L + length x ≤ length v = omega (arith, block_within L T i below) in
    let run = with_block L v (suc i) x in
    let same : (j : ℕ) → j < n → cut L run j ≡ cut L w j =
    λ j h.
    ap (λ y. cut L y j) (sym (with-copied L v (suc i) x))
    ∙ written L v x i (omega arith) (size ∙ ap (λ t. block_length L t (suc i)) (sym lv) ∙ sym (length_cut L v i)) j
    ∙ overlay-is (cut L v) (cut L w) i j (other j h) in
    let enough = blocks-enough L T i below in
    let is : run ≡ w = sym (take_all (n * L) run (omega (arith, length-written L v (suc i) x fits))) ∙ blocks-equal L run w n same ∙ take_all (n * L) w enough in
    with-front L v (drop (length v) old) (suc i) x fits ∙ ap₂ {C = List ℕ} (λ y k. y ++ drop k old) is lv

-- what an allowed size says of a block and of the number of blocks
pub ruleset allowed = (sized, some_lengths, block-length-few, counted-most, depth-few)

-- where a block starts
pub ruleset starts = (block-starts)

-- where a block ends, and what stands there
pub ruleset standing = (block-ends, cut_stands, part-between)

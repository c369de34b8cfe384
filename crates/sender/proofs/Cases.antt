-- The cases worked out by hand.
use mathlib.Core.Path.{◌≡◌, refl, ap}
use mathlib.Core.Logic.{◌≢◌}
use mathlib.Core.Bool.{Bool, true, false}
use mathlib.Core.List.{List, [], ◌∷◌, append-nil}
use Prim.Native.Nat.{ℕ}
use native.Mathlib.Omega.{arith}
use lib.ListN.{length, drop, length-drop}
use lib.Seq.{take_all}
use Rattle.octets.specs.Octets.{bytes, joined}
use Rattle.sha256.specs.Sha256.{digest}
use Rattle.merkle.specs.Blocks.{block_count, cut}
use Rattle.merkle.specs.Shape.{size, least_from, depth, split, build, shape}
use Rattle.merkle.specs.Hash.{hash, hashes}
use Rattle.merkle.specs.Frontier.{largest, right_siblings, siblings, carried_count, frontier, held_count}
use Rattle.merkle.specs.Path.{path_siblings, leaf_depth}
use Rattle.merkle.specs.Held.{sent}
use Rattle.wire.specs.declared.refusal.Refusal.TheVariants.{Turn, Area}
use Rattle.wire.specs.Refusal.{first_that_applies}
use Rattle.wire.specs.Size.{allowed_length, wrong_size, outside}
use Rattle.wire.specs.Geometry.{block_length}
use Rattle.wire.specs.Message.{block_message, due_length, least_update, least_path}
use Rattle.sender.specs.Job.{Image, in_blocks, count, blocks, block_for}
use Rattle.sender.specs.Send.{sent_number, send, too_short, unnumbered, numbered, send_manifest, send_program, send_block, send_update, send_path}
use Rattle.sender.specs.Cases.{Figure2, values, Answers, Starred, LastByte}

pub figure2 : Figure2
unfolding size least_from depth split build shape hash
figure2 H f = refl

-- what holds of both forms of sending holds of every function
module _ (these : ℕ → Type 0) (x : Image) (plain : (bytes out : List ℕ) → these (sent_number (unnumbered x bytes out).answer)) (at : (i : ℕ) (bytes out : List ℕ) → these (sent_number (numbered x i bytes out).answer)) where
  of-all : Answers these x
  unfolding send_manifest send_program send_block send_update send_path
  of-all =
      record {
        manifest = λ model serial out. plain _ out;
        program = λ model serial signature out. plain _ out;
        block = λ i out. at i _ out;
        update = λ model serial i signature out. at i _ out;
        path = λ model serial i signature out. at i _ out;
      }

module _ (x : Image) where
  refused : wrong_size x.block_len (length x.bytes) ≡ true → Answers (λ number. number ≡ 5) x
  unfolding unnumbered numbered send first_that_applies
  refused e = of-all (λ number. number ≡ 5) x (λ bytes out. rw e refl) (λ i bytes out. rw e refl)

  not-refused : wrong_size x.block_len (length x.bytes) ≡ false → Answers (λ number. number ≢ 5) x
  unfolding unnumbered numbered send first_that_applies
  not-refused e =
      of-all (λ number. number ≢ 5) x
      (λ bytes out. rw e (room bytes out (too_short bytes out)))
      (λ i bytes out. rw e (turn bytes out (outside (count x) i) (too_short bytes out)))
    where
      room : (bytes out : List ℕ) (t : Bool) → sent_number (send ((Area, t) ∷ []) bytes out).answer ≢ 5
      room bytes out true = λ (z : ◌≡◌ {A = ℕ} 8 5). omega arith
      room bytes out false = λ (z : ◌≡◌ {A = ℕ} 0 5). omega arith

      turn : (bytes out : List ℕ) (t u : Bool) → sent_number (send ((Turn, t) ∷ (Area, u) ∷ []) bytes out).answer ≢ 5
      turn bytes out true u = λ (z : ◌≡◌ {A = ℕ} 11 5). omega arith
      turn bytes out false u = room bytes out u

pub starred : Starred
unfolding values size least_from depth split build shape largest right_siblings siblings carried_count frontier held_count block_count allowed_length wrong_size block_length due_length
starred = (
  refl,
  refl,
  refl,
  refl,
  refl,
  refl,
  refl,
  refl,
  refl,
  refl,
  refl,
  λ image e. not-refused (in_blocks image 256) (ap (wrong_size 256) e),
  λ image e. refused (in_blocks image 256) (ap (wrong_size 256) e),
  refl,
  refl,
  refl,
)

-- the second block of two is what is left, and no hash goes with it
second-message : (image : List ℕ) → length image ≡ 257 → block_for digest (in_blocks image 256) 2 ≡ 2 ∷ 0 ∷ 2 ∷ drop 256 image
unfolding size least_from depth split build shape largest right_siblings siblings block_count cut hashes joined sent bytes count blocks block_message block_for
second-message image e =
    let two : count (in_blocks image 256) ≡ 2 = ap (block_count 256) e in
    let last : blocks (in_blocks image 256) 1 ≡ drop 256 image = take_all 256 (drop 256 image) (rw (length-drop 256 image) (omega arith)) in
    rw (two, last) (ap (λ (y : List ℕ). 2 ∷ 0 ∷ 2 ∷ y) (append-nil (drop 256 image)))

pub last_byte : LastByte
unfolding values size least_from depth split build shape largest right_siblings siblings carried_count path_siblings leaf_depth block_count block_length due_length least_update least_path
last_byte = (refl, refl, refl, refl, second-message)

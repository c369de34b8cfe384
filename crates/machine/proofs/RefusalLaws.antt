-- What is known of a message that no refusal applies to, and how to show that none does.
use mathlib.Core.Path.{◌≡◌, refl, sym, ap, ◌∙◌, subst}
use mathlib.Core.Bool.{Bool, true, false, not, ◌||◌, ◌&&◌, cond, true≢false}
use mathlib.Core.List.{List, [], ◌∷◌, ◌++◌}
use Rattle.std.specs.Prelude.{Option, None, Some}
use Prim.Native.Nat.{ℕ, pred, ◌≤◌, ◌<◌}
use native.Mathlib.Omega.{arith}
use lib.Dec.{eqb, ltb}
use lib.ListN.{length}
use borrow.Author.Tests.{eqb-true, eq-eqb, ltb-false, not-false}
use Rattle.octets.specs.Octets.{equal}
use Rattle.octets.proofs.EqualLaws.{equal-self, equal-true}
use Rattle.merkle.specs.Shape.{shape}
use Rattle.merkle.specs.Hash.{plain}
use Rattle.merkle.specs.Path.{leaf_depth, path_hash}
use Rattle.merkle.specs.Held.{hashes_in}
use Rattle.wire.specs.declared.kind.Kind.{Kind}
use Rattle.wire.specs.declared.kind.Kind.TheVariants.{Program, Block, Update, PathUpdate, Unknown}
use Rattle.wire.specs.declared.manifest.Manifest.{Manifest}
use Rattle.wire.specs.declared.refusal.Refusal.{Refusal}
use Rattle.wire.specs.declared.refusal.Refusal.TheVariants as refusal
use Rattle.wire.specs.Refusal.{refusal_number, first_that_applies}
use Rattle.wire.specs.Size.{wrong_size, outside}
use Rattle.wire.specs.Geometry.{count_of, block_length, blocks_of, tree_over}
use Rattle.wire.specs.Message.{kind, least_length, short, manifest_bytes, manifest_in, program_signature, update_number, update_block, update_signature, path_in, path_signature, due_length, least_update, least_path}
use Rattle.wire.proofs.SizeLaws.{Sized, sized, or-false, and-true, inside}
use Rattle.machine.specs.declared.state.Stage.{Stage}
use Rattle.machine.specs.declared.state.Stage.TheVariants.{Idle, Loading, Complete}
use Rattle.machine.specs.declared.state.Device.{Device}
use Rattle.machine.specs.Answer.{Accepted, Refused}
use Rattle.machine.specs.Device.{next_of}
use Rattle.machine.specs.Flash.{stored, updated}
use Rattle.machine.specs.Refusals.{wrong_version, senseless, other_model, not_newer, no_kind, too_small, not_loading, not_complete, not_next, wrong_length, mismatch, unlike, lacks_root, last_altered, spent, strays, unsigned, of_manifest, always, of_program, of_block, of_successor, of_update, of_path_update, of_kind, refusals}
use Rattle.machine.specs.Step.{answer_of, refusal_of}

-- The test of a refusal; one that the list lacks never applies.
unfoldable pub test_of : Refusal → List (Refusal × Bool) → Bool
test_of r [] = false
test_of r (e ∷ es) = cond (eqb (refusal_number e.0) (refusal_number r)) e.1 (test_of r es)

-- the tests before it, and those behind it
unfoldable pub ahead : Refusal → List (Refusal × Bool) → List (Refusal × Bool)
ahead r [] = []
ahead r (e ∷ es) = cond (eqb (refusal_number e.0) (refusal_number r)) [] (e ∷ ahead r es)

unfoldable pub behind : Refusal → List (Refusal × Bool) → List (Refusal × Bool)
behind r [] = []
behind r (e ∷ es) = cond (eqb (refusal_number e.0) (refusal_number r)) es (behind r es)

pub clear : (r : Refusal) (es : List (Refusal × Bool)) → first_that_applies es ≡ None → test_of r es ≡ false
unfolding test_of first_that_applies
clear r [] a = refl
clear r (e ∷ es) a = go e.1 refl (clear r es)
  where
    both : (b t : Bool) → t ≡ false → cond b false t ≡ false
    both true t q = refl
    both false t q = q

    go : (t : Bool) → e.1 ≡ t → (first_that_applies es ≡ None → test_of r es ≡ false) → cond (eqb (refusal_number e.0) (refusal_number r)) e.1 (test_of r es) ≡ false
    go true q ih = absurd (let x : Some e.0 ≡ None = rw (q, first_that_applies) at a in let z : ◌≡◌ {A = ℕ} 0 1 = cc in omega arith)
    go false q ih = rw q (both (eqb (refusal_number e.0) (refusal_number r)) (test_of r es) (ih (rw (q, first_that_applies) at a)))

-- An answer tells which refusal was the first.
pub answer-none : (r : Option Refusal) → answer_of r ≡ Accepted → r ≡ None
unfolding answer_of
answer-none None e = refl
answer-none (Some x) e = absurd (let z : ◌≡◌ {A = ℕ} 0 1 = cc in omega arith)

pub answer-some : (r : Option Refusal) (x : Refusal) → answer_of r ≡ Refused x → r ≡ Some x
unfolding answer_of
answer-some None x e = absurd (let z : ◌≡◌ {A = ℕ} 0 1 = cc in omega arith)
answer-some (Some y) x e = cc

-- The tests of es before the rest do not apply: the first that applies is one of the rest.
pub record Passes (es rest : List (Refusal × Bool)) : Type 0 where
  pub same : first_that_applies es ≡ first_that_applies rest

pub start : (es : List (Refusal × Bool)) → Passes es es
start es = record { same = refl }

infixl 20 ◌past◌
pub ◌past◌ : {es rest : List (Refusal × Bool)} {r : Refusal} {t : Bool} → Passes es ((r, t) ∷ rest) → t ≡ false → Passes es rest
unfolding first_that_applies
p past e = record { same = p.same ∙ rw (e, first_that_applies) }

-- a piece of a list, and what stands behind it
pub behind-piece : (fs rest : List (Refusal × Bool)) → first_that_applies fs ≡ None → first_that_applies (fs ++ rest) ≡ first_that_applies rest
unfolding first_that_applies
behind-piece [] rest a = refl
behind-piece (f ∷ fs) rest a = go f.1 refl (behind-piece fs rest)
  where
    go : (t : Bool) → f.1 ≡ t → (first_that_applies fs ≡ None → first_that_applies (fs ++ rest) ≡ first_that_applies rest) → first_that_applies (f ∷ (fs ++ rest)) ≡ first_that_applies rest
    go true q ih = absurd (let x : Some f.0 ≡ None = rw (q, first_that_applies) at a in let z : ◌≡◌ {A = ℕ} 0 1 = cc in omega arith)
    go false q ih = rw (q, first_that_applies) (ih (rw (q, first_that_applies) at a))

pub in-piece : (fs rest : List (Refusal × Bool)) {r : Refusal} → first_that_applies fs ≡ Some r → first_that_applies (fs ++ rest) ≡ Some r
unfolding first_that_applies
in-piece [] rest a = absurd (let z : ◌≡◌ {A = ℕ} 0 1 = cc in omega arith)
in-piece (f ∷ fs) rest {r} a = go f.1 refl (in-piece fs rest)
  where
    go : (t : Bool) → f.1 ≡ t → (first_that_applies fs ≡ Some r → first_that_applies (fs ++ rest) ≡ Some r) → first_that_applies (f ∷ (fs ++ rest)) ≡ Some r
    go true q ih = rw (q, first_that_applies) (rw (q, first_that_applies) at a)
    go false q ih = rw (q, first_that_applies) (ih (rw (q, first_that_applies) at a))

-- where no test of two pieces applies, none of either does
pub of-first : (fs rest : List (Refusal × Bool)) → first_that_applies (fs ++ rest) ≡ None → first_that_applies fs ≡ None
of-first fs rest a = go (first_that_applies fs) refl
  where
    go : (r : Option Refusal) → first_that_applies fs ≡ r → first_that_applies fs ≡ None
    go None e = e
    go (Some r) e = absurd (let x = in-piece fs rest e in let z : ◌≡◌ {A = ℕ} 0 1 = cc in omega arith)

pub of-second : (fs rest : List (Refusal × Bool)) → first_that_applies (fs ++ rest) ≡ None → first_that_applies rest ≡ None
of-second fs rest a = sym (behind-piece fs rest (of-first fs rest a)) ∙ a

not-unequal : {s t : List ℕ} → s ≡ t → not (equal s t) ≡ false
not-unequal {s} {t} e = rw e (ap not (equal-self t))

-- the second of two tests, where the first is true and both together are not
after-true : (s t : Bool) → s ≡ true → s && t ≡ false → t ≡ false
after-true s t e q = rw e at q

-- manifests that 13 does not tell apart have the same lengths
pub alike-lengths : (s old : Manifest) → unlike s old ≡ false → (s.block_len ≡ old.block_len) × (s.image_len ≡ old.image_len)
unfolding unlike
alike-lengths s old e = let q = and-true (eqb s.block_len old.block_len) _ (not-false _ e) in (eqb-true _ _ q.0, eqb-true _ _ q.1)

-- A tree that does not lack its root has it.
module _ (H : List ℕ → List ℕ) (s : Manifest) (flash : List ℕ) where
  pub has-root : lacks_root H s flash ≡ false → tree_over H s flash ≡ s.root
  unfolding lacks_root
  has-root e = equal-true _ _ (not-false _ e)

  pub lacks-none : tree_over H s flash ≡ s.root → lacks_root H s flash ≡ false
  unfolding lacks_root
  lacks-none e = not-unequal e

-- A device that makes sense and is loading, at block i.
pub record Awaits (d : Device) (i : ℕ) : Type 0 where
  pub stage : d.stage ≡ Loading i
  pub version : wrong_version d.manifest ≡ false
  pub size : wrong_size d.manifest.block_len d.manifest.image_len ≡ false
  pub low : 0 < i
  pub high : i ≤ count_of d.manifest

pub awaits : (d : Device) {i : ℕ} → senseless d ≡ false → not_loading d.stage ≡ false → i ≡ next_of d.stage → Awaits d i
unfolding senseless not_loading next_of
awaits d {i} e q is = go d.stage refl
  where
    go : (t : Stage) → d.stage ≡ t → Awaits d i
    go Idle z = absurd (true≢false (rw z at q))
    go (Loading j) z =
        let a = or-false (wrong_version d.manifest || wrong_size d.manifest.block_len d.manifest.image_len) _ (rw z at e) in
        let b = or-false (wrong_version d.manifest) _ a.0 in
        let k = inside _ _ a.1 in
        rw (is, z) (record { stage = refl; version = b.0; size = b.1; low = k.0; high = k.1 })
    go Complete z = absurd (true≢false (rw z at q))

pub loading : (d : Device) → senseless d ≡ false → {i : ℕ} → d.stage ≡ Loading i → Awaits d i
unfolding not_loading next_of
loading d sense e = awaits d sense (rw e) (rw e)

module _ (H : List ℕ → List ℕ) (valid : (key message signature : List ℕ) → Bool) (d : Device) (flash m : List ℕ) where
  pub record ProgramPassed : Type 0 where
    pub long : least_length Program ≤ length m
    pub version : wrong_version (manifest_in m) ≡ false
    pub size : Sized (manifest_in m).block_len (manifest_in m).image_len
    pub newer : not_newer d (manifest_in m) ≡ false
    pub room : (manifest_in m).image_len ≤ length flash
    pub signed : valid d.key (manifest_bytes m) (program_signature m) ≡ true

  pub record BlockPassed : Type 0 where
    pub awaited : Awaits d (next_of d.stage)
    pub loading : not_loading d.stage ≡ false
    pub room : d.manifest.image_len ≤ length flash
    pub long : length m ≡ due_length d.manifest.block_len d.manifest.image_len (next_of d.stage)
    pub same : mismatch H d (next_of d.stage) m ≡ false
    pub whole : next_of d.stage ≡ count_of d.manifest → tree_over H d.manifest (stored d.manifest (next_of d.stage) flash m) ≡ d.manifest.root

  -- of an update of either kind, with its least length and its signature
  pub record Successor (least : ℕ) (signature : List ℕ) : Type 0 where
    pub complete : not_complete d.stage ≡ false
    pub version : wrong_version (manifest_in m) ≡ false
    pub size : Sized (manifest_in m).block_len (manifest_in m).image_len
    pub newer : not_newer d (manifest_in m) ≡ false
    pub alike : unlike (manifest_in m) d.manifest ≡ false
    pub room : (manifest_in m).image_len ≤ length flash
    pub turn : (0 < update_number m) × (update_number m ≤ count_of (manifest_in m))
    pub long : least ≤ length m
    pub signed : valid d.key (manifest_bytes m) signature ≡ true

  abbrev pub new_length : ℕ
  new_length = block_length (manifest_in m).block_len (manifest_in m).image_len (update_number m)

  abbrev pub new_depth : ℕ
  new_depth = leaf_depth (count_of (manifest_in m)) (pred (update_number m))

  pub record UpdatePassed : Type 0 where
    pub successor : Successor (least_update (manifest_in m).block_len (manifest_in m).image_len (update_number m)) (update_signature new_length m)
    pub intact : tree_over H d.manifest flash ≡ d.manifest.root
    pub rooted : tree_over H (manifest_in m) (updated (manifest_in m) flash m) ≡ (manifest_in m).root

  -- what the message's siblings and a block lead to
  abbrev pub led_to : List ℕ → List ℕ
  led_to block = path_hash (plain H) 0 (shape (count_of (manifest_in m))) (pred (update_number m)) block (hashes_in new_depth (path_in new_length new_depth m))

  pub record PathPassed : Type 0 where
    pub successor : Successor (least_path (manifest_in m).block_len (manifest_in m).image_len (update_number m)) (path_signature new_length new_depth m)
    pub old : led_to (blocks_of (manifest_in m) flash (pred (update_number m))) ≡ d.manifest.root
    pub new : led_to (update_block new_length m) ≡ (manifest_in m).root

  -- what is known of an accepted message, by its kind
  pub data Passed : Type 0 where
    took-program : kind m ≡ Program → ProgramPassed → Passed
    took-block : kind m ≡ Block → BlockPassed → Passed
    took-update : kind m ≡ Update → UpdatePassed → Passed
    took-path : kind m ≡ PathUpdate → PathPassed → Passed

  -- of a message of one kind
  pub passed-program : kind m ≡ Program → Passed → ProgramPassed
  passed-program e (took-program q p) = p
  passed-program e (took-block q p) = absurd (let z : ◌≡◌ {A = ℕ} 0 1 = cc in omega arith)
  passed-program e (took-update q p) = absurd (let z : ◌≡◌ {A = ℕ} 0 1 = cc in omega arith)
  passed-program e (took-path q p) = absurd (let z : ◌≡◌ {A = ℕ} 0 1 = cc in omega arith)

  pub passed-block : kind m ≡ Block → Passed → BlockPassed
  passed-block e (took-program q p) = absurd (let z : ◌≡◌ {A = ℕ} 0 1 = cc in omega arith)
  passed-block e (took-block q p) = p
  passed-block e (took-update q p) = absurd (let z : ◌≡◌ {A = ℕ} 0 1 = cc in omega arith)
  passed-block e (took-path q p) = absurd (let z : ◌≡◌ {A = ℕ} 0 1 = cc in omega arith)

  pub passed-update : kind m ≡ Update → Passed → UpdatePassed
  passed-update e (took-program q p) = absurd (let z : ◌≡◌ {A = ℕ} 0 1 = cc in omega arith)
  passed-update e (took-block q p) = absurd (let z : ◌≡◌ {A = ℕ} 0 1 = cc in omega arith)
  passed-update e (took-update q p) = p
  passed-update e (took-path q p) = absurd (let z : ◌≡◌ {A = ℕ} 0 1 = cc in omega arith)

  -- a new program that the device takes: no test applies
  pub record ProgramDue : Type 0 where
    pub is : kind m ≡ Program
    pub sense : senseless d ≡ false
    pub head : short Program m ≡ false
    pub version : wrong_version (manifest_in m) ≡ false
    pub size : wrong_size (manifest_in m).block_len (manifest_in m).image_len ≡ false
    pub model : other_model d (manifest_in m) ≡ false
    pub serial : not_newer d (manifest_in m) ≡ false
    pub area : too_small (manifest_in m) flash ≡ false
    pub signed : unsigned valid d (manifest_bytes m) (program_signature m) ≡ false

  -- the block message that the device waits for: no test applies but 20, which looks at the budget
  pub record NextDue : Type 0 where
    pub is : kind m ≡ Block
    pub sense : senseless d ≡ false
    pub head : short Block m ≡ false
    pub loading : not_loading d.stage ≡ false
    pub area : too_small d.manifest flash ≡ false
    pub turn : not_next (next_of d.stage) m ≡ false
    pub size : wrong_length d.manifest (next_of d.stage) m ≡ false
    pub same : mismatch H d (next_of d.stage) m ≡ false
    pub whole : last_altered H d.manifest (next_of d.stage) flash m ≡ false

  -- an update of either kind, with its least length and its signature: no test applies up to that of the signature, but for 19, which an update by a path lacks
  pub record SuccessorDue (k : Kind) (least : ℕ) (signature : List ℕ) : Type 0 where
    pub is : kind m ≡ k
    pub sense : senseless d ≡ false
    pub head : short k m ≡ false
    pub complete : not_complete d.stage ≡ false
    pub version : wrong_version (manifest_in m) ≡ false
    pub size : wrong_size (manifest_in m).block_len (manifest_in m).image_len ≡ false
    pub model : other_model d (manifest_in m) ≡ false
    pub serial : not_newer d (manifest_in m) ≡ false
    pub alike : unlike (manifest_in m) d.manifest ≡ false
    pub area : too_small (manifest_in m) flash ≡ false
    pub turn : outside (count_of (manifest_in m)) (update_number m) ≡ false
    pub long : ltb (length m) least ≡ false
    pub signed : unsigned valid d (manifest_bytes m) signature ≡ false

  -- an update by a path that passes has its block whole
  pub path-block : PathPassed → least_update (manifest_in m).block_len (manifest_in m).image_len (update_number m) ≤ length m
  unfolding least_path
  path-block p = let l = p.successor.long in omega arith

  module _ (budget : ℕ) where
    unrefused : (k : Kind) → kind m ≡ k → refusal_of H valid budget d flash m ≡ None → first_that_applies (refusals H valid budget k d flash m) ≡ None
    unfolding refusal_of
    unrefused k e a = subst (λ x. first_that_applies (refusals H valid budget x d flash m) ≡ None) e a

    -- refusal r does not apply
    without : (r : Refusal) (k : Kind) → kind m ≡ k → refusal_of H valid budget d flash m ≡ None → test_of r (refusals H valid budget k d flash m) ≡ false
    without r k e a = clear r (refusals H valid budget k d flash m) (unrefused k e a)

    pub program-passed : kind m ≡ Program → refusal_of H valid budget d flash m ≡ None → ProgramPassed
    unfolding refusals always of_kind of_manifest of_program test_of short too_small unsigned
    program-passed k a =
        record {
          long = ltb-false (length m) (least_length Program) (without refusal.Short Program k a);
          version = without refusal.Version Program k a;
          size = sized _ _ (without refusal.Size Program k a);
          newer = without refusal.Serial Program k a;
          room = ltb-false _ _ (without refusal.Area Program k a);
          signed = not-false _ (without refusal.Unsigned Program k a);
        }

    pub block-passed : kind m ≡ Block → refusal_of H valid budget d flash m ≡ None → BlockPassed
    unfolding refusals always of_kind of_block test_of too_small wrong_length last_altered
    block-passed k a =
        record {
          awaited = awaits d (without refusal.State Block k a) (without refusal.Stage Block k a) refl;
          loading = without refusal.Stage Block k a;
          room = ltb-false _ _ (without refusal.Area Block k a);
          long = eqb-true _ _ (not-false _ (without refusal.Length Block k a));
          same = without refusal.Mismatch Block k a;
          whole = λ e. has-root H _ _ (after-true _ _ (eq-eqb _ _ e) (without refusal.Altered Block k a));
        }

    -- what an update of either kind meets behind its own tests: 11, 12, 9, then others
    abbrev of_rest : ℕ → List ℕ → List (Refusal × Bool) → List (Refusal × Bool)
    of_rest least signature rest =
        (refusal.Turn, outside (count_of (manifest_in m)) (update_number m)) ∷ (refusal.Length, ltb (length m) least) ∷ (refusal.Unsigned, unsigned valid d (manifest_bytes m) signature) ∷ rest

    -- an update of either kind that no refusal applies to; `own` are tests that one kind has in the middle
    successor-passed : (k : Kind) {least : ℕ} {signature : List ℕ} (own rest : List (Refusal × Bool))
        → first_that_applies (always k d m ++ (of_successor d flash (manifest_in m) ++ (own ++ of_rest least signature rest))) ≡ None
        → Successor least signature
    unfolding always of_manifest of_successor test_of too_small unsigned
    successor-passed k own rest a =
        let b = of-second own _ (of-second (of_successor d flash (manifest_in m)) _ (of-second (always k d m) _ a)) in
        record {
          complete = clear refusal.Stage _ a;
          version = clear refusal.Version _ a;
          size = sized _ _ (clear refusal.Size _ a);
          newer = clear refusal.Serial _ a;
          alike = clear refusal.Unlike _ a;
          room = ltb-false _ _ (clear refusal.Area _ a);
          turn = inside _ _ (clear refusal.Turn _ b);
          long = ltb-false _ _ (clear refusal.Length _ b);
          signed = not-false _ (clear refusal.Unsigned _ b);
        }

    pub update-passed : kind m ≡ Update → refusal_of H valid budget d flash m ≡ None → UpdatePassed
    unfolding refusals always of_kind of_manifest of_successor of_update test_of
    update-passed k a =
        record {
          successor = successor-passed Update ((refusal.Altered, lacks_root H d.manifest flash) ∷ []) _ (unrefused Update k a);
          intact = has-root H _ _ (without refusal.Altered Update k a);
          rooted = has-root H _ _ (without refusal.Mismatch Update k a);
        }

    pub path-passed : kind m ≡ PathUpdate → refusal_of H valid budget d flash m ≡ None → PathPassed
    unfolding refusals always of_kind of_manifest of_successor of_path_update test_of strays
    path-passed k a =
        record {
          successor = successor-passed PathUpdate [] _ (unrefused PathUpdate k a);
          old = equal-true _ _ (not-false _ (without refusal.Path PathUpdate k a));
          new = equal-true _ _ (not-false _ (without refusal.Mismatch PathUpdate k a));
        }

    pub unknown-refused : kind m ≡ Unknown → refusal_of H valid budget d flash m ≡ None → ⊥
    unfolding refusals always of_kind no_kind test_of
    unknown-refused k a = true≢false (without refusal.Kind Unknown k a)

    pub passed : refusal_of H valid budget d flash m ≡ None → Passed
    passed a = go (kind m) refl
      where
        go : (k : Kind) → kind m ≡ k → Passed
        go Program e = took-program e (program-passed e a)
        go Block e = took-block e (block-passed e a)
        go Update e = took-update e (update-passed e a)
        go PathUpdate e = took-path e (path-passed e a)
        go Unknown e = absurd (unknown-refused e a)

    pub program-unrefused : ProgramDue → refusal_of H valid budget d flash m ≡ None
    unfolding refusal_of refusals always of_kind of_manifest of_program no_kind first_that_applies
    program-unrefused w =
        subst (λ k. first_that_applies (refusals H valid budget k d flash m) ≡ None) (sym w.is)
        (start (refusals H valid budget Program d flash m)
        past w.sense
        past refl
        past w.head
        past w.version
        past w.size
        past w.model
        past w.serial
        past w.area
        past w.signed).same

    pub due-unrefused : NextDue → spent H budget d.manifest (next_of d.stage) flash m ≡ false → refusal_of H valid budget d flash m ≡ None
    unfolding refusal_of refusals always of_kind of_block no_kind first_that_applies
    due-unrefused w within =
        subst (λ k. first_that_applies (refusals H valid budget k d flash m) ≡ None) (sym w.is)
        (start (refusals H valid budget Block d flash m) past w.sense past refl past w.head past w.loading past w.area past w.turn past w.size past within past w.same past w.whole).same

    -- what updates of both kinds meet first is past
    successor-past : {k : Kind} {least : ℕ} {signature : List ℕ} → SuccessorDue k least signature → no_kind k ≡ false → (rest : List (Refusal × Bool))
        → Passes (always k d m ++ (of_successor d flash (manifest_in m) ++ rest)) rest
    unfolding always of_manifest of_successor
    successor-past w known rest =
        start _
        past w.sense
        past known
        past w.head
        past w.complete
        past w.version
        past w.size
        past w.model
        past w.serial
        past w.alike
        past w.area

    -- .. and what they meet behind the tests of one of them
    rest-past : {k : Kind} {least : ℕ} {signature : List ℕ} → SuccessorDue k least signature → {es rest : List (Refusal × Bool)} → Passes es (of_rest least signature rest) → Passes es rest
    rest-past w p = p past w.turn past w.long past w.signed

    pub update-unrefused : SuccessorDue Update (least_update (manifest_in m).block_len (manifest_in m).image_len (update_number m)) (update_signature new_length m)
        → tree_over H d.manifest flash ≡ d.manifest.root → tree_over H (manifest_in m) (updated (manifest_in m) flash m) ≡ (manifest_in m).root
        → refusal_of H valid budget d flash m ≡ None
    unfolding refusal_of refusals of_kind of_update no_kind first_that_applies
    update-unrefused w intact rooted =
        subst (λ k. first_that_applies (refusals H valid budget k d flash m) ≡ None) (sym w.is)
        (rest-past w (successor-past w refl _ past lacks-none H _ _ intact) past lacks-none H _ _ rooted).same

    pub path-unrefused : SuccessorDue PathUpdate (least_path (manifest_in m).block_len (manifest_in m).image_len (update_number m)) (path_signature new_length new_depth m)
        → led_to (blocks_of (manifest_in m) flash (pred (update_number m))) ≡ d.manifest.root → led_to (update_block new_length m) ≡ (manifest_in m).root
        → refusal_of H valid budget d flash m ≡ None
    unfolding refusal_of refusals of_kind of_path_update no_kind strays first_that_applies
    path-unrefused w old new =
        subst (λ k. first_that_applies (refusals H valid budget k d flash m) ≡ None) (sym w.is)
        (rest-past w (successor-past w refl _) past not-unequal old past not-unequal new).same

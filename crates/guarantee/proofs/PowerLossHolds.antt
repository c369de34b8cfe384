-- Power loss: the same block messages over two flashes that agree where it counts, an update over two flashes, and what a path update reads.
use Rattle.std.proofs.Common.{◌≡◌, refl, sym, ap, ◌∙◌, subst, ◌⊎◌, inl, inr, ⊎_elim, Bool, true, false, ◌&&◌, true≢false, List, [], ◌∷◌, ◌++◌, Option, None, Some, ℕ, suc, pred, ◌+◌, ◌*◌, ◌≤◌, ◌<◌, arith, length, take, take-take, length-take-le, eqb, ltb-false, eqb-true, lt-ltb, le-ltb}
use borrow.Author.Tests.{not-false}
use Rattle.merkle.specs.Limits.{hash_length}
use Rattle.merkle.specs.Blocks.{cut}
use Rattle.merkle.specs.Shape.{shape}
use Rattle.merkle.specs.Hash.{plain, Collision}
use Rattle.merkle.proofs.ShapeLaws.{lt-or-le}
use Rattle.merkle.proofs.PathBindingLaws.{two-paths}
use Rattle.wire.specs.declared.kind.Kind.TheVariants.{Block, Update, PathUpdate}
use Rattle.wire.specs.declared.manifest.Manifest.{Manifest}
use Rattle.wire.specs.declared.refusal.Refusal.{Refusal}
use Rattle.wire.specs.declared.refusal.Refusal.TheVariants as refusal
use Rattle.wire.specs.Refusal.{first_that_applies}
use Rattle.wire.specs.Size.{wrong_size}
use Rattle.wire.specs.Geometry.{count_of, block_length, blocks_of, tree_over}
use Rattle.wire.specs.Message.{kind, manifest_in, block_in, update_number, path_in, due_length}
use Rattle.wire.specs.Cost.{block_cost}
use Rattle.wire.proofs.SizeLaws.{Sized}
use Rattle.wire.proofs.GeometryLaws.{block-full, block_last, length-with, with-behind, with-start, with-same}
use Rattle.wire.proofs.MessageLaws.{length-block}
use Rattle.wire.proofs.CostLaws.{costs-due}
use Rattle.machine.specs.declared.state.Stage.{Stage}
use Rattle.machine.specs.declared.state.Stage.TheVariants.{Loading, Complete}
use Rattle.machine.specs.declared.state.Device.{Device}
use Rattle.machine.specs.Device.{next_of, Situation}
use Rattle.machine.specs.Flash.{stored}
use Rattle.machine.specs.Refusals.{too_small, not_loading, wrong_length, spent, lacks_root, last_altered, strays, always, of_manifest, of_block, of_successor, of_update, of_path_update, of_kind, refusals}
use Rattle.machine.specs.Step.{stage_after, accept_block, accept_update, accept, total, answer_of, outcome, refusal_of, step, Call, step_call}
use Rattle.machine.proofs.RefusalLaws.{of-second, alike-lengths, has-root, test_of, ahead, behind, clear, awaits, BlockPassed, block-passed, update-passed, new_length, new_depth, led_to, path-passed}
use Rattle.guarantee.specs.Run.{Trace, empty, ◌▷◌, after, answer_to, siblings_in}
use Rattle.guarantee.specs.PowerLoss.{OnlyBlocks, Agree, SameLoad, TornLoad, TornUpdate, PathReads, TornPath}
use Rattle.machine.proofs.TestLaws.{same-behind, next-test}
use Rattle.guarantee.proofs.FirstHalf.{bound-image}
use Rattle.guarantee.proofs.DeviceLaws.{answered, unrefused, now, refusal_at, answered-at, after-accepted, after-refused}

-- Two flashes that have the manifest's tree have the same program, or their trees collide.
one-tree : (H : List ℕ → List ℕ) → ((x : List ℕ) → length (H x) ≡ hash_length) → (s : Manifest) (f g : List ℕ) → Sized s.block_len s.image_len → s.image_len ≤ length f
    → tree_over H s f ≡ s.root → tree_over H s g ≡ s.root
    → (take s.image_len f ≡ take s.image_len g) ⊎ Collision (plain H) (blocks_of s f) (blocks_of s g) 0 (shape (count_of s))
unfolding tree_over
one-tree H hash-long s f g z room a b =
    let T = s.image_len in
    let again : blocks_of s (take T f) ≡ blocks_of s f = unfold blocks_of in ap (cut s.block_len) (take-take T T f (omega arith)) in
    rw again at (bound-image H hash-long s g (take T f) z b (length-take-le T f room) (rw again a))

-- Before 19 an update's refusals see the length alone of the flash.
altered-or-rooted : (H : List ℕ → List ℕ) (valid : (key message signature : List ℕ) → Bool) (budget : ℕ) (d : Device) (f g m : List ℕ) → kind m ≡ Update
    → length f ≡ length g → refusal_of H valid budget d f m ≡ None → (refusal_of H valid budget d g m ≡ Some refusal.Altered) ⊎ (tree_over H d.manifest g ≡ d.manifest.root)
unfolding refusal_of refusals always of_kind of_manifest of_successor of_update too_small test_of ahead behind
altered-or-rooted H valid budget d f g m k long e =
    let es = refusals H valid budget Update d f m in
    ⊎_elim (λ q. inl (rw (k, ← long) q)) (λ q. inr (has-root H _ _ q.0))
    (next-test (ahead refusal.Altered es) ((refusal.Altered, test_of refusal.Altered es) ∷ behind refusal.Altered es) (behind refusal.Altered (refusals H valid budget Update d g m)) refusal.Altered (lacks_root H d.manifest g) (rw k at e))

pub torn-update : (H : List ℕ → List ℕ) → ((x : List ℕ) → length (H x) ≡ hash_length) → (valid : (key message signature : List ℕ) → Bool) → TornUpdate H valid
unfolding after answer_to answer_of
torn-update H hash-long valid budget d f g m k long ok =
    let e : refusal_of H valid budget d f m ≡ None = unrefused H valid budget d f m ok in
    let p = update-passed H valid d f m budget k e in
    let q = alike-lengths (manifest_in m) d.manifest p.successor.alike in
    ⊎_elim (λ r. inl (answered H valid budget d g m ∙ ap answer_of r))
    (λ r. inr (one-tree H hash-long d.manifest f g (rw (q.0, q.1) at p.successor.size) (rw q.1 at p.successor.room) p.intact r))
    (altered-or-rooted H valid budget d f g m k long e)

module _ (H : List ℕ → List ℕ) (valid : (key message signature : List ℕ) → Bool) (budget : ℕ) (d : Device) (f g m : List ℕ) (k : kind m ≡ PathUpdate) (long : length f ≡ length g) where
  abbrev s : Manifest
  s = manifest_in m

  abbrev i : ℕ
  i = pred (update_number m)

  path-refusal : blocks_of s f i ≡ blocks_of s g i → refusal_of H valid budget d f m ≡ refusal_of H valid budget d g m
  unfolding refusal_of refusals of_kind of_successor of_path_update too_small
  path-refusal same = rw (k, long, same)

  reads : blocks_of s f i ≡ blocks_of s g i → ((step H valid budget d f m).answer ≡ (step H valid budget d g m).answer) × ((step H valid budget d f m).device ≡ (step H valid budget d g m).device)
  unfolding step total outcome accept accept_update
  reads same = rw (path-refusal same, k) (go (refusal_of H valid budget d g m))
    where
      go : (r : Option Refusal)
          → ((outcome r budget 0 d f (accept PathUpdate d f m)).answer ≡ (outcome r budget 0 d g (accept PathUpdate d g m)).answer) × ((outcome r budget 0 d f (accept PathUpdate d f m)).device ≡ (outcome r budget 0 d g (accept PathUpdate d g m)).device)
      go None = (refl, refl)
      go (Some r) = (refl, refl)

  -- all but 15 are the same over both
  path-or-none : refusal_of H valid budget d f m ≡ None → (refusal_of H valid budget d g m ≡ Some refusal.Path) ⊎ (refusal_of H valid budget d g m ≡ None)
  unfolding refusal_of refusals always of_kind of_manifest of_successor of_path_update too_small test_of ahead behind
  path-or-none e =
      let es = refusals H valid budget PathUpdate d f m in
      let siblings = path_in (new_length H valid d f m) (new_depth H valid d f m) m in
      let own : Refusal × Bool = (refusal.Path, test_of refusal.Path es) in
      let rest = behind refusal.Path es in
      let e' : first_that_applies es ≡ None = rw k at e in
      rw (k, ← long)
      (⊎_elim (λ q. inl q) (λ q. inr (q.1 ∙ of-second (own ∷ []) rest (of-second (ahead refusal.Path es) (own ∷ rest) e')))
      (next-test (ahead refusal.Path es) (own ∷ rest) rest refusal.Path (strays H s (update_number m) (blocks_of s g i) siblings d.manifest.root) e'))

pub path-reads : (H : List ℕ → List ℕ) (valid : (key message signature : List ℕ) → Bool) → PathReads H valid
path-reads H valid = reads H valid

pub torn-path : (H : List ℕ → List ℕ) (valid : (key message signature : List ℕ) → Bool) → TornPath H valid
unfolding after answer_to answer_of
torn-path H valid budget d f g m k long ok =
    let e : refusal_of H valid budget d f m ≡ None = unrefused H valid budget d f m ok in
    let s : Manifest = manifest_in m in
    let i : ℕ = pred (update_number m) in
    let root : (x : List ℕ) → refusal_of H valid budget d x m ≡ None → led_to H valid d x m (blocks_of s x i) ≡ d.manifest.root = λ x e. (path-passed H valid d x m budget k e).old in
    ⊎_elim (λ q. inl (answered H valid budget d g m ∙ ap answer_of q))
    (λ q. inr (answered H valid budget d g m ∙ ap answer_of q, two-paths (plain H) 0 (shape (count_of s)) i (blocks_of s f i) (blocks_of s g i) (siblings_in m) (root f e ∙ sym (root g q))))
    (path-or-none H valid budget d f g m k long e)

-- Two situations of the same run over different flashes: both wait for block k + 1, or both are complete and the same.
data Together (a b : Situation) : Type 0 where
  waits : (k : ℕ) → a.device ≡ b.device → a.device.stage ≡ Loading (suc k) → Agree a.device.manifest k a.flash b.flash → Together a b
  done : a ≡ b → a.device.stage ≡ Complete → Together a b

-- block k + 1 of a program, written to either flash
module _ (s : Manifest) (k : ℕ) (f g m : List ℕ) (below : k < count_of s) (agree : Agree s k f g) (room : s.image_len ≤ length f)
    (due : length m ≡ due_length s.block_len s.image_len (suc k)) where
  abbrev size : ℕ
  size = block_length s.block_len s.image_len (suc k)

  abbrev block : List ℕ
  block = block_in size m

  long : length block ≡ size
  long = length-block size m (unfold due_length in omega arith)

  room' : s.image_len ≤ length g
  room' = rw (sym agree.long) room

  still-agree : suc k < count_of s → Agree s (suc k) (stored s (suc k) f m) (stored s (suc k) g m)
  unfolding stored count_of
  still-agree h =
      let L : ℕ = s.block_len in
      let e : suc k * L ≡ k * L + length block = omega (arith, long, block-full L s.image_len k below h) in
      record {
        long = length-with s k f below room block long ∙ agree.long ∙ sym (length-with s k g below room' block long);
        accepted = rw e (with-start s k f below room block long ∙ ap (λ (w : List ℕ). w ++ block) agree.accepted ∙ sym (with-start s k g below room' block long));
        behind = with-behind s k f below room block long ∙ agree.behind ∙ sym (with-behind s k g below room' block long);
      }

  now-same : count_of s ≤ suc k → stored s (suc k) f m ≡ stored s (suc k) g m
  unfolding stored count_of
  now-same h =
      let L : ℕ = s.block_len in
      let e : k * L + length block ≡ s.image_len = omega (arith, long, block_last L s.image_len k below h) in
      with-same L (suc k) f g block agree.accepted (rw e agree.behind)

  -- so 19 is the same over both
  last-same : (H : List ℕ → List ℕ) → last_altered H s (suc k) f m ≡ last_altered H s (suc k) g m
  unfolding last_altered
  last-same H = go (eqb (suc k) (count_of s)) refl
    where
      go : (b : Bool) → eqb (suc k) (count_of s) ≡ b → b && lacks_root H s (stored s (suc k) f m) ≡ b && lacks_root H s (stored s (suc k) g m)
      go true e = ap (lacks_root H s) (now-same (omega (arith, eqb-true (suc k) (count_of s) e)))
      go false e = refl

module _ (H : List ℕ → List ℕ) (hash-long : (x : List ℕ) → length (H x) ≡ hash_length) (valid : (key message signature : List ℕ) → Bool) where
  -- what a block costs is the same over both
  cost-same : (s : Manifest) (i : ℕ) (f g m : List ℕ) → wrong_size s.block_len s.image_len ≡ false → 0 < i → i ≤ count_of s → length f ≡ length g
      → s.image_len ≤ length f → length m ≡ due_length s.block_len s.image_len i → block_cost H s i f m ≡ block_cost H s i g m
  cost-same s i f g m size low high long room due =
      let c = costs-due H hash-long s i size low high in
      c.known f m room due ∙ sym (c.known g m (rw (sym long) room) due)

  -- but for 20 and 19 a block message's refusals see the length alone of the flash
  block-refusal : (budget : ℕ) (d : Device) (k : ℕ) (f g m : List ℕ) → kind m ≡ Block → d.stage ≡ Loading (suc k) → Agree d.manifest k f g
      → refusal_of H valid budget d f m ≡ refusal_of H valid budget d g m
  unfolding refusal_of refusals always of_kind of_block next_of too_small wrong_length spent test_of ahead
  block-refusal budget d k f g m e t agree =
      let next : next_of d.stage ≡ suc k = rw t in
      rw (e, ← agree.long)
      (same-behind (ahead refusal.Spent (refusals H valid budget Block d f m)) _ _
      (λ a.
      let awaited = awaits d (clear refusal.State _ a) (clear refusal.Stage _ a) (sym next) in
      let due : wrong_length d.manifest (suc k) m ≡ false = rw next at (clear refusal.Length _ a) in
      let long = eqb-true _ _ (not-false _ due) in
      let room = ltb-false _ _ (clear refusal.Area _ a) in
      rw (
        next,
        cost-same d.manifest (suc k) f g m awaited.size awaited.low awaited.high agree.long room long,
        last-same d.manifest k f g m awaited.high agree room long H,
      )))

  -- so what it reports is the same over both
  block-reports : (budget : ℕ) (d : Device) (k : ℕ) (f g m : List ℕ) → kind m ≡ Block → d.stage ≡ Loading (suc k) → Agree d.manifest k f g
      → (step H valid budget d f m).compressions ≡ (step H valid budget d g m).compressions
  unfolding step total outcome
  block-reports budget d k f g m e t agree = rw (← block-refusal budget d k f g m e t agree, e) (go (refusal_of H valid budget d f m) refl)
    where
      go : (r : Option Refusal) → refusal_of H valid budget d f m ≡ r
          → (outcome r budget (total H Block d f m) d f (accept Block d f m)).compressions ≡ (outcome r budget (total H Block d g m) d g (accept Block d g m)).compressions
      go None h =
          let p = block-passed H valid d f m budget e h in
          cost-same d.manifest (next_of d.stage) f g m p.awaited.size p.awaited.low p.awaited.high agree.long p.room p.long
      go (Some r) h = refl

  block_is : (d : Device) (k : ℕ) (f m : List ℕ) → d.stage ≡ Loading (suc k) → (t : Stage) → stage_after (count_of d.manifest) (suc k) ≡ t
      → accept_block d f m ≡ record {
        device = record { model = d.model; key = d.key; stage = t; manifest = d.manifest; hashes = (accept_block d f m).device.hashes };
        flash = stored d.manifest (suc k) f m;
      }
  unfolding accept_block next_of
  block_is d k f m e t q = rw (e, q)

  -- an accepted block over both
  block-together : (d : Device) (k : ℕ) (f g m : List ℕ) → d.stage ≡ Loading (suc k) → Agree d.manifest k f g → BlockPassed H valid d f m
      → Together (accept_block d f m) (accept_block d g m)
  block-together d k f g m e agree p = go (lt-or-le (suc k) (count_of s))
    where
      s : Manifest
      s = d.manifest

      next : next_of d.stage ≡ suc k
      next = unfold next_of in rw e

      below : k < count_of d.manifest
      below = rw next at p.awaited.high

      due : length m ≡ due_length d.manifest.block_len d.manifest.image_len (suc k)
      due = rw next at p.long

      hashes : (accept_block d f m).device.hashes ≡ (accept_block d g m).device.hashes
      hashes = unfold accept_block in refl

      go : (suc k < count_of s) ⊎ (count_of s ≤ suc k) → Together (accept_block d f m) (accept_block d g m)
      go (inl h) =
          let t : stage_after (count_of d.manifest) (suc k) ≡ Loading (suc (suc k)) = unfold stage_after in rw (lt-ltb (suc k) (count_of s) h) in
          rw (block_is d k f m e (Loading (suc (suc k))) t, block_is d k g m e (Loading (suc (suc k))) t)
          (waits (suc k) (rw hashes) refl (still-agree s k f g m below agree p.room due h))
      go (inr h) =
          let t : stage_after (count_of d.manifest) (suc k) ≡ Complete = unfold stage_after in rw (le-ltb (suc k) (count_of s) h) in
          rw (block_is d k f m e Complete t, block_is d k g m e Complete t)
          (done (rw (hashes, now-same s k f g m below agree p.room due h)) refl)

  module _ (d : Device) (f g : List ℕ) where
    abbrev over-f : Trace Call → Situation
    over-f cs = now H valid d f cs

    abbrev over-g : Trace Call → Situation
    over-g cs = now H valid d g cs

    same-refusal : (cs : Trace Call) (c : Call) → kind c.message ≡ Block → (k : ℕ) → (over-f cs).device ≡ (over-g cs).device → (over-f cs).device.stage ≡ Loading (suc k)
        → Agree (over-f cs).device.manifest k (over-f cs).flash (over-g cs).flash → refusal_at H valid d f cs c ≡ refusal_at H valid d g cs c
    same-refusal cs c e k q t agree =
        block-refusal c.budget (over-f cs).device k (over-f cs).flash (over-g cs).flash c.message e t agree ∙ ap (λ (x : Device). refusal_of H valid c.budget x (over-g cs).flash c.message) q

    one_more : (cs : Trace Call) (c : Call) → kind c.message ≡ Block → Together (over-f cs) (over-g cs) → Together (over-f (cs ▷ c)) (over-g (cs ▷ c))
    unfolding accept not_loading
    one_more cs c e (waits k q t agree) = go (refusal_at H valid d f cs c) refl
      where
        both : refusal_at H valid d f cs c ≡ refusal_at H valid d g cs c
        both = same-refusal cs c e k q t agree

        go : (r : Option Refusal) → refusal_at H valid d f cs c ≡ r → Together (over-f (cs ▷ c)) (over-g (cs ▷ c))
        go None h =
            let p = block-passed H valid (over-f cs).device (over-f cs).flash c.message c.budget e h in
            let w = block-together (over-f cs).device k (over-f cs).flash (over-g cs).flash c.message t agree p in
            rw (after-accepted H valid d f cs c h, after-accepted H valid d g cs c (sym both ∙ h), e, accept)
            (subst (λ (x : Device). Together (accept_block (over-f cs).device (over-f cs).flash c.message) (accept_block x (over-g cs).flash c.message)) q w)
        go (Some r) h = rw (after-refused H valid d f cs c r h, after-refused H valid d g cs c r (sym both ∙ h)) (waits k q t agree)
    one_more cs c e (done q t) = go (refusal_at H valid d f cs c) refl
      where
        both : refusal_at H valid d f cs c ≡ refusal_at H valid d g cs c
        both = ap (λ (x : Situation). refusal_of H valid c.budget x.device x.flash c.message) q

        go : (r : Option Refusal) → refusal_at H valid d f cs c ≡ r → Together (over-f (cs ▷ c)) (over-g (cs ▷ c))
        go None h = absurd (true≢false (rw t at (block-passed H valid (over-f cs).device (over-f cs).flash c.message c.budget e h).loading))
        go (Some r) h = rw (after-refused H valid d f cs c r h, after-refused H valid d g cs c r (sym both ∙ h)) (done q t)

    together : (k : ℕ) → d.stage ≡ Loading (suc k) → Agree d.manifest k f g → (cs : Trace Call) → OnlyBlocks cs → Together (over-f cs) (over-g cs)
    unfolding after OnlyBlocks
    together k e agree empty o = waits k refl e agree
    together k e agree (cs ▷ c) o = one_more cs c o.1 (together k e agree cs o.0)

    same_load : (cs : Trace Call) → Together (over-f cs) (over-g cs) → SameLoad H valid d f g cs
    unfolding answer_of step_call
    same_load cs (waits k q t agree) =
        record {
          answers = λ c e. answered-at H valid d f cs c ∙ ap answer_of (same-refusal cs c e k q t agree) ∙ sym (answered-at H valid d g cs c);
          reports = λ c e.
              block-reports c.budget (over-f cs).device k (over-f cs).flash (over-g cs).flash c.message e t agree
              ∙ ap (λ (x : Device). (step H valid c.budget x (over-g cs).flash c.message).compressions) q;
          states = q;
          flashes = λ c. absurd cc;
        }
    same_load cs (done q t) =
        record {
          answers = λ c e.
              answered-at H valid d f cs c ∙ ap (λ (x : Situation). answer_of (refusal_of H valid c.budget x.device x.flash c.message)) q ∙ sym (answered-at H valid d g cs c);
          reports = λ c e. ap (λ (x : Situation). (step H valid c.budget x.device x.flash c.message).compressions) q;
          states = ap (λ (x : Situation). x.device) q;
          flashes = λ c. ap (λ (x : Situation). x.flash) q;
        }

  pub torn-load : TornLoad H valid
  torn-load d k e f g agree cs o = same_load d f g cs (together d f g k e agree cs o)

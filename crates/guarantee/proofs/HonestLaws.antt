-- The honest run, step by step: a device that loads a job accepts the sender's next block, and then loads it still.
use Rattle.std.proofs.Common.{◌≡◌, refl, sym, ap, ap₂, ◌∙◌, subst, ◌⊎◌, inl, inr, Bool, true, false, not, ◌||◌, List, [], None, ℕ, suc, ◌*◌, max, ◌≤◌, ◌<◌, zero-mul, arith, eqb, length, take, drop, length-append, length-drop, take_all, lt-ltb, le-ltb, eq-eqb, ne_eqb}
use lib.Dec.{eqb-suc-zero}
use Rattle.merkle.specs.Limits.{hash_length, held_bytes}
use Rattle.merkle.specs.Shape.{shape, depth}
use Rattle.merkle.specs.Hash.{plain, hashes, root_over}
use Rattle.merkle.specs.Frontier.{frontier, held_count}
use Rattle.merkle.specs.Held.{held_in, begun, advanced, fits}
use Rattle.merkle.proofs.ShapeLaws.{lt-or-le}
use Rattle.merkle.proofs.BlockLaws.{block-starts}
use Rattle.merkle.proofs.HashLaws.{length-hashes}
use Rattle.merkle.proofs.CountLaws.{held-depth}
use Rattle.merkle.proofs.HeldLaws.{begun-held, length-begun, all_held}
use Rattle.merkle.proofs.LoadingLaws.{hashes-zero}
use Rattle.merkle.proofs.FitsLaws.{SentFits, sent-fits}
use Rattle.wire.specs.declared.kind.Kind.TheVariants.{Program, Block}
use Rattle.wire.specs.declared.manifest.Manifest.{Manifest}
use Rattle.wire.specs.Size.{outside}
use Rattle.wire.specs.Manifest.{written}
use Rattle.wire.specs.Geometry.{count_of, block_length, with_block, tree_over}
use Rattle.wire.specs.Message.{least_length, short, manifest_bytes, manifest_in, number_in, block_in, hashes_after, due_length, at_start}
use Rattle.wire.specs.Cost.{cost_due}
use Rattle.wire.proofs.GeometryLaws.{more-blocks, start-blocks}
use Rattle.wire.proofs.CostLaws.{costs-due}
use Rattle.sender.specs.Job.{Job, count, blocks, root_of, manifest_for, block_for}
use Rattle.machine.specs.declared.state.Stage.TheVariants.{Loading, Complete}
use Rattle.machine.specs.declared.state.Device.{Device}
use Rattle.machine.specs.Device.{next_of, held_by, Situation}
use Rattle.machine.specs.Flash.{stored}
use Rattle.machine.specs.Refusals.{wrong_version, senseless, too_small, not_loading, not_next, wrong_length, last_altered, spent}
use Rattle.machine.specs.Step.{accept_program, stage_after, accept_block, total, accept, refusal_of}
use Rattle.guarantee.specs.Demand3.{Sendable}
use Rattle.machine.proofs.RefusalLaws.{ProgramPassed, NextDue, lacks-none, due-unrefused}
use Rattle.machine.proofs.HeldLaws.{mismatch-is}
use Rattle.guarantee.proofs.SentLaws.{count-some, count_most, job-enough, root-long, manifest-is, Sent, block-sent}

both_false : (s t : Bool) → s ≡ false → t ≡ false → s || t ≡ false
both_false s t a b = rw (a, b)

-- a flash that begins with the job's image has the root of its manifest
pub image-rooted : (H : List ℕ → List ℕ) (job : Job) (old : List ℕ) → tree_over H (manifest_for H job) (at_start job.image.bytes old) ≡ (manifest_for H job).root
unfolding tree_over manifest_for root_of blocks count_of count
image-rooted H job old = ap (λ f. root_over (plain H) f (count job.image)) (start-blocks (manifest_for H job) job.image.bytes old refl)

-- the block message that a device waits for, with a budget that suffices
pub within-unrefused : (H : List ℕ → List ℕ) (valid : (key message signature : List ℕ) → Bool) (budget : ℕ) (d : Device) (f m : List ℕ)
    → NextDue H valid d f m → total H Block d f m ≤ budget → refusal_of H valid budget d f m ≡ None
unfolding total spent
within-unrefused H valid budget d f m w e = due-unrefused H valid d f m budget w (le-ltb budget _ e)

-- a device that loads the job, at block j + 1
loading_at : (List ℕ → List ℕ) → Job → ℕ → List ℕ → ℕ → List ℕ → Device
loading_at H job model key j array = record { model = model; key = key; stage = Loading (suc j); manifest = manifest_for H job; hashes = array }

module _ (H : List ℕ → List ℕ) (hash-long : (x : List ℕ) → length (H x) ≡ hash_length) (valid : (key message signature : List ℕ) → Bool) (job : Job) (ok : Sendable job) where
  -- after j blocks of the job, over an old flash
  pub record Here (old : List ℕ) (j : ℕ) (s : Situation) : Type 0 where
    pub within : j ≤ count job.image
    pub stage : s.device.stage ≡ stage_after (count job.image) j
    pub manifest : s.device.manifest ≡ manifest_for H job
    pub array : length s.device.hashes ≡ held_bytes
    pub holds : held_in (count job.image) j s.device.hashes ≡ hashes (plain H) (blocks job.image) (frontier 0 (shape (count job.image)) j)
    pub room : length job.image.bytes ≤ length old
    pub flash : s.flash ≡ at_start (take (j * job.image.block_len) job.image.bytes) old

  -- the sender's next block, to a device that loads the job
  module _ (j : ℕ) (array : List ℕ) (below : j < count job.image) (array_long : length array ≡ held_bytes)
      (holds : held_in (count job.image) j array ≡ hashes (plain H) (blocks job.image) (frontier 0 (shape (count job.image)) j)) where
    run : SentFits (plain H) hash-long (count job.image) (blocks job.image) j array
    run = sent-fits (plain H) hash-long (count job.image) (blocks job.image) j array below (count_most H hash-long job ok) array_long holds

    is-sent : Sent H hash-long job ok j (block_for H job.image (suc j))
    is-sent = block-sent H hash-long job ok j below

    abbrev size : ℕ
    size = block_length job.image.block_len (length job.image.bytes) (suc j)

    matches : fits (plain H) (count job.image) j array (block_in size (block_for H job.image (suc j))) (hashes_after size (block_for H job.image (suc j))) ≡ true
    matches = rw (is-sent.block, is-sent.after) run.accepted

    is-due : (model : ℕ) (key f : List ℕ) → length job.image.bytes ≤ length f → last_altered H (manifest_for H job) (suc j) f (block_for H job.image (suc j)) ≡ false
        → NextDue H valid (loading_at H job model key j array) f (block_for H job.image (suc j))
    unfolding senseless short not_loading too_small next_of not_next wrong_length wrong_version outside count_of count loading_at manifest_for due_length
    is-due model key f room whole =
        let m : List ℕ = block_for H job.image (suc j) in
        record {
          is = is-sent.is;
          sense = both_false _ _ ok.size (both_false (eqb (suc j) 0) _ (eqb-suc-zero j) (le-ltb (count job.image) (suc j) (omega arith)));
          head = le-ltb (length m) (least_length Block) (omega (arith, is-sent.size));
          loading = refl;
          area = le-ltb (length f) _ room;
          turn = ap not (eq-eqb (number_in m) (suc j) is-sent.number);
          size = ap not (eq-eqb (length m) _ is-sent.size);
          same = mismatch-is H (loading_at H job model key j array) j refl below m ∙ ap not matches;
          whole = whole;
        }

  -- it costs what L, T and its number say
  sent-cost : (d : Device) (f : List ℕ) (j : ℕ) → j < count job.image → d.stage ≡ Loading (suc j) → d.manifest ≡ manifest_for H job → length job.image.bytes ≤ length f
      → total H Block d f (block_for H job.image (suc j)) ≡ cost_due H (manifest_for H job) (suc j)
  unfolding total next_of manifest_for count_of count
  sent-cost d f j h stage manifest room =
      let m : List ℕ = block_for H job.image (suc j) in
      rw (stage, manifest) ((costs-due H hash-long (manifest_for H job) (suc j) ok.size (omega arith) h).known f m room (block-sent H hash-long job ok j h).size)

  -- all n blocks are the image
  all-taken : (j : ℕ) → j ≡ count job.image → take (j * job.image.block_len) job.image.bytes ≡ job.image.bytes
  all-taken j e = take_all (j * job.image.block_len) job.image.bytes (rw e (job-enough H hash-long job ok))

  module _ (old : List ℕ) (j : ℕ) (s : Situation) (w : Here old j s) where
    room-now : length job.image.bytes ≤ length s.flash
    room-now =
        let front = take (j * job.image.block_len) job.image.bytes in
        rw (w.flash, length-append front (drop (length front) old), length-drop (length front) old) (omega (arith, w.room))

    is-next : j < count job.image → s.device.stage ≡ Loading (suc j)
    unfolding stage_after
    is-next h = w.stage ∙ rw (lt-ltb j (count job.image) h)

    is-loading : j < count job.image → s.device ≡ loading_at H job s.device.model s.device.key j s.device.hashes
    unfolding loading_at
    is-loading h = λ i. record { model = s.device.model; key = s.device.key; stage = is-next h i; manifest = w.manifest i; hashes = s.device.hashes }

    next-flash : j < count job.image → stored (manifest_for H job) (suc j) s.flash (block_for H job.image (suc j))
        ≡ at_start (take (suc j * job.image.block_len) job.image.bytes) old
    unfolding stored manifest_for blocks count
    next-flash h =
        let L = job.image.block_len in
        let x = job.image.bytes in
        ap₂ (λ y b. with_block L y (suc j) b) w.flash (block-sent H hash-long job ok j h).block ∙ more-blocks L j x old (omega (arith, block-starts L (length x) j h))

    -- where the block is the last one, the flash with it begins with the image
    next-whole : j < count job.image → last_altered H (manifest_for H job) (suc j) s.flash (block_for H job.image (suc j)) ≡ false
    unfolding last_altered count_of count manifest_for
    next-whole h = go (lt-or-le (suc j) (count job.image))
      where
        go : (suc j < count job.image) ⊎ (count job.image ≤ suc j) → last_altered H (manifest_for H job) (suc j) s.flash (block_for H job.image (suc j)) ≡ false
        go (inl g) = rw (ne_eqb (suc j) (count job.image) (λ e. omega arith))
        go (inr g) =
            let e : suc j ≡ count job.image = omega arith in
            let is = next-flash h ∙ ap (λ y. at_start y old) (all-taken (suc j) e) in
            rw (eq-eqb (suc j) (count job.image) e) (lacks-none H (manifest_for H job) _ (ap (tree_over H (manifest_for H job)) is ∙ image-rooted H job old))

    pub next-due : j < count job.image → NextDue H valid s.device s.flash (block_for H job.image (suc j))
    next-due h =
        subst (λ d. NextDue H valid d s.flash (block_for H job.image (suc j))) (sym (is-loading h))
        (is-due j s.device.hashes h w.array w.holds s.device.model s.device.key s.flash room-now (next-whole h))

    pub next-cost : j < count job.image → total H Block s.device s.flash (block_for H job.image (suc j)) ≡ cost_due H (manifest_for H job) (suc j)
    next-cost h = sent-cost s.device s.flash j h (is-next h) w.manifest room-now

    pub next-accepted : (budget : ℕ) → j < count job.image → cost_due H (manifest_for H job) (suc j) ≤ budget
        → refusal_of H valid budget s.device s.flash (block_for H job.image (suc j)) ≡ None
    next-accepted budget h e = within-unrefused H valid budget s.device s.flash (block_for H job.image (suc j)) (next-due h) (rw (next-cost h) e)

    pub next_here : j < count job.image → Here old (suc j) (accept Block s.device s.flash (block_for H job.image (suc j)))
    next_here h = subst (λ d. Here old (suc j) (accept Block d s.flash (block_for H job.image (suc j)))) (sym (is-loading h)) go
      where
        go : Here old (suc j) (accept Block (loading_at H job s.device.model s.device.key j s.device.hashes) s.flash (block_for H job.image (suc j)))
        go = unfold accept accept_block loading_at next_of manifest_for count_of count in
            let r = block-sent H hash-long job ok j h in
            let k = run j s.device.hashes h w.array w.holds in
            record {
              within = h;
              stage = refl;
              manifest = refl;
              array = ap (λ x. length (advanced (count job.image) j s.device.hashes x)) r.after ∙ k.size;
              holds = ap (λ x. held_in (count job.image) (suc j) (advanced (count job.image) j s.device.hashes x)) r.after ∙ k.holds;
              room = w.room;
              flash = next-flash h;
            }

    pub is-complete : j ≡ count job.image → s.device.stage ≡ Complete
    unfolding stage_after
    is-complete e = w.stage ∙ rw (le-ltb j (count job.image) (omega arith))

    pub holding : held_by s.device ≡ hashes (plain H) (blocks job.image) (frontier 0 (shape (count job.image)) j)
    unfolding held_by
    holding = go (lt-or-le j (count job.image))
      where
        go : (j < count job.image) ⊎ (count job.image ≤ j) → held_by s.device ≡ hashes (plain H) (blocks job.image) (frontier 0 (shape (count job.image)) j)
        go (inl h) = unfold loading_at manifest_for count_of count in (ap held_by (is-loading h) ∙ w.holds)
        go (inr h) =
            let e : j ≡ count job.image = omega (arith, w.within) in
            rw (is-complete e, held_by)
            (sym (all_held (count job.image) s.device.hashes (count-some H hash-long job ok)) ∙ ap (λ x. held_in (count job.image) x s.device.hashes) (sym e) ∙ w.holds)

    pub held-few : length (held_by s.device) ≤ max 1 (depth (count job.image))
    unfolding held_count
    held-few = rw (holding, length-hashes (plain H) (blocks job.image) (frontier 0 (shape (count job.image)) j)) (held-depth (count job.image) j (count-some H hash-long job ok))

    pub none_held : j ≡ count job.image → held_by s.device ≡ []
    unfolding held_by
    none_held e = rw (is-complete e, held_by)

    pub flash-is : j ≡ count job.image → s.flash ≡ at_start job.image.bytes old
    flash-is e = w.flash ∙ ap (λ y. at_start y old) (all-taken j e)

  -- the manifest came
  pub first-here : (d : Device) (f m : List ℕ) → manifest_bytes m ≡ written (manifest_for H job) → ProgramPassed H valid d f m → Here f 0 (accept Program d f m)
  unfolding accept accept_program
  first-here d f m e p =
      subst (λ (s : Manifest). Here f 0 (record { device = record { model = d.model; key = d.key; stage = Loading 1; manifest = s; hashes = begun s.root }; flash = f }))
      (sym is) go
    where
      is : manifest_in m ≡ manifest_for H job
      is = manifest-is H hash-long job ok m e

      root : length (manifest_for H job).root ≡ hash_length
      root = root-long H hash-long job ok

      go : Here f 0 (record { device = record { model = d.model; key = d.key; stage = Loading 1; manifest = manifest_for H job; hashes = begun (manifest_for H job).root }; flash = f })
      go =
          record {
            within = omega arith;
            stage = unfold stage_after in rw (lt-ltb 0 (count job.image) (count-some H hash-long job ok));
            manifest = refl;
            array = length-begun (manifest_for H job).root root;
            holds = begun-held (count job.image) (manifest_for H job).root root ∙ (unfold manifest_for root_of in sym (hashes-zero (plain H) (blocks job.image) (shape (count job.image))));
            room = unfold manifest_for in rw is at p.room;
            flash = rw (zero-mul job.image.block_len);
          }

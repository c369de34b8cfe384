-- Demand 3, first half: what a complete device has.
use Rattle.std.proofs.Common.{◌≡◌, refl, sym, ap, ◌∙◌, subst, ◌⊎◌, inl, inr, ⊎_elim, Bool, true, List, None, Some, ℕ, zero, suc, ◌*◌, ◌<◌, zero-add, arith, length, take, length-take, take_all}
use Rattle.merkle.specs.Limits.{hash_length}
use Rattle.merkle.specs.Blocks.{block_count, cut}
use Rattle.merkle.specs.Shape.{shape}
use Rattle.merkle.specs.Hash.{plain, Collision}
use Rattle.merkle.proofs.ShapeLaws.{size-shape}
use Rattle.merkle.proofs.HashLaws.{Same}
use Rattle.merkle.proofs.BindingLaws.{binding}
use Rattle.merkle.proofs.BlockLaws.{blocks-equal}
use Rattle.wire.specs.declared.kind.Kind.TheVariants.{PathUpdate}
use Rattle.wire.specs.declared.manifest.Manifest.{Manifest}
use Rattle.wire.specs.Geometry.{count_of, blocks_of, tree_over}
use Rattle.wire.specs.Message.{kind, manifest_in}
use Rattle.wire.proofs.SizeLaws.{Sized}
use Rattle.machine.specs.declared.state.Stage.{Stage}
use Rattle.machine.specs.declared.state.Stage.TheVariants.{Idle, Loading, Complete}
use Rattle.machine.specs.declared.state.Device.{Device}
use Rattle.machine.specs.Answer.{Accepted}
use Rattle.machine.specs.Device.{Fresh, OutcomeOf, Situation}
use Rattle.guarantee.specs.Part.{Part}
use Rattle.guarantee.specs.Run.{Trace, Messages, ◌▷◌, answer_to, last_program, blocks_since, last_carrier, Completed}
use Rattle.guarantee.specs.Demand3.{Clash, here, Misled, Bound, FirstHalf}
use Rattle.guarantee.proofs.InvariantLaws.{Carried, InComplete, Holds, Invariant, kept}
use Rattle.guarantee.proofs.MisledLaws.{still-misled}
use Rattle.guarantee.proofs.BeyondLaws.{beyond}
use Rattle.guarantee.proofs.RunLaws.{Serves, now, taken, more, every-list}

module _ (H : List ℕ → List ℕ) (hash-long : (x : List ℕ) → length (H x) ≡ hash_length) where
  -- an image of the program's length with its root is the start of the flash, or there is a collision
  pub bound-image : (s : Manifest) (f x : List ℕ) → Sized s.block_len s.image_len → tree_over H s f ≡ s.root → length x ≡ s.image_len → tree_over H s x ≡ s.root
      → (x ≡ take s.image_len f) ⊎ Collision (plain H) (blocks_of s x) (blocks_of s f) 0 (shape (count_of s))
  unfolding tree_over blocks_of count_of
  bound-image s f x z rooted lx e = go (binding (plain H) hash-long (cut L (take T x)) (cut L (take T f)) 0 (shape n) (e ∙ sym rooted))
    where
      L : ℕ
      L = s.block_len

      T : ℕ
      T = s.image_len

      n : ℕ
      n = block_count L T

      -- n blocks are as much as T bytes
      all : (y : List ℕ) → take (n * L) (take T y) ≡ take T y
      all y = take_all (n * L) (take T y) (omega (arith, length-take T y, z.above))

      go : Same (cut L (take T x)) 0 (cut L (take T f)) 0 (shape n) ⊎ Collision (plain H) (cut L (take T x)) (cut L (take T f)) 0 (shape n)
          → (x ≡ take T f) ⊎ Collision (plain H) (cut L (take T x)) (cut L (take T f)) 0 (shape n)
      go (inl a) =
          let same = blocks-equal L (take T x) (take T f) n (λ j h. rw zero-add at (a.block j (rw (size-shape n z.first) h))) in
          inl (sym (take_all T x (omega arith)) ∙ sym (all x) ∙ same ∙ all f)
      go (inr c) = inr c

module _ (H : List ℕ → List ℕ) (valid : (key message signature : List ℕ) → Bool) (d : Device) where
  -- the stage of a list that is complete
  stage-complete : (t : Stage) (s : Manifest) (array f : List ℕ) (ms : Messages) → Holds H valid d.key t s array f ms → Completed ms → t ≡ Complete
  stage-complete Idle s array f ms w c = absurd (cc (c.last, w.0))
  stage-complete (Loading zero) s array f ms w c = absurd w
  stage-complete (Loading (suc k)) s array f ms w c =
      let q : s ≡ c.manifest = cc (c.last, w.last) in
      absurd (omega (arith, w.below, w.since, c.all, ap count_of q))
  stage-complete Complete s array f ms w c = refl

  -- .. of one without a program message, and of one with blocks to come
  stage-idle : (t : Stage) (s : Manifest) (array f : List ℕ) (ms : Messages) → Holds H valid d.key t s array f ms → last_program ms ≡ None → t ≡ Idle
  stage-idle Idle s array f ms w e = refl
  stage-idle (Loading zero) s array f ms w e = absurd w
  stage-idle (Loading (suc k)) s array f ms w e = absurd (cc w.last)
  stage-idle Complete s array f ms w e = absurd (cc w.last)

  stage-loading : (t : Stage) (s : Manifest) (array f : List ℕ) (ms : Messages) → Holds H valid d.key t s array f ms
      → (p : Manifest) → last_program ms ≡ Some p → blocks_since ms < count_of p → t ≡ Loading (suc (blocks_since ms))
  stage-loading Idle s array f ms w p e h = absurd (cc w.0)
  stage-loading (Loading zero) s array f ms w p e h = absurd w
  stage-loading (Loading (suc k)) s array f ms w p e h = ap (λ (x : ℕ). Loading (suc x)) (sym w.since)
  stage-loading Complete s array f ms w p e h =
      let q : w.first ≡ p = cc w.last in
      absurd (omega (arith, w.all, ap count_of q))

  carried-is : (ms : Messages) (s : Manifest) → Carried H valid d.key ms s → (m : List ℕ) → last_carrier ms ≡ Some m → s ≡ manifest_in m
  carried-is ms s c m e = let q : c.carrier ≡ m = cc c.last in c.manifest ∙ ap manifest_in q

  -- the manifest of the last carrier
  manifest-carried : (t : Stage) (s : Manifest) (array f : List ℕ) (ms : Messages) → Holds H valid d.key t s array f ms → (m : List ℕ) → last_carrier ms ≡ Some m → s ≡ manifest_in m
  manifest-carried Idle s array f ms w m e = absurd (cc w.1)
  manifest-carried (Loading zero) s array f ms w m e = absurd w
  manifest-carried (Loading (suc k)) s array f ms w m e = carried-is ms s w.carries m e
  manifest-carried Complete s array f ms w m e = carried-is ms s w.carries m e

module _ (H : List ℕ → List ℕ) (hash-long : (x : List ℕ) → length (H x) ≡ hash_length) (valid : (key message signature : List ℕ) → Bool) {D F C : Type 0} (part : Part D F C)
    (step : D → F → C → OutcomeOf D F) (d : D) (flash : F) (serves : Serves H valid part step) where
  abbrev Misleads : Trace C → Type 0
  Misleads cs = Misled H valid part step d flash cs

  abbrev at : Trace C → Situation
  at cs = now H valid part step d flash serves cs

  abbrev list : Trace C → Messages
  list cs = taken H valid part step d flash serves cs

  after-path : (cs : Trace C) (c : C) → part.names c ≡ true → answer_to step d flash cs c ≡ Accepted → kind (part.message c) ≡ PathUpdate
      → Clash H (at cs).flash (part.message c) ⊎ Misleads cs → Misleads (cs ▷ c)
  after-path cs c n e q (inl x) = record { before = cs; call = c; path = q; taken = (n, e); since = here; clash = x }
  after-path cs c n e q (inr w) = still-misled H valid part step d flash cs c (λ t x. q) w

  pub invariant : Fresh (part.device d) → (cs : Trace C)
      → Invariant H valid (part.device d).key (length (part.flash flash)) (at cs).device (at cs).flash (list cs) (Misleads cs)
  unfolding last_program last_carrier
  invariant fresh cs =
      every-list H valid part step d flash serves (λ s taken cs. Invariant H valid (part.device d).key (length (part.flash flash)) s.device s.flash taken (Misleads cs))
      (λ cs c n e v.
      kept H valid (part.device d).key hash-long (length (part.flash flash)) (at cs).device (at cs).flash (part.message c) (list cs) (Misleads cs) v (Misleads (cs ▷ c))
      (after-path cs c n e) (more H valid part step d flash serves cs c n e).passed)
      (λ cs c n v.
      let stays = still-misled H valid part step d flash cs c (λ t x. absurd (n t.0 t.1)) in
      record { same = v.same; long = v.long; holds = v.holds; tree = λ c. ⊎_elim (λ r. inl r) (λ w. inr (stays w)) (v.tree c) })
      (record { same = refl; long = refl; holds = rw fresh.idle (refl, refl); tree = λ c. absurd (cc fresh.idle) }) cs

  module _ (fresh : Fresh (part.device d)) (cs : Trace C) where
    holds : Holds H valid (part.device d).key (at cs).device.stage (at cs).device.manifest (at cs).device.hashes (at cs).flash (list cs)
    holds = (invariant fresh cs).holds

    in-complete : (at cs).device.stage ≡ Complete → InComplete H valid (part.device d).key (at cs).device.manifest (at cs).flash (list cs)
    in-complete e = subst (λ t. Holds H valid (part.device d).key t (at cs).device.manifest (at cs).device.hashes (at cs).flash (list cs)) e holds

    stage_is : Completed (list cs) → (at cs).device.stage ≡ Complete
    stage_is c = stage-complete H valid (part.device d) (at cs).device.stage (at cs).device.manifest (at cs).device.hashes (at cs).flash (list cs) holds c

    bound : Completed (list cs) → Bound H valid part step d flash cs (at cs).device.manifest (at cs).flash
    bound c =
        let w = in-complete (stage_is c) in
        record {
          carrier = w.carries.carrier;
          last = w.carries.last;
          signed = w.carries.signed;
          room = w.room;
          tree = ⊎_elim (λ r. inl (record { rooted = r; image = λ x lx e. bound-image H hash-long (at cs).device.manifest (at cs).flash x w.size r lx e })) (λ c. inr c)
              ((invariant fresh cs).tree (stage_is c));
        }

    pub first-half : FirstHalf H valid part step d flash cs
    first-half =
        record {
          manifest = manifest-carried H valid (part.device d) (at cs).device.stage (at cs).device.manifest (at cs).device.hashes (at cs).flash (list cs) holds;
          exactly = (λ e. let w = in-complete e in record { manifest = w.first; last = w.last; all = w.all }, stage_is);
          idle = stage-idle H valid (part.device d) (at cs).device.stage (at cs).device.manifest (at cs).device.hashes (at cs).flash (list cs) holds;
          loading = stage-loading H valid (part.device d) (at cs).device.stage (at cs).device.manifest (at cs).device.hashes (at cs).flash (list cs) holds;
          one = (invariant fresh cs).long;
          beyond = λ c. beyond H valid part step d flash serves cs c;
          bound = bound;
        }

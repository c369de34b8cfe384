-- What every list of messages keeps, from a fresh device on: the invariant behind demand 3's first half.
use Rattle.std.proofs.Common.{◌≡◌, refl, sym, ap, ◌∙◌, subst, ◌⊎◌, inl, inr, ⊎_elim, Bool, true, false, cond, true≢false, List, None, Some, ℕ, zero, suc, pred, ◌*◌, ◌≤◌, ◌<◌, arith, ltb, length, lt-ltb, le-ltb}
use borrow.Author.Tests.{not-false}
use Rattle.merkle.specs.Limits.{max_blocks, hash_length, held_bytes}
use Rattle.merkle.specs.Shape.{shape}
use Rattle.merkle.specs.Frontier.{carried_count}
use Rattle.merkle.specs.Path.{leaf_depth}
use Rattle.merkle.specs.Held.{held_in, advanced, fits}
use Rattle.merkle.specs.Hash.{plain}
use Rattle.merkle.proofs.ShapeLaws.{lt-or-le, size-shape}
use Rattle.merkle.proofs.HeldLaws.{begun-held, length-begun, all_held, advance}
use Rattle.merkle.proofs.LoadingLaws.{Loaded, loaded-start, loaded-end}
use Rattle.merkle.proofs.FitsLaws.{loaded-fits}
use Rattle.wire.specs.declared.kind.Kind.TheVariants.{Program, Block, Update, PathUpdate}
use Rattle.wire.specs.declared.manifest.Manifest.{Manifest}
use Rattle.wire.specs.Geometry.{count_of, block_length, blocks_of, with_block, tree_over}
use Rattle.wire.specs.Message.{kind, carries, manifest_bytes, manifest_in, program_signature, block_in, hashes_after, update_number, update_signature, path_signature, due_length, least_update}
use Rattle.wire.proofs.SizeLaws.{Sized}
use Rattle.wire.proofs.GeometryLaws.{length-with, with-here, with-before}
use Rattle.wire.proofs.MessageLaws.{length-root, length-block, length-update-block, Due, due}
use Rattle.machine.specs.declared.state.Stage.{Stage}
use Rattle.machine.specs.declared.state.Stage.TheVariants.{Idle, Loading, Complete}
use Rattle.machine.specs.declared.state.Device.{Device}
use Rattle.machine.specs.Device.{next_of, Situation}
use Rattle.machine.specs.Flash.{stored, updated}
use Rattle.machine.specs.Refusals.{not_loading, mismatch}
use Rattle.machine.specs.Step.{accept_program, stage_after, accept_block, accept_update, accept}
use Rattle.guarantee.specs.Run.{Messages, ◌▷◌, last_program, blocks_since, last_carrier, signature_in}
use Rattle.machine.proofs.RefusalLaws.{ProgramPassed, BlockPassed, Successor, PathPassed, path-block, Passed, took-program, took-block, took-update, took-path}
use Rattle.machine.proofs.HeldLaws.{mismatch-is}
use Rattle.machine.proofs.SenseLaws.{not-complete}
use Rattle.guarantee.specs.Demand3.{Clash}
use Rattle.guarantee.proofs.PathLaws.{path-tree}

-- the stage is complete after the last block alone
pub complete-last : (n i : ℕ) → stage_after n i ≡ Complete → n ≤ i
unfolding stage_after
complete-last n i c = go (lt-or-le i n)
  where
    go : (i < n) ⊎ (n ≤ i) → n ≤ i
    go (inl h) = absurd (cc (rw (lt-ltb i n h) at c))
    go (inr h) = h

-- block i, from 1, leaves the flash's length
pub length-placed : (s : Manifest) (i : ℕ) (flash x : List ℕ) → 0 < i → i ≤ count_of s → s.image_len ≤ length flash → length x ≡ block_length s.block_len s.image_len i
    → length (with_block s.block_len flash i x) ≡ length flash
length-placed s zero flash x low high room long = absurd (omega arith)
length-placed s (suc k) flash x low high room long = length-with s k flash high room x long

-- so an update of either kind does
pub length-updated : (H : List ℕ → List ℕ) (valid : (key message signature : List ℕ) → Bool) (d : Device) (flash m : List ℕ) {least : ℕ} {signature : List ℕ}
    → Successor H valid d flash m least signature → least_update (manifest_in m).block_len (manifest_in m).image_len (update_number m) ≤ length m
    → length (updated (manifest_in m) flash m) ≡ length flash
unfolding updated least_update
length-updated H valid d flash m p long = length-placed (manifest_in m) (update_number m) flash _ p.turn.0 p.turn.1 p.room (length-update-block _ m long)

-- what an accepted message of each kind adds to the list of those accepted
module _ (ms : Messages) (m : List ℕ) where
  pub with-program : kind m ≡ Program → (last_program (ms ▷ m) ≡ Some (manifest_in m)) × (blocks_since (ms ▷ m) ≡ 0) × (last_carrier (ms ▷ m) ≡ Some m) × (signature_in m ≡ program_signature m)
  unfolding last_program blocks_since last_carrier carries signature_in
  with-program e = (rw (e, last_program), rw (e, blocks_since), rw (e, last_carrier), rw (e, signature_in))

  pub with-block : kind m ≡ Block → (last_program (ms ▷ m) ≡ last_program ms) × (blocks_since (ms ▷ m) ≡ suc (blocks_since ms)) × (last_carrier (ms ▷ m) ≡ last_carrier ms)
  unfolding last_program blocks_since last_carrier carries
  with-block e = (rw (e, last_program), rw (e, blocks_since), rw (e, last_carrier))

  pub with-update : kind m ≡ Update
      → (last_program (ms ▷ m) ≡ last_program ms) × (blocks_since (ms ▷ m) ≡ blocks_since ms) × (last_carrier (ms ▷ m) ≡ Some m) × (signature_in m ≡ update_signature (block_length (manifest_in m).block_len (manifest_in m).image_len (update_number m)) m)
  unfolding last_program blocks_since last_carrier carries signature_in
  with-update e = (rw (e, last_program), rw (e, blocks_since), rw (e, last_carrier), rw (e, signature_in))

  pub with-path : kind m ≡ PathUpdate
      → (last_program (ms ▷ m) ≡ last_program ms) × (blocks_since (ms ▷ m) ≡ blocks_since ms) × (last_carrier (ms ▷ m) ≡ Some m)
      × (let s = manifest_in m in signature_in m ≡ path_signature (block_length s.block_len s.image_len (update_number m)) (leaf_depth (count_of s) (pred (update_number m))) m)
  unfolding last_program blocks_since last_carrier carries signature_in
  with-path e = (rw (e, last_program), rw (e, blocks_since), rw (e, last_carrier), rw (e, signature_in))

module _ (H : List ℕ → List ℕ) (valid : (key message signature : List ℕ) → Bool) (key : List ℕ) where
  -- the last accepted message that carries a manifest has this one, and it was signed
  pub record Carried (taken : Messages) (s : Manifest) : Type 0 where
    pub carrier : List ℕ
    pub last : last_carrier taken ≡ Some carrier
    pub manifest : s ≡ manifest_in carrier
    pub signed : valid key (manifest_bytes carrier) (signature_in carrier) ≡ true

  -- loading, k blocks accepted
  pub record InLoading (k : ℕ) (s : Manifest) (array flash : List ℕ) (taken : Messages) : Type 0 where
    pub below : k < count_of s
    pub size : Sized s.block_len s.image_len
    pub array_size : length array ≡ held_bytes
    pub room : s.image_len ≤ length flash
    pub carries : Carried taken s
    pub last : last_program taken ≡ Some s
    pub since : blocks_since taken ≡ k
    pub loaded : Loaded (plain H) (shape (count_of s)) s.root k (blocks_of s flash) (held_in (count_of s) k array)

  -- complete; first is the manifest of the last program message, before any update
  pub record InComplete (s : Manifest) (flash : List ℕ) (taken : Messages) : Type 0 where
    pub size : Sized s.block_len s.image_len
    pub room : s.image_len ≤ length flash
    pub carries : Carried taken s
    pub first : Manifest
    pub last : last_program taken ≡ Some first
    pub all : blocks_since taken ≡ count_of first

  abbrev pub Holds : Stage → Manifest → List ℕ → List ℕ → Messages → Type 0
  Holds Idle s array flash taken = (last_program taken ≡ None) × (last_carrier taken ≡ None)
  Holds (Loading zero) s array flash taken = ⊥
  Holds (Loading (suc k)) s array flash taken = InLoading k s array flash taken
  Holds Complete s array flash taken = InComplete s flash taken

  -- total is the length of the flash; M says that a path update misled the device
  pub record Invariant (total : ℕ) (d : Device) (flash : List ℕ) (taken : Messages) (M : Type 0) : Type 0 where
    pub same : d.key ≡ key
    pub long : length flash ≡ total
    pub holds : Holds d.stage d.manifest d.hashes flash taken
    pub tree : d.stage ≡ Complete → (tree_over H d.manifest flash ≡ d.manifest.root) ⊎ M

  module _ (hash-long : (x : List ℕ) → length (H x) ≡ hash_length) (d : Device) (flash m : List ℕ) (taken : Messages) where
    -- block k + 1
    module _ (k : ℕ) (e : kind m ≡ Block) (stage : d.stage ≡ Loading (suc k)) (long : length m ≡ due_length d.manifest.block_len d.manifest.image_len (suc k))
        (same : mismatch H d (suc k) m ≡ false) (w : InLoading k d.manifest d.hashes flash taken) where
      abbrev s : Manifest
      s = d.manifest

      abbrev n : ℕ
      n = count_of d.manifest

      abbrev size : ℕ
      size = block_length d.manifest.block_len d.manifest.image_len (suc k)

      abbrev block : List ℕ
      block = block_in size m

      abbrev message : List ℕ
      message = hashes_after size m

      abbrev flash' : List ℕ
      flash' = with_block d.manifest.block_len flash (suc k) block

      abbrev array' : List ℕ
      array' = advanced n k d.hashes message

      few : n ≤ max_blocks
      unfolding count_of
      few = w.size.count

      is-due : Due d.manifest.block_len d.manifest.image_len (suc k) m
      is-due = due _ _ _ _ long

      block_long : length block ≡ size
      block_long = length-block size m is-due.long

      message-long : length message ≡ hash_length * carried_count n (suc k)
      unfolding count_of
      message-long = is-due.rest

      array_long : length array' ≡ held_bytes
      array_long = (advance n k d.hashes message w.below few w.array_size message-long).size

      flash-long : length flash' ≡ length flash
      flash-long = length-with s k flash w.below w.room block block_long

      matches : fits (plain H) n k d.hashes block message ≡ true
      matches = not-false _ (sym (mismatch-is H d k stage w.below m) ∙ same)

      still_loaded : Loaded (plain H) (shape n) s.root (suc k) (blocks_of s flash') (held_in n (suc k) array')
      still_loaded =
          let here = with-here s k flash w.below w.room block block_long in
          loaded-fits (plain H) n k s.root d.hashes message (blocks_of s flash) (blocks_of s flash') w.below few w.array_size message-long
          (with-before s k flash w.below w.room block block_long) (rw here matches) w.loaded

      pub last-loaded : suc k ≡ n → tree_over H s flash' ≡ s.root
      unfolding tree_over
      last-loaded q =
          let pos : 0 < n = omega arith in
          let whole = subst (λ x. Loaded (plain H) (shape n) s.root x (blocks_of s flash') (held_in n x array')) q still_loaded in
          loaded-end (plain H) (shape n) s.root (blocks_of s flash') (rw (size-shape n pos) (rw (all_held n array' pos) at whole))

      carried_on : Carried (taken ▷ m) s
      carried_on = let c = w.carries in record { carrier = c.carrier; last = (with-block taken m e).2 ∙ c.last; manifest = c.manifest; signed = c.signed }

      next-stage : Holds (stage_after n (suc k)) s array' flash' (taken ▷ m)
      unfolding stage_after
      next-stage = go (lt-or-le (suc k) n)
        where
          since : blocks_since (taken ▷ m) ≡ suc k
          since = (with-block taken m e).1 ∙ ap suc w.since

          last : last_program (taken ▷ m) ≡ Some s
          last = (with-block taken m e).0 ∙ w.last

          go : (suc k < n) ⊎ (n ≤ suc k) → Holds (cond (ltb (suc k) n) (Loading (suc (suc k))) Complete) s array' flash' (taken ▷ m)
          go (inl g) =
              rw (lt-ltb (suc k) n g)
              (record {
                below = g;
                size = w.size;
                array_size = array_long;
                room = rw flash-long w.room;
                carries = carried_on;
                last = last;
                since = since;
                loaded = still_loaded;
              })
          go (inr g) =
              let q : suc k ≡ n = let b = w.below in omega arith in
              rw (le-ltb (suc k) n g)
              (record {
                size = w.size;
                room = rw flash-long w.room;
                carries = carried_on;
                first = s;
                last = last;
                all = since ∙ q;
              })

      next-tree : stage_after n (suc k) ≡ Complete → tree_over H s flash' ≡ s.root
      next-tree c = last-loaded (let b = w.below in omega (arith, complete-last n (suc k) c))

  module _ (hash-long : (x : List ℕ) → length (H x) ≡ hash_length) (total : ℕ) (d : Device) (flash m : List ℕ) (taken : Messages) (M : Type 0)
      (v : Invariant total d flash taken M) (N : Type 0) (misled : kind m ≡ PathUpdate → Clash H flash m ⊎ M → N) where
    -- after the message, N for M
    abbrev Kept : Situation → Type 0
    Kept s = Invariant total s.device s.flash (taken ▷ m) N

    kept-program : kind m ≡ Program → ProgramPassed H valid d flash m → Kept (accept_program d flash m)
    unfolding accept_program count_of
    kept-program e p =
        let s : Manifest = manifest_in m in
        let w = with-program taken m e in
        let lr : length s.root ≡ hash_length = length-root m p.long in
        record {
          same = v.same;
          long = v.long;
          holds = record {
            below = p.size.first;
            size = p.size;
            array_size = length-begun s.root lr;
            room = p.room;
            carries = record { carrier = m; last = w.2; manifest = refl; signed = rw w.3 (rw v.same at p.signed) };
            last = w.0;
            since = w.1;
            loaded = rw (begun-held (count_of s) s.root lr) (loaded-start (plain H) (shape (count_of s)) s.root (blocks_of s flash));
          };
          tree = λ c. absurd cc;
        }

    kept_block : kind m ≡ Block → BlockPassed H valid d flash m → Kept (accept_block d flash m)
    unfolding accept_block stored next_of not_loading
    kept_block e p = go d.stage refl v.holds
      where
        go : (t : Stage) → d.stage ≡ t → Holds t d.manifest d.hashes flash taken → Kept (accept_block d flash m)
        go Idle q w = absurd (true≢false (rw q at p.loading))
        go (Loading zero) q w = absurd w
        go (Loading (suc k)) q w =
            let l = rw q at p.long in
            let f = subst (λ i. mismatch H d i m ≡ false) (ap next_of q) p.same in
            rw q
            (record {
              same = v.same;
              long = flash-long hash-long d flash m taken k e q l f w ∙ v.long;
              holds = next-stage hash-long d flash m taken k e q l f w;
              tree = λ c. inl (next-tree hash-long d flash m taken k e q l f w c);
            })
        go Complete q w = absurd (true≢false (rw q at p.loading))

    -- an update of either kind
    module _ {least : ℕ} {signature : List ℕ} (p : Successor H valid d flash m least signature)
        (long : least_update (manifest_in m).block_len (manifest_in m).image_len (update_number m) ≤ length m) where
      kept-update : (last_program (taken ▷ m) ≡ last_program taken) × (blocks_since (taken ▷ m) ≡ blocks_since taken) × (last_carrier (taken ▷ m) ≡ Some m) × (signature_in m ≡ signature)
          → (d.stage ≡ Complete → (tree_over H (manifest_in m) (updated (manifest_in m) flash m) ≡ (manifest_in m).root) ⊎ N)
          → Kept (accept_update d flash m)
      unfolding accept_update
      kept-update a tree =
          let q : d.stage ≡ Complete = not-complete d.stage p.complete in
          let w = subst (λ t. Holds t d.manifest d.hashes flash taken) q v.holds in
          let same_length = length-updated H valid d flash m p long in
          record {
            same = v.same;
            long = same_length ∙ v.long;
            holds = rw q
                (record {
                  size = p.size;
                  room = rw same_length p.room;
                  carries = record { carrier = m; last = a.2; manifest = refl; signed = rw a.3 (rw v.same at p.signed) };
                  first = w.first;
                  last = a.0 ∙ w.last;
                  all = a.1 ∙ w.all;
                });
            tree = tree;
          }

    -- a path update keeps the root, or misleads, or the device was misled before
    path-kept : kind m ≡ PathUpdate → PathPassed H valid d flash m → d.stage ≡ Complete
        → (tree_over H (manifest_in m) (updated (manifest_in m) flash m) ≡ (manifest_in m).root) ⊎ N
    path-kept q p c =
        ⊎_elim (λ e. ⊎_elim (λ r. inl r) (λ x. inr (misled q (inl x))) (path-tree H hash-long valid d flash m p e)) (λ x. inr (misled q (inr x))) (v.tree c)

    pub kept : Passed H valid d flash m → Kept (accept (kind m) d flash m)
    unfolding accept
    kept (took-program q p) = rw q (kept-program q p)
    kept (took-block q p) = rw q (kept_block q p)
    kept (took-update q p) = rw q (kept-update p.successor p.successor.long (with-update taken m q) (λ c. inl p.rooted))
    kept (took-path q p) = rw q (kept-update p.successor (path-block H valid d flash m p) (with-path taken m q) (path-kept q p))

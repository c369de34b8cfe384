-- The sender's updates are taken, of either kind, by a device that has the image that they change.
use Rattle.std.proofs.Common.{◌≡◌, refl, sym, ap, ap₂, ◌∙◌, ◌≢◌, Bool, false, not, List, None, ℕ, suc, pred, ◌^◌, ◌≤◌, ◌<◌, arith, length, length-append, lt-ltb, le-ltb, eq-eqb}
use Rattle.sha256.specs.Sha256.{digest}
use Rattle.sha256.proofs.DigestLaws.{length-digest}
use Rattle.merkle.specs.Limits.{hash_length}
use Rattle.merkle.specs.Blocks.{block_count, cut}
use Rattle.merkle.specs.Hash.{plain, root_over}
use Rattle.merkle.specs.Path.{leaf_depth, sent_path}
use Rattle.merkle.proofs.PathWritingLaws.{length-sent-path, sent-leads}
use Rattle.lms.specs.Lms as lms
use Rattle.wire.specs.declared.kind.Kind.{Kind}
use Rattle.wire.specs.declared.manifest.Manifest.{Manifest}
use Rattle.wire.specs.Manifest.{written}
use Rattle.wire.specs.Geometry.{count_of, blocks_of, with_block, tree_over}
use Rattle.wire.specs.Message.{kind, number_length, least_length, short, manifest_bytes, manifest_in, update_number, update_block, least_update, least_path, at_start}
use Rattle.wire.specs.Claims.{OfUpdate, OfPath}
use Rattle.wire.proofs.SizeLaws.{Sized, sized, outside-not}
use Rattle.wire.proofs.GeometryLaws.{start-blocks, one-changed}
use Rattle.wire.proofs.MessageLaws.{of-update, of-path}
use Rattle.sender.specs.Job.{Job, count, blocks, root_of, manifest_for, update_for, path_for}
use Rattle.machine.specs.declared.state.Device.{Device}
use Rattle.machine.specs.Device.{serial_of}
use Rattle.machine.specs.Flash.{updated}
use Rattle.machine.specs.Refusals.{wrong_version, senseless, other_model, not_newer, too_small, unsigned, not_complete, unlike}
use Rattle.machine.specs.Step.{accept_update, accept, refusal_of, step}
use Rattle.machine.proofs.RefusalLaws.{new_length, new_depth, led_to, SuccessorDue, update-unrefused, path-unrefused}
use Rattle.machine.proofs.SenseLaws.{sense-complete}
use Rattle.guarantee.specs.Updates.{Installed, UpdateOffered, Updated, Updates}
use Rattle.guarantee.proofs.DeviceLaws.{accepted-step}
use Rattle.guarantee.proofs.SentLaws.{count_most, block-length, root-long, manifest-is}
use Rattle.guarantee.proofs.HonestLaws.{image-rooted}

module _ (H : List ℕ → List ℕ) (hash-long : (x : List ℕ) → length (H x) ≡ hash_length) (valid : (key message signature : List ℕ) → Bool) (budget : ℕ) (d : Device) (flash old : List ℕ)
    (a b : Job) (i : ℕ) (signature : List ℕ) (was : Installed H a old d flash) (o : UpdateOffered H valid d a b i signature) where
  abbrev n : ℕ
  n = count b.image

  abbrev s : Manifest
  s = manifest_for H b

  -- the two images
  abbrev v : List ℕ
  v = a.image.bytes

  abbrev w : List ℕ
  w = b.image.bytes

  allowed-old : Sized a.image.block_len (length v)
  allowed-old = rw (← o.block_long, ← o.long) (sized _ _ o.sendable.size)

  long-old : length v ≡ s.image_len
  unfolding manifest_for
  long-old = sym o.long

  blocks-old : (j : ℕ) → cut b.image.block_len v j ≡ blocks a.image j
  unfolding blocks
  blocks-old j = ap (λ L. cut L v j) o.block_long

  -- the flash with the new block
  flash-new : with_block b.image.block_len flash (suc i) (blocks b.image i) ≡ at_start w old
  unfolding blocks count
  flash-new = rw was.image (one-changed b.image.block_len v w old i (sym o.long) o.within (λ j h apart. blocks-old j ∙ sym (o.others j h apart)))

  -- the tree over the flash as it is
  tree-old : tree_over H d.manifest flash ≡ d.manifest.root
  tree-old = rw (was.manifest, was.image) (image-rooted H a old)

  -- the block in the flash, and the root that the device has
  block-old : blocks_of s flash i ≡ blocks a.image i
  unfolding manifest_for
  block-old = ap (λ y. blocks_of s y i) was.image ∙ ap (λ f. f i) (start-blocks s v old long-old) ∙ blocks-old i

  root-old : d.manifest.root ≡ root_over (plain H) (blocks a.image) n
  unfolding manifest_for root_of count
  root-old = ap (λ x. x.root) was.manifest ∙ ap₂ (λ L T. root_over (plain H) (blocks a.image) (block_count L T)) (sym o.block_long) (sym o.long)

  sense : senseless d ≡ false
  unfolding wrong_version manifest_for
  sense = sense-complete d (rw was.manifest) (rw was.manifest allowed-old) was.stage

  serial-old : serial_of d ≡ a.serial
  unfolding serial_of manifest_for
  serial-old = rw (was.stage, serial_of, was.manifest)

  few : suc i < 256 ^ number_length
  few = let h = o.within in omega (arith, count_most H hash-long b o.sendable)

  -- a message that carries b's manifest, the number and the block
  record Carries (m : List ℕ) : Type 0 where
    manifest : manifest_bytes m ≡ written s
    number : update_number m ≡ suc i
    block : update_block (length (blocks b.image i)) m ≡ blocks b.image i

  module _ (m : List ℕ) (c : Carries m) where
    read : manifest_in m ≡ s
    read = manifest-is H hash-long b o.sendable m c.manifest

    size : new_length H valid d flash m ≡ length (blocks b.image i)
    unfolding manifest_for
    size = rw (read, c.number) (sym (block-length H hash-long b o.sendable i))

    due : {k : Kind} {least : ℕ} {given : List ℕ} → kind m ≡ k → least_length k ≤ length m → least ≤ length m → given ≡ signature → SuccessorDue H valid d flash m k least given
    unfolding short not_complete wrong_version other_model not_newer unlike too_small unsigned manifest_for count_of count
    due {k} {least} is head enough signed =
        record {
          is = is;
          sense = sense;
          head = le-ltb (length m) (least_length k) head;
          complete = rw (was.stage, not_complete);
          version = rw read;
          size = rw read o.sendable.size;
          model = rw read (ap not (eq-eqb b.model d.model o.model));
          serial = rw (read, serial-old) (ap not (lt-ltb a.serial b.serial o.newer));
          alike = rw (read, was.manifest, eq-eqb _ _ o.block_long, eq-eqb _ _ o.long);
          area = rw read (le-ltb (length flash) _ (omega (arith, long-old, simp length-append at (ap length was.image))));
          turn = rw (read, c.number) (outside-not n (suc i) (λ z. omega arith) o.within);
          long = le-ltb (length m) least enough;
          signed = rw (c.manifest, signed, o.signed);
        }

    after : updated (manifest_in m) flash m ≡ at_start w old
    unfolding updated manifest_for
    after = rw (size, c.block, read, c.number) flash-new

    done : accept (kind m) d flash m ≡ accept_update d flash m → refusal_of H valid budget d flash m ≡ None → Updated H b old (step H valid budget d flash m)
    unfolding accept_update
    done is unrefused = rw (accepted-step H valid budget d flash m unrefused, is) (record { taken = refl; installed = record { stage = was.stage; manifest = read; image = after } })

  -- kind 3
  abbrev update : List ℕ
  update = update_for H b (suc i) signature

  is-update : OfUpdate s (suc i) (blocks b.image i) signature update
  unfolding update_for
  is-update = of-update s (root-long H hash-long b o.sendable) signature (suc i) (blocks b.image i) few

  by-update : Updated H b old (step H valid budget d flash update)
  unfolding accept least_update
  by-update =
      let r = is-update in
      let c : Carries update = record { manifest = r.manifest; number = r.number; block = r.blocks } in
      let z = size update c in
      done update c (rw r.is)
      (update-unrefused H valid d flash update budget (due update c r.is (omega (arith, r.size)) (omega (arith, r.size)) (rw z r.signed))
      tree-old (rw (after update c, read update c) (image-rooted H b old)))

  -- kind 4
  abbrev path : List ℕ
  path = path_for H b (suc i) signature

  is-path : OfPath s (suc i) (blocks b.image i) (sent_path (plain H) n (blocks b.image) i) signature (leaf_depth n i) path
  unfolding path_for
  is-path =
      of-path s (root-long H hash-long b o.sendable) signature (suc i) (blocks b.image i) (sent_path (plain H) n (blocks b.image) i) (leaf_depth n i)
      (length-sent-path (plain H) hash-long n (blocks b.image) i) few

  carried : Carries path
  carried = let r = is-path in record { manifest = r.manifest; number = r.number; block = r.blocks }

  depth : new_depth H valid d flash path ≡ leaf_depth n i
  unfolding count_of count manifest_for
  depth = rw (read path carried, is-path.number)

  -- what the message's siblings lead to
  led : (g : ℕ → List ℕ) → ((j : ℕ) → j < n → j ≢ i → blocks b.image j ≡ g j) → led_to H valid d flash path (g i) ≡ root_over (plain H) g n
  unfolding count_of count manifest_for
  led g other = rw (depth, size path carried, is-path.path, read path carried, is-path.number) (sent-leads (plain H) hash-long n (blocks b.image) g i o.within other)

  by-path : Updated H b old (step H valid budget d flash path)
  unfolding accept least_update least_path count_of manifest_for root_of
  by-path =
      let r = is-path in
      let z = size path carried in
      let is = read path carried in
      let here : blocks_of (manifest_in path) flash (pred (update_number path)) ≡ blocks a.image i = rw (is, r.number) block-old in
      let new : update_block (new_length H valid d flash path) path ≡ blocks b.image i = rw z r.blocks in
      done path carried (rw r.is)
      (path-unrefused H valid d flash path budget (due path carried r.is (omega (arith, r.size)) (omega (arith, r.size, depth)) (rw (z, depth) r.signed))
      (rw here (led (blocks a.image) o.others ∙ sym root-old))
      (rw new (led (blocks b.image) (λ j h apart. refl) ∙ ap (λ x. x.root) (sym is))))

-- for any hash function of 32 bytes and any verdict on signatures
pub updates-for : (H : List ℕ → List ℕ) → ((x : List ℕ) → length (H x) ≡ hash_length) → (valid : (key message signature : List ℕ) → Bool) → Updates H valid
updates-for H hash-long valid budget d flash old a b i signature was o =
    (by-update H hash-long valid budget d flash old a b i signature was o, by-path H hash-long valid budget d flash old a b i signature was o)

-- with SHA-256 and the verdict of RFC 8554
pub updates : Updates digest lms.valid
updates = updates-for digest length-digest lms.valid

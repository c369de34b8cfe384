-- What the sender made, as the tool learns it.
use mathlib.Core.Path.{◌≡◌, refl, sym}
use mathlib.Core.Bool.{Bool, true, false}
use mathlib.Core.List.{List, []}
use Prim.Native.Nat.{ℕ, ◌≤◌}
use native.Mathlib.Omega.{arith}
use lib.Dec.{ltb}
use lib.ListN.{length}
use lib.Seq.{length-take-le}
use borrow.Author.Tests.{ltb-false}
use Rattle.streams.specs.Counts.{IsPrefixLen}
use Rattle.sha256.specs.Sha256.{digest}
use Rattle.wire.specs.Refusal.{first_that_applies}
use Rattle.wire.specs.Size.{wrong_size}
use Rattle.std.specs.Prelude.{Ok, Err, IfSome}
use Rattle.sender.specs.Job.{Image, Job}
use Rattle.sender.specs.Send.{Sent, Written, Does, as_is, send, too_short, unnumbered}
use Rattle.pack.specs.Make.{made}
use Rattle.bundle.specs.Bundle.{bundle_for, send_bundle}

-- what was written has room in the buffer
fits : (x : Image) (bytes out : List ℕ) {k : ℕ} {r : List ℕ} → Does as_is (unnumbered x bytes out) (Written k) r → k ≤ length out
unfolding unnumbered send first_that_applies too_short
fits x bytes out {k} d = go (wrong_size x.block_len (length x.bytes)) (ltb (length out) (length bytes)) refl refl
  where
    go : (s t : Bool) → wrong_size x.block_len (length x.bytes) ≡ s → ltb (length out) (length bytes) ≡ t → k ≤ length out
    go true t e f = absurd (let w = (rw e at d).answered in let z : ◌≡◌ {A = ℕ} 0 1 = cc in omega arith)
    go false true e f = absurd (let w = (rw (e, f) at d).answered in let z : ◌≡◌ {A = ℕ} 0 1 = cc in omega arith)
    go false false e f = let w = (rw (e, f) at d).answered in let z : k ≡ length bytes = cc in omega (arith, ltb-false (length out) (length bytes) f)

pub bundle-fits : (j : Job) (signature out : List ℕ) (answer : Sent) {r : List ℕ} → Does as_is (send_bundle j signature out) answer r → length r ≡ length out
    → IfSome (made answer) (λ k. IsPrefixLen k r)
unfolding send_bundle
bundle-fits j signature out (Ok n) {r} d l =
    let h : n ≤ length r = omega (arith, fits j.image (bundle_for digest j [] signature) out d) in
    (h, sym (length-take-le n r h))
bundle-fits j signature out (Err x) d l = tt

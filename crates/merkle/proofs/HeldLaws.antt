-- The flat array: what is held before and after a message's hashes took the place of the first.
use Rattle.std.proofs.Common.{◌≡◌, ℕ, zero, suc, ◌+◌, ◌-◌, ◌*◌, ◌/◌, ◌<◌, ◌≤◌, Bool, List, [], ◌∷◌, ◌++◌, length, take, drop, replicate, sym, refl, ap, ◌∙◌, ap₂, append_assoc, arith, length-append, length-drop, length-take-le, take_all, drop-drop, take_at, drop_at}
use lib.ListN.{length-replicate}
use lib.Seq.{paste, take-length, take-append-le, drop-append-le}
use Rattle.octets.specs.Octets.{joined, equal}
use Rattle.merkle.specs.Limits.{hash_length, max_blocks, held_bytes}
use Rattle.merkle.specs.Hash.{Hashing, climb}
use Rattle.merkle.specs.Frontier.{carried_count, held_count}
use Rattle.merkle.specs.Held.{hashes_in, held_start, held_in, next_held, begun, advanced, fits}
use Rattle.merkle.specs.Claims.{Advance, ArrayAdvance, RootAlone, HeldLast}
use Rattle.merkle.proofs.FrontierLaws.{frontier-zero}
use Rattle.merkle.proofs.CountLaws.{held-zero, held_all, held_next, held-at-most, room, Counted, counted-most}

pub length-hashes_in : (c : ℕ) (bytes : List ℕ) → length (hashes_in c bytes) ≡ c
unfolding hashes_in
length-hashes_in zero bytes = refl
length-hashes_in (suc c) bytes = ap suc (length-hashes_in c (drop hash_length bytes))

hashes_in-append : (c m : ℕ) (x y : List ℕ) → length x ≡ hash_length * c → hashes_in (c + m) (x ++ y) ≡ hashes_in c x ++ hashes_in m y
unfolding hashes_in
hashes_in-append zero m [] y e = let z : 0 + m ≡ m = omega arith in rw z
hashes_in-append zero m (b ∷ x) y e = absurd (omega arith)
hashes_in-append (suc c) m x y e =
    let z : suc c + m ≡ suc (c + m) = omega arith in
    rw (
      z,
      take-append-le hash_length x y (omega arith),
      drop-append-le hash_length x y (omega arith),
      hashes_in-append c m (drop hash_length x) y (rw (length-drop hash_length x) (omega arith)),
    )

-- Hashes of their length, one behind the other.
pub data Sized : List (List ℕ) → Type 0 where
  none : Sized []
  more : {x : List ℕ} {xs : List (List ℕ)} → length x ≡ hash_length → Sized xs → Sized (x ∷ xs)

pub length-joined : {xs : List (List ℕ)} → Sized xs → length (joined xs) ≡ hash_length * length xs
unfolding joined
length-joined none = refl
length-joined (more {x} {xs} e s) = length-append x (joined xs) ∙ omega (arith, e, length-joined s)

pub hashes_in-joined : {xs : List (List ℕ)} → Sized xs → hashes_in (length xs) (joined xs) ≡ xs
unfolding joined hashes_in
hashes_in-joined none = refl
hashes_in-joined (more {x} {xs} e s) =
    ap₂ {C = List (List ℕ)} (λ u v. u ∷ v) (take_at x (joined xs) hash_length e)
    (ap (hashes_in (length xs)) (drop_at x (joined xs) hash_length e) ∙ hashes_in-joined s)

-- Before the first block the root is held, after the last nothing.
pub begun-held : (n : ℕ) (root : List ℕ) → length root ≡ hash_length → held_in n 0 (begun root) ≡ root ∷ []
unfolding held_in held_start hashes_in begun
begun-held n root e =
    rw (held-zero n, drop_at (replicate (held_bytes - hash_length) 0) root (held_bytes - hash_length) (length-replicate {A = ℕ} (held_bytes - hash_length) 0))
    (ap {B = List (List ℕ)} (λ x. x ∷ []) (take_all hash_length root (omega arith)))

pub root-alone : RootAlone
root-alone = (frontier-zero, begun-held)

pub length-begun : (root : List ℕ) → length root ≡ hash_length → length (begun root) ≡ held_bytes
unfolding begun
length-begun root e = length-append (replicate (held_bytes - hash_length) 0) root ∙ omega (arith, e, length-replicate {A = ℕ} (held_bytes - hash_length) 0)

pub all_held : (n : ℕ) (array : List ℕ) → 0 < n → held_in n n array ≡ []
unfolding held_in hashes_in
all_held n array pos = rw (held_all n pos)

pub advance : ArrayAdvance
unfolding held_in next_held advanced held_start hashes_in
advance n i array message h le la lm = go (held_count n i) refl
  where
    go : (m : ℕ) → held_count n i ≡ m → Advance n i array message
    go zero e = absurd (let k = room n i h le in let some = k.some in omega arith)
    go (suc m) e =
        let k = room n i h le in
        let most = k.most in
        let enough = k.enough in
        let now : held_count n (suc i) ≡ carried_count n (suc i) + m = omega (arith, held_next n i h) in
        let end = held_bytes - hash_length * suc m + hash_length in
        let front = take (end - length message) array in
        let at : held_bytes - hash_length * (carried_count n (suc i) + m) ≡ end - length message = omega arith in
        let long : length front ≡ end - length message = length-take-le (end - length message) array (omega arith) in
        record {
          others = hashes_in m (drop hash_length (drop (held_bytes - hash_length * suc m) array));
          first = rw e;
          then = rw (
            now,
            e,
            at,
            append_assoc front message (drop end array),
            drop_at front (message ++ drop end array) (end - length message) long,
            hashes_in-append (carried_count n (suc i)) m message (drop end array) lm,
            drop-drop hash_length (held_bytes - hash_length * suc m) array,
          );
          size = rw e (simp (length-append, long, length-drop) (omega arith));
        }

-- The hashes held are the last.
pub held-last : HeldLast
unfolding held_in held_start
held-last n i front array pos le la =
    let h = (held-at-most n i pos).1 le in
    let at : length (front ++ array) - hash_length * held_count n i ≡ length front + (held_bytes - hash_length * held_count n i) = omega (arith, length-append front array, la, h) in
    rw (at, sym (drop-drop (held_bytes - hash_length * held_count n i) (length front) (front ++ array)), drop_at front array (length front) refl)

-- What the code of `next_at`, `fits` and `advance` works out.
pub start_is : (n i h c : ℕ) → i < n → n ≤ max_blocks → Counted n i h c
    → (held_bytes - hash_length * h ≡ held_start n i) × (held_bytes - hash_length * h + hash_length ≤ held_bytes)
    × (hash_length * carried_count n (i + 1) ≤ held_bytes - hash_length * h + hash_length)
unfolding held_start
start_is n i h c lt le e =
    let k = counted-most n i h c lt le e in
    let f = e.1 in
    (ap (λ x. held_bytes - hash_length * x) e.0, omega arith, omega arith)

pub fits-is : (H : Hashing) (n i start : ℕ) (array block message x : List ℕ) (t : Bool) → start ≡ held_start n i
    → length message ≡ hash_length * carried_count n (i + 1) → x ≡ climb H block (hashes_in (length message / hash_length) message)
    → t ≡ equal (take (start + hash_length - start) (drop start array)) x → t ≡ fits H n i array block message
unfolding fits next_held
fits-is H n i start array block message x t es lm ex et =
    let w : start + hash_length - start ≡ hash_length = omega arith in
    let z : i + 1 ≡ suc i = omega arith in
    let c : length message / hash_length ≡ carried_count n (suc i) = omega (arith, ap (carried_count n) z) in
    et ∙ rw (w, es, ex, c)

pub advanced-is : (n i start : ℕ) (array message r : List ℕ) → start ≡ held_start n i → length message ≤ start + hash_length
    → r ≡ paste array (start + hash_length - length message) message (length message) → r ≡ advanced n i array message
unfolding advanced
advanced-is n i start array message r e h er =
    let z : start + hash_length - length message + length message ≡ start + hash_length = omega arith in
    er ∙ rw (take-length message, z, e)

-- The most that a verdict costs, by the key's types.
use mathlib.Core.Path.{◌≡◌, refl, sym, ap, ◌∙◌}
use mathlib.Core.Bool.{Bool, true, false, cond, true≢false}
use Rattle.std.specs.Prelude.{None, Some}
use mathlib.Core.List.{List, []}
use Prim.Native.Nat.{ℕ, ◌+◌, ◌*◌, ◌≤◌}
use native.Mathlib.Omega.{arith}
use lib.Dec.{eqb}
use lib.ListN.{length}
use borrow.Author.Tests.{eq-eqb, eqb-true}
use Rattle.octets.specs.Octets.{part}
use Rattle.sha256.specs.Sha256.{compressions_for}
use Rattle.sha256.proofs.DigestLaws.{length-digest}
use Rattle.lms.specs.Notation.{strTou32}
use Rattle.lms.specs.Ots.{Row, table1, message_hash}
use Rattle.lms.specs.Tree.{table2}
use Rattle.lms.specs.Lms.{key_length, signature_length}
use Rattle.lms.specs.Cost.{well_formed, chain_steps, message_digest, inputs_at, verdict_inputs, cost_of}
use Rattle.lms.specs.Claims.{MostSteps, VerdictCost, VerdictMost, VerdictsMost}
use Rattle.lms.proofs.StepLaws.{chain_steps_lem}
use Rattle.lms.proofs.CostLaws.{inputs-cost}

module _ (t : Row) (h : ℕ) (key message signature : List ℕ) (ots : table1 (strTou32 (part 4 4 key)) ≡ Some t) (tree : table2 (strTou32 (part 0 4 key)) ≡ Some h) where
  abbrev well : Bool
  well = well_formed t h key signature

  abbrev Q : List ℕ
  Q = message_digest t key message signature

  abbrev cost : ℕ
  cost = cost_of (verdict_inputs key message signature)

  -- what is digested, for types that the tables have
  digested : length key ≡ key_length → verdict_inputs key message signature ≡ cond well (inputs_at t key message signature h) []
  unfolding verdict_inputs
  digested ek = rw (eq-eqb _ _ ek, ots, tree)

  sized : well ≡ true → length signature ≡ signature_length t h
  sized e = go (eqb (length signature) (signature_length t h)) refl
    where
      go : (b : Bool) → eqb (length signature) (signature_length t h) ≡ b → length signature ≡ signature_length t h
      go true f = eqb-true _ _ f
      go false f = absurd (true≢false (sym e ∙ unfold well_formed in rw f))

  length-Q : length Q ≡ 32
  unfolding message_digest message_hash
  length-Q = length-digest _

  whole : length key ≡ key_length → well ≡ true
      → cost ≡ compressions_for (54 + length message) + chain_steps t Q + compressions_for (22 + 32 * t.p) + 1 + 2 * h
  whole ek e = ap cost_of (digested ek ∙ rw e) ∙ inputs-cost t h key message signature ek (sized e)

  module _ (s : ℕ) (most : (Q : List ℕ) → length Q ≡ 32 → chain_steps t Q ≤ s) (many : length message ≤ 65) where
    abbrev all : ℕ
    all = 2 + s + compressions_for (22 + 32 * t.p) + 1 + 2 * h

    of-well : length key ≡ key_length → (b : Bool) → well ≡ b → cost ≤ all
    of-well ek true e = let two : compressions_for (54 + length message) ≤ 2 = omega arith in omega (arith, whole ek e, most Q length-Q)
    of-well ek false e = let z : cost ≡ 0 = unfold cost_of in rw (digested ek, e) in omega arith

    of-key : (b : Bool) → eqb (length key) key_length ≡ b → cost ≤ all
    of-key true e = of-well (eqb-true _ _ e) well refl
    of-key false e = let z : cost ≡ 0 = unfold verdict_inputs cost_of in rw e in omega arith

pub verdict-cost : VerdictCost
verdict-cost t h key message signature ek ots tree e = whole t h key message signature ots tree ek e

-- The sum for two type numbers, s their most steps.
sum : (ots tree s : ℕ) → ℕ
sum ots tree s = elim (table1 ots) [ None ↦ 0 | Some t ↦ elim (table2 tree) [ None ↦ 0 | Some h ↦ 2 + s + compressions_for (22 + 32 * t.p) + 1 + 2 * h ] ]

at : (ots tree s most h : ℕ) → table2 tree ≡ Some h → MostSteps chain_steps ots s → sum ots tree s ≡ most → VerdictMost ots tree most
unfolding sum
at ots tree s most h et m e =
    let t : Row = m.row in
    let f : 2 + s + compressions_for (22 + 32 * t.p) + 1 + 2 * h ≡ most = sym (rw (m.known, et, sum)) ∙ e in
    record {
      row = t;
      height = h;
      known = (m.known, et);
      never_more = λ key message signature eo eh many.
          rw (← f) (of-key t h key message signature (rw eo m.known) (rw eh et) s m.never_more many (eqb (length key) key_length) refl);
      reached = λ key message signature eo eh ek few many w z.
          let two : compressions_for (54 + length message) ≡ 2 = omega arith in
          whole t h key message signature (rw eo m.known) (rw eh et) ek w ∙ omega (arith, two, ap (chain_steps t) z, m.zeros, f);
    }

pub verdicts-most : VerdictsMost
unfolding sum table1 table2
verdicts-most =
    let four = chain_steps_lem.0 in
    let three = chain_steps_lem.1 in (
      (at 4 5 8415 8446 5 refl four refl, at 4 6 8415 8456 10 refl four refl, at 4 7 8415 8466 15 refl four refl, at 4 8 8415 8476 20 refl four refl, at 4 9 8415 8486 25 refl four refl),
      (at 3 5 990 1037 5 refl three refl, at 3 6 990 1047 10 refl three refl, at 3 7 990 1057 15 refl three refl, at 3 8 990 1067 20 refl three refl, at 3 9 990 1077 25 refl three refl),
    )

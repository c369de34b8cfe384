-- The lengths that signatures have.
use mathlib.Core.Path.{◌≡◌, refl, sym, ap, ◌∙◌}
use mathlib.Core.Bool.{Bool, true, false, ◌&&◌, true≢false}
use mathlib.Core.List.{List}
use Rattle.std.specs.Prelude.{Option, None, Some}
use Prim.Native.Nat.{ℕ}
use lib.Dec.{eqb}
use lib.ListN.{length}
use borrow.Author.Tests.{ne_eqb}
use Rattle.octets.specs.Octets.{part}
use Rattle.lms.specs.Notation.{strTou32}
use Rattle.lms.specs.Ots.{Row, table1}
use Rattle.lms.specs.Tree.{table2}
use Rattle.lms.specs.Lms.{key_length, signature_length, valid_at, valid}
use Rattle.lms.specs.Lengths.{of_types, of_ots, possible_length, LengthPossible}
use Rattle.lms.proofs.TableLaws.{every}

-- what holds of all five heights
heights : (P : ℕ → Type 0) → P 5 → P 10 → P 15 → P 20 → P 25 → (type h : ℕ) → table2 type ≡ Some h → P h
unfolding table2
heights P a b c d e type =
    every P (eqb type 5) a (every P (eqb type 6) b (every P (eqb type 7) c (every P (eqb type 8) d (every P (eqb type 9) e (λ h x. cc)))))

-- every pair of types has a possible length
of_pair : (ots : ℕ) (t : Row) → table1 ots ≡ Some t → (tree h : ℕ) → table2 tree ≡ Some h → possible_length (signature_length t h) ≡ true
unfolding table1 table2 of_types of_ots possible_length
of_pair ots =
    let possible : Row → ℕ → Type 0 = λ t h. possible_length (signature_length t h) ≡ true in
    let each : Row → Type 0 = λ t. (tree h : ℕ) → table2 tree ≡ Some h → possible t h in
    every each (eqb ots 3) (heights (possible (record { w = 4; p = 67; ls = 4 })) refl refl refl refl refl)
    (every each (eqb ots 4) (heights (possible (record { w = 8; p = 34; ls = 0 })) refl refl refl refl refl) (λ t e. cc))

wrong-length : (t : Row) (h : ℕ) (key message signature : List ℕ) → (length signature ≡ signature_length t h → ⊥) → false ≡ valid_at t h key message signature
unfolding valid_at
wrong-length t h key message signature n = rw (ne_eqb _ _ n)

module _ (key message signature : List ℕ) where
  invalid : possible_length (length signature) ≡ false → false ≡ valid key message signature
  unfolding valid
  invalid e = go (eqb (length key) key_length) (table1 (strTou32 (part 4 4 key))) (table2 (strTou32 (part 0 4 key))) refl refl
    where
      go : (a : Bool) (o : Option Row) (p : Option ℕ) → table1 (strTou32 (part 4 4 key)) ≡ o → table2 (strTou32 (part 0 4 key)) ≡ p
          → false ≡ (a && elim o [ None ↦ false | Some t ↦ elim p [ None ↦ false | Some h ↦ valid_at t h key message signature ] ])
      go false o p f g = refl
      go true None p f g = refl
      go true (Some t) None f g = refl
      go true (Some t) (Some h) f g =
          wrong-length t h key message signature (λ l. true≢false (sym (of_pair (strTou32 (part 4 4 key)) t f (strTou32 (part 0 4 key)) h g) ∙ ap possible_length (sym l) ∙ e))

pub length-possible : LengthPossible
length-possible key message signature v = go (possible_length (length signature)) refl
  where
    go : (b : Bool) → possible_length (length signature) ≡ b → b ≡ true
    go true e = refl
    go false e = absurd (true≢false (sym v ∙ sym (invalid key message signature e)))

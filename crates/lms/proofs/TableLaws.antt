-- Tables 1 and 2: what every row has.
use mathlib.Core.Path.{◌≡◌, subst}
use mathlib.Core.Bool.{Bool, true, false, cond}
use Rattle.std.specs.Prelude.{Option, Some}
use Prim.Native.Nat.{ℕ, ◌≤◌}
use lib.Dec.{eqb, lit<, lit≤}
use Rattle.std.proofs.lemmas.Option.{same_Some}
use Rattle.lms.specs.Ots.{table1}
use Rattle.lms.specs.Tree.{table2}
use Rattle.lms.specs.Sound.{Sound}
use Rattle.lms.specs.Claims.{Rows}

-- what holds of the first row and of all later ones holds of every row
pub every : {A : Type 0} (P : A → Type 0) (b : Bool) {x : A} {rest : Option A} → P x → ((y : A) → rest ≡ Some y → P y) → (y : A) → cond b (Some x) rest ≡ Some y → P y
every P true {x} h k y e = subst P (same_Some x y e) h
every P false h k y e = k y e

pub table1-sound : Rows
unfolding table1
table1-sound type =
    every Sound (eqb type 3) (record { some_bits = lit≤ tt; a_byte = lit≤ tt; within = lit≤ tt; shift = lit< tt; two_bytes = lit< tt })
    (every Sound (eqb type 4) (record { some_bits = lit≤ tt; a_byte = lit≤ tt; within = lit≤ tt; shift = lit< tt; two_bytes = lit< tt })
    (λ t e. cc))

pub table2-height : (type h : ℕ) → table2 type ≡ Some h → h ≤ 25
unfolding table2
table2-height type =
    let low : ℕ → Type 0 = λ h. h ≤ 25 in
    every low (eqb type 5) (lit≤ tt)
    (every low (eqb type 6) (lit≤ tt)
    (every low (eqb type 7) (lit≤ tt)
    (every low (eqb type 8) (lit≤ tt)
    (every low (eqb type 9) (lit≤ tt) (λ h e. cc)))))

-- the heights' bound, for the search
pub ruleset heights = (table2-height)

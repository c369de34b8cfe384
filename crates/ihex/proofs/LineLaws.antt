-- A line's end, and where lines end in a text.
use mathlib.Core.Path.{◌≡◌, refl, sym, ap, subst, ◌∙◌}
use mathlib.Core.Bool.{Bool, true, false, cond, ◌&&◌, and-true, and-false}
use mathlib.Core.List.{List, [], ◌∷◌, ◌++◌}
use Rattle.std.proofs.Common.{Bor}
use Rattle.std.specs.Prelude.{Option, None, Some}
use Rattle.std.specs.List.{IsFirstMatchOrLen}
use Rattle.std.specs.Prelude.{slice_get}
use Rattle.std.specs.Iterator.{Yields}
use Rattle.std.specs.Iterator.Runs.{Run, YieldsRun}
use Rattle.std.specs.Fn.{Mut, Called, ComputesKey}
use Rattle.std.proofs.lemmas.List.Sorted.{answers_always}
use Prim.Native.Nat.{ℕ, zero, suc, min, ◌+◌, ◌-◌, ◌≤◌, ◌<◌}
use native.Mathlib.Decide.{dec_lt}
use native.Mathlib.Omega.{arith}
use lib.Dec.{eqb}
use lib.ListN.{length, drop, get_or, length-append, length-drop, drop_of_length-le}
use lib.Seq.{drop-cons}
use borrow.Author.Tests.{eq-eqb, ne_eqb}
use Rattle.octets.specs.Octets.{equal}
use Rattle.octets.proofs.EqualLaws.{equal-lengths}
use Rattle.ihex.specs.Line.{LF, CR, line_end}
use Rattle.ihex.specs.Text.{lines, longer}

module _ (l : List ℕ) where
  abbrev last : ℕ
  last = get_or l (length l - 1) 0

  abbrev second : ℕ
  second = get_or l (length l - 2) 0

  last_one : 0 < length l → drop (length l - 1) l ≡ last ∷ []
  last_one h = drop-cons l (length l - 1) 0 (omega arith) ∙ ap (λ (s : List ℕ). last ∷ s) (drop_of_length-le l {i = suc (length l - 1)} (omega arith))

  last-two : 1 < length l → drop (length l - 2) l ≡ second ∷ last ∷ []
  last-two h =
      let e : suc (length l - 2) ≡ length l - 1 = omega arith in
      drop-cons l (length l - 2) 0 (omega arith) ∙ rw (e, last_one (omega arith))

  -- the two tests of a line's end
  lf : 0 < length l → equal (drop (length l - 1) l) (LF ∷ []) ≡ eqb last LF
  unfolding equal
  lf h = ap (λ (s : List ℕ). equal s (LF ∷ [])) (last_one h) ∙ and-true (eqb last LF)

  crlf : 1 < length l → equal (drop (length l - 2) l) (CR ∷ LF ∷ []) ≡ eqb second CR && (eqb last LF && true)
  unfolding equal
  crlf h = ap (λ (s : List ℕ). equal s (CR ∷ LF ∷ [])) (last-two h)

  no-crlf : length l ≤ 1 → equal (drop (length l - 2) l) (CR ∷ LF ∷ []) ≡ false
  no-crlf h = equal-lengths (drop (length l - 2) l) (CR ∷ LF ∷ []) (λ e. omega (arith, length-drop (length l - 2) l, e))

  pub end_empty : length l ≡ 0 → 0 ≡ line_end l
  unfolding line_end
  end_empty e = rw (no-crlf (omega arith), equal-lengths (drop (length l - 1) l) (LF ∷ []) (λ f. omega (arith, length-drop (length l - 1) l, f)))

  pub end_none : 0 < length l → (last ≡ LF → ⊥) → 0 ≡ line_end l
  unfolding line_end
  end_none h f = rw (two (dec_lt 1 (length l)), lf h, ne_eqb last LF f)
    where
      two : Dec (1 < length l) → equal (drop (length l - 2) l) (CR ∷ LF ∷ []) ≡ false
      two (yes g) = crlf g ∙ rw (ne_eqb last LF f) (and-false (eqb second CR))
      two (no g) = no-crlf (omega arith)

  pub end-alone : length l ≡ 1 → last ≡ LF → 1 ≡ line_end l
  unfolding line_end
  end-alone h e = rw (no-crlf (omega arith), lf (omega arith), eq-eqb last LF e)

  module _ (h : 1 < length l) (e : last ≡ LF) where
    pub end-crlf : second ≡ CR → 2 ≡ line_end l
    unfolding line_end
    end-crlf f = rw (crlf h, eq-eqb second CR f, eq-eqb last LF e)

    pub end-lf : (second ≡ CR → ⊥) → 1 ≡ line_end l
    unfolding line_end
    end-lf f = rw (crlf h, ne_eqb second CR f, lf (omega arith), eq-eqb last LF e)

-- A text is its first line, which goes up to its first LF, and the lines of the rest.
longer-cut : (c : ℕ) (s x t : List ℕ) → s ≡ x ++ t → (0 < length s → lines s ≡ x ∷ lines t) → longer c (lines s) ≡ (c ∷ x) ∷ lines t
unfolding lines
longer-cut c [] [] t e f = rw (← e)
longer-cut c [] (y ∷ x) t e f = cc
longer-cut c (y ∷ s) x t e f = ap (longer c) (f (omega arith))

lines-cut : (s x t : List ℕ) (i : ℕ) → s ≡ x ++ t → length x ≡ min (i + 1) (length s) → IsFirstMatchOrLen (λ c. eqb c LF) s i → 0 < length s → lines s ≡ x ∷ lines t
unfolding lines
lines-cut [] x t i e l f h = absurd (omega arith)
lines-cut (c ∷ s) [] t i e l f h = absurd (omega arith)
lines-cut (c ∷ s) (d ∷ y ∷ x) t zero e l f h = absurd (omega arith)
lines-cut (c ∷ s) (d ∷ []) t zero e l f h =
    let g : eqb c LF ≡ true = f.1 (omega arith) 0 in
    let p : c ≡ d = cc in
    let q : s ≡ t = cc in
    rw (g, p, q)
lines-cut (c ∷ s) (d ∷ x) t (suc i) e l f h =
    let g : eqb c LF ≡ false = f.0 0 0 (omega arith) (omega arith) in
    let p : c ≡ d = cc in
    let q : s ≡ x ++ t = cc in
    rw (g, ← p) (longer-cut c s x t q (lines-cut s x t i q (omega arith) (λ k z a b. f.0 (suc k) z (omega arith) (omega arith), λ b z. f.1 (omega arith) z)))

-- A step of the code's iterator over lines, from s left of a text: it gave x, and t is left.
pub record Cut (s x t : List ℕ) : Type 0 where
  pub lines : lines s ≡ x ∷ lines t
  pub shorter : length t < length s
  pub parts : length s ≡ length x + length t

pub line_cut : {F : Type 0} (g : Mut F (Bor ℕ × Unit {0}) Bool) (f h : F) (s x t : List ℕ)
    → (s ≡ x ++ t) × ((i : ℕ) × (length x ≡ min (i + 1) (length s)) × ((p : ℕ → Bool) → ComputesKey g p f → ComputesKey g p h × IsFirstMatchOrLen p s i)) × (0 < length s)
    → ((f : F) (a : Bor ℕ × Unit {0}) (r : Bool) (f' : F) → Called g f a r f' → r ≡ eqb a.0.now LF) → Cut s x t
line_cut g f h s x t step test =
    record {
      lines = lines-cut s x t step.1.0 step.0 step.1.1 (step.1.2 (λ c. eqb c LF) (answers_always g (λ a r. r ≡ eqb a.0.now LF) f test)).1 step.2;
      shorter = omega (arith, step.1.1, step.2, simp length-append at (ap length step.0));
      parts = simp length-append at (ap length step.0);
    }

pub lines-none : (s : List ℕ) → length s ≡ 0 → lines s ≡ []
unfolding lines
lines-none [] e = refl
lines-none (c ∷ s) e = absurd (omega arith)

pub lines-some : (s : List ℕ) → 0 < length s → (l : List ℕ) × (ls : List (List ℕ)) × (lines s ≡ l ∷ ls)
unfolding lines
lines-some [] h = absurd (omega arith)
lines-some (c ∷ s) h = go (eqb c LF) (lines s)
  where
    go : (t : Bool) (xs : List (List ℕ)) → (l : List ℕ) × (ls : List (List ℕ)) × (cond t ((c ∷ []) ∷ xs) (longer c xs) ≡ l ∷ ls)
    go true xs = (c ∷ [], xs, refl)
    go false [] = (c ∷ [], [], refl)
    go false (x ∷ xs) = (c ∷ x, xs, refl)

-- Line n, where each step of an iterator cuts one off what is left.
module _ {S : Type 0} (steps : S → Option (Bor (List ℕ)) → S → Type 0) (rest : S → List ℕ) where
  abbrev Cuts : Type 0
  Cuts = (s t : S) (x : Bor (List ℕ)) → steps s (Some x) t → Cut (rest s) x.now (rest t)

  item_line : (s t : S) (xs : List (Bor (List ℕ))) (n : ℕ) (x : Bor (List ℕ)) → Yields steps s xs t → Cuts → slice_get xs n ≡ Some x → x.now ≡ get_or (lines (rest s)) n []
  item_line s t [] n x y cut e = cc
  item_line s t (z ∷ xs) zero x y cut e = let g : z ≡ x = cc in rw ((cut s y.0 z y.1).lines, g)
  item_line s t (z ∷ xs) (suc n) x y cut e = rw ((cut s y.0 z y.1).lines) (item_line y.0 t xs n x y.2 cut e)

  item-past : (s t : S) (xs : List (Bor (List ℕ))) (n : ℕ) → Yields steps s xs t → Cuts → length (rest t) ≡ 0 → length xs ≤ n → get_or (lines (rest s)) n [] ≡ []
  item-past s t [] n y cut e l = let P : S → Type 0 = λ z. length (rest z) ≡ 0 in rw (lines-none (rest s) (subst P (sym y) e))
  item-past s t (z ∷ xs) zero y cut e l = absurd (omega arith)
  item-past s t (z ∷ xs) (suc n) y cut e l = rw ((cut s y.0 z y.1).lines) (item-past y.0 t xs n y.2 cut e (omega arith))

module _ {S : Type 0} {steps : S → Option (Bor (List ℕ)) → S → Type 0} (rest : S → List ℕ) (p : Run steps) (n : ℕ) where
  pub line-nth : (x : Bor (List ℕ)) → p.at n ≡ Some x → Cuts steps rest → x.now ≡ get_or (lines (rest p.from)) n []
  unfolding YieldsRun
  line-nth x e cut = item_line steps rest p.from p.gave.0.0 p.items n x p.gave.0.1 cut (sym (p.gave.1 n) ∙ e)

  pub line-past : p.whole ≡ true → p.len ≤ n → Cuts steps rest → ((s t : S) → steps s None t → length (rest s) ≡ 0) → get_or (lines (rest p.from)) n [] ≡ []
  unfolding YieldsRun
  line-past w l cut ended = let u = p.gave.0.2 w in item-past steps rest p.from p.gave.0.0 p.items n p.gave.0.1 cut (ended p.gave.0.0 u.0 u.1) (omega (arith, p.long))

pub end-most : (l : List ℕ) → line_end l ≤ 2
unfolding line_end
end-most l = go (equal (drop (length l - 2) l) (CR ∷ LF ∷ [])) (equal (drop (length l - 1) l) (LF ∷ []))
  where
    go : (s t : Bool) → cond s 2 (cond t 1 0) ≤ 2
    go true t = omega arith
    go false true = omega arith
    go false false = omega arith

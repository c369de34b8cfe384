-- The answer to an input, test by test.
use mathlib.Core.Path.{◌≡◌, sym, ap, ap₂, ◌∙◌}
use mathlib.Core.Bool.{Bool, true, false, cond}
use mathlib.Core.List.{List, [], ◌∷◌, ◌++◌, append_assoc}
use Prim.Native.Nat.{ℕ, suc, ◌+◌, ◌-◌, ◌≤◌, ◌<◌}
use native.Mathlib.Omega.{arith}
use lib.ListN.{length, take, drop, length-drop, drop_of_length-le}
use lib.Seq.{take_all}
use Rattle.octets.specs.Octets.{equal}
use Rattle.octets.proofs.EqualLaws.{equal-self, equal-lengths}
use Rattle.std.specs.Prelude.{Option, None, Some}
use Rattle.decimal.specs.Decimal.{line}
use Rattle.decimal.proofs.WritingLaws.{decimal-short, length-line}
use Rattle.merkle.specs.Limits.{max_blocks}
use Rattle.wake.specs.Wake.{most_blocks, LF, before_lf, second_line, short_number, answer}
use Rattle.wake.proofs.FitLaws.{most-few}
use Rattle.wake.proofs.LineLaws.{line-take, line-split, line-few, length_two}

module _ (input : List ℕ) where
  abbrev pub first : List ℕ
  first = before_lf input

  abbrev pub second : List ℕ
  second = second_line input

  -- what stands behind the first line
  abbrev behind : List ℕ
  behind = drop (suc (length first)) input

  abbrev pub lines : List ℕ
  lines = first ++ LF ++ second ++ LF

  pub different : equal input lines ≡ false → 0 ≡ answer input
  unfolding answer
  different e = rw e

  none : (length input ≡ length lines → ⊥) → 0 ≡ answer input
  none n = different (equal-lengths input lines n)

  same : input ≡ lines → equal input lines ≡ true
  same e = ap (equal input) (sym e) ∙ equal-self input

  pub first-wrong : input ≡ lines → None ≡ short_number first → 0 ≡ answer input
  unfolding answer
  first-wrong e f = rw (same e, ← f)

  pub second-wrong : {L : ℕ} → input ≡ lines → Some L ≡ short_number first → None ≡ short_number second → 0 ≡ answer input
  unfolding answer
  second-wrong e f g = rw (same e, ← f, ← g)

  pub both : {L B : ℕ} → input ≡ lines → Some L ≡ short_number first → Some B ≡ short_number second → most_blocks L B ≡ answer input
  unfolding answer
  both e f g = rw (same e, ← f, ← g)

  two : length first < length input → length second + 1 ≡ length behind → input ≡ lines
  unfolding second_line
  two h e =
      let end : drop (suc (length second)) behind ≡ [] = drop_of_length-le behind {i = suc (length second)} (omega arith) in
      line-split input h ∙ ap (λ l. first ++ 10 ∷ l) (line-split behind (omega arith) ∙ ap (λ l. second ++ 10 ∷ l) end) ∙ simp append_assoc

  pub answer-few : answer input ≤ max_blocks
  unfolding answer
  answer-few = go (equal input lines) (short_number first) (short_number second)
    where
      go : (b : Bool) (p q : Option ℕ) → cond b (elim p [ None ↦ 0 | Some L ↦ elim q [ None ↦ 0 | Some B ↦ most_blocks L B ] ]) 0 ≤ max_blocks
      go true (Some L) (Some B) = most-few L B
      go true (Some L) None = omega arith
      go true None q = omega arith
      go false p q = omega arith

  -- a line of at most four digits
  pub printed-short : length (line [] (answer input)) ≤ 5
  printed-short = omega (arith, length-line [] (answer input), decimal-short 3 (answer input) (omega (arith, answer-few)))

  -- As the code has them: i and j are the lengths of the two lines, and the second one's text is a part of the input.
  abbrev part : ℕ → List ℕ
  part i = take (length input - (i + 1)) (drop (i + 1) input)

  pub no_line : {i : ℕ} → i ≡ length first → i ≡ length input → 0 ≡ answer input
  no_line ei e = none (λ f. omega (arith, length_two first second))

  module _ {i : ℕ} (ei : i ≡ length first) (n : i ≡ length input → ⊥) where
    pub after : i + 1 ≤ length input
    after = omega (arith, line-few input)

    part-is : part i ≡ behind
    part-is =
        let z : i + 1 ≡ suc (length first) = omega arith in
        take_all (length input - (i + 1)) (drop (i + 1) input) (rw (length-drop (i + 1) input) (omega arith)) ∙ ap (λ k. drop k input) z

    length-behind : length behind ≡ length input - (i + 1)
    length-behind = length-drop (suc (length first)) input ∙ omega arith

    module _ {j : ℕ} (ej : j ≡ length (before_lf (part i))) where
      second_is : j ≡ length second
      unfolding second_line
      second_is = ej ∙ ap (λ l. length (before_lf l)) part-is

      pub second_fits : j + 1 ≤ length input
      unfolding second_line
      second_fits = omega (arith, second_is, line-few behind, length-behind, after)

      pub second-within : j ≤ length (part i)
      second-within = omega (arith, line-few (part i))

      pub no_second : (j + 1 ≡ length (part i) → ⊥) → 0 ≡ answer input
      no_second f = none (λ g. f (omega (arith, length_two first second, second_is, ap length part-is, length-behind)))

      module _ (e : j + 1 ≡ length (part i)) where
        whole : input ≡ lines
        whole = two (omega (arith, after)) (omega (arith, second_is, ap length part-is))

        first-text : take i input ≡ first
        first-text = ap (λ k. take k input) ei ∙ line-take input

        second-text : take j (part i) ≡ second
        unfolding second_line
        second-text = ap₂ {C = List ℕ} take second_is part-is ∙ line-take behind

        pub wrong-length : None ≡ short_number (take i input) → 0 ≡ answer input
        wrong-length f = first-wrong whole (f ∙ ap short_number first-text)

        pub wrong-number : {L : ℕ} → Some L ≡ short_number (take i input) → None ≡ short_number (take j (part i)) → 0 ≡ answer input
        wrong-number f g = second-wrong whole (f ∙ ap short_number first-text) (g ∙ ap short_number second-text)

        pub answered : {L B r : ℕ} → Some L ≡ short_number (take i input) → Some B ≡ short_number (take j (part i)) → r ≡ most_blocks L B → r ≡ answer input
        answered f g h = h ∙ both whole (f ∙ ap short_number first-text) (g ∙ ap short_number second-text)

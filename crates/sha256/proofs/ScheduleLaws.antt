-- The message schedule, one word after the other.
use Rattle.std.proofs.Common.{◌≡◌, ℕ, ◌+◌, ◌-◌, ◌<◌, ◌≤◌, List, [], ◌∷◌, ◌++◌, length, get_or, take, set, sym, ap, ◌∙◌, ap₂, add-one, arith, take_all, get_or-take, take-suc-set, le-ltb, lt-ltb}
use Rattle.sha256.specs.Sha256.{word, σ0, σ1, schedule, words, W, M}

-- w begins with the first t words
module _ (b w : List ℕ) (t : ℕ) (e : take t w ≡ words t b) where
  seen : (j : ℕ) → j < t → get_or w j 0 ≡ get_or (words t b) j 0
  seen j h = sym (get_or-take t w j 0 h) ∙ ap (λ (l : List ℕ). get_or l j 0) e

  put : t < length w → (x : ℕ) → x ≡ W b t (words t b) → take (t + 1) (set w t x) ≡ words (t + 1) b
  unfolding words
  put h x f = rw (add-one t) (take-suc-set w t x h ∙ ap₂ (λ (l : List ℕ) (y : ℕ). l ++ (y ∷ [])) e f)

  pub word-of-block : t < length w → t < 16 → (x : ℕ) → x ≡ M b t → take (t + 1) (set w t x) ≡ words (t + 1) b
  unfolding W
  word-of-block h l x f = put h x (rw (W, lt-ltb t 16 l) f)

  pub word-of-words : t < length w → 16 ≤ t → (x : ℕ)
      → x ≡ word (σ1 (get_or w (t - 2) 0) + get_or w (t - 7) 0 + σ0 (get_or w (t - 15) 0) + get_or w (t - 16) 0)
      → take (t + 1) (set w t x) ≡ words (t + 1) b
  unfolding W
  word-of-words h l x f =
      put h x
      (rw (W, le-ltb t 16 l)
      (f ∙ cc (seen (t - 2) (omega arith), seen (t - 7) (omega arith), seen (t - 15) (omega arith), seen (t - 16) (omega arith))))

  pub schedule-all : t ≤ 64 → 64 ≤ t → length w ≡ 64 → w ≡ schedule b
  unfolding schedule
  schedule-all l g h = sym (take_all t w (omega arith)) ∙ e ∙ ap (λ (n : ℕ). words n b) (omega arith)

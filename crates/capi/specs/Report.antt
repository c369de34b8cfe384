-- For the code alone: what C gets of an answer, and what is read off a state's bytes before that.
use Rattle.std.specs.Prelude.{◌≡◌, false, Result, Ok, Err, List, ℕ, ◌≤◌, ◌<◌}
use Rattle.wire.specs.declared.manifest.Manifest.{Manifest}
use Rattle.wire.specs.declared.refusal.Refusal.{Refusal}
use Rattle.wire.specs.Refusal.{refusal_number}
use Rattle.wire.specs.Size.{wrong_size}
use Rattle.wire.specs.Geometry.{count_of}
use Rattle.capi.specs.Status.{read_due}

-- the number: 0, or that of the refusal
abbrev pub answered : {A : Type 0} → Result A Refusal → ℕ
answered (Ok x) = 0
answered (Err r) = refusal_number r

-- the block that is due to the device that the bytes encode, by manifest and number: every number of it follows
pub record Due (state : List ℕ) (s : Manifest) (i : ℕ) : Type 0 where
  pub size : wrong_size s.block_len s.image_len ≡ false
  pub low : 0 < i
  pub high : i ≤ count_of s
  pub read : (number : Manifest → (i : ℕ) → ℕ) (before : ℕ) → read_due number state before ≡ record { answer = 0; written = number s i }

abbrev pub IsDue : (state : List ℕ) → Result (Manifest × ℕ) Refusal → Type 0
IsDue state (Ok d) = Due state d.0 d.1
IsDue state (Err r) = (number : Manifest → (i : ℕ) → ℕ) (before : ℕ) → read_due number state before ≡ record { answer = refusal_number r; written = before }

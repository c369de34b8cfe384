-- What is shown of the definitions (in proofs/): numbers and their bytes are each the other's inverse.
use Rattle.std.specs.Prelude.{◌≡◌, List, ℕ, ◌%◌, ◌^◌, length}
use Rattle.octets.specs.Octets.{Bytes, bytes, number}

abbrev pub NumberOfBytes : Type 0
NumberOfBytes = (k x : ℕ) → number (bytes k x) ≡ x % 256 ^ k

abbrev pub BytesOfNumber : Type 0
BytesOfNumber = (s : List ℕ) → Bytes s → bytes (length s) (number s) ≡ s

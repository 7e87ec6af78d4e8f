-- Where the blocks of a disk lie.
use Rattle.std.specs.Prelude.{◌≡◌, ◌<◌, ◌+◌, ◌*◌, ◌↔◌, ◌/◌, ◌%◌, ◌^◌, ◌≤◌, ℕ, List, length, slice_index}
use Rattle.disk_service.specs.declared.layout.BlockPlace.{BlockPlace}
use Rattle.disk_service.specs.declared.layout.Stripe.{Stripe}

-- no number stands twice
abbrev pub AreDistinct : List ℕ → Type 0
AreDistinct numbers = (i j : ℕ) → i < j → j < length numbers → slice_index numbers i ≡ slice_index numbers j → ⊥

-- a disk of so many blocks can lie in the files of these numbers
pub record CanLie (numbers : List ℕ) (block_bytes blocks : ℕ) : Type 0 where
  pub some : 0 < length numbers
  pub sized : 0 < block_bytes
  pub distinct : AreDistinct numbers
  pub reached : blocks ≤ 2 ^ 32 * length numbers
  pub fits : blocks * block_bytes < 2 ^ 64

-- block b lies in the file of the number at b mod n, at the index b / n
pub record IsPlaceOf (numbers : List ℕ) (block : ℕ) (place : BlockPlace) : Type 0 where
  pub file : slice_index numbers (block % length numbers) ≡ place.number
  pub index : place.index ≡ block / length numbers

-- of n stripes, one has just those indices whose blocks lie in a range: index i of stripe k is block i n + k
abbrev pub HasIndices : ℕ → ℕ → ℕ → ℕ → Stripe → Type 0
HasIndices n k first end stripe = (i : ℕ) → ((stripe.from ≤ i) × (i < stripe.to)) ↔ ((first ≤ i * n + k) × (i * n + k < end))

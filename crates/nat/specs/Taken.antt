-- Which node numbers are taken (Linux filesystems/f2fs, node address table).
use Rattle.std.specs.Prelude.{◌≡◌, ℕ, ◌==◌, ◌<◌, ◌≤◌, List, Option, Some, None, if◌then◌else◌}
use Rattle.geometry.specs.Weights.{weigh}
use Rattle.rights_books.specs.declared.claim.TakenNumber.{TakenNumber}
use Rattle.rights_books.specs.Lists.{times}
use Rattle.rights_books.specs.Sameness.{same_entry}
use Rattle.rights_books.specs.Weights.{mark_of}
use Rattle.tickets.specs.Placed.{Placed}

-- how many entries are of a number
abbrev pub entries_of : ℕ → List TakenNumber → ℕ
entries_of number taken = weigh (λ e. if e.number == number then 1 else 0) taken

abbrev pub IsFree : ℕ → List TakenNumber → Type 0
IsFree number taken = entries_of number taken ≡ 0

-- it has one entry
abbrev pub IsTaken : ℕ → List TakenNumber → Type 0
IsTaken number taken = entries_of number taken ≡ 1

-- No number has two entries, and each that has one is one of 1 to `nodes`.
pub record AreNodes (nodes : ℕ) (taken : List TakenNumber) : Type 0 where
  pub once : (number : ℕ) → entries_of number taken ≤ 1
  pub some : (number : ℕ) → 0 < entries_of number taken → 1 ≤ number
  pub within : (number : ℕ) → 0 < entries_of number taken → number ≤ nodes

-- each number past one of them, up to the other, is taken
abbrev pub AllTaken : ℕ → ℕ → List TakenNumber → Type 0
AllTaken past last taken = (number : ℕ) → past < number → number ≤ last → IsTaken number taken

-- it is the lowest free one of these numbers
pub record IsLowestFree (past last : ℕ) (taken : List TakenNumber) (number : ℕ) : Type 0 where
  pub past_it : past < number
  pub within : number ≤ last
  pub free : IsFree number taken
  pub lowest : (lower : ℕ) → past < lower → lower < number → IsTaken lower taken

-- what a number's one entry says of it: the inode number and the address
abbrev pub IsLocated : ℕ → List TakenNumber → Option (ℕ × ℕ) → Type 0
IsLocated number taken None = IsFree number taken
IsLocated number taken (Some place) =
    IsTaken number taken × (bytes : List ℕ) × (0 < times same_entry (record { number = number; inode = place.0; address = place.1; bytes = bytes }) taken)

-- the ticket that is lodged in an entry, with the bytes of its block
abbrev pub placed_of : TakenNumber → Option Placed
placed_of e = if e.address == 0 then None else Some (record { mark = mark_of e; content = e.bytes })

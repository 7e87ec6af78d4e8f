-- The bits, the summaries and the count of a segment say the same, and each summary is the one that stands for its owner.
use Rattle.std.specs.Prelude.{◌≡◌, ℕ, ◌<◌, ◌^◌, List, Bool, length, map}
use Rattle.geometry.specs.declared.owner.Summary.{Summary}
use Rattle.geometry.specs.Summary.{owner_in}
use Rattle.sit.specs.Summaries.{is_set, summary_in, count_of}

pub record AreValid (bits : List Bool) (summaries : List Summary) (count : ℕ) : Type 0 where
  pub bits_are : bits ≡ map is_set (map owner_in summaries)
  pub count_is : count ≡ count_of (map owner_in summaries)
  pub rows_are : summaries ≡ map summary_in (map owner_in summaries)
  pub few : length summaries < 2 ^ 32

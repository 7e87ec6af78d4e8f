-- The summaries of a segment: who names each of its blocks (Linux filesystems/f2fs, segment summary area). A block that somebody names is valid.
use Rattle.std.specs.Prelude.{ℕ, suc, List, [], ◌∷◌, Option, Some, None, Bool, true, false}
use Rattle.geometry.specs.declared.owner.Owner.{Owner}
use Rattle.geometry.specs.declared.owner.Mark.{Mark}
use Rattle.geometry.specs.declared.owner.Summary.{Summary}
use Rattle.geometry.specs.Summary.{summary_of}
use Rattle.geometry.specs.Weights.{weigh}

abbrev pub is_set : Option Owner → Bool
is_set (Some owner) = true
is_set None = false

abbrev pub is_clear : Option Owner → Bool
is_clear (Some owner) = false
is_clear None = true

-- what stands in the segment summary area: where nobody names the block, two zeros
abbrev pub summary_in : Option Owner → Summary
summary_in (Some owner) = summary_of owner
summary_in None = record { nid = 0; slot = 0 }

abbrev pub one : Option Owner → ℕ
one (Some owner) = 1
one None = 0

-- how many blocks are valid
abbrev pub count_of : List (Option Owner) → ℕ
count_of summaries = weigh one summaries

-- the valid blocks, where the first summary is that of the block at this address
abbrev pub marks_from : ℕ → List (Option Owner) → List Mark
marks_from address [] = []
marks_from address (Some owner ∷ rest) = record { address = address; owner = owner } ∷ marks_from (suc address) rest
marks_from address (None ∷ rest) = marks_from (suc address) rest

-- What stands ready for the files of a volume that is mounted, and what it weighs.
use Rattle.std.specs.Prelude.{◌≡◌, ℕ, ◌+◌, List, Option, Some, None, slice_index_or}
use Rattle.geometry.specs.Weights.{weigh}
use Rattle.geometry.specs.declared.owner.Mark.{Mark}
use Rattle.geometry.specs.declared.owner.Owner.{Owner}
use Rattle.geometry.specs.declared.owner.Owner.TheVariants.{Node, Data}
use Rattle.rights_books.specs.declared.claim.TakenNumber.{TakenNumber}
use Rattle.rights_books.specs.Weights.{mark_of}

-- tickets by their addresses, and tokens by their numbers
pub record Shelves (L : Type 0) : Type 0 where
  pub tickets : List (Option L)
  pub tokens : List (Option TakenNumber)

-- those that are left, and all that there were
pub record Goods (L : Type 0) : Type 0 where
  pub tickets : List (Option L)
  pub tokens : List (Option TakenNumber)
  pub all : Shelves L

-- what is left stands where it stood
abbrev pub AreLeft : {A : Type 0} → List (Option A) → List (Option A) → Type 0
AreLeft {A} left all = (k : ℕ) (x : A) → slice_index_or left k None ≡ Some x → slice_index_or all k None ≡ Some x

-- what stands in a place weighs
abbrev pub in_place : {A : Type 0} → (A → ℕ) → Option A → ℕ
in_place h None = 0
in_place h (Some x) = h x

-- what is left weighs
abbrev pub goods_weight : {L : Type 0} → (L → ℕ) → (TakenNumber → ℕ) → Goods L → ℕ
goods_weight ticket token goods = weigh (in_place ticket) goods.tickets + weigh (in_place token) goods.tokens

-- the same, by the marks of the blocks: a node's token stands for the block of the node
abbrev pub marks_weight : {L : Type 0} → (L → Mark) → (Mark → ℕ) → Goods L → ℕ
marks_weight mark h goods = goods_weight (λ t. h (mark t)) (λ e. h (mark_of e)) goods

-- the owner of a data block
abbrev pub IsData : Owner → Type 0
IsData (Node n) = ⊥
IsData (Data n s) = Unit {0}

-- Each ticket stands at its address, and is of a data block; each token stands at its number.
pub record ArePlaced {L : Type 0} (mark : L → Mark) (all : Shelves L) : Type 0 where
  pub addresses : (k : ℕ) (t : L) → slice_index_or all.tickets k None ≡ Some t → (mark t).address ≡ k
  pub owners : (k : ℕ) (t : L) → slice_index_or all.tickets k None ≡ Some t → IsData (mark t).owner
  pub numbers : (k : ℕ) (e : TakenNumber) → slice_index_or all.tokens k None ≡ Some e → e.number ≡ k

-- Tests of equality.
use Rattle.std.specs.Prelude.{ℕ, ◌==◌, ◌&&◌, Bool, true, false, List, [], ◌∷◌}
use Rattle.rights_books.specs.declared.claim.TakenNumber.{TakenNumber}
use Rattle.geometry.specs.declared.kind.Kind.{Kind}
use Rattle.geometry.specs.declared.kind.Kind.TheVariants.{File, Dir, Media}
use Rattle.rights_books.specs.declared.claim.FileContent.{FileContent}

-- of two lists, by a test of their items
abbrev pub same_list : {A : Type 0} → (A → A → Bool) → List A → List A → Bool
same_list same [] [] = true
same_list same [] (y ∷ ys) = false
same_list same (x ∷ xs) [] = false
same_list same (x ∷ xs) (y ∷ ys) = same x y && same_list same xs ys

-- of two entries
abbrev pub same_entry : TakenNumber → TakenNumber → Bool
same_entry d e =
    (d.number == e.number) && ((d.inode == e.inode) && ((d.address == e.address) && same_list (λ x y. x == y) d.bytes e.bytes))

-- a number of each kind
abbrev pub kind_number : Kind → ℕ
kind_number File = 0
kind_number Dir = 1
kind_number Media = 2

-- of two blocks with their indexes
abbrev pub same_block : ℕ × List ℕ → ℕ × List ℕ → Bool
same_block a b = (a.0 == b.0) && same_list (λ x y. x == y) a.1 b.1

-- of what two files are
abbrev pub same_content : FileContent → FileContent → Bool
same_content f g = (kind_number f.kind == kind_number g.kind) && ((f.length == g.length) && same_list same_block f.blocks g.blocks)

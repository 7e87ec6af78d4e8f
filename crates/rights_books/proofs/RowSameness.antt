-- Two rows are tested field by field, and the test says true exactly where they are equal.
use Rattle.std.proofs.Common.{◌≡◌, ◌==◌, ◌&&◌, Bool, true, false, List, [], ◌∷◌, Option, Some, None, refl, sym, ap, eq-eqb, eqb-true, true≢false}
use Rattle.std.proofs.lemmas.Bool.{and_parts, and_from}
use Rattle.geometry.specs.declared.owner.Owner.{Owner}
use Rattle.geometry.specs.Mark.{same_owner}
use Rattle.geometry.proofs.MarkTests.{owner_eq, owner_self}
use Rattle.rights_books.specs.declared.row_claim.NodeRow.{NodeRow}
use Rattle.rights_books.specs.declared.row_claim.Row.{Row}

no : {A : Type 0} → false ≡ true → A
no e = absurd (true≢false (sym e))

module _ {A : Type 0} (same : A → A → Bool) where
  abbrev same_list : List A → List A → Bool
  same_list [] [] = true
  same_list [] (y ∷ ys) = false
  same_list (x ∷ xs) [] = false
  same_list (x ∷ xs) (y ∷ ys) = same x y && same_list xs ys

  list_eq : ((x y : A) → same x y ≡ true → x ≡ y) → (xs ys : List A) → same_list xs ys ≡ true → xs ≡ ys
  list_eq sound [] [] e = refl
  list_eq sound [] (y ∷ ys) e = no e
  list_eq sound (x ∷ xs) [] e = no e
  list_eq sound (x ∷ xs) (y ∷ ys) e =
      let b = and_parts (same x y) (same_list xs ys) e in
      let t = list_eq sound xs ys b.1 in λ i. sound x y b.0 i ∷ t i

  list_self : ((x : A) → same x x ≡ true) → (xs : List A) → same_list xs xs ≡ true
  list_self whole [] = refl
  list_self whole (x ∷ xs) = and_from (same x x) (same_list xs xs) (whole x) (list_self whole xs)

-- of who names a block, if anybody does
abbrev same_name : Option Owner → Option Owner → Bool
same_name None None = true
same_name None (Some q) = false
same_name (Some p) None = false
same_name (Some p) (Some q) = same_owner p q

name_eq : (o p : Option Owner) → same_name o p ≡ true → o ≡ p
name_eq None None e = refl
name_eq None (Some q) e = no e
name_eq (Some p) None e = no e
name_eq (Some p) (Some q) e = ap (λ (x : Owner). Some x) (owner_eq p q e)

name_self : (o : Option Owner) → same_name o o ≡ true
name_self None = refl
name_self (Some p) = owner_self p

abbrev same_node : NodeRow → NodeRow → Bool
same_node m n = (m.number == n.number) && ((m.inode == n.inode) && (m.address == n.address))

node_eq : (m n : NodeRow) → same_node m n ≡ true → m ≡ n
node_eq m n t =
    let b = and_parts (m.number == n.number) ((m.inode == n.inode) && (m.address == n.address)) t in
    let c = and_parts (m.inode == n.inode) (m.address == n.address) b.1 in
    λ i. record { number = eqb-true m.number n.number b.0 i; inode = eqb-true m.inode n.inode c.0 i; address = eqb-true m.address n.address c.1 i }

node_self : (m : NodeRow) → same_node m m ≡ true
node_self m =
    and_from (m.number == m.number) ((m.inode == m.inode) && (m.address == m.address)) (eq-eqb m.number m.number refl)
    (and_from (m.inode == m.inode) (m.address == m.address) (eq-eqb m.inode m.inode refl) (eq-eqb m.address m.address refl))

abbrev pub same_row : Row → Row → Bool
same_row r s = (r.mtime == s.mtime) && (same_list same_name r.owners s.owners && same_list same_node r.nodes s.nodes)

pub row_eq : (r s : Row) → same_row r s ≡ true → r ≡ s
row_eq r s t =
    let b = and_parts (r.mtime == s.mtime) (same_list same_name r.owners s.owners && same_list same_node r.nodes s.nodes) t in
    let c = and_parts (same_list same_name r.owners s.owners) (same_list same_node r.nodes s.nodes) b.1 in
    λ i. record {
      mtime = eqb-true r.mtime s.mtime b.0 i;
      owners = list_eq same_name name_eq r.owners s.owners c.0 i;
      nodes = list_eq same_node node_eq r.nodes s.nodes c.1 i;
    }

pub row_self : (r : Row) → same_row r r ≡ true
row_self r =
    and_from (r.mtime == r.mtime) (same_list same_name r.owners r.owners && same_list same_node r.nodes r.nodes) (eq-eqb r.mtime r.mtime refl)
    (and_from (same_list same_name r.owners r.owners) (same_list same_node r.nodes r.nodes) (list_self same_name name_self r.owners) (list_self same_node node_self r.nodes))

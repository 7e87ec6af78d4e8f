-- Two nodes are tested field by field, and each test says true exactly where the two fields are equal: so one that says
-- true tells that they are one node.
use Rattle.std.proofs.Common.{◌≡◌, ℕ, ◌==◌, ◌&&◌, Bool, true, false, List, [], ◌∷◌, refl, sym, eq-eqb, eqb-true, true≢false}
use Rattle.std.proofs.lemmas.Bool.{and_parts, and_from}
use Rattle.rights_books.specs.Sameness.{same_entry, kind_number}
use Rattle.rights_books.proofs.Sameness.{entry_eq, entry_self, kind_eq}
use Rattle.nodes.specs.Change.{TreeNode}

abbrev pub same_numbers : List ℕ → List ℕ → Bool
same_numbers [] [] = true
same_numbers (x ∷ xs) (y ∷ ys) = (x == y) && same_numbers xs ys
same_numbers xs ys = false

abbrev pub same_bit : Bool → Bool → Bool
same_bit true true = true
same_bit false false = true
same_bit a b = false

no : {A : Type 0} → false ≡ true → A
no e = absurd (true≢false (sym e))

numbers_eq : (xs ys : List ℕ) → same_numbers xs ys ≡ true → xs ≡ ys
numbers_eq [] [] e = refl
numbers_eq [] (y ∷ ys) e = no e
numbers_eq (x ∷ xs) [] e = no e
numbers_eq (x ∷ xs) (y ∷ ys) e =
    let b = and_parts (x == y) (same_numbers xs ys) e in
    let t = numbers_eq xs ys b.1 in λ i. eqb-true x y b.0 i ∷ t i

numbers_self : (xs : List ℕ) → same_numbers xs xs ≡ true
numbers_self [] = refl
numbers_self (x ∷ xs) = and_from (x == x) (same_numbers xs xs) (eq-eqb x x refl) (numbers_self xs)

bit_eq : (a b : Bool) → same_bit a b ≡ true → a ≡ b
bit_eq true true e = refl
bit_eq true false e = no e
bit_eq false true e = no e
bit_eq false false e = refl

bit_self : (a : Bool) → same_bit a a ≡ true
bit_self true = refl
bit_self false = refl

abbrev same_fields : TreeNode → TreeNode → Bool
same_fields m n =
    (kind_number m.kind == kind_number n.kind) && ((m.length == n.length)
    && (same_numbers m.addresses n.addresses && (same_numbers m.children n.children && same_bit m.dirty n.dirty)))

abbrev pub same_node : TreeNode → TreeNode → Bool
same_node m n = same_entry m.token n.token && ((m.class == n.class) && same_fields m n)

pub node_eq : (m n : TreeNode) → same_node m n ≡ true → m ≡ n
node_eq m n t =
    let a = and_parts (same_entry m.token n.token) ((m.class == n.class) && same_fields m n) t in
    let b = and_parts (m.class == n.class) (same_fields m n) a.1 in
    let c = and_parts (kind_number m.kind == kind_number n.kind) ((m.length == n.length)
    && (same_numbers m.addresses n.addresses && (same_numbers m.children n.children && same_bit m.dirty n.dirty))) b.1 in
    let d = and_parts (m.length == n.length) (same_numbers m.addresses n.addresses && (same_numbers m.children n.children && same_bit m.dirty n.dirty)) c.1 in
    let e = and_parts (same_numbers m.addresses n.addresses) (same_numbers m.children n.children && same_bit m.dirty n.dirty) d.1 in
    let f = and_parts (same_numbers m.children n.children) (same_bit m.dirty n.dirty) e.1 in
    λ i. record {
      token = entry_eq m.token n.token a.0 i;
      class = eqb-true m.class n.class b.0 i;
      kind = kind_eq m.kind n.kind c.0 i;
      length = eqb-true m.length n.length d.0 i;
      addresses = numbers_eq m.addresses n.addresses e.0 i;
      children = numbers_eq m.children n.children f.0 i;
      dirty = bit_eq m.dirty n.dirty f.1 i;
    }

fields_self : (n : TreeNode) → same_fields n n ≡ true
fields_self n =
    and_from (kind_number n.kind == kind_number n.kind) _ (eq-eqb (kind_number n.kind) (kind_number n.kind) refl)
    (and_from (n.length == n.length) _ (eq-eqb n.length n.length refl)
    (and_from (same_numbers n.addresses n.addresses) _ (numbers_self n.addresses)
    (and_from (same_numbers n.children n.children) (same_bit n.dirty n.dirty) (numbers_self n.children) (bit_self n.dirty))))

pub node_self : (n : TreeNode) → same_node n n ≡ true
node_self n =
    and_from (same_entry n.token n.token) ((n.class == n.class) && same_fields n n) (entry_self n.token)
    (and_from (n.class == n.class) (same_fields n n) (eq-eqb n.class n.class refl) (fields_self n))

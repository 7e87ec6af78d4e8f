-- Two items are tested field by field, and each test says true exactly where the fields are equal: so do the tests of
-- entries and contents, and of lists of them.
use Rattle.std.proofs.Common.{◌≡◌, ℕ, ◌==◌, ◌&&◌, Bool, true, false, List, [], ◌∷◌, refl, sym, eq-eqb, eqb-true, true≢false}
use Rattle.std.proofs.lemmas.Bool.{and_parts, and_from}
use Rattle.rights_books.specs.declared.claim.TakenNumber.{TakenNumber}
use Rattle.geometry.specs.declared.kind.Kind.{Kind}
use Rattle.geometry.specs.declared.kind.Kind.TheVariants.{File, Dir, Media}
use Rattle.rights_books.specs.declared.claim.FileContent.{FileContent}
use Rattle.rights_books.specs.Sameness.{same_entry, kind_number, same_list, same_block, same_content}

no : {A : Type 0} → false ≡ true → A
no e = absurd (true≢false (sym e))

list_eq : {A : Type 0} (same : A → A → Bool) → ((x y : A) → same x y ≡ true → x ≡ y) → (xs ys : List A) → same_list same xs ys ≡ true → xs ≡ ys
list_eq same sound [] [] e = refl
list_eq same sound [] (y ∷ ys) e = no e
list_eq same sound (x ∷ xs) [] e = no e
list_eq same sound (x ∷ xs) (y ∷ ys) e =
    let b = and_parts (same x y) (same_list same xs ys) e in
    let t = list_eq same sound xs ys b.1 in λ i. sound x y b.0 i ∷ t i

list_self : {A : Type 0} (same : A → A → Bool) → ((x : A) → same x x ≡ true) → (xs : List A) → same_list same xs xs ≡ true
list_self same whole [] = refl
list_self same whole (x ∷ xs) = and_from (same x x) (same_list same xs xs) (whole x) (list_self same whole xs)

pub entry_eq : (d e : TakenNumber) → same_entry d e ≡ true → d ≡ e
entry_eq d e t =
    let bytes = same_list (λ x y. x == y) d.bytes e.bytes in
    let b = and_parts (d.number == e.number) ((d.inode == e.inode) && ((d.address == e.address) && bytes)) t in
    let c = and_parts (d.inode == e.inode) ((d.address == e.address) && bytes) b.1 in
    let f = and_parts (d.address == e.address) bytes c.1 in
    λ i. record {
      number = eqb-true d.number e.number b.0 i;
      inode = eqb-true d.inode e.inode c.0 i;
      address = eqb-true d.address e.address f.0 i;
      bytes = list_eq (λ x y. x == y) eqb-true d.bytes e.bytes f.1 i;
    }

pub entry_self : (e : TakenNumber) → same_entry e e ≡ true
entry_self e =
    let bytes = same_list (λ x y. x == y) e.bytes e.bytes in
    and_from (e.number == e.number) ((e.inode == e.inode) && ((e.address == e.address) && bytes)) (eq-eqb e.number e.number refl)
    (and_from (e.inode == e.inode) ((e.address == e.address) && bytes) (eq-eqb e.inode e.inode refl)
    (and_from (e.address == e.address) bytes (eq-eqb e.address e.address refl) (list_self (λ x y. x == y) (λ x. eq-eqb x x refl) e.bytes)))

-- kinds of one number are one
pub kind_eq : (k l : Kind) → (kind_number k == kind_number l) ≡ true → k ≡ l
kind_eq File File e = refl
kind_eq File Dir e = no e
kind_eq File Media e = no e
kind_eq Dir File e = no e
kind_eq Dir Dir e = refl
kind_eq Dir Media e = no e
kind_eq Media File e = no e
kind_eq Media Dir e = no e
kind_eq Media Media e = refl

block_eq : (a b : ℕ × List ℕ) → same_block a b ≡ true → a ≡ b
block_eq a b e =
    let c = and_parts (a.0 == b.0) (same_list (λ x y. x == y) a.1 b.1) e in
    λ i. (eqb-true a.0 b.0 c.0 i, list_eq (λ x y. x == y) eqb-true a.1 b.1 c.1 i)

block_self : (a : ℕ × List ℕ) → same_block a a ≡ true
block_self a = and_from (a.0 == a.0) (same_list (λ x y. x == y) a.1 a.1) (eq-eqb a.0 a.0 refl) (list_self (λ x y. x == y) (λ x. eq-eqb x x refl) a.1)

pub content_eq : (f g : FileContent) → same_content f g ≡ true → f ≡ g
content_eq f g e =
    let b = and_parts (kind_number f.kind == kind_number g.kind) ((f.length == g.length) && same_list same_block f.blocks g.blocks) e in
    let c = and_parts (f.length == g.length) (same_list same_block f.blocks g.blocks) b.1 in
    λ i. record { kind = kind_eq f.kind g.kind b.0 i; length = eqb-true f.length g.length c.0 i; blocks = list_eq same_block block_eq f.blocks g.blocks c.1 i }

pub content_self : (f : FileContent) → same_content f f ≡ true
content_self f =
    and_from (kind_number f.kind == kind_number f.kind) ((f.length == f.length) && same_list same_block f.blocks f.blocks) (eq-eqb (kind_number f.kind) (kind_number f.kind) refl)
    (and_from (f.length == f.length) (same_list same_block f.blocks f.blocks) (eq-eqb f.length f.length refl) (list_self same_block block_self f.blocks))

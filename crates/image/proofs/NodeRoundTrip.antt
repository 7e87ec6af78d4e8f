-- Each part of a node's block stands at a fixed place and has a fixed length, and a number is read back from its bytes:
-- so each field is read as it was spelled.
use Rattle.std.proofs.Common.{◌≡◌, refl, sym, ◌∙◌, ap, subst, ℕ, zero, suc, ◌+◌, ◌-◌, ◌*◌, ◌^◌, ◌<◌, inl, inr, true, List, [], ◌∷◌, ◌++◌, length, get_or, replicate, length-append, append_assoc, arith}
use Rattle.std.proofs.lemmas.List.{length-replicate}
use Rattle.std.specs.Prelude.{All}
use Rattle.std.proofs.lemmas.Bool.{eq-eqb, lt-ltb}
use Rattle.byteorder.specs.Numbers.{length-bytes_low_first, little_number-reads_back}
use Rattle.geometry.specs.declared.shape.Shape.{Shape}
use Rattle.image.proofs.Shapes.{IsShape, is_shape}
use Rattle.geometry.specs.declared.kind.Kind.{Kind}
use Rattle.geometry.specs.declared.kind.Kind.TheVariants.{File, Dir, Media}
use Rattle.geometry.specs.Path.{node_entries, inode_entries}
use Rattle.image.specs.Node.{Node, numbers, head_bytes, node_bytes, kind_code, HasEntries, IsNode}
use Rattle.image.specs.Reading.{number_at, numbers_at, kind_of, node_fields, same_bytes, is_spelled, read_node}
use Rattle.image.proofs.RoundTrip.{numbers_there, length-numbers}
use Rattle.geometry.specs.Shape.{block_bytes, inode_head}

-- what stands before the tail
front : Shape → Node → List ℕ
front shape n = head_bytes shape n n.class ++ numbers n.addresses ++ numbers n.children

head_length : (shape : Shape) (n : Node) → IsShape shape → length (head_bytes shape n zero) ≡ inode_head shape
head_length shape n is =
    let four = length-bytes_low_first 0 4 n.length in
    let h = is.head in
    simp length-replicate (omega arith)

front_length_of : (shape : Shape) (n : Node) (class : ℕ) → IsShape shape → class < 3 → HasEntries shape n class
    → length (head_bytes shape n class ++ numbers n.addresses ++ numbers n.children) ≡ block_bytes shape - 24
front_length_of shape n zero is low has =
    let a = length-numbers n.addresses in let c = length-numbers n.children in let h = head_length shape n is in let i = is.inode in
    let x = has.0 in let y = has.1 in
    simp (length-append) (omega arith)
front_length_of shape n (suc zero) is low has =
    let a = length-numbers n.addresses in let i = is.node in let x = has.0 in
    rw (has.1) (simp (length-append) (omega arith))
front_length_of shape n (suc (suc (suc class))) is low has = absurd (omega arith)
front_length_of shape n (suc (suc zero)) is low has =
    let c = length-numbers n.children in let i = is.node in let y = has.1 in
    rw (has.0) (simp (length-append) (omega arith))

front_length : (shape : Shape) (n : Node) → IsShape shape → IsNode shape n → length (front shape n) ≡ block_bytes shape - 24
unfolding front
front_length shape n is node = front_length_of shape n n.class is node.class node.entries

-- the tail's numbers, where they stand
tail_there : (shape : Shape) (n : Node) → IsShape shape → IsNode shape n
    → numbers_at (node_bytes shape n) (block_bytes shape - 24) 3 ≡ n.nid ∷ n.inode ∷ n.class ∷ []
unfolding front
tail_there shape n is node =
    let place = front_length shape n is node in
    let small = node.nid.1 in let low = node.inode.1 in let kind = node.class in
    ap (λ p. numbers_at (node_bytes shape n) p 3) (sym place)
    ∙ ap (λ t. numbers_at t (length (front shape n)) 3) (append_assoc (front shape n) (numbers (n.nid ∷ n.inode ∷ n.class ∷ [])) (replicate 12 0))
    ∙ numbers_there (front shape n) (n.nid ∷ n.inode ∷ n.class ∷ []) (replicate 12 0) (three n.nid n.inode n.class small low (omega arith))
  where
    three : (a b c : ℕ) → a < 2 ^ 32 → b < 2 ^ 32 → c < 2 ^ 32 → All (λ x. x < 2 ^ 32) (a ∷ b ∷ c ∷ [])
    three a b c p q r zero d below = p
    three a b c p q r (suc zero) d below = q
    three a b c p q r (suc (suc zero)) d below = r
    three a b c p q r (suc (suc (suc k))) d below = absurd (omega arith)

first_of : (bytes : List ℕ) (p a b c : ℕ) → numbers_at bytes p 3 ≡ a ∷ b ∷ c ∷ []
    → (number_at bytes p ≡ a) × (number_at bytes (p + 4) ≡ b) × (number_at bytes (p + 4 + 4) ≡ c)
first_of bytes p a b c e = (cc, cc, cc)

-- the numbers of the tail
pub tail_numbers : (shape : Shape) (n : Node) → IsShape shape → IsNode shape n
    → (number_at (node_bytes shape n) (block_bytes shape - 24) ≡ n.nid) × (number_at (node_bytes shape n) (block_bytes shape - 20) ≡ n.inode)
    × (number_at (node_bytes shape n) (block_bytes shape - 16) ≡ n.class)
tail_numbers shape n is node =
    let t = first_of (node_bytes shape n) (block_bytes shape - 24) n.nid n.inode n.class (tail_there shape n is node) in
    let size = is.node in
    let e : block_bytes shape - 20 ≡ block_bytes shape - 24 + 4 = omega arith in
    let f : block_bytes shape - 16 ≡ block_bytes shape - 24 + 4 + 4 = omega arith in
    (t.0, ap (number_at (node_bytes shape n)) e ∙ t.1, ap (number_at (node_bytes shape n)) f ∙ t.2)

right : (h a c t z : List ℕ) → h ++ a ++ c ++ t ++ z ≡ h ++ (a ++ (c ++ (t ++ z)))
right h a c t z = simp append_assoc

middle : (h a c t z : List ℕ) → h ++ a ++ c ++ t ++ z ≡ (h ++ a) ++ (c ++ (t ++ z))
middle h a c t z = simp append_assoc

-- addresses and children, where they stand
addresses_there : (shape : Shape) (n : Node) → IsNode shape n
    → numbers_at (node_bytes shape n) (length (head_bytes shape n n.class)) (length n.addresses) ≡ n.addresses
addresses_there shape n node =
    ap (λ b. numbers_at b (length (head_bytes shape n n.class)) (length n.addresses))
    (right (head_bytes shape n n.class) (numbers n.addresses) (numbers n.children) (numbers (n.nid ∷ n.inode ∷ n.class ∷ [])) (replicate 12 0))
    ∙ numbers_there (head_bytes shape n n.class) n.addresses _ node.addresses

children_there : (shape : Shape) (n : Node) → IsNode shape n
    → numbers_at (node_bytes shape n) (length (head_bytes shape n n.class ++ numbers n.addresses)) (length n.children) ≡ n.children
children_there shape n node =
    ap (λ b. numbers_at b (length (head_bytes shape n n.class ++ numbers n.addresses)) (length n.children))
    (middle (head_bytes shape n n.class) (numbers n.addresses) (numbers n.children) (numbers (n.nid ∷ n.inode ∷ n.class ∷ [])) (replicate 12 0))
    ∙ numbers_there (head_bytes shape n n.class ++ numbers n.addresses) n.children _ node.children

same_node : (n m : Node) → m.nid ≡ n.nid → m.inode ≡ n.inode → m.class ≡ n.class → m.length ≡ n.length → m.kind ≡ n.kind
    → m.addresses ≡ n.addresses → m.children ≡ n.children → m ≡ n
same_node n m a b c d e f g = rw (a, b, c, d, e, f, g) refl

-- a direct node is read back
direct_back : (shape : Shape) (n : Node) → IsShape shape → IsNode shape n → n.class ≡ 1 → node_fields shape (node_bytes shape n) 1 ≡ n
direct_back shape n is node class =
    let tail = tail_numbers shape n is node in
    let has : HasEntries shape n 1 = subst (HasEntries shape n) class node.entries in
    let plain : (n.length ≡ 0) × (n.kind ≡ File) = elim node.plain [ inl e ↦ absurd (omega arith) | inr p ↦ p ] in
    let none : length (head_bytes shape n n.class) ≡ 0 = ap (λ k. length (head_bytes shape n k)) class in
    let addresses : numbers_at (node_bytes shape n) 0 (node_entries shape) ≡ n.addresses
    = ap (λ p. numbers_at (node_bytes shape n) p (node_entries shape)) (sym none)
    ∙ ap (λ k. numbers_at (node_bytes shape n) (length (head_bytes shape n n.class)) k) (sym has.0) ∙ addresses_there shape n node in
    same_node n _ tail.0 tail.1 (sym class) (sym plain.0) (sym plain.1) addresses (sym has.1)

indirect_back : (shape : Shape) (n : Node) → IsShape shape → IsNode shape n → n.class ≡ 2 → node_fields shape (node_bytes shape n) 2 ≡ n
indirect_back shape n is node class =
    let tail = tail_numbers shape n is node in
    let has : HasEntries shape n 2 = subst (HasEntries shape n) class node.entries in
    let plain : (n.length ≡ 0) × (n.kind ≡ File) = elim node.plain [ inl e ↦ absurd (omega arith) | inr p ↦ p ] in
    let none : length (head_bytes shape n n.class ++ numbers n.addresses) ≡ 0
    = ap (λ k. length (head_bytes shape n k ++ numbers n.addresses)) class ∙ ap (λ xs. length (numbers xs)) has.0 in
    let children : numbers_at (node_bytes shape n) 0 (node_entries shape) ≡ n.children
    = ap (λ p. numbers_at (node_bytes shape n) p (node_entries shape)) (sym none)
    ∙ ap (λ k. numbers_at (node_bytes shape n) (length (head_bytes shape n n.class ++ numbers n.addresses)) k) (sym has.1) ∙ children_there shape n node in
    same_node n _ tail.0 tail.1 (sym class) (sym plain.0) (sym plain.1) (sym has.0) children

with_class : Shape → Node → ℕ → List ℕ
with_class shape n class =
    head_bytes shape n class ++ numbers n.addresses ++ numbers n.children ++ numbers (n.nid ∷ n.inode ∷ n.class ∷ []) ++ replicate 12 0

kind_back : (kind : Kind) → kind_of (kind_code kind) ≡ kind
kind_back File = refl
kind_back Dir = refl
kind_back Media = refl

-- the head of an inode
head_there : (shape : Shape) (n : Node) → n.length < 2 ^ 32
    → (number_at (with_class shape n 0) 0 ≡ n.length) × (get_or (with_class shape n 0) 4 0 ≡ kind_code n.kind)
unfolding with_class
head_there shape n small = (little_number-reads_back 4 n.length (kind_code n.kind ∷ replicate (inode_head shape - 5) 0 ++ numbers n.addresses ++ numbers n.children ++ numbers (n.nid ∷ n.inode ∷ n.class ∷ []) ++ replicate 12 0) small, refl)

inode_back : (shape : Shape) (n : Node) → IsShape shape → IsNode shape n → n.class ≡ 0 → node_fields shape (node_bytes shape n) 0 ≡ n
unfolding with_class
inode_back shape n is node class =
    let tail = tail_numbers shape n is node in
    let has : HasEntries shape n 0 = subst (HasEntries shape n) class node.entries in
    let as_inode : node_bytes shape n ≡ with_class shape n 0 = ap (with_class shape n) class in
    let head = head_there shape n node.length in
    let start : length (head_bytes shape n n.class) ≡ inode_head shape = ap (λ k. length (head_bytes shape n k)) class ∙ head_length shape n is in
    let middle_start : length (head_bytes shape n n.class ++ numbers n.addresses) ≡ inode_head shape + 4 * inode_entries shape
    = length-append (head_bytes shape n n.class) (numbers n.addresses)
    ∙ (let a = length-numbers n.addresses in let b = has.0 in omega arith) in
    let addresses : numbers_at (node_bytes shape n) (inode_head shape) (inode_entries shape) ≡ n.addresses
    = ap (λ p. numbers_at (node_bytes shape n) p (inode_entries shape)) (sym start)
    ∙ ap (λ k. numbers_at (node_bytes shape n) (length (head_bytes shape n n.class)) k) (sym has.0) ∙ addresses_there shape n node in
    let children : numbers_at (node_bytes shape n) (inode_head shape + 4 * inode_entries shape) 5 ≡ n.children
    = ap (λ p. numbers_at (node_bytes shape n) p 5) (sym middle_start)
    ∙ ap (λ k. numbers_at (node_bytes shape n) (length (head_bytes shape n n.class ++ numbers n.addresses)) k) (sym has.1) ∙ children_there shape n node in
    same_node n _ tail.0 tail.1 (sym class) (ap (λ b. number_at b 0) as_inode ∙ head.0) (ap (λ b. kind_of (get_or b 4 0)) as_inode ∙ ap kind_of head.1 ∙ kind_back n.kind) addresses children

fields_back_of : (shape : Shape) (n : Node) (class : ℕ) → IsShape shape → IsNode shape n → n.class ≡ class → class < 3 → node_fields shape (node_bytes shape n) class ≡ n
fields_back_of shape n zero is node class below = inode_back shape n is node class
fields_back_of shape n (suc zero) is node class below = direct_back shape n is node class
fields_back_of shape n (suc (suc zero)) is node class below = indirect_back shape n is node class
fields_back_of shape n (suc (suc (suc k))) is node class below = absurd (omega arith)

same_bytes_refl : (xs : List ℕ) → same_bytes xs xs ≡ true
same_bytes_refl [] = refl
same_bytes_refl (x ∷ xs) = rw (eq-eqb x x refl, same_bytes_refl xs) refl

-- each node is read back from its spelling
pub read_node-spelled : (shape : Shape) (n : Node) → IsNode shape n → read_node shape (node_bytes shape n) ≡ n
read_node-spelled shape n node =
    let is = is_shape shape in
    let class = (tail_numbers shape n is node).2 in
    let back : node_fields shape (node_bytes shape n) (number_at (node_bytes shape n) (block_bytes shape - 16)) ≡ n
    = ap (node_fields shape (node_bytes shape n)) class ∙ fields_back_of shape n n.class is node refl node.class in
    let spelled : is_spelled shape (node_bytes shape n) n ≡ true
    = rw (same_bytes_refl (node_bytes shape n), lt-ltb n.class 3 node.class, lt-ltb 0 n.nid node.nid.0, lt-ltb 0 n.inode node.inode.0) refl in
    rw (back, spelled) refl

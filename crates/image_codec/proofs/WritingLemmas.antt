-- Each write fills the next range and leaves what stands before it: so after the last one the slice is the parts, one
-- behind the other.
use Rattle.std.proofs.Common.{◌≡◌, refl, sym, ◌∙◌, ap, ℕ, ◌-◌, ◌≤◌, List, [], ◌∷◌, ◌++◌, length, take, drop, set, length-append, arith, drop-cons}
use Rattle.std.proofs.lemmas.List.{append-nil, drop_all, length-drop, length-take-le, take_at, take_rest}
use Rattle.std.proofs.lemmas.Slice.{take-put_mid}
use Rattle.byteorder.specs.Endian.{little_bytes}
use Rattle.geometry.specs.declared.class.Class.{Class}
use Rattle.geometry.specs.declared.class.Class.TheVariants.{Data, Inode, Direct, Indirect}
use Rattle.geometry.specs.declared.shape.Shape.{Shape}
use Rattle.geometry.specs.Shape.{block_bytes, inode_head}
use Rattle.image.specs.Node.{Node, head_bytes}
use Rattle.geometry.specs.Class.{class_code}
use Rattle.image.proofs.Shapes.{is_shape}
use Rattle.image_codec.specs.Parts.{head_of}
use Rattle.image_codec.proofs.SpellingLemmas.{length-head_of}
use borrow.Rule.Slice.PartMut.{put_mid}

-- the rest of a slice
pub length-rest : (n : ℕ) (xs : List ℕ) → length (take (length xs - n) (drop n xs)) ≡ length xs - n
length-rest n xs = ap length (take_rest xs n) ∙ length-drop n xs

-- after a write of the rest
pub put_mid-last : (a : ℕ) (xs ys done : List ℕ) → take a xs ≡ done → put_mid a (length xs - a) xs ys ≡ done ++ ys
put_mid-last a xs ys done before =
    let none : drop (length xs - a) (drop a xs) ≡ [] = drop_all (length xs - a) (drop a xs) (omega (arith, length-drop a xs)) in
    ap (λ (f : List ℕ). f ++ (ys ++ drop (length xs - a) (drop a xs))) before
    ∙ ap (λ (r : List ℕ). done ++ (ys ++ r)) none ∙ ap (λ (r : List ℕ). done ++ r) (append-nil ys)

-- after a write of the next part
put_mid-next : (a e : ℕ) (xs ys done : List ℕ) → take a xs ≡ done → a ≤ e → a ≤ length xs → length ys ≡ e - a
    → take e (put_mid a (e - a) xs ys) ≡ done ++ ys
put_mid-next a e xs ys done before low within long =
    take-put_mid a (e - a) xs ys e (omega arith) within ∙ ap (λ (f : List ℕ). f ++ ys) before

length-put_mid : (a e : ℕ) (xs ys : List ℕ) → a ≤ e → e ≤ length xs → length ys ≡ e - a → length (put_mid a (e - a) xs ys) ≡ length xs
length-put_mid a e xs ys low within long =
    let front = length-take-le a xs (omega arith) in
    let first = length-append (take a xs) (ys ++ drop (e - a) (drop a xs)) in
    let second = length-append ys (drop (e - a) (drop a xs)) in
    let third = length-drop (e - a) (drop a xs) in
    let fourth = length-drop a xs in
    omega arith

pub written_parts : (head children tail : ℕ) (out h xs ys zs : List ℕ) → take head out ≡ h
    → head ≤ children → children ≤ tail → tail ≤ length out → length xs ≡ children - head → length ys ≡ tail - children
    → put_mid tail (length (put_mid children (tail - children) (put_mid head (children - head) out xs) ys) - tail)
    (put_mid children (tail - children) (put_mid head (children - head) out xs) ys) zs ≡ h ++ xs ++ ys ++ zs
written_parts head children tail out h xs ys zs before p q r s t =
    let first = put_mid head (children - head) out xs in
    let long : length first ≡ length out = length-put_mid head children out xs p (omega arith) s in
    put_mid-last tail (put_mid children (tail - children) first ys) zs (h ++ xs ++ ys)
    (put_mid-next children tail first ys (h ++ xs) (put_mid-next head children out xs h before p (omega arith) s) q (omega arith) t)

pub written_head : (out buf : List ℕ) (size code : ℕ) → 5 ≤ length out → buf ≡ little_bytes 4 size ++ drop 4 out
    → take 5 (set buf 4 code) ≡ little_bytes 4 size ++ code ∷ []
written_head out buf size code long is =
    ap (λ (b : List ℕ). take 5 (set b 4 code)) (is ∙ ap (λ (r : List ℕ). little_bytes 4 size ++ r) (drop-cons out 4 0 (omega arith)))

-- what stands before the addresses of an inode, once it is written
pub inode_start : (shape : Shape) (n : Node) (class : Class) (head : ℕ) (out written : List ℕ) → class ≡ Inode → head ≡ inode_head shape
    → length out ≡ block_bytes shape → written ≡ head_of (length (take head out)) n.length n.kind
    → take head (written ++ drop head out) ≡ head_bytes shape n (class_code class)
unfolding head_of
inode_start shape n class head out written is size long same =
    let shaped = is_shape shape in let large = shaped.inode in
    let whole : length (take head out) ≡ inode_head shape = length-take-le head out (omega arith) ∙ size in
    let e : written ≡ head_of (inode_head shape) n.length n.kind = same ∙ ap (λ (k : ℕ). head_of k n.length n.kind) whole in
    take_at written (drop head out) head (ap length e ∙ length-head_of (inode_head shape) n.length n.kind shaped.head ∙ sym size)
    ∙ e ∙ ap (λ (c : Class). head_bytes shape n (class_code c)) (sym is)

-- and of another node
pub other_start : (shape : Shape) (n : Node) (class : Class) → (class ≡ Inode → ⊥) → head_bytes shape n (class_code class) ≡ []
other_start shape n Inode other = absurd (other refl)
other_start shape n Direct other = refl
other_start shape n Indirect other = refl
other_start shape n Data other = refl

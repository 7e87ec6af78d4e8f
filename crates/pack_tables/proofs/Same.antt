-- Spelled numbers are read back, so a superblock tells one geometry; one body counts, and an image is what is read from
-- it and the blocks: so two images of the same bytes are the same.
use Rattle.std.proofs.Common.{◌≡◌, refl, sym, subst, ◌∙◌, ap, ℕ, List, Some}
use Rattle.std.proofs.Props.{props}
use Rattle.geometry.specs.declared.packing.Packing.{Packing}
use Rattle.geometry.specs.declared.packing.Packing.TheVariants.{Slots, Pages}
use Rattle.geometry.specs.declared.shape.Shape.{Shape}
use Rattle.geometry.specs.declared.shape.Shape.TheVariants.{Tiny, Kernel}
use Rattle.geometry.specs.declared.geometry.Geometry.{Geometry}
use Rattle.geometry.specs.Limits.{IsWithinLimits}
use Rattle.geometry.specs.File.{Block}
use Rattle.image.specs.Files.{files}
use Rattle.image.specs.Image.{Image}
use Rattle.image.specs.Pack.{packing_code, shape_code}
use Rattle.image.specs.Reading.{image_in}
use Rattle.pack_tables.specs.Grammar.{HasSuper}
use Rattle.pack_tables.proofs.SuperLemmas.{front_numbers}
use Rattle.pack_tables.proofs.RoundTrip.{spelled_back}
use Rattle.pack_tables.specs.OneImage.{HoldVolume, OneImageLaw}

one_packing : (a b : Packing) → packing_code a ≡ packing_code b → a ≡ b
one_packing Slots Slots is = refl
one_packing Slots Pages is = cc
one_packing Pages Slots is = cc
one_packing Pages Pages is = refl

one_shape : (a b : Shape) → shape_code a ≡ shape_code b → a ≡ b
one_shape Tiny Tiny is = refl
one_shape Tiny Kernel is = cc
one_shape Kernel Tiny is = cc
one_shape Kernel Kernel is = refl

-- the limits of a volume's numbers have one proof at most
limits_one : (a b c d : ℕ) → IsProp (IsWithinLimits a b c d)
limits_one a b c d = Prim.hlevel props

abbrev of : Packing → Shape → (a b c d : ℕ) → IsWithinLimits a b c d → Geometry
of packing shape a b c d limits = record { shape = shape; segments = a; per_section = b; files = c; nodes = d; packing = packing; limits = limits }

same_of : (p p' : Packing) (s s' : Shape) (a a' b b' c c' d d' : ℕ) → p ≡ p' → s ≡ s' → a ≡ a' → b ≡ b' → c ≡ c' → d ≡ d'
    → (limits : IsWithinLimits a b c d) (limits' : IsWithinLimits a' b' c' d') → of p s a b c d limits ≡ of p' s' a' b' c' d' limits'
same_of p p' s s' a a' b b' c c' d d' packing shape first second third fourth limits =
    subst (λ q. (l : IsWithinLimits a' b' c' d') → of p s a b c d limits ≡ of q s' a' b' c' d' l) packing (
    subst (λ t. (l : IsWithinLimits a' b' c' d') → of p s a b c d limits ≡ of p t a' b' c' d' l) shape (
    subst (λ x. (l : IsWithinLimits x b' c' d') → of p s a b c d limits ≡ of p s x b' c' d' l) first (
    subst (λ x. (l : IsWithinLimits a x c' d') → of p s a b c d limits ≡ of p s a x c' d' l) second (
    subst (λ x. (l : IsWithinLimits a b x d') → of p s a b c d limits ≡ of p s a b x d' l) third (
    subst (λ x. (l : IsWithinLimits a b c x) → of p s a b c d limits ≡ of p s a b c x l) fourth (
    λ l. ap (of p s a b c d) (limits_one a b c d limits l)))))))

pub one_geometry : (g h : Geometry) (area : List ℕ) → HasSuper g area → HasSuper h area → g ≡ h
one_geometry g h area is is' =
    let there = front_numbers g area is in
    let here = front_numbers h area is' in
    same_of g.packing h.packing g.shape h.shape g.segments h.segments g.per_section h.per_section g.files h.files g.nodes h.nodes
    (one_packing g.packing h.packing (sym there.packing ∙ here.packing)) (one_shape g.shape h.shape (sym there.shape ∙ here.shape)) (sym there.segments ∙ here.segments)
    (sym there.per_section ∙ here.per_section) (sym there.files ∙ here.files) (sym there.nodes ∙ here.nodes) g.limits h.limits

some_same : {A : Type 0} (x y : A) → Some x ≡ Some y → x ≡ y
some_same x y is = cc

-- an image is what a reader finds in the body that counts and in the blocks
as_read : (geometry : Geometry) (image : Image) (area : List ℕ) (bytes : ℕ → Block) (held : HoldVolume geometry image area bytes)
    → image ≡ image_in geometry held.tables.body bytes
as_read geometry image area bytes held =
    ap (λ nodes. record image { nodes = nodes }) held.nodes ∙ sym (spelled_back geometry held.tables.body image bytes held.tables.spelled)

pub one_image : (geometry : Geometry) (image other : Image) (area : List ℕ) (bytes : ℕ → Block) → HoldVolume geometry image area bytes → HoldVolume geometry other area bytes → image ≡ other
one_image geometry image other area bytes held held' =
    let body = some_same held.tables.body held'.tables.body (sym held.tables.picked ∙ held'.tables.picked) in
    as_read geometry image area bytes held ∙ ap (λ b. image_in geometry b bytes) body ∙ sym (as_read geometry other area bytes held')

pub law_holds : OneImageLaw
law_holds geometry other image image' area bytes held held' =
    let numbers = one_geometry geometry other area held.front held'.front in
    let same : image ≡ image' = one_image geometry image image' area bytes held (subst (λ g. HoldVolume g image' area bytes) (sym numbers) held') in
    (numbers, same, ap (λ g. files g image bytes) numbers ∙ ap (λ i. files other i bytes) same)

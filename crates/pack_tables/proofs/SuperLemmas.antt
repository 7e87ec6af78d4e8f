-- The numbers of a superblock stand in its first 32 bytes, each below its width: so they are read back from them, and
-- bytes have the numbers of one superblock at most.
use Rattle.std.proofs.Common.{◌≡◌, refl, sym, ◌∙◌, ap, ℕ, zero, suc, ◌+◌, ◌^◌, ◌<◌, ◌≤◌, List, [], ◌∷◌, ◌++◌, length, take, drop, arith, codes, replicate, append_assoc}
use Rattle.std.specs.Prelude.{All}
use Rattle.std.proofs.lemmas.List.{get_or-drop, length-take-le, take-take}
use Rattle.geometry.specs.Limits.{IsWithinLimits}
use Rattle.byteorder.specs.Endian.{little_from}
use Rattle.byteorder.specs.Numbers.{little_from-take}
use Rattle.geometry.specs.declared.shape.Shape.{Shape}
use Rattle.geometry.specs.declared.shape.Shape.TheVariants.{Tiny, Kernel}
use Rattle.geometry.specs.declared.packing.Packing.{Packing}
use Rattle.geometry.specs.declared.packing.Packing.TheVariants.{Slots, Pages}
use Rattle.geometry.specs.declared.geometry.Geometry.{Geometry}
use Rattle.image.specs.Node.{numbers}
use Rattle.image.specs.Pack.{superblock, packing_code, shape_code}
use Rattle.image.specs.Reading.{number_at, numbers_at}
use Rattle.image.proofs.RoundTrip.{numbers_there}
use Rattle.pack_tables.specs.Fields.{HasNumbers}
use Rattle.pack_tables.specs.Grammar.{HasSuper}

pub little_from-drop : (i n k : ℕ) (bytes : List ℕ) → little_from i n (drop k bytes) ≡ little_from (k + i) n bytes
little_from-drop i zero k bytes = refl
little_from-drop i (suc n) k bytes =
    let byte = get_or-drop k bytes i 0 in
    let rest : little_from (suc i) n (drop k bytes) ≡ little_from (suc (k + i)) n bytes
    = little_from-drop (suc i) n k bytes ∙ ap (λ j. little_from j n bytes) (omega arith) in
    rw (byte, rest) refl

pub super_long : (geometry : Geometry) → length (superblock geometry) ≡ 64
super_long geometry = refl

fields : Geometry → List ℕ
fields geometry = packing_code geometry.packing ∷ shape_code geometry.shape ∷ geometry.segments ∷ geometry.per_section ∷ geometry.files ∷ geometry.nodes ∷ []

packing_small : (packing : Packing) → packing_code packing < 2 ^ 32
packing_small Slots = omega arith
packing_small Pages = omega arith

shape_small : (shape : Shape) → shape_code shape < 2 ^ 32
shape_small Tiny = omega arith
shape_small Kernel = omega arith

fields_small : (geometry : Geometry) → All (λ x. x < 2 ^ 32) (fields geometry)
unfolding fields
fields_small geometry zero d below = packing_small geometry.packing
fields_small geometry (suc zero) d below = shape_small geometry.shape
fields_small geometry (suc (suc zero)) d below = omega (arith, geometry.limits.segments_fit)
fields_small geometry (suc (suc (suc zero))) d below = omega (arith, geometry.limits.section_fits)
fields_small geometry (suc (suc (suc (suc zero)))) d below = omega (arith, geometry.limits.files_fit)
fields_small geometry (suc (suc (suc (suc (suc zero))))) d below = omega (arith, geometry.limits.nodes_fit)
fields_small geometry (suc (suc (suc (suc (suc (suc k)))))) d below = absurd (omega arith)

fields_there : (geometry : Geometry) → numbers_at (superblock geometry) 8 6 ≡ fields geometry
unfolding fields
fields_there geometry =
    ap (λ b. numbers_at b 8 6) (append_assoc (codes "F2SEG001") (numbers (fields geometry)) (replicate 32 0))
    ∙ numbers_there (codes "F2SEG001") (fields geometry) (replicate 32 0) (fields_small geometry)

six : (bytes : List ℕ) (a b c d e f : ℕ) → numbers_at bytes 8 6 ≡ a ∷ b ∷ c ∷ d ∷ e ∷ f ∷ []
    → (number_at bytes 8 ≡ a) × (number_at bytes 12 ≡ b) × (number_at bytes 16 ≡ c) × (number_at bytes 20 ≡ d) × (number_at bytes 24 ≡ e) × (number_at bytes 28 ≡ f)
six bytes a b c d e f is = (cc, cc, cc, cc, cc, cc)

pub super_numbers : (geometry : Geometry) → HasNumbers geometry (superblock geometry)
unfolding fields
super_numbers geometry =
    let all = six (superblock geometry) (packing_code geometry.packing) (shape_code geometry.shape) geometry.segments geometry.per_section geometry.files geometry.nodes (fields_there geometry) in
    record { packing = all.0; shape = all.1; segments = all.2; per_section = all.3; files = all.4; nodes = all.5 }

-- bytes have the numbers of one superblock
pub numbers_same : (g h : Geometry) (bytes : List ℕ) → HasNumbers g bytes → HasNumbers h bytes → superblock g ≡ superblock h
numbers_same g h bytes p q =
    let of : ℕ → ℕ → ℕ → ℕ → ℕ → ℕ → List ℕ = λ p a b c d e. codes "F2SEG001" ++ numbers (p ∷ a ∷ b ∷ c ∷ d ∷ e ∷ []) ++ replicate 32 0 in
    ap (λ x. of x (shape_code g.shape) g.segments g.per_section g.files g.nodes) (sym p.packing ∙ q.packing)
    ∙ ap (λ a. of (packing_code h.packing) a g.segments g.per_section g.files g.nodes) (sym p.shape ∙ q.shape)
    ∙ ap (λ b. of (packing_code h.packing) (shape_code h.shape) b g.per_section g.files g.nodes) (sym p.segments ∙ q.segments)
    ∙ ap (λ c. of (packing_code h.packing) (shape_code h.shape) h.segments c g.files g.nodes) (sym p.per_section ∙ q.per_section)
    ∙ ap (λ d. of (packing_code h.packing) (shape_code h.shape) h.segments h.per_section d g.nodes) (sym p.files ∙ q.files)
    ∙ ap (λ e. of (packing_code h.packing) (shape_code h.shape) h.segments h.per_section h.files e) (sym p.nodes ∙ q.nodes)

pub too_short : (geometry : Geometry) (bytes : List ℕ) → length bytes < 64 → ¬ HasSuper geometry bytes
too_short geometry bytes short is = omega (arith, short, is.0)

-- a number among the first 32 bytes
front_number : (bytes : List ℕ) (place : ℕ) → place + 4 ≤ 32 → number_at (take 32 bytes) place ≡ number_at bytes place
front_number bytes place le = little_from-take place 4 32 bytes le

same_number : (geometry : Geometry) (bytes : List ℕ) (place : ℕ) → HasSuper geometry bytes → place + 4 ≤ 32 → number_at bytes place ≡ number_at (superblock geometry) place
same_number geometry bytes place has le =
    sym (front_number bytes place le) ∙ ap (λ l. number_at l place) has.1 ∙ front_number (superblock geometry) place le

-- the numbers of a superblock stand in what has its front
pub front_numbers : (geometry : Geometry) (bytes : List ℕ) → HasSuper geometry bytes → HasNumbers geometry bytes
front_numbers geometry bytes has =
    let numbers = super_numbers geometry in
    record {
      packing = same_number geometry bytes 8 has (omega arith) ∙ numbers.packing;
      shape = same_number geometry bytes 12 has (omega arith) ∙ numbers.shape;
      segments = same_number geometry bytes 16 has (omega arith) ∙ numbers.segments;
      per_section = same_number geometry bytes 20 has (omega arith) ∙ numbers.per_section;
      files = same_number geometry bytes 24 has (omega arith) ∙ numbers.files;
      nodes = same_number geometry bytes 28 has (omega arith) ∙ numbers.nodes;
    }

-- the first 64 bytes have the front that all have
pub head_super : (geometry : Geometry) (bytes : List ℕ) → HasSuper geometry bytes → HasSuper geometry (take 64 bytes)
head_super geometry bytes has =
    let long = length-take-le 64 bytes has.0 in
    (omega (arith, long), take-take 32 64 bytes (omega arith) ∙ has.1)

pub not_super : (bytes : List ℕ) → ((geometry : Geometry) → ¬ HasNumbers geometry (take 64 bytes)) → (geometry : Geometry) → ¬ HasSuper geometry bytes
not_super bytes none geometry has = none geometry (front_numbers geometry (take 64 bytes) (head_super geometry bytes has))

-- numbers beyond their limits are none of a geometry
pub none_within : (head : List ℕ) (a b c d : ℕ) → a ≡ number_at head 16 → b ≡ number_at head 20 → c ≡ number_at head 24 → d ≡ number_at head 28
    → ¬ IsWithinLimits a b c d → (geometry : Geometry) → ¬ HasNumbers geometry head
none_within head a b c d p q r s beyond geometry has =
    beyond (rw (p ∙ has.segments, q ∙ has.per_section, r ∙ has.files, s ∙ has.nodes) geometry.limits)

-- what has the length and the front of an area has its superblock
pub super_stays : (geometry : Geometry) (area c : List ℕ) → HasSuper geometry area → length c ≡ length area → take 32 c ≡ take 32 area → HasSuper geometry c
super_stays geometry area c has long front = (omega (arith, has.0, long), front ∙ has.1)

pub super_of_head : (geometry : Geometry) (bytes : List ℕ) → 64 ≤ length bytes → HasSuper geometry (take 64 bytes) → HasSuper geometry bytes
super_of_head geometry bytes long has = (long, sym (take-take 32 64 bytes (omega arith)) ∙ has.1)

-- A lawful image marks a block where its bit is set, and then names its owner: so a segment has as many owners as bits,
-- and a segment that counts none has none.
use Rattle.std.proofs.Common.{◌≡◌, ℕ, suc, ◌+◌, ◌<◌, ◌==◌, Bool, true, false, List, [], ◌∷◌, length, get_or, fold, cond, if◌then◌else◌, Option, Some, None, inl, inr, refl, sym, ap, ◌∙◌, ne_eqb, arith}
use Rattle.std.specs.Prelude.{count_by}
use Rattle.geometry.specs.declared.geometry.Geometry.{Geometry}
use Rattle.geometry.specs.declared.owner.Owner.{Owner}
use Rattle.geometry.specs.declared.owner.Owner.TheVariants.{Node}
use Rattle.geometry.specs.Shape.{segment_blocks}
use Rattle.geometry.specs.Address.{address_of, segment_of, offset_of}
use Rattle.geometry.specs.Summary.{owner_in}
use Rattle.geometry.proofs.Addresses.{segment_of-address_of, offset_of-address_of}
use Rattle.image.specs.Image.{Image, no_segment, info_of, is_marked, summary_at}
use Rattle.image.specs.Walk.{names}
use Rattle.image.specs.Rules.{IsLawful}
use Rattle.image.proofs.Marking.{true_or_false}
use Rattle.sit.specs.Summaries.{is_set, count_of}
use Rattle.mount_blocks.specs.Marked.{marked_owner}
use Rattle.mount_blocks.proofs.Marked.{name_at}
use Rattle.mount_blocks.proofs.TreeOwners.{names_are_owned}
use Rattle.mount_blocks.specs.States.{HasOwners}

passed : {A : Type 0} (b : Bool) (x y : A) → b ≡ true → (if b then x else y) ≡ x
passed true x y e = refl
passed false x y e = cc

failed : {A : Type 0} (b : Bool) (x y : A) → b ≡ false → (if b then x else y) ≡ y
failed true x y e = cc
failed false x y e = refl

-- as many summaries are set as bits are
set_bits : (a : ℕ) (ss : List (Option Owner)) (bits : List Bool) → length ss ≡ length bits → ((o : ℕ) → o < length ss → is_set (get_or ss o None) ≡ get_or bits o false)
    → fold (λ a bit. a + cond bit 1 0) a bits ≡ a + count_of ss
set_bits a [] [] e each = omega arith
set_bits a [] (b ∷ bits) e each = absurd (omega arith)
set_bits a (s ∷ ss) [] e each = absurd (omega arith)
set_bits a (None ∷ ss) (b ∷ bits) e each =
    let bit : false ≡ b = each 0 (omega arith) in
    let here : ◌≡◌ {A = ℕ} 0 (cond b 1 0) = ap (λ x. cond x 1 0) bit in
    let rest : fold (λ a bit. a + cond bit 1 0) (a + cond b 1 0) bits ≡ a + cond b 1 0 + count_of ss = set_bits (a + cond b 1 0) ss bits (omega arith) (λ o low. each (suc o) (omega arith)) in
    rest ∙ omega (arith, here)
set_bits a (Some owner ∷ ss) (b ∷ bits) e each =
    let bit : true ≡ b = each 0 (omega arith) in
    let here : ◌≡◌ {A = ℕ} 1 (cond b 1 0) = ap (λ x. cond x 1 0) bit in
    let rest : fold (λ a bit. a + cond bit 1 0) (a + cond b 1 0) bits ≡ a + cond b 1 0 + count_of ss = set_bits (a + cond b 1 0) ss bits (omega arith) (λ o low. each (suc o) (omega arith)) in
    rest ∙ omega (arith, here)

module _ (geometry : Geometry) (image : Image) where
  -- whether a block of a segment is marked stands in the segment's bits
  bit_is : (s o : ℕ) → o < segment_blocks geometry.shape → is_marked geometry image (address_of geometry.shape s o) ≡ get_or (info_of image s).bits o false
  bit_is s o within =
      let shape = geometry.shape in
      let a : ℕ = address_of shape s o in
      let some : (a == 0) ≡ false = ne_eqb a 0 (λ e. absurd (omega arith)) in
      failed (a == 0) false (get_or (info_of image (segment_of shape a)).bits (offset_of shape a) false) some
      ∙ ap (λ p. get_or (info_of image p).bits (offset_of shape a) false) (segment_of-address_of shape s o within)
      ∙ ap (λ p. get_or (info_of image s).bits p false) (offset_of-address_of shape s o within)

  -- nobody owns a block that is not marked
  pub unowned : (a : ℕ) → is_marked geometry image a ≡ false → marked_owner geometry image a ≡ None
  unowned a un = failed (is_marked geometry image a) (owner_in (summary_at image a)) None un

  module _ (lawful : IsLawful geometry image) where
    -- somebody owns a block that is marked
    owned : (a : ℕ) → is_marked geometry image a ≡ true → (owner : Owner) × (marked_owner geometry image a ≡ Some owner)
    owned a marked =
        let name = name_at geometry image lawful (names_are_owned geometry image lawful) a marked in
        ((get_or (names geometry image) name.0 (record { address = a; owner = Node 0 })).owner, passed (is_marked geometry image a) (owner_in (summary_at image a)) None marked ∙ name.1.owner)

    set_is : (s o : ℕ) → o < segment_blocks geometry.shape → is_set (marked_owner geometry image (address_of geometry.shape s o)) ≡ get_or (info_of image s).bits o false
    set_is s o within =
        let a : ℕ = address_of geometry.shape s o in
        elim (true_or_false (is_marked geometry image a)) [
          | inl marked ↦ ap is_set (owned a marked).1 ∙ (sym marked ∙ bit_is s o within)
          | inr un ↦ ap is_set (unowned a un) ∙ (sym un ∙ bit_is s o within)
        ]

    -- as many blocks of a segment are owned as the image says
    pub counted : (s : ℕ) (summaries : List (Option Owner)) → s < geometry.segments → HasOwners geometry image s 0 summaries → count_of summaries ≡ (info_of image s).count
    counted s summaries low has =
        let range = lawful 1 (omega arith) (omega arith) in
        let agree = lawful 10 (omega arith) (omega arith) in
        let there : s < length image.segments = let many = range.segments in omega arith in
        let bits = (info_of image s).bits in
        let long : length bits ≡ segment_blocks geometry.shape = range.bits s no_segment there in
        let count : (info_of image s).count ≡ count_by (λ bit. bit) bits = agree.counts s no_segment there in
        let all : count_by (λ bit. bit) bits ≡ 0 + count_of summaries = set_bits 0 summaries bits (has.sized ∙ sym long)
        (λ o within. (let few = has.sized in ap is_set (has.owners o (omega arith) (omega arith)) ∙ set_is s o (omega arith))) in
        omega arith

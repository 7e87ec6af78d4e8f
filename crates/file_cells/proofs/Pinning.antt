-- Each block's ticket is lodged, so its segment may be pinned; walking the blocks in order, the segment of each is noted
-- and stays so, until those of all blocks are, and no other.
use Rattle.std.proofs.Common.{◌≡◌, ℕ, ◌+◌, ◌-◌, ◌/◌, ◌<◌, ◌≤◌, List, length, get_or, set, replicate, Bool, true, false, Some, inl, inr, sym, ap, ◌∙◌, subst, arith, lit<}
use Rattle.std.proofs.lemmas.Bool.{cases_eq, cases_lt}
use Rattle.std.proofs.lemmas.List.{get_or-set_same, get_or-set_other, get_or-replicate, get_or_past, length-replicate}
use Rattle.std.proofs.Math.Nat.{div-lt_iff_lt-mul}
use Rattle.geometry.specs.declared.geometry.Geometry.{Geometry}
use Rattle.geometry.specs.declared.owner.Mark.{Mark}
use Rattle.geometry.specs.declared.shape.Shape.{Shape}
use Rattle.geometry.specs.declared.shape.Shape.TheVariants.{Tiny, Kernel}
use Rattle.geometry.specs.Path.{largest_length}
use Rattle.geometry.specs.Mark.{same_mark}
use Rattle.geometry.specs.Shape.{segment_blocks}
use Rattle.geometry.specs.Address.{segment_of}
use Rattle.geometry.specs.Area.{block_count}
use Rattle.geometry.proofs.Addresses.{segment_blocks-positive}
use Rattle.rights_books.specs.declared.claim.Layout.{Layout}
use Rattle.rights_books.specs.declared.claim.TakenNumber.{TakenNumber}
use Rattle.rights_books.specs.Lists.{times}
use Rattle.rights_books.specs.Lodged.{AreWithin}
use Rattle.rights_permits.specs.Names.{layout_of}
use Rattle.tickets.specs.Placed.{Placed}
use Rattle.nodes.specs.Tree.{EmptyFrom}
use Rattle.nodes.specs.declared.file.FileState.{FileState}
use Rattle.nodes.specs.File.{ticket_at, address_of}
use Rattle.nodes.specs.Held.{AreHeld}
use Rattle.nodes_walks.specs.Data.{IsNextData}
use Rattle.file_cells.specs.Law.{AreCovered, AreOccupied}
use Rattle.file_cells.proofs.Lending.{some_there}
use Rattle.file_cells.proofs.LodgedTickets.{lodged}

-- where the block of a ticket lies
pub record IsPlaced (geometry : Geometry) (tickets : List Mark) (address : ℕ) : Type 0 where
  pub some : 0 < address
  pub most : address ≤ block_count geometry
  pub within : segment_of geometry.shape address < geometry.segments
  pub ticket : (m : Mark) × (segment_of geometry.shape m.address ≡ segment_of geometry.shape address) × (0 < times same_mark m tickets)

module _ {B L : Type 0} (geometry : Geometry) (f : FileState B L) (tickets : List Mark) (tokens : List TakenNumber)
    (held : AreHeld f tickets tokens) (layout : Layout) (laid : layout ≡ layout_of geometry) (within : AreWithin layout tickets) where
  pub placed : (from i address : ℕ) → IsNextData (ticket_at f) from (Some i) → address ≡ address_of (ticket_at f i) → IsPlaced geometry tickets address
  placed from i address next is =
      let there = some_there (ticket_at f i) next.1 in
      let t : Placed = there.0 in
      let at : address ≡ t.mark.address = is ∙ ap address_of there.1 in
      let one = lodged f tickets tokens held i t there.1 in
      let all = within t.mark one in
      let positive = segment_blocks-positive geometry.shape in
      let inside : (t.mark.address - 1) / segment_blocks geometry.shape < geometry.segments =
      subst (λ (l : Layout). (t.mark.address - 1) / l.blocks < l.segments) laid all.1 in
      let below = (div-lt_iff_lt-mul positive).0 inside in
      record {
        some = omega (arith, all.0);
        most = omega arith;
        within = subst (λ a. segment_of geometry.shape a < geometry.segments) (sym at) inside;
        ticket = (t.mark, ap (segment_of geometry.shape) (sym at), one);
      }

module _ {B L : Type 0} (f : FileState B L) where
  -- the segments of the blocks below an index are noted
  abbrev pub AreCoveredBelow : ℕ → List Bool → Type 0
  AreCoveredBelow from pinned = (i : ℕ) (t : Placed) → i < from → ticket_at f i ≡ Some t → get_or pinned (segment_of f.shape t.mark.address) false ≡ true

  -- the next block's segment is noted
  pub covered_more : (from index address : ℕ) (pinned : List Bool) → AreCoveredBelow from pinned → IsNextData (ticket_at f) from (Some index)
      → address ≡ address_of (ticket_at f index) → get_or pinned (segment_of f.shape address) false ≡ true → AreCoveredBelow (index + 1) pinned
  covered_more from index address pinned so next is noted i t lt at = elim (cases_eq i index) [
    | inl e ↦
        let same : address ≡ t.mark.address = is ∙ ap address_of (ap (ticket_at f) (sym e) ∙ at) in
        ap (λ a. get_or pinned (segment_of f.shape a) false) (sym same) ∙ noted
    | inr ne ↦ elim (cases_lt i from) [
      | inl low ↦ so i t low at
      | inr high ↦ let none = next.2 i high (omega arith) in absurd (let wrong = sym none ∙ at in cc)
    ]
  ]

  -- what is noted stays so where one more is
  pub covered_set : (from s : ℕ) (pinned : List Bool) → s < length pinned → AreCoveredBelow from pinned → AreCoveredBelow from (set pinned s true)
  covered_set from s pinned within so i t lt at = noted_set (segment_of f.shape t.mark.address) (so i t lt at)
    where
      noted_set : (z : ℕ) → get_or pinned z false ≡ true → get_or (set pinned s true) z false ≡ true
      noted_set z was = elim (cases_eq z s) [
        | inl e ↦ ap (λ k. get_or (set pinned s true) k false) e ∙ get_or-set_same pinned s true false within
        | inr ne ↦ get_or-set_other pinned s z true false ne ∙ was
      ]

  pub covered_all : (from : ℕ) (pinned : List Bool) → AreCoveredBelow from pinned → EmptyFrom (ticket_at f) from → AreCovered pinned f
  covered_all from pinned so empty i t at = elim (cases_lt i from) [
    | inl low ↦ so i t low at
    | inr high ↦ let none = empty i high in absurd (let wrong = sym none ∙ at in cc)
  ]

pub largest_small : (shape : Shape) → largest_length shape < 4294967296
largest_small Tiny = lit< tt
largest_small Kernel = lit< tt

module _ (shape : Shape) (tickets : List Mark) where
  -- no segment is noted at the start
  pub occupied_none : (noted : List Bool) (n : ℕ) → noted ≡ replicate n false → AreOccupied shape noted tickets
  occupied_none noted n none s there = absurd (let e = sym (ap (λ xs. get_or xs s false) none ∙ clear n s) ∙ there in cc)
    where
      clear : (n s : ℕ) → get_or (replicate n false) s false ≡ false
      clear n s = elim (cases_lt s n) [
        | inl lt ↦ get_or-replicate n s false false lt
        | inr ge ↦ get_or_past (replicate n false) s false (let long = length-replicate n false in omega arith)
      ]

  -- one more is noted, in which a block of a ticket lies
  pub occupied_more : (noted : List Bool) (s : ℕ) → AreOccupied shape noted tickets
      → (m : Mark) × (segment_of shape m.address ≡ s) × (0 < times same_mark m tickets) → AreOccupied shape (set noted s true) tickets
  occupied_more noted s so here z there = elim (cases_eq z s) [
    | inl e ↦ (here.0, here.1 ∙ sym e, here.2)
    | inr ne ↦ so z (sym (get_or-set_other noted s z true false ne) ∙ there)
  ]

-- Blocks are taken off the end of a run, so the next one has the address that follows those left: its bytes and its
-- owner are those of that address.
use Rattle.std.proofs.Common.{◌≡◌, ℕ, suc, ◌+◌, ◌<◌, ◌≤◌, List, [], ◌∷◌, ◌++◌, length, get_or, set, Option, Some, None, inl, inr, sym, ap, subst, ◌∙◌, arith}
use Rattle.std.proofs.lemmas.Bool.{cases_eq}
use Rattle.std.proofs.lemmas.List.{length-append, length-set, get_or-set_same, get_or-set_other}
use Rattle.geometry.proofs.Indexing.{each_front, each_last}
use Rattle.device.specs.Parts.{IsBlockRun}
use Rattle.geometry.specs.declared.geometry.Geometry.{Geometry}
use Rattle.geometry.specs.declared.owner.Owner.{Owner}
use Rattle.geometry.specs.Area.{block_count}
use Rattle.geometry.specs.Shape.{segment_blocks}
use Rattle.geometry.specs.Address.{address_of}
use Rattle.geometry.proofs.Addresses.{address_of-most}
use Rattle.image.specs.Image.{Image}
use Rattle.tickets.specs.Placed.{Placed}
use Rattle.mount_blocks.specs.Marked.{marked_owner}
use Rattle.mount_blocks.specs.Table.{HaveBytes, AreTicketsPast}
use Rattle.mount_blocks.specs.States.{HasOwners}
use Rattle.mount_blocks.proofs.Tables.{table_named, table_unnamed}

module _ {B : Type 0} (address : B → ℕ) (content : B → List ℕ) (size : ℕ) (front : List B) (x : B) where
  pub run_front : IsBlockRun address content size 1 (front ++ x ∷ []) → IsBlockRun address content size 1 front
  run_front run = record {
    addresses = each_front (λ k b. address b ≡ 1 + k) front (x ∷ []) run.addresses;
    lengths = each_front (λ k b. length (content b) ≡ size) front (x ∷ []) run.lengths;
  }

  pub run_last : IsBlockRun address content size 1 (front ++ x ∷ []) → (address x ≡ 1 + length front) × (length (content x) ≡ size)
  run_last run = (each_last (λ k b. address b ≡ 1 + k) front x run.addresses, each_last (λ k b. length (content b) ≡ size) front x run.lengths)

  pub bytes_front : (bytes : ℕ → List ℕ) → HaveBytes content bytes (front ++ x ∷ []) → HaveBytes content bytes front
  bytes_front bytes have = each_front (λ k b. content b ≡ bytes (k + 1)) front (x ∷ []) have

  bytes_last : (bytes : ℕ → List ℕ) → HaveBytes content bytes (front ++ x ∷ []) → content x ≡ bytes (suc (length front))
  bytes_last bytes have = each_last (λ k b. content b ≡ bytes (k + 1)) front x have ∙ (let next : length front + 1 ≡ suc (length front) = omega arith in ap bytes next)

  module _ (geometry : Geometry) (image : Image) (bytes : ℕ → List ℕ) (tickets : List (Option Placed)) (have : HaveBytes content bytes (front ++ x ∷ [])) (a : ℕ) (at : a ≡ suc (length front))
      (are : AreTicketsPast geometry image bytes (length (front ++ x ∷ [])) tickets) where
    before : AreTicketsPast geometry image bytes (suc (length front)) tickets
    before = let long : length (front ++ x ∷ []) ≡ suc (length front) = length-append front (x ∷ []) ∙ omega arith in subst (λ n. AreTicketsPast geometry image bytes n tickets) long are

    pub comes_unnamed : marked_owner geometry image a ≡ None → AreTicketsPast geometry image bytes (length front) tickets
    comes_unnamed none = table_unnamed geometry image bytes (length front) tickets (ap (marked_owner geometry image) (sym at) ∙ none) before

    pub comes_named : (t : Placed) → a ≤ block_count geometry → marked_owner geometry image a ≡ Some t.mark.owner → t.mark.address ≡ a → t.content ≡ content x
        → AreTicketsPast geometry image bytes (length front) (set tickets a (Some t))
    comes_named t within owner address_is content_is =
        subst (λ k. AreTicketsPast geometry image bytes (length front) (set tickets k (Some t))) (sym at)
        (table_named geometry image bytes (length front) tickets t (omega arith) (ap (marked_owner geometry image) (sym at) ∙ owner) (address_is ∙ at) (content_is ∙ bytes_last bytes have) before)

-- the summaries of a segment say one owner more
pub owners_next : (geometry : Geometry) (image : Image) (number left next : ℕ) (summaries : List (Option Owner)) (owner : Option Owner) → left ≡ next + 1 → left ≤ segment_blocks geometry.shape
    → HasOwners geometry image number left summaries → owner ≡ marked_owner geometry image (address_of geometry.shape number next) → HasOwners geometry image number next (set summaries next owner)
owners_next geometry image number left next summaries owner is few has here = record {
  sized = length-set summaries next owner ∙ has.sized;
  owners = λ o from within. elim (cases_eq o next) [
    | inl e ↦
        let sized = has.sized in
        ap (λ k. get_or (set summaries next owner) k None) e ∙ get_or-set_same summaries next owner None (omega arith) ∙ here ∙ ap (λ k. marked_owner geometry image (address_of geometry.shape number k)) (sym e)
    | inr apart ↦ get_or-set_other summaries next o owner None apart ∙ has.owners o (omega arith) within
  ];
}

-- the address of the block that comes next, where so many of a segment are still to come
pub place_of : (geometry : Geometry) (number left long : ℕ) → number < geometry.segments → left < segment_blocks geometry.shape → address_of geometry.shape number left ≡ 1 + long → 1 + long ≤ block_count geometry
place_of geometry number left long low within at = let most = address_of-most geometry.shape geometry.segments number left low within in omega arith

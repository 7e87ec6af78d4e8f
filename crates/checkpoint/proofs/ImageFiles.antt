-- A state's tickets name the addresses where the main blocks hold their contents: so what an image reads there, block
-- by block, is the file that the state shows.
use Rattle.std.proofs.Common.{◌≡◌, ℕ, zero, suc, ◌<◌, Option, Some, None, inl, inr, refl, sym, ap, ◌∙◌, arith}
use Rattle.std.proofs.lemmas.Bool.{cases_lt}
use Rattle.std.specs.List.{filter_map}
use Rattle.std.specs.Ordering.{nat_cmp}
use Rattle.std.proofs.lemmas.Cmp.{nat_cmp_total}
use Rattle.std.specs.FinMap.{FinMap, get, from_entries, get-from_entries, same_map, nat_cmp-IsAntisymmetric}
use Rattle.geometry.specs.File.{Block}
use Rattle.tickets.specs.Placed.{Placed}
use Rattle.image.specs.Image.{Image, node_of}
use Rattle.image.specs.Files.{data_address, below, block_at, file_of as image_file}
use Rattle.image.proofs.FileBlocks.{content, entries, past_entries, in_entries}
use Rattle.nodes.specs.declared.file.FileState.{FileState}
use Rattle.nodes.specs.File.{IsFile, ticket_at, address_of, content_of, file_of}
use Rattle.nodes.proofs.Files.{shows_file_of}
use Rattle.checkpoint.specs.Files.{IsStateOf, HoldContents}

module _ (blocks : ℕ → Block) where
  content_there : (a : ℕ) → 0 < a → content blocks a ≡ Some (blocks a)
  content_there zero h = absurd (omega arith)
  content_there (suc a) h = refl

  -- what stands at a ticket's address is its content
  same_content : (ticket : Option Placed) → ((t : Placed) → ticket ≡ Some t → (0 < t.mark.address) × (blocks t.mark.address ≡ t.content)) → content blocks (address_of ticket) ≡ content_of ticket
  same_content None held = refl
  same_content (Some t) held = let h = held t refl in content_there t.mark.address h.0 ∙ ap (λ b. Some b) h.1

-- the blocks that a state shows, by the addresses of its tickets
module _ {B L : Type 0} (state : FileState B L) (file : IsFile state) (blocks : ℕ → Block) (held : HoldContents blocks state)
    (address : ℕ → ℕ) (slots : (i : ℕ) → i < state.length → address i ≡ address_of (ticket_at state i)) where
  same_blocks : (i : ℕ) → get (from_entries {R = nat_cmp} (entries blocks address state.length)) i ≡ get (file_of state).blocks i
  same_blocks i =
      get-from_entries nat_cmp_total (entries blocks address state.length) i
      ∙ elim (cases_lt i state.length) [
        | inl lt ↦ in_entries blocks address state.length i lt
            ∙ ap (content blocks) (slots i lt)
            ∙ same_content blocks (ticket_at state i) (λ t e. held i t e)
        | inr ge ↦ past_entries blocks address state.length i ge ∙ sym (ap content_of (file.within i ge))
      ]
      ∙ sym ((shows_file_of state file).blocks i)

  pub shown_at : from_entries {R = nat_cmp} (filter_map (λ i. block_at blocks i (address i)) (below state.length)) ≡ (file_of state).blocks
  shown_at = same_map nat_cmp_total nat_cmp-IsAntisymmetric _ _ same_blocks

module _ {B L : Type 0} (image : Image) (state : FileState B L) (is : IsStateOf image state) (file : IsFile state) (blocks : ℕ → Block) (held : HoldContents blocks state) where
  abbrev address : ℕ → ℕ
  address i = data_address state.shape image state.token.number i

  pub shown_is_of_image : image_file state.shape image blocks state.token.number ≡ file_of state
  shown_is_of_image =
      let length : (node_of image state.token.number).length ≡ state.length = sym is.length in
      let blocks_same : from_entries {R = nat_cmp} (entries blocks address state.length) ≡ (file_of state).blocks
      = shown_at state file blocks held address (λ i lt. sym (is.slots i lt)) in
      let all : from_entries {R = nat_cmp} (entries blocks address (node_of image state.token.number).length) ≡ (file_of state).blocks
      = ap (λ n. from_entries {R = nat_cmp} (entries blocks address n)) length ∙ blocks_same in
      λ k. record { kind = sym is.kind k; length = length k; blocks = all k }

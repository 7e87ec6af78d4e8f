-- A loaded tree has the shape of the image's, level by level, with nothing past the length, and no node was marked: so
-- it is a file, and clean.
use Rattle.std.proofs.Common.{◌≡◌, ◌≢◌, ℕ, zero, suc, ◌+◌, ◌<◌, List, Option, Some, None, refl, sym, ap, subst, ◌∙◌, arith}
use Rattle.std.specs.Prelude.{slice_index_or}
use Rattle.geometry.specs.declared.owner.Owner.{Owner}
use Rattle.geometry.specs.Path.{node_entries, path}
use Rattle.tickets.specs.Placed.{Placed}
use Rattle.nodes.specs.declared.branch.Branch.{Branch}
use Rattle.nodes.specs.Tree.{entry_at}
use Rattle.nodes.specs.Change.{Weighing, ticket_weight, each_marked}
use Rattle.nodes.specs.TreeMarks.{one_of, mark_of, AreCounted}
use Rattle.std.proofs.lemmas.List.{get_or_past}
use Rattle.nodes.proofs.Changes.{weigh_zero}
use Rattle.nodes.specs.declared.file.FileState.{FileState}
use Rattle.nodes.specs.File.{IsFile, ticket_at, address_of, shaped_direct, shaped_indirect, shaped_double, weight_direct, weight_indirect, weight_double, weight_of}
use Rattle.nodes.specs.Owners.{owner_at, AreNamed}
use Rattle.image.specs.Image.{Image, node_of}
use Rattle.image.specs.Walk.{child}
use Rattle.image.specs.Files.{data_address}
use Rattle.mount_blocks.specs.TreeGoods.{Shelves}
use Rattle.mount_blocks.specs.FileLoaded.{FitsFile, IsLoadedFile, Ended, fits_direct, fits_indirect, fits_double, loaded_direct, loaded_indirect, loaded_double}
use Rattle.mount_blocks.proofs.Ends.{at_any, ended, direct_of, indirect_of, double_of}

module _ (all : Shelves Placed) where
  ended_address : (number : ℕ) (owner : Option Owner) (v : Option Placed) → Ended all number owner v → address_of v ≡ number
  ended_address number owner None l = sym l
  ended_address number owner (Some t) l = l.2

  ended_there : (number : ℕ) (owner : Option Owner) (v : Option Placed) (t : Placed) → Ended all number owner v → v ≡ Some t → Ended all number owner (Some t)
  ended_there number owner v t l e = subst (Ended all number owner) e l

  ended_none : (number : ℕ) (owner : Option Owner) (v : Option Placed) → Ended all number owner v → (number ≢ 0 → ⊥) → v ≡ None
  ended_none number owner None l lacks = refl
  ended_none number owner (Some t) l lacks = absurd (lacks (λ e. absurd (omega (arith, l.0))))

module _ (image : Image) (all : Shelves Placed) where
  clean_ticket : (x : Option Placed) → ticket_weight each_marked x ≡ 0
  clean_ticket None = refl
  clean_ticket (Some t) = refl

  clean_1 : (n : ℕ) (x : Option (Branch Placed)) → loaded_direct image all n x → weight_direct each_marked x ≡ 0
  clean_1 n None l = refl
  clean_1 n (Some b) l =
      let below = weigh_zero (ticket_weight each_marked) b.entries.slots.items (λ k h. clean_ticket (entry_at b.entries.slots.items k)) in
      rw l.clean (omega arith)

  clean_2 : (n : ℕ) (x : Option (Branch (Branch Placed))) → loaded_indirect image all n x → weight_indirect each_marked x ≡ 0
  clean_2 n None l = refl
  clean_2 n (Some b) l =
      let below = weigh_zero (weight_direct each_marked) b.entries.slots.items (λ k h. clean_1 (child image n k) (entry_at b.entries.slots.items k)
      (at_any (λ _ m v. loaded_direct image all m v) (node_of image n).children b.entries.slots.items l.below (λ j. refl) k)) in
      rw l.clean (omega arith)

  clean_3 : (n : ℕ) (x : Option (Branch (Branch (Branch Placed)))) → loaded_double image all n x → weight_double each_marked x ≡ 0
  clean_3 n None l = refl
  clean_3 n (Some b) l =
      let below = weigh_zero (weight_indirect each_marked) b.entries.slots.items (λ k h. clean_2 (child image n k) (entry_at b.entries.slots.items k)
      (at_any (λ _ m v. loaded_indirect image all m v) (node_of image n).children b.entries.slots.items l.below (λ j. refl) k)) in
      rw l.clean (omega arith)

  -- where no entry has a marked node below it, none is counted
  none_counted : {C : Type 0} (weight : Weighing Placed → Option C → ℕ) (count : ℕ) (xs : List (Option C)) → count ≡ 0
      → ((k : ℕ) → weight each_marked (entry_at xs k) ≡ 0) → AreCounted weight count xs
  none_counted weight count xs none clean = none ∙ sym (weigh_zero (mark_of weight) xs (λ k h. ap one_of (clean k)))

  shaped_1 : (e inode n : ℕ) (x : Option (Branch Placed)) → loaded_direct image all n x → fits_direct image e inode n → shaped_direct e x
  shaped_1 e inode n None l fits = tt
  shaped_1 e inode n (Some b) l fits = (
    (l.below.0 ∙ (fits l.some).count, λ k. tt),
    none_counted ticket_weight b.entries.marked b.entries.slots.items l.none_below (λ k. clean_ticket (entry_at b.entries.slots.items k)),
  )

  shaped_2 : (e inode n : ℕ) (x : Option (Branch (Branch Placed))) → loaded_indirect image all n x → fits_indirect image e inode n → shaped_indirect e x
  shaped_2 e inode n None l fits = tt
  shaped_2 e inode n (Some b) l fits = (
    (
      l.below.0 ∙ (fits l.some).count,
      λ k. shaped_1 e inode (child image n k) (entry_at b.entries.slots.items k)
          (at_any (λ _ m v. loaded_direct image all m v) (node_of image n).children b.entries.slots.items l.below (λ j. refl) k) ((fits l.some).below k),
    ),
    none_counted weight_direct b.entries.marked b.entries.slots.items l.none_below (λ k. clean_1 (child image n k) (entry_at b.entries.slots.items k)
        (at_any (λ _ m v. loaded_direct image all m v) (node_of image n).children b.entries.slots.items l.below (λ j. refl) k)),
  )

  shaped_3 : (e inode n : ℕ) (x : Option (Branch (Branch (Branch Placed)))) → loaded_double image all n x → fits_double image e inode n → shaped_double e x
  shaped_3 e inode n None l fits = tt
  shaped_3 e inode n (Some b) l fits = (
    (
      l.below.0 ∙ (fits l.some).count,
      λ k. shaped_2 e inode (child image n k) (entry_at b.entries.slots.items k)
          (at_any (λ _ m v. loaded_indirect image all m v) (node_of image n).children b.entries.slots.items l.below (λ j. refl) k) ((fits l.some).below k),
    ),
    none_counted weight_indirect b.entries.marked b.entries.slots.items l.none_below (λ k. clean_2 (child image n k) (entry_at b.entries.slots.items k)
        (at_any (λ _ m v. loaded_indirect image all m v) (node_of image n).children b.entries.slots.items l.below (λ j. refl) k)),
  )

  module _ {B L : Type 0} (inode : ℕ) (f : FileState B L) (l : IsLoadedFile image f.shape all inode f) where
    pub loaded_slots : (i : ℕ) → address_of (ticket_at f i) ≡ data_address f.shape image inode i
    loaded_slots i = ended_address all (data_address f.shape image inode i) (owner_at f (path f.shape i)) (ticket_at f i) (ended image all inode f l i)

    loaded_at : (i : ℕ) (t : Placed) → ticket_at f i ≡ Some t → Ended all (data_address f.shape image inode i) (owner_at f (path f.shape i)) (Some t)
    loaded_at i t e = ended_there all (data_address f.shape image inode i) (owner_at f (path f.shape i)) (ticket_at f i) t (ended image all inode f l i) e

    pub loaded_named : AreNamed f
    loaded_named i t e = (loaded_at i t e).3

    pub loaded_contents : (i : ℕ) (t : Placed) → ticket_at f i ≡ Some t → (0 < t.mark.address) × (slice_index_or all.tickets t.mark.address None ≡ Some t)
    loaded_contents i t e =
        let at = loaded_at i t e in (
          subst (λ a. 0 < a) (sym at.2) at.0,
          subst (λ a. slice_index_or all.tickets a None ≡ Some t) (sym at.2) at.1,
        )

    module _ (fits : FitsFile image f.shape inode) where
      direct_shaped : (k : ℕ) → shaped_direct (node_entries f.shape) (entry_at f.direct.slots.items k)
      direct_shaped zero = shaped_1 (node_entries f.shape) inode (child image inode 0) (entry_at f.direct.slots.items 0) (direct_of image all inode f l 0 (omega arith)) (fits.direct 0 (omega arith))
      direct_shaped (suc zero) = shaped_1 (node_entries f.shape) inode (child image inode 1) (entry_at f.direct.slots.items 1) (direct_of image all inode f l 1 (omega arith)) (fits.direct 1 (omega arith))
      direct_shaped (suc (suc k)) = rw (get_or_past f.direct.slots.items (suc (suc k)) None (omega (arith, l.direct.0))) tt

      indirect_shaped : (k : ℕ) → shaped_indirect (node_entries f.shape) (entry_at f.indirect.slots.items k)
      indirect_shaped zero = shaped_2 (node_entries f.shape) inode (child image inode 2) (entry_at f.indirect.slots.items 0) (indirect_of image all inode f l 2 0 refl (omega arith)) (fits.indirect 0 (omega arith))
      indirect_shaped (suc zero) = shaped_2 (node_entries f.shape) inode (child image inode 3) (entry_at f.indirect.slots.items 1) (indirect_of image all inode f l 3 1 refl (omega arith)) (fits.indirect 1 (omega arith))
      indirect_shaped (suc (suc k)) = rw (get_or_past f.indirect.slots.items (suc (suc k)) None (omega (arith, l.indirect.0))) tt

      double_shaped : (k : ℕ) → shaped_double (node_entries f.shape) (entry_at f.double.slots.items k)
      double_shaped zero = shaped_3 (node_entries f.shape) inode (child image inode 4) (entry_at f.double.slots.items 0) (double_of image all inode f l) fits.double
      double_shaped (suc k) = rw (get_or_past f.double.slots.items (suc k) None (omega (arith, l.double.0))) tt

      pub loaded_file : ((i : ℕ) → data_address f.shape image inode i ≢ 0 → i < f.length) → IsFile f
      loaded_file lengths = record {
        tickets = (l.tickets.0 ∙ fits.addresses, λ k. tt);
        direct = (l.direct.0, direct_shaped);
        indirect = (l.indirect.0, indirect_shaped);
        double = (l.double.0, double_shaped);
        within = λ i h. ended_none all (data_address f.shape image inode i) (owner_at f (path f.shape i)) (ticket_at f i) (ended image all inode f l i)
            (λ some. let low = lengths i some in absurd (omega arith));
      }

    pub loaded_clean : weight_of f each_marked ≡ 0
    loaded_clean =
        let tickets = weigh_zero (ticket_weight each_marked) f.tickets.slots.items (λ k h. clean_ticket (entry_at f.tickets.slots.items k)) in
        let direct = weigh_zero (weight_direct each_marked) f.direct.slots.items (λ k h. clean_1 (child image inode k) (entry_at f.direct.slots.items k) (direct_of image all inode f l k (omega (arith, l.direct.0)))) in
        let indirect = weigh_zero (weight_indirect each_marked) f.indirect.slots.items (λ k h. clean_2 (child image inode (2 + k)) (entry_at f.indirect.slots.items k) (indirect_of image all inode f l (2 + k) k refl (omega (arith, l.indirect.0)))) in
        let double = weigh_zero (weight_double each_marked) f.double.slots.items (λ k h. (let first : k ≡ 0 = omega (arith, l.double.0) in
        clean_3 (child image inode 4) (entry_at f.double.slots.items k) (subst (λ j. loaded_double image all (child image inode 4) (entry_at f.double.slots.items j)) (sym first) (double_of image all inode f l)))) in
        rw (l.unsized, l.clean_tickets, l.clean_direct, l.clean_indirect, l.clean_double) (omega arith)

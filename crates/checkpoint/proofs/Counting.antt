-- What a crash leaves is a whole pack's area, or one between the old pack and the new: in each of them one of the two is picked, and
-- both spell the tables of a lawful image.
use Rattle.std.proofs.Common.{◌≡◌, ℕ, ◌≤◌, List, Some, ⊎_elim, sym, subst, ◌∙◌}
use Rattle.std.proofs.Math.Logic.{∥∥₁_map}
use Rattle.std.proofs.lemmas.Option.{same_Some}
use Rattle.geometry.specs.declared.geometry.Geometry.{Geometry}
use Rattle.device.specs.Disk.{Leaves, LeavesOnly}
use Rattle.image.specs.Image.{Image}
use Rattle.image.specs.Rules.{IsLawful}
use Rattle.image.proofs.Picking.{settled_picks, between_picks}
use Rattle.packs.specs.Pack.{slots_in, picked, Between}
use Rattle.packs.specs.Area.{reading_of}
use Rattle.packs.specs.Device.{KeepsArea}
use Rattle.pack_tables.specs.Grammar.{HasSuper, SpellsTables}
use Rattle.pack_tables.specs.Holding.{HoldsTables}
use Rattle.checkpoint.specs.Holding.{AreWhole, counting_body}
use Rattle.checkpoint.specs.declared.image_packs.ImagePacks.{ImagePacks}
use Rattle.checkpoint.specs.Standing.{HasVolume, HoldsLawful}
use Rattle.pack_tables.proofs.SuperLemmas.{super_stays}

module _ {D : Type 0} (seen : D → List ℕ) (may_leave : D → List ℕ → Type 0) (geometry : Geometry) where
  -- of packs that are whole, where each crash leaves the tables of a lawful image
  pub whole_counts : (packs : ImagePacks D) (image : Image) → AreWhole seen may_leave packs → HasSuper geometry (seen packs.area.meta)
      → IsLawful geometry image → Leaves may_leave packs.area.meta (HoldsTables geometry image) → Leaves may_leave packs.area.meta (HasVolume geometry)
  whole_counts packs image whole front lawful held c left =
      let kept = whole.settled.left c left in
      record {
        front = super_stays geometry (seen packs.area.meta) c front kept.same.long kept.same.front;
        counts = ∣ record { image = image; lawful = lawful; tables = held c left } ∣₁;
      }

  -- of packs that a write of a lawful image's body left between two
  pub between_counts : (moment : D → ℕ) (left_since : D → ℕ → List ℕ → Type 0) → ((meta : D) (t : ℕ) (c : List ℕ) → t ≤ moment meta → may_leave meta c → left_since meta t c)
      → (packs : ImagePacks D) (meta : D) (new : List ℕ) (image : Image) → AreWhole seen may_leave packs → packs.geometry ≡ geometry → HasSuper geometry (seen packs.area.meta)
      → may_leave packs.area.meta (seen packs.area.meta) → HasVolume geometry (seen packs.area.meta)
      → IsLawful geometry image → SpellsTables geometry new image
      → LeavesOnly moment left_since packs.area.meta meta (KeepsArea (seen packs.area.meta) (Between (reading_of packs.area.geometry) (counting_body seen packs) new))
      → Leaves may_leave meta (HasVolume geometry)
  between_counts moment left_since now packs meta new image whole same front there stood lawful spelled only c left =
      let kept = only.each c (now meta (moment packs.area.meta) c only.later left) in
      let area = seen packs.area.meta in
      let old = counting_body seen packs in
      let size : packs.area.geometry ≡ geometry = whole.size ∙ same in
      let before : picked (reading_of geometry) area ≡ Some old = subst (λ (n : Geometry). picked (reading_of n) area ≡ Some old) size (settled_picks (slots_in (reading_of packs.area.geometry) area) old (whole.settled.left area there).packs) in
      let picked_here : (body : List ℕ) → picked (reading_of packs.area.geometry) c ≡ Some body → picked (reading_of geometry) c ≡ Some body = λ body is. subst (λ (n : Geometry). picked (reading_of n) c ≡ Some body) size is in
      let still : picked (reading_of packs.area.geometry) c ≡ Some old → HoldsLawful geometry area → HoldsLawful geometry c = λ is held. record {
        image = held.image;
        lawful = held.lawful;
        tables = record {
          body = old;
          picked = picked_here old is;
          spelled = subst (λ (body : List ℕ). SpellsTables geometry body held.image) (same_Some held.tables.body old (sym held.tables.picked ∙ before)) held.tables.spelled;
        };
      } in
      record {
        front = super_stays geometry area c front kept.same.long kept.same.front;
        counts = ⊎_elim (λ is. ∥∥₁_map stood.counts (still is))
            (λ is. ∣ record { image = image; lawful = lawful; tables = record { body = new; picked = picked_here new is; spelled = spelled } } ∣₁)
            (between_picks (slots_in (reading_of packs.area.geometry) c) old new kept.packs);
      }

-- What a mount hands back that is refused. What the parts show, and how many failures they counted, are arguments.
use Rattle.std.specs.Prelude.{◌≡◌, ◌≢◌, ◌<◌, ◌⊎◌, ℕ, List}
use Rattle.device.specs.declared.parts.Parts.{Parts}
use Rattle.geometry.specs.Weights.{weigh}
use Rattle.geometry.specs.declared.error.Error.{Error}
use Rattle.geometry.specs.declared.error.Error.TheVariants.{Device}
use Rattle.mount_reading.specs.Held.{AreSameParts, IsPartsRefusal, KeepsBetween, KeepsPack}

module _ {M B : Type 0} (seen : M → List ℕ) (may_leave : M → List ℕ → Type 0) (moment : M → ℕ) (left_since : M → ℕ → List ℕ → Type 0) (failed : M → ℕ)
    (address_of : B → ℕ) (content_of : B → List ℕ) (block_failed : B → ℕ) where
  -- The mount of these parts was refused, only where the error is so, and they are as they were: the pack that counted counts, but
  -- after Device, which comes of a failure that was counted; and where a crash left one pack or the next, a crash at any moment does too.
  pub record HandsBack (old new : Parts M B) (error : Error) : Type 0 where
    pub refused : IsPartsRefusal seen address_of content_of old error
    pub same : AreSameParts seen address_of content_of old new
    pub kept : error ≢ Device → KeepsPack seen old.meta new.meta
    pub any_moment : KeepsBetween seen may_leave moment left_since old.meta new.meta
    pub device : error ≡ Device → (failed old.meta < failed new.meta) ⊎ (weigh block_failed old.blocks.items < weigh block_failed new.blocks.items)

-- What a mount promises of what it hands back holds too where it found a volume, and what is made after it is refused for want of
-- memory.
use Rattle.std.proofs.Common.{◌≡◌, ℕ, List, Result, IfErr, subst, sym}
use Rattle.device.specs.declared.parts.Parts.{Parts}
use Rattle.geometry.specs.declared.error.Error.{Error}
use Rattle.geometry.specs.declared.error.Error.TheVariants.{NoMemory}
use Rattle.mount_reading.specs.declared.open.OpenFault.{OpenFault}
use Rattle.flash_volume.proofs.Results.{err_both}
use Rattle.flash_volume.specs.Refused.{HandsBack}

module _ {M B : Type 0} (seen : M → List ℕ) (may_leave : M → List ℕ → Type 0) (moment : M → ℕ) (left_since : M → ℕ → List ℕ → Type 0) (failed : M → ℕ)
    (address_of : B → ℕ) (content_of : B → List ℕ) (block_failed : B → ℕ) (old : Parts M B) where
  abbrev Back : Parts M B → Error → Type 0
  Back = HandsBack seen may_leave moment left_since failed address_of content_of block_failed old

  -- what is handed on
  pub handed_on : (back left : Parts M B) (error other : Error) → left ≡ back → other ≡ error → Back back error → Back left other
  handed_on back left error other is same handed = subst (λ (parts : Parts M B). Back parts other) (sym is) (subst (λ (e : Error). Back back e) (sym same) handed)

  -- what was found, and is handed back for want of memory
  pub found_back : {O : Type 0} (found : Parts M B) (result : Result O (OpenFault M B)) → Back found NoMemory → IfErr result (λ fault. fault.parts ≡ found)
      → IfErr result (λ fault. fault.error ≡ NoMemory) → IfErr result (λ fault. Back fault.parts fault.error)
  found_back found result handed back error = err_both result _ _ _ (λ fault is no_memory. handed_on found fault.parts NoMemory fault.error is no_memory handed) back error

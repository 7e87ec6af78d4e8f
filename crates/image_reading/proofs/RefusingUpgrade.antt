-- Want of memory is one of the refusals of a check.
use Rattle.std.proofs.Common.{◌≡◌, subst, sym}
use Rattle.geometry.specs.declared.error.Error.TheVariants.{NoMemory}
use Rattle.geometry.specs.declared.geometry.Geometry.{Geometry}
use Rattle.image.specs.Faults.{IsRefusal}
use Rattle.image.specs.Image.{Image}
use Rattle.image_reading.specs.Refused.{IfRefused}
use Rattle.image_reading.specs.declared.fault.ReadFault.{ReadFault}
use Rattle.image_reading.specs.declared.fault.ReadFault.TheVariants.{Refused}

pub no_memory : (geometry : Geometry) (image : Image) (fault : ReadFault) → IfRefused fault (λ error. error ≡ NoMemory) → IfRefused fault (IsRefusal geometry image)
no_memory geometry image (Refused error) is = subst (IsRefusal geometry image) (sym is) (tt {0})
no_memory geometry image other is = tt {0}

-- What is told of an image file, where its bytes are known, and what the writer holds afterwards.
use Rattle.std.specs.Prelude.{◌≡◌, ℕ, List, Option, IfSome}
use Rattle.std.specs.Io.KnownBytes.{Appends}
use Rattle.device.specs.declared.parts.Parts.{Parts}
use Rattle.device.specs.Parts.{HasSize, image_file}
use Rattle.geometry.specs.declared.geometry.Geometry.{Geometry}
use Rattle.geometry.specs.declared.error.Error.{Error}
use Rattle.image.specs.Image.{Image}
use Rattle.image.specs.Rules.{IsLawful}
use Rattle.pack_tables.specs.Grammar.{HasSuper}
use Rattle.pack_tables.specs.File.{HoldsImage, IsFileRefusal}
use Rattle.program_run.specs.Lines.{image_line, refusal_line}
use Rattle.program_run.specs.Ending.{ToldParts}

-- the file has this superblock, and this lawful image in its picked pack
pub record HoldsLawfulImage (geometry : Geometry) (image : Image) (file : List ℕ) : Type 0 where
  pub superblock : HasSuper geometry file
  pub held : HoldsImage geometry file image
  pub lawful : IsLawful geometry image

-- the line of the lawful image that the file holds was written, and nothing else
pub record TellsImage (file : Option (List ℕ)) (old new : Option (List ℕ)) : Type 0 where
  pub geometry : Geometry
  pub image : Image
  pub held : IfSome file (HoldsLawfulImage geometry image)
  pub told : Appends old new (image_line geometry image)

-- the line of a refusal was written, and nothing else: want of memory, or one that is true of the file
pub record TellsRefusal (file : Option (List ℕ)) (old new : Option (List ℕ)) : Type 0 where
  pub error : Error
  pub cause : IfSome file (λ bytes. IsFileRefusal bytes error)
  pub told : Appends old new (refusal_line error)

module _ {M B : Type 0} (seen : M → List ℕ) (address_of : B → ℕ) (content_of : B → List ℕ) where
  -- the parts have the bytes of the file, cut as its superblock tells
  pub record IsDeviceOf (file : List ℕ) (parts : Parts M B) : Type 0 where
    pub geometry : Geometry
    pub front : HasSuper geometry (seen parts.meta)
    pub size : HasSize seen address_of content_of geometry parts
    pub bytes : image_file seen content_of parts ≡ file

  -- the files and the total of the lawful image that the file holds were written: a device with its bytes was mounted
  pub record TellsFiles (file : Option (List ℕ)) (old new : Option (List ℕ)) : Type 0 where
    pub parts : Parts M B
    pub device : IfSome file (λ bytes. IsDeviceOf bytes parts)
    pub told : ToldParts seen content_of parts old new

-- Size, picked body, tables and nodes were each read off the file: so what was read is the file's image, and a fault of
-- it is one of the file.
use Rattle.std.proofs.Common.{◌≡◌, ◌⊎◌, inl, refl, sym, ap, ◌∙◌, subst, ℕ, Some, List, length, inr}
use Rattle.geometry.specs.declared.geometry.Geometry.{Geometry}
use Rattle.geometry.specs.declared.error.Error.{Error}
use Rattle.geometry.specs.declared.error.Error.TheVariants.{NoMemory, BadGeometry, BadImage}
use Rattle.image.specs.declared.image.NodeEntry.{NodeEntry}
use Rattle.image.specs.Node.{Node}
use Rattle.image.specs.Image.{Image}
use Rattle.image.specs.Reading.{read_nodes}
use Rattle.image.specs.Rules.{IsLeastFault}
use Rattle.image.specs.Faults.{IsRefusal}
use Rattle.pack_tables.specs.Grammar.{HasSuper, SpellsTables, SpellsNoTables}
use Rattle.pack_tables.specs.File.{file_bytes, block_in, picked_body, file_image, HoldsImage, IsRefusalOf, IsFileRefusal}
use Rattle.pack_tables.proofs.RoundTrip.{spelled_back}

-- tables that were read of the picked body, with the nodes of the blocks
pub record IsRead (geometry : Geometry) (file body : List ℕ) (tables image : Image) : Type 0 where
  pub size : length file ≡ file_bytes geometry
  pub picked : picked_body geometry file ≡ Some body
  pub spelled : SpellsTables geometry body tables
  pub whole : image ≡ record tables { nodes = read_nodes geometry.shape (block_in geometry file) tables.node_table }

-- tables with the nodes that were read of the blocks that their table names
pub read_with : (geometry : Geometry) (file body : List ℕ) (seen : List NodeEntry) (tables : Image) (nodes : List Node) → length file ≡ file_bytes geometry → picked_body geometry file ≡ Some body
    → SpellsTables geometry body tables → nodes ≡ read_nodes geometry.shape (block_in geometry file) seen → seen ≡ tables.node_table → IsRead geometry file body tables (record tables { nodes = nodes })
read_with geometry file body seen tables nodes size picked spelled read same = record {
  size = size;
  picked = picked;
  spelled = spelled;
  whole = ap (λ (n : List Node). (let i : Image = record tables { nodes = n } in i)) (read ∙ ap (read_nodes geometry.shape (block_in geometry file)) same);
}

pub image_is : (geometry : Geometry) (file body : List ℕ) (tables image : Image) → IsRead geometry file body tables image → image ≡ file_image geometry file body
image_is geometry file body tables image read = read.whole ∙ sym (spelled_back geometry body tables (block_in geometry file) read.spelled)

pub read_holds : (geometry : Geometry) (file body : List ℕ) (tables image : Image) → IsRead geometry file body tables image → HoldsImage geometry file image
read_holds geometry file body tables image read = record {
  size = read.size;
  body = body;
  picked = read.picked;
  tables = tables;
  spelled = read.spelled;
  whole = image_is geometry file body tables image read;
}

-- a refusal of the check is one of the file
pub check_refuses : (geometry : Geometry) (file body : List ℕ) (tables image : Image) (error : Error) → IsRead geometry file body tables image → IsRefusal geometry image error → IsRefusalOf geometry file error
check_refuses geometry file body tables image NoMemory read refused = tt {0}
check_refuses geometry file body tables image (BadImage fault) read refused =
    let P : Image → Type 0 = λ i. IsLeastFault geometry i fault in
    inr (read.size, (body, read.picked, inr ((tables, read.spelled), subst P (image_is geometry file body tables image read) refused)))
check_refuses geometry file body tables image error read refused = absurd refused

pub file_refused : (geometry : Geometry) (file : List ℕ) (error : Error) → HasSuper geometry file → IsRefusalOf geometry file error → IsFileRefusal file error
file_refused geometry file NoMemory has refused = tt {0}
file_refused geometry file BadGeometry has refused = absurd refused
file_refused geometry file error has refused = (geometry, has, refused)

-- tables that a slot's pack does not spell
pub slot_refused : (geometry : Geometry) (file body : List ℕ) (error : Error) → length file ≡ file_bytes geometry → picked_body geometry file ≡ Some body
    → (error ≡ NoMemory) ⊎ ((error ≡ BadImage 1) × SpellsNoTables geometry body) → IsRefusalOf geometry file error
slot_refused geometry file body error size picked (inl is) = subst (IsRefusalOf geometry file) (sym is) (tt {0})
slot_refused geometry file body error size picked (inr bad) = subst (IsRefusalOf geometry file) (sym bad.0) (inr (size, (body, picked, inl (refl, bad.1))))

-- What a wrapped part shows is what the part inside shows, so whatever is told of bytes, addresses and sizes is told of
-- both alike.
use Rattle.std.proofs.Common.{◌≡◌, ◌∙◌, ℕ, ◌-◌, ◌<◌, ap, sym, subst, List, [], length, map, get_or, Option, Result, Ok, Err, IfOk}
use Rattle.std.proofs.Math.ListN.{get_or-map}
use Rattle.std.proofs.lemmas.List.{length-map}
use Rattle.std.proofs.lemmas.Simd.{map-map}
use Rattle.device.specs.declared.parts.Parts.{Parts}
use Rattle.device.specs.Parts.{HasSize, IsBlockRun}
use Rattle.geometry.specs.declared.geometry.Geometry.{Geometry}
use Rattle.image_codec.specs.Blocks.{bytes_at}
use Rattle.pack_tables.specs.OneImage.{HoldVolume}
use Rattle.program_run.specs.Lines.{image_lines}
use Rattle.program_run.specs.Ending.{ToldParts}
use Rattle.std.specs.Io.KnownBytes.{Appends}

-- a run of blocks is one by what is inside them
module _ {F B : Type 0} (address_of : B → ℕ) (content_of : B → List ℕ) (inner : F → B) where
  pub run_outside : (bytes : ℕ) (faulty : List F) (blocks : List B) → map inner faulty ≡ blocks → IsBlockRun address_of content_of bytes 1 blocks
      → IsBlockRun (λ f. address_of (inner f)) (λ f. content_of (inner f)) bytes 1 faulty
  run_outside bytes faulty blocks is run = record {
    addresses = λ k other low.
        ap address_of (sym (get_or-map inner faulty k other) ∙ ap (λ xs. get_or xs k (inner other)) is) ∙ run.addresses k (inner other) (subst (λ n. k < n) (count) low);
    lengths = λ k other low.
        ap (λ b. length (content_of b)) (sym (get_or-map inner faulty k other) ∙ ap (λ xs. get_or xs k (inner other)) is) ∙ run.lengths k (inner other) (subst (λ n. k < n) (count) low);
  }
    where
      count : length faulty ≡ length blocks
      count = sym (length-map faulty inner) ∙ ap length is

  pub run_inside : (bytes : ℕ) (faulty : List F) (blocks : List B) → map inner faulty ≡ blocks → IsBlockRun (λ f. address_of (inner f)) (λ f. content_of (inner f)) bytes 1 faulty
      → (others : List F) → map inner others ≡ blocks → IsBlockRun (λ f. address_of (inner f)) (λ f. content_of (inner f)) bytes 1 others
  run_inside bytes faulty blocks is run others same = record {
    addresses = λ k other low. ap address_of (at k other other) ∙ run.addresses k other (subst (λ n. k < n) count low);
    lengths = λ k other low. ap (λ b. length (content_of b)) (at k other other) ∙ run.lengths k other (subst (λ n. k < n) count low);
  }
    where
      count : length others ≡ length faulty
      count = sym (length-map others inner) ∙ ap length (same ∙ sym is) ∙ length-map faulty inner

      at : (k : ℕ) (other another : F) → inner (get_or others k other) ≡ inner (get_or faulty k other)
      at k other another =
          sym (get_or-map inner others k other) ∙ ap (λ xs. get_or xs k (inner other)) (same ∙ sym is) ∙ get_or-map inner faulty k other

module _ {N F M B : Type 0} (seen : M → List ℕ) (address_of : B → ℕ) (content_of : B → List ℕ) (of_meta : N → M) (inner : F → B) where
  -- wrapped parts have the size of those inside
  pub size_outside : (geometry : Geometry) (faulty : Parts N F) (parts : Parts M B) → of_meta faulty.meta ≡ parts.meta → map inner faulty.blocks.items ≡ parts.blocks.items
      → HasSize seen address_of content_of geometry parts → HasSize (λ m. seen (of_meta m)) (λ f. address_of (inner f)) (λ f. content_of (inner f)) geometry faulty
  size_outside geometry faulty parts meta blocks size = record {
    area = ap (λ m. length (seen m)) meta ∙ size.area;
    count = sym (length-map faulty.blocks.items inner) ∙ ap length blocks ∙ size.count;
    run = run_outside address_of content_of inner _ faulty.blocks.items parts.blocks.items blocks size.run;
  }

  -- the same of parts that came to be
  pub size_of_ok : {E : Type 0} (geometry : Geometry) (parts : Parts M B) (result : Result (Parts N F) E) → IfOk result (λ faulty. of_meta faulty.meta ≡ parts.meta)
      → IfOk result (λ faulty. map inner faulty.blocks.items ≡ parts.blocks.items) → HasSize seen address_of content_of geometry parts
      → IfOk result (λ faulty. HasSize (λ m. seen (of_meta m)) (λ f. address_of (inner f)) (λ f. content_of (inner f)) geometry faulty)
  size_of_ok geometry parts (Ok faulty) meta blocks size = size_outside geometry faulty parts meta blocks size
  size_of_ok geometry parts (Err e) meta blocks size = tt

  -- what was told of parts is told of others with the same inside
  pub told_inside : (faulty others : Parts N F) (parts : Parts M B) (old new : Option (List ℕ)) → of_meta faulty.meta ≡ parts.meta → map inner faulty.blocks.items ≡ parts.blocks.items
      → of_meta others.meta ≡ parts.meta → map inner others.blocks.items ≡ parts.blocks.items
      → ToldParts (λ m. seen (of_meta m)) (λ f. content_of (inner f)) others old new → ToldParts (λ m. seen (of_meta m)) (λ f. content_of (inner f)) faulty old new
  told_inside faulty others parts old new meta blocks other_meta other_blocks told = record {
    geometry = told.geometry;
    image = told.image;
    held = subst (HoldVolume told.geometry told.image (seen (of_meta faulty.meta))) bytes
        (subst (λ area. HoldVolume told.geometry told.image area (bytes_at (λ f. content_of (inner f)) others.blocks.items)) (ap seen (other_meta ∙ sym meta)) told.held);
    lawful = told.lawful;
    told = subst (λ b. Appends old new (image_lines told.geometry told.image b)) bytes told.told;
  }
    where
      contents : map (λ f. content_of (inner f)) others.blocks.items ≡ map (λ f. content_of (inner f)) faulty.blocks.items
      contents =
          sym (map-map content_of inner others.blocks.items) ∙ ap (map content_of) (other_blocks ∙ sym blocks) ∙ map-map content_of inner faulty.blocks.items

      bytes : bytes_at (λ f. content_of (inner f)) others.blocks.items ≡ bytes_at (λ f. content_of (inner f)) faulty.blocks.items
      bytes = ap (λ (xs : List (List ℕ)). λ (address : ℕ). get_or xs (address - 1) []) contents

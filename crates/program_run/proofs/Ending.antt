-- A device holds one image, and that of a closed volume has the files that its passes showed: so what is told of it are
-- those files; of a wounded one a line says so, and what it holds is told.
use Rattle.std.proofs.Common.{◌≡◌, ◌∙◌, ℕ, List, ◌++◌, Option, ap, refl, sym, subst, inl, inr}
use Rattle.std.specs.Prelude.{◌↔◌}
use Rattle.std.proofs.KnownBytes.{Appends-trans}
use Rattle.device.specs.declared.parts.Parts.{Parts}
use Rattle.device.specs.Parts.{IsBlockRun}
use Rattle.geometry.specs.declared.geometry.Geometry.{Geometry}
use Rattle.geometry.specs.File.{File}
use Rattle.geometry.specs.Shape.{block_bytes}
use Rattle.image_law.specs.Items.{Among}
use Rattle.file_cells.specs.Pass.{Pass}
use Rattle.image.specs.Files.{files as files_of}
use Rattle.image.specs.Rules.{IsLawful}
use Rattle.image_codec.specs.Blocks.{bytes_at}
use Rattle.pack_tables.specs.OneImage.{OneImageLaw}
use Rattle.program_script.specs.declared.script.Step.{Step}
use Rattle.program_run.specs.Ending.{HoldsFiles, LeftScript, RanSteps, ToldParts, WasLeft}
use Rattle.program_run.specs.Files.{passes_among}
use Rattle.program_run.specs.Lines.{image_lines, unsynced_line}
use Rattle.program_run.specs.Run.{EndsClosed, WroteScript, format_line}
use Rattle.program_run.proofs.Shown.{files_shown}

-- the blocks of a device that a script left are a run
pub run_of_left : {M B : Type 0} (seen : M → List ℕ) (address_of : B → ℕ) (content_of : B → List ℕ) (steps : List Step) (parts : Parts M B) (old new : Option (List ℕ))
    → LeftScript seen address_of content_of steps parts old new → (bytes : ℕ) × IsBlockRun address_of content_of bytes 1 parts.blocks.items
run_of_left seen address_of content_of steps parts old new left = by_left left.left
  where
    by_left : WasLeft seen address_of content_of left.geometry left.passes parts left.middle new → (bytes : ℕ) × IsBlockRun address_of content_of bytes 1 parts.blocks.items
    by_left (inl (holds, same)) = (block_bytes left.geometry.shape, holds.size.run)
    by_left (inr (size, unsynced)) = (block_bytes left.geometry.shape, size.run)

module _ {M B : Type 0} (seen : M → List ℕ) (address_of : B → ℕ) (content_of : B → List ℕ) (law : OneImageLaw) where
  -- what was told of the parts of a closed volume is told of the files that its passes showed
  ends_closed : (steps : List Step) (geometry : Geometry) (passes : List Pass) (parts : Parts M B) (old middle last : Option (List ℕ))
      → (ran : RanSteps steps geometry passes old middle) → HoldsFiles seen address_of content_of geometry passes parts
      → (told : ToldParts seen content_of parts middle last) → EndsClosed ran.end (image_lines told.geometry told.image (bytes_at content_of parts.blocks.items))
  ends_closed steps geometry passes parts old middle last ran holds told =
      let bytes = bytes_at content_of parts.blocks.items in
      let same = law geometry told.geometry holds.image told.image (seen parts.meta) bytes holds.held told.held in
      let numbers : told.geometry ≡ ran.end.geometry = sym same.0 ∙ sym ran.numbers in
      let lawful : IsLawful ran.end.geometry told.image = subst (λ g. IsLawful g told.image) numbers told.lawful in
      let files : files_of ran.end.geometry told.image bytes ≡ files_of geometry holds.image bytes =
      ap (λ g. files_of g told.image bytes) (sym numbers) ∙ sym same.2 in
      let shown : (number : ℕ) (file : File) → Among (number, file) (files_of ran.end.geometry told.image bytes) ↔ Among (record { number = number; file = file }) (passes_among ran.end.passes) =
      λ number file. subst (λ p. Among (number, file) (files_of ran.end.geometry told.image bytes) ↔ Among (record { number = number; file = file }) p) ran.passes_are
      (subst (λ f. Among (number, file) f ↔ Among (record { number = number; file = file }) passes) (sym files) (holds.shown number file)) in
      record {
        image = told.image;
        blocks = bytes;
        lawful = lawful;
        shown = files_shown ran.end ran.placed told.image bytes shown;
        text_is = ap (λ g. image_lines g told.image bytes) numbers;
      }

  -- a script was run, its volume left, and what its device holds told
  pub wrote_script : (steps : List Step) (parts : Parts M B) (old new last : Option (List ℕ)) → LeftScript seen address_of content_of steps parts old new
      → ToldParts seen content_of parts new last → WroteScript steps old last
  wrote_script steps parts old new last left told = by_left left.left
    where
      text : List ℕ
      text = image_lines told.geometry told.image (bytes_at content_of parts.blocks.items)

      ran : RanSteps steps left.geometry left.passes old left.middle
      ran = left.ran

      by_left : WasLeft seen address_of content_of left.geometry left.passes parts left.middle new → WroteScript steps old last
      by_left (inl (holds, same)) =
          let quiet : ToldParts seen content_of parts left.middle last = subst (λ (c : Option (List ℕ)). ToldParts seen content_of parts c last) same told in
          record {
            geometry = ran.first;
            run = record {
              end = ran.end;
              lines = ran.ran.lines;
              last = image_lines quiet.geometry quiet.image (bytes_at content_of parts.blocks.items);
              run = ran.ran.run;
              ended = inl (ends_closed steps left.geometry left.passes parts old left.middle last ran holds quiet);
              told = Appends-trans old left.middle last (format_line ++ ran.ran.lines) (image_lines quiet.geometry quiet.image (bytes_at content_of parts.blocks.items)) ran.ran.told quiet.told;
            };
          }
      by_left (inr (size, unsynced)) = record {
        geometry = ran.first;
        run = record {
          end = ran.end;
          lines = ran.ran.lines;
          last = unsynced_line ++ text;
          run = ran.ran.run;
          ended = inr (record { geometry = told.geometry; image = told.image; blocks = bytes_at content_of parts.blocks.items; lawful = told.lawful; text_is = refl });
          told = Appends-trans old left.middle last (format_line ++ ran.ran.lines) (unsynced_line ++ text) ran.ran.told (Appends-trans left.middle new last unsynced_line text unsynced told.told);
        };
      }

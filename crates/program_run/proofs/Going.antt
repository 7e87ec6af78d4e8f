-- Each mount goes on with the files of the volume that was left before it: so the steps run on one volume after another
-- write the same lines as one run of all of them.
use Rattle.std.proofs.Common.{◌≡◌, ◌≢◌, ◌⊎◌, ◌∙◌, ℕ, suc, zero, true, List, [], ◌∷◌, ◌++◌, ap, sym, subst, refl, arith, inl, inr, append_assoc, take, drop, length, map, replicate, Option, Some, None, ◌+◌, ◌-◌, ◌<◌, ◌≤◌}
use Rattle.std.specs.Prelude.{Bool, false, if◌then◌else◌, slice_get}
use Rattle.std.specs.Io.KnownBytes.{Appends}
use Rattle.std.proofs.KnownBytes.{Appends-trans}
use Rattle.std.proofs.lemmas.Bool.{false≢true}
use Rattle.std.proofs.lemmas.List.{length-drop, take_all}
use Rattle.device.specs.Parts.{IsBlockRun}
use Rattle.file_cells.specs.Pass.{Pass}
use Rattle.geometry.specs.File.{Block, File}
use Rattle.geometry.specs.Shape.{block_bytes}
use Rattle.geometry.specs.declared.geometry.Geometry.{Geometry}
use Rattle.image.specs.Files.{files as files_of}
use Rattle.image.specs.Rules.{IsLawful}
use Rattle.file_cells.specs.Reader.{SnapshotOf}
use Rattle.program_script.specs.declared.command.Command.TheVariants.{Work as WorkOf, Now, Create, Delete, Status as TellStatus, Snap, Done, Fail, Remount}
use Rattle.program_script.specs.declared.script.Step.{Step}
use Rattle.program_script.specs.declared.script.Step.TheVariants.{Command as CommandStep, Part}
use Rattle.program_run.specs.Files.{ArePlaced, Files, IsOpened, no_files, open_count, passes_among}
use Rattle.program_run.proofs.Placing.{nothing_there}
use Rattle.pack_tables.specs.Grammar.{HasSuper}
use Rattle.pack_tables.proofs.Same.{one_geometry}
use Rattle.program_run.specs.Ending.{AreLeft, LeftScript, LeftSome, WasLeft, WentOn}
use Rattle.program_run.specs.Run.{IsHalted, IsRemounted, StepWrites, StepsWrite, WroteSteps, first_opening, format_line, is_remount, mount_line, mounted_of, opening_line}
use Rattle.image_codec.specs.Blocks.{bytes_at}
use Rattle.device.specs.declared.parts.Parts.{Parts}
use Rattle.program_run.specs.declared.remounting.Left.{Left}
use Rattle.program_run.specs.declared.steps.Opening.{Opening}
use Rattle.program_run.proofs.Runs.{more, one_more}

abbrev pair : Pass → ℕ × File
pair pass = (pass.number, pass.file)

-- no file is shown by no pass
no_pass : (passes : List Pass) → map pair passes ≡ [] → passes ≡ []
no_pass [] is = refl
no_pass (pass ∷ passes) is = absurd (let no = is in cc)

-- a volume without passes has no file
pub opened_none : (geometry : Geometry) (files : Files) → IsOpened geometry [] 0 0 files → files ≡ no_files geometry
opened_none geometry files opened =
    let none : files.passes ≡ replicate geometry.files None =
    nothing_there files.passes (ap length opened.passes_are) ∙ ap (λ n. replicate n None) (opened.placed.count ∙ ap (λ (g : Geometry). g.files) opened.numbers) in
    ap (λ g. record files { geometry = g }) opened.numbers
    ∙ ap (λ t. record files { geometry = geometry; time = t }) opened.time_is
    ∙ ap (λ p. record files { geometry = geometry; time = 0; passes = p }) none
    ∙ ap (λ r. record files { geometry = geometry; time = 0; passes = replicate geometry.files None; readers = r }) opened.closed

-- a step that mounts the volume again does so
pub remount_step : (step : Step) (old new : Files) (line : List ℕ) → is_remount step ≡ true → IsRemounted old new line → StepWrites step old new line
remount_step (CommandStep place (WorkOf work)) old new line is remounted = absurd (false≢true is)
remount_step (CommandStep place (Now time)) old new line is remounted = absurd (false≢true is)
remount_step (CommandStep place (Create kind)) old new line is remounted = absurd (false≢true is)
remount_step (CommandStep place (Delete file)) old new line is remounted = absurd (false≢true is)
remount_step (CommandStep place TellStatus) old new line is remounted = absurd (false≢true is)
remount_step (CommandStep place (Snap file)) old new line is remounted = absurd (false≢true is)
remount_step (CommandStep place (Done reader)) old new line is remounted = absurd (false≢true is)
remount_step (CommandStep place (Fail failure)) old new line is remounted = absurd (false≢true is)
remount_step (CommandStep place Remount) old new line is remounted = inl remounted
remount_step (Part place workers) old new line is remounted = absurd (false≢true is)

split_at : {A : Type 0} (xs : List A) (k : ℕ) (x : A) → slice_get xs k ≡ Some x → take k xs ++ x ∷ drop (suc k) xs ≡ xs
split_at [] k x is = absurd (let no = is in cc)
split_at (y ∷ ys) zero x is = ap (λ z. z ∷ ys) (sym (let same = is in cc))
split_at (y ∷ ys) (suc k) x is = ap (λ zs. y ∷ zs) (split_at ys k x is)

pub get_low : {A : Type 0} (xs : List A) (k : ℕ) (x : A) → slice_get xs k ≡ Some x → k < length xs
get_low [] k x is = absurd (let no = is in cc)
get_low (y ∷ ys) zero x is = omega arith
get_low (y ∷ ys) (suc k) x is = omega (arith, get_low ys k x is)

-- where not all steps were run, fewer were
pub halted_low : (steps : List Step) (run : ℕ) (readers : List (Option SnapshotOf)) → IsHalted steps run readers → run ≢ length steps → run < length steps
halted_low steps run readers (inl all) other = absurd (other all)
halted_low steps run readers (inr (step, there, again, none)) other = get_low steps run step there

module _ {M B L : Type 0} (seen : M → List ℕ) (address_of : B → ℕ) (content_of : B → List ℕ) where
  -- How far a script came: so many steps are done, and of the rest some were run on a volume that was left.
  pub record Gone (steps rest : List Step) (left : Left M B L) (old now : Option (List ℕ)) : Type 0 where
    pub done : List Step
    pub are : steps ≡ done ++ rest
    pub first : Geometry
    pub geometry : Geometry
    pub end : Files
    pub ended : List Pass
    pub middle : Option (List ℕ)
    pub ran : WroteSteps (done ++ take left.run rest) (no_files first) end format_line old middle
    pub placed : ArePlaced end
    pub numbers : end.geometry ≡ geometry
    pub passes_are : ended ≡ passes_among end.passes
    pub time_is : end.time ≡ left.carried.time
    pub readers_are : length end.readers ≡ left.carried.readers
    pub later_is : left.carried.formatted ≡ false
    pub halted : IsHalted rest left.run end.readers
    pub left_so : ((left.run ≡ length rest) × WasLeft seen address_of content_of geometry ended left.parts middle now)
        ⊎ ((left.run < length rest) × AreLeft seen address_of content_of geometry left.parts × (now ≡ middle))

  -- the last volume that was left, with what all steps before it wrote
  gone_so : (steps rest done : List Step) (first geometry : Geometry) (passes : List Pass) (opening : Opening) (left : Left M B L) (old start now : Option (List ℕ))
      → steps ≡ done ++ rest → (some : LeftSome seen address_of content_of rest geometry passes opening left start now)
      → WroteSteps (done ++ take left.run rest) (no_files first) some.ran.end format_line old some.middle → Gone steps rest left old now
  gone_so steps rest done first geometry passes opening left old start now are some ran = record {
    done = done;
    are = are;
    first = first;
    geometry = geometry;
    end = some.ran.end;
    ended = some.ended;
    middle = some.middle;
    ran = ran;
    placed = some.ran.placed;
    numbers = some.ran.numbers;
    passes_are = some.ran.passes_are;
    time_is = some.ran.time_is;
    readers_are = some.ran.readers_are;
    later_is = some.ran.later_is;
    halted = some.ran.halted;
    left_so = some.left_so;
  }

  -- on the first volume, which has no file
  begun_with : (steps : List Step) (geometry : Geometry) (left : Left M B L) (old now : Option (List ℕ))
      → LeftSome seen address_of content_of steps geometry [] first_opening left old now → Gone steps steps left old now
  begun_with steps geometry left old now some = gone_so steps steps [] geometry geometry [] first_opening left old old now refl some
      (subst (λ files. WroteSteps (take left.run steps) files some.ran.end format_line old some.middle) (opened_none geometry some.ran.begun some.ran.opened) some.ran.ran)

  pub begun : (steps : List Step) (parts : Parts M B) (left : Left M B L) (old now : Option (List ℕ))
      → (went : WentOn seen address_of content_of parts steps first_opening.carried left old now)
      → files_of went.geometry went.image (bytes_at content_of parts.blocks.items) ≡ [] → Gone steps steps left old now
  begun steps parts left old now went none =
      begun_with steps went.geometry left old now
      (subst (λ (passes : List Pass). LeftSome seen address_of content_of steps went.geometry passes first_opening left old now) (no_pass went.on.passes (went.on.shown ∙ none)) went.on.some)

  -- the blocks of a device that is to be mounted again are a run
  pub run_of_gone : (steps rest : List Step) (left : Left M B L) (old now : Option (List ℕ)) → left.run < length rest → Gone steps rest left old now
      → (bytes : ℕ) × IsBlockRun address_of content_of bytes 1 left.parts.blocks.items
  run_of_gone steps rest left old now low gone = by_left gone.left_so
    where
      by_left : ((left.run ≡ length rest) × WasLeft seen address_of content_of gone.geometry gone.ended left.parts gone.middle now)
          ⊎ ((left.run < length rest) × AreLeft seen address_of content_of gone.geometry left.parts × (now ≡ gone.middle))
          → (bytes : ℕ) × IsBlockRun address_of content_of bytes 1 left.parts.blocks.items
      by_left (inl (all, was)) = absurd (omega (arith, low, all))
      by_left (inr (some, parts, same)) = (block_bytes gone.geometry.shape, parts.size.run)

  module _ (steps rest : List Step) (left new : Left M B L) (old now last : Option (List ℕ)) (low : left.run < length rest) (gone : Gone steps rest left old now)
      (went : WentOn seen address_of content_of left.parts (drop (left.run + 1) rest) left.carried new now last) where
    abbrev some : LeftSome seen address_of content_of (drop (left.run + 1) rest) went.geometry went.on.passes (record { mounted = mounted_of left.carried went.image.version; carried = left.carried }) new now last
    some = went.on.some

    abbrev again : Files
    again = some.ran.begun

    quiet : now ≡ gone.middle
    quiet = by_left gone.left_so
      where
        by_left : ((left.run ≡ length rest) × WasLeft seen address_of content_of gone.geometry gone.ended left.parts gone.middle now)
            ⊎ ((left.run < length rest) × AreLeft seen address_of content_of gone.geometry left.parts × (now ≡ gone.middle)) → now ≡ gone.middle
        by_left (inl (all, was)) = absurd (omega (arith, low, all))
        by_left (inr (less, size, same)) = same

    front : HasSuper gone.geometry (seen left.parts.meta)
    front = by_left gone.left_so
      where
        by_left : ((left.run ≡ length rest) × WasLeft seen address_of content_of gone.geometry gone.ended left.parts gone.middle now)
            ⊎ ((left.run < length rest) × AreLeft seen address_of content_of gone.geometry left.parts × (now ≡ gone.middle)) → HasSuper gone.geometry (seen left.parts.meta)
        by_left (inl (all, was)) = absurd (omega (arith, low, all))
        by_left (inr (less, parts, same)) = parts.front

    halt : (step : Step) × (slice_get rest left.run ≡ Some step) × (is_remount step ≡ true) × (open_count gone.end.readers ≡ 0)
    halt = by_halt gone.halted
      where
        by_halt : IsHalted rest left.run gone.end.readers → (step : Step) × (slice_get rest left.run ≡ Some step) × (is_remount step ≡ true) × (open_count gone.end.readers ≡ 0)
        by_halt (inl all) = absurd (omega (arith, low, all))
        by_halt (inr one) = one

    abbrev line : List ℕ
    line = mount_line went.image.version

    abbrev blocks : ℕ → Block
    blocks = bytes_at content_of left.parts.blocks.items

    -- what is carried goes to a volume that is mounted, and not formatted
    told_is : Appends now some.middle (line ++ some.ran.ran.lines)
    told_is =
        subst (λ (formatted : Bool). Appends now some.middle (opening_line (if formatted then None else Some went.image.version) ++ some.ran.ran.lines)) gone.later_is some.ran.ran.told

    remounted : IsRemounted gone.end again line
    remounted = record {
      image = went.image;
      blocks = blocks;
      none_open = halt.3;
      numbers_are = some.ran.opened.numbers ∙ one_geometry went.geometry gone.geometry (seen left.parts.meta) went.front front ∙ sym gone.numbers;
      lawful = subst (λ g. IsLawful g went.image) (sym some.ran.opened.numbers) went.lawful;
      shown = ap (map pair) some.ran.opened.passes_are ∙ went.on.shown ∙ ap (λ g. files_of g went.image blocks) (sym some.ran.opened.numbers);
      placed = some.ran.opened.placed;
      time_is = some.ran.opened.time_is ∙ sym gone.time_is;
      readers_are = some.ran.opened.closed ∙ ap (λ n. replicate n None) (sym gone.readers_are) ∙ sym (nothing_there gone.end.readers halt.3);
      told = refl;
    }

    next : suc left.run ≡ left.run + 1
    next = omega arith

    abbrev behind : List Step
    behind = gone.done ++ (take left.run rest ++ (halt.0 ∷ []))

    -- on the volume that was mounted again
    pub went_on : Gone steps (drop (left.run + 1) rest) new old last
    went_on = gone_so steps (drop (left.run + 1) rest) behind gone.first went.geometry went.on.passes (record { mounted = mounted_of left.carried went.image.version; carried = left.carried }) new old now last
        (gone.are
        ∙ ap (λ xs. gone.done ++ xs) (sym (split_at rest left.run halt.0 halt.1) ∙ ap (λ n. take left.run rest ++ halt.0 ∷ drop n rest) next ∙ sym (append_assoc (take left.run rest) (halt.0 ∷ []) (drop (left.run + 1) rest)))
        ∙ sym (append_assoc gone.done (take left.run rest ++ halt.0 ∷ []) (drop (left.run + 1) rest)))
        some
        (record {
          lines = (gone.ran.lines ++ line) ++ some.ran.ran.lines;
          run = more behind (take new.run (drop (left.run + 1) rest)) (no_files gone.first) again some.ran.end (gone.ran.lines ++ line) some.ran.ran.lines
              (subst (λ xs. StepsWrite xs (no_files gone.first) again (gone.ran.lines ++ line)) (append_assoc gone.done (take left.run rest) (halt.0 ∷ []))
              (one_more (gone.done ++ take left.run rest) halt.0 (no_files gone.first) gone.end again gone.ran.lines line gone.ran.run (remount_step halt.0 gone.end again line halt.2 remounted)))
              some.ran.ran.run;
          told = subst (Appends old some.middle)
              (append_assoc format_line gone.ran.lines (line ++ some.ran.ran.lines) ∙ ap (λ xs. format_line ++ xs) (sym (append_assoc gone.ran.lines line some.ran.ran.lines)))
              (Appends-trans old gone.middle some.middle (format_line ++ gone.ran.lines) (line ++ some.ran.ran.lines) gone.ran.told
              (subst (λ c. Appends c some.middle (line ++ some.ran.ran.lines)) quiet told_is));
        })

  -- all steps were run, and the last volume was left
  pub ended : (steps rest : List Step) (left : Left M B L) (old now : Option (List ℕ)) → length rest ≤ left.run → Gone steps rest left old now
      → LeftScript seen address_of content_of steps left.parts old now
  ended steps rest left old now past gone = by_left gone.left_so
    where
      by_left : ((left.run ≡ length rest) × WasLeft seen address_of content_of gone.geometry gone.ended left.parts gone.middle now)
          ⊎ ((left.run < length rest) × AreLeft seen address_of content_of gone.geometry left.parts × (now ≡ gone.middle)) → LeftScript seen address_of content_of steps left.parts old now
      by_left (inl (all, was)) = record {
        geometry = gone.geometry;
        passes = gone.ended;
        middle = gone.middle;
        ran = record {
          first = gone.first;
          end = gone.end;
          ran = subst (λ xs. WroteSteps xs (no_files gone.first) gone.end format_line old gone.middle) (ap (λ xs. gone.done ++ xs) (take_all left.run rest past) ∙ sym gone.are) gone.ran;
          placed = gone.placed;
          numbers = gone.numbers;
          passes_are = gone.passes_are;
        };
        left = was;
      }
      by_left (inr (less, size, same)) = absurd (omega (arith, past, less))

-- the rest of a list behind a place, as a slice of it is
pub rest_is : {A : Type 0} (xs : List A) (k : ℕ) → take (length xs - k) (drop k xs) ≡ drop k xs
rest_is xs k = take_all (length xs - k) (drop k xs) (omega (arith, length-drop k xs))

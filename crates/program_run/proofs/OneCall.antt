-- A call changes the pass at its number's place and no other: so the volume's files are as before but for that one,
-- changed where the answer is Ok and the same where it isn't.
use Rattle.std.proofs.Common.{◌≡◌, ◌≢◌, ◌⊎◌, ◌∙◌, ℕ, ◌+◌, ap, sym, subst, refl, inl, inr, get_or, List, length, ◌<◌, Option, Result, Some, None, Ok, Err, OnOk, OnErr, IfErr, is_some}
use Rattle.std.specs.Prelude.{unwrap_or}
use Rattle.std.proofs.lemmas.List.{get_or_read_under}
use Rattle.geometry.specs.File.{Block, File, cut_to, written}
use Rattle.geometry.specs.declared.error.Error.{Error}
use Rattle.geometry.specs.declared.error.Error.TheVariants.{NoMemory, Device, NoSpace, NoFile, NoNode, TooFar, BadLength, Wounded}
use Rattle.file_cells.specs.Pass.{Pass}
use Rattle.program_run.specs.Files.{ArePlaced, Files, HasFile, file_at, with_file}
use Rattle.program_run.specs.Work.{IsCut, IsRefusedWounded, IsWritten, equal_block}
use Rattle.program_run.proofs.FilePlaces.{changed, has_at, pass_is, placed_still, put_again, put_at, put_back}

-- the errors of a write
abbrev pub IsOfWrite : Error → Type 0
IsOfWrite error =
    (error ≡ BadLength) ⊎ ((error ≡ TooFar) ⊎ ((error ≡ Wounded) ⊎ ((error ≡ NoMemory) ⊎ ((error ≡ NoNode) ⊎ ((error ≡ NoSpace) ⊎ (error ≡ Device))))))

some_file : (error : Error) → IsOfWrite error → error ≢ NoFile
some_file error (inl e) is = absurd (let no = sym e ∙ is in cc)
some_file error (inr (inl e)) is = absurd (let no = sym e ∙ is in cc)
some_file error (inr (inr (inl e))) is = absurd (let no = sym e ∙ is in cc)
some_file error (inr (inr (inr (inl e)))) is = absurd (let no = sym e ∙ is in cc)
some_file error (inr (inr (inr (inr (inl e))))) is = absurd (let no = sym e ∙ is in cc)
some_file error (inr (inr (inr (inr (inr (inl e)))))) is = absurd (let no = sym e ∙ is in cc)
some_file error (inr (inr (inr (inr (inr (inr e)))))) is = absurd (let no = sym e ∙ is in cc)

-- the pass that was read at a place of the list, by what is seen of it
pub found_at : (passes seen : List (Option Pass)) (place : ℕ) (o : Option Pass) (pass : Pass) → seen ≡ passes → place < length seen → o ≡ get_or passes place o → o ≡ Some pass
    → get_or passes place None ≡ Some pass
found_at passes seen place o pass same within read is =
    sym (get_or_read_under passes place (length passes) o None read (subst (λ xs. place < length xs) same within) refl) ∙ is

-- a new pass is put at its place
pub placed_new : (files : Files) (place : ℕ) (pass : Pass) → ArePlaced files → pass.number ≡ place + 1 → ArePlaced (put_at files place (Some pass))
placed_new files place pass placed is = placed_still files place (Some pass) placed (λ one e. ap (λ (p : Pass). p.number) (sym (ap (λ o. unwrap_or o pass) e)) ∙ is)

-- a pass at a place, by the files
module _ (files : Files) (place number : ℕ) (old new : Pass) (placed : ArePlaced files) (is : place + 1 ≡ number) (at : get_or files.passes place None ≡ Some old) where
  there : HasFile files number
  there = has_at files place number is (ap is_some at)

  changed_by : (change : File → File) → new ≡ record old { file = change old.file } → put_at files place (Some new) ≡ with_file files number (change (file_at files number))
  changed_by change made =
      let shown : record old { file = change old.file } ≡ record { number = number; file = change (file_at files number) } =
      ap (λ (p : Pass). record p { file = change p.file }) (pass_is files place number old placed is at) in
      ap (λ p. put_at files place (Some p)) (made ∙ shown)
      ∙ changed files place number (record { number = number; file = change (file_at files number) }) is refl

  kept : new ≡ old → put_at files place (Some new) ≡ files
  kept same = ap (λ p. put_at files place (Some p)) same ∙ put_back files place old at

  same_number : (result : Result (Unit {0}) Error) (file : File) → OnOk result (new ≡ record old { file = file }) → OnErr result (new ≡ old) → new.number ≡ old.number
  same_number (Ok done) file ok err = ap (λ p. p.number) ok
  same_number (Err error) file ok err = ap (λ p. p.number) err

  pub placed_changed : (result : Result (Unit {0}) Error) (file : File) → OnOk result (new ≡ record old { file = file }) → OnErr result (new ≡ old) → ArePlaced (put_at files place (Some new))
  placed_changed result file ok err =
      placed_still files place (Some new) placed (λ pass e. ap (λ p. p.number) (sym (ap (λ o. unwrap_or o new) e)) ∙ same_number result file ok err ∙ placed.numbers place old at)

  pub written_told : (index byte : ℕ) (block : Block) (result : Result (Unit {0}) Error) → block ≡ equal_block files byte
      → OnOk result (new ≡ record old { file = written old.file index block }) → OnErr result (new ≡ old) → IfErr result IsOfWrite
      → IsWritten files number index byte result (put_at files place (Some new))
  written_told index byte block (Ok done) equal ok err error =
      (there, changed_by (λ f. written f index block) ok ∙ ap (λ b. with_file files number (written (file_at files number) index b)) equal)
  written_told index byte block (Err e) equal ok err error = (inl (there, some_file e error), kept err)

  pub cut_told : (length : ℕ) (result : Result (Unit {0}) Error)
      → OnOk result (new ≡ record old { file = cut_to old.file length }) → OnErr result (new ≡ old) → IfErr result (λ e. e ≡ Wounded)
      → IsCut files number length result (put_at files place (Some new))
  cut_told length (Ok done) ok err error = (there, changed_by (λ f. cut_to f length) ok)
  cut_told length (Err e) ok err error = (inl (there, error), kept err)

  pub taken_placed : (one : Option Pass) → one ≡ None → ArePlaced (put_at files place one)
  taken_placed one none = placed_still files place one placed (λ pass e. absurd (let no = sym none ∙ e in cc))

  pub given_back : (first : Option Pass) → new ≡ old → put_at (put_at files place first) place (Some new) ≡ files
  given_back first same = ap (λ p. put_at (put_at files place first) place (Some p)) same ∙ put_again files place first old at

  pub refused_told : (error : Error) → error ≡ Wounded → IsRefusedWounded files number error
  refused_told error is_wounded = inl (there, is_wounded)

-- A run of steps is one step behind another: so a run and one step more, or another run behind it, is a run, and its
-- lines follow one another.
use Rattle.std.proofs.Common.{◌≡◌, ◌∙◌, ℕ, List, [], ◌∷◌, ◌++◌, ap, sym, subst, refl, append_assoc, append-nil, take, length, Option, ◌+◌, ◌<◌, ◌≤◌}
use Rattle.program_script.specs.declared.script.Step.{Step}
use Rattle.program_run.specs.Files.{Files}
use Rattle.std.specs.Prelude.{get_or}
use Rattle.std.specs.Io.KnownBytes.{Appends}
use Rattle.std.proofs.KnownBytes.{Appends-trans}
use Rattle.std.proofs.lemmas.List.{take_all, take_more}
use Rattle.program_run.specs.Work.{Wrote}
use Rattle.program_run.specs.Run.{StepWrites, StepsWrite, WroteSteps}

pub one_more : (steps : List Step) (step : Step) (begun now new : Files) (lines line : List ℕ)
    → StepsWrite steps begun now lines → StepWrites step now new line → StepsWrite (steps ++ step ∷ []) begun new (lines ++ line)
one_more [] step begun now new lines line run one =
    (new, line, [], subst (λ files. StepWrites step files new line) run.0 one, (refl, refl), ap (λ text. text ++ line) run.1 ∙ sym (append-nil line))
one_more (first ∷ steps) step begun now new lines line (middle, head, rest, does, run, is) one =
    (middle, head, rest ++ line, does, one_more steps step middle now new rest line run one, ap (λ text. text ++ line) is ∙ append_assoc head rest line)

-- steps behind others
pub more : (steps others : List Step) (begun now new : Files) (lines rest : List ℕ)
    → StepsWrite steps begun now lines → StepsWrite others now new rest → StepsWrite (steps ++ others) begun new (lines ++ rest)
more [] others begun now new lines rest run next =
    subst (λ text. StepsWrite others begun new (text ++ rest)) (sym run.1) (subst (λ files. StepsWrite others files new rest) run.0 next)
more (first ∷ steps) others begun now new lines rest (middle, head, tail, does, run, is) next =
    (middle, head, tail ++ rest, does, more steps others middle now new tail rest run next, ap (λ text. text ++ rest) is ∙ append_assoc head tail rest)

-- the next step of a script wrote its line
pub wrote_more : (steps : List Step) (place : ℕ) (step : Step) (begun now new : Files) (first : List ℕ) (old middle last : Option (List ℕ))
    → place < length steps → step ≡ get_or steps place step
    → WroteSteps (take place steps) begun now first old middle → Wrote (StepWrites step now new) middle last
    → WroteSteps (take (place + 1) steps) begun new first old last
wrote_more steps place step begun now new first old middle last low is so_far wrote = record {
  lines = so_far.lines ++ wrote.line;
  run = subst (λ run. StepsWrite run begun new (so_far.lines ++ wrote.line))
      (ap (λ s. take place steps ++ s ∷ []) is ∙ sym (take_more steps place step low))
      (one_more (take place steps) step begun now new so_far.lines wrote.line so_far.run wrote.is_line);
  told = subst (Appends old last) (append_assoc first so_far.lines wrote.line)
      (Appends-trans old middle last (first ++ so_far.lines) wrote.line so_far.told wrote.told);
}

-- all steps were run
pub wrote_all : (steps : List Step) (place : ℕ) (begun now : Files) (first : List ℕ) (old new : Option (List ℕ)) → length steps ≤ place
    → WroteSteps (take place steps) begun now first old new → WroteSteps steps begun now first old new
wrote_all steps place begun now first old new past = subst (λ run. WroteSteps run begun now first old new) (take_all place steps past)

-- a run behind a line that was written
pub behind_line : (steps : List Step) (begun now : Files) (line : List ℕ) (old middle new : Option (List ℕ)) → Appends old middle line
    → WroteSteps steps begun now [] middle new → WroteSteps steps begun now line old new
behind_line steps begun now line old middle new told ran = record {
  lines = ran.lines;
  run = ran.run;
  told = Appends-trans old middle new line ran.lines told ran.told;
}

-- A worker's tasks, and one task more.
use Rattle.std.proofs.Common.{◌∙◌, ℕ, List, [], ◌∷◌, ◌++◌, ap, sym, subst, refl, append_assoc, append-nil, take, length, get_or, Option, ◌+◌, ◌<◌, ◌≤◌}
use Rattle.std.proofs.KnownBytes.{Appends-trans}
use Rattle.std.proofs.lemmas.List.{take_all, take_more}
use Rattle.program_script.specs.declared.script.WorkerTask.{WorkerTask}
use Rattle.program_run.specs.Files.{Files}
use Rattle.program_run.specs.Work.{Wrote}
use Rattle.program_run.specs.Tasks.{TaskWrites, TasksWrite}

one_more : (number : ℕ) (tasks : List WorkerTask) (task : WorkerTask) (begun now new : Files) (lines line : List ℕ)
    → TasksWrite number tasks begun now lines → TaskWrites number task.work now new line → TasksWrite number (tasks ++ task ∷ []) begun new (lines ++ line)
one_more number [] task begun now new lines line run one =
    (new, line, [], subst (λ files. TaskWrites number task.work files new line) run.0 one, (refl, refl), ap (λ text. text ++ line) run.1 ∙ sym (append-nil line))
one_more number (first ∷ tasks) task begun now new lines line (middle, head, rest, does, run, is) one =
    (middle, head, rest ++ line, does, one_more number tasks task middle now new rest line run one, ap (λ text. text ++ line) is ∙ append_assoc head rest line)

-- the next task was done
pub wrote_more : (number : ℕ) (tasks : List WorkerTask) (place : ℕ) (begun now new : Files) (none : WorkerTask) (old middle last : Option (List ℕ)) → place < length tasks
    → Wrote (TasksWrite number (take place tasks) begun now) old middle → Wrote (TaskWrites number (get_or tasks place none).work now new) middle last
    → Wrote (TasksWrite number (take (place + 1) tasks) begun new) old last
wrote_more number tasks place begun now new none old middle last low so_far wrote = record {
  line = so_far.line ++ wrote.line;
  is_line = subst (λ run. TasksWrite number run begun new (so_far.line ++ wrote.line)) (sym (take_more tasks place none low))
      (one_more number (take place tasks) (get_or tasks place none) begun now new so_far.line wrote.line so_far.is_line wrote.is_line);
  told = Appends-trans old middle last so_far.line wrote.line so_far.told wrote.told;
}

-- all tasks were done
pub wrote_all : (number : ℕ) (tasks : List WorkerTask) (place : ℕ) (begun now : Files) (old new : Option (List ℕ)) → length tasks ≤ place
    → Wrote (TasksWrite number (take place tasks) begun now) old new → Wrote (TasksWrite number tasks begun now) old new
wrote_all number tasks place begun now old new past = subst (λ run. Wrote (TasksWrite number run begun now) old new) (take_all place tasks past)

-- A round runs commands up to a part, or up to where the steps halt. Both are told of the steps behind the first one, and so of all.
use Rattle.std.proofs.Common.{◌≡◌, ◌∙◌, ℕ, List, ap, sym, subst, refl, arith, inl, inr, drop, length, map, Option, Some, Result, Ok, Vec, IfOk, ◌+◌, ◌-◌, ◌<◌, ◌≤◌}
use Rattle.std.specs.Prelude.{false, get_or, slice_get}
use Rattle.std.specs.declared.alloc.Global.{Global}
use Rattle.std.proofs.lemmas.Bool.{false≢true}
use Rattle.std.proofs.lemmas.List.{get_or-drop, length-drop}
use Rattle.std.proofs.lemmas.Option.{get_or_from_slice_get, slice_get-get_or, slice_get_read}
use Rattle.file_cells.specs.Reader.{SnapshotOf}
use Rattle.flash_volume.specs.Rounds.{Held, Lot}
use Rattle.flash_volume.specs.declared.leave.Leave.{Leave}
use Rattle.geometry.specs.declared.geometry.Geometry.{Geometry}
use Rattle.program_script.specs.declared.script.Step.{Step}
use Rattle.program_run.specs.Files.{Files}
use Rattle.program_run.specs.PartJobs.{Hand}
use Rattle.program_run.specs.Scheduler.{Begins, HasNoPart, IsLeave, IsLeft, Pauses}
use Rattle.program_run.specs.Run.{IsHalted, IsPaused, is_part}
use Rattle.program_run.specs.declared.scheduler.Pause.{Pause}
use Rattle.program_run.specs.declared.steps.Carried.{Carried}
use Rattle.program_run.proofs.Going.{get_low}
use Rattle.volume.specs.declared.volume.Base.{Base}

-- an item behind a place of a list, as one of the whole list, and the other way
behind : {A : Type 0} (xs : List A) (first more : ℕ) (x : A) → slice_get (drop first xs) more ≡ Some x → slice_get xs (first + more) ≡ Some x
behind xs first more x is =
    let low = get_low (drop first xs) more x is in
    let all = length-drop first xs in
    slice_get_read xs (length xs) (first + more) x refl (omega (arith, low, all))
    (sym (get_or_from_slice_get (drop first xs) more x x is) ∙ get_or-drop first xs more x)

pub ahead : {A : Type 0} (xs : List A) (first more : ℕ) (x : A) → slice_get xs (first + more) ≡ Some x → slice_get (drop first xs) more ≡ Some x
ahead xs first more x is =
    let low = get_low xs (first + more) x is in
    let all = length-drop first xs in
    slice_get_read (drop first xs) (length (drop first xs)) more x refl (omega (arith, low, all))
    (sym (get_or_from_slice_get xs (first + more) x x is) ∙ sym (get_or-drop first xs more x))

-- the step that was read at a place stands there
pub there : (steps : List Step) (run : ℕ) (one step : Step) → run < length steps → one ≡ get_or steps run one → one ≡ step → slice_get steps run ≡ Some step
there steps run one step low is same = slice_get-get_or steps run one low ∙ ap Some (sym is ∙ same)

pub none_past : (steps : List Step) (run : ℕ) → length steps ≤ run → HasNoPart steps run
none_past steps run past step at = absurd (let low = get_low steps run step at in omega (arith, low, past))

pub none_there : (steps : List Step) (run : ℕ) (one step : Step) → one ≡ get_or steps run one → one ≡ step → is_part step ≡ false → HasNoPart steps run
none_there steps run one step is same other found at = ap is_part (sym (get_or_from_slice_get steps run found one at) ∙ sym is ∙ same) ∙ other

-- where no part is next, the steps have halted
pub halts : (steps : List Step) (first more : ℕ) (readers : List (Option SnapshotOf)) → first ≤ length steps → HasNoPart steps (first + more) → IsPaused (drop first steps) more readers
    → IsHalted steps (first + more) readers
halts steps first more readers low none (inl (inl all)) = inl (let whole = length-drop first steps in omega (arith, all, whole, low))
halts steps first more readers low none (inl (inr (step, at, again, closed))) = inr (step, behind steps first more step at, again, closed)
halts steps first more readers low none (inr (step, at, part)) = absurd (false≢true (sym (none step (behind steps first more step at)) ∙ part))

-- where they have not halted before their end, all were run
pub leaves : (steps : List Step) (run : ℕ) (readers : List (Option SnapshotOf)) (leave : Leave) (old new : Option (List ℕ)) → IsHalted steps run readers → length steps ≤ run → IsLeft leave old new
    → IsLeave steps run leave old new
leaves steps run readers leave old new (inl all) past left = inl (all, left)
leaves steps run readers leave old new (inr (step, at, again, closed)) past left = absurd (let low = get_low steps run step at in omega (arith, low, past))

-- a round begins with what it has taken of what it was lent
pub begins_as : {W E A : Type 0} (text_of : W → List ℕ) (lot_of : A → Lot (Result W E)) (carried : Carried) (geometry : Geometry) (base : Base) (taken held : Held) (back ended : Vec A Global) (asked begun : Option ℕ)
    (start : Files) (old new : Option (List ℕ)) → taken ≡ held → back ≡ ended → asked ≡ begun → Begins text_of carried geometry base taken (map lot_of back.items) asked start old new
    → Begins text_of carried geometry base held (map lot_of ended.items) begun start old new
begins_as text_of lot_of carried geometry base taken held back ended asked begun start old new mine own same begins =
    subst (λ (b : Option ℕ). Begins text_of carried geometry base held (map lot_of ended.items) b start old new) same
    (subst (λ (vec : Vec _ Global). Begins text_of carried geometry base held (map lot_of vec.items) asked start old new) own
    (subst (λ (has : Held). Begins text_of carried geometry base has (map lot_of back.items) asked start old new) mine begins))

-- how a round paused, of what it has put back
pub paused_so : {D E O : Type 0} (lot_of : D → Lot Hand) (contents : O → Option (List ℕ)) (steps : List Step) (geometry : Geometry) (first : ℕ) (start : Files) (old : Option (List ℕ))
    (turned result : Result (Pause D × Held) E) (pause form : Pause D) (kept held : Held) (out now : O) → turned ≡ result → turned ≡ Ok (pause, kept) → pause ≡ form → held ≡ kept → now ≡ out
    → IfOk result (λ end. Pauses steps geometry first start old (contents out) lot_of end.0 end.1) → Pauses steps geometry first start old (contents now) lot_of form held
paused_so lot_of contents steps geometry first start old turned result pause form kept held out now same is so mine on did =
    let ended = subst (λ r. IfOk r (λ end. Pauses steps geometry first start old (contents out) lot_of end.0 end.1)) (sym same ∙ is) did in
    subst (λ o. Pauses steps geometry first start old (contents o) lot_of form held) (sym on)
    (subst (λ h. Pauses steps geometry first start old (contents out) lot_of form h) (sym mine)
    (subst (λ p. Pauses steps geometry first start old (contents out) lot_of p kept) so ended))

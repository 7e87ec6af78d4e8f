-- Each move of a standing is a step of its segment's life.
use Rattle.std.proofs.Common.{◌≡◌, ℕ, ◌<◌, sym, ap, ◌∙◌, subst}
use Rattle.geometry.specs.declared.state.State.{State}
use Rattle.geometry.specs.declared.state.State.TheVariants.{Free, Open, Sealed, Prefree}
use Rattle.words.specs.declared.claim.Life.{Life}
use Rattle.geometry.specs.Life.{Stage, StepFrom, LifeStep}
use Rattle.geometry.specs.Life as life
use Rattle.words.specs.Steps.{stage_of, life_seen, life_loaded, life_opened, life_sealed, life_retired, life_freed}

step_from : (st : State) (completed : ℕ) (a b : Stage) → a.state ≡ st → StepFrom st completed a b → LifeStep completed a b
step_from st completed a b is step = subst (λ k. StepFrom k completed a b) (sym is) step

pub opened-step : (old new : Life) → old.state ≡ Free → new ≡ life_opened old → LifeStep new.seen (stage_of old) (stage_of new)
opened-step old new is e = step_from Free new.seen (stage_of old) (stage_of new) is (ap stage_of e)

pub sealed-step : (old new : Life) (found : ℕ) → old.state ≡ Open → new ≡ life_sealed old found → LifeStep new.seen (stage_of old) (stage_of new)
sealed-step old new found is e = step_from Open new.seen (stage_of old) (stage_of new) is (ap stage_of e)

pub retired-step : (old new : Life) (completed found : ℕ) → old.state ≡ Sealed → new ≡ life_retired (life_seen old completed) found → LifeStep new.seen (stage_of old) (stage_of new)
retired-step old new completed found is e =
    step_from Sealed new.seen (stage_of old) (stage_of new) is (ap stage_of e ∙ ap (λ c. life.retired c (stage_of old)) (sym (ap (λ l. l.seen) e)))

pub freed-step : (old new : Life) (completed : ℕ) → old.state ≡ Prefree → old.stamp < completed → new ≡ life_freed (life_seen (life_loaded old 0) completed) → LifeStep new.seen (stage_of old) (stage_of new)
freed-step old new completed is later e =
    step_from Prefree new.seen (stage_of old) (stage_of new) is (subst (λ c. old.stamp < c) (sym (ap (λ l. l.seen) e)) later, ap stage_of e)

-- What follows of an answer, and of a fault by its stage.
use Rattle.std.proofs.Common.{◌≡◌, ◌≢◌, ◌⊎◌, refl, Result, Ok, Err, IfOk, IfErr, inl, inr, ◌∙◌, sym}
use Rattle.flash_volume.specs.Worked.{IsNotClosed}
use Rattle.flash_volume.specs.declared.leave.Stage.{Stage}
use Rattle.flash_volume.specs.declared.leave.Stage.TheVariants.{Format, Mount, Work, Close}
use Rattle.geometry.specs.declared.error.Error.{Error}

-- what holds of a value, and what follows from it
pub ok_then : {T E : Type 0} (result : Result T E) (P Q : T → Type 0) → ((value : T) → P value → Q value) → IfOk result P → IfOk result Q
ok_then (Ok value) P Q step holds = step value holds
ok_then (Err error) P Q step holds = tt

-- the same of two facts
pub ok_both : {T E : Type 0} (result : Result T E) (P O Q : T → Type 0) → ((value : T) → P value → O value → Q value) → IfOk result P → IfOk result O → IfOk result Q
ok_both (Ok value) P O Q step holds too = step value holds too
ok_both (Err error) P O Q step holds too = tt

-- the same of an error
pub err_then : {T E : Type 0} (result : Result T E) (P Q : E → Type 0) → ((error : E) → P error → Q error) → IfErr result P → IfErr result Q
err_then (Ok value) P Q step holds = tt
err_then (Err error) P Q step holds = step error holds

-- the same of two facts
pub err_both : {T E : Type 0} (result : Result T E) (P O Q : E → Type 0) → ((error : E) → P error → O error → Q error) → IfErr result P → IfErr result O → IfErr result Q
err_both (Ok value) P O Q step holds too = tt
err_both (Err error) P O Q step holds too = step error holds too

-- a fault at the close tells why there was none
pub why_not_closed : {P : Type 0} (stage : Stage) (error : Error) → ((stage ≡ Work) × P) ⊎ ((stage ≡ Close) × IsNotClosed error) → stage ≡ Close → IsNotClosed error
why_not_closed stage error (inl at_work) at_close = absurd (let no = sym at_work.0 ∙ at_close in cc)
why_not_closed stage error (inr (at_close, why)) again = why

-- one at the work tells why that failed
pub why_failed : {P : Type 0} (stage : Stage) (error : Error) → ((stage ≡ Work) × P) ⊎ ((stage ≡ Close) × IsNotClosed error) → stage ≡ Work → P
why_failed stage error (inl at_work) again = at_work.1
why_failed stage error (inr (at_close, why)) at_work = absurd (let no = sym at_close ∙ at_work in cc)

-- a stage is that of the mount, or another
pub at_mount : (stage : Stage) → (stage ≡ Mount) ⊎ (stage ≢ Mount)
at_mount Format = inr (λ is. cc)
at_mount Mount = inl refl
at_mount Work = inr (λ is. cc)
at_mount Close = inr (λ is. cc)

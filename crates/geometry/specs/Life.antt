-- The life of a segment: free, open, sealed, prefree, and free again, as f2fs has it (Linux `filesystems/f2fs`).
use Rattle.std.specs.Prelude.{◌≡◌, ℕ, ◌+◌, ◌<◌}
use Rattle.geometry.specs.declared.state.State.{State}
use Rattle.geometry.specs.declared.state.State.TheVariants.{Free, Open, Sealed, Prefree}

-- where a segment is in its life: its state, how often it was opened, and the version that was complete when it was
-- last retired
pub record Stage : Type 0 where
  pub state : State
  pub incarnation : ℕ
  pub stamp : ℕ

abbrev pub opened : Stage → Stage
opened old = record old { state = Open; incarnation = old.incarnation + 1 }

abbrev pub sealed : Stage → Stage
sealed old = record old { state = Sealed }

abbrev pub retired : ℕ → Stage → Stage
retired completed old = record old { state = Prefree; stamp = completed }

abbrev pub freed : Stage → Stage
freed old = record old { state = Free }

-- what may come after a state, while the version `completed` is complete
abbrev pub StepFrom : State → ℕ → Stage → Stage → Type 0
StepFrom Free completed old new = new ≡ opened old
StepFrom Open completed old new = new ≡ sealed old
StepFrom Sealed completed old new = new ≡ retired completed old
StepFrom Prefree completed old new = (old.stamp < completed) × (new ≡ freed old)

-- one step of a segment's life. A sealed segment is stamped with the completed version, and a prefree one is free
-- only past its stamp.
abbrev pub LifeStep : ℕ → Stage → Stage → Type 0
LifeStep completed old new = StepFrom old.state completed old new

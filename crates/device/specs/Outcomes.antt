-- What a crash may leave of bytes in memory, by the calls that were made, the latest first. Beside each call are the bytes from before it.
use Rattle.std.specs.Prelude.{◌≡◌, ◌⊎◌, ◌≤◌, ℕ, List, [], ◌∷◌, length, Vec}
use mathlib.Core.Logic.{inl, inr}
use mathlib.Core.Path.{refl}
use native.Mathlib.Omega.{arith}
use Rattle.std.specs.declared.alloc.Global.{Global}
use Rattle.device.specs.Disk.{Torn}
use Rattle.device.specs.declared.memory.meta.Call.{Call}
use Rattle.device.specs.declared.memory.meta.Call.TheVariants.{Write, Sync}

-- after a sync what is there; after writes any outcome from before, with any bytes in the range
abbrev pub Outcome : List (Vec ℕ Global × Call) → List ℕ → List ℕ → Type 0
Outcome [] now c = c ≡ now
Outcome ((before, Sync) ∷ calls) now c = c ≡ now
Outcome ((before, Write at n) ∷ calls) now c = (c ≡ now) ⊎ ((d : List ℕ) × Outcome calls before.items d × Torn at n d c)

-- the same at some moment since so many calls
abbrev pub Since : List (Vec ℕ Global × Call) → List ℕ → ℕ → List ℕ → Type 0
Since [] now t c = c ≡ now
Since (call ∷ calls) now t c = Outcome (call ∷ calls) now c ⊎ ((t ≤ length calls) × Since calls call.0.items t c)

pub seen_is_outcome : (calls : List (Vec ℕ Global × Call)) (now : List ℕ) → Outcome calls now now
seen_is_outcome [] now = refl
seen_is_outcome ((before, Sync) ∷ calls) now = refl
seen_is_outcome ((before, Write at n) ∷ calls) now = inl refl

pub outcome_since : (calls : List (Vec ℕ Global × Call)) (now : List ℕ) (t : ℕ) (c : List ℕ) → Outcome calls now c → Since calls now t c
outcome_since [] now t c is = is
outcome_since (call ∷ calls) now t c is = inl is

pub since_now : (calls : List (Vec ℕ Global × Call)) (now c : List ℕ) → Since calls now (length calls) c → Outcome calls now c
since_now [] now c is = is
since_now (call ∷ calls) now c (inl is) = is
since_now (call ∷ calls) now c (inr earlier) = absurd (omega (arith, earlier.0))

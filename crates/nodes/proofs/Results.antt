-- What a fact gives, it gives of an answer.
use Rattle.std.specs.Prelude.{MatchOption, Option, Some, None}
pub use Rattle.nodes.proofs.TreeResults.{on_ok, on_err, if_ok}

pub if_some : {A : Type 0} {P Q : A → Type 0} (r : Option A) → MatchOption r (Unit {0}) P → ((x : A) → P x → Q x) → MatchOption r (Unit {0}) Q
if_some (Some x) h f = f x h
if_some None h f = tt

pub if_none : {A : Type 0} {P Q : Type 0} (r : Option A) → MatchOption r P (λ _. Unit {0}) → (P → Q) → MatchOption r Q (λ _. Unit {0})
if_none (Some x) h f = tt
if_none None h f = f h

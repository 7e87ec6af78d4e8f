-- One more call joins those that were made of bytes in memory.
use Rattle.std.proofs.Common.{◌≡◌, inl, inr, ⊎_elim, ℕ, List, ◌∷◌, length, Vec, sym, subst, arith}
use Rattle.std.specs.declared.alloc.Global.{Global}
use Rattle.device.specs.Disk.{Torn, Follows, Elapses}
use Rattle.device.specs.Outcomes.{Outcome, Since, seen_is_outcome}
use Rattle.device.specs.declared.memory.meta.Call.{Call}
use Rattle.device.specs.declared.memory.meta.Call.TheVariants.{Write, Sync}

abbrev Calls : Type 0
Calls = List (Vec ℕ Global × Call)

on_write : (calls : Calls) (before : Vec ℕ Global) (at n : ℕ) (new : List ℕ) → Torn at n before.items new → Follows (Torn at n) (Outcome calls before.items) (Outcome ((before, Write at n) ∷ calls) new)
on_write calls before at n new torn c (inl is) = (before.items, seen_is_outcome calls before.items, subst (λ (l : List ℕ). Torn at n before.items l) (sym is) torn)
on_write calls before at n new torn c (inr from) = from

pub write_follows : (calls later : Calls) (before : Vec ℕ Global) (at n : ℕ) (new : List ℕ) → later ≡ (before, Write at n) ∷ calls → Torn at n before.items new → Follows (Torn at n) (Outcome calls before.items) (Outcome later new)
write_follows calls later before at n new is torn =
    subst (λ (l : Calls). Follows (Torn at n) (Outcome calls before.items) (Outcome l new)) (sym is) (on_write calls before at n new torn)

pub sync_fewer : (calls later : Calls) (before : Vec ℕ Global) (c : List ℕ) → later ≡ (before, Sync) ∷ calls → Outcome later before.items c → Outcome calls before.items c
sync_fewer calls later before c is left =
    let same : c ≡ before.items = subst (λ (l : Calls). Outcome l before.items c) is left in
    subst (λ (l : List ℕ). Outcome calls before.items l) (sym same) (seen_is_outcome calls before.items)

on_call : (calls : Calls) (before : Vec ℕ Global) (call : Call) (new : List ℕ)
    → Elapses (length calls) (length ((before, call) ∷ calls)) (Since calls before.items) (Since ((before, call) ∷ calls) new) (Outcome ((before, call) ∷ calls) new)
on_call calls before call new = record {
  later = omega arith;
  nothing_else = λ t c le left. ⊎_elim (λ now. inr now) (λ was. inl was.1) left;
  keeps = λ t c le left. inr (le, left);
}

pub call_elapses : (calls later : Calls) (before : Vec ℕ Global) (call : Call) (new : List ℕ) → later ≡ (before, call) ∷ calls
    → Elapses (length calls) (length later) (Since calls before.items) (Since later new) (Outcome later new)
call_elapses calls later before call new is =
    subst (λ (l : Calls). Elapses (length calls) (length l) (Since calls before.items) (Since l new) (Outcome l new)) (sym is) (on_call calls before call new)

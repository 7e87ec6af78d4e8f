-- Flags that are set one after the other, of the tables that a body spells.
use Rattle.std.proofs.Common.{◌≡◌, ◌∙◌, ℕ, zero, suc, ◌+◌, ◌-◌, ◌<◌, ◌≤◌, ◌++◌, ⊎_elim, Bool, List, [], ap, arith, drop, length, subst, sym, take}
use Rattle.std.proofs.lemmas.Bool.{cases_lt}
use Rattle.std.proofs.Math.Seq.{take-append_seam}
use Rattle.geometry.specs.declared.geometry.Geometry.{Geometry}
use Rattle.geometry.specs.File.{Block}
use Rattle.image.specs.Image.{Image}
use Rattle.pack_tables.specs.Grammar.{SpellsTables}
use Rattle.pack_tables.proofs.RoundTrip.{spelled_back}
use Rattle.file_device.specs.Named.{IsNamed, IsSet, StaySet}

pub stay_twice : (first then last : List Bool) → StaySet first then → StaySet then last → StaySet first last
stay_twice first then last one other k is = other k (one k is)

-- what was set up to an address is set up to the next
pub one_more : (P : ℕ → Type 0) (old new : List Bool) (n : ℕ) → StaySet old new → ((a : ℕ) → 0 < a → a ≤ n → P a → IsSet old a)
    → (P (n + 1) → IsSet new (n + 1)) → (a : ℕ) → 0 < a → a ≤ n + 1 → P a → IsSet new a
one_more P old new n stay before here a some low is = ⊎_elim
    (λ less. stay (a - 1) (before a some (omega arith) is))
    (λ high. let same : a ≡ n + 1 = omega arith in subst (IsSet new) (sym same) (here (subst P same is)))
    (cases_lt a (n + 1))

-- all images that a body spells name the same addresses
same_tables : (geometry : Geometry) (body : List ℕ) (one other : Image) → SpellsTables geometry body one → SpellsTables geometry body other
    → record one { nodes = [] } ≡ record other { nodes = [] }
same_tables geometry body one other is is' =
    let none : ℕ → Block = λ _. [] in
    ap (λ (i : Image). record i { nodes = [] }) (sym (spelled_back geometry body one none is) ∙ spelled_back geometry body other none is')

pub named_by_both : (geometry : Geometry) (body : List ℕ) (one other : Image) → SpellsTables geometry body one → SpellsTables geometry body other
    → (address : ℕ) → IsNamed geometry one address → IsNamed geometry other address
named_by_both geometry body one other is is' address named =
    subst (λ (i : Image). IsNamed geometry i address) (same_tables geometry body one other is is') named

-- what is written to all of a list stands there
pub written_back : (new old : List Bool) (n : ℕ) → length new ≡ n → take n (new ++ drop (length new) old) ≡ new
written_back new old n long = subst (λ m. take m (new ++ drop (length new) old) ≡ new) long (take-append_seam new (drop (length new) old))

-- what holds of both slots
pub of_slots : (P : ℕ → Type 0) → P 0 → P 1 → (slot : ℕ) → slot ≤ 1 → P slot
of_slots P first second zero low = first
of_slots P first second (suc zero) low = second
of_slots P first second (suc (suc slot)) low = absurd (omega arith)

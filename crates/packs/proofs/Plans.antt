-- A part is left where it lies only where its bytes are the body's already, and then its side is the other one: so
-- planned part by part, the map says where all of the body will lie.
use Rattle.std.proofs.Common.{◌≡◌, ◌≢◌, refl, sym, ◌∙◌, ap, subst, ⊎_elim, ℕ, zero, suc, ◌+◌, ◌-◌, ◌<◌, ◌≤◌, Bool, true, false, List, length, get_or, set, arith, add-one}
use Rattle.std.proofs.lemmas.Bool.{cases_eq}
use Rattle.std.proofs.lemmas.List.{get_or-set_same, get_or-set_other, get_or_past, length-set}
use Rattle.geometry.specs.declared.geometry.Geometry.{Geometry}
use Rattle.image.specs.Slots.{slot_of}
use Rattle.packs.specs.declared.packs.Packs.{Packs}
use Rattle.packs.specs.Parts.{place, side, piece, are_parts, known_sides}
use Rattle.packs.specs.Staging.{body_piece, IsPlan}
use Rattle.packs.proofs.Maps.{named_from}

-- the sides of the first n table parts are planned
pub record IsPlanTo (g : Geometry) (slot : ℕ) (old : List Bool) (n : ℕ) (sides : List Bool) (body area : List ℕ) : Type 0 where
  pub many : length sides ≡ 64
  pub named : (j : ℕ) → j < n → get_or sides j false ≡ true → place g (suc j) < place g (suc (suc j))
  pub equal : (j : ℕ) → j < n → get_or sides j false ≢ get_or old j false → piece g slot old (suc j) area ≡ body_piece g (suc j) body

module _ (g : Geometry) (slot : ℕ) (old : List Bool) (body area : List ℕ) where
  pub plan_none : (sides : List Bool) → length sides ≡ 64 → IsPlanTo g slot old 0 sides body area
  plan_none sides many = record { many = many; named = λ j below. absurd (omega (arith, below)); equal = λ j below. absurd (omega (arith, below)) }

  pub plan_more : (n : ℕ) (sides : List Bool) (way : Bool) → n < 64 → IsPlanTo g slot old n sides body area
      → (way ≡ true → place g (suc n) < place g (suc (suc n))) → (way ≢ side old (suc n) → piece g slot old (suc n) area ≡ body_piece g (suc n) body)
      → IsPlanTo g slot old (n + 1) (set sides n way) body area
  plan_more n sides way below plan named equal = record {
    many = length-set sides n way ∙ plan.many;
    named = λ j within is. ⊎_elim
        (λ same. subst (λ k. place g (suc k) < place g (suc (suc k))) (sym same) (named (sym (here j same) ∙ is)))
        (λ apart. plan.named j (omega (arith, within, apart)) (sym (there j apart) ∙ is))
        (cases_eq j n);
    equal = λ j within differs. ⊎_elim
        (λ same. subst (λ k. piece g slot old (suc k) area ≡ body_piece g (suc k) body) (sym same) (equal (λ is. differs (here j same ∙ is ∙ ap (λ k. get_or old k false) (sym same)))))
        (λ apart. plan.equal j (omega (arith, within, apart)) (λ is. differs (there j apart ∙ is)))
        (cases_eq j n);
  }
    where
      here : (j : ℕ) → j ≡ n → get_or (set sides n way) j false ≡ way
      here j same = ap (λ k. get_or (set sides n way) k false) same ∙ get_or-set_same sides n way false (omega (arith, below, plan.many))

      there : (j : ℕ) → (j ≡ n → ⊥) → get_or (set sides n way) j false ≡ get_or sides j false
      there j apart = get_or-set_other sides n j way false apart

  pub plan_all : (sides : List Bool) → length old ≤ 64 → IsPlanTo g slot old 64 sides body area → IsPlan g slot old sides body area
  plan_all sides few plan = record {
    many = plan.many;
    named = named_from g sides 1 (λ j below is. let at : suc j ≡ 1 + j = omega arith in subst (λ k. place g k < place g (suc k)) at (plan.named j (omega (arith, below, plan.many)) is));
    equal = each;
  }
    where
      each : (k : ℕ) → k < 66 → side sides k ≢ side old k → piece g slot old k area ≡ body_piece g k body
      each zero below differs = absurd (differs refl)
      each (suc k) below differs = ⊎_elim
          (λ last. absurd (differs (get_or_past sides k false (omega (arith, last, plan.many)) ∙ sym (get_or_past old k false (omega (arith, last, few))))))
          (λ first. plan.equal k (omega (arith, below, first)) differs)
          (cases_eq k 64)

-- the next part is planned by packs that are the same but for their device, which shows the same bytes
pub plan_step : {D : Type 0} (seen : D → List ℕ) (packs now : Packs D) (n : ℕ) (sides : List Bool) (way : Bool) (body : List ℕ)
    → now ≡ record packs { meta = now.meta } → seen now.meta ≡ seen packs.meta → n < 64
    → IsPlanTo packs.geometry (slot_of packs.version) (known_sides packs.known.map) n sides body (seen packs.meta)
    → (way ≡ true → place now.geometry (n + 1) < place now.geometry (suc (n + 1)))
    → (way ≢ side (known_sides now.known.map) (n + 1) → piece now.geometry (slot_of now.version) (known_sides now.known.map) (n + 1) (seen now.meta) ≡ body_piece now.geometry (n + 1) body)
    → IsPlanTo packs.geometry (slot_of packs.version) (known_sides packs.known.map) (n + 1) (set sides n way) body (seen packs.meta)
plan_step {D = D} seen packs now n sides way body rest same below plan named equal =
    let Named : Packs D → ℕ → Type 0 = λ p k. way ≡ true → place p.geometry k < place p.geometry (suc k) in
    let Equal : Packs D → List ℕ → ℕ → Type 0 = λ p area k. way ≢ side (known_sides p.known.map) k → piece p.geometry (slot_of p.version) (known_sides p.known.map) k area ≡ body_piece p.geometry k body in
    let named' : Named (record packs { meta = now.meta }) (suc n) = subst (Named (record packs { meta = now.meta })) (add-one n) (subst (λ p. Named p (n + 1)) rest named) in
    let equal' : Equal (record packs { meta = now.meta }) (seen packs.meta) (suc n)
    = subst (Equal (record packs { meta = now.meta }) (seen packs.meta)) (add-one n) (subst (λ a. Equal (record packs { meta = now.meta }) a (n + 1)) same (subst (λ p. Equal p (seen now.meta) (n + 1)) rest equal)) in
    plan_more packs.geometry (slot_of packs.version) (known_sides packs.known.map) body (seen packs.meta) n sides way below plan named' equal'

-- Zeros spell the rows of parts of which none was noted.
use Rattle.std.proofs.Common.{◌≡◌, ◌∙◌, sym, ap, subst, ℕ, ◌-◌, ◌<◌, List, length, replicate, arith}
use Rattle.std.proofs.lemmas.Bool.{true≢false}
use Rattle.std.proofs.lemmas.List.{length-replicate}
use Rattle.image.specs.Pack.{body_bytes}
use Rattle.packs.proofs.Sizes.{is_body, is_more}
use Rattle.checkpoint_image.specs.Kept.{IsKeptBody}
use Rattle.checkpoint_image.proofs.KeptZeros.{zeros_kept}
use Rattle.checkpoint_image.proofs.Touching.{untouched}
use Rattle.checkpoint_image.proofs.kept_body.KeptBody.lay.Goals as goal

-- there was no byte before
none_before : (c : goal.In_ok-self) → length c.args.self.now.body.bytes.items ≡ 0
none_before c = omega (arith, c.len.ensures, c.if-len-gt0.false)

zeros : (c : goal.In_ok-self) → c.in_ok-self.field-0.items ≡ replicate (body_bytes c.args.self.now.geometry) 0
zeros c = c.in_ok-self.ensures.items_if_clones_equal (λ y same. same) ∙ ap (λ (n : ℕ). replicate {A = ℕ} (n - 4) 0) c.pack_bytes.ensures

long : (c : goal.In_ok-self) → length c.in_ok-self.field-0.items ≡ body_bytes c.args.self.now.geometry
long c = ap length (zeros c) ∙ length-replicate (body_bytes c.args.self.now.geometry) 0

pub invariant_of-self : goal.invariant_of-self
invariant_of-self c =
    let self = c.args.self.now in
    record {
      every_twin = self.every_twin;
      in_order = self.in_order;
      spelled = λ _. subst (IsKeptBody self.geometry self.twins.items) (sym (zeros c)) (zeros_kept self.geometry self.twins.items (self.unspelled (none_before c)));
      unspelled = λ none. absurd (omega (arith, none, long c, is_more self.geometry));
      fresh = λ none. absurd (omega (arith, none, long c, is_more self.geometry));
    }

pub returns-clause-touched : goal.returns-clause-touched
returns-clause-touched c = λ k below out.
    let few = (is_body c.args.self.now.geometry).mapped in
    let none : length c.args.self.now.body.bytes.items ≡ 0 = omega (arith, c.len.ensures, c.if-len-gt0.false) in
    absurd (true≢false (sym (c.args.self.now.fresh none k (omega (arith, below, few))) ∙ out))

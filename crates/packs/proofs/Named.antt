-- The bodies that the two slots of a device hold, once a body is staged.
use Rattle.std.proofs.Common.{◌≡◌, ℕ, ◌-◌, List, sym, ◌∙◌, ap, subst}
use Rattle.image.specs.Slots.{slot_of}
use Rattle.packs.specs.Pack.{Reading}
use Rattle.packs.specs.Device.{AreStaged, AreSettled, body_of, staged_in}
use Rattle.packs.specs.declared.packs.Known.{Known}
use Rattle.packs.specs.declared.packs.Packs.{Packs}

module _ {D : Type 0} (r : Reading) (seen : D → List ℕ) (may_leave : D → List ℕ → Type 0) (seen_is_left : (d : D) → may_leave d (seen d)) (packs : Packs D) (old new : List ℕ) (next : Known) (is : AreStaged r seen may_leave packs old new next) where
  pub old_named : body_of r seen packs ≡ old
  old_named = ap (λ (v : ℕ). r.body (slot_of v) (seen packs.meta)) is.version ∙ (is.left (seen packs.meta) (seen_is_left packs.meta)).packs.settled.body

  pub new_named : staged_in r seen packs ≡ new
  new_named = ap (λ (v : ℕ). r.body (1 - slot_of v) (seen packs.meta)) is.version ∙ (is.left (seen packs.meta) (seen_is_left packs.meta)).packs.body

module _ {D : Type 0} (r : Reading) (seen : D → List ℕ) (may_leave : D → List ℕ → Type 0) (seen_is_left : (d : D) → may_leave d (seen d)) (packs : Packs D) (old : List ℕ) (is : AreSettled r seen may_leave packs old) where
  pub settled_named : body_of r seen packs ≡ old
  settled_named = ap (λ (v : ℕ). r.body (slot_of v) (seen packs.meta)) is.version ∙ (is.left (seen packs.meta) (seen_is_left packs.meta)).packs.body

  pub settled_self : AreSettled r seen may_leave packs (body_of r seen packs)
  settled_self = subst (AreSettled r seen may_leave packs) (sym settled_named) is

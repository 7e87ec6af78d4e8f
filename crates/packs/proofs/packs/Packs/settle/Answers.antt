-- A look changes nothing, and clearing the other footer leaves the area between the same two packs at every moment: so
-- what is found then is settled, and its map is read of it.
use Rattle.std.proofs.Common.{◌≡◌, ℕ, List, Some, length, sym, ◌∙◌, ap, subst}
use Rattle.image.specs.Slots.{version_of, slot_of}
use Rattle.packs.specs.Pack.{slots_in, IsPicked, IsSettled}
use Rattle.packs.specs.Area.{reading_of}
use Rattle.packs.specs.Device.{IsFound, IsKnown, AreSettled, body_of}
use Rattle.packs.specs.declared.packs.Packs.{Packs}
use Rattle.image.proofs.Picking.{picks}
use Rattle.packs.proofs.Named.{settled_named}
use Rattle.packs.proofs.Fronts.{kept_alone}
use Rattle.packs.proofs.Opening.{looked, opened, opened_read}
use Rattle.packs.proofs.Steps.{area_stays}
use Rattle.packs.proofs.packs.Packs.settle.Goals as goal

pub returns-in_default-clause-any_moment : goal.returns-in_default-clause-any_moment
returns-in_default-clause-any_moment g c =
    λ old new had. looked g.M.Meta.seen g.M.Meta.may_leave g.M.Meta.moment g.M.Meta.left_since g.met.M.Meta.seen_is_left g.met.M.Meta.counts_now g.met.M.Meta.only_now _ _ _ had c.look.ensures.quiet

pub returns-in_err-lower_other-clause-any_moment : goal.returns-in_err-lower_other-clause-any_moment
returns-in_err-lower_other-clause-any_moment g c =
    λ old new had.
    let f : IsFound (reading_of c.args.self.now.geometry) (g.M.Meta.seen c.args.self.now.meta) c.in-Some.found = rw c.in-Some.is at c.in_ok-found.ensures.found in
    let picked = subst (IsPicked (reading_of c.args.self.now.geometry) c.in-Some.found.slot) (sym c.look.ensures.quiet.same) f.slot in
    opened g.M.Meta.seen g.M.Meta.may_leave g.M.Meta.moment g.M.Meta.left_since g.met.M.Meta.seen_is_left g.met.M.Meta.counts_now g.met.M.Meta.only_now (reading_of c.args.self.now.geometry) c.in-Some.found.slot _ _ _ old new had c.look.ensures.quiet picked c.lower_other.ensures.any_moment

-- the map is read of an area that was opened
pub returns-in_err-known-clause-any_moment : goal.returns-in_err-known-clause-any_moment
returns-in_err-known-clause-any_moment g c =
    λ old new had.
    let f : IsFound (reading_of c.args.self.now.geometry) (g.M.Meta.seen c.args.self.now.meta) c.in-Some.found = rw c.in-Some.is at c.in_ok-found.ensures.found in
    let picked = subst (IsPicked (reading_of c.args.self.now.geometry) c.in-Some.found.slot) (sym c.look.ensures.quiet.same) f.slot in
    opened_read g.M.Meta.seen g.M.Meta.may_leave g.M.Meta.moment g.M.Meta.left_since g.met.M.Meta.seen_is_left g.met.M.Meta.counts_now g.met.M.Meta.only_now (reading_of c.args.self.now.geometry) c.in-Some.found.slot _ _ _ _ old new had c.look.ensures.quiet picked c.lower_other.ensures.any_moment c.find_known.ensures.quiet

pub returns-clause-any_moment : goal.returns-clause-any_moment
returns-clause-any_moment g c =
    λ old new had.
    let f : IsFound (reading_of c.args.self.now.geometry) (g.M.Meta.seen c.args.self.now.meta) c.in-Some.found = rw c.in-Some.is at c.in_ok-found.ensures.found in
    let picked = subst (IsPicked (reading_of c.args.self.now.geometry) c.in-Some.found.slot) (sym c.look.ensures.quiet.same) f.slot in
    opened_read g.M.Meta.seen g.M.Meta.may_leave g.M.Meta.moment g.M.Meta.left_since g.met.M.Meta.seen_is_left g.met.M.Meta.counts_now g.met.M.Meta.only_now (reading_of c.args.self.now.geometry) c.in-Some.found.slot _ _ _ _ old new had c.look.ensures.quiet picked c.lower_other.ensures.any_moment c.find_known.ensures.quiet

pub find_known-requires : goal.find_known-requires
find_known-requires g c =
    let f : IsFound (reading_of c.args.self.now.geometry) (g.M.Meta.seen c.args.self.now.meta) c.in-Some.found = rw c.in-Some.is at c.in_ok-found.ensures.found in
    (area_stays c.args.self.now.geometry (g.M.Meta.seen c.args.self.now.meta) _ c.requires (c.lower_other.ensures.same.long ∙ ap length c.look.ensures.quiet.same), f.slot.within)

pub returns-clause-found : goal.returns-clause-found
returns-clause-found g c =
    let geometry = c.args.self.now.geometry in
    let seen = g.M.Meta.seen in
    let r = reading_of geometry in
    let area = seen c.args.self.now.meta in
    let f : IsFound r area c.in-Some.found = rw c.in-Some.is at c.in_ok-found.ensures.found in
    let body : List ℕ = r.body c.in-Some.found.slot (seen c.look.new.meta) in
    let same : r.body c.in-Some.found.slot area ≡ body = ap (λ (l : List ℕ). r.body c.in-Some.found.slot l) (sym c.look.ensures.quiet.same) in
    let now : Packs g.row.M.Denot = record { meta = c.find_known.new.meta; geometry = geometry; version = c.in-Some.found.version; known = c.in_ok-known.known } in
    let ended : seen c.find_known.new.meta ≡ seen c.lower_other.new.meta = c.find_known.ensures.quiet.same in
    let only : (d : List ℕ) → g.M.Meta.may_leave c.find_known.new.meta d → d ≡ seen c.find_known.new.meta =
    λ d now. c.in_ok-lower_other.ensures.durable d (c.find_known.ensures.quiet.fewer d now) ∙ sym ended in
    let settles : IsSettled r body (seen c.find_known.new.meta) = subst (IsSettled r body) (sym ended) c.in_ok-lower_other.ensures.lowered in
    let slot : slot_of c.in-Some.found.version ≡ c.in-Some.found.slot = ap slot_of f.version ∙ f.slot.sound.parity in
    let known : IsKnown geometry (slot_of c.in-Some.found.version) c.in_ok-known.known (seen c.find_known.new.meta) =
    subst (λ (k : ℕ). IsKnown geometry k c.in_ok-known.known (seen c.find_known.new.meta)) (sym slot) (subst (IsKnown geometry c.in-Some.found.slot c.in_ok-known.known) (sym ended) c.in_ok-known.ensures.known) in
    let settled : AreSettled r seen g.M.Meta.may_leave now body = record {
      area = area_stays geometry area _ c.requires (ap length ended ∙ c.lower_other.ensures.same.long ∙ ap length c.look.ensures.quiet.same);
      version = f.version ∙ ap version_of same;
      left = λ d left. kept_alone (IsSettled r body) (seen c.find_known.new.meta) d (only d left) (subst (IsSettled r body) (sym (only d left)) settles);
      known = λ d left. subst (IsKnown geometry (slot_of c.in-Some.found.version) c.in_ok-known.known) (sym (only d left)) known;
    } in
    let named : body_of r seen now ≡ body = settled_named r seen g.M.Meta.may_leave g.met.M.Meta.seen_is_left now body settled in
    λ _. (
      subst (AreSettled r seen g.M.Meta.may_leave now) (sym named) settled,
      picks (slots_in r area) c.in-Some.found.slot f.slot ∙ ap (λ (l : List ℕ). Some l) (same ∙ sym named),
    )

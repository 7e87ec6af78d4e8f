-- Where the body's page differs it is written over the copy that does not count, so the pack that counts stays, and so does
-- each other page of the next one.
use Rattle.std.proofs.Common.{◌≡◌, refl, sym, ◌∙◌, ap, subst, ℕ, ◌-◌, ◌≤◌, List, length, arith}
use Rattle.device.specs.Disk.{part}
use Rattle.packs_journal.specs.Places.{page_at as place_of_page, page_size}
use Rattle.packs_journal.specs.Journal.{copy_in}
use Rattle.packs_journal.proofs.Gathering.{copy_small}
use Rattle.device.proofs.Moments.{started}
use Rattle.packs_journal.specs.Staging.{IsMapOf, IsBeside, IsBesideOne}
use Rattle.packs_journal.proofs.Beside.{looked_then, beside_same}
use Rattle.packs_journal.proofs.turning.put_page.Goals as goal

-- the other copy of a page
other_copy : (a b : ℕ) → a ≤ 1 → b ≡ 1 - a → a ≡ b → ⊥
other_copy a b le is same = omega (arith, le, is, same)

-- a page that can't differ is left
pub returns-then-not-contains-clause-page : goal.returns-then-not-contains-clause-page
returns-then-not-contains-clause-page g c = c.requires.differs (sym c.contains.ensures ∙ c.if-not-contains.true)

pub returns-then-not-contains-clause-beside : goal.returns-then-not-contains-clause-beside
returns-then-not-contains-clause-beside g c = λ kept same is. beside_same (length c.args.body.now) c.args.slot (g.M.Meta.seen c.args.meta.now)

pub returns-then-not-contains-clause-any_moment : goal.returns-then-not-contains-clause-any_moment
returns-then-not-contains-clause-any_moment g c = λ kept same had.
    let meta = c.args.meta.now in
    let len = length c.args.body.now in
    started g.M.Meta.moment g.M.Meta.left_since meta (IsBesideOne g.M.Meta.may_leave len c.args.slot meta) (λ d left. (d, g.met.M.Meta.only_now meta d left, beside_same len c.args.slot d))

pub returns-in_err-write_page-clause-any_moment : goal.returns-in_err-write_page-clause-any_moment
returns-in_err-write_page-clause-any_moment g c = λ kept same had.
    looked_then g.M.Meta.seen g.M.Meta.may_leave g.M.Meta.moment g.M.Meta.left_since g.met.M.Meta.only_now (length c.args.body.now) c.args.slot c.args.meta.now c.read_page.new.meta c.write_page.new.meta c.read_page.ensures.quiet
    (c.write_page.ensures.any_moment kept (λ at. other_copy c.copy_of.result _ c.copy_of.ensures.within refl (c.copy_of.ensures.copy ∙ sym same ∙ at)) (λ d left. had d (c.read_page.ensures.quiet.fewer d left)))

pub returns-clause-any_moment : goal.returns-clause-any_moment
returns-clause-any_moment g c = λ kept same had.
    looked_then g.M.Meta.seen g.M.Meta.may_leave g.M.Meta.moment g.M.Meta.left_since g.met.M.Meta.only_now (length c.args.body.now) c.args.slot c.args.meta.now c.read_page.new.meta c.write_page.new.meta c.read_page.ensures.quiet
    (c.write_page.ensures.any_moment kept (λ at. other_copy c.copy_of.result _ c.copy_of.ensures.within refl (c.copy_of.ensures.copy ∙ sym same ∙ at)) (λ d left. had d (c.read_page.ensures.quiet.fewer d left)))

pub returns-clause-beside : goal.returns-clause-beside
returns-clause-beside g c = λ kept same is.
    subst (λ (l : List ℕ). IsMapOf (length c.args.body.now) c.args.slot kept l → IsBeside (length c.args.body.now) c.args.slot l (g.M.Meta.seen c.write_page.new.meta)) c.read_page.ensures.quiet.same
    (c.write_page.ensures.beside kept (λ at. other_copy c.copy_of.result _ c.copy_of.ensures.within refl (c.copy_of.ensures.copy ∙ sym same ∙ at))) is

pub returns-clause-pages : goal.returns-clause-pages
returns-clause-pages g c = λ j below apart.
    let len = length c.args.body.now in
    let map = c.args.map.now in
    let new = g.M.Meta.seen c.write_page.new.meta in
    ap (λ (a : ℕ). part (place_of_page j a) (page_size len j) new) (c.turn_page.ensures.others j apart)
    ∙ c.write_page.ensures.others j (copy_in map j) below (copy_small map j) (λ is. absurd (apart is))
    ∙ ap (λ (l : List ℕ). part (place_of_page j (copy_in map j)) (page_size len j) l) c.read_page.ensures.quiet.same

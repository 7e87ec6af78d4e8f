-- What is written is beside the pack that counts, so that one stays settled, and after the sync the other one is staged.
use Rattle.std.proofs.Common.{◌≡◌, refl, sym, ◌∙◌, ap, subst, ℕ, ◌-◌, ◌<◌, ◌≤◌, true, List, length, arith}
use Rattle.std.specs.Prelude.{None}
use Rattle.device.specs.Disk.{LeavesOnly}
use Rattle.image.specs.Slots.{slot_of}
use Rattle.packs.specs.Parts.{body_bytes}
use Rattle.packs.specs.Area.{pages_reading}
use Rattle.packs.specs.Device.{body_of}
use Rattle.packs.proofs.Sizes.{is_paged}
use Rattle.packs.proofs.Paging.{known_map, known_names, known_noted, paged_moments, paged_staged, beside_area}
use Rattle.packs_journal.specs.Places.{page_count, map_pages}
use Rattle.packs_journal.specs.Journal.{names_pages}
use Rattle.packs_journal.specs.Reading.{page_in, assembled as paged}
use Rattle.packs_journal.specs.Staging.{IsMapped, IsBeside, IsBesideOne, body_page}
use Rattle.packs_journal.specs.Pages.{DiffersIn}
use Rattle.packs.proofs.packs.Packs.stage_pages.Goals as goal

pub returns-in_err-stage-clause-same : goal.returns-in_err-stage-clause-same
returns-in_err-stage-clause-same g c = beside_area (length c.args.body.now) (slot_of c.args.self.now.version) _ _ c.stage.ensures.beside

pub returns-clause-same : goal.returns-clause-same
returns-clause-same g c = beside_area (length c.args.body.now) (slot_of c.args.self.now.version) _ _ c.stage.ensures.beside

pub returns-in_err-stage-clause-any_moment : goal.returns-in_err-stage-clause-any_moment
returns-in_err-stage-clause-any_moment g c =
    let p = c.args.self.now in
    paged_moments g.M.Meta.seen g.M.Meta.may_leave g.M.Meta.moment g.M.Meta.left_since g.met.M.Meta.seen_is_left p (body_of (pages_reading p.geometry) g.M.Meta.seen p) c.requires.pages c.requires.settled c.stage.new.meta
    (subst (λ (n : ℕ). LeavesOnly g.M.Meta.moment g.M.Meta.left_since p.meta c.stage.new.meta (IsBesideOne g.M.Meta.may_leave n (slot_of p.version) p.meta)) c.requires.len c.stage.ensures.any_moment)

pub returns-clause-any_moment : goal.returns-clause-any_moment
returns-clause-any_moment g c =
    let p = c.args.self.now in
    paged_moments g.M.Meta.seen g.M.Meta.may_leave g.M.Meta.moment g.M.Meta.left_since g.met.M.Meta.seen_is_left p (body_of (pages_reading p.geometry) g.M.Meta.seen p) c.requires.pages c.requires.settled c.stage.new.meta
    (subst (λ (n : ℕ). LeavesOnly g.M.Meta.moment g.M.Meta.left_since p.meta c.stage.new.meta (IsBesideOne g.M.Meta.may_leave n (slot_of p.version) p.meta)) c.requires.len c.stage.ensures.any_moment)

pub stage-requires-clause-mapped : goal.stage-requires-clause-mapped
stage-requires-clause-mapped g c =
    let p = c.args.self.now in
    let seen = g.M.Meta.seen in
    let old = body_of (pages_reading p.geometry) seen p in
    let laws = g.met.M.Meta.seen_is_left in
    subst (λ (n : ℕ). IsMapped seen g.M.Meta.may_leave n (slot_of p.version) p.known.pages.map p.meta) (sym c.requires.len)
    (record {
      area = is_paged p.geometry (seen p.meta) c.requires.pages c.requires.settled.area;
      one = omega arith;
      mapped = known_map seen g.M.Meta.may_leave g.M.Meta.moment g.M.Meta.left_since laws p old c.requires.pages c.requires.settled;
      named = known_names seen g.M.Meta.may_leave g.M.Meta.moment g.M.Meta.left_since laws p old c.requires.pages c.requires.settled;
    })

pub stage-requires-clause-differs : goal.stage-requires-clause-differs
stage-requires-clause-differs g c = λ k below out unnoted.
    let p = c.args.self.now in
    let seen = g.M.Meta.seen in
    let within = subst (λ (n : ℕ). k < page_count n) c.requires.len below in
    let noted = known_noted seen g.M.Meta.may_leave g.M.Meta.moment g.M.Meta.left_since g.met.M.Meta.seen_is_left p (body_of (pages_reading p.geometry) seen p) c.requires.pages c.requires.settled in
    subst (λ (n : ℕ). page_in n p.known.pages.map k (seen p.meta) ≡ body_page n k c.args.body.now) (sym c.requires.len) (noted k within unnoted ∙ sym (c.requires.changes k within out))

pub returns-clause-staged : goal.returns-clause-staged
returns-clause-staged g c =
    let p = c.args.self.now in
    let seen = g.M.Meta.seen in
    let len = c.requires.len in
    let e = c.in_ok-stage.ensures in
    let next = c.stage.new.pages in
    paged_staged seen g.M.Meta.may_leave g.M.Meta.moment g.M.Meta.left_since g.met.M.Meta.seen_is_left p (body_of (pages_reading p.geometry) seen p) c.requires.pages c.requires.settled c.stage.new.meta c.args.body.now
    (record { map = None; pages = next })
    (subst (λ (n : ℕ). IsBeside n (slot_of p.version) (seen p.meta) (seen c.stage.new.meta)) len c.stage.ensures.beside) e.durable
    (subst (λ (n : ℕ). paged n (1 - slot_of p.version) (seen c.stage.new.meta) ≡ c.args.body.now) len e.staged) e.map
    (subst (λ (n : ℕ). names_pages (page_count n) next.map map_pages ≡ true) len c.stage.ensures.named)
    (subst (λ (n : ℕ). DiffersIn next.noted n next.map c.args.body.now (seen c.stage.new.meta)) len e.noted)

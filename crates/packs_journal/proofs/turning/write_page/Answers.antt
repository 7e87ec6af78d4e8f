use Rattle.std.proofs.Common.{◌≡◌, sym, ◌∙◌, ap, subst, ℕ, List, length, arith}
use Rattle.std.proofs.lemmas.Result.{on_ok_weaker}
use Rattle.device.specs.Disk.{part, Torn, Holds}
use Rattle.device.proofs.Ranges.{holds_part}
use Rattle.packs_journal.specs.Places.{page_at as place_of_page, page_size}
use Rattle.packs_journal.specs.Journal.{copy_in}
use Rattle.packs_journal.specs.Staging.{IsMapOf, IsBeside}
use Rattle.packs_journal.proofs.Gathering.{page_fits}
use Rattle.packs_journal.proofs.Beside.{apart_same, copies_apart, page_few, page_beside, written_beside}
use Rattle.packs_journal.proofs.turning.write_page.Given as given
use Rattle.packs_journal.proofs.turning.write_page.Goals as goal

module _ (g : given.Over) (c : goal.After-write g) where
  -- the range that was written
  torn : (x y : List ℕ) → Torn c.page_at.result (length c.args.bytes.now) x y → Torn (place_of_page c.args.k c.args.copy) (page_size c.args.len c.args.k) x y
  torn x y is = subst (λ (a : ℕ). Torn a (page_size c.args.len c.args.k) x y) c.page_at.ensures (subst (λ (n : ℕ). Torn c.page_at.result n x y) c.requires.size is)

  step : (kept : List ℕ) → (copy_in kept c.args.k ≡ c.args.copy → ⊥) → (x y : List ℕ) → IsMapOf c.args.len c.args.slot kept x → Torn c.page_at.result (length c.args.bytes.now) x y
      → IsBeside c.args.len c.args.slot x y
  step kept other x y is writes =
      page_beside c.args.len c.args.slot c.args.k c.args.copy (page_size c.args.len c.args.k) kept x y c.requires.slot c.requires.copy (page_few c.args.len c.args.k) other is (torn x y writes)

  there : Holds (g.M.Meta.seen c.args.meta.now) c.page_at.result c.args.bytes.now (g.M.Meta.seen c.write.new.self)
      → part (place_of_page c.args.k c.args.copy) (page_size c.args.len c.args.k) (g.M.Meta.seen c.write.new.self) ≡ c.args.bytes.now
  there holds =
      let seen = g.M.Meta.seen c.args.meta.now in
      let new = g.M.Meta.seen c.write.new.self in
      let fits = page_fits c.args.len c.args.k c.args.copy c.requires.within c.requires.copy in
      ap (λ (a : ℕ). part a (page_size c.args.len c.args.k) new) (sym c.page_at.ensures) ∙ ap (λ (n : ℕ). part c.page_at.result n new) (sym c.requires.size)
      ∙ holds_part c.page_at.result c.args.bytes.now seen new (omega (arith, fits, c.page_at.ensures, c.requires.size, c.requires.area.long)) holds

pub returns-clause-written : goal.returns-clause-written
returns-clause-written g c = on_ok_weaker c.write.result (there g c) c.write.ensures.written

pub returns-clause-others : goal.returns-clause-others
returns-clause-others g c = λ j a below one apart.
    let len = c.args.len in
    apart_same (place_of_page c.args.k c.args.copy) (page_size len c.args.k) (place_of_page j a) (page_size len j) (g.M.Meta.seen c.args.meta.now) (g.M.Meta.seen c.write.new.self)
    (copies_apart j c.args.k a c.args.copy (page_size len j) (page_size len c.args.k) one c.requires.copy (page_few len j) (page_few len c.args.k) apart)
    (torn g c (g.M.Meta.seen c.args.meta.now) (g.M.Meta.seen c.write.new.self) c.write.ensures.others)

pub returns-clause-beside : goal.returns-clause-beside
returns-clause-beside g c = λ kept other is. step g c kept other (g.M.Meta.seen c.args.meta.now) (g.M.Meta.seen c.write.new.self) is c.write.ensures.others

pub returns-clause-any_moment : goal.returns-clause-any_moment
returns-clause-any_moment g c = λ kept other had.
    written_beside g.M.Meta.seen g.M.Meta.may_leave g.M.Meta.moment g.M.Meta.left_since g.met.M.Meta.only_now c.args.len c.args.slot c.page_at.result (length c.args.bytes.now)
    (IsMapOf c.args.len c.args.slot kept) c.args.meta.now c.write.new.self had c.write.ensures.crash c.write.ensures.time (step g c kept other)

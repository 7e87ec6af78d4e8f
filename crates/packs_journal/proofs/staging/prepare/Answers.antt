-- The words that differ are looked for, which changes no byte; only where they are too many is anything written.
use Rattle.std.proofs.Common.{◌≡◌, refl, ◌∙◌, ℕ, zero, suc, List, true, length, arith}
use Rattle.packs_journal.specs.Places.{word_count}
use Rattle.packs_journal.specs.Journal.{rises, patched}
use Rattle.packs_journal.proofs.Beside.{looked_then}
use Rattle.packs_journal.proofs.staging.prepare.Goals as goal

-- no change is made
none_patched : (bytes rest : List ℕ) (count : ℕ) → count ≡ 0 → patched bytes count rest ≡ rest
unfolding patched
none_patched bytes rest zero is = refl
none_patched bytes rest (suc count) is = absurd (omega (arith, is))

none_rises : (words : ℕ) (bytes : List ℕ) (count : ℕ) → count ≡ 0 → rises words bytes count ≡ true
unfolding rises
none_rises words bytes zero is = refl
none_rises words bytes (suc count) is = absurd (omega (arith, is))

pub returns-in_err-turn_pages-clause-any_moment : goal.returns-in_err-turn_pages-clause-any_moment
returns-in_err-turn_pages-clause-any_moment g c =
    looked_then g.M.Meta.seen g.M.Meta.may_leave g.M.Meta.moment g.M.Meta.left_since g.met.M.Meta.only_now (length c.args.body.now) c.args.slot c.args.meta.now c.find_changes.new.meta c.turn_pages.new.meta c.find_changes.ensures.quiet
    c.turn_pages.ensures.any_moment

pub returns-clause-any_moment : goal.returns-clause-any_moment
returns-clause-any_moment g c =
    looked_then g.M.Meta.seen g.M.Meta.may_leave g.M.Meta.moment g.M.Meta.left_since g.met.M.Meta.only_now (length c.args.body.now) c.args.slot c.args.meta.now c.find_changes.new.meta c.turn_pages.new.meta c.find_changes.ensures.quiet
    c.turn_pages.ensures.any_moment

pub returns-clause-patched : goal.returns-clause-patched
returns-clause-patched g c = none_patched c.clear.new.self.bytes _ c.clear.new.self.count c.clear.ensures ∙ c.in_ok-turn_pages.ensures.turned

pub returns-clause-rises : goal.returns-clause-rises
returns-clause-rises g c = none_rises (word_count (length c.args.body.now)) c.clear.new.self.bytes c.clear.new.self.count c.clear.ensures

use Rattle.std.proofs.Common.{◌≡◌, subst, inr, ℕ, ◌+◌, ◌-◌, ◌*◌, ◌≤◌, List, true, length, take, arith}
use Rattle.std.proofs.lemmas.Result.{on_ok_weaker}
use Rattle.std.proofs.lemmas.List.{length-take-le}
use Rattle.device.specs.Disk.{Torn, Holds}
use Rattle.packs_journal.specs.Places.{head_at as place_of_head, page_at, page_size, changes_at, head_bytes, most_changes}
use Rattle.packs_journal.specs.Journal.{map_of, copy_in, is_head}
use Rattle.packs_journal.specs.Reading.{head_in, assembled}
use Rattle.packs_journal.specs.Staging.{IsBeside}
use Rattle.packs_journal.proofs.Heading.{head_written, map_written, body_written}
use Rattle.packs_journal.proofs.Beside.{apart_same, head_beside, written_beside}
use Rattle.packs_journal.proofs.staging.write_head.Given as given
use Rattle.packs_journal.proofs.staging.write_head.Goals as goal

module _ (g : given.Over) (c : goal.After-write g) where
  abbrev len : ℕ
  len = length c.args.body.now

  abbrev other : ℕ
  other = 1 - c.args.slot

  abbrev count : ℕ
  count = c.args.changes.now.count

  abbrev old : List ℕ
  old = g.M.Meta.seen c.args.meta.now

  abbrev new : List ℕ
  new = g.M.Meta.seen c.write.new.self

  abbrev Written : Type 0
  Written = Holds old c.head_at.result (take (changes_at + 12 * count) c.spell_head-head.result) new

  put : Written → Holds old (place_of_head other) (take (changes_at + 12 * count) c.spell_head-head.result) new
  put holds = subst (λ (a : ℕ). Holds old a (take (changes_at + 12 * count) c.spell_head-head.result) new) c.head_at.ensures holds

  within : place_of_head other + head_bytes ≤ length old
  within = omega (arith, c.requires.area.long)

  other_le : other ≤ 1
  other_le = omega arith

  head : Written → is_head len (head_in other new) ≡ true
  head holds = let s = c.spell_head-head.ensures in
      head_written len other count c.args.map.now c.args.changes.now.bytes c.args.body.now c.spell_head-head.result old new other_le c.requires.few s.long within
      s.front s.count s.zeros s.map s.changes (put holds) c.requires.named c.requires.rises

  mapped : Written → map_of (head_in other new) ≡ c.args.map.now
  mapped holds = let s = c.spell_head-head.ensures in
      map_written len other count c.args.map.now c.args.changes.now.bytes c.args.body.now c.spell_head-head.result old new other_le c.requires.few s.long within
      s.front s.count s.zeros s.map s.changes (put holds)

  staged : Written → assembled len other new ≡ c.args.body.now
  staged holds = let s = c.spell_head-head.ensures in
      body_written len other count c.args.map.now c.args.changes.now.bytes c.args.body.now c.spell_head-head.result old new other_le c.requires.few s.long within
      s.front s.count s.zeros s.map s.changes (put holds) c.requires.named c.requires.rises c.requires.patched

  -- the bytes that were written
  long : length (take (changes_at + 12 * count) c.spell_head-head.result) ≡ changes_at + 12 * count
  long = length-take-le (changes_at + 12 * count) c.spell_head-head.result (omega (arith, c.spell_head-head.ensures.long, c.requires.few))

  torn_head : (x y : List ℕ) → Torn c.head_at.result (length (take (changes_at + 12 * count) c.spell_head-head.result)) x y → Torn (place_of_head other) (changes_at + 12 * count) x y
  torn_head x y torn = subst (λ (a : ℕ). Torn a (changes_at + 12 * count) x y) c.head_at.ensures (subst (λ (n : ℕ). Torn c.head_at.result n x y) long torn)

  step : (x y : List ℕ) → Torn c.head_at.result (length (take (changes_at + 12 * count) c.spell_head-head.result)) x y → IsBeside len c.args.slot x y
  step x y torn = head_beside len c.args.slot (changes_at + 12 * count) x y c.requires.slot (omega (arith, c.requires.few)) (torn_head x y torn)

pub returns-clause-staged : goal.returns-clause-staged
returns-clause-staged g c = on_ok_weaker c.write.result (staged g c) c.write.ensures.written

pub returns-clause-head : goal.returns-clause-head
returns-clause-head g c = on_ok_weaker c.write.result (head g c) c.write.ensures.written

pub returns-clause-map : goal.returns-clause-map
returns-clause-map g c = on_ok_weaker c.write.result (mapped g c) c.write.ensures.written

-- heads lie before the pages
before_pages : (slot n k a : ℕ) → slot ≤ 1 → n ≤ most_changes → place_of_head slot + (changes_at + 12 * n) ≤ page_at k a
before_pages slot n k a le few = omega (arith, le, few)

pub returns-clause-pages : goal.returns-clause-pages
returns-clause-pages g c = λ k below.
    let copy = copy_in c.args.map.now k in
    apart_same (place_of_head (other g c)) (changes_at + 12 * count g c) (page_at k copy) (page_size (len g c) k) (old g c) (new g c)
    (inr (before_pages (other g c) (count g c) k copy (other_le g c) c.requires.few)) (torn_head g c (old g c) (new g c) c.write.ensures.others)

pub returns-clause-beside : goal.returns-clause-beside
returns-clause-beside g c = step g c (old g c) (new g c) c.write.ensures.others

pub returns-clause-any_moment : goal.returns-clause-any_moment
returns-clause-any_moment g c =
    written_beside g.M.Meta.seen g.M.Meta.may_leave g.M.Meta.moment g.M.Meta.left_since g.met.M.Meta.only_now (len g c) c.args.slot c.head_at.result _ (λ _. Unit {0})
    c.args.meta.now c.write.new.self (λ d left. tt) c.write.ensures.crash c.write.ensures.time (λ x y _ torn. step g c x y torn)

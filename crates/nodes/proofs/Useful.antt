-- The nodes on the way to a ticket name something: so where every node off the way to an index does, and a ticket
-- stands at the index, each node does; a question split in two is both answers.
use Rattle.std.proofs.Common.{Bool, true, false, ◌≡◌, ℕ, ◌+◌, ◌-◌, ◌*◌, ◌<◌, ◌≤◌, ◌⊎◌, Option, Some, refl, sym, ◌∙◌, inl, inr, lit<, arith}
use borrow.Author.Tests.{lt-ltb, le-ltb}
use Rattle.std.proofs.lemmas.Bool.{cases_lt}
use Rattle.geometry.specs.Path.{inode_entries, node_entries}
use Rattle.tickets.specs.Placed.{Placed}
use Rattle.nodes.specs.declared.branch.Branch.{Branch}
use Rattle.nodes.specs.Laws.{times_positive, nothing_at_zero}
use Rattle.nodes.specs.Tree.{AsksEither, SparesIndex, SparesPast, AsksPast, UsefulIn, only_at_zero, entry_at}
use Rattle.nodes.specs.TreeUseful.{never_below, either_below, entries_below, found_below, found_from, way_from}
use Rattle.nodes.specs.declared.file.FileState.{FileState}
use Rattle.nodes.specs.File.{IsFile, IsBare, ticket_at, joined, in_tickets, in_direct, in_indirect, in_double, find_direct, find_indirect, find_double, shaped_direct, shaped_indirect, shaped_double, counted_direct, counted_indirect, counted_double}
use Rattle.nodes.specs.Useful.{each_node, holds, is_off, reaches, ends_by, useful_direct, useful_indirect, useful_double, IsUseful}
use Rattle.nodes.proofs.Bounds.{entries_positive}
use Rattle.nodes.proofs.Joined.{at_first, at_rest}

-- the tests, by comparison
pub off_spares : (i : ℕ) → SparesIndex (is_off i) i
off_spares i first end h k = rw (le-ltb i first h, lt-ltb i end k)

pub by_spares : (i : ℕ) → SparesPast (ends_by i) i
by_spares i first end h = rw (lt-ltb i end h)

pub reaching : (i start : ℕ) → AsksPast (reaches i) start i
reaching i start first end h k is = elim (cases_lt i end) [ inl lt ↦ lt | inr ge ↦ absurd (let no : ◌≡◌ {A = Bool} false true = sym (le-ltb i end ge) ∙ is in cc) ]

pub holding : (i first end : ℕ) → holds i first end ≡ true → (first ≤ i) × (i < end)
holding i first end is = elim (cases_lt i first) [
  | inl lt ↦ absurd (let no : ◌≡◌ {A = Bool} false true = rw (lt-ltb i first lt) at is in cc)
  | inr ge ↦ elim (cases_lt i end) [
    | inl lt ↦ (ge, lt)
    | inr past ↦ absurd (let no : ◌≡◌ {A = Bool} false true = rw (le-ltb i first ge, le-ltb i end past) at is in cc)
  ]
]

off_or_on : (i first end : ℕ) → (is_off i first end ≡ true) ⊎ (holds i first end ≡ true)
off_or_on i first end = elim (cases_lt i first) [
  | inl lt ↦ inl (rw (lt-ltb i first lt))
  | inr ge ↦ elim (cases_lt i end) [
    | inl lt ↦ inr (rw (le-ltb i first ge, lt-ltb i end lt))
    | inr past ↦ inl (rw (le-ltb i first ge, le-ltb i end past))
  ]
]

by_or_past : (i first end : ℕ) → (ends_by i first end ≡ true) ⊎ (reaches i first end ≡ true)
by_or_past i first end = elim (cases_lt i end) [ inl lt ↦ inr (lt-ltb i end lt) | inr ge ↦ inl (rw (le-ltb i end ge)) ]

-- no test asks about a node
module _ (e : ℕ) where
  never_direct : (first : ℕ) (s : Option (Branch Placed)) → useful_direct e (λ _ _. false) first s
  never_direct first s = never_below (λ (b : Branch Placed). b.entries.slots.items) (λ _ _ _. Unit {0}) 1 (λ _ _. tt) e first s

  never_indirect : (first : ℕ) (s : Option (Branch (Branch Placed))) → useful_indirect e (λ _ _. false) first s
  never_indirect first s = never_below (λ (b : Branch (Branch Placed)). b.entries.slots.items) (useful_direct e) (e * 1) never_direct e first s

  never_double : (first : ℕ) (s : Option (Branch (Branch (Branch Placed)))) → useful_double e (λ _ _. false) first s
  never_double first s = never_below (λ (b : Branch (Branch (Branch Placed))). b.entries.slots.items) (useful_indirect e) (e * (e * 1)) never_indirect e first s

-- the laws of a node of each class
module _ (e : ℕ) (positive : 0 < e) where
  once : 0 < e * 1
  once = omega arith

  twice : 0 < e * (e * 1)
  twice = times_positive e (e * 1) positive once

  either_direct : (asked one other : ℕ → ℕ → Bool) (first : ℕ) (s : Option (Branch Placed)) → shaped_direct e s → AsksEither first (first + e * 1) asked one other
      → useful_direct e one first s → useful_direct e other first s → useful_direct e asked first s
  either_direct = either_below (λ (b : Branch Placed). b.entries.slots.items) (λ _ _ _. Unit {0}) 1 (λ _. Unit {0}) counted_direct (lit< tt) (λ _ _. tt) (λ _ _ _ _ _ _ _ _ _. tt) e positive

  either_indirect : (asked one other : ℕ → ℕ → Bool) (first : ℕ) (s : Option (Branch (Branch Placed))) → shaped_indirect e s → AsksEither first (first + e * (e * 1)) asked one other
      → useful_indirect e one first s → useful_indirect e other first s → useful_indirect e asked first s
  either_indirect = either_below (λ (b : Branch (Branch Placed)). b.entries.slots.items) (useful_direct e) (e * 1) (shaped_direct e) counted_indirect once (λ _ _. tt) either_direct e positive

  either_double : (asked one other : ℕ → ℕ → Bool) (first : ℕ) (s : Option (Branch (Branch (Branch Placed)))) → shaped_double e s → AsksEither first (first + e * (e * (e * 1))) asked one other
      → useful_double e one first s → useful_double e other first s → useful_double e asked first s
  either_double = either_below (λ (b : Branch (Branch (Branch Placed))). b.entries.slots.items) (useful_indirect e) (e * (e * 1)) (shaped_indirect e) counted_double twice (λ _ _. tt) either_indirect e positive

  found_direct : (asked : ℕ → ℕ → Bool) (first i : ℕ) (s : Option (Branch Placed)) (t : Placed) → shaped_direct e s → find_direct e s i ≡ Some t
      → ((start end : ℕ) → asked start end ≡ true → (start ≤ first + i) × (first + i < end)) → useful_direct e asked first s
  found_direct asked first i s t =
      found_below (λ (b : Branch Placed). b.entries.slots.items) (λ _ _ _. Unit {0}) 1 (λ _. Unit {0}) counted_direct (lit< tt) (λ _ _. tt) (λ _ _ _ _ _ _ _ _ _. tt)
      only_at_zero (λ k. nothing_at_zero k) (λ _ _. tt) (λ _ _ _ _ _ _ _ _. tt) e asked first i s t

  found_indirect : (asked : ℕ → ℕ → Bool) (first i : ℕ) (s : Option (Branch (Branch Placed))) (t : Placed) → shaped_indirect e s → find_indirect e s i ≡ Some t
      → ((start end : ℕ) → asked start end ≡ true → (start ≤ first + i) × (first + i < end)) → useful_indirect e asked first s
  found_indirect asked first i s t =
      found_below (λ (b : Branch (Branch Placed)). b.entries.slots.items) (useful_direct e) (e * 1) (shaped_direct e) counted_indirect once (λ _ _. tt) either_direct
      (find_direct e) (λ k. refl) (never_direct e) found_direct e asked first i s t

  found_double : (asked : ℕ → ℕ → Bool) (first i : ℕ) (s : Option (Branch (Branch (Branch Placed)))) (t : Placed) → shaped_double e s → find_double e s i ≡ Some t
      → ((start end : ℕ) → asked start end ≡ true → (start ≤ first + i) × (first + i < end)) → useful_double e asked first s
  found_double asked first i s t =
      found_below (λ (b : Branch (Branch (Branch Placed))). b.entries.slots.items) (useful_indirect e) (e * (e * 1)) (shaped_indirect e) counted_double twice (λ _ _. tt) either_indirect
      (find_indirect e) (λ k. refl) (never_indirect e) found_indirect e asked first i s t

module _ {B L : Type 0} (f : FileState B L) (ok : IsFile f) where
  abbrev e : ℕ
  e = node_entries f.shape

  abbrev d : ℕ
  d = inode_entries f.shape

  p : 0 < e
  p = entries_positive f.shape

  -- a node that is asked about is one that one of two others asks about
  pub useful_either : (asked one other : ℕ → ℕ → Bool) → ((first end : ℕ) → (one first end ≡ true) ⊎ (other first end ≡ true)) → IsUseful one f → IsUseful other f → IsUseful asked f
  useful_either asked one other test a b = record {
    direct =
        entries_below (useful_direct e) (shaped_direct e) (e * 1) (λ _ _. tt) 2 f.direct.slots.items ok.direct asked d
        (λ k _. either_direct e p asked one other (d + k * (e * 1)) (entry_at f.direct.slots.items k) (ok.direct.1 k) (λ first end _ _ _ _. test first end) (a.direct k) (b.direct k));
    indirect =
        entries_below (useful_indirect e) (shaped_indirect e) (e * (e * 1)) (λ _ _. tt) 2 f.indirect.slots.items ok.indirect asked (d + 2 * e)
        (λ k _. either_indirect e p asked one other (d + 2 * e + k * (e * (e * 1))) (entry_at f.indirect.slots.items k) (ok.indirect.1 k) (λ first end _ _ _ _. test first end) (a.indirect k) (b.indirect k));
    double =
        entries_below (useful_double e) (shaped_double e) (e * (e * (e * 1))) (λ _ _. tt) 1 f.double.slots.items ok.double asked (d + 2 * e + 2 * (e * e))
        (λ k _. either_double e p asked one other (d + 2 * e + 2 * (e * e) + k * (e * (e * (e * 1)))) (entry_at f.double.slots.items k) (ok.double.1 k) (λ first end _ _ _ _. test first end) (a.double k) (b.double k));
  }

  -- where in the range that an index falls to each node on the way to it names something, all that hold it do
  pub useful_way : (i : ℕ)
      → (d ≤ i → i < d + 2 * (e * 1) → UsefulIn (useful_direct e) (e * 1) (holds i) d f.direct.slots.items)
      → (d + 2 * e ≤ i → i < d + 2 * e + 2 * (e * (e * 1)) → UsefulIn (useful_indirect e) (e * (e * 1)) (holds i) (d + 2 * e) f.indirect.slots.items)
      → (d + 2 * e + 2 * (e * e) ≤ i → i < d + 2 * e + 2 * (e * e) + 1 * (e * (e * (e * 1))) → UsefulIn (useful_double e) (e * (e * (e * 1))) (holds i) (d + 2 * e + 2 * (e * e)) f.double.slots.items)
      → IsUseful (holds i) f
  useful_way i direct indirect double = record {
    direct = way_from (useful_direct e) (shaped_direct e) (e * 1) (λ _ _. tt) (either_direct e p) (never_direct e) 2 (holds i) d i f.direct.slots.items ok.direct direct (holding i);
    indirect = way_from (useful_indirect e) (shaped_indirect e) (e * (e * 1)) (λ _ _. tt) (either_indirect e p) (never_indirect e) 2 (holds i) (d + 2 * e) i f.indirect.slots.items ok.indirect indirect (holding i);
    double = way_from (useful_double e) (shaped_double e) (e * (e * (e * 1))) (λ _ _. tt) (either_double e p) (never_double e) 1 (holds i) (d + 2 * e + 2 * (e * e)) i f.double.slots.items ok.double double (holding i);
  }

  -- the nodes on the way to a ticket name something
  useful_on : (i : ℕ) (t : Placed) → ticket_at f i ≡ Some t → IsUseful (holds i) f
  useful_on i t is =
      let rest : d ≤ i → joined (2 * e) (in_direct f) (joined (2 * (e * e)) (in_indirect f) (in_double f)) (i - d) ≡ Some t =
      λ h. sym (at_rest d (in_tickets f) (joined (2 * e) (in_direct f) (joined (2 * (e * e)) (in_indirect f) (in_double f))) i h) ∙ is in
      let last : d ≤ i → 2 * e ≤ i - d → joined (2 * (e * e)) (in_indirect f) (in_double f) (i - d - 2 * e) ≡ Some t =
      λ h k. sym (at_rest (2 * e) (in_direct f) (joined (2 * (e * e)) (in_indirect f) (in_double f)) (i - d) k) ∙ rest h in
      record {
        direct =
            found_from (useful_direct e) (shaped_direct e) (e * 1) (λ _ _. tt) (either_direct e p) (never_direct e) (find_direct e) (found_direct e p) 2 (holds i) d i f.direct.slots.items t ok.direct
            (λ from to. sym (at_first (2 * e) (in_direct f) (joined (2 * (e * e)) (in_indirect f) (in_double f)) (i - d) (omega arith)) ∙ rest from) (holding i);
        indirect =
            found_from (useful_indirect e) (shaped_indirect e) (e * (e * 1)) (λ _ _. tt) (either_indirect e p) (never_indirect e) (find_indirect e) (found_indirect e p) 2 (holds i) (d + 2 * e) i f.indirect.slots.items t ok.indirect
            (λ from to.
            let at : i - d - 2 * e ≡ i - (d + 2 * e) = omega arith in
            rw (← at) (sym (at_first (2 * (e * e)) (in_indirect f) (in_double f) (i - d - 2 * e) (omega arith)) ∙ last (omega arith) (omega arith))) (holding i);
        double =
            found_from (useful_double e) (shaped_double e) (e * (e * (e * 1))) (λ _ _. tt) (either_double e p) (never_double e) (find_double e) (found_double e p) 1 (holds i) (d + 2 * e + 2 * (e * e)) i f.double.slots.items t ok.double
            (λ from to.
            let at : i - d - 2 * e - 2 * (e * e) ≡ i - (d + 2 * e + 2 * (e * e)) = omega arith in
            rw (← at) (sym (at_rest (2 * (e * e)) (in_indirect f) (in_double f) (i - d - 2 * e) (omega arith)) ∙ last (omega arith) (omega arith))) (holding i);
      }

  -- where each node off the way to an index names something and a ticket stands there, each node does
  pub useful_found : (i : ℕ) (t : Placed) → ticket_at f i ≡ Some t → IsUseful (is_off i) f → IsUseful each_node f
  useful_found i t is off = useful_either each_node (is_off i) (holds i) (off_or_on i) off (useful_on i t is)

  -- where each node off the way to an index names something, and each on it, all do
  pub useful_hole : (i : ℕ) → IsUseful (is_off i) f → IsUseful (holds i) f → IsUseful each_node f
  useful_hole i off on = useful_either each_node (is_off i) (holds i) (off_or_on i) off on

  -- a node reaches past an index, or it does not
  pub useful_cut : (i : ℕ) → IsUseful (ends_by i) f → IsUseful (reaches i) f → IsUseful each_node f
  useful_cut i below past = useful_either each_node (ends_by i) (reaches i) (by_or_past i) below past

  -- where each node names something, those that are asked about do
  pub useful_some : (asked : ℕ → ℕ → Bool) → IsUseful each_node f → IsUseful asked f
  useful_some asked all = useful_either asked each_node each_node (λ first end. inl refl) all all

-- a file without blocks has no node below its inode
pub useful_bare : {B L : Type 0} (f : FileState B L) → IsBare f → IsUseful each_node f
useful_bare f bare = record {
  direct = λ k. rw (bare.direct k) tt;
  indirect = λ k. rw (bare.indirect k) tt;
  double = λ k. rw (bare.double k) tt;
}

-- An index falls to exactly one range, and the others keep what they have: so a change of the entries of one range at
-- an index is a change of the file at that index alone.
use Rattle.std.proofs.Common.{◌≡◌, ◌≢◌, ℕ, ◌+◌, ◌-◌, ◌*◌, ◌^◌, ◌<◌, ◌≤◌, Bool, Option, Some, None, Ok, Err, refl, ap, sym, subst, ◌∙◌, arith, lit<}
use Rattle.std.specs.Prelude.{IfOk, OnErr, MatchOption}
use Rattle.std.specs.declared.result.Result.{Result}
use Rattle.geometry.specs.declared.shape.Shape.{Shape}
use Rattle.geometry.specs.declared.shape.Shape.TheVariants.{Tiny, Kernel}
use Rattle.geometry.specs.Path.{inode_entries, node_entries, largest_length, path}
use Rattle.tickets.specs.Placed.{Placed}
use Rattle.nodes.specs.declared.entries.Entries.{Entries}
use Rattle.nodes.specs.declared.spare.Spare.{Spare}
use Rattle.nodes.specs.declared.spare.Spare.TheVariants.{Ticket, Token}
use Rattle.nodes.specs.Tree.{SetsAt, Same, SparesIndex, SparesPast, AsksHolding, HandsOut, HandsOutAt, SwapsOne, KeepsNamers, UsefulIn, ShapedIn, EmptyFrom, find_in, missing_in, only_at_zero}
use Rattle.nodes.specs.Change.{Weighing, WeighsAs, ticket_weight, ChangesEntries, nothing}
use Rattle.nodes.specs.Spares.{KeepsNames, lacking_in}
use Rattle.nodes.specs.declared.file.FileState.{FileState}
use Rattle.nodes.specs.declared.spare_path.SparePath.{SparePath}
use Rattle.nodes.specs.declared.place.Spot.{Spot}
use Rattle.nodes.specs.File.{IsFile, below_weight, joined, ticket_at, ends_at, missing_to, in_tickets, in_direct, in_indirect, in_double, find_direct, find_indirect, find_double, missing_direct, missing_indirect, missing_double, address_of, nid_of, weight_direct, weight_indirect, weight_double}
use Rattle.nodes.specs.Lacking.{lacking_to, lacking_direct, lacking_indirect, lacking_double}
use Rattle.nodes.specs.Marks.{MarksNode, unchanged}
use Rattle.nodes.specs.Owners.{namer_at, namer_direct, namer_indirect, namer_double}
use Rattle.nodes.specs.Places.{Range, OfTickets, OfDirect, OfIndirect, OfDouble, Named, span_of, width_of, first_of, shaped_of, entries_of, LiesIn}
use Rattle.nodes.specs.Puts.{Puts, Cuts, Swaps, Erases, IsHole}
use Rattle.nodes.specs.Useful.{IsUseful, holds, useful_direct, useful_indirect, useful_double}
use Rattle.nodes.proofs.Bounds.{entries_positive, past_tickets, past_direct, past_indirect}
use Rattle.nodes.proofs.Four.{same_1, same_2, same_3, same_4, sets_1, sets_2, sets_3, sets_4, hands_1, hands_2, hands_3, hands_4, swaps_1, swaps_2, swaps_3, swaps_4}
use Rattle.nodes.proofs.Joined.{at_first, hands_empty, hands_at_empty, swaps_empty}
use Rattle.nodes.proofs.Lacking.{in_second, in_third, in_fourth}
use Rattle.nodes.proofs.Namers.{same_direct, same_indirect, same_double, keeps_direct, keeps_indirect, keeps_double, names_direct, names_indirect, names_double}
use Rattle.nodes.proofs.Paths.{path_is}
use Rattle.nodes.proofs.Useful.{useful_way, holding}
use Rattle.nodes.proofs.Balance.{fewer}
use Rattle.nodes.proofs.Ranges.{marks_tickets, marks_direct, marks_indirect, marks_double, file_tickets, file_direct, file_indirect, file_double}

-- ---- the ranges

abbrev pub with_entries : {B L : Type 0} → (r : Range) → FileState B L → Entries (Named r) → FileState B L
with_entries OfTickets f x = record f { tickets = x }
with_entries OfDirect f x = record f { direct = x }
with_entries OfIndirect f x = record f { indirect = x }
with_entries OfDouble f x = record f { double = x }

abbrev pub find_of : (r : Range) → ℕ → Entries (Named r) → ℕ → Option Placed
find_of OfTickets e x = find_in only_at_zero 1 x.slots.items
find_of OfDirect e x = find_in (find_direct e) (e * 1) x.slots.items
find_of OfIndirect e x = find_in (find_indirect e) (e * (e * 1)) x.slots.items
find_of OfDouble e x = find_in (find_double e) (e * (e * (e * 1))) x.slots.items

abbrev pub namer_of : (r : Range) → ℕ → Entries (Named r) → ℕ → Option ℕ
namer_of OfTickets e x = find_in (λ _ _. None) 1 x.slots.items
namer_of OfDirect e x = find_in (namer_direct e) (e * 1) x.slots.items
namer_of OfIndirect e x = find_in (namer_indirect e) (e * (e * 1)) x.slots.items
namer_of OfDouble e x = find_in (namer_double e) (e * (e * (e * 1))) x.slots.items

abbrev pub useful_of : (r : Range) → ℕ → (ℕ → ℕ → Bool) → ℕ → Entries (Named r) → Type 0
useful_of OfTickets e asked first x = UsefulIn (λ _ _ _. Unit {0}) 1 asked first x.slots.items
useful_of OfDirect e asked first x = UsefulIn (useful_direct e) (e * 1) asked first x.slots.items
useful_of OfIndirect e asked first x = UsefulIn (useful_indirect e) (e * (e * 1)) asked first x.slots.items
useful_of OfDouble e asked first x = UsefulIn (useful_double e) (e * (e * (e * 1))) asked first x.slots.items

abbrev pub number_of_range : (r : Range) → Option (Named r) → ℕ
number_of_range OfTickets = address_of
number_of_range OfDirect = nid_of
number_of_range OfIndirect = nid_of
number_of_range OfDouble = nid_of

abbrev pub weight_of_range : (r : Range) → Weighing Placed → Option (Named r) → ℕ
weight_of_range OfTickets = ticket_weight
weight_of_range OfDirect = weight_direct
weight_of_range OfIndirect = weight_indirect
weight_of_range OfDouble = weight_double

abbrev pub ChangesOf : (r : Range) → Entries (Named r) → Entries (Named r) → (Weighing Placed → ℕ) → (Weighing Placed → ℕ) → Type 0
ChangesOf r old new out into = ChangesEntries (number_of_range r) (weight_of_range r) old.slots.items new.slots.items old.dirty new.dirty out into

-- ---- what stands at an index

fits : (r : Range) (s : Shape) → span_of r (node_entries s) < 2 ^ 64
fits OfTickets s = lit< tt
fits OfDirect Tiny = lit< tt
fits OfDirect Kernel = lit< tt
fits OfIndirect Tiny = lit< tt
fits OfIndirect Kernel = lit< tt
fits OfDouble Tiny = lit< tt
fits OfDouble Kernel = lit< tt

shaped : {B L : Type 0} (r : Range) (f : FileState B L) → IsFile f → ShapedIn (shaped_of r (node_entries f.shape)) (width_of r f.shape) (entries_of r f).slots.items
shaped OfTickets f ok = ok.tickets
shaped OfDirect f ok = ok.direct
shaped OfIndirect f ok = ok.indirect
shaped OfDouble f ok = ok.double

pub lies : {B L : Type 0} (r : Range) (f : FileState B L) → IsFile f → (i count entries index : ℕ)
    → count ≡ width_of r f.shape → entries ≡ node_entries f.shape → i ≡ first_of r f.shape + index → index < width_of r f.shape * span_of r (node_entries f.shape)
    → LiesIn r f i (record { count = count; entries = entries; index = index })
lies r f ok i count entries index few each at inside =
    let p = entries_positive f.shape in
    record {
      count = few;
      entries = each;
      index = at;
      some = omega arith;
      fits = rw each (fits r f.shape);
      inside = rw (few, each) inside;
      shaped = rw (few, each) (shaped r f ok);
    }

abbrev pub of_range : {A : Type 0} → Range → (ℕ → ℕ → A) → (ℕ → ℕ → A) → (ℕ → ℕ → A) → (ℕ → ℕ → A) → ℕ → ℕ → A
of_range OfTickets a b c x = a
of_range OfDirect a b c x = b
of_range OfIndirect a b c x = c
of_range OfDouble a b c x = x

module _ {B L : Type 0} (f : FileState B L) (i : ℕ) (spot : Spot) where
  -- of four maps that are joined, each for nodes of so many entries, what stands at an index
  pub there : {A : Type 0} (a b c x : ℕ → ℕ → A) (r : Range) → LiesIn r f i spot
      → let e = node_entries f.shape in joined (inode_entries f.shape) (a e) (joined (2 * e) (b e) (joined (2 * (e * e)) (c e) (x e))) i ≡ of_range r a b c x spot.entries spot.index
  there a b c x OfTickets is =
      let e = node_entries f.shape in
      let inside = rw is.count at is.inside in
      let from = is.index in
      let at : i ≡ spot.index = omega arith in
      at_first (inode_entries f.shape) (a e) (joined (2 * e) (b e) (joined (2 * (e * e)) (c e) (x e))) i (omega arith) ∙ (ap (a e) at ∙ ap (λ z. a z spot.index) (sym is.entries))
  there a b c x OfDirect is =
      let e = node_entries f.shape in
      let inside = rw (is.count, is.entries) at is.inside in
      let from = is.index in
      let at : i - inode_entries f.shape ≡ spot.index = omega arith in
      in_second (inode_entries f.shape) (2 * e) (2 * (e * e)) (a e) (b e) (c e) (x e) i (omega arith) (omega arith) ∙ (ap (b e) at ∙ ap (λ z. b z spot.index) (sym is.entries))
  there a b c x OfIndirect is =
      let e = node_entries f.shape in
      let inside = rw (is.count, is.entries) at is.inside in
      let from = is.index in
      let at : i - inode_entries f.shape - 2 * e ≡ spot.index = omega arith in
      in_third (inode_entries f.shape) (2 * e) (2 * (e * e)) (a e) (b e) (c e) (x e) i (omega arith) (omega arith) (omega arith) ∙ (ap (c e) at ∙ ap (λ z. c z spot.index) (sym is.entries))
  there a b c x OfDouble is =
      let e = node_entries f.shape in
      let from = is.index in
      let at : i - inode_entries f.shape - 2 * e - 2 * (e * e) ≡ spot.index = omega arith in
      in_fourth (inode_entries f.shape) (2 * e) (2 * (e * e)) (a e) (b e) (c e) (x e) i (omega arith) (omega arith) (omega arith) ∙ (ap (x e) at ∙ ap (λ z. x z spot.index) (sym is.entries))

  found : (r : Range) → LiesIn r f i spot → ticket_at f i ≡ of_range r (λ e. find_of OfTickets e f.tickets) (λ e. find_of OfDirect e f.direct) (λ e. find_of OfIndirect e f.indirect) (λ e. find_of OfDouble e f.double) spot.entries spot.index
  found = there (λ e. find_of OfTickets e f.tickets) (λ e. find_of OfDirect e f.direct) (λ e. find_of OfIndirect e f.indirect) (λ e. find_of OfDouble e f.double)

  pub found_there : (r : Range) → LiesIn r f i spot → ticket_at f i ≡ find_of r spot.entries (entries_of r f) spot.index
  found_there OfTickets is = found OfTickets is
  found_there OfDirect is = found OfDirect is
  found_there OfIndirect is = found OfIndirect is
  found_there OfDouble is = found OfDouble is

  pub address_there : (r : Range) → LiesIn r f i spot → i < largest_length f.shape → (address : ℕ) → address ≡ address_of (find_of r spot.entries (entries_of r f) spot.index)
      → (address ≡ address_of (ticket_at f i)) × (address ≡ address_of (ends_at f (path f.shape i)))
  address_there r is low address seen =
      let ticket : address ≡ address_of (ticket_at f i) = rw (found_there r is) seen in
      (ticket, rw (← path_is f i low) ticket)

  abbrev pub missed : Range → ℕ → ℕ → ℕ
  missed r =
      of_range r (λ e _. 0) (λ e. missing_in (missing_direct e) (e * 1) f.direct.slots.items)
      (λ e. missing_in (missing_indirect e) (e * (e * 1)) f.indirect.slots.items) (λ e. missing_in (missing_double e) (e * (e * (e * 1))) f.double.slots.items)

  pub missed_there : (r : Range) → LiesIn r f i spot → missing_to f i ≡ missed r spot.entries spot.index
  missed_there =
      there (λ e _. 0) (λ e. missing_in (missing_direct e) (e * 1) f.direct.slots.items)
      (λ e. missing_in (missing_indirect e) (e * (e * 1)) f.indirect.slots.items) (λ e. missing_in (missing_double e) (e * (e * (e * 1))) f.double.slots.items)

  abbrev pub lacked : SparePath B L → Range → ℕ → ℕ → ℕ
  lacked s r =
      of_range r (λ e _. 0) (λ e k. lacking_in (lacking_direct e) (e * 1) f.direct.slots.items k s.nodes.below.below)
      (λ e k. lacking_in (lacking_indirect e) (e * (e * 1)) f.indirect.slots.items k s.nodes.below) (λ e k. lacking_in (lacking_double e) (e * (e * (e * 1))) f.double.slots.items k s.nodes)

  pub lacked_there : (s : SparePath B L) (r : Range) → LiesIn r f i spot → lacking_to f i s ≡ lacked s r spot.entries spot.index
  lacked_there s =
      there (λ e _. 0) (λ e k. lacking_in (lacking_direct e) (e * 1) f.direct.slots.items k s.nodes.below.below)
      (λ e k. lacking_in (lacking_indirect e) (e * (e * 1)) f.indirect.slots.items k s.nodes.below) (λ e k. lacking_in (lacking_double e) (e * (e * (e * 1))) f.double.slots.items k s.nodes)

  abbrev pub named : Range → ℕ → ℕ → Option ℕ
  named r =
      of_range r (λ e _. Some f.token.number) (λ e. find_in (namer_direct e) (e * 1) f.direct.slots.items)
      (λ e. find_in (namer_indirect e) (e * (e * 1)) f.indirect.slots.items) (λ e. find_in (namer_double e) (e * (e * (e * 1))) f.double.slots.items)

  pub named_there : (r : Range) → LiesIn r f i spot → namer_at f i ≡ named r spot.entries spot.index
  named_there =
      there (λ e _. Some f.token.number) (λ e. find_in (namer_direct e) (e * 1) f.direct.slots.items)
      (λ e. find_in (namer_indirect e) (e * (e * 1)) f.indirect.slots.items) (λ e. find_in (namer_double e) (e * (e * (e * 1))) f.double.slots.items)

-- ---- a change of one range

-- where an index lies, counted from the first of a range
abbrev pub past_of : Range → Shape → ℕ → ℕ
past_of OfTickets s from = from
past_of OfDirect s from = from - inode_entries s
past_of OfIndirect s from = from - inode_entries s - 2 * node_entries s
past_of OfDouble s from = from - inode_entries s - 2 * node_entries s - 2 * (node_entries s * node_entries s)

past_all : (r : Range) (s : Shape) (from : ℕ) → from ≤ first_of r s + past_of r s from
past_all OfTickets s from = omega arith
past_all OfDirect s from = omega arith
past_all OfIndirect s from = omega arith
past_all OfDouble s from = omega arith

module _ {B L : Type 0} (f : FileState B L) where
  abbrev d : ℕ
  d = inode_entries f.shape

  abbrev e : ℕ
  e = node_entries f.shape

  pub head_kept : (r : Range) (x : Entries (Named r)) → let g = with_entries r f x in (g.length ≡ f.length) × (g.shape ≡ f.shape) × (g.kind ≡ f.kind)
  head_kept OfTickets x = (refl, refl, refl)
  head_kept OfDirect x = (refl, refl, refl)
  head_kept OfIndirect x = (refl, refl, refl)
  head_kept OfDouble x = (refl, refl, refl)

  pub still : (r : Range) (x : Entries (Named r)) (i : ℕ) (spot : Spot) → LiesIn r f i spot → ShapedIn (shaped_of r spot.entries) spot.count x.slots.items → LiesIn r (with_entries r f x) i spot
  still OfTickets x i spot is s = record { count = is.count; entries = is.entries; index = is.index; some = is.some; fits = is.fits; inside = is.inside; shaped = s }
  still OfDirect x i spot is s = record { count = is.count; entries = is.entries; index = is.index; some = is.some; fits = is.fits; inside = is.inside; shaped = s }
  still OfIndirect x i spot is s = record { count = is.count; entries = is.entries; index = is.index; some = is.some; fits = is.fits; inside = is.inside; shaped = s }
  still OfDouble x i spot is s = record { count = is.count; entries = is.entries; index = is.index; some = is.some; fits = is.fits; inside = is.inside; shaped = s }

  pub marks : (r : Range) (out into : Weighing Placed → ℕ) (x : Entries (Named r)) → ChangesOf r (entries_of r f) x out into → MarksNode unchanged f (with_entries r f x) out into
  marks OfTickets out into x change = marks_tickets f out into x change
  marks OfDirect out into x change = marks_direct f out into x change
  marks OfIndirect out into x change = marks_indirect f out into x change
  marks OfDouble out into x change = marks_double f out into x change

  pub is_file : (r : Range) (x : Entries (Named r)) → IsFile f → ShapedIn (shaped_of r (node_entries f.shape)) (width_of r f.shape) x.slots.items
      → EmptyFrom (ticket_at (with_entries r f x)) f.length → IsFile (with_entries r f x)
  is_file OfTickets x ok shaped within = file_tickets f ok x shaped within
  is_file OfDirect x ok shaped within = file_direct f ok x shaped within
  is_file OfIndirect x ok shaped within = file_indirect f ok x shaped within
  is_file OfDouble x ok shaped within = file_double f ok x shaped within

  pub useful : (r : Range) (x : Entries (Named r)) (asked : ℕ → ℕ → Bool)
      → (let e = node_entries f.shape in useful_of r e asked (first_of r f.shape) (entries_of r f) → useful_of r e asked (first_of r f.shape) x)
      → IsUseful asked f → IsUseful asked (with_entries r f x)
  useful OfTickets x asked set ok = record { direct = ok.direct; indirect = ok.indirect; double = ok.double }
  useful OfDirect x asked set ok = record { direct = set ok.direct; indirect = ok.indirect; double = ok.double }
  useful OfIndirect x asked set ok = record { direct = ok.direct; indirect = set ok.indirect; double = ok.double }
  useful OfDouble x asked set ok = record { direct = ok.direct; indirect = ok.indirect; double = set ok.double }

  pub same_namers : (r : Range) (x : Entries (Named r)) → (let e = node_entries f.shape in Same (namer_of r e (entries_of r f)) (namer_of r e x)) → Same (namer_at f) (namer_at (with_entries r f x))
  same_namers OfTickets x s = λ j. refl
  same_namers OfDirect x s = same_direct f x s
  same_namers OfIndirect x s = same_indirect f x s
  same_namers OfDouble x s = same_double f x s

  pub sets : (r : Range) (x : Entries (Named r)) (i k : ℕ) (v : Option Placed) → i ≡ first_of r f.shape + k → k < width_of r f.shape * span_of r (node_entries f.shape)
      → (let e = node_entries f.shape in SetsAt (find_of r e (entries_of r f)) (find_of r e x) k v) → SetsAt (ticket_at f) (ticket_at (with_entries r f x)) i v
  sets OfTickets x i k v at inside s =
      let d = inode_entries f.shape in
      let e = node_entries f.shape in
      let back : k ≡ i = omega arith in
      sets_1 d (2 * e) (2 * (e * e)) (in_tickets f) (in_direct f) (in_indirect f) (in_double f) (find_of OfTickets e x) i v (omega arith) (rw back at s)
  sets OfDirect x i k v at inside s =
      let d = inode_entries f.shape in
      let e = node_entries f.shape in
      let back : k ≡ i - d = omega arith in
      sets_2 d (2 * e) (2 * (e * e)) (in_tickets f) (in_direct f) (in_indirect f) (in_double f) (find_of OfDirect e x) i v (omega arith) (omega arith) (rw back at s)
  sets OfIndirect x i k v at inside s =
      let d = inode_entries f.shape in
      let e = node_entries f.shape in
      let back : k ≡ i - d - 2 * e = omega arith in
      sets_3 d (2 * e) (2 * (e * e)) (in_tickets f) (in_direct f) (in_indirect f) (in_double f) (find_of OfIndirect e x) i v (omega arith) (omega arith) (omega arith) (rw back at s)
  sets OfDouble x i k v at inside s =
      let d = inode_entries f.shape in
      let e = node_entries f.shape in
      let back : k ≡ i - d - 2 * e - 2 * (e * e) = omega arith in
      sets_4 d (2 * e) (2 * (e * e)) (in_tickets f) (in_direct f) (in_indirect f) (in_double f) (find_of OfDouble e x) i v (omega arith) (omega arith) (omega arith) (rw back at s)

  pub same : (r : Range) (x : Entries (Named r)) → (let e = node_entries f.shape in Same (find_of r e (entries_of r f)) (find_of r e x)) → Same (ticket_at f) (ticket_at (with_entries r f x))
  same OfTickets x s = same_1 d (2 * e) (2 * (e * e)) (in_tickets f) (in_direct f) (in_indirect f) (in_double f) (find_of OfTickets e x) s
  same OfDirect x s = same_2 d (2 * e) (2 * (e * e)) (in_tickets f) (in_direct f) (in_indirect f) (in_double f) (find_of OfDirect e x) s
  same OfIndirect x s = same_3 d (2 * e) (2 * (e * e)) (in_tickets f) (in_direct f) (in_indirect f) (in_double f) (find_of OfIndirect e x) s
  same OfDouble x s = same_4 d (2 * e) (2 * (e * e)) (in_tickets f) (in_direct f) (in_indirect f) (in_double f) (find_of OfDouble e x) s

  pub names : (r : Range) (x : Entries (Named r)) → (let e = node_entries f.shape in KeepsNames (namer_of r e (entries_of r f)) (namer_of r e x)) → KeepsNames (namer_at f) (namer_at (with_entries r f x))
  names OfTickets x s = λ j k at. at
  names OfDirect x s = names_direct f x s
  names OfIndirect x s = names_indirect f x s
  names OfDouble x s = names_double f x s

  pub keeps : (r : Range) (x : Entries (Named r)) → (let e = node_entries f.shape in KeepsNamers (find_of r e x) (namer_of r e (entries_of r f)) (namer_of r e x))
      → KeepsNamers (ticket_at (with_entries r f x)) (namer_at f) (namer_at (with_entries r f x))
  keeps OfTickets x s = λ j t at. refl
  keeps OfDirect x s = keeps_direct f x s
  keeps OfIndirect x s = keeps_indirect f x s
  keeps OfDouble x s = keeps_double f x s

  module _ (ok : IsFile f) where
    hands : (r : Range) (x : Entries (Named r)) (from : ℕ) (spare : Spare Placed)
        → (let e = node_entries f.shape in HandsOut (find_of r e (entries_of r f)) (find_of r e x) (past_of r f.shape from) spare) → HandsOut (ticket_at f) (ticket_at (with_entries r f x)) from spare
    hands OfTickets x from spare s = hands_1 d (2 * e) (2 * (e * e)) (in_tickets f) (in_direct f) (in_indirect f) (in_double f) (find_of OfTickets e x) from spare (past_tickets f ok) s
    hands OfDirect x from spare s = hands_2 d (2 * e) (2 * (e * e)) (in_tickets f) (in_direct f) (in_indirect f) (in_double f) (find_of OfDirect e x) from spare (past_direct f ok) s
    hands OfIndirect x from spare s = hands_3 d (2 * e) (2 * (e * e)) (in_tickets f) (in_direct f) (in_indirect f) (in_double f) (find_of OfIndirect e x) from spare (past_indirect f ok) s
    hands OfDouble x from spare s = hands_4 d (2 * e) (2 * (e * e)) (in_tickets f) (in_direct f) (in_indirect f) (in_double f) (find_of OfDouble e x) from spare s

    swaps : (r : Range) (x : Entries (Named r)) (before after : Placed)
        → (let e = node_entries f.shape in SwapsOne (find_of r e (entries_of r f)) (find_of r e x) before after) → SwapsOne (ticket_at f) (ticket_at (with_entries r f x)) before after
    swaps OfTickets x before after s = swaps_1 d (2 * e) (2 * (e * e)) (in_tickets f) (in_direct f) (in_indirect f) (in_double f) (find_of OfTickets e x) before after (past_tickets f ok) s
    swaps OfDirect x before after s = swaps_2 d (2 * e) (2 * (e * e)) (in_tickets f) (in_direct f) (in_indirect f) (in_double f) (find_of OfDirect e x) before after (past_direct f ok) s
    swaps OfIndirect x before after s = swaps_3 d (2 * e) (2 * (e * e)) (in_tickets f) (in_direct f) (in_indirect f) (in_double f) (find_of OfIndirect e x) before after (past_indirect f ok) s
    swaps OfDouble x before after s = swaps_4 d (2 * e) (2 * (e * e)) (in_tickets f) (in_direct f) (in_indirect f) (in_double f) (find_of OfDouble e x) before after s

-- ---- a ticket comes to an index

-- what `put` made of the entries of a range
pub record PutsIn {B L : Type 0} (r : Range) (f : FileState B L) (e count k : ℕ) (x : Entries (Named r)) (t : Placed) (out : Option Placed) : Type 0 where
  pub stood : out ≡ find_of r e (entries_of r f) k
  pub sets : SetsAt (find_of r e (entries_of r f)) (find_of r e x) k (Some t)
  pub namer : Same (namer_of r e (entries_of r f)) (namer_of r e x)
  pub useful : (asked : ℕ → ℕ → Bool) (first : ℕ) → SparesIndex asked (first + k) → useful_of r e asked first (entries_of r f) → useful_of r e asked first x
  pub shaped : ShapedIn (shaped_of r e) count x.slots.items
  pub change : ChangesOf r (entries_of r f) x (λ w. ticket_weight w out) (λ w. w.ticket t)

pub puts : {B L : Type 0} (f : FileState B L) → IsFile f → (i : ℕ) → i < f.length → (t : Placed) (out : Option Placed) (spot : Spot) (r : Range) → LiesIn r f i spot
    → (x : Entries (Named r)) → PutsIn r f spot.entries spot.count spot.index x t out → Puts f (with_entries r f x) i t out
puts f ok i low t out spot r is x put =
    let done = rw (is.entries, is.count) at put in
    let inside = rw (is.entries, is.count) at is.inside in
    let set = sets f r x i spot.index (Some t) is.index inside done.sets in
    let head = head_kept f r x in
    record {
      stood = put.stood ∙ sym (found_there f i spot r is);
      sets = set;
      namer = same_namers f r x done.namer;
      useful = λ asked spares. useful f r x asked (done.useful asked (first_of r f.shape) (subst (SparesIndex asked) is.index spares));
      change = marks f r (λ w. ticket_weight w out) (λ w. w.ticket t) x done.change;
      length = head.0;
      shape = head.1;
      kind = head.2;
      file = is_file f r x ok done.shaped (λ j h. (let other : j ≢ i = omega arith in set.1 j other ∙ ok.within j h));
    }

-- ---- the ticket at an index goes, or the token of a node on the way to it

-- what `erase` made of the entries of a range
pub record ErasesIn {B L : Type 0} (r : Range) (f : FileState B L) (e count k : ℕ) (x : Entries (Named r)) (result : Option (Spare Placed)) : Type 0 where
  pub shaped : ShapedIn (shaped_of r e) count x.slots.items
  pub namer : KeepsNamers (find_of r e x) (namer_of r e (entries_of r f)) (namer_of r e x)
  pub useful : (asked : ℕ → ℕ → Bool) (first : ℕ) → SparesIndex asked (first + k) → useful_of r e asked first (entries_of r f) → useful_of r e asked first x
  pub way : MatchOption result ((asked : ℕ → ℕ → Bool) (first : ℕ) → AsksHolding asked first (first + k) → useful_of r e asked first x) (λ _. Unit {0})
  pub none : MatchOption result ((x ≡ entries_of r f) × (find_of r e (entries_of r f) k ≡ None)) (λ _. Unit {0})
  pub out : MatchOption result (Unit {0}) (λ spare. HandsOutAt (find_of r e (entries_of r f)) (find_of r e x) k spare)
  pub change : MatchOption result (Unit {0}) (λ spare. (out : Weighing Placed → ℕ) × WeighsAs spare out × ChangesOf r (entries_of r f) x out nothing)

module _ {B L : Type 0} (f : FileState B L) (ok : IsFile f) (i : ℕ) (spot : Spot) where
  -- the entries of a range stayed, so the file did
  stays : (r : Range) (x : Entries (Named r)) → x ≡ entries_of r f → with_entries r f x ≡ f
  stays OfTickets x same k = record f { tickets = same k }
  stays OfDirect x same k = record f { direct = same k }
  stays OfIndirect x same k = record f { indirect = same k }
  stays OfDouble x same k = record f { double = same k }

  -- each node on the way below the entries names something, so each that holds the index does
  holds_way : (r : Range) → LiesIn r f i spot
      → (let e = node_entries f.shape in useful_of r e (holds i) (first_of r f.shape) (entries_of r f)) → IsUseful (holds i) f
  holds_way OfTickets is way =
      let inside = rw is.count at is.inside in
      let at = is.index in
      useful_way f ok i (λ from to. absurd (omega arith)) (λ from to. absurd (omega arith)) (λ from to. absurd (omega arith))
  holds_way OfDirect is way =
      let inside = rw (is.count, is.entries) at is.inside in
      let at = is.index in
      useful_way f ok i (λ from to. way) (λ from to. absurd (omega arith)) (λ from to. absurd (omega arith))
  holds_way OfIndirect is way =
      let inside = rw (is.count, is.entries) at is.inside in
      let at = is.index in
      useful_way f ok i (λ from to. absurd (omega arith)) (λ from to. way) (λ from to. absurd (omega arith))
  holds_way OfDouble is way =
      let inside = rw (is.count, is.entries) at is.inside in
      let at = is.index in
      useful_way f ok i (λ from to. absurd (omega arith)) (λ from to. absurd (omega arith)) (λ from to. way)

  hands_at : (r : Range) → LiesIn r f i spot → (x : Entries (Named r)) (spare : Spare Placed)
      → HandsOutAt (find_of r (node_entries f.shape) (entries_of r f)) (find_of r (node_entries f.shape) x) spot.index spare
      → HandsOutAt (ticket_at f) (ticket_at (with_entries r f x)) i spare
  hands_at r is x (Token k) s = same f r x s
  hands_at r is x (Ticket t) s = (
    found_there f i spot r is ∙ ap (λ e. find_of r e (entries_of r f) spot.index) is.entries ∙ s.0,
    sets f r x i spot.index None is.index (rw (is.entries, is.count) at is.inside) s.1,
  )

  pub erases : (r : Range) → LiesIn r f i spot → (x : Entries (Named r)) (result : Option (Spare Placed)) → ErasesIn r f spot.entries spot.count spot.index x result
      → MatchOption result ((with_entries r f x ≡ f) × IsHole f i) (λ _. Unit {0}) × MatchOption result (Unit {0}) (λ spare. Erases f (with_entries r f x) i spare)
  erases r is x None erase =
      let done = rw (is.entries, is.count) at erase in
      let way = subst (λ y. useful_of r (node_entries f.shape) (holds i) (first_of r f.shape) y) done.none.0
      (done.way (holds i) (first_of r f.shape) (λ start end _ _ a. subst (λ k. (start ≤ k) × (k < end)) is.index (holding i start end a))) in (
        (stays r x done.none.0, record { nothing = found_there f i spot r is ∙ ap (λ e. find_of r e (entries_of r f) spot.index) is.entries ∙ done.none.1; way = holds_way r is way }),
        tt,
      )
  erases r is x (Some spare) erase =
      let done = rw (is.entries, is.count) at erase in
      let hand = hands_at r is x spare done.out in
      let head = head_kept f r x in
      let change = marks f r done.change.0 nothing x done.change.2 in (
        tt,
        record {
          out = hand;
          namer = keeps f r x done.namer;
          useful = λ asked spares. useful f r x asked (done.useful asked (first_of r f.shape) (subst (SparesIndex asked) is.index spares));
          change = (done.change.0, done.change.1, change);
          fewer = fewer change.own (below_weight f) (below_weight (with_entries r f x)) done.change.0 spare change.trades done.change.1;
          long = head.0;
          shape = head.1;
          kind = head.2;
          file = is_file f r x ok done.shaped (hands_at_empty (ticket_at f) (ticket_at (with_entries r f x)) i spare hand f.length ok.within);
        },
      )

-- ---- a ticket or a token goes, or a ticket is swapped

module _ {B L : Type 0} (f : FileState B L) (ok : IsFile f) (r : Range) (x : Entries (Named r)) (shaped : ShapedIn (shaped_of r (node_entries f.shape)) (width_of r f.shape) x.slots.items) where
  pub cuts : (from : ℕ) (spare : Spare Placed) → (let e = node_entries f.shape in HandsOut (find_of r e (entries_of r f)) (find_of r e x) (past_of r f.shape from) spare)
      → (let e = node_entries f.shape in KeepsNamers (find_of r e x) (namer_of r e (entries_of r f)) (namer_of r e x))
      → (let e = node_entries f.shape in (asked : ℕ → ℕ → Bool) (first : ℕ) → SparesPast asked (first + past_of r f.shape from) → useful_of r e asked first (entries_of r f) → useful_of r e asked first x)
      → (out : Weighing Placed → ℕ) × WeighsAs spare out × ChangesOf r (entries_of r f) x out nothing → Cuts f (with_entries r f x) from spare
  cuts from spare out namer set change =
      let hand = hands f ok r x from spare out in
      let head = head_kept f r x in
      let past = past_all r f.shape from in
      record {
        out = hand;
        namer = keeps f r x namer;
        useful = λ asked spares. useful f r x asked (set asked (first_of r f.shape) (λ first end h. spares first end (omega arith)));
        change = (change.0, change.1, marks f r change.0 nothing x change.2);
        long = head.0;
        shape = head.1;
        kind = head.2;
        file = is_file f r x ok shaped (hands_empty (ticket_at f) (ticket_at (with_entries r f x)) from spare hand f.length ok.within);
      }

  pub swapped : (before after : Placed) → (let e = node_entries f.shape in SwapsOne (find_of r e (entries_of r f)) (find_of r e x) before after)
      → (let e = node_entries f.shape in Same (namer_of r e (entries_of r f)) (namer_of r e x))
      → (let e = node_entries f.shape in (asked : ℕ → ℕ → Bool) (first : ℕ) → useful_of r e asked first (entries_of r f) → useful_of r e asked first x)
      → ChangesOf r (entries_of r f) x (λ w. w.ticket before) (λ w. w.ticket after) → Swaps f (with_entries r f x) before after
  swapped before after swap namer set change =
      let one = swaps f ok r x before after swap in
      let head = head_kept f r x in
      record {
        swaps = one;
        namer = same_namers f r x namer;
        useful = λ asked. useful f r x asked (set asked (first_of r f.shape));
        change = marks f r (λ w. w.ticket before) (λ w. w.ticket after) x change;
        length = head.0;
        shape = head.1;
        kind = head.2;
        file = is_file f r x ok shaped (swaps_empty (ticket_at f) (ticket_at (with_entries r f x)) before after one f.length ok.within);
      }

-- what holds of a file after a swap, and where nothing was changed
pub record Kept {B L : Type 0} (old new : FileState B L) : Type 0 where
  pub namer : Same (namer_at old) (namer_at new)
  pub useful : (asked : ℕ → ℕ → Bool) → IsUseful asked old → IsUseful asked new
  pub length : new.length ≡ old.length
  pub shape : new.shape ≡ old.shape
  pub kind : new.kind ≡ old.kind
  pub file : IsFile new

pub kept : {B L : Type 0} (old new : FileState B L) (t : Placed) → IsFile old → (r : Result Placed Placed)
    → IfOk r (λ before. Swaps old new before t) → OnErr r (new ≡ old) → Kept old new
kept old new t ok (Ok before) done same = record { namer = done.namer; useful = done.useful; length = done.length; shape = done.shape; kind = done.kind; file = done.file }
kept old new t ok (Err back) done same = record {
  namer = λ j. ap (λ f. namer_at f j) same;
  useful = λ asked useful. subst (IsUseful asked) (sym same) useful;
  length = ap (λ f. f.length) same;
  shape = ap (λ f. f.shape) same;
  kind = ap (λ f. f.kind) same;
  file = subst IsFile (sym same) ok;
}

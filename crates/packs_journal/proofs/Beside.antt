-- Heads, footers and copies of pages lie apart: so a write of the other slot's head, or over a copy that does not count, torn
-- or not, leaves the slot's pack and both footers as they were.
use Rattle.std.proofs.Common.{◌≡◌, refl, sym, ◌∙◌, ap, subst, ◌⊎◌, inl, inr, ⊎_elim, ℕ, zero, suc, ◌+◌, ◌-◌, ◌<◌, ◌≤◌, Bool, true, false, List, [], ◌++◌, take, arith}
use Rattle.std.specs.Prelude.{if◌then◌else◌}
use Rattle.std.proofs.lemmas.Bool.{cases_lt, cases_eq}
use Rattle.byteorder.specs.Endian.{little_number}
use Rattle.device.specs.Disk.{part, Torn, Follows, Elapses, IsQuiet, LeavesOnly, Leaves}
use Rattle.device.proofs.Ranges.{torn_before, torn_after, torn_front}
use Rattle.device.proofs.Moments.{started, joined, weaker, quiet_moments, torn_moments}
use Rattle.image.specs.Reading.{number_at}
use Rattle.packs_journal.specs.Places.{head_at, footer_at, page_count, page_at, page_size, head_bytes}
use Rattle.packs_journal.specs.Journal.{map_of, changes_of, copy_in, patched, is_head}
use Rattle.packs_journal.specs.Reading.{head_in, gathered, rest_by, assembled}
use Rattle.packs_journal.specs.Staging.{IsMapOf, IsBeside, IsBesideOne}
use Rattle.packs_journal.proofs.Gathering.{copy_small, gathered_same}

-- a range stays where a write lies before or behind it
pub apart_same : (at n p k : ℕ) (c d : List ℕ) → (p + k ≤ at) ⊎ (at + n ≤ p) → Torn at n c d → part p k d ≡ part p k c
apart_same at n p k c d apart torn = ⊎_elim (λ before. torn_before at n p k c d before torn) (λ after. torn_after at n p k c d after torn) apart

-- a body by its head and its pages
rest_same : (len : ℕ) (head c d : List ℕ) → (is_head len head ≡ true → gathered len (map_of head) (page_count len) d ≡ gathered len (map_of head) (page_count len) c)
    → rest_by len head d ≡ rest_by len head c
rest_same len head c d same = go (is_head len head) refl
  where
    to : Bool → List ℕ → List ℕ
    to b area = if b then patched (changes_of head) (number_at head 56) (gathered len (map_of head) (page_count len) area) else []

    go : (b : Bool) → is_head len head ≡ b → rest_by len head d ≡ rest_by len head c
    go true is = ap (λ b. to b d) is ∙ ap (patched (changes_of head) (number_at head 56)) (same is) ∙ sym (ap (λ b. to b c) is)
    go false is = ap (λ b. to b d) is ∙ sym (ap (λ b. to b c) is)

pub assembled_same : (len slot : ℕ) (c d : List ℕ) → head_in slot d ≡ head_in slot c
    → (is_head len (head_in slot c) ≡ true → gathered len (map_of (head_in slot c)) (page_count len) d ≡ gathered len (map_of (head_in slot c)) (page_count len) c)
    → assembled len slot d ≡ assembled len slot c
unfolding assembled
assembled_same len slot c d head same =
    ap (λ h. take 56 h ++ rest_by len h d) head ∙ ap (λ l. take 56 (head_in slot c) ++ l) (rest_same len (head_in slot c) c d same)

pub beside_same : (len slot : ℕ) (c : List ℕ) → IsBeside len slot c c
beside_same len slot c = record { long = refl; front = refl; head = refl; body = refl; footers = λ s below. refl }

pub beside_joined : (len slot : ℕ) (b c d : List ℕ) → IsBeside len slot b c → IsBeside len slot c d → IsBeside len slot b d
beside_joined len slot b c d first second = record {
  long = second.long ∙ first.long;
  front = second.front ∙ first.front;
  head = second.head ∙ first.head;
  body = second.body ∙ first.body;
  footers = λ s below. second.footers s below ∙ first.footers s below;
}

-- the map is the same in an area beside
pub map_beside : (len slot : ℕ) (map c d : List ℕ) → IsMapOf len slot map c → IsBeside len slot c d → IsMapOf len slot map d
map_beside len slot map c d is beside has = ap map_of beside.head ∙ is (ap (is_head len) (sym beside.head) ∙ has)

-- a write that reaches none of these
pub beside_by : (len slot at n : ℕ) (c d : List ℕ) → 4096 ≤ at → (head_at slot + head_bytes ≤ at) ⊎ (at + n ≤ head_at slot) → ((s : ℕ) → s < 2 → (footer_at s + 4 ≤ at) ⊎ (at + n ≤ footer_at s))
    → (is_head len (head_in slot c) ≡ true → (k : ℕ) → k < page_count len
    → (page_at k (copy_in (map_of (head_in slot c)) k) + page_size len k ≤ at) ⊎ (at + n ≤ page_at k (copy_in (map_of (head_in slot c)) k)))
    → Torn at n c d → IsBeside len slot c d
beside_by len slot at n c d behind head footers pages torn =
    let same = apart_same at n (head_at slot) head_bytes c d head torn in
    record {
      long = torn.long;
      front = torn_front at n 4096 c d behind torn;
      head = same;
      body = assembled_same len slot c d same (λ is. gathered_same len (map_of (head_in slot c)) (page_count len) c d
          (λ k below. apart_same at n (page_at k (copy_in (map_of (head_in slot c)) k)) (page_size len k) c d (pages is k below) torn));
      footers = λ s below. ap (little_number 4) (apart_same at n (footer_at s) 4 c d (footers s below) torn);
    }

-- two copies of pages
pub copies_apart : (j k a b m n : ℕ) → a ≤ 1 → b ≤ 1 → m ≤ 4096 → n ≤ 4096 → (j ≡ k → a ≡ b → ⊥) → (page_at j a + m ≤ page_at k b) ⊎ (page_at k b + n ≤ page_at j a)
copies_apart j k a b m n le le' few few' apart = ⊎_elim
    (λ less. inl (omega (arith, le, le', few, less)))
    (λ more. ⊎_elim
    (λ same. ⊎_elim
    (λ (below : a < b). inl (omega (arith, le, le', few, below, same)))
    (λ (above : b ≤ a). inr (omega (arith, le, le', few', same, differ a b above (apart same))))
    (cases_lt a b))
    (λ other. inr (omega (arith, le, le', few', more, other)))
    (cases_eq j k))
    (cases_lt j k)
  where
    differ : (a b : ℕ) → b ≤ a → (a ≡ b → ⊥) → b < a
    differ a b le apart = omega (arith, le, apart)

pub page_few : (len k : ℕ) → page_size len k ≤ 4096
page_few len k = omega arith

-- a write over the copy of a page that does not count
pub page_beside : (len slot k copy n : ℕ) (map c d : List ℕ) → slot ≤ 1 → copy ≤ 1 → n ≤ 4096 → (copy_in map k ≡ copy → ⊥) → IsMapOf len slot map c
    → Torn (page_at k copy) n c d → IsBeside len slot c d
page_beside len slot k copy n map c d le one few other is torn =
    beside_by len slot (page_at k copy) n c d (omega arith) (inl (omega (arith, le))) (λ s below. inl (omega (arith, below)))
    (λ has j below. copies_apart j k (copy_in (map_of (head_in slot c)) j) copy (page_size len j) n (copy_small (map_of (head_in slot c)) j) one (page_few len j) few
    (λ same at. other (ap (λ (m : List ℕ). copy_in m k) (sym (is has)) ∙ ap (copy_in (map_of (head_in slot c))) (sym same) ∙ at)))
    torn

-- a write of the other slot's head
pub head_beside : (len slot n : ℕ) (c d : List ℕ) → slot ≤ 1 → n ≤ head_bytes → Torn (head_at (1 - slot)) n c d → IsBeside len slot c d
head_beside len slot n c d le few torn =
    beside_by len slot (head_at (1 - slot)) n c d (omega arith) (heads slot n le few) (λ s below. footers s slot n below le few)
    (λ has k below. inr (pages slot n k (copy_in (map_of (head_in slot c)) k) le few)) torn
  where
    heads : (slot n : ℕ) → slot ≤ 1 → n ≤ head_bytes → (head_at slot + head_bytes ≤ head_at (1 - slot)) ⊎ (head_at (1 - slot) + n ≤ head_at slot)
    heads zero n le few = inl (omega arith)
    heads (suc zero) n le few = inr (omega (arith, few))
    heads (suc (suc slot)) n le few = absurd (omega (arith, le))

    footers : (s slot n : ℕ) → s < 2 → slot ≤ 1 → n ≤ head_bytes → (footer_at s + 4 ≤ head_at (1 - slot)) ⊎ (head_at (1 - slot) + n ≤ footer_at s)
    footers zero zero n below le few = inl (omega arith)
    footers zero (suc zero) n below le few = inr (omega (arith, few))
    footers (suc zero) zero n below le few = inr (omega (arith, few))
    footers (suc zero) (suc zero) n below le few = inr (omega (arith, few))
    footers (suc (suc s)) slot n below le few = absurd (omega (arith, below))
    footers zero (suc (suc slot)) n below le few = absurd (omega (arith, le))
    footers (suc zero) (suc (suc slot)) n below le few = absurd (omega (arith, le))

    pages : (slot n k a : ℕ) → slot ≤ 1 → n ≤ head_bytes → head_at (1 - slot) + n ≤ page_at k a
    pages slot n k a le few = omega (arith, le, few)

-- a call that changes no byte, and a write that leaves each outcome beside
module _ {D : Type 0} (seen : D → List ℕ) (may_leave : D → List ℕ → Type 0) (moment : D → ℕ) (left_since : D → ℕ → List ℕ → Type 0)
    (only_now : (d : D) (c : List ℕ) → left_since d (moment d) c → may_leave d c) where
  pub looked_beside : (len slot : ℕ) (old mid : D) → IsQuiet seen may_leave moment left_since old mid → LeavesOnly moment left_since old mid (IsBesideOne may_leave len slot old)
  looked_beside len slot old mid quiet =
      let Q = IsBesideOne may_leave len slot old in
      quiet_moments moment left_since seen may_leave old old mid Q (started moment left_since old Q (λ c left. (c, only_now old c left, beside_same len slot c))) (λ c left. (c, left, beside_same len slot c)) quiet

  pub written_beside : (len slot at n : ℕ) (Has : List ℕ → Type 0) (old new : D) → Leaves may_leave old Has
      → Follows (Torn at n) (may_leave old) (may_leave new) → Elapses (moment old) (moment new) (left_since old) (left_since new) (may_leave new)
      → ((c d : List ℕ) → Has c → Torn at n c d → IsBeside len slot c d) → LeavesOnly moment left_since old new (IsBesideOne may_leave len slot old)
  written_beside len slot at n Has old new had follows time step =
      let Q = IsBesideOne may_leave len slot old in
      let P : List ℕ → Type 0 = λ c. may_leave old c × Has c in
      torn_moments moment left_since may_leave only_now old new at n P Q (λ c left. (left, had c left)) follows time
      (λ c p. (c, p.0, beside_same len slot c)) (λ c d p torn. (c, p.0, step c d p.1 torn))

-- a call that changes no byte, and one that leaves each outcome beside
module _ {D : Type 0} (seen : D → List ℕ) (may_leave : D → List ℕ → Type 0) (moment : D → ℕ) (left_since : D → ℕ → List ℕ → Type 0)
    (only_now : (d : D) (c : List ℕ) → left_since d (moment d) c → may_leave d c) where
  pub looked_then : (len slot : ℕ) (old mid new : D) → IsQuiet seen may_leave moment left_since old mid
      → LeavesOnly moment left_since mid new (IsBesideOne may_leave len slot mid) → LeavesOnly moment left_since old new (IsBesideOne may_leave len slot old)
  looked_then len slot old mid new quiet run =
      joined moment left_since old mid new (IsBesideOne may_leave len slot old) (looked_beside seen may_leave moment left_since only_now len slot old mid quiet)
      (weaker moment left_since mid new (IsBesideOne may_leave len slot mid) (IsBesideOne may_leave len slot old) (λ c is. (is.0, quiet.fewer is.0 is.1, is.2)) run)

  -- a run of such calls
  pub moments_then : ((d : D) (t : ℕ) (c : List ℕ) → t ≤ moment d → may_leave d c → left_since d t c) → (len slot : ℕ) (old mid new : D) → LeavesOnly moment left_since old mid (IsBesideOne may_leave len slot old)
      → LeavesOnly moment left_since mid new (IsBesideOne may_leave len slot mid) → LeavesOnly moment left_since old new (IsBesideOne may_leave len slot old)
  moments_then counts_now len slot old mid new first second =
      joined moment left_since old mid new (IsBesideOne may_leave len slot old) first
      (weaker moment left_since mid new (IsBesideOne may_leave len slot mid) (IsBesideOne may_leave len slot old)
      (λ d is. let was = first.each is.0 (counts_now mid (moment old) is.0 first.later is.1) in (was.0, was.1, beside_joined len slot was.0 is.0 d was.2 is.2)) second)

  -- and the map stays that of the pack at each of their moments
  pub map_stays : ((d : D) (t : ℕ) (c : List ℕ) → t ≤ moment d → may_leave d c → left_since d t c) → (len slot : ℕ) (map : List ℕ) (old mid : D) → Leaves may_leave old (IsMapOf len slot map)
      → LeavesOnly moment left_since old mid (IsBesideOne may_leave len slot old) → Leaves may_leave mid (IsMapOf len slot map)
  map_stays counts_now len slot map old mid had run d left =
      let was = run.each d (counts_now mid (moment old) d run.later left) in
      map_beside len slot map was.0 d (had was.0 was.1) was.2

  -- one step more of a run: the map that the pack had is known at each moment, so the step keeps the pack as well
  pub step_on : ((d : D) (t : ℕ) (c : List ℕ) → t ≤ moment d → may_leave d c → left_since d t c) → (len slot : ℕ) (map : List ℕ) (old mid new : D) → Leaves may_leave old (IsMapOf len slot map)
      → LeavesOnly moment left_since old mid (IsBesideOne may_leave len slot old)
      → (Leaves may_leave mid (IsMapOf len slot map) → LeavesOnly moment left_since mid new (IsBesideOne may_leave len slot mid))
      → LeavesOnly moment left_since old new (IsBesideOne may_leave len slot old)
  step_on counts_now len slot map old mid new had first second =
      moments_then counts_now len slot old mid new first (second (map_stays counts_now len slot map old mid had first))

-- and so is what reads give
pub beside_on : (len slot : ℕ) (map b c d : List ℕ) → IsMapOf len slot map b → IsBeside len slot b c → (IsMapOf len slot map c → IsBeside len slot c d) → IsBeside len slot b d
beside_on len slot map b c d is first second = beside_joined len slot b c d first (second (map_beside len slot map b c is first))

pub beside_seen : (len slot : ℕ) (b c d : List ℕ) → IsBeside len slot b c → d ≡ c → IsBeside len slot b d
beside_seen len slot b c d beside is = subst (IsBeside len slot b) (sym is) beside

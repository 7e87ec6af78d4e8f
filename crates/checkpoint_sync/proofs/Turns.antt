-- A look at one item puts it back as it was, so the lists stay what they were; and a log's slip and its segment's
-- standing are both told by the one number that the log has open.
use Rattle.std.proofs.Common.{◌≡◌, ℕ, zero, suc, ◌+◌, ◌-◌, ◌<◌, ◌≤◌, List, [], ◌∷◌, ◌++◌, map, set, length, get_or, refl, sym, ap, ◌∙◌, subst, ⊎_elim, arith}
use Rattle.std.specs.Prelude.{Option, Some, None, IfSome, All, AllPairs, slice_get}
use Rattle.std.proofs.lemmas.List.{length-append, get_or-map, get_or_append_left, get_or-append_right}
use Rattle.std.proofs.lemmas.Bool.{cases_lt}
use Rattle.std.proofs.lemmas.Option.{slice_get_read}
use Rattle.atomic_table.specs.Seated.{TableId}
use Rattle.geometry.specs.declared.geometry.Geometry.{Geometry}
use Rattle.words.specs.Tokens.{OpenSegment}
use Rattle.sit.specs.Registered.{Registered, slip_of}
use Rattle.rights_books.proofs.Dealing.{slice_get_push}
use Rattle.sit.specs.Segment.{Segment}
use Rattle.geometry.specs.declared.state.State.TheVariants.{Open}
use Rattle.checkpoint_image.specs.Cells.{IsOpenAt, OpenApart}
use Rattle.checkpoint_image.proofs.Taking.{some_shown}
use Rattle.area.specs.Cells.{LogStands}
use Rattle.checkpoint_sync.specs.LocksHeld.{LogView, IsHeldSegment, AreHeldSegments, AreHeldLogs, open_in, opened_by}

-- one more item at the end
each_more : {A : Type 0} (P : ℕ → A → Type 0) (xs : List A) (x : A) → ((k : ℕ) (v : A) → slice_get xs k ≡ Some v → P k v) → P (length xs) x
    → (k : ℕ) (v : A) → slice_get (xs ++ x ∷ []) k ≡ Some v → P k v
each_more P xs x each here k v got = ⊎_elim (λ t. each k v t) (λ t. subst (P k) t.1 (subst (λ n. P n x) (sym t.0) here)) (slice_get_push xs x k v got)

-- what is put back where it was changes nothing
set_there : {A : Type 0} (xs : List A) (i : ℕ) (x : A) → x ≡ get_or xs i x → set xs i x ≡ xs
set_there [] i x is = refl
set_there (y ∷ xs) zero x is = ap (λ z. z ∷ xs) is
set_there (y ∷ xs) (suc i) x is = ap (λ zs. y ∷ zs) (set_there xs i x is)

pub put_back : {A : Type 0} (xs ys : List A) (i : ℕ) (x y : A) → xs ≡ ys → x ≡ get_or xs i x → y ≡ x → set xs i y ≡ ys
put_back xs ys i x y same is back = ap (set xs i) back ∙ (set_there xs i x is ∙ same)

-- what stands at a place stands there, whatever would stand past the end
there_too : {A : Type 0} (xs : List A) (i : ℕ) (x d : A) → i < length xs → x ≡ get_or xs i x → x ≡ get_or xs i d
there_too [] i x d low is = absurd (omega arith)
there_too (y ∷ xs) zero x d low is = is
there_too (y ∷ xs) (suc i) x d low is = there_too xs i x d (omega arith) is

same_place : {A : Type 0} (xs : List A) (i : ℕ) (x y : A) → i < length xs → x ≡ get_or xs i x → y ≡ get_or xs i y → x ≡ y
same_place xs i x y low here there = there_too xs i x y low here ∙ sym there

-- pairs of one more item at the end
pairs_more : {A : Type 0} (R : A → A → Type 0) (xs : List A) (x : A) → AllPairs R xs → All (λ y. R y x) xs → AllPairs R (xs ++ x ∷ [])
pairs_more R xs x pairs last = λ i j d low within.
    let long = length-append xs (x ∷ []) in
    ⊎_elim
    (λ (here : j < length xs).
    (let first : i < length xs = omega arith in
    subst (λ y. R y (get_or (xs ++ x ∷ []) j d)) (sym (get_or_append_left xs (x ∷ []) d i first))
    (subst (R (get_or xs i d)) (sym (get_or_append_left xs (x ∷ []) d j here)) (pairs i j d low here))))
    (λ (past : length xs ≤ j).
    (let first : i < length xs = omega arith in
    let zero_is : j - length xs ≡ 0 = omega arith in
    let at : get_or (xs ++ x ∷ []) j d ≡ x = get_or-append_right xs (x ∷ []) (length xs) j d refl past ∙ ap (λ (k : ℕ). get_or (x ∷ []) k d) zero_is in
    subst (λ y. R y (get_or (xs ++ x ∷ []) j d)) (sym (get_or_append_left xs (x ∷ []) d i first))
    (subst (R (get_or xs i d)) (sym at) (last i d first))))
    (cases_lt j (length xs))

-- the same of a list that is one item longer
pub push_more : {A : Type 0} (P : ℕ → A → Type 0) (xs zs : List A) (x : A) (n : ℕ) → zs ≡ xs ++ x ∷ [] → length xs ≡ n
    → ((k : ℕ) (v : A) → slice_get xs k ≡ Some v → P k v) → P n x → (k : ℕ) (v : A) → slice_get zs k ≡ Some v → P k v
push_more P xs zs x n more long each here k v got =
    each_more P xs x each (subst (λ m. P m x) (sym long) here) k v (sym (ap (λ l. slice_get l k) more) ∙ got)

-- logs, of which the last one was looked at
map_push : (xs : List LogView) (x : LogView) → map open_in (xs ++ x ∷ []) ≡ map open_in xs ++ open_in x ∷ []
map_push [] x = refl
map_push (y ∷ xs) x = ap (λ (l : List (Option ℕ)). open_in y ∷ l) (map_push xs x)

all_shown : {A B : Type 0} (f : A → B) (P : B → Type 0) (xs : List A) → All (λ x. P (f x)) xs → All P (map f xs)
all_shown f P [] all k d low = absurd (omega arith)
all_shown f P (x ∷ xs) all zero d low = all 0 x (omega arith)
all_shown f P (x ∷ xs) all (suc k) d low = all_shown f P xs (λ j e less. all (suc j) e (omega arith)) k d (omega arith)

pub last_apart : (logs rest rest' : List LogView) (last : LogView) → logs ≡ rest ++ last ∷ [] → rest' ≡ rest
    → All (λ other. OpenApart (open_in other) (open_in last)) rest → AllPairs OpenApart (map open_in rest') → AllPairs OpenApart (map open_in logs)
last_apart logs rest rest' last is same one others =
    subst (λ (l : List LogView). AllPairs OpenApart (map open_in l)) (sym is)
    (subst (λ (l : List (Option ℕ)). AllPairs OpenApart l) (sym (map_push rest last))
    (pairs_more OpenApart (map open_in rest) (open_in last) (subst (λ (l : List LogView). AllPairs OpenApart (map open_in l)) same others)
    (all_shown open_in (λ o. OpenApart o (open_in last)) rest one)))

-- the segment that a log has open, and its slip
held_at : (geometry : Geometry) (book table : TableId) (segments now : List Registered) (n : ℕ) (r : Registered) → AreHeldSegments geometry book table segments
    → now ≡ segments → n < length segments → r ≡ get_or now n r → IsHeldSegment geometry book table n r
held_at geometry book table segments now n r are same low is =
    are n r (slice_get_read segments (length segments) n r refl low (is ∙ ap (λ (l : List Registered). get_or l n r) same))

there_at : (segments now : List Registered) (n : ℕ) (r : Registered) → now ≡ segments → n < length segments → r ≡ get_or now n r → slice_get segments n ≡ Some r
there_at segments now n r same low is = slice_get_read segments (length segments) n r refl low (is ∙ ap (λ (l : List Registered). get_or l n r) same)

slip_there : (table : TableId) (count : ℕ) (log : Option OpenSegment) (n : ℕ) → LogStands table count log → opened_by log ≡ Some n
    → (n < count) × (log ≡ Some (record { table = table; segment = n }))
slip_there table count None n stands e = absurd (cc)
slip_there table count (Some s) n stands e =
    let is = stands s refl in
    let same : s.segment ≡ n = cc in (subst (λ m. m < count) same is.within, (λ i. Some (record { table = is.table_is i; segment = same i })))

log_at : (table : TableId) (count : ℕ) (logs now : List LogView) (k : ℕ) (log : LogView) → AreHeldLogs table count logs
    → now ≡ logs → k < length logs → log ≡ get_or now k log → LogStands table count log.slip
log_at table count logs now k log are same low is =
    (are k log (slice_get_read logs (length logs) k log refl low (is ∙ ap (λ (l : List LogView). get_or l k log) same))).stands

-- so the slip of a log is that of the segment of its number
module _ (geometry : Geometry) (book table : TableId) (segments now : List Registered) (logs current : List LogView)
    (are : AreHeldSegments geometry book table segments) (stand : AreHeldLogs table geometry.segments logs) (every : length segments ≡ geometry.segments) (same : now ≡ segments) (kept : current ≡ logs) where
  pub log_within : (k n : ℕ) (log : LogView) (told : Option ℕ) → k < length logs → log ≡ get_or current k log → told ≡ open_in log → told ≡ Some n
      → (n < length segments) × (log.slip ≡ Some (record { table = table; segment = n }))
  log_within k n log told low is shown some =
      let slip = slip_there table geometry.segments log.slip n (log_at table geometry.segments logs current k log stand kept low is) (sym shown ∙ some) in
      let few = slip.0 in (omega arith, slip.1)

  pub slip_is : (k n : ℕ) (log other : LogView) (r : Registered) (told : Option ℕ) → k < length logs → log ≡ get_or current k log → other ≡ get_or current k other
      → r ≡ get_or now n r → told ≡ open_in log → told ≡ Some n → (table ≡ r.table) × (other.slip ≡ Some (slip_of r))
  slip_is k n log other r told low is too there shown some =
      let slip = log_within k n log told low is shown some in
      let held = held_at geometry book table segments now n r are same slip.0 there in
      let long = ap (λ (l : List LogView). length l) kept in
      let low_now : k < length current = omega arith in (
        sym held.table_is,
        ap (λ (l : LogView). l.slip) (same_place current k other log low_now too is) ∙ slip.1 ∙ (λ i. Some (record { table = sym held.table_is i; segment = sym held.at.number i })),
      )

-- one more log was looked at
pub open_more : (P : Option ℕ → Type 0) (logs : List LogView) (k : ℕ) (log : LogView)
    → ((i : ℕ) (d : Option ℕ) → i < k → P (get_or (map open_in logs) i d)) → k < length logs → log ≡ get_or logs k log → P (open_in log)
    → (i : ℕ) (d : Option ℕ) → i < k + 1 → P (get_or (map open_in logs) i d)
open_more P logs k log before low is here = λ i d less.
    ⊎_elim
    (λ (first : i < k). before i d first)
    (λ (past : k ≤ i).
    (let last : i ≡ k = omega arith in
    subst (λ j. P (get_or (map open_in logs) j d)) (sym last)
    (subst P (sym (get_or-map open_in logs k log d low ∙ ap open_in (sym is))) here)))
    (cases_lt i k)

-- the open segment of a log, which its slip shows to be open
pub is_open : (segments now : List Registered) (n : ℕ) (r : Registered) → now ≡ segments → n < length segments → r ≡ get_or now n r → r.segment.state ≡ Open
    → IsOpenAt (map (λ (x : Registered). x.segment) segments) n
is_open segments now n r same low is state = record { segment = r.segment; there = some_shown (λ (x : Registered). x.segment) segments n r (there_at segments now n r same low is); state = state }

pub some_open : (segments : List Segment) (o : Option ℕ) (n : ℕ) → o ≡ Some n → IsOpenAt segments n → IfSome o (IsOpenAt segments)
some_open segments o n is open_there = subst (λ x. IfSome x (IsOpenAt segments)) (sym is) open_there

pub none_open : (segments : List Segment) (o : Option ℕ) → o ≡ None → IfSome o (IsOpenAt segments)
none_open segments o is = subst (λ x. IfSome x (IsOpenAt segments)) (sym is) tt

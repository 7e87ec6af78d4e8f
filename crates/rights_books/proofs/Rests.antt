-- A segment, a file or a shard has one holder, and a mark or entry belongs to one of them only: so where somebody holds
-- it, all others weigh nothing by it.
use Rattle.std.proofs.Common.{◌≡◌, ℕ, ◌+◌, ◌-◌, ◌/◌, ◌%◌, ◌<◌, ◌==◌, nat_lt, ltb-true, lt-ltb, Bool, true, false, List, [], ◌∷◌, flat_map, if◌then◌else◌, refl, sym, ap, ◌∙◌, subst, arith, eqb-true, eq-eqb, Some, None}
use Rattle.std.proofs.lemmas.Bool.{and_parts, and_from}
use Rattle.geometry.specs.Weights.{weigh}
use Rattle.geometry.proofs.Weighing.{weigh-append, weigh-same}
use Rattle.geometry.specs.declared.owner.Mark.{Mark}
use Rattle.rights_books.specs.declared.claim.TakenNumber.{TakenNumber}
use Rattle.rights_books.specs.declared.claim.FileContent.{FileContent}
use Rattle.rights_books.specs.declared.claim.Claim.{Claim}
use Rattle.rights_books.specs.declared.claim.Claim.TheVariants.{Segment, Hand, File, Shard, Pass, Census}
use Rattle.rights_books.specs.declared.claim.Copied.{Copied}
use Rattle.rights_books.specs.declared.claim.Copied.TheVariants.{SegmentCopy, FileCopy, ShardCopy}
use Rattle.geometry.specs.Mark.{same_mark}
use Rattle.geometry.proofs.MarkTests.{mark_eq, mark_self}
use Rattle.rights_books.specs.Sameness.{same_entry}
use Rattle.rights_books.specs.Weights.{marks_in, tickets_in, taken_in, tokens_in, shown_in, segment_in, hand_in, file_in, shard_in, stray_in, is_of_segment, stray_mark, stray_entry, copied_in, copies_in, segment_copy, file_copy, shard_copy, marks_copied, tickets_copied, taken_copied, tokens_copied}
use Rattle.rights_books.proofs.Sameness.{entry_eq, entry_self}
use Rattle.rights_books.proofs.Lists.{is, is_other, weigh_none, weigh_none_two, weigh_few, weigh_plus}

-- 1 at s
abbrev pub at : ℕ → ℕ → ℕ
at s j = is (λ a b. b == a) s j

one_not_zero : {A : Type 0} → ◌≡◌ {A = ℕ} 1 0 → A
one_not_zero e = absurd (omega arith)

not_at : (s j : ℕ) → at s j ≡ 0 → (j == s) ≡ true → ⊥
not_at s j z e = one_not_zero (subst (λ (b : Bool). ◌≡◌ {A = ℕ} (if b then 1 else 0) 0) e z)

pub home_of : (t s : ℕ) → ◌≡◌ {A = ℕ} (if t == s then 0 else 1) 0 → t ≡ s
home_of t s z = go (t == s) refl z
  where
    go : (b : Bool) → (t == s) ≡ b → ◌≡◌ {A = ℕ} (if b then 0 else 1) 0 → t ≡ s
    go true e z' = eqb-true t s e
    go false e z' = one_not_zero z'

-- a mark that is where it belongs is not at address 0, and in its segment
pub place_of : (blocks s : ℕ) (m : Mark) → stray_mark blocks s m ≡ 0 → (0 < m.address) × ((m.address - 1) / blocks ≡ s)
place_of blocks s m z = go (is_of_segment blocks s m) refl z
  where
    go : (b : Bool) → is_of_segment blocks s m ≡ b → ◌≡◌ {A = ℕ} (if b then 0 else 1) 0 → (0 < m.address) × ((m.address - 1) / blocks ≡ s)
    go true e z' =
        let t = and_parts (nat_lt 0 m.address) (((m.address - 1) / blocks) == s) e in (
          ltb-true 0 m.address t.0,
          eqb-true ((m.address - 1) / blocks) s t.1,
        )
    go false e z' = one_not_zero z'

pub in_place : (blocks s : ℕ) (m : Mark) → 0 < m.address → (m.address - 1) / blocks ≡ s → stray_mark blocks s m ≡ 0
in_place blocks s m some here =
    let e : is_of_segment blocks s m ≡ true =
    and_from (nat_lt 0 m.address) (((m.address - 1) / blocks) == s) (lt-ltb 0 m.address some) (eq-eqb ((m.address - 1) / blocks) s here) in
    rw e refl

-- no mark is at address 0
pub no_mark_at_none : (blocks : ℕ) (m : Mark) → m.address ≡ 0 → (rest : List Claim) → weigh (stray_in blocks) rest ≡ 0 → weigh (marks_in (is same_mark m)) rest ≡ 0
no_mark_at_none blocks m none = weigh_none (stray_in blocks) (marks_in (is same_mark m)) each
  where
    apart : (j : ℕ) (n : Mark) → stray_mark blocks j n ≡ 0 → is same_mark m n ≡ 0
    apart j n home = is_other same_mark mark_eq mark_self m n
        (λ e.
        let p = (place_of blocks j n home).0 in
        let q : m.address ≡ n.address = ap (λ (k : Mark). k.address) e in omega arith)

    each : (c : Claim) → stray_in blocks c ≡ 0 → marks_in (is same_mark m) c ≡ 0
    each (Segment j ms) home = weigh_none (stray_mark blocks j) (is same_mark m) (apart j) ms home
    each (Hand ts ks) home = refl
    each (File i ts ks f) home = refl
    each (Shard k es) home = refl
    each (Pass i f) home = refl
    each (Census cs) home = refl

-- a mark of one segment is in no other
pub no_mark_elsewhere : (blocks s : ℕ) (m : Mark) → (m.address - 1) / blocks ≡ s → (rest : List Claim) → weigh (segment_in (at s)) rest ≡ 0 → weigh (stray_in blocks) rest ≡ 0 → weigh (marks_in (is same_mark m)) rest ≡ 0
no_mark_elsewhere blocks s m here = weigh_none_two (segment_in (at s)) (stray_in blocks) (marks_in (is same_mark m)) each
  where
    apart : (j : ℕ) → at s j ≡ 0 → (n : Mark) → stray_mark blocks j n ≡ 0 → is same_mark m n ≡ 0
    apart j z n home = is_other same_mark mark_eq mark_self m n
        (λ e.
        let p : (n.address - 1) / blocks ≡ j = (place_of blocks j n home).1 in
        let q : (m.address - 1) / blocks ≡ (n.address - 1) / blocks = ap (λ (k : Mark). (k.address - 1) / blocks) e in
        not_at s j z (eq-eqb j s (sym p ∙ (sym q ∙ here))))

    each : (c : Claim) → segment_in (at s) c ≡ 0 → stray_in blocks c ≡ 0 → marks_in (is same_mark m) c ≡ 0
    each (Segment j ms) z home = weigh_none (stray_mark blocks j) (is same_mark m) (apart j z) ms home
    each (Hand ts ks) z home = refl
    each (File i ts ks f) z home = refl
    each (Shard k es) z home = refl
    each (Pass i f) z home = refl
    each (Census cs) z home = refl

pub no_entry_elsewhere : (blocks k : ℕ) (e : TakenNumber) → e.number % 16 ≡ k → (rest : List Claim) → weigh (shard_in (at k)) rest ≡ 0 → weigh (stray_in blocks) rest ≡ 0 → weigh (taken_in (is same_entry e)) rest ≡ 0
no_entry_elsewhere blocks k e here = weigh_none_two (shard_in (at k)) (stray_in blocks) (taken_in (is same_entry e)) each
  where
    apart : (j : ℕ) → at k j ≡ 0 → (d : TakenNumber) → stray_entry j d ≡ 0 → is same_entry e d ≡ 0
    apart j z d home = is_other same_entry entry_eq entry_self e d
        (λ q.
        let p : d.number % 16 ≡ j = home_of (d.number % 16) j home in
        let r : e.number % 16 ≡ d.number % 16 = ap (λ (x : TakenNumber). x.number % 16) q in
        not_at k j z (eq-eqb j k (sym p ∙ (sym r ∙ here))))

    each : (c : Claim) → shard_in (at k) c ≡ 0 → stray_in blocks c ≡ 0 → taken_in (is same_entry e) c ≡ 0
    each (Segment j ms) z home = refl
    each (Hand ts ks) z home = refl
    each (File i ts ks f) z home = refl
    each (Shard j es) z home = weigh_none (stray_entry j) (is same_entry e) (apart j z) es home
    each (Pass i f) z home = refl
    each (Census cs) z home = refl

-- a weight that only files have
pub no_file_elsewhere : (i : ℕ) (h : ℕ → FileContent → ℕ) → ((j : ℕ) (f : FileContent) → (j ≡ i → ⊥) → h j f ≡ 0) → (rest : List Claim) → weigh (file_in (at i)) rest ≡ 0 → weigh (shown_in h) rest ≡ 0
no_file_elsewhere i h other = weigh_none (file_in (at i)) (shown_in h) each
  where
    each : (c : Claim) → file_in (at i) c ≡ 0 → shown_in h c ≡ 0
    each (Segment j ms) z = refl
    each (Hand ts ks) z = refl
    each (File j ts ks (Some f)) z = other j f (λ e. not_at i j z (eq-eqb j i e))
    each (File j ts ks None) z = refl
    each (Shard j es) z = refl
    each (Pass j f) z = refl
    each (Census cs) z = refl

-- where a hand is out, there is no census
pub no_census : (h : Copied → ℕ) (rest : List Claim) → weigh hand_in rest < 64 → weigh (copies_in h) rest ≡ 0
no_census h = weigh_few hand_in (copies_in h) 64 each
  where
    each : (c : Claim) → hand_in c < 64 → copies_in h c ≡ 0
    each (Segment s ms) few = refl
    each (Hand ts ks) few = refl
    each (File i ts ks f) few = refl
    each (Shard k es) few = refl
    each (Pass i f) few = refl
    each (Census cs) few = absurd (omega arith)

-- what the accounts have, as a list
copied_of : Claim → List Copied
copied_of (Segment s ms) = SegmentCopy s ms ∷ []
copied_of (Hand ts ks) = []
copied_of (File i ts ks f) = FileCopy i ts ks ∷ []
copied_of (Shard k es) = ShardCopy k es ∷ []
copied_of (Pass i f) = []
copied_of (Census cs) = []

pub copied_all : List Claim → List Copied
copied_all cs = flat_map copied_of cs

weigh-copied_of : (h : Copied → ℕ) (c : Claim) → weigh h (copied_of c) ≡ copied_in h c
unfolding copied_of
weigh-copied_of h (Segment s ms) = omega arith
weigh-copied_of h (Hand ts ks) = refl
weigh-copied_of h (File i ts ks f) = omega arith
weigh-copied_of h (Shard k es) = omega arith
weigh-copied_of h (Pass i f) = refl
weigh-copied_of h (Census cs) = refl

pub weigh-copied_all : (h : Copied → ℕ) (cs : List Claim) → weigh h (copied_all cs) ≡ weigh (copied_in h) cs
unfolding copied_all
weigh-copied_all h [] = refl
weigh-copied_all h (c ∷ cs) =
    let here = weigh-copied_of h c in
    let there = weigh-copied_all h cs in
    let both = weigh-append h (copied_of c) (flat_map copied_of cs) in omega arith

-- each account is a segment's, a file's or a shard's
pub accounts_counted : (c : Claim) → copied_in (λ x. 1) c ≡ segment_in (λ s. 1) c + (file_in (λ i. 1) c + shard_in (λ k. 1) c)
accounts_counted (Segment s ms) = refl
accounts_counted (Hand ts ks) = refl
accounts_counted (File i ts ks f) = refl
accounts_counted (Shard k es) = refl
accounts_counted (Pass i f) = refl
accounts_counted (Census cs) = refl

pub copies_counted : (x : Copied) → ◌≡◌ {A = ℕ} 1 (segment_copy (λ s. 1) x + (file_copy (λ i. 1) x + shard_copy (λ k. 1) x))
copies_counted (SegmentCopy s ms) = refl
copies_counted (FileCopy i ts ks) = refl
copies_counted (ShardCopy k es) = refl

-- with no hand out, what is marked, lodged and taken is what the accounts have
pub marks_of_copied : (h : Mark → ℕ) (c : Claim) → marks_in h c ≡ copied_in (marks_copied h) c
marks_of_copied h (Segment s ms) = refl
marks_of_copied h (Hand ts ks) = refl
marks_of_copied h (File i ts ks f) = refl
marks_of_copied h (Shard k es) = refl
marks_of_copied h (Pass i f) = refl
marks_of_copied h (Census cs) = refl

pub taken_of_copied : (h : TakenNumber → ℕ) (c : Claim) → taken_in h c ≡ copied_in (taken_copied h) c
taken_of_copied h (Segment s ms) = refl
taken_of_copied h (Hand ts ks) = refl
taken_of_copied h (File i ts ks f) = refl
taken_of_copied h (Shard k es) = refl
taken_of_copied h (Pass i f) = refl
taken_of_copied h (Census cs) = refl

-- what a hand has, by a weight of its tickets and its tokens
abbrev in_hand : (List Mark → List TakenNumber → ℕ) → Claim → ℕ
in_hand h (Segment s ms) = 0
in_hand h (Hand ts ks) = h ts ks
in_hand h (File i ts ks f) = 0
in_hand h (Shard k es) = 0
in_hand h (Pass i f) = 0
in_hand h (Census cs) = 0

-- with no hand out, a weight that the accounts and the hands have is the accounts' alone
of_copied : (f : Claim → ℕ) (g : Copied → ℕ) (h : List Mark → List TakenNumber → ℕ) → ((c : Claim) → f c ≡ copied_in g c + in_hand h c)
    → (rest : List Claim) → weigh hand_in rest ≡ 0 → weigh f rest ≡ weigh (copied_in g) rest
of_copied f g h each rest none =
    let a = weigh-same f (λ c. copied_in g c + in_hand h c) rest each in
    let b = weigh_plus (copied_in g) (in_hand h) rest in
    let c = weigh_none hand_in (in_hand h) empty rest none in omega arith
  where
    empty : (c : Claim) → hand_in c ≡ 0 → in_hand h c ≡ 0
    empty (Segment s ms) z = refl
    empty (Hand ts ks) z = one_not_zero z
    empty (File i ts ks f) z = refl
    empty (Shard k es) z = refl
    empty (Pass i f) z = refl
    empty (Census cs) z = refl

pub tickets_of_copied : (h : Mark → ℕ) (rest : List Claim) → weigh hand_in rest ≡ 0 → weigh (tickets_in h) rest ≡ weigh (copied_in (tickets_copied h)) rest
tickets_of_copied h = of_copied (tickets_in h) (tickets_copied h) (λ ts ks. weigh h ts) each
  where
    each : (c : Claim) → tickets_in h c ≡ copied_in (tickets_copied h) c + in_hand (λ ts ks. weigh h ts) c
    each (Segment s ms) = refl
    each (Hand ts ks) = omega arith
    each (File i ts ks f) = omega arith
    each (Shard k es) = omega arith
    each (Pass i f) = refl
    each (Census cs) = refl

pub tokens_of_copied : (h : TakenNumber → ℕ) (rest : List Claim) → weigh hand_in rest ≡ 0 → weigh (tokens_in h) rest ≡ weigh (copied_in (tokens_copied h)) rest
tokens_of_copied h = of_copied (tokens_in h) (tokens_copied h) (λ ts ks. weigh h ks) each
  where
    each : (c : Claim) → tokens_in h c ≡ copied_in (tokens_copied h) c + in_hand (λ ts ks. weigh h ks) c
    each (Segment s ms) = refl
    each (Hand ts ks) = omega arith
    each (File i ts ks f) = omega arith
    each (Shard k es) = refl
    each (Pass i f) = refl
    each (Census cs) = refl

-- A block that comes in fills the last place still to come, at home or with its mark: so when all have come, each is at
-- home exactly where nobody names it, and the law holds.
use Rattle.std.proofs.Common.{◌≡◌, ℕ, zero, suc, map, ◌+◌, ◌-◌, ◌*◌, ◌/◌, ◌<◌, List, [], ◌∷◌, Option, Some, None, Bool, true, false, length, get_or, set, replicate, inl, inr, refl, sym, ap, subst, ◌∙◌, arith}
use Rattle.std.proofs.lemmas.Bool.{cases_eq}
use Rattle.std.proofs.lemmas.Nat.{div-mul-add}
use Rattle.std.proofs.lemmas.List.{length-set, length-map, length-replicate, get_or-set_same, get_or-set_other}
use Rattle.geometry.specs.declared.shape.Shape.{Shape}
use Rattle.geometry.specs.declared.owner.Owner.{Owner}
use Rattle.geometry.specs.declared.owner.Mark.{Mark}
use Rattle.geometry.specs.Shape.{segment_blocks}
use Rattle.geometry.specs.Address.{address_of}
use Rattle.rights_books.specs.Accounts.{SegmentView}
use Rattle.geometry.specs.Weights.{weigh}
use Rattle.sit.specs.Home.{Home}
use Rattle.sit.specs.Summaries.{is_clear, is_set, marks_from}
use Rattle.sit.specs.Thread.{Thread, keeping}
use Rattle.geometry.specs.declared.state.State.{State}
use Rattle.words.specs.declared.claim.Life.{Life}
use Rattle.sit.specs.Room.{IsRoom}
use Rattle.sit.specs.Registered.{IsRegistered}
use Rattle.sit.specs.Segment.{Segment, SegmentLaw, IsFitting, marks_of}
use Rattle.sit.specs.Loading.{Loaded, IsLoading, IsAccountOf, loaded_segment}
use Rattle.sit.proofs.Marks.{marks_set, none_from}

-- a block of a segment has that segment's number
pub of_segment : (n number offset : ℕ) → offset < n → (1 + number * n + offset - 1) / n ≡ number
of_segment n number offset within =
    let less : 1 + number * n + offset - 1 ≡ number * n + offset = omega arith in
    ap (λ a. a / n) less ∙ div-mul-add number n offset within

module _ (shape : Shape) (number left next : ℕ) (home : Home) (summaries : List (Option Owner)) (thread : Thread) (account : SegmentView)
    (law : IsLoading shape number left home summaries thread account) (before : left ≡ suc next) where
  -- a block that nobody names comes home
  pub comes_home : (contents : List (List ℕ)) (failed : ℕ) (new : Home) → new ≡ record home { present = set home.present next true; contents = contents; failed = failed } → IsLoading shape number next new summaries thread account
  comes_home contents failed new is = subst (λ h. IsLoading shape number next h summaries thread account) (sym is) (record {
    few = omega (arith, law.few);
    sized = law.sized;
    as_many = length-set home.present next true ∙ law.as_many;
    first = law.first;
    bytes = law.bytes;
    come = λ k from within. elim (cases_eq k next) [
      | inl e ↦
          let here : get_or (set home.present next true) k false ≡ true = ap (λ j. get_or (set home.present next true) j false) e ∙ get_or-set_same home.present next true false (omega (arith, law.as_many, law.few)) in
          let none : get_or summaries k None ≡ None = law.unnamed k (omega arith) in
          here ∙ sym (ap is_clear none)
      | inr apart ↦ get_or-set_other home.present next k true false apart ∙ law.come k (omega arith) within
    ];
    missing = λ k low. get_or-set_other home.present next k true false (λ e. absurd (omega arith)) ∙ law.missing k (omega arith);
    unnamed = λ k low. law.unnamed k (omega arith);
    thread_is = law.thread_is;
    account_number = law.account_number;
    marks = law.marks;
  })

  -- a block that somebody names is marked
  pub is_marked : (m : Mark) (after : List (Option Owner)) (new : SegmentView) → after ≡ set summaries next (Some m.owner) → m.address ≡ address_of shape number 0 + next
      → new ≡ record account { marks = m ∷ account.marks } → IsLoading shape number next home after thread new
  is_marked m after new is at with_mark = subst (λ a. IsLoading shape number next home after thread a) (sym with_mark) (subst (λ ss. IsLoading shape number next home ss thread (record account { marks = m ∷ account.marks })) (sym is) (record {
    few = omega (arith, law.few);
    sized = length-set summaries next (Some m.owner) ∙ law.sized;
    as_many = law.as_many;
    first = law.first;
    bytes = law.bytes;
    come = λ k from within. elim (cases_eq k next) [
      | inl e ↦
          let here : get_or (set summaries next (Some m.owner)) k None ≡ Some m.owner = ap (λ j. get_or (set summaries next (Some m.owner)) j None) e ∙ get_or-set_same summaries next (Some m.owner) None (omega (arith, law.sized, law.few)) in
          law.missing k (omega arith) ∙ sym (ap is_clear here)
      | inr apart ↦ law.come k (omega arith) within ∙ sym (ap is_clear (get_or-set_other summaries next k (Some m.owner) None apart))
    ];
    missing = λ k low. law.missing k (omega arith);
    unnamed = λ k low. get_or-set_other summaries next k (Some m.owner) None (λ e. absurd (omega arith)) ∙ law.unnamed k (omega arith);
    thread_is = law.thread_is;
    account_number = law.account_number;
    marks = λ weight.
        (let old = law.marks weight in
        let more = marks_set (address_of shape number 0) next summaries (set summaries next (Some m.owner)) m (omega (arith, law.sized, law.few)) (law.unnamed next (omega arith)) refl at weight in
        omega arith);
  }))

pub set_none : {A : Type 0} (xs : List (Option A)) (i : ℕ) → get_or xs i None ≡ None → set xs i None ≡ xs
set_none [] i e = refl
set_none (x ∷ xs) zero e = λ k. sym e k ∷ xs
set_none (x ∷ xs) (suc i) e = ap (λ ys. x ∷ ys) (set_none xs i e)

-- the blocks at home are those that nobody names
pub home_is_clear : (ps : List Bool) (ss : List (Option Owner)) → length ps ≡ length ss → ((k : ℕ) → k < length ss → get_or ps k false ≡ is_clear (get_or ss k None)) → ps ≡ map is_clear ss
home_is_clear [] [] e each = refl
home_is_clear [] (s ∷ ss) e each = absurd (omega arith)
home_is_clear (p ∷ ps) [] e each = absurd (omega arith)
home_is_clear (p ∷ ps) (s ∷ ss) e each =
    let rest = home_is_clear ps ss (omega arith) (λ k within. each (suc k) (omega arith)) in
    λ k. each 0 (omega arith) k ∷ rest k

all_same : {A : Type 0} (n k : ℕ) (x : A) → get_or (replicate n x) k x ≡ x
all_same zero k x = refl
all_same (suc n) zero x = refl
all_same (suc n) (suc k) x = all_same n k x

pub loaded_law : (shape : Shape) (number mtime next : ℕ) (state : State) (home : Home) (summaries : List (Option Owner)) (thread kept : Thread) (account : SegmentView)
    → IsLoading shape number 0 home summaries thread account → IsFitting state next summaries → kept ≡ keeping summaries thread
    → SegmentLaw (record { shape = shape; number = number; state = state; summaries = summaries; mtime = mtime; next = next; contents = home.contents; failed = home.failed; thread = kept }) home
loaded_law shape number mtime next state home summaries thread kept account law fitting is =
    let present = home_is_clear home.present summaries (law.as_many ∙ sym law.sized) (λ k within. law.come k (omega arith) (omega (arith, law.sized))) in
    record {
      sized = law.sized;
      home_is = λ k. record { first = law.first k; block_bytes = law.bytes k; present = present k; contents = home.contents; failed = home.failed };
      fitting = fitting;
      kept_sized = ap (λ t. length t.kept) is ∙ (length-map summaries is_set ∙ law.sized);
      holes_sized = ap (λ t. length t.holes) is ∙ (ap (λ t. length t.holes) law.thread_is ∙ length-replicate {A = Bool} (segment_blocks shape) false);
      holes_are = λ o hole. absurd (let no = sym (all_same (segment_blocks shape) o false) ∙ (sym (ap (λ t. get_or t.holes o false) is ∙ ap (λ t. get_or t.holes o false) law.thread_is) ∙ hole) in cc);
    }

-- before the first block comes in
pub begins : (shape : Shape) (number : ℕ) (home : Home) (summaries : List (Option Owner)) (thread : Thread) (account : SegmentView)
    → IsRoom (record { shape = shape; number = number }) home summaries thread → account.segment ≡ number → account.marks ≡ []
    → IsLoading shape number (segment_blocks shape) home summaries thread account
begins shape number home summaries thread account room segment none =
    let n = segment_blocks shape in
    record {
      few = omega arith;
      sized = ap length room.unmarked ∙ length-replicate n None;
      as_many = ap (λ h. length h.present) room.home_is ∙ length-replicate n false;
      first = ap (λ h. h.first) room.home_is;
      bytes = ap (λ h. h.block_bytes) room.home_is;
      come = λ k from within. absurd (omega arith);
      missing = λ k low. ap (λ h. get_or h.present k false) room.home_is ∙ all_same n k false;
      unnamed = λ k low. ap (λ ss. get_or ss k None) room.unmarked ∙ all_same n k None;
      thread_is = room.unthreaded;
      account_number = segment;
      marks = λ weight. ap (weigh weight) none ∙ sym (ap (weigh weight) (ap (marks_from (address_of shape number 0)) room.unmarked ∙ none_from n (address_of shape number 0)));
    }

-- a segment that was loaded is registered in the state that its standing has
pub loaded_registered : (loaded : Loaded) (state : State) (next mtime : ℕ) (segment : Segment) (account : SegmentView) (life : Life)
    → segment ≡ loaded_segment loaded state next mtime → IsAccountOf loaded account → life.segment ≡ loaded.number → life.state ≡ state → IsRegistered segment account life
loaded_registered loaded state next mtime segment account life is of number state_is = record {
  number = ap (λ s. s.number) is ∙ sym number;
  state = ap (λ s. s.state) is ∙ sym state_is;
  account_number = of.number_is ∙ sym number;
  marks = λ weight. of.marks weight ∙ sym (ap (λ s. weigh weight (marks_of s)) is);
}

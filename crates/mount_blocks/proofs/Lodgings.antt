-- One right that is lodged adds to one account, that of its file, and nothing to others: so what is lodged one after
-- another adds up, file by file.
use Rattle.std.proofs.Common.{◌≡◌, ◌≢◌, ℕ, zero, suc, ◌+◌, ◌<◌, ◌≤◌, ◌&&◌, nat_lt, Bool, true, false, List, [], ◌∷◌, length, get_or, set, take, if◌then◌else◌, Option, Some, None, inl, inr, refl, sym, ap, ◌∙◌, eq-eqb, ne_eqb, arith}
use borrow.Author.Tests.{lt-ltb, le-ltb}
use Rattle.std.proofs.lemmas.Bool.{cases_eq, cases_lt}
use Rattle.std.proofs.lemmas.List.{length-set, get_or-set_same, get_or-set_other}
use Rattle.atomic_table.specs.Seated.{TableId}
use Rattle.geometry.specs.Weights.{weigh}
use Rattle.geometry.specs.declared.owner.Mark.{Mark}
use Rattle.rights_books.specs.declared.claim.TakenNumber.{TakenNumber}
use Rattle.rights_books.specs.Accounts.{FileView}
use Rattle.mount_blocks.specs.TreeGoods.{in_place}
use Rattle.mount_blocks.specs.Lodging.{of_file, of_some, AreOfBook, Lodges}

pub file_same : (inode its n : ℕ) → its ≡ inode → of_file inode its n ≡ n
file_same inode its n is = rw (eq-eqb its inode is) refl

pub file_other : (inode its n : ℕ) → its ≢ inode → of_file inode its n ≡ 0
file_other inode its n apart = rw (ne_eqb its inode apart) refl

pub some_in : (files its n : ℕ) → 0 < its → its ≤ files → of_some files its n ≡ n
some_in files its n low high = rw (lt-ltb 0 its low, lt-ltb its (files + 1) (omega arith)) refl

pub some_zero : (files n : ℕ) → of_some files 0 n ≡ 0
some_zero files n = refl

and_false : (b : Bool) → b && false ≡ false
and_false true = refl
and_false false = refl

pub some_past : (files its n : ℕ) → files < its → of_some files its n ≡ 0
some_past files its n past =
    let none = le-ltb its (files + 1) (omega arith) in
    let both : (nat_lt 0 its && nat_lt its (files + 1)) ≡ false = ap (λ b. nat_lt 0 its && b) none ∙ and_false (nat_lt 0 its) in
    ap (λ (b : Bool). if b then n else 0) both

-- no more than it is
pub some_most : (files its n : ℕ) → of_some files its n ≤ n
some_most files its n = go (nat_lt 0 its && nat_lt its (files + 1))
  where
    go : (b : Bool) → (if b then n else 0) ≤ n
    go true = omega arith
    go false = omega arith

module _ (book : TableId) (old new : List FileView) (of : AreOfBook book old) (tickets : ℕ → (Mark → ℕ) → ℕ) (tokens : ℕ → (TakenNumber → ℕ) → ℕ) (lodges : Lodges old new tickets tokens) where
  pub still_of_book : AreOfBook book new
  still_of_book k other low = let count = lodges.count in lodges.book k other (omega arith) ∙ of k other (omega arith)

-- nothing is lodged
pub lodges_nothing : (old new : List FileView) (tickets : ℕ → (Mark → ℕ) → ℕ) (tokens : ℕ → (TakenNumber → ℕ) → ℕ) → new ≡ old
    → ((k : ℕ) (h : Mark → ℕ) → k < length old → tickets k h ≡ 0) → ((k : ℕ) (h : TakenNumber → ℕ) → k < length old → tokens k h ≡ 0) → Lodges old new tickets tokens
lodges_nothing old new tickets tokens is none nothing = record {
  count = ap length is;
  book = λ k other low. ap (λ xs. (get_or xs k other).book) is;
  inode = λ k other low. ap (λ xs. (get_or xs k other).inode) is;
  content = λ k other low. ap (λ xs. (get_or xs k other).content) is;
  tickets_more = λ k other low h. (let same = ap (λ xs. weigh h (get_or xs k other).tickets) is in let more = none k h low in omega arith);
  tokens_more = λ k other low h. (let same = ap (λ xs. weigh h (get_or xs k other).tokens) is in let more = nothing k h low in omega arith);
}

-- one account changes
module _ (old : List FileView) (i : ℕ) (a : FileView) (within : i < length old) where
  abbrev new : List FileView
  new = set old i a

  same_at : (d : FileView) → get_or new i d ≡ a
  same_at d = get_or-set_same old i a d within

  other_at : (k : ℕ) (d : FileView) → k ≢ i → get_or new k d ≡ get_or old k d
  other_at k d apart = get_or-set_other old i k a d apart

  field : {A : Type 0} (f : FileView → A) → ((d : FileView) → f a ≡ f (get_or old i d)) → (k : ℕ) (d : FileView) → f (get_or new k d) ≡ f (get_or old k d)
  field f same k d = elim (cases_eq k i) [
    | inl e ↦ ap (λ j. f (get_or new j d)) e ∙ ap f (same_at d) ∙ same d ∙ ap (λ j. f (get_or old j d)) (sym e)
    | inr apart ↦ ap f (other_at k d apart)
  ]

  pub lodges_ticket : (m : Mark) (inode : ℕ) → inode ≡ i + 1 → ((d : FileView) → a ≡ record (get_or old i d) { tickets = m ∷ (get_or old i d).tickets })
      → Lodges old new (λ k h. of_file (k + 1) inode (h m)) (λ _ _. 0)
  lodges_ticket m inode at is = record {
    count = length-set old i a;
    book = λ k d low. field (λ (v : FileView). v.book) (λ d. ap (λ (v : FileView). v.book) (is d)) k d;
    inode = λ k d low. field (λ (v : FileView). v.inode) (λ d. ap (λ (v : FileView). v.inode) (is d)) k d;
    content = λ k d low. field (λ (v : FileView). v.content) (λ d. ap (λ (v : FileView). v.content) (is d)) k d;
    tickets_more = λ k d low h. elim (cases_eq k i) [
      | inl e ↦
          let here : weigh h (get_or new k d).tickets ≡ h m + weigh h (get_or old k d).tickets = ap (λ j. weigh h (get_or new j d).tickets) e ∙ ap (λ (v : FileView). weigh h v.tickets) (same_at d ∙ is d) ∙ ap (λ j. h m + weigh h (get_or old j d).tickets) (sym e) in
          let one = file_same (k + 1) inode (h m) (omega arith) in
          omega arith
      | inr apart ↦
          let here = ap (λ (v : FileView). weigh h v.tickets) (other_at k d apart) in
          let none = file_other (k + 1) inode (h m) (λ z. apart (omega arith)) in
          omega arith
    ];
    tokens_more = λ k d low h. (let same = field (λ (v : FileView). weigh h v.tokens) (λ d. ap (λ (v : FileView). weigh h v.tokens) (is d)) k d in omega arith);
  }

  pub lodges_token : (m : TakenNumber) (inode : ℕ) → inode ≡ i + 1 → ((d : FileView) → a ≡ record (get_or old i d) { tokens = m ∷ (get_or old i d).tokens })
      → Lodges old new (λ _ _. 0) (λ k h. of_file (k + 1) inode (h m))
  lodges_token m inode at is = record {
    count = length-set old i a;
    book = λ k d low. field (λ (v : FileView). v.book) (λ d. ap (λ (v : FileView). v.book) (is d)) k d;
    inode = λ k d low. field (λ (v : FileView). v.inode) (λ d. ap (λ (v : FileView). v.inode) (is d)) k d;
    content = λ k d low. field (λ (v : FileView). v.content) (λ d. ap (λ (v : FileView). v.content) (is d)) k d;
    tickets_more = λ k d low h. (let same = field (λ (v : FileView). weigh h v.tickets) (λ d. ap (λ (v : FileView). weigh h v.tickets) (is d)) k d in omega arith);
    tokens_more = λ k d low h. elim (cases_eq k i) [
      | inl e ↦
          let here : weigh h (get_or new k d).tokens ≡ h m + weigh h (get_or old k d).tokens = ap (λ j. weigh h (get_or new j d).tokens) e ∙ ap (λ (v : FileView). weigh h v.tokens) (same_at d ∙ is d) ∙ ap (λ j. h m + weigh h (get_or old j d).tokens) (sym e) in
          let one = file_same (k + 1) inode (h m) (omega arith) in
          omega arith
      | inr apart ↦
          let here = ap (λ (v : FileView). weigh h v.tokens) (other_at k d apart) in
          let none = file_other (k + 1) inode (h m) (λ z. apart (omega arith)) in
          omega arith
    ];
  }

-- a right of no file
pub out_of_files : (old : List FileView) (inode n : ℕ) → (0 < inode → inode ≤ length old → ⊥) → (k : ℕ) → k < length old → of_file (k + 1) inode n ≡ 0
out_of_files old inode n out k low = file_other (k + 1) inode n (λ e. out (omega arith) (omega arith))

pub none_of_some : (files inode n : ℕ) → (0 < inode → inode ≤ files → ⊥) → of_some files inode n ≡ 0
none_of_some files zero n out = some_zero files n
none_of_some files (suc i) n out = elim (cases_lt files (suc i)) [
  | inl past ↦ some_past files (suc i) n past
  | inr within ↦ absurd (out (omega arith) within)
]

-- one after another
pub lodges_both : (a b c : List FileView) (t u : ℕ → (Mark → ℕ) → ℕ) (p q : ℕ → (TakenNumber → ℕ) → ℕ) → Lodges a b t p → Lodges b c u q
    → (w : ℕ → (Mark → ℕ) → ℕ) (r : ℕ → (TakenNumber → ℕ) → ℕ) → ((k : ℕ) (h : Mark → ℕ) → w k h ≡ t k h + u k h) → ((k : ℕ) (h : TakenNumber → ℕ) → r k h ≡ p k h + q k h) → Lodges a c w r
lodges_both a b c t u p q one two w r tickets tokens = record {
  count = two.count ∙ one.count;
  book = λ k d low. (let long = one.count in two.book k d (omega arith) ∙ one.book k d low);
  inode = λ k d low. (let long = one.count in two.inode k d (omega arith) ∙ one.inode k d low);
  content = λ k d low. (let long = one.count in two.content k d (omega arith) ∙ one.content k d low);
  tickets_more = λ k d low h. (let long = one.count in let x = one.tickets_more k d low h in let y = two.tickets_more k d (omega arith) h in let z = tickets k h in omega arith);
  tokens_more = λ k d low h. (let long = one.count in let x = one.tokens_more k d low h in let y = two.tokens_more k d (omega arith) h in let z = tokens k h in omega arith);
}

-- what stands before a place weighs no more than all
pub take_most : {A : Type 0} (f : A → ℕ) (xs : List A) (n : ℕ) → weigh f (take n xs) ≤ weigh f xs
take_most f [] zero = omega arith
take_most f [] (suc n) = omega arith
take_most f (x ∷ xs) zero = omega arith
take_most f (x ∷ xs) (suc n) = let rest = take_most f xs n in omega arith

-- weights of what stands, one below the other
pub place_most : {A : Type 0} (f g : A → ℕ) → ((x : A) → f x ≤ g x) → (xs : List (Option A)) → weigh (in_place f) xs ≤ weigh (in_place g) xs
place_most f g most [] = omega arith
place_most f g most (None ∷ xs) = let rest = place_most f g most xs in omega arith
place_most f g most (Some x ∷ xs) = let rest = place_most f g most xs in let here = most x in omega arith

-- what went from its place and came back
pub back_again : {A : Type 0} (xs : List (Option A)) (k : ℕ) (x : A) → get_or xs k None ≡ Some x → set (set xs k None) k (Some x) ≡ xs
back_again [] k x e = cc
back_again (y ∷ xs) zero x e = λ i. sym e i ∷ xs
back_again (y ∷ xs) (suc k) x e = ap (λ ys. y ∷ ys) (back_again xs k x e)

pub left_none : {A : Type 0} (xs : List (Option A)) (k : ℕ) → get_or xs k None ≡ None → set xs k None ≡ xs
left_none [] k e = refl
left_none (y ∷ xs) zero e = λ i. sym e i ∷ xs
left_none (y ∷ xs) (suc k) e = ap (λ ys. y ∷ ys) (left_none xs k e)

pub there_within : {A : Type 0} (xs : List (Option A)) (k : ℕ) (x : A) → get_or xs k None ≡ Some x → k < length xs
there_within [] k x e = cc
there_within (y ∷ xs) zero x e = omega arith
there_within (y ∷ xs) (suc k) x e = let rest = there_within xs k x e in omega arith

-- a place of a list has its item, whatever stands for one past it
pub any_default : {A : Type 0} (xs : List A) (k : ℕ) (d e : A) → k < length xs → get_or xs k d ≡ get_or xs k e
any_default [] k d e low = absurd (omega arith)
any_default (x ∷ xs) zero d e low = refl
any_default (x ∷ xs) (suc k) d e low = any_default xs k d e (omega arith)

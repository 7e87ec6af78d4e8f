-- Blocks come from the last address down, and a ticket where somebody names the block: so places above have their
-- tickets and those below none, and all weigh what the image names.
use Rattle.std.proofs.Common.{◌≡◌, ℕ, zero, suc, ◌+◌, ◌<◌, List, [], ◌∷◌, ◌++◌, length, get_or, set, replicate, Option, Some, None, inl, inr, refl, sym, ap, ◌∙◌, arith}
use Rattle.std.proofs.lemmas.Bool.{cases_eq}
use Rattle.std.proofs.lemmas.List.{length-set, length-replicate, get_or-set_same, get_or-set_other}
use Rattle.geometry.specs.Weights.{weigh}
use Rattle.geometry.proofs.Weighing.{weigh-set, weigh-append}
use Rattle.rights_books.specs.Lists.{sum_below}
use Rattle.rights_books.proofs.Lists.{sum_below_suc}
use Rattle.geometry.specs.declared.geometry.Geometry.{Geometry}
use Rattle.geometry.specs.declared.owner.Owner.{Owner}
use Rattle.geometry.specs.declared.owner.Mark.{Mark}
use Rattle.geometry.specs.Area.{block_count}
use Rattle.image.specs.Image.{Image}
use Rattle.image.specs.Walk.{names}
use Rattle.image.specs.Rules.{IsLawful}
use Rattle.mount_blocks.specs.TreeGoods.{in_place}
use Rattle.tickets.specs.Placed.{Placed}
use Rattle.mount_blocks.specs.Marked.{marked_owner, owned_weight}
use Rattle.mount_blocks.proofs.Marked.{names_are_marks}
use Rattle.mount_blocks.proofs.TreeOwners.{names_are_owned}
use Rattle.mount_blocks.specs.Table.{ticket_of, AreTicketsPast}

pub all_none : {A : Type 0} (n k : ℕ) → ◌≡◌ {A = Option A} (get_or (replicate n None) k None) None
all_none zero k = refl
all_none (suc n) zero = refl
all_none (suc n) (suc k) = all_none n k

pub nothing_weighs : {A : Type 0} (h : A → ℕ) (n : ℕ) → weigh (in_place h) (replicate n None) ≡ 0
nothing_weighs h zero = refl
nothing_weighs h (suc n) = let rest = nothing_weighs h n in omega arith

-- what a list weighs of which an item was taken off the end
pub weigh_last : {A : Type 0} (f : A → ℕ) (xs front : List A) (x : A) → xs ≡ front ++ x ∷ [] → weigh f xs ≡ weigh f front + f x
weigh_last f xs front x is = let all = ap (weigh f) is in let parts = weigh-append f front (x ∷ []) in omega arith

-- what comes to an empty place brings its weight
pub comes : {A : Type 0} (h : A → ℕ) (xs : List (Option A)) (k : ℕ) (x : A) → k < length xs → get_or xs k None ≡ None → weigh (in_place h) (set xs k (Some x)) ≡ weigh (in_place h) xs + h x
comes h xs k x within none =
    let all = weigh-set (in_place h) xs k (Some x) None within in
    let nothing : in_place h (get_or xs k None) ≡ 0 = ap (in_place h) none in
    omega arith

pub sum_same : (n : ℕ) (f g : ℕ → ℕ) → ((k : ℕ) → k < n → f k ≡ g k) → sum_below n f ≡ sum_below n g
sum_same zero f g same = refl
sum_same (suc n) f g same =
    let here = same n (omega arith) in
    let rest = sum_same n f g (λ k low. same k (omega arith)) in
    omega arith

pub by_index : {A : Type 0} (f : A → ℕ) (xs : List A) (d : A) → weigh f xs ≡ sum_below (length xs) (λ k. f (get_or xs k d))
by_index f [] d = refl
by_index f (x ∷ xs) d =
    let rest : weigh f xs ≡ sum_below (length xs) (λ k. f (get_or xs k d)) = by_index f xs d in
    let more : sum_below (length xs) (λ k. f (get_or xs k d)) + f x ≡ sum_below (suc (length xs)) (λ k. f (get_or (x ∷ xs) k d)) = sum_below_suc (length xs) (λ k. f (get_or (x ∷ xs) k d)) in
    omega arith

-- a list whose first item weighs nothing
pub by_next : {A : Type 0} (f : A → ℕ) (xs : List A) (d : A) (n : ℕ) → length xs ≡ n + 1 → f (get_or xs 0 d) ≡ 0 → weigh f xs ≡ sum_below n (λ k. f (get_or xs (suc k) d))
by_next f xs d n long first =
    let all = by_index f xs d in
    let count : length xs ≡ suc n = omega arith in
    let same = ap (λ m. sum_below m (λ k. f (get_or xs k d))) count in
    let more : sum_below n (λ k. f (get_or xs (suc k) d)) + f (get_or xs 0 d) ≡ sum_below (suc n) (λ k. f (get_or xs k d)) = sum_below_suc n (λ k. f (get_or xs k d)) in
    omega arith

ticket_weighs : (h : Mark → ℕ) (o : Option Owner) (a : ℕ) (bytes : List ℕ) → in_place (λ (t : Placed). h t.mark) (ticket_of o a bytes) ≡ owned_weight h a o
ticket_weighs h None a bytes = refl
ticket_weighs h (Some owner) a bytes = refl

module _ (geometry : Geometry) (image : Image) (bytes : ℕ → List ℕ) where
  -- before the first block comes
  pub table_begins : (tickets : List (Option Placed)) → tickets ≡ replicate (block_count geometry + 1) None → AreTicketsPast geometry image bytes (block_count geometry) tickets
  table_begins tickets is = record {
    places = ap length is ∙ length-replicate (block_count geometry + 1) None;
    none = λ a low. ap (λ ts. get_or ts a None) is ∙ all_none (block_count geometry + 1) a;
    there = λ a past within. absurd (omega arith);
  }

  -- a block comes that nobody names
  pub table_unnamed : (n : ℕ) (tickets : List (Option Placed)) → marked_owner geometry image (suc n) ≡ None → AreTicketsPast geometry image bytes (suc n) tickets → AreTicketsPast geometry image bytes n tickets
  table_unnamed n tickets unnamed are = record {
    places = are.places;
    none = λ a low. are.none a (omega arith);
    there = λ a past within. elim (cases_eq a (suc n)) [
      | inl e ↦ are.none a (omega arith) ∙ sym (ap (λ o. ticket_of o a (bytes a)) (ap (marked_owner geometry image) e ∙ unnamed))
      | inr apart ↦ are.there a (omega arith) within
    ];
  }

  -- the ticket of a block comes that somebody names
  pub table_named : (n : ℕ) (tickets : List (Option Placed)) (t : Placed) → n < block_count geometry → marked_owner geometry image (suc n) ≡ Some t.mark.owner → t.mark.address ≡ suc n → t.content ≡ bytes (suc n)
      → AreTicketsPast geometry image bytes (suc n) tickets → AreTicketsPast geometry image bytes n (set tickets (suc n) (Some t))
  table_named n tickets t low owner address content are = record {
    places = length-set tickets (suc n) (Some t) ∙ are.places;
    none = λ a below. get_or-set_other tickets (suc n) a (Some t) None (λ e. absurd (omega arith)) ∙ are.none a (omega arith);
    there = λ a past within. elim (cases_eq a (suc n)) [
      | inl e ↦
          let long = are.places in
          let here : get_or (set tickets (suc n) (Some t)) a None ≡ Some t = ap (λ k. get_or (set tickets (suc n) (Some t)) k None) e ∙ get_or-set_same tickets (suc n) (Some t) None (omega arith) in
          let is : ticket_of (marked_owner geometry image (suc n)) (suc n) (bytes (suc n)) ≡ Some t = ap (λ o. ticket_of o (suc n) (bytes (suc n))) owner ∙ (λ k. Some (record { mark = record { address = sym address k; owner = t.mark.owner }; content = sym content k })) in
          here ∙ (sym is ∙ ap (λ k. ticket_of (marked_owner geometry image k) k (bytes k)) (sym e))
      | inr apart ↦ get_or-set_other tickets (suc n) a (Some t) None apart ∙ are.there a (omega arith) within
    ];
  }

  -- all tickets weigh what the image's files name
  pub table_weighs : (tickets : List (Option Placed)) (h : Mark → ℕ) → IsLawful geometry image → AreTicketsPast geometry image bytes 0 tickets → weigh (in_place (λ (t : Placed). h t.mark)) tickets ≡ weigh h (names geometry image)
  table_weighs tickets h lawful are =
      let f : Option Placed → ℕ = in_place (λ (t : Placed). h t.mark) in
      let n : ℕ = block_count geometry in
      by_next f tickets None n are.places (ap f (are.none 0 (omega arith)))
      ∙ sum_same n (λ k. f (get_or tickets (suc k) None)) (λ k. owned_weight h (k + 1) (marked_owner geometry image (k + 1)))
      (λ k low. (let next : suc k ≡ k + 1 = omega arith in
      ap f (are.there (suc k) (omega arith) (omega arith)) ∙ (ticket_weighs h (marked_owner geometry image (suc k)) (suc k) (bytes (suc k)) ∙ ap (λ a. owned_weight h a (marked_owner geometry image a)) next)))
      ∙ sym (names_are_marks geometry image lawful (names_are_owned geometry image lawful) h)

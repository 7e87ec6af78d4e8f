-- Blocks are lent in the order of their indexes, and between one and the next is none: so below the place reached
-- exactly the file's blocks are lent, and at the end all of them.
use Rattle.std.proofs.Common.{◌≡◌, ℕ, ◌+◌, ◌<◌, ◌++◌, [], ◌∷◌, List, length, get_or, Option, Some, None, IsSome, is_some, inl, inr, refl, sym, ap, ◌∙◌, arith}
use Rattle.std.specs.Prelude.{MatchOption}
use Rattle.std.proofs.lemmas.Bool.{cases_eq, cases_lt}
use Rattle.std.proofs.lemmas.List.{get_or_append_left, get_or_push, length-append}
use Rattle.tickets.specs.Placed.{Placed}
use Rattle.nodes.specs.Tree.{EmptyFrom}
use Rattle.nodes.specs.declared.file.FileState.{FileState}
use Rattle.nodes.specs.File.{IsFile, address_of, ticket_at, content_of}
use Rattle.nodes_walks.specs.Data.{IsNextData}
use Rattle.nodes_walks.specs.Lent.{IsLent}
use Rattle.nodes_walks.specs.declared.data_walk.LentBlock.{LentBlock}
use Rattle.file_cells.specs.Law.{AreLent, AreOfFile, AreRising, IsAmong}

none_some : {A X : Type 0} (o : Option X) → o ≡ None → IsSome o → A
none_some o none some = absurd (let no = sym some ∙ ap is_some none in cc)

-- a ticket that is there
pub some_there : {X : Type 0} (o : Option X) → IsSome o → (x : X) × (o ≡ Some x)
some_there {X} None some = absurd (let no = some in cc)
some_there (Some x) some = (x, refl)

-- what a block that was lent says of the place where it stands
module _ {Lease : Type 0} (items : Lease → List ℕ) (lent : LentBlock Lease) where
  abbrev pub IsLentAt : Option Placed → Type 0
  IsLentAt o = IsLent (λ (t : Placed). t.mark.address) (λ (t : Placed). t.content) items lent o

  pub lent_address : (o : Option Placed) → IsLentAt o → lent.address ≡ address_of o
  lent_address None so = absurd so
  lent_address (Some t) so = sym so.0

  pub lent_bytes : (o : Option Placed) → IsLentAt o → MatchOption o ⊥ (λ t. items lent.lease ≡ t.content)
  lent_bytes None so = absurd so
  lent_bytes (Some t) so = so.1

-- the next block stands below the file's length
pub below_length : {B L : Type 0} (f : FileState B L) → IsFile f → (from i : ℕ) → IsNextData (ticket_at f) from (Some i) → i < f.length
below_length f is from i next = elim (cases_lt i f.length) [
  | inl lt ↦ lt
  | inr ge ↦ none_some (ticket_at f i) (is.within i ge) next.1
]

module _ {B L Lease : Type 0} (items : Lease → List ℕ) (f : FileState B L) where
  -- the blocks below an index are lent, and no other
  pub record AreLentBelow (from : ℕ) (indexes : List ℕ) (leases : List Lease) : Type 0 where
    pub as_many : length leases ≡ length indexes
    pub rising : AreRising indexes
    pub of_file : AreOfFile items indexes leases f
    pub below : (k : ℕ) → k < length indexes → get_or indexes k 0 < from
    pub all : (i : ℕ) → i < from → IsSome (ticket_at f i) → IsAmong indexes i

  pub lent_none : AreLentBelow 0 [] []
  lent_none = record {
    as_many = refl;
    rising = λ j k lt within. absurd (omega arith);
    of_file = λ k d within. absurd (omega arith);
    below = λ k within. absurd (omega arith);
    all = λ i lt some. absurd (omega arith);
  }

  module _ (from index : ℕ) (indexes : List ℕ) (leases : List Lease) (lease : Lease) (so : AreLentBelow from indexes leases)
      (next : IsNextData (ticket_at f) from (Some index)) (bytes : MatchOption (ticket_at f index) ⊥ (λ t. items lease ≡ t.content)) where
    abbrev more : List ℕ
    more = indexes ++ index ∷ []

    longer : length more ≡ length indexes + 1
    longer = length-append indexes (index ∷ [])

    before : (k : ℕ) → k < length indexes → get_or more k 0 ≡ get_or indexes k 0
    before k lt = get_or_append_left indexes (index ∷ []) 0 k lt

    last : (k : ℕ) → length indexes ≡ k → get_or more k 0 ≡ index
    last k e = get_or_push indexes index 0 k e

    here : (o : Option Placed) → MatchOption o ⊥ (λ t. items lease ≡ t.content) → content_of o ≡ Some (items lease)
    here None wrong = absurd wrong
    here (Some t) is = ap (λ b. Some b) (sym is)

    rising_more : AreRising more
    rising_more j k lt within = elim (cases_lt k (length indexes)) [
      | inl low ↦ let a = before j (omega arith) in let b = before k low in let c = so.rising j k lt low in omega arith
      | inr high ↦
          let e = longer in
          let a = before j (omega arith) in
          let b = last k (omega arith) in
          let c = so.below j (omega arith) in
          let n = next.0 in omega arith
    ]

    of_file_more : AreOfFile items more (leases ++ lease ∷ []) f
    of_file_more k d within =
        let many = so.as_many in
        let e = longer in
        elim (cases_lt k (length indexes)) [
          | inl low ↦ ap (λ i. content_of (ticket_at f i)) (before k low)
              ∙ (so.of_file k d low ∙ ap (λ l. Some (items l)) (sym (get_or_append_left leases (lease ∷ []) d k (omega arith))))
          | inr high ↦ ap (λ i. content_of (ticket_at f i)) (last k (omega arith))
              ∙ (here (ticket_at f index) bytes ∙ ap (λ l. Some (items l)) (sym (get_or_push leases lease d k (omega arith))))
        ]

    below_more : (k : ℕ) → k < length more → get_or more k 0 < index + 1
    below_more k within = elim (cases_lt k (length indexes)) [
      | inl low ↦ let a = before k low in let c = so.below k low in let n = next.0 in omega arith
      | inr high ↦ let e = longer in let b = last k (omega arith) in omega arith
    ]

    among_more : (i : ℕ) → i < index + 1 → IsSome (ticket_at f i) → IsAmong more i
    among_more i lt some =
        let e = longer in
        elim (cases_eq i index) [
          | inl same ↦ (length indexes, omega arith, last (length indexes) refl ∙ sym same)
          | inr ne ↦ elim (cases_lt i from) [
            | inl low ↦ let old = so.all i low some in (old.0, (let w = old.1 in omega arith), before old.0 old.1 ∙ old.2)
            | inr high ↦ none_some (ticket_at f i) (next.2 i high (omega arith)) some
          ]
        ]

    pub lent_more : AreLentBelow (index + 1) (indexes ++ index ∷ []) (leases ++ lease ∷ [])
    lent_more = record {
      as_many = let a = length-append leases (lease ∷ []) in let e = longer in let m = so.as_many in omega arith;
      rising = rising_more;
      of_file = of_file_more;
      below = below_more;
      all = among_more;
    }

  pub lent_all : (from : ℕ) (indexes : List ℕ) (leases : List Lease) → AreLentBelow from indexes leases → EmptyFrom (ticket_at f) from → AreLent items indexes leases f
  lent_all from indexes leases so empty = record {
    as_many = so.as_many;
    rising = so.rising;
    of_file = so.of_file;
    all = λ i some. elim (cases_lt i from) [
      | inl low ↦ so.all i low some
      | inr high ↦ none_some (ticket_at f i) (empty i high) some
    ];
  }

-- Numbers are taken in rising order, and each taken number's block is its own: so the ticket that goes and the token
-- that comes are the next number's, and no other place changes.
use Rattle.std.proofs.Common.{◌≡◌, ◌≢◌, ℕ, zero, suc, ◌+◌, ◌-◌, ◌<◌, ◌≤◌, ◌==◌, nat_lt, Bool, true, false, not, List, length, get_or, set, replicate, if◌then◌else◌, Option, Some, None, inl, inr, refl, sym, ap, subst, ◌∙◌, eq-eqb, ne_eqb, arith}
use borrow.Author.Tests.{lt-ltb, le-ltb}
use Rattle.std.proofs.lemmas.Bool.{cases_eq, cases_lt}
use Rattle.std.proofs.lemmas.List.{length-set, length-replicate, get_or_past, get_or-set_same, get_or-set_other}
use Rattle.geometry.specs.declared.geometry.Geometry.{Geometry}
use Rattle.geometry.specs.declared.owner.Owner.{Owner}
use Rattle.geometry.specs.declared.owner.Owner.TheVariants.{Node, Data}
use Rattle.geometry.specs.Area.{block_count}
use Rattle.rights_books.specs.declared.claim.TakenNumber.{TakenNumber}
use Rattle.image.specs.declared.image.NodeEntry.{NodeEntry}
use Rattle.image.specs.Image.{Image, no_entry, entry_of}
use Rattle.image.specs.Walk.{is_taken}
use Rattle.image.specs.Rules.{IsLawful}
use Rattle.mount_blocks.specs.TreeGoods.{ArePlaced, IsData}
use Rattle.tickets.specs.Placed.{Placed}
use Rattle.mount_blocks.specs.Marked.{marked_owner}
use Rattle.mount_blocks.specs.Table.{ticket_of, AreTicketsPast}
use Rattle.mount_blocks.proofs.States.{below_next, same_some}
use Rattle.mount_blocks.proofs.Tables.{all_none}
use Rattle.mount_blocks.specs.Goods.{data_ticket, node_token, AreGoods}
use Rattle.mount_blocks.proofs.Naming.{node_owns, node_owned, outside_unowned}

-- whether a block is of a node below a number, whose ticket went
pub gone : ℕ → Option Owner → Bool
gone next None = false
gone next (Some (Node n)) = nat_lt n next
gone next (Some (Data n s)) = false

-- the ticket of a block that is still there
pub left_ticket : ℕ → Option Owner → ℕ → List ℕ → Option Placed
left_ticket next owner address bytes = if gone next owner then None else ticket_of owner address bytes

-- the token of a number that has come
pub come_token : Image → (ℕ → List ℕ) → ℕ → ℕ → Option TakenNumber
come_token image bytes next number = if nat_lt number next then node_token image bytes number else None

-- the tickets of the nodes below a number went, and their tokens came
pub record ArePassed (geometry : Geometry) (image : Image) (bytes : ℕ → List ℕ) (next : ℕ) (tickets : List (Option Placed)) (tokens : List (Option TakenNumber)) : Type 0 where
  pub places : length tickets ≡ block_count geometry + 1
  pub numbers : length tokens ≡ geometry.nodes + 1
  pub first : get_or tickets 0 None ≡ None
  pub tickets_are : (a : ℕ) → 0 < a → a ≤ block_count geometry → get_or tickets a None ≡ left_ticket next (marked_owner geometry image a) a (bytes a)
  pub tokens_are : (n : ℕ) → get_or tokens n None ≡ come_token image bytes next n

still : (next : ℕ) (owner : Option Owner) (a : ℕ) (b : List ℕ) → owner ≢ Some (Node next) → left_ticket (next + 1) owner a b ≡ left_ticket next owner a b
unfolding left_ticket gone
still next None a b other = refl
still next (Some (Data n s)) a b other = refl
still next (Some (Node n)) a b other = ap (λ g. if g then None else ticket_of (Some (Node n)) a b) (below_next n next (λ e. other (ap (λ k. Some (Node k)) e)))

went : (next : ℕ) (a : ℕ) (b : List ℕ) → left_ticket (next + 1) (Some (Node next)) a b ≡ None
unfolding left_ticket gone
went next a b = ap (λ g. if g then None else ticket_of (Some (Node next)) a b) (lt-ltb next (next + 1) (omega arith))

stands : (next : ℕ) (a : ℕ) (b : List ℕ) → left_ticket next (Some (Node next)) a b ≡ ticket_of (Some (Node next)) a b
unfolding left_ticket gone
stands next a b = ap (λ g. if g then None else ticket_of (Some (Node next)) a b) (le-ltb next next (omega arith))

first_left : (owner : Option Owner) (a : ℕ) (b : List ℕ) → ((n : ℕ) → owner ≡ Some (Node n) → 0 < n) → left_ticket 1 owner a b ≡ ticket_of owner a b
unfolding left_ticket gone
first_left None a b some = refl
first_left (Some (Data n s)) a b some = refl
first_left (Some (Node n)) a b some = ap (λ g. if g then None else ticket_of (Some (Node n)) a b) (le-ltb n 1 (some n refl))

last_left : (last : ℕ) (owner : Option Owner) (a : ℕ) (b : List ℕ) → ((n : ℕ) → owner ≡ Some (Node n) → n < last) → left_ticket last owner a b ≡ data_ticket owner a b
unfolding left_ticket gone
last_left last None a b low = refl
last_left last (Some (Data n s)) a b low = refl
last_left last (Some (Node n)) a b low = ap (λ g. if g then None else ticket_of (Some (Node n)) a b) (lt-ltb n last (low n refl))

come_same : (image : Image) (bytes : ℕ → List ℕ) (next n : ℕ) → n ≢ next → come_token image bytes (next + 1) n ≡ come_token image bytes next n
unfolding come_token
come_same image bytes next n apart = ap (λ g. if g then node_token image bytes n else None) (below_next n next apart)

come_here : (image : Image) (bytes : ℕ → List ℕ) (next : ℕ) → come_token image bytes (next + 1) next ≡ node_token image bytes next
unfolding come_token
come_here image bytes next = ap (λ g. if g then node_token image bytes next else None) (lt-ltb next (next + 1) (omega arith))

come_none : (image : Image) (bytes : ℕ → List ℕ) (next n : ℕ) → next ≤ n → come_token image bytes next n ≡ None
unfolding come_token
come_none image bytes next n past = ap (λ g. if g then node_token image bytes n else None) (le-ltb n next past)

come_first : (image : Image) (bytes : ℕ → List ℕ) (n : ℕ) → come_token image bytes 1 n ≡ None
unfolding come_token
come_first image bytes zero = ap (λ g. if g then node_token image bytes 0 else None) (lt-ltb 0 1 (omega arith))
come_first image bytes (suc n) = ap (λ g. if g then node_token image bytes (suc n) else None) (le-ltb (suc n) 1 (omega arith))

come_last : (image : Image) (bytes : ℕ → List ℕ) (last n : ℕ) → (last ≤ n → node_token image bytes n ≡ None) → come_token image bytes last n ≡ node_token image bytes n
unfolding come_token
come_last image bytes last n past = elim (cases_lt n last) [
  | inl low ↦ ap (λ g. if g then node_token image bytes n else None) (lt-ltb n last low)
  | inr high ↦ ap (λ g. if g then node_token image bytes n else None) (le-ltb n last high) ∙ sym (past high)
]

-- a number without an entry has no token
pub no_token : (image : Image) (bytes : ℕ → List ℕ) (n : ℕ) → (entry_of image n).address ≡ 0 → node_token image bytes n ≡ None
no_token image bytes n e =
    ap (λ g. if g then None else Some (record { number = n; inode = (entry_of image n).inode; address = (entry_of image n).address; bytes = bytes (entry_of image n).address })) (eq-eqb (entry_of image n).address 0 e)

pub some_token : (image : Image) (bytes : ℕ → List ℕ) (n : ℕ) → (entry_of image n).address ≢ 0
    → node_token image bytes n ≡ Some (record { number = n; inode = (entry_of image n).inode; address = (entry_of image n).address; bytes = bytes (entry_of image n).address })
some_token image bytes n e =
    ap (λ g. if g then None else Some (record { number = n; inode = (entry_of image n).inode; address = (entry_of image n).address; bytes = bytes (entry_of image n).address })) (ne_eqb (entry_of image n).address 0 e)

pub taken_of : (image : Image) (n : ℕ) → (entry_of image n).address ≢ 0 → is_taken image n ≡ true
taken_of image n e = ap not (ne_eqb (entry_of image n).address 0 e)

entry_is : (image : Image) (n : ℕ) → 0 < n → entry_of image n ≡ get_or image.node_table (n - 1) no_entry
entry_is image n positive = let some : (n == 0) ≡ false = ne_eqb n 0 (λ z. absurd (omega arith)) in rw some refl

-- a number past the last has no entry
past_entry : (geometry : Geometry) (image : Image) → IsLawful geometry image → (n : ℕ) → geometry.nodes < n → (entry_of image n).address ≡ 0
past_entry geometry image lawful n past =
    let range = lawful 1 (omega arith) (omega arith) in
    let table = range.table in
    ap (λ (e : NodeEntry). e.address) (entry_is image n (omega arith) ∙ get_or_past image.node_table (n - 1) no_entry (omega arith))

pub entry_within : (geometry : Geometry) (image : Image) → IsLawful geometry image → (n : ℕ) → (entry_of image n).address ≢ 0 → (0 < n) × (n ≤ geometry.nodes)
entry_within geometry image lawful zero some = absurd (some refl)
entry_within geometry image lawful (suc n) some = elim (cases_lt geometry.nodes (suc n)) [
  | inl past ↦ absurd (some (past_entry geometry image lawful (suc n) past))
  | inr within ↦ (omega arith, within)
]

module _ (geometry : Geometry) (image : Image) (lawful : IsLawful geometry image) where
  -- the number of a node that owns a block is one of the volume's
  owner_within : (a n : ℕ) → 0 < a → marked_owner geometry image a ≡ Some (Node n) → (0 < n) × (n ≤ geometry.nodes)
  owner_within a n some is = entry_within geometry image lawful n (λ zero_is. (let at = node_owns geometry image lawful a n is in absurd (omega arith)))

  module _ (bytes : ℕ → List ℕ) where
    pub passing_begins : (tickets : List (Option Placed)) (tokens : List (Option TakenNumber)) → AreTicketsPast geometry image bytes 0 tickets → tokens ≡ replicate (geometry.nodes + 1) None → ArePassed geometry image bytes 1 tickets tokens
    passing_begins tickets tokens are is = record {
      places = are.places;
      numbers = ap length is ∙ length-replicate (geometry.nodes + 1) None;
      first = are.none 0 (omega arith);
      tickets_are = λ a some within. are.there a some within ∙ sym (first_left (marked_owner geometry image a) a (bytes a) (λ n owner. (owner_within a n some owner).0));
      tokens_are = λ n. ap (λ ts. get_or ts n None) is ∙ (all_none (geometry.nodes + 1) n ∙ sym (come_first image bytes n));
    }

    -- the number has no entry
    pub passes_none : (next : ℕ) (tickets : List (Option Placed)) (tokens : List (Option TakenNumber)) → (entry_of image next).address ≡ 0 → ArePassed geometry image bytes next tickets tokens → ArePassed geometry image bytes (next + 1) tickets tokens
    passes_none next tickets tokens none are = record {
      places = are.places;
      numbers = are.numbers;
      first = are.first;
      tickets_are = λ a some within. are.tickets_are a some within
          ∙ sym (still next (marked_owner geometry image a) a (bytes a) (λ owner. (let at = node_owns geometry image lawful a next owner in absurd (omega arith))));
      tokens_are = λ n. are.tokens_are n ∙ elim (cases_eq n next) [
        | inl e ↦ come_none image bytes next n (omega arith) ∙ sym (ap (come_token image bytes (next + 1)) e ∙ (come_here image bytes next ∙ no_token image bytes next none))
        | inr apart ↦ sym (come_same image bytes next n apart)
      ];
    }

    module _ (next : ℕ) (tickets : List (Option Placed)) (tokens : List (Option TakenNumber)) (some : (entry_of image next).address ≢ 0) (are : ArePassed geometry image bytes next tickets tokens) where
      abbrev a : ℕ
      a = (entry_of image next).address

      in_numbers : (0 < next) × (next ≤ geometry.nodes)
      in_numbers = entry_within geometry image lawful next some

      owned : marked_owner geometry image a ≡ Some (Node next)
      owned = node_owned geometry image lawful next in_numbers.1 (taken_of image next some)

      in_area : (1 ≤ a) × (a ≤ block_count geometry)
      in_area = elim (cases_lt (block_count geometry) a) [
        | inl past ↦ absurd (let none = outside_unowned geometry image lawful a (λ r. (let high = r.1 in absurd (omega arith))) in let e = sym none ∙ owned in cc)
        | inr within ↦ (elim (cases_lt 0 a) [ inl low ↦ omega arith | inr zero_is ↦ absurd (some (omega arith)) ], within)
      ]

      -- its ticket is there
      pub ticket_stands : get_or tickets a None ≡ Some (record { mark = record { address = a; owner = Node next }; content = bytes a })
      ticket_stands = are.tickets_are a in_area.0 in_area.1 ∙ (ap (λ o. left_ticket next o a (bytes a)) owned ∙ stands next a (bytes a))

      -- its token is not
      pub token_misses : get_or tokens next None ≡ None
      token_misses = are.tokens_are next ∙ come_none image bytes next next (omega arith)

      pub token_within : next < length tokens
      token_within = let long = are.numbers in let low = in_numbers.1 in omega arith

      -- the ticket goes, and the token comes
      pub passes_one : (token : TakenNumber) → token ≡ record { number = next; inode = (entry_of image next).inode; address = a; bytes = bytes a }
          → ArePassed geometry image bytes (next + 1) (set tickets a None) (set tokens next (Some token))
      passes_one token is = record {
        places = length-set tickets a None ∙ are.places;
        numbers = length-set tokens next (Some token) ∙ are.numbers;
        first = get_or-set_other tickets a 0 None None (λ e. (let low = in_area.0 in absurd (omega arith))) ∙ are.first;
        tickets_are = λ k low within. elim (cases_eq k a) [
          | inl e ↦
              let long = are.places in
              ap (λ i. get_or (set tickets a None) i None) e ∙ get_or-set_same tickets a None None (let high = in_area.1 in omega arith)
              ∙ sym (ap (λ o. left_ticket (next + 1) o k (bytes k)) (ap (marked_owner geometry image) e ∙ owned) ∙ went next k (bytes k))
          | inr apart ↦
              get_or-set_other tickets a k None None apart ∙ are.tickets_are k low within
              ∙ sym (still next (marked_owner geometry image k) k (bytes k) (λ owner. apart (sym (node_owns geometry image lawful k next owner))))
        ];
        tokens_are = λ n. elim (cases_eq n next) [
          | inl e ↦
              ap (λ i. get_or (set tokens next (Some token)) i None) e ∙ get_or-set_same tokens next (Some token) None token_within
              ∙ ap Some is ∙ sym (ap (come_token image bytes (next + 1)) e ∙ (come_here image bytes next ∙ some_token image bytes next some))
          | inr apart ↦ get_or-set_other tokens next n (Some token) None apart ∙ are.tokens_are n ∙ sym (come_same image bytes next n apart)
        ];
      }

    -- all nodes have come
    pub passing_ends : (tickets : List (Option Placed)) (tokens : List (Option TakenNumber)) → ArePassed geometry image bytes (geometry.nodes + 1) tickets tokens → AreGoods geometry image bytes tickets tokens
    passing_ends tickets tokens are = record {
      places = are.places;
      numbers = are.numbers;
      blocks = λ a. elim (cases_lt 0 a) [
        | inr low ↦
            let none : a ≡ 0 = omega arith in
            ap (λ i. get_or tickets i None) none ∙ are.first
            ∙ sym (ap (λ o. data_ticket o a (bytes a)) (outside_unowned geometry image lawful a (λ r. (let low = r.0 in absurd (omega arith)))))
        | inl some ↦ elim (cases_lt (block_count geometry) a) [
          | inl past ↦
              let long = are.places in
              get_or_past tickets a None (omega arith) ∙ sym (ap (λ o. data_ticket o a (bytes a)) (outside_unowned geometry image lawful a (λ r. (let high = r.1 in absurd (omega arith)))))
          | inr within ↦
              are.tickets_are a some within
              ∙ last_left (geometry.nodes + 1) (marked_owner geometry image a) a (bytes a) (λ n owner. (let low = (owner_within a n some owner).1 in omega arith))
        ]
      ];
      nodes = λ n. are.tokens_are n ∙ come_last image bytes (geometry.nodes + 1) n (λ past. no_token image bytes n (past_entry geometry image lawful n (omega arith)));
    }

    -- each stands at its place
    data_placed : (o : Option Owner) (k : ℕ) (b : List ℕ) (t : Placed) → data_ticket o k b ≡ Some t → (t.mark.address ≡ k) × IsData t.mark.owner
    data_placed None k b t e = cc
    data_placed (Some (Node n)) k b t e = cc
    data_placed (Some (Data n s)) k b t e = (let same = same_some (ticket_of (Some (Data n s)) k b) _ t refl e in
        (sym (ap (λ (p : Placed). p.mark.address) same), subst (λ (p : Placed). IsData p.mark.owner) same tt))

    token_placed : (n : ℕ) (e : TakenNumber) → node_token image bytes n ≡ Some e → e.number ≡ n
    token_placed n e is = elim (cases_eq (entry_of image n).address 0) [
      | inl zero_is ↦ (let none = sym (no_token image bytes n zero_is) ∙ is in cc)
      | inr some ↦ sym (ap (λ (x : TakenNumber). x.number) (same_some (node_token image bytes n) _ e (some_token image bytes n some) is))
    ]

    pub goods_placed : (tickets : List (Option Placed)) (tokens : List (Option TakenNumber)) → AreGoods geometry image bytes tickets tokens → ArePlaced (λ (t : Placed). t.mark) (record { tickets = tickets; tokens = tokens })
    goods_placed tickets tokens are = record {
      addresses = λ k t at. (data_placed (marked_owner geometry image k) k (bytes k) t (sym (are.blocks k) ∙ at)).0;
      owners = λ k t at. (data_placed (marked_owner geometry image k) k (bytes k) t (sym (are.blocks k) ∙ at)).1;
      numbers = λ k e at. token_placed k e (sym (are.nodes k) ∙ at);
    }

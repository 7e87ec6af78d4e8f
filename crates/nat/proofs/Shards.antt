-- A slot and its entry in the account change together, so each number has as many entries as its slot holds, none or
-- one, and all of them are at home in this shard.
use Rattle.std.proofs.Common.{◌≡◌, ◌≢◌, ℕ, zero, suc, ◌+◌, ◌-◌, ◌==◌, Bool, true, false, ◌*◌, ◌/◌, ◌%◌, ◌<◌, ◌≤◌, List, [], ◌∷◌, Option, Some, None, length, get_or, set, replicate, if◌then◌else◌, refl, sym, ap, ◌∙◌, subst, ⊎_elim, arith}
use Rattle.std.specs.Prelude.{is_some, MatchOption}
use Rattle.std.proofs.lemmas.Bool.{cases_lt}
use Rattle.std.proofs.lemmas.List.{length-set, length-replicate, get_or_past, get_or_read_under, get_or-set_same, get_or-set_other}
use mathlib.Core.Logic.{dite}
use native.Mathlib.Decide.{ℕ_discrete}
use Rattle.geometry.specs.Weights.{weigh}
use Rattle.rights_books.specs.declared.claim.TakenNumber.{TakenNumber}
use Rattle.rights_books.specs.Accounts.{ShardView}
use Rattle.rights_books.specs.Lists.{times, without}
use Rattle.rights_books.specs.Rules.{lodged_of, moved_to}
use Rattle.rights_books.specs.Weights.{mark_of}
use Rattle.geometry.specs.declared.owner.Mark.{Mark}
use Rattle.rights_books.proofs.Lists.{is_self}
use Rattle.rights_books.proofs.Sameness.{entry_eq, entry_self}
use Rattle.rights_books.specs.Sameness.{same_entry}
use Rattle.rights_books.proofs.Steps.{without_entry}
use Rattle.rights_books.specs.PartRow.{PartName}
use Rattle.nat.specs.Taken.{IsFree, IsTaken, IsLocated, entries_of, placed_of}
use Rattle.nat.specs.Slots.{SlotView, entry_of, entries_from, placed_in}
use Rattle.nat.specs.Shard.{ShardNodes, IsShard, HasOwnNodes}
use Rattle.nat.proofs.Entries.{of_slot, entries-set, found, held, number_at, elsewhere, none_from, none_at, held_some, entry_weighs}

module _ (nodes k : ℕ) (slots : List (Option SlotView)) (account : ShardView) (law : IsShard nodes k slots account) where
  -- the entries of a number of the shard
  count_at : (n : ℕ) → n % 16 ≡ k → entries_of n account.taken ≡ held (get_or slots (n / 16) None)
  count_at n home = law.taken _ ∙ number_at n k 0 slots (n / 16) (omega arith)

  count_off : (n : ℕ) → n % 16 ≢ k → entries_of n account.taken ≡ 0
  count_off n away = law.taken _ ∙ elsewhere n k 0 slots law.is_one away

  at_home : (n : ℕ) → 0 < entries_of n account.taken → n % 16 ≡ k
  at_home n some = dite (ℕ_discrete (n % 16) k) (λ same. same) (λ apart. absurd (let none = count_off n apart in omega arith))

  there : (n : ℕ) → 0 < entries_of n account.taken → (s : SlotView) × (get_or slots (n / 16) None ≡ Some s)
  there n some = held_some (get_or slots (n / 16) None) (let c = count_at n (at_home n some) in omega arith)

  inside : (n : ℕ) → 0 < entries_of n account.taken → n / 16 < length slots
  inside n some = ⊎_elim (λ low. low)
      (λ high. let none = get_or_past slots (n / 16) None high in let s = there n some in absurd (let no = sym none ∙ s.1 in cc))
      (cases_lt (n / 16) (length slots))

  held_one : (o : Option SlotView) → held o ≤ 1
  held_one None = omega arith
  held_one (Some s) = omega arith

  pub own_nodes : {part : Option PartName} → HasOwnNodes (record { book = account.book; shard = k; nodes = nodes; taken = account.taken; part = part })
  own_nodes = record {
    nodes = record {
      once = λ n. dite (ℕ_discrete (n % 16) k)
          (λ home. let c = count_at n home in let o = held_one (get_or slots (n / 16) None) in omega arith)
          (λ away. let c = count_off n away in omega arith);
      some = some;
      within = λ n more. let h = at_home n more in let w = law.within (n / 16) (inside n more) in omega arith;
    };
    home = at_home;
  }
    where
      some : (n : ℕ) → 0 < entries_of n account.taken → 1 ≤ n
      some zero more = absurd (let h = at_home 0 more in let none = law.zero_is_free (sym h) in let s = there 0 more in let no = sym none ∙ s.1 in cc)
      some (suc n) more = omega arith

  -- a slot changes, and its entry in the account with it
  set_law : (account' : ShardView) (i n : ℕ) (s : Option SlotView) → n ≡ (0 + i) * 16 + k → i < length slots → account'.shard ≡ account.shard → (k ≡ 0 → i ≡ 0 → s ≡ None)
      → ((h : TakenNumber → ℕ) → weigh h account'.taken + of_slot h n (get_or slots i None) ≡ weigh h account.taken + of_slot h n s)
      → IsShard nodes k (set slots i s) account'
  set_law account' i n s is within same zero_free change = record {
    is_one = law.is_one;
    number = same ∙ law.number;
    within = λ j below. law.within j (let l = length-set slots i s in omega arith);
    enough = λ j below. let e = law.enough j below in let l = length-set slots i s in omega arith;
    zero_is_free = λ z. dite (ℕ_discrete i 0)
        (λ e. ap (λ x. get_or (set slots x s) 0 None) e ∙ (get_or-set_same slots 0 s None (omega arith) ∙ zero_free z e))
        (λ apart. get_or-set_other slots i 0 s None (λ e. apart (sym e)) ∙ law.zero_is_free z);
    taken = λ h. let c = change h in let e = entries-set h k 0 slots i s n is within in let t = law.taken h in omega arith;
  }

  -- what a call knows of the shard by its view
  module _ {part : Option PartName} (v : ShardNodes) (is : ◌≡◌ {A = ShardNodes} (record { book = account.book; shard = k; nodes = nodes; taken = account.taken; part = part }) v) (n : ℕ) (home : n % 16 ≡ v.shard) where
    ours : n % 16 ≡ k
    ours = home ∙ sym (ap (λ x. x.shard) is)

    -- a number of the shard has a slot
    pub has_place : n ≤ v.nodes → n / 16 < length slots
    has_place most = law.enough (n / 16) (let o = ours in let e = ap (λ x. x.nodes) is in omega arith)

    pub is_taken : (s : SlotView) → get_or slots (n / 16) None ≡ Some s → IsTaken n v.taken
    is_taken s at = subst (λ es. IsTaken n es) (ap (λ x. x.taken) is) (count_at n ours ∙ ap held at)

    pub is_free : get_or slots (n / 16) None ≡ None → IsFree n v.taken
    is_free at = subst (λ es. IsFree n es) (ap (λ x. x.taken) is) (count_at n ours ∙ ap held at)

    -- a number is taken
    pub take_law : (slot : SlotView) (account' : ShardView) (token : TakenNumber) → 1 ≤ n → n ≤ v.nodes → get_or slots (n / 16) None ≡ None
        → token ≡ entry_of n slot → account' ≡ record account { taken = token ∷ account.taken } → IsShard nodes k (set slots (n / 16) (Some slot)) account'
    take_law slot account' token some most clear spells change =
        let o = ours in
        set_law account' (n / 16) n (Some slot) (omega arith) (has_place most) (ap (λ a. a.shard) change) (λ z i. absurd (omega arith))
        (λ h. let a = ap (λ x. weigh h x.taken) change in let b = ap (of_slot h n) clear in let t = ap h spells in omega arith)

    -- a number's entry says what its slot does
    pub is_located : (slot : SlotView) → get_or slots (n / 16) None ≡ Some slot → IsLocated n v.taken (Some (slot.inode, slot.address))
    is_located slot at =
        let e = entry_of n slot in
        let h : TakenNumber → ℕ = λ y. if same_entry e y then 1 else 0 in
        let o = ours in
        let w = entry_weighs h k 0 slots (n / 16) slot n (omega arith) at in
        let one : h e ≡ 1 = is_self same_entry entry_eq entry_self e in
        let t = law.taken h in
        let same = ap (λ x. weigh h x.taken) is in (is_taken slot at, slot.bytes, omega arith)

  -- an entry that the account has taken, whose number is called by two names
  module _ (e : TakenNumber) (n : ℕ) (named : n ≡ e.number) (some : 0 < times same_entry e account.taken) where
    stands : (slot : SlotView) × (n / 16 < length slots) × (n ≡ (0 + (n / 16)) * 16 + k) × (get_or slots (n / 16) None ≡ Some slot) × (e ≡ entry_of n slot)
    stands =
        let t = law.taken (λ y. if same_entry e y then 1 else 0) in
        let f = found e k 0 slots (omega arith) in
        let number : e.number ≡ (0 + f.0) * 16 + k = ap (λ z. z.number) f.4 in
        let small = law.is_one in
        let i : f.0 ≡ n / 16 = omega arith in
        let within = f.2 in
        (f.1, omega arith, omega arith, ap (λ z. get_or slots z None) (sym i) ∙ f.3, f.4 ∙ ap (λ z. entry_of z f.1) (sym number ∙ sym named))

    pub stands_within : n / 16 < length slots
    stands_within = stands.1

    pub not_none : get_or slots (n / 16) None ≡ None → ⊥
    not_none none = let no = sym none ∙ stands.3 in cc

    module _ (slot : SlotView) (at : get_or slots (n / 16) None ≡ Some slot) where
      pub slot_spells : e ≡ entry_of n slot
      slot_spells = stands.4 ∙ ap (entry_of n) (let same = sym stands.3 ∙ at in cc)

      -- its number is free again
      pub give_law : (left : Option SlotView) (account' : ShardView) → left ≡ None → account' ≡ record account { taken = without same_entry e account.taken } → IsShard nodes k (set slots (n / 16) left) account'
      give_law left account' none change =
          set_law account' (n / 16) n left stands.2 stands.1 (ap (λ a. a.shard) change) (λ z i. none)
          (λ h.
          let a = ap (λ x. weigh h x.taken) change in
          let b = ap (of_slot h n) at in
          let l = ap (of_slot h n) none in
          let w = without_entry h e account.taken some in
          let t = ap h slot_spells in omega arith)

      -- its node gets another block
      pub swap_law : (slot' : SlotView) (e' : TakenNumber) (account' : ShardView) → e' ≡ entry_of n slot' → account' ≡ record account { taken = e' ∷ without same_entry e account.taken }
          → IsShard nodes k (set slots (n / 16) (Some slot')) account'
      swap_law slot' e' account' spells change =
          set_law account' (n / 16) n (Some slot') stands.2 stands.1 (ap (λ a. a.shard) change)
          (λ z i. absurd (not_none (ap (λ x. get_or slots x None) i ∙ law.zero_is_free z)))
          (λ h.
          let a = ap (λ x. weigh h x.taken) change in
          let b = ap (of_slot h n) at in
          let w = without_entry h e account.taken some in
          let t = ap h slot_spells in
          let u = ap h spells in omega arith)

-- a shard with nothing taken
pub new_law : (nodes k count : ℕ) (slots : List (Option SlotView)) (account : ShardView) → k < 16 → count ≡ (nodes + 16 - k) / 16 → slots ≡ replicate count None
    → account ≡ record account { shard = k; taken = [] } → IsShard nodes k slots account
new_law nodes k count slots account small many none empty =
    let long : length slots ≡ count = ap (λ ss. length ss) none ∙ length-replicate count None in
    record {
      is_one = small;
      number = ap (λ a. a.shard) empty;
      within = λ j below. omega arith;
      enough = λ j below. omega arith;
      zero_is_free = λ z. ap (λ ss. get_or ss 0 None) none ∙ none_at count 0;
      taken = λ h. ap (λ a. weigh h a.taken) empty ∙ sym (ap (λ ss. weigh h (entries_from k 0 ss)) none ∙ ap (weigh h) (none_from count k 0));
    }

-- what the books hand out fits the block that stands there
pub lodged_fits : (e : TakenNumber) (claimed : Option Mark) (a : ℕ) → claimed ≡ lodged_of e → e.address ≡ a → MatchOption claimed (Unit {0}) (λ mark. (0 < mark.address) × (mark.address ≡ a))
lodged_fits e claimed a is at = subst (λ (c : Option Mark). MatchOption c (Unit {0}) (λ mark. (0 < mark.address) × (mark.address ≡ a))) (sym is) (go (e.address == 0) refl)
  where
    positive : (n : ℕ) → (n == 0) ≡ false → 0 < n
    positive zero z = absurd (let no = z in cc)
    positive (suc n) z = omega arith

    go : (b : Bool) → (e.address == 0) ≡ b → MatchOption (if b then None else Some (mark_of e)) (Unit {0}) (λ mark. (0 < mark.address) × (mark.address ≡ a))
    go true z = tt
    go false z = (positive e.address z, at)

pub placed_lodged : (e : TakenNumber) (claimed : Option Mark) (bytes : List ℕ) → claimed ≡ lodged_of e → bytes ≡ e.bytes → placed_in claimed bytes ≡ placed_of e
placed_lodged e claimed bytes is spelled = ap (λ c. placed_in c bytes) is ∙ (ap (placed_in (lodged_of e)) spelled ∙ go (e.address == 0))
  where
    go : (b : Bool) → placed_in (if b then None else Some (mark_of e)) e.bytes ≡ (if b then None else Some (record { mark = mark_of e; content = e.bytes }))
    go true = refl
    go false = refl

pub some_of : (o : Option SlotView) → is_some o ≡ true → (s : SlotView) × (o ≡ Some s)
some_of None e = absurd (let no = e in cc)
some_of (Some s) e = (s, refl)

pub none_of : (o : Option SlotView) → is_some o ≡ false → o ≡ None
none_of None e = refl
none_of (Some s) e = absurd (let no = e in cc)

-- what was read at an index that is there
pub read_at : (slots : List (Option SlotView)) (i : ℕ) (o : Option SlotView) → o ≡ get_or slots i o → i < length slots → get_or slots i None ≡ o
read_at slots i o read within = sym (get_or_read_under slots i (length slots) o None read within refl)

-- the entry of a node that got a block spells its slot
pub moved_spells : (e e' : TakenNumber) (a : ℕ) (bytes : List ℕ) (n : ℕ) (slot slot' : SlotView) (at : ℕ) (content : List ℕ) → e' ≡ moved_to a bytes e → e ≡ entry_of n slot
    → slot' ≡ record { inode = slot.inode; address = at; bytes = content } → at ≡ e'.address → content ≡ e'.bytes → e' ≡ entry_of n slot'
moved_spells e e' a bytes n slot slot' at content moved spells is same_address same_content =
    λ i. record {
      number = (ap (λ x. x.number) moved ∙ ap (λ x. x.number) spells) i;
      inode = (ap (λ x. x.inode) moved ∙ (ap (λ x. x.inode) spells ∙ sym (ap (λ x. x.inode) is))) i;
      address = (sym same_address ∙ sym (ap (λ x. x.address) is)) i;
      bytes = (sym same_content ∙ sym (ap (λ x. x.bytes) is)) i;
    }

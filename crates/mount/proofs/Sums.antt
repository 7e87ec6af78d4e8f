-- The indexes below an entry are counted entry by entry and level by level, as the tickets are; so there are as many
-- tickets as indexes with one, and as blocks in the file.
use Rattle.std.proofs.Common.{◌≡◌, ℕ, zero, suc, ◌+◌, ◌-◌, ◌*◌, ◌%◌, ◌<◌, ◌≤◌, cond, List, length, Option, Some, None, refl, sym, ap, ◌∙◌, arith}
use Rattle.std.specs.Prelude.{is_some}
use Rattle.std.specs.Ordering.{nat_cmp}
use Rattle.std.specs.FinMap.{FinMap, get, len, get-empty, len-empty, len-insert}
use Rattle.std.proofs.lemmas.Cmp.{nat_cmp_total}
use Rattle.std.proofs.lemmas.Nat.{div-mul-add, mod-mul-add}
use borrow.Author.Tests.{lt-ltb, le-ltb}
use Rattle.geometry.specs.Weights.{weigh}
use Rattle.rights_books.specs.Lists.{sum_below}
use Rattle.geometry.specs.Path.{inode_entries, node_entries, largest_length}
use Rattle.geometry.specs.File.{Block}
use Rattle.tickets.specs.Placed.{Placed}
use Rattle.nodes.specs.declared.branch.Branch.{Branch}
use Rattle.nodes.specs.Tree.{find_in, only_at_zero, entry_at}
use Rattle.nodes.specs.Change.{ticket_weight, of_tickets, Weighing}
use Rattle.nodes.specs.declared.file.FileState.{FileState}
use Rattle.nodes.specs.File.{IsFile, joined, find_direct, find_indirect, find_double, shaped_direct, shaped_indirect, shaped_double, weight_direct, weight_indirect, weight_double, in_tickets, in_direct, in_indirect, in_double, ticket_at, content_of, with_block, blocks_below, weight_of, file_of}
use Rattle.nodes.proofs.Shown.{kept}
use Rattle.mount_blocks.proofs.Tables.{sum_same, by_index}

each : Weighing Placed
each = of_tickets (λ t. 1)

one : Option Placed → ℕ
one None = 0
one (Some t) = 1

sum_split : (a b : ℕ) (g : ℕ → ℕ) → sum_below (a + b) g ≡ sum_below a g + sum_below b (λ j. g (a + j))
sum_split a zero g = let none : a + 0 ≡ a = omega arith in let same = ap (λ n. sum_below n g) none in omega arith
sum_split a (suc b) g =
    let next : a + suc b ≡ suc (a + b) = omega arith in
    let same = ap (λ n. sum_below n g) next in
    let rest = sum_split a b g in
    omega arith

sum_zero : (n : ℕ) (g : ℕ → ℕ) → ((k : ℕ) → k < n → g k ≡ 0) → sum_below n g ≡ 0
sum_zero zero g none = refl
sum_zero (suc n) g none =
    let here = none n (omega arith) in
    let rest = sum_zero n g (λ k low. none k (omega arith)) in
    omega arith

-- Entries, where each weighs as many as are found below it.
module _ {C : Type 0} (find : Option C → ℕ → Option Placed) (span : ℕ) (weight : Option C → ℕ) (slots : List (Option C)) (each_is : (k : ℕ) → sum_below span (λ i. one (find (entry_at slots k) i)) ≡ weight (entry_at slots k)) where
  found : ℕ → ℕ
  found i = one (find_in find span slots i)

  first_slots : (n : ℕ) → sum_below (n * span) found ≡ sum_below n (λ k. weight (entry_at slots k))
  unfolding found
  first_slots zero = let none : 0 * span ≡ 0 = omega arith in ap (λ m. sum_below m found) none
  first_slots (suc n) =
      let next : suc n * span ≡ n * span + span = omega arith in
      let all = ap (λ m. sum_below m found) next in
      let split = sum_split (n * span) span found in
      let last = sum_same span (λ j. found (n * span + j)) (λ i. one (find (entry_at slots n) i))
      (λ j low. ap (λ q. one (find (entry_at slots q) ((n * span + j) % span))) (div-mul-add n span j low) ∙ ap (λ r. one (find (entry_at slots n) r)) (mod-mul-add n span j low)) in
      let here = each_is n in
      let rest = first_slots n in
      omega arith

  slots_summed : (count : ℕ) → length slots ≡ count → sum_below (count * span) (λ i. one (find_in find span slots i)) ≡ weigh weight slots
  unfolding found
  slots_summed count long =
      ap (λ m. sum_below (m * span) found) (sym long) ∙ (first_slots (length slots) ∙ sym (by_index weight slots None))

one_ticket : (x : Option Placed) → sum_below 1 (λ i. one (only_at_zero x i)) ≡ ticket_weight each x
unfolding each one
one_ticket None = refl
one_ticket (Some t) = refl

nothing_found : (n : ℕ) → sum_below n (λ i. one None) ≡ 0
unfolding one
nothing_found n = sum_zero n (λ i. 0) (λ k low. refl)

summed_1 : (e : ℕ) (x : Option (Branch Placed)) → shaped_direct e x → sum_below (e * 1) (λ i. one (find_direct e x i)) ≡ weight_direct each x
unfolding each
summed_1 e None shaped = nothing_found (e * 1)
summed_1 e (Some b) shaped =
    let all = slots_summed only_at_zero 1 (ticket_weight each) b.entries.slots.items (λ k. one_ticket (entry_at b.entries.slots.items k)) e shaped.0.0 in
    omega arith

summed_2 : (e : ℕ) (x : Option (Branch (Branch Placed))) → shaped_indirect e x → sum_below (e * (e * 1)) (λ i. one (find_indirect e x i)) ≡ weight_indirect each x
unfolding each
summed_2 e None shaped = nothing_found (e * (e * 1))
summed_2 e (Some b) shaped =
    let all = slots_summed (find_direct e) (e * 1) (weight_direct each) b.entries.slots.items (λ k. summed_1 e (entry_at b.entries.slots.items k) (shaped.0.1 k)) e shaped.0.0 in
    omega arith

summed_3 : (e : ℕ) (x : Option (Branch (Branch (Branch Placed)))) → shaped_double e x → sum_below (e * (e * (e * 1))) (λ i. one (find_double e x i)) ≡ weight_double each x
unfolding each
summed_3 e None shaped = nothing_found (e * (e * (e * 1)))
summed_3 e (Some b) shaped =
    let all = slots_summed (find_indirect e) (e * (e * 1)) (weight_indirect each) b.entries.slots.items (λ k. summed_2 e (entry_at b.entries.slots.items k) (shaped.0.1 k)) e shaped.0.0 in
    omega arith

joined_low : (w : ℕ) (first rest : ℕ → Option Placed) (i : ℕ) → i < w → joined w first rest i ≡ first i
joined_low w first rest i low = ap (λ b. cond b (first i) (rest (i - w))) (lt-ltb i w low)

joined_high : (w : ℕ) (first rest : ℕ → Option Placed) (j : ℕ) → joined w first rest (w + j) ≡ rest j
joined_high w first rest j =
    let back : w + j - w ≡ j = omega arith in
    ap (λ b. cond b (first (w + j)) (rest (w + j - w))) (le-ltb (w + j) w (omega arith)) ∙ ap rest back

-- two ranges, one after the other
joined_sum : (w v : ℕ) (first rest : ℕ → Option Placed) → sum_below (w + v) (λ i. one (joined w first rest i)) ≡ sum_below w (λ i. one (first i)) + sum_below v (λ i. one (rest i))
joined_sum w v first rest =
    let split = sum_split w v (λ i. one (joined w first rest i)) in
    let low = sum_same w (λ i. one (joined w first rest i)) (λ i. one (first i)) (λ k h. ap one (joined_low w first rest k h)) in
    let high = sum_same v (λ j. one (joined w first rest (w + j))) (λ j. one (rest j)) (λ j h. ap one (joined_high w first rest j)) in
    omega arith

module _ {B L : Type 0} (f : FileState B L) (is : IsFile f) where
  tickets_sum : sum_below (largest_length f.shape) (λ i. one (ticket_at f i)) ≡ weight_of f each
  unfolding each
  tickets_sum =
      let d = inode_entries f.shape in
      let e = node_entries f.shape in
      let w1 : d * 1 ≡ d = omega arith in
      let w2 : 2 * (e * 1) ≡ 2 * e = omega arith in
      let one_is : e * 1 ≡ e = omega arith in
      let w3 : 2 * (e * (e * 1)) ≡ 2 * (e * e) = ap (λ z. 2 * (e * z)) one_is in
      let w4 : 1 * (e * (e * (e * 1))) ≡ e * (e * e) = (let z : 1 * (e * (e * (e * 1))) ≡ e * (e * (e * 1)) = omega arith in z ∙ ap (λ y. e * (e * y)) one_is) in
      let rest2 = joined (2 * (e * e)) (in_indirect f) (in_double f) in
      let rest1 = joined (2 * e) (in_direct f) rest2 in
      let s1 = ap (λ n. sum_below n (λ i. one (in_tickets f i))) (sym w1) ∙ slots_summed only_at_zero 1 (ticket_weight each) f.tickets.slots.items (λ k. one_ticket (entry_at f.tickets.slots.items k)) d is.tickets.0 in
      let s2 = ap (λ n. sum_below n (λ i. one (in_direct f i))) (sym w2) ∙ slots_summed (find_direct e) (e * 1) (weight_direct each) f.direct.slots.items (λ k. summed_1 e (entry_at f.direct.slots.items k) (is.direct.1 k)) 2 is.direct.0 in
      let s3 = ap (λ n. sum_below n (λ i. one (in_indirect f i))) (sym w3) ∙ slots_summed (find_indirect e) (e * (e * 1)) (weight_indirect each) f.indirect.slots.items (λ k. summed_2 e (entry_at f.indirect.slots.items k) (is.indirect.1 k)) 2 is.indirect.0 in
      let s4 = ap (λ n. sum_below n (λ i. one (in_double f i))) (sym w4) ∙ slots_summed (find_double e) (e * (e * (e * 1))) (weight_double each) f.double.slots.items (λ k. summed_3 e (entry_at f.double.slots.items k) (is.double.1 k)) 1 is.double.0 in
      let j3 = joined_sum (2 * (e * e)) (e * (e * e)) (in_indirect f) (in_double f) in
      let j2 = joined_sum (2 * e) (2 * (e * e) + e * (e * e)) (in_direct f) rest2 in
      let j1 = joined_sum d (2 * e + (2 * (e * e) + e * (e * e))) (in_tickets f) rest1 in
      let whole : largest_length f.shape ≡ d + (2 * e + (2 * (e * e) + e * (e * e))) = omega arith in
      let all = ap (λ n. sum_below n (λ i. one (ticket_at f i))) whole in
      omega arith

-- a map of blocks has as many as there are indexes with one
kept_past : (at : ℕ → Option Placed) (n i : ℕ) → n ≤ i → get (blocks_below n at) i ≡ None
kept_past at zero i h = get-empty nat_cmp i
kept_past at (suc n) i h = keeps (content_of (at n)) ∙ kept_past at n i (omega arith)
  where
    keeps : (b : Option Block) → get (with_block n b (blocks_below n at)) i ≡ get (blocks_below n at) i
    keeps None = refl
    keeps (Some b) = kept (blocks_below n at) n b i (λ e. absurd (omega arith))

more_blocks : (n : ℕ) (m : FinMap nat_cmp Block) (x : Option Placed) → get m n ≡ None → len (with_block n (content_of x) m) ≡ len m + one x
unfolding one
more_blocks n m None none = omega arith
more_blocks n m (Some t) none = len-insert nat_cmp_total m n t.content ∙ ap (λ b. cond b (len m) (len m + 1)) (ap is_some none)

blocks_counted : (at : ℕ → Option Placed) (n : ℕ) → len (blocks_below n at) ≡ sum_below n (λ i. one (at i))
blocks_counted at zero = len-empty nat_cmp Block
blocks_counted at (suc n) =
    let rest = blocks_counted at n in
    let more = more_blocks n (blocks_below n at) (at n) (kept_past at n n (omega arith)) in
    omega arith

-- as many tickets as blocks
pub file_counted : {B L : Type 0} (f : FileState B L) → IsFile f → f.length ≤ largest_length f.shape → weight_of f (of_tickets (λ (t : Placed). 1)) ≡ len (file_of f).blocks
unfolding each one
file_counted f is short =
    let rest : ℕ = largest_length f.shape - f.length in
    let whole : largest_length f.shape ≡ f.length + rest = omega arith in
    let all = tickets_sum f is in
    let cut = ap (λ n. sum_below n (λ i. one (ticket_at f i))) whole ∙ sum_split f.length rest (λ i. one (ticket_at f i)) in
    let none = sum_zero rest (λ j. one (ticket_at f (f.length + j))) (λ j low. ap one (is.within (f.length + j) (omega arith))) in
    let blocks = blocks_counted (ticket_at f) f.length in
    omega arith

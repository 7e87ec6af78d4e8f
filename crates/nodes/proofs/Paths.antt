-- An index less what lies before its range, written in digits by the entries of a node, is its path: each step down
-- takes off one digit, so both lead to the same ticket.
use Rattle.std.proofs.Common.{◌≡◌, ℕ, ◌+◌, ◌-◌, ◌*◌, ◌/◌, ◌%◌, ◌<◌, ◌≤◌, Option, Some, None, refl, arith, ap, sym, ◌∙◌, inl, inr, nat_lt, if◌then◌else◌}
use borrow.Author.Tests.{lt-ltb, le-ltb}
use Rattle.std.proofs.lemmas.Bool.{cases_lt}
use Rattle.std.proofs.lemmas.Nat.{div-add-mod', div-mul-add, mod-mul-add, mod_below, mul-le}
use Rattle.std.proofs.Math.Nat.{div-one, mod-one, div-eq_of_lt, mod-eq_of_lt}
use Rattle.tickets.specs.Placed.{Placed}
use Rattle.nodes.specs.declared.branch.Branch.{Branch}
use Rattle.nodes.specs.declared.file.FileState.{FileState}
use Rattle.geometry.specs.declared.path.Path.TheVariants.{Inode, Direct, Indirect, Double}
use Rattle.nodes.specs.Tree.{entry_at}
use Rattle.geometry.specs.Path.{inode_entries, node_entries, largest_length, path}
use Rattle.geometry.specs.declared.path.Path.{Path}
use Rattle.nodes.specs.File.{joined, below, at_path, ends_at, ticket_at, in_tickets, in_direct, in_indirect, in_double, find_direct, find_indirect, find_double}
use Rattle.nodes.proofs.Joined.{at_first, at_rest}
use Rattle.nodes.proofs.Bounds.{entries_positive}

pub times_one : (e : ℕ) → e * 1 ≡ e
times_one e = omega arith

-- the last two digits of a number
module _ (k e : ℕ) (p : 0 < e) where
  low : ℕ
  low = k % e

  last_two : k % (e * e) ≡ ((k / e) % e) * e + k % e
  last_two =
      let q = div-add-mod' k e in
      let r = div-add-mod' (k / e) e in
      let m = ap (λ z. z * e) r in
      let b1 = mod_below k e p in
      let b2 = mod_below (k / e) e p in
      let b3 = mul-le ((k / e) % e + 1) e e e (omega arith) (omega arith) in
      let whole : k ≡ (k / e / e) * (e * e) + (((k / e) % e) * e + k % e) = omega arith in
      let bound : ((k / e) % e) * e + k % e < e * e = omega arith in
      ap (λ z. z % (e * e)) whole ∙ mod-mul-add (k / e / e) (e * e) (((k / e) % e) * e + k % e) bound

  pub second : (k % (e * e)) / e ≡ (k / e) % e
  second = ap (λ z. z / e) last_two ∙ div-mul-add ((k / e) % e) e (k % e) (mod_below k e p)

  pub first : (k % (e * e)) % e ≡ k % e
  first = ap (λ z. z % e) last_two ∙ mod-mul-add ((k / e) % e) e (k % e) (mod_below k e p)

module _ (e : ℕ) (p : 0 < e) where
  one_step : (x : Option (Branch Placed)) (j : ℕ) → find_direct e x j ≡ below x j
  one_step None j = refl
  one_step (Some b) j = rw (div-one, mod-one)

  two_steps : (x : Option (Branch (Branch Placed))) (j : ℕ) → find_indirect e x j ≡ below (below x (j / e)) (j % e)
  two_steps None j = refl
  two_steps (Some b) j = rw (times_one e) (one_step (entry_at b.entries.slots.items (j / e)) (j % e))

  three_steps : (x : Option (Branch (Branch (Branch Placed)))) (j : ℕ) → find_double e x j ≡ below (below (below x (j / (e * e))) ((j / e) % e)) (j % e)
  three_steps None j = refl
  three_steps (Some b) j =
      let xs = b.entries.slots.items in
      ap (λ w. find_indirect e (entry_at xs (j / w)) (j % w)) (ap (λ z. e * z) (times_one e))
      ∙ two_steps (entry_at xs (j / (e * e))) (j % (e * e))
      ∙ ap (λ z. below (below (entry_at xs (j / (e * e))) z) ((j % (e * e)) % e)) (second j e p)
      ∙ ap (λ z. below (below (entry_at xs (j / (e * e))) ((j / e) % e)) z) (first j e p)

-- the table, with numbers for its shape
abbrev largest : ℕ → ℕ → ℕ
largest d e = d + 2 * e + 2 * (e * e) + e * e * e

abbrev path_of : ℕ → ℕ → ℕ → Option Path
path_of d e index =
    if nat_lt index d then Some (Inode index)
    else if nat_lt index (d + 2 * e) then
    (let k = index - d in Some (Direct (k / e) (k % e)))
    else if nat_lt index (d + 2 * e + 2 * (e * e)) then
    (let k = index - (d + 2 * e) in Some (Indirect (2 + k / (e * e)) (k / e % e) (k % e)))
    else if nat_lt index (largest d e) then
    (let k = index - (d + 2 * e + 2 * (e * e)) in Some (Double (k / (e * e)) (k / e % e) (k % e)))
    else None

module _ (d e i : ℕ) where
  pub path_1 : i < d → path_of d e i ≡ Some (Inode i)
  path_1 h = rw (lt-ltb i d h)

  pub path_2 : d ≤ i → i < d + 2 * e → path_of d e i ≡ Some (Direct ((i - d) / e) ((i - d) % e))
  path_2 h k = rw (le-ltb i d h, lt-ltb i (d + 2 * e) k)

  pub path_3 : d + 2 * e ≤ i → i < d + 2 * e + 2 * (e * e)
      → path_of d e i ≡ Some (Indirect (2 + (i - (d + 2 * e)) / (e * e)) (((i - (d + 2 * e)) / e) % e) ((i - (d + 2 * e)) % e))
  path_3 h k = rw (le-ltb i d (omega arith), le-ltb i (d + 2 * e) h, lt-ltb i (d + 2 * e + 2 * (e * e)) k)

  pub path_4 : d + 2 * e + 2 * (e * e) ≤ i → i < largest d e
      → path_of d e i
      ≡ Some (Double ((i - (d + 2 * e + 2 * (e * e))) / (e * e)) (((i - (d + 2 * e + 2 * (e * e))) / e) % e) ((i - (d + 2 * e + 2 * (e * e))) % e))
  path_4 h k =
      rw (le-ltb i d (omega arith), le-ltb i (d + 2 * e) (omega arith), le-ltb i (d + 2 * e + 2 * (e * e)) h, lt-ltb i (largest d e) k)

  pub path_5 : largest d e ≤ i → path_of d e i ≡ None
  path_5 h =
      rw (le-ltb i d (omega arith), le-ltb i (d + 2 * e) (omega arith), le-ltb i (d + 2 * e + 2 * (e * e)) (omega arith), le-ltb i (largest d e) h)

module _ {B L : Type 0} (f : FileState B L) (k : ℕ) where
  tickets_is : in_tickets f k ≡ at_path f (Inode k)
  tickets_is = rw (div-one, mod-one)

  direct_is : in_direct f k ≡ at_path f (Direct (k / node_entries f.shape) (k % node_entries f.shape))
  direct_is =
      let e = node_entries f.shape in
      let xs = f.direct.slots.items in
      ap (λ w. find_direct e (entry_at xs (k / w)) (k % w)) (times_one e) ∙ one_step e (entries_positive f.shape) (entry_at xs (k / e)) (k % e)

  indirect_is : in_indirect f k
      ≡ at_path f (Indirect (2 + k / (node_entries f.shape * node_entries f.shape)) ((k / node_entries f.shape) % node_entries f.shape) (k % node_entries f.shape))
  indirect_is =
      let e = node_entries f.shape in
      let p = entries_positive f.shape in
      let xs = f.indirect.slots.items in
      let back : k / (e * e) ≡ 2 + k / (e * e) - 2 = omega arith in
      ap (λ w. find_indirect e (entry_at xs (k / w)) (k % w)) (ap (λ z. e * z) (times_one e))
      ∙ two_steps e p (entry_at xs (k / (e * e))) (k % (e * e))
      ∙ ap (λ z. below (below (entry_at xs (k / (e * e))) z) ((k % (e * e)) % e)) (second k e p)
      ∙ ap (λ z. below (below (entry_at xs (k / (e * e))) ((k / e) % e)) z) (first k e p)
      ∙ ap (λ z. below (below (entry_at xs z) ((k / e) % e)) (k % e)) back

  double_is : k < node_entries f.shape * (node_entries f.shape * node_entries f.shape)
      → in_double f k
      ≡ at_path f (Double (k / (node_entries f.shape * node_entries f.shape)) ((k / node_entries f.shape) % node_entries f.shape) (k % node_entries f.shape))
  double_is h =
      let e = node_entries f.shape in
      let xs = f.double.slots.items in
      ap (λ w. find_double e (entry_at xs (k / w)) (k % w)) (ap (λ z. e * (e * z)) (times_one e))
      ∙ ap (λ z. find_double e (entry_at xs z) (k % (e * (e * e)))) (div-eq_of_lt h)
      ∙ ap (λ z. find_double e (entry_at xs 0) z) (mod-eq_of_lt h)
      ∙ three_steps e (entries_positive f.shape) (entry_at xs 0) k

module _ {B L : Type 0} (f : FileState B L) (i : ℕ) where
  pub path_is : i < largest_length f.shape → ticket_at f i ≡ ends_at f (path f.shape i)
  path_is h =
      let d = inode_entries f.shape in
      let e = node_entries f.shape in
      let rest2 = joined (2 * (e * e)) (in_indirect f) (in_double f) in
      let rest1 = joined (2 * e) (in_direct f) rest2 in
      let third : i - d - 2 * e ≡ i - (d + 2 * e) = omega arith in
      let fourth : i - d - 2 * e - 2 * (e * e) ≡ i - (d + 2 * e + 2 * (e * e)) = omega arith in
      elim (cases_lt i d) [
        | inl low ↦ at_first d (in_tickets f) rest1 i low ∙ tickets_is f i ∙ sym (ap (ends_at f) (path_1 d e i low))
        | inr past ↦ at_rest d (in_tickets f) rest1 i past ∙ elim (cases_lt i (d + 2 * e)) [
          | inl low ↦ at_first (2 * e) (in_direct f) rest2 (i - d) (omega arith) ∙ direct_is f (i - d) ∙ sym (ap (ends_at f) (path_2 d e i past low))
          | inr past ↦ at_rest (2 * e) (in_direct f) rest2 (i - d) (omega arith) ∙ elim (cases_lt i (d + 2 * e + 2 * (e * e))) [
            | inl low ↦ at_first (2 * (e * e)) (in_indirect f) (in_double f) (i - d - 2 * e) (omega arith)
                ∙ ap (in_indirect f) third ∙ indirect_is f (i - (d + 2 * e)) ∙ sym (ap (ends_at f) (path_3 d e i past low))
            | inr past ↦ at_rest (2 * (e * e)) (in_indirect f) (in_double f) (i - d - 2 * e) (omega arith)
                ∙ ap (in_double f) fourth ∙ double_is f (i - (d + 2 * e + 2 * (e * e))) (omega arith) ∙ sym (ap (ends_at f) (path_4 d e i past h))
          ]
        ]
      ]

-- An inode names its own entries and five places, and one range of them changes: what the range weighs more or less the
-- file does, and the inode is marked where a number in it changed.
use Rattle.std.proofs.Common.{◌≡◌, ℕ, ◌||◌, ◌++◌, Bool, true, false, map, refl, ap, ◌∙◌, arith}
use Rattle.geometry.specs.Path.{inode_entries, node_entries}
use Rattle.tickets.specs.Placed.{Placed}
use Rattle.nodes.specs.declared.branch.Branch.{Branch}
use Rattle.nodes.specs.declared.entries.Entries.{Entries}
use Rattle.nodes.specs.Tree.{ShapedIn, EmptyFrom}
use Rattle.nodes.specs.Change.{Weighing, ticket_weight, ChangesEntries}
use Rattle.nodes.specs.declared.file.FileState.{FileState}
use Rattle.nodes.specs.File.{IsFile, ticket_at, inode_of, address_of, nid_of, weight_direct, weight_indirect, weight_double, shaped_direct, shaped_indirect, shaped_double}
use Rattle.nodes.specs.Marks.{MarksNode, unchanged}

or_true : (a : Bool) → (a || true) ≡ true
or_true true = refl
or_true false = refl

second : (a b c : Bool) → b ≡ true → (a || (b || c)) ≡ true
second a b c e = ap (λ x. a || (x || c)) e ∙ or_true a

third : (a b c d : Bool) → c ≡ true → (a || (b || (c || d))) ≡ true
third a b c d e = ap (λ x. a || x) (second b c d e) ∙ or_true a

fourth : (a b c d x : Bool) → d ≡ true → (a || (b || (c || (d || x)))) ≡ true
fourth a b c d x e = ap (λ z. a || z) (third b c d x e) ∙ or_true a

fifth : (a b c d x : Bool) → x ≡ true → (a || (b || (c || (d || x)))) ≡ true
fifth a b c d x e =
    ap (λ z. a || (b || (c || (d || z)))) e ∙ (ap (λ z. a || (b || (c || z))) (or_true d)
    ∙ (ap (λ z. a || (b || z)) (or_true c) ∙ (ap (λ z. a || z) (or_true b) ∙ or_true a)))

module _ {B L : Type 0} (f : FileState B L) (out into : Weighing Placed → ℕ) where
  pub marks_tickets : (x : Entries Placed) → ChangesEntries address_of ticket_weight f.tickets.slots.items x.slots.items f.tickets.dirty x.dirty out into
      → MarksNode unchanged f (record f { tickets = x }) out into
  marks_tickets x change = record {
    own = change.own;
    trades = (change.trades.0, change.trades.1, λ w. (let h = change.trades.2 w in omega arith));
    kept = λ e. (let kept = change.kept e in λ k. record (inode_of f) {
      addresses = kept.0 k;
      dirty = f.resized || (kept.1 k || (f.direct.dirty || (f.indirect.dirty || f.double.dirty)));
    });
    marked = λ e. second f.resized x.dirty _ (change.marked e);
    token = refl;
  }

  pub marks_direct : (x : Entries (Branch Placed)) → ChangesEntries nid_of weight_direct f.direct.slots.items x.slots.items f.direct.dirty x.dirty out into
      → MarksNode unchanged f (record f { direct = x }) out into
  marks_direct x change = record {
    own = change.own;
    trades = (change.trades.0, change.trades.1, λ w. (let h = change.trades.2 w in omega arith));
    kept = λ e. (let kept = change.kept e in λ k. record (inode_of f) {
      children = kept.0 k ++ (map nid_of f.indirect.slots.items ++ map nid_of f.double.slots.items);
      dirty = f.resized || (f.tickets.dirty || (kept.1 k || (f.indirect.dirty || f.double.dirty)));
    });
    marked = λ e. third f.resized f.tickets.dirty x.dirty _ (change.marked e);
    token = refl;
  }

  pub marks_indirect : (x : Entries (Branch (Branch Placed))) → ChangesEntries nid_of weight_indirect f.indirect.slots.items x.slots.items f.indirect.dirty x.dirty out into
      → MarksNode unchanged f (record f { indirect = x }) out into
  marks_indirect x change = record {
    own = change.own;
    trades = (change.trades.0, change.trades.1, λ w. (let h = change.trades.2 w in omega arith));
    kept = λ e. (let kept = change.kept e in λ k. record (inode_of f) {
      children = map nid_of f.direct.slots.items ++ (kept.0 k ++ map nid_of f.double.slots.items);
      dirty = f.resized || (f.tickets.dirty || (f.direct.dirty || (kept.1 k || f.double.dirty)));
    });
    marked = λ e. fourth f.resized f.tickets.dirty f.direct.dirty x.dirty f.double.dirty (change.marked e);
    token = refl;
  }

  pub marks_double : (x : Entries (Branch (Branch (Branch Placed)))) → ChangesEntries nid_of weight_double f.double.slots.items x.slots.items f.double.dirty x.dirty out into
      → MarksNode unchanged f (record f { double = x }) out into
  marks_double x change = record {
    own = change.own;
    trades = (change.trades.0, change.trades.1, λ w. (let h = change.trades.2 w in omega arith));
    kept = λ e. (let kept = change.kept e in λ k. record (inode_of f) {
      children = map nid_of f.direct.slots.items ++ (map nid_of f.indirect.slots.items ++ kept.0 k);
      dirty = f.resized || (f.tickets.dirty || (f.direct.dirty || (f.indirect.dirty || kept.1 k)));
    });
    marked = λ e. fifth f.resized f.tickets.dirty f.direct.dirty f.indirect.dirty x.dirty (change.marked e);
    token = refl;
  }

-- a file is one still, where the entries of one range have their shape and nothing stands at or past the length
module _ {B L : Type 0} (f : FileState B L) (ok : IsFile f) where
  pub file_tickets : (x : Entries Placed) → ShapedIn (λ _. Unit {0}) (inode_entries f.shape) x.slots.items
      → EmptyFrom (ticket_at (record f { tickets = x })) f.length → IsFile (record f { tickets = x })
  file_tickets x shaped within = record { tickets = shaped; direct = ok.direct; indirect = ok.indirect; double = ok.double; within = within }

  pub file_direct : (x : Entries (Branch Placed)) → ShapedIn (shaped_direct (node_entries f.shape)) 2 x.slots.items
      → EmptyFrom (ticket_at (record f { direct = x })) f.length → IsFile (record f { direct = x })
  file_direct x shaped within = record { tickets = ok.tickets; direct = shaped; indirect = ok.indirect; double = ok.double; within = within }

  pub file_indirect : (x : Entries (Branch (Branch Placed))) → ShapedIn (shaped_indirect (node_entries f.shape)) 2 x.slots.items
      → EmptyFrom (ticket_at (record f { indirect = x })) f.length → IsFile (record f { indirect = x })
  file_indirect x shaped within = record { tickets = ok.tickets; direct = ok.direct; indirect = shaped; double = ok.double; within = within }

  pub file_double : (x : Entries (Branch (Branch (Branch Placed)))) → ShapedIn (shaped_double (node_entries f.shape)) 1 x.slots.items
      → EmptyFrom (ticket_at (record f { double = x })) f.length → IsFile (record f { double = x })
  file_double x shaped within = record { tickets = ok.tickets; direct = ok.direct; indirect = ok.indirect; double = shaped; within = within }

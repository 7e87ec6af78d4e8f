-- What was read are the first rows and the rest of the bytes; a row with one number and not the other is no entry's, so
-- with it the bytes are no rows at all.
use Rattle.std.proofs.Common.{◌≡◌, sym, ◌∙◌, ℕ, ◌^◌, ◌<◌, ◌∷◌, [], List, arith}
use Rattle.std.specs.Prelude.{◌↔◌}
use Rattle.image.specs.declared.image.NodeEntry.{NodeEntry}
use Rattle.image.specs.Node.{numbers}
use Rattle.image.specs.Pack.{entry_bytes}
use Rattle.pack_tables.specs.Grammar.{IsEntryRow}
use Rattle.pack_tables.proofs.Bytes.{pair_same}
use Rattle.pack_tables.proofs.Widths.{entry_long}
use Rattle.pack_tables.proofs.Fronts.{front_next, front_all, front_not}
use Rattle.pack_tables.proofs.rows.decode_entries.Goals as goal

-- one number without the other
no_entry : (row : List ℕ) (inode address : ℕ) → numbers (inode ∷ address ∷ []) ≡ row → inode < 2 ^ 32 → address < 2 ^ 32
    → (((inode ≡ 0) ↔ (address ≡ 0)) → ⊥) → (entry : NodeEntry) → IsEntryRow entry → entry_bytes entry ≡ row → ⊥
no_entry row inode address is low small apart entry fits same =
    let e = pair_same entry.inode entry.address inode address fits.0 fits.1 low small (same ∙ sym is) in
    apart ((λ z. sym e.1 ∙ fits.2.0 (e.0 ∙ z)), (λ z. sym e.0 ∙ fits.2.1 (e.1 ∙ z)))

pub loop-preserved : goal.loop-preserved
loop-preserved c =
    let pair = c.pair_of-inode.result in
    record {
      read = front_next entry_bytes IsEntryRow c.loop.counter c.args.bytes.now c.loop.rest.now c.split_at.result.0.now c.split_at.result.1.now
          c.loop.entries.items c.push.new.self.items (record { inode = pair.0; address = pair.1 })
          c.loop.invariant.read c.split_at.ensures.by_index.0 c.in_ok-push.ensures.items c.pair_of-inode.ensures.bytes
          (c.pair_of-inode.ensures.small.0, c.pair_of-inode.ensures.small.1, c.is_entry.ensures.0 c.if-not-is_entry.false);
      left = omega (arith, c.loop.invariant.left, c.split_at.ensures.back_len);
    }

pub returns : goal.returns
returns c =
    front_all entry_bytes IsEntryRow c.loop.counter c.args.count c.args.bytes.now c.loop.rest.now c.loop.entries.items c.loop.invariant.read
    (omega (arith, c.loop-test.false, c.loop.auto.counter-end)) (omega (arith, c.loop-test.false, c.loop.invariant.left))

pub returns-then-not-is_entry : goal.returns-then-not-is_entry
returns-then-not-is_entry c =
    let row = c.split_at.result.0.now in
    let pair = c.pair_of-inode.result in
    front_not entry_bytes IsEntryRow 8 entry_long (omega arith) row c.split_at.result.1.now c.split_at.ensures.front_len
    (no_entry row pair.0 pair.1 c.pair_of-inode.ensures.bytes c.pair_of-inode.ensures.small.0 c.pair_of-inode.ensures.small.1
    (λ whole. let other = c.if-not-is_entry.true in let is = c.is_entry.ensures.1 whole in cc))
    c.loop.counter c.args.count c.args.bytes.now c.loop.rest.now c.loop.entries.items c.loop.invariant.read c.split_at.ensures.by_index.0

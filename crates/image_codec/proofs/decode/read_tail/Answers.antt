use Rattle.std.proofs.Common.{◌≡◌, ℕ, length, take, drop, replicate, ◌-◌, ap, ◌∙◌, arith}
use Rattle.byteorder.specs.Endian.{little_number, IsRead}
use Rattle.image_codec.specs.Parts.{tail_of}
use Rattle.image_codec.proofs.PartLemmas.{tail_read, nid_of_tail, inode_of_tail, zeros_of_tail, zeros_there}
use Rattle.image_codec.proofs.decode.read_tail.Goals.{then-nid-eq0-via-then-nid-eq0, then-nid-eq0-via-else-nid-eq0+then-inode-eq0, then-nid-eq0-via-else-nid-eq0+else-inode-eq0+then-not-is_zero}
use Rattle.image_codec.proofs.decode.read_tail.Goals as goal

pub returns-clause-tail : goal.returns-clause-tail
returns-clause-tail c =
    tail_read c.args.bytes.now c.read_u32_into.new.dst (λ k. omega (arith, c.type_inv.bytes k)) c.requires c.read_u32_into.auto.dst
    c.read_u32_into.ensures (c.is_zero.ensures.0 c.if-not-is_zero.false)

pub returns-then-nid-eq0-clause-none : goal.returns-then-nid-eq0-clause-none
returns-then-nid-eq0-clause-none c nid inode class p q r s same =
    let few = c.read_u32_into.auto.dst in
    let read : IsRead little_number 4 (take 12 (tail_of nid inode class)) c.read_u32_into.new.dst
    = rw same at c.read_u32_into.ensures in
    let first = nid_of_tail c.read_u32_into.new.dst nid inode class few q read in
    let second = inode_of_tail c.read_u32_into.new.dst nid inode class few s read in
    elim c.then-nid-eq0.branch [
      | then-nid-eq0-via-then-nid-eq0 w ↦ let zero = w.if-nid-eq0.true in absurd (omega arith)
      | then-nid-eq0-via-else-nid-eq0+then-inode-eq0 w ↦ let zero = w.if-inode-eq0.true in absurd (omega arith)
      | then-nid-eq0-via-else-nid-eq0+else-inode-eq0+then-not-is_zero w ↦
          let twelve : 12 ≡ length c.args.bytes.now - 12 = omega (arith, c.requires) in
          let zeros = zeros_there 12 c.args.bytes.now
          (ap (drop 12) same ∙ zeros_of_tail nid inode class ∙ ap (λ (k : ℕ). replicate k 0) twelve) in
          let clash = w.if-not-is_zero.ensures.1 zeros in
          cc
    ]

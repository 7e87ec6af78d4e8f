-- Head and entries together are the front again, so where the head is read and the entries are numbers, the block
-- spells the inode of them; without a head it spells no node.
use Rattle.std.proofs.Common.{◌≡◌, ℕ, ◌*◌, List, ◌++◌, length, take, drop, append_assoc, sym, ◌∙◌, ap, subst, arith}
use Rattle.std.proofs.lemmas.List.{take-append-drop}
use Rattle.geometry.specs.Path.{inode_entries}
use Rattle.image.specs.Node.{numbers}
use Rattle.image.proofs.Shapes.{is_shape}
use Rattle.image.proofs.RoundTrip.{length-numbers}
use Rattle.image_codec.specs.Parts.{tail_of, SpellsNone}
use Rattle.image_codec.proofs.SpellingLemmas.{inode_spelled, none_of_head}
use Rattle.image_codec.proofs.decode.decode_inode.Goals as goal

pub returns-in_default : goal.returns-in_default
returns-in_default c =
    let head = c.split_at.result.0.now in
    let entries = c.split_at.result.1.now in
    let whole : head ++ entries ≡ c.args.front.now
    = ap (λ (h : List ℕ). h ++ entries) c.split_at.ensures.front ∙ ap (λ (e : List ℕ). take c.inode_head.result c.args.front.now ++ e) c.split_at.ensures.back
    ∙ take-append-drop c.inode_head.result c.args.front.now in
    let long = ap length whole in
    subst (λ (front : List ℕ). SpellsNone c.args.shape (front ++ tail_of c.args.tail.nid c.args.tail.inode c.args.tail.class)) whole
    (none_of_head c.args.shape head entries c.args.tail.nid c.args.tail.inode c.args.tail.class c.requires.class
    (c.split_at.ensures.front_len ∙ c.inode_head.ensures) (omega (arith, c.requires.len)) c.in_default.ensures.none)

pub returns : goal.returns
returns c =
    let front = c.args.front.now in
    let head = c.split_at.result.0.now in
    let entries = c.split_at.result.1.now in
    let first = c.in_ok-read_numbers.ensures in
    let second = c.in_ok-read_numbers-2.ensures in
    let addresses = c.in_ok-read_numbers.field-0.items in
    let children = c.in_ok-read_numbers-2.field-0.items in
    let middle = 4 * c.inode_entries.result in
    let parts : entries ≡ numbers addresses ++ numbers children
    = sym (take-append-drop middle entries)
    ∙ ap (λ (f : List ℕ). f ++ drop middle entries) (sym (first.bytes ∙ c.split_at-2.ensures.front))
    ∙ ap (λ (f : List ℕ). numbers addresses ++ f) (sym (second.bytes ∙ c.split_at-2.ensures.back)) in
    let whole : front ≡ head ++ numbers addresses ++ numbers children
    = sym (take-append-drop c.inode_head.result front)
    ∙ ap (λ (f : List ℕ). f ++ drop c.inode_head.result front) (sym c.split_at.ensures.front)
    ∙ ap (λ (f : List ℕ). head ++ f) (sym c.split_at.ensures.back ∙ parts)
    ∙ sym (append_assoc head (numbers addresses) (numbers children)) in
    let is = is_shape c.args.shape in
    let four = length-numbers addresses in
    let four_more = length-numbers children in
    let many : length addresses ≡ inode_entries c.args.shape
    = omega (arith, ap length first.bytes, c.split_at-2.ensures.front_len, c.inode_entries.ensures) in
    let five : length children ≡ 5
    = omega (arith, ap length second.bytes, c.split_at-2.ensures.back_len, c.split_at.ensures.back_len, c.inode_entries.ensures, c.inode_head.ensures, c.requires.len, is.inode) in
    rw c.requires.class
    (inode_spelled c.args.shape front head c.in-Some.head.length c.in-Some.head.kind addresses children c.args.tail.nid c.args.tail.inode
    c.requires.numbers.0 (omega arith) c.requires.numbers.1 (omega arith) (omega arith) whole
    (c.split_at.ensures.front_len ∙ c.inode_head.ensures) c.in-Some.ensures.head first.fit many second.fit five)

use Rattle.std.proofs.Common.{arith}
use Rattle.image_codec.proofs.SpellingLemmas.{direct_spelled, indirect_spelled, none_of_class}
use Rattle.image_codec.proofs.decode.decode_front.Goals as goal

pub returns-in_ok-read_numbers-in-1 : goal.returns-in_ok-read_numbers-in-1
returns-in_ok-read_numbers-in-1 c =
    let read = c.in_ok-read_numbers-in-1.ensures in
    rw (c.in-1.is, c.new.ensures.items)
    (direct_spelled c.args.shape c.args.front.now c.in_ok-read_numbers-in-1.field-0.items c.args.tail.nid c.args.tail.inode
    c.requires.numbers.0 (omega arith) c.requires.numbers.1 (omega arith) c.requires.len read.fit read.bytes)

pub returns-in_ok-read_numbers-in-2 : goal.returns-in_ok-read_numbers-in-2
returns-in_ok-read_numbers-in-2 c =
    let read = c.in_ok-read_numbers-in-2.ensures in
    rw (c.in-2.is, c.new-in-2.ensures.items)
    (indirect_spelled c.args.shape c.args.front.now c.in_ok-read_numbers-in-2.field-0.items c.args.tail.nid c.args.tail.inode
    c.requires.numbers.0 (omega arith) c.requires.numbers.1 (omega arith) c.requires.len read.fit read.bytes)

pub returns-in_default : goal.returns-in_default
returns-in_default c =
    none_of_class c.args.shape c.args.front.now c.args.tail.nid c.args.tail.inode c.args.tail.class (omega arith) c.requires.len (omega arith)

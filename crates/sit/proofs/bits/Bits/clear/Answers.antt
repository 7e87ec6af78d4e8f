use Rattle.std.proofs.Common.{◌%◌, arith}
use Rattle.sit.proofs.BitLemmas.{turns_clear, turned, inside_of}
use Rattle.sit.proofs.bits.Bits.clear.Goals as goal

pub index_mut-requires : goal.index_mut-requires
index_mut-requires c = let word = (inside_of c.self.inside.words.items c.self.inside.len c.args.offset c.args.self.now c.self.view_is c.self.invariant.enough c.requires).word in omega arith

pub invariant_of-self : goal.invariant_of-self
invariant_of-self c =
    (turned c.self.inside.words.items c.self.inside.len c.args.offset c.index_mut.result.now c.args.self.now c.self.view_is c.self.invariant c.requires c.index_mut.ensures.value 0 _
    (turns_clear c.index_mut.result.now (c.args.offset % 64))).0

pub returns : goal.returns
returns c =
    (turned c.self.inside.words.items c.self.inside.len c.args.offset c.index_mut.result.now c.args.self.now c.self.view_is c.self.invariant c.requires c.index_mut.ensures.value 0 _
    (turns_clear c.index_mut.result.now (c.args.offset % 64))).1

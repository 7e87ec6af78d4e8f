use Rattle.std.proofs.Common.{sym, subst}
use Rattle.nodes_walks.proofs.Walks.{node_is}
use Rattle.nodes_walks.proofs.marked_entries.write_branch.Goals as goal

pub write_node-requires : goal.write_node-requires
write_node-requires g c =
    let token = c.args.branch.now.token in
    let is = node_is token _ _ _ _ _ (c.block_of-block.ensures token) c.is_leaf.ensures c.spell_entries.ensures in
    subst (g.W.NodeWriter.ready c.args.writer.now) (sym is) c.requires.ready

pub returns-in-Ok-clause-wrote : goal.returns-in-Ok-clause-wrote
returns-in-Ok-clause-wrote g c =
    let token = c.args.branch.now.token in
    let is = node_is token _ _ _ _ _ (c.block_of-block.ensures token) c.is_leaf.ensures c.spell_entries.ensures in
    subst (λ n. g.W.NodeWriter.wrote c.args.writer.now n c.write_node.new.token c.write_node.new.self) is c.in-Ok.ensures.wrote

pub returns-in-Err-clause-refused : goal.returns-in-Err-clause-refused
returns-in-Err-clause-refused g c =
    let token = c.args.branch.now.token in
    let is = node_is token _ _ _ _ _ (c.block_of-block.ensures token) c.is_leaf.ensures c.spell_entries.ensures in
    subst (λ n. g.W.NodeWriter.refused c.args.writer.now n c.in-Err.error c.write_node.new.self) is c.in-Err.ensures.refused

use Rattle.tickets.proofs.node.give_block.Given as goal

abbrev pub ghosts-swap_as : goal.ghosts-swap_as
ghosts-swap_as g a = record { bytes = g.B.Block.content_of a._block.now }

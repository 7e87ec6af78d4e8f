use Rattle.std.proofs.Common.{◌≡◌, refl, arith}
use Rattle.geometry.specs.Weights.{weigh}
use Rattle.nodes.specs.Tree.{entry_at}
use Rattle.nodes.specs.Change.{ticket_weight, each_naming}
use Rattle.nodes.specs.Laws.{weightless}
use Rattle.nodes.proofs.Changes.{weigh_zero}
use Rattle.nodes.specs.Places.{OfDirect, OfIndirect, OfDouble}
use Rattle.nodes.proofs.Placing.{swapped}
use Rattle.nodes.proofs.file.FileState.migrate_below.Goals as goal

pub returns-in-Ok-clause-swaps : goal.returns-in-Ok-clause-swaps
returns-in-Ok-clause-swaps g c =
    let done = c.in-Ok.ensures in
    swapped c.args.self.now c.requires.file OfDirect c.migrate.new.self (rw c.node_entries-entries.ensures at done.shaped) c.in-Ok.before c.args.ticket (simp (c.node_entries-entries.ensures) at done.swaps) (rw c.node_entries-entries.ensures at done.namer) (rw c.node_entries-entries.ensures at done.useful) done.change

pub returns-in-Ok-migrate-clause-swaps : goal.returns-in-Ok-migrate-clause-swaps
returns-in-Ok-migrate-clause-swaps g c =
    let done = c.in-Ok-migrate.ensures in
    rw (c.in-Err.ensures.refused) (swapped c.args.self.now c.requires.file OfIndirect c.migrate-2.new.self (rw c.node_entries-entries.ensures at done.shaped) c.in-Ok-migrate.before c.args.ticket (simp (c.node_entries-entries.ensures, c.in-Err.ensures.back) at done.swaps) (rw c.node_entries-entries.ensures at done.namer) (rw c.node_entries-entries.ensures at done.useful) (rw (c.in-Err.ensures.back) at done.change))

pub returns-in-Ok-migrate-2-clause-swaps : goal.returns-in-Ok-migrate-2-clause-swaps
returns-in-Ok-migrate-2-clause-swaps g c =
    let done = c.in-Ok-migrate-2.ensures in
    rw (c.in-Err.ensures.refused, c.in-Err-migrate.ensures.refused) (swapped c.args.self.now c.requires.file OfDouble c.migrate-3.new.self (rw c.node_entries-entries.ensures at done.shaped) c.in-Ok-migrate-2.before c.args.ticket (simp (c.node_entries-entries.ensures, c.in-Err-migrate.ensures.back, c.in-Err.ensures.back) at done.swaps) (rw c.node_entries-entries.ensures at done.namer) (rw c.node_entries-entries.ensures at done.useful) (rw (c.in-Err-migrate.ensures.back, c.in-Err.ensures.back) at done.change))

pub returns-in-Err-migrate-2-clause-elsewhere : goal.returns-in-Err-migrate-2-clause-elsewhere
returns-in-Err-migrate-2-clause-elsewhere g c =
    let xs = c.args.self.now.tickets.slots.items in
    let w = each_naming c.args.nid c.args.at c.args.from in
    let tickets : weigh (ticket_weight w) xs ≡ 0 = weigh_zero (ticket_weight w) xs (λ k h. weightless w (entry_at xs k) (λ t. refl)) in
    let direct = c.in-Err.ensures.elsewhere in
    let indirect = c.in-Err-migrate.ensures.elsewhere in
    let double = c.in-Err-migrate-2.ensures.elsewhere in
    omega arith

pub migrate-requires-3-clause-shaped : goal.migrate-requires-3-clause-shaped
migrate-requires-3-clause-shaped g c = rw c.node_entries-entries.ensures c.requires.file.double

pub migrate-requires-2-clause-shaped : goal.migrate-requires-2-clause-shaped
migrate-requires-2-clause-shaped g c = rw c.node_entries-entries.ensures c.requires.file.indirect

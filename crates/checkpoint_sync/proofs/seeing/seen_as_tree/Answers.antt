use Rattle.std.proofs.Common.{refl, subst, ◌≤◌}
use Rattle.geometry.specs.Path.{largest_length}
use Rattle.checkpoint_sync.proofs.Stored.{stored_is}
use Rattle.checkpoint_sync.proofs.Slots.{ticket_is}
use Rattle.checkpoint_sync.proofs.TreeHeld.{tokens_weigh, tickets_weigh}
use Rattle.checkpoint_sync.proofs.Owned.{owns_tickets}
use Rattle.checkpoint_sync.proofs.FileLaws.{file_keeps_law, spelled_in}
use Rattle.checkpoint_sync.proofs.Contents.{content_is, is_state_of}
use Rattle.checkpoint_sync.proofs.seeing.seen_as_tree.Goals as goal

pub returns-clause-nodes : goal.returns-clause-nodes
returns-clause-nodes g c = stored_is c.args.file.now c.requires.file

pub returns-clause-slots : goal.returns-clause-slots
returns-clause-slots g c = ticket_is c.args.file.now c.requires.file c.requires.short

pub returns-clause-tokens : goal.returns-clause-tokens
returns-clause-tokens g c = λ files tokens. tokens_weigh c.args.file.now files c.requires.file tokens

pub returns-clause-tickets : goal.returns-clause-tickets
returns-clause-tickets g c = λ named placed h. tickets_weigh h c.args.file.now (owns_tickets c.args.file.now c.requires.file named placed) c.requires.file

pub returns-clause-law : goal.returns-clause-law
returns-clause-law g c = λ geometry shape tokens written.
    file_keeps_law c.args.file.now c.requires.file geometry c.args.file.now.token.number shape refl
    (subst (λ s. c.args.file.now.length ≤ largest_length s) shape c.requires.short) tokens written

pub returns-clause-content : goal.returns-clause-content
returns-clause-content g c = λ blocks held. content_is c.args.file.now c.requires.file c.requires.short blocks held

pub returns-clause-spelled : goal.returns-clause-spelled
returns-clause-spelled g c = λ blocks spelled clean hold. spelled_in c.args.file.now c.requires.file blocks spelled clean hold

pub returns-clause-image : goal.returns-clause-image
returns-clause-image g c = λ image held. is_state_of c.args.file.now c.requires.file c.requires.short image held

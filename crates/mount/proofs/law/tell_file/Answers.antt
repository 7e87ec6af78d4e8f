-- A lawful image tells that the inode's tree fits and how long it is, and the loaded file is that tree with the stock's
-- tickets and tokens: so the laws of a file hold of it.
use Rattle.std.proofs.Common.{◌≢◌, ℕ, ◌<◌, ◌≤◌, sym, ap, subst, ◌∙◌}
use Rattle.geometry.specs.Path.{largest_length}
use Rattle.geometry.specs.Shape.{block_bytes}
use Rattle.image.specs.Files.{data_address}
use Rattle.image.specs.View.{image_view}
use Rattle.mount.proofs.Sums.{file_counted}
use Rattle.mount.proofs.Nodes.{length_within}
use Rattle.mount.proofs.Laws.{all_numbered, state_law, ticket_bytes, ticket_whole}
use Rattle.mount.proofs.law.tell_file.Goals as goal

pub tell_loaded-requires-clause-lengths : goal.tell_loaded-requires-clause-lengths
tell_loaded-requires-clause-lengths g c =
    let image = image_view c.args.image.now in
    let loaded = c.requires.loaded in
    subst (λ s. (index : ℕ) → data_address s image c.args.inode index ≢ 0 → index < c.args.file.now.length) (sym loaded.shape_is)
    (subst (λ n. (index : ℕ) → data_address c.args.geometry.now.shape image c.args.inode index ≢ 0 → index < n) (sym loaded.length_is) c.tell_lawful.ensures.lengths)

pub returns-clause-short : goal.returns-clause-short
returns-clause-short g c =
    let geometry = c.args.geometry.now in
    let file = c.args.file.now in
    let loaded = c.requires.loaded in
    let within = length_within geometry (image_view c.args.image.now) c.requires.lawful c.requires.blocks.0 c.args.stock.now.all c.requires.blocks.2 c.args.inode file.token loaded.token in
    subst (λ s. file.length ≤ largest_length s) (sym loaded.shape_is) (subst (λ n. n ≤ largest_length geometry.shape) (sym loaded.length_is) within)

pub returns-clause-counted : goal.returns-clause-counted
returns-clause-counted g c = file_counted c.args.file.now c.tell_loaded.ensures.file (returns-clause-short g c)

pub returns-clause-numbered : goal.returns-clause-numbered
returns-clause-numbered g c =
    all_numbered c.args.geometry.now (image_view c.args.image.now) c.requires.lawful c.requires.blocks.0 c.args.stock.now.all c.requires.blocks.2 c.requires.blocks.1 c.args.inode c.args.file.now c.requires.loaded c.tell_lawful.ensures.fits

pub returns-clause-law : goal.returns-clause-law
returns-clause-law g c =
    state_law c.args.geometry.now (image_view c.args.image.now) c.requires.lawful c.requires.blocks.0 c.args.stock.now.all c.requires.blocks.2 c.requires.blocks.1 c.args.inode c.args.file.now c.requires.loaded c.tell_lawful.ensures.fits c.requires.loaded.shape_is

pub returns-clause-whole : goal.returns-clause-whole
returns-clause-whole g c = λ index t at.
    let there = c.tell_loaded.ensures.contents index t at in
    ticket_whole c.args.geometry.now (image_view c.args.image.now) c.requires.blocks.0 c.args.stock.now.all c.requires.blocks.2 c.requires.blocks.1 t.mark.address t there.0 there.1 ∙ ap block_bytes (sym c.requires.loaded.shape_is)

pub returns-clause-contents : goal.returns-clause-contents
returns-clause-contents g c = λ bytes are index t at.
    let there = c.tell_loaded.ensures.contents index t at in
    (there.0, ticket_bytes c.args.geometry.now (image_view c.args.image.now) bytes c.args.stock.now.all are t.mark.address t there.1)

use Rattle.image.specs.View.{image_view}
use Rattle.mount_blocks.proofs.Whole.{loaded_slots, loaded_named, loaded_contents, loaded_file, loaded_clean}
use Rattle.mount_blocks.proofs.law.tell_loaded.Goals as goal

pub returns-clause-file : goal.returns-clause-file
returns-clause-file g c = loaded_file (image_view c.args.image.now) c.args.stock.now.all c.args.inode c.args.file.now c.requires.loaded c.requires.fits c.requires.lengths

pub returns-clause-slots : goal.returns-clause-slots
returns-clause-slots g c = loaded_slots (image_view c.args.image.now) c.args.stock.now.all c.args.inode c.args.file.now c.requires.loaded

pub returns-clause-named : goal.returns-clause-named
returns-clause-named g c = loaded_named (image_view c.args.image.now) c.args.stock.now.all c.args.inode c.args.file.now c.requires.loaded

pub returns-clause-contents : goal.returns-clause-contents
returns-clause-contents g c = loaded_contents (image_view c.args.image.now) c.args.stock.now.all c.args.inode c.args.file.now c.requires.loaded

pub returns-clause-clean : goal.returns-clause-clean
returns-clause-clean g c = loaded_clean (image_view c.args.image.now) c.args.stock.now.all c.args.inode c.args.file.now c.requires.loaded

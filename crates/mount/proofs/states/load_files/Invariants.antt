use Rattle.std.proofs.Common.{◌≡◌, ℕ, ◌+◌, ◌<◌, None, get_or}
use Rattle.rights_books.specs.declared.claim.TakenNumber.{TakenNumber}
use Rattle.geometry.specs.declared.owner.Mark.{Mark}
use Rattle.image.specs.View.{image_view}
use Rattle.image.specs.Walk.{names}
use Rattle.mount_blocks.specs.TreeGoods.{goods_weight, marks_weight, in_place}
use Rattle.mount_blocks.specs.Loaded.{of_rights}
use Rattle.nodes.specs.File.{weight_of}
use Rattle.geometry.specs.Weights.{weigh}
use Rattle.tickets.specs.Placed.{Placed}
use Rattle.mount_blocks.specs.FileLoaded.{IsFileRoom, IsLoadedFile}
use Rattle.mount.specs.MountFiles.{AreOfFiles, StandsFor}
use Rattle.mount.proofs.Standing.{AreUpTo}
use Rattle.mount.proofs.Walks.{walks_to}
use Rattle.mount.proofs.states.load_files.Given as goal

abbrev pub invariant-loop-before : goal.invariant-loop-before
invariant-loop-before g l = record {
  of_files : AreOfFiles l.rooms.items;
  rooms : (inode : ℕ) → l.before < inode → StandsFor l.geometry (image_view l.image) (λ i room. IsFileRoom (image_view l.image) i room) inode (get_or l.rooms.items inode None);
  files : AreUpTo l.geometry (image_view l.image) (λ i file. IsLoadedFile (image_view l.image) l.geometry.shape l.fn.stock.all i file) l.files.items l.before;
  all : l.stock.all ≡ l.fn.stock.all;
  marks : (h : Mark → ℕ) → marks_weight (λ (t : Placed). t.mark) h l.stock + weigh h (walks_to (image_view l.image) l.before) ≡ weigh h (names l.geometry (image_view l.image));
  trades : (ticket : Placed → ℕ) (token : TakenNumber → ℕ) → goods_weight ticket token l.stock + weigh (in_place (λ file. weight_of file (of_rights ticket token))) l.files.items ≡ goods_weight ticket token l.fn.stock;
}

-- What a checkpoint pack spells of a shard (Linux filesystems/f2fs, node address table).
use Rattle.std.specs.Prelude.{List, [], map}
use Rattle.rights_books.specs.declared.claim.TakenNumber.{TakenNumber}
use Rattle.rights_books.specs.declared.row_claim.NodeRow.{NodeRow}
use Rattle.rights_books.specs.declared.row_claim.Row.{Row}

-- a taken number, its inode and its node's address
abbrev pub node_row : TakenNumber → NodeRow
node_row e = record { number = e.number; inode = e.inode; address = e.address }

abbrev pub shard_row : List TakenNumber → Row
shard_row taken = record { mtime = 0; owners = []; nodes = map node_row taken }

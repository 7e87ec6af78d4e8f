-- Where a file's block stands in its index tree (Linux filesystems/f2fs, index structure; how many entries a node has is this project's own).
use Rattle.std.specs.Prelude.{ℕ, ◌+◌, ◌-◌, ◌*◌, ◌/◌, ◌%◌, Option, Some, None, nat_lt, if◌then◌else◌}
use Rattle.geometry.specs.declared.shape.Shape.{Shape}
use Rattle.geometry.specs.declared.path.Path.{Path}
use Rattle.geometry.specs.declared.path.Path.TheVariants.{Inode, Direct, Indirect, Double}
use Rattle.geometry.specs.Shape.{block_bytes, inode_head}

-- the bytes at the end of a node that say which node it is
abbrev pub node_tail : ℕ
node_tail = 24

-- the entries of a direct or an indirect node, of four bytes each
abbrev pub node_entries : Shape → ℕ
node_entries shape = (block_bytes shape - node_tail) / 4

-- the data addresses of an inode: what its head, its five node numbers and its tail leave
abbrev pub inode_entries : Shape → ℕ
inode_entries shape = (block_bytes shape - node_tail - inode_head shape) / 4 - 5

-- in blocks: what an inode, two direct nodes, two indirect nodes and one double indirect node reach
abbrev pub largest_length : Shape → ℕ
largest_length shape =
    let e = node_entries shape in
    inode_entries shape + 2 * e + 2 * (e * e) + e * e * e

-- first the inode's own addresses, then its direct nodes (pointers 0 and 1), its indirect nodes (2 and 3), and its double indirect node (4)
abbrev pub path : Shape → ℕ → Option Path
path shape index =
    let d = inode_entries shape in
    let e = node_entries shape in
    if nat_lt index d then Some (Inode index)
    else if nat_lt index (d + 2 * e) then
    (let k = index - d in Some (Direct (k / e) (k % e)))
    else if nat_lt index (d + 2 * e + 2 * (e * e)) then
    (let k = index - (d + 2 * e) in Some (Indirect (2 + k / (e * e)) (k / e % e) (k % e)))
    else if nat_lt index (largest_length shape) then
    (let k = index - (d + 2 * e + 2 * (e * e)) in Some (Double (k / (e * e)) (k / e % e) (k % e)))
    else None

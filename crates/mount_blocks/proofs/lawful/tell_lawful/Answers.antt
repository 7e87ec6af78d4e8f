use Rattle.std.proofs.Common.{◌≡◌, ◌≢◌, ◌<◌, ℕ, [], sym, ◌∙◌, arith}
use Rattle.image.specs.Image.{node_of}
use Rattle.image.specs.Walk.{inodes, misfits}
use Rattle.image.specs.Files.{data_address}
use Rattle.image.specs.View.{image_view}
use Rattle.mount_blocks.proofs.Fitting.{all_at, inode_listed, file_fits, file_is_walk}
use Rattle.mount_blocks.proofs.lawful.tell_lawful.Goals as goal

pub returns-clause-fits : goal.returns-clause-fits
returns-clause-fits c =
    let geometry = c.args.geometry.now in
    let image = image_view c.args.image.now in
    let inode = c.args.inode in
    let listed = inode_listed image geometry.files inode c.requires.inode.0 c.requires.inode.1 c.requires.taken in
    let fit = all_at (λ i. misfits image i ≡ []) (inodes geometry image) inode (c.requires.lawful 4 (omega arith) (omega arith)) listed in
    let within = geometry.limits.inodes in
    let node = c.requires.lawful 3 (omega arith) (omega arith) inode (omega arith) c.requires.taken in
    let low = node.low c.requires.inode.1 in
    file_fits geometry image (c.requires.lawful 1 (omega arith) (omega arith)) inode fit (omega arith) low.0 (sym node.belongs ∙ low.1)

pub returns-clause-names : goal.returns-clause-names
returns-clause-names c =
    let geometry = c.args.geometry.now in
    let image = image_view c.args.image.now in
    let inode = c.args.inode in
    let listed = inode_listed image geometry.files inode c.requires.inode.0 c.requires.inode.1 c.requires.taken in
    let fit = all_at (λ i. misfits image i ≡ []) (inodes geometry image) inode (c.requires.lawful 4 (omega arith) (omega arith)) listed in
    file_is_walk geometry image (c.requires.lawful 1 (omega arith) (omega arith)) inode fit

pub returns-clause-lengths : goal.returns-clause-lengths
returns-clause-lengths c =
    let geometry = c.args.geometry.now in
    let image = image_view c.args.image.now in
    let inode = c.args.inode in
    let listed = inode_listed image geometry.files inode c.requires.inode.0 c.requires.inode.1 c.requires.taken in
    let agree = c.requires.lawful 10 (omega arith) (omega arith) in
    all_at (λ i. (index : ℕ) → data_address geometry.shape image i index ≢ 0 → index < (node_of image i).length) (inodes geometry image) inode agree.lengths listed

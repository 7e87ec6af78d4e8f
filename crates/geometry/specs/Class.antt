-- The number that stands for a class in a node's block (Linux filesystems/f2fs, node footer; the numbers are this project's own).
use Rattle.std.specs.Prelude.{ℕ}
use Rattle.geometry.specs.declared.class.Class.{Class}
use Rattle.geometry.specs.declared.class.Class.TheVariants.{Data, Inode, Direct, Indirect}

-- a block of data is no node
abbrev pub class_code : Class → ℕ
class_code Inode = 0
class_code Direct = 1
class_code Indirect = 2
class_code Data = 3

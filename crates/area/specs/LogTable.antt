-- Which log a block goes to (Lee and others, "F2FS: A New File System for Flash Storage", FAST 2015: multi-head logging). The table is this project's own profile of the six logs: inodes go with direct nodes, and a node that cleaning has moved stays in the log of its class.
use Rattle.std.specs.Prelude.{ℕ, Bool, true, false}
use Rattle.geometry.specs.declared.kind.Kind.{Kind}
use Rattle.geometry.specs.declared.kind.Kind.TheVariants.{File, Dir, Media}
use Rattle.geometry.specs.declared.class.Class.{Class}
use Rattle.geometry.specs.declared.class.Class.TheVariants.{Data, Inode, Direct, Indirect}
use Rattle.area.specs.declared.log.Log.{Log}
use Rattle.area.specs.declared.log.Log.TheVariants.{HotNode, WarmNode, ColdNode, HotData, WarmData, ColdData}

-- for data, which cleaning has moved or not
abbrev pub data_log_of : Kind → Bool → Log
data_log_of Dir false = HotData
data_log_of File false = WarmData
data_log_of Media false = ColdData
data_log_of kind true = ColdData

-- for direct nodes and inodes
abbrev pub direct_log_of : Kind → Log
direct_log_of Dir = HotNode
direct_log_of File = WarmNode
direct_log_of Media = WarmNode

abbrev pub log_of : Kind → Class → Bool → Log
log_of kind Data migrated = data_log_of kind migrated
log_of kind Inode migrated = direct_log_of kind
log_of kind Direct migrated = direct_log_of kind
log_of kind Indirect migrated = ColdNode

abbrev pub log_number : Log → ℕ
log_number HotNode = 0
log_number WarmNode = 1
log_number ColdNode = 2
log_number HotData = 3
log_number WarmData = 4
log_number ColdData = 5

abbrev pub is_data_log : Log → Bool
is_data_log HotNode = false
is_data_log WarmNode = false
is_data_log ColdNode = false
is_data_log HotData = true
is_data_log WarmData = true
is_data_log ColdData = true

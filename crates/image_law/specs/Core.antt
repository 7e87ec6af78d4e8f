-- The core machine: a volume without threads, over a disk that keeps nothing for certain until it is synced (Rosenblum
-- and Ousterhout 1991, a log and checkpoints; Lee and others, FAST 2015, two packs in turn).
use Rattle.geometry.specs.Version.{next_version}
pub use Rattle.geometry.specs.Blocks.{changed}
use Rattle.geometry.specs.declared.owner.Owner.{Owner}
use Rattle.geometry.specs.declared.owner.Summary.{Summary}
use Rattle.geometry.specs.Summary.{summary_of, owner_in}
use Rattle.image.specs.declared.image.LogHead.{LogHead}
use Rattle.std.specs.Prelude.{◌≡◌, ◌<◌, ℕ, zero, suc, ◌+◌, ◌-◌, ◌%◌, Bool, true, false, IsTrue, ◌==◌, nat_lt, if◌then◌else◌, List, [], ◌∷◌, Option, Some, None, IsSome, map, slice_index_or, unwrap_or}
use Rattle.geometry.specs.declared.shape.Shape.{Shape}
use Rattle.geometry.specs.declared.geometry.Geometry.{Geometry}
use Rattle.std.specs.List.{range_with_len}
use Rattle.geometry.specs.Address.{address_of, segment_of, offset_of}
use Rattle.geometry.specs.File.{Block}
use Rattle.image.specs.Image.{Image, is_marked, summary_at, info_of}
use Rattle.image.specs.Rules.{IsLawful}
use Rattle.image.specs.Reading.{image_in}
use Rattle.image.specs.Slots.{Slot, version_of, picked_slot}
use Rattle.geometry.specs.declared.state.State.TheVariants.{Free, Open, Sealed, Prefree}
use Rattle.geometry.specs.Life.{Stage, LifeStep}
use Rattle.geometry.specs.Segment.{Fill, named, filled, vacated, fill_after, IsVacant, IsHole}
use Rattle.geometry.specs.Shape.{segment_blocks}

-- Where a segment is in its life, and how it is filled.
pub record Segment : Type 0 where
  pub stage : Stage
  pub fill : Fill

-- A pack body, and the blocks as they were when it was written.
pub record Written : Type 0 where
  pub body : List ℕ
  pub blocks : ℕ → Block

-- How far a pack write has come, or the mending of a torn footer after a crash. Between two of these only a crash
-- may fall.
pub data Phase : Type 0 where
  idle : Phase
  body_written : Phase
  body_synced : Phase
  footer_written : Phase
  footer_synced : Phase
  mending : Phase

-- The blocks by their addresses, the segments by their numbers, the packs, and what is known of them.
pub record Core : Type 0 where
  pub blocks : ℕ → Block
  -- the addresses written since the last sync
  pub loose : ℕ → Bool
  pub segments : ℕ → Segment
  -- the version of the last completed pack
  pub version : ℕ
  -- slot 0 and slot 1
  pub slots : ℕ → Slot
  pub phase : Phase
  -- what has ever been written as a pack's body, the latest first
  pub written : List Written

-- what a crash leaves on the disk
pub record Left : Type 0 where
  pub blocks : ℕ → Block
  pub slots : ℕ → Slot

-- Where a block is appended: at the next place of an open segment, or in a hole of a sealed one.
pub data Target : Type 0 where
  next_in : (segment : ℕ) → Target
  hole_at : (segment offset : ℕ) → Target

-- What may happen: a block is appended, or the append fails; a block is released, or moved by cleaning; a segment goes on in its life; a pack is written, by a body, a sync, a footer, a sync, after which
-- its version is the completed one; or the machine crashes and is mounted again.
pub data Event : Type 0 where
  append : (target : Target) (owner : Owner) (block : Block) → Event
  spoil : (target : Target) (block : Block) → Event
  release : (address : ℕ) → Event
  migrate : (address : ℕ) (target : Target) → Event
  move : (segment : ℕ) (stage : Stage) → Event
  write_body : (body : List ℕ) → Event
  sync : Event
  write_footer : Event
  advance : Event
  crash : (left : Left) → Event

-- the slot of the last completed pack, and the one that the next pack goes into
abbrev pub current : ℕ → ℕ
current version = version % 2

abbrev pub other : ℕ → ℕ
other slot = 1 - slot

-- who names the block at an address: nobody, where it is not marked
abbrev pub owner_at : Shape → (ℕ → Segment) → ℕ → Option Owner
owner_at shape segments address =
    if address == 0 then None
    else slice_index_or (segments (segment_of shape address)).fill.owners (offset_of shape address) None

-- the image of the last completed pack, over the blocks as they are
abbrev pub completed_image : Geometry → Core → Image
completed_image geometry machine = image_in geometry (machine.slots (current machine.version)).body machine.blocks

-- the segment of a target, and the place in it
abbrev pub segment_at : Target → ℕ
segment_at (next_in segment) = segment
segment_at (hole_at segment offset) = segment

abbrev pub place_at : Core → Target → ℕ
place_at machine (next_in segment) = (machine.segments segment).fill.next
place_at machine (hole_at segment offset) = offset

abbrev pub target_address : Shape → Core → Target → ℕ
target_address shape machine target = address_of shape (segment_at target) (place_at machine target)

-- one segment is filled in another way
abbrev pub refilled : (ℕ → Segment) → ℕ → Fill → (ℕ → Segment)
refilled segments segment fill = changed segments segment (record { stage = (segments segment).stage; fill = fill })

-- how the segment of a target is filled once an owner names the block there
abbrev pub fill_at : Core → Target → Owner → Fill
fill_at machine (next_in segment) owner = filled owner (machine.segments segment).fill
fill_at machine (hole_at segment offset) owner = named offset owner (machine.segments segment).fill

-- an open segment has a next place
pub record HasRoom (geometry : Geometry) (machine : Core) (segment : ℕ) : Type 0 where
  pub phase : machine.phase ≡ idle
  pub range : segment < geometry.segments
  pub state : (machine.segments segment).stage.state ≡ Open
  pub room : (machine.segments segment).fill.next < segment_blocks geometry.shape

-- a sealed segment has a hole at a place: the image of the last completed pack does not mark it
pub record HasHole (geometry : Geometry) (machine : Core) (segment offset : ℕ) : Type 0 where
  pub phase : machine.phase ≡ idle
  pub range : segment < geometry.segments
  pub state : (machine.segments segment).stage.state ≡ Sealed
  pub within : offset < segment_blocks geometry.shape
  pub hole : IsHole (machine.segments segment).fill (is_marked geometry (completed_image geometry machine) (address_of geometry.shape segment offset)) offset

-- a block may be appended there
abbrev pub MayAppend : Geometry → Core → Target → Type 0
MayAppend geometry machine (next_in segment) = HasRoom geometry machine segment
MayAppend geometry machine (hole_at segment offset) = HasHole geometry machine segment offset

abbrev pub appended : Shape → Core → Target → Owner → Block → Core
appended shape machine target owner block =
    let address = target_address shape machine target in
    record machine {
      blocks = changed machine.blocks address block;
      loose = changed machine.loose address true;
      segments = refilled machine.segments (segment_at target) (fill_at machine target owner);
    }

-- an append that failed: the block holds any bytes, and nothing is marked
abbrev pub spoiled : Shape → Core → Target → Block → Core
spoiled shape machine target block =
    let address = target_address shape machine target in
    record machine { blocks = changed machine.blocks address block; loose = changed machine.loose address true }

abbrev pub released : Shape → Core → ℕ → Core
released shape machine address =
    let segment = segment_of shape address in
    record machine { segments = refilled machine.segments segment (vacated (offset_of shape address) (machine.segments segment).fill) }

-- a segment goes on by a step of its life; nothing is marked in one that becomes prefree
pub record MayMove (geometry : Geometry) (machine : Core) (segment : ℕ) (stage : Stage) : Type 0 where
  pub phase : machine.phase ≡ idle
  pub range : segment < geometry.segments
  pub pair : LifeStep machine.version (machine.segments segment).stage stage
  pub empty : stage.state ≡ Prefree → IsVacant (machine.segments segment).fill

abbrev pub moved : Core → ℕ → Stage → Core
moved machine segment stage =
    record machine { segments = changed machine.segments segment (record { stage = stage; fill = fill_after stage.state (machine.segments segment).fill }) }

-- a body that holds, over the blocks as they are, a lawful image of the next version whose marks and owners are the
-- machine's
pub record MayWrite (geometry : Geometry) (machine : Core) (body : List ℕ) : Type 0 where
  pub phase : machine.phase ≡ idle
  pub lawful : IsLawful geometry (image_in geometry body machine.blocks)
  pub version : version_of body ≡ machine.version + 1
  pub marks : (address : ℕ) → IsTrue (is_marked geometry (image_in geometry body machine.blocks) address) → IsSome (owner_at geometry.shape machine.segments address)
  pub owners : (address : ℕ) (owner : Owner) → owner_at geometry.shape machine.segments address ≡ Some owner
      → IsTrue (is_marked geometry (image_in geometry body machine.blocks) address) × (summary_at (image_in geometry body machine.blocks) address ≡ summary_of owner)

-- a part of the slot that is not the current one is written
abbrev pub with_body : Core → List ℕ → Core
with_body machine body =
    let slot = other (current machine.version) in
    record machine {
      slots = changed machine.slots slot (record { body = body; footer = (machine.slots slot).footer });
      phase = body_written;
      written = record { body = body; blocks = machine.blocks } ∷ machine.written;
    }

abbrev pub footed : (ℕ → Slot) → ℕ → ℕ → (ℕ → Slot)
footed slots slot footer = changed slots slot (record { body = (slots slot).body; footer = footer })

-- the footer that makes the body count
abbrev pub with_footer : Core → Core
with_footer machine = record machine { slots = footed machine.slots (other (current machine.version)) (machine.version + 1); phase = footer_written }

-- one sync settles the blocks and the packs
abbrev pub phase_after_sync : Phase → Phase
phase_after_sync idle = idle
phase_after_sync body_written = body_synced
phase_after_sync body_synced = body_synced
phase_after_sync footer_written = footer_synced
phase_after_sync footer_synced = footer_synced
phase_after_sync mending = idle

abbrev pub synced : Core → Core
synced machine = record machine { loose = λ address. false; phase = phase_after_sync machine.phase }

abbrev pub advanced : Core → Core
advanced machine = record machine { version = next_version machine.version; phase = idle }

-- what a crash leaves of the slot that is being written
abbrev pub LeavesSlot : Phase → Slot → Slot → Type 0
LeavesSlot body_written now left = left.footer ≡ now.footer
LeavesSlot footer_written now left = left.body ≡ now.body
LeavesSlot mending now left = left.body ≡ now.body
LeavesSlot idle now left = left ≡ now
LeavesSlot body_synced now left = left ≡ now
LeavesSlot footer_synced now left = left ≡ now

-- what is settled stays; what was written since the last sync may be anything
pub record MayLeave (machine : Core) (left : Left) : Type 0 where
  pub blocks : (address : ℕ) → machine.loose address ≡ false → left.blocks address ≡ machine.blocks address
  pub current_slot : left.slots (current machine.version) ≡ machine.slots (current machine.version)
  pub other_slot : LeavesSlot machine.phase (machine.slots (other (current machine.version))) (left.slots (other (current machine.version)))

-- the slot of the pack that counts
abbrev pub IsPicked : (ℕ → Slot) → ℕ → Type 0
IsPicked slots slot = picked_slot slots ≡ Some slot

-- the image in a slot, over the blocks
abbrev pub image_of : Geometry → Left → ℕ → Image
image_of geometry left slot = image_in geometry (left.slots slot).body left.blocks

-- the next offset of the log that has this segment, if one has
abbrev pub log_in : List (Option LogHead) → ℕ → Option ℕ
log_in [] segment = None
log_in (None ∷ rest) segment = log_in rest segment
log_in (Some place ∷ rest) segment = if place.segment == segment then Some place.next else log_in rest segment

-- where a mount finds a segment in its life: a log's is open; one with nothing marked is free; any other is sealed
abbrev pub mounted_stage : Option ℕ → ℕ → Stage
mounted_stage (Some next) count = record { state = Open; incarnation = 1; stamp = 0 }
mounted_stage None zero = record { state = Free; incarnation = 0; stamp = 0 }
mounted_stage None (suc count) = record { state = Sealed; incarnation = 1; stamp = 0 }

-- who owns a block that the image marks, by its summary
abbrev pub mounted_owner : Bool → Summary → Option Owner
mounted_owner true summary = owner_in summary
mounted_owner false summary = None

-- who names the blocks of a segment
abbrev pub mounted_owners : Geometry → Image → ℕ → List (Option Owner)
mounted_owners geometry image segment =
    map (λ offset.
    let address = address_of geometry.shape segment offset in
    mounted_owner (is_marked geometry image address) (summary_at image address)) (range_with_len 0 (segment_blocks geometry.shape))

-- a log goes on at its next place
abbrev pub mounted_segment : Geometry → Image → ℕ → Segment
mounted_segment geometry image segment =
    let log = log_in image.logs segment in
    record {
      stage = mounted_stage log (info_of image segment).count;
      fill = record { owners = mounted_owners geometry image segment; next = unwrap_or log 0 };
    }

-- A mount goes on from a slot's image. A footer in the other slot that is not below its version was torn: it is
-- written to 0 before anything else.
abbrev pub mounted_when : Bool → Geometry → Core → Left → ℕ → Core
mounted_when is_below geometry machine left slot =
    let image = image_of geometry left slot in
    record {
      blocks = left.blocks;
      loose = λ address. false;
      segments = λ segment. mounted_segment geometry image segment;
      version = (left.slots slot).footer;
      slots = if is_below then left.slots else footed left.slots (other slot) 0;
      phase = if is_below then idle else mending;
      written = machine.written;
    }

abbrev pub mounted : Geometry → Core → Left → ℕ → Core
mounted geometry machine left slot =
    mounted_when (nat_lt (left.slots (other slot)).footer (left.slots slot).footer) geometry machine left slot

-- one event, and what it makes of the machine
abbrev pub CoreStep : Geometry → Core → Event → Core → Type 0
CoreStep geometry machine (append target owner block) after =
    MayAppend geometry machine target × (after ≡ appended geometry.shape machine target owner block)
CoreStep geometry machine (spoil target block) after =
    MayAppend geometry machine target × (after ≡ spoiled geometry.shape machine target block)
CoreStep geometry machine (release address) after =
    (machine.phase ≡ idle) × IsSome (owner_at geometry.shape machine.segments address) × (after ≡ released geometry.shape machine address)
CoreStep geometry machine (migrate address target) after =
    MayAppend geometry machine target × (owner : Owner) × (owner_at geometry.shape machine.segments address ≡ Some owner)
    × (after ≡ released geometry.shape (appended geometry.shape machine target owner (machine.blocks address)) address)
CoreStep geometry machine (move segment stage) after = MayMove geometry machine segment stage × (after ≡ moved machine segment stage)
CoreStep geometry machine (write_body body) after = MayWrite geometry machine body × (after ≡ with_body machine body)
CoreStep geometry machine sync after = after ≡ synced machine
CoreStep geometry machine write_footer after = (machine.phase ≡ body_synced) × (after ≡ with_footer machine)
CoreStep geometry machine advance after = (machine.phase ≡ footer_synced) × (after ≡ advanced machine)
CoreStep geometry machine (crash left) after =
    MayLeave machine left × (slot : ℕ) × IsPicked left.slots slot × (after ≡ mounted geometry machine left slot)

-- a list of events leads from one machine to another
abbrev pub Run : Geometry → Core → List Event → Core → Type 0
Run geometry machine [] after = after ≡ machine
Run geometry machine (event ∷ events) after = (mid : Core) × CoreStep geometry machine event mid × Run geometry mid events after

-- how a format ends: version 1 in slot 1, nothing marked, nothing loose
pub record IsFormatted (geometry : Geometry) (machine : Core) : Type 0 where
  pub phase : machine.phase ≡ idle
  pub version : machine.version ≡ 1
  pub header : version_of (machine.slots 1).body ≡ 1
  pub footer : (machine.slots 1).footer ≡ 1
  pub empty_slot : (machine.slots 0).footer ≡ 0
  pub lawful : IsLawful geometry (image_in geometry (machine.slots 1).body machine.blocks)
  pub no_mark : (address : ℕ) → ¬ IsTrue (is_marked geometry (image_in geometry (machine.slots 1).body machine.blocks) address)
  pub no_owner : (segment : ℕ) → IsVacant (machine.segments segment).fill
  pub written : machine.written ≡ record { body = (machine.slots 1).body; blocks = machine.blocks } ∷ []

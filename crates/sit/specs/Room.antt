-- The memory of a segment, before its blocks are there.
use Rattle.std.specs.Prelude.{◌≡◌, ℕ, List, [], Option, None, false, replicate}
use Rattle.geometry.specs.declared.shape.Shape.{Shape}
use Rattle.geometry.specs.declared.owner.Owner.{Owner}
use Rattle.geometry.specs.Shape.{segment_blocks, block_bytes}
use Rattle.geometry.specs.Address.{address_of}
use Rattle.sit.specs.Home.{Home}
use Rattle.sit.specs.Thread.{Thread, fresh_thread}

-- whose room it is
pub record RoomOf : Type 0 where
  pub shape : Shape
  pub number : ℕ

-- none of its blocks is there, and none is valid
pub record IsRoom (of : RoomOf) (home : Home) (summaries : List (Option Owner)) (thread : Thread) : Type 0 where
  pub home_is : home ≡ record { first = address_of of.shape of.number 0; block_bytes = block_bytes of.shape; present = replicate (segment_blocks of.shape) false; contents = replicate (segment_blocks of.shape) []; failed = 0 }
  pub unmarked : summaries ≡ replicate (segment_blocks of.shape) None
  pub unthreaded : thread ≡ fresh_thread (segment_blocks of.shape)

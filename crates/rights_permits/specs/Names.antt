-- The names that stand where none was picked. No table has them.
use Rattle.std.specs.Prelude.{[]}
use Rattle.std.proofs.Common.{refl, le_refl, le-add_right}
use Rattle.atomic_table.specs.Seated.{TableId}
use Rattle.atomic_table.specs.declared.badge.Badge.{Badge}
use Rattle.rights_books.specs.ClaimRules.{Ruled}
use Rattle.geometry.specs.declared.geometry.Geometry.{Geometry}
use Rattle.geometry.specs.declared.packing.Packing.TheVariants.{Slots}
use Rattle.geometry.specs.declared.shape.Shape.TheVariants.{Tiny}
use Rattle.geometry.specs.Shape.{segment_blocks}
use Rattle.rights_books.specs.Accounts.{HandView}
use Rattle.rights_books.specs.declared.claim.Layout.{Layout}
use Rattle.crossbeam_channel.specs.Claims.{no_key}
use Rattle.crossbeam_channel.specs.declared.flavors.array.Key.{Key}
use Rattle.geometry.specs.Limits.{IsWithinLimits}

abbrev pub no_table : TableId
no_table = record { words = 0; slots = 0; views_name = 0; atom = 0; block = 0; offset = 0; slot_names = [] }

abbrev pub no_books : Ruled Layout
no_books = record { book = no_table; key = record { segments = 0; blocks = 0; files = 0 } }

abbrev pub no_turns : Badge (Key HandView)
no_turns = no_key

abbrev least_limits : IsWithinLimits 16 1 1 1
least_limits = record {
  some_segments = le_refl 16;
  segments_fit = le-add_right 16 4080;
  a_segment = le_refl 1;
  section_fits = le-add_right 1 15;
  sections = refl;
  a_file = le_refl 1;
  files_fit = le-add_right 1 1023;
  inodes = le_refl 1;
  nodes_fit = le-add_right 1 65535;
}

-- the smallest volume
abbrev pub no_geometry : Geometry
no_geometry = record { shape = Tiny; segments = 16; per_section = 1; files = 1; nodes = 1; packing = Slots; limits = least_limits }

-- the layout of the books of a volume of these numbers
abbrev pub layout_of : Geometry → Layout
layout_of geometry = record { segments = geometry.segments; blocks = segment_blocks geometry.shape; files = geometry.files }

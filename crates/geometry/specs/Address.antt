-- Block o of segment s has the address 1 + s * n + o, where n is the blocks of a segment. Address 0 means none.
use Rattle.std.specs.Prelude.{ℕ, ◌+◌, ◌-◌, ◌*◌, ◌/◌, ◌%◌}
use Rattle.geometry.specs.declared.shape.Shape.{Shape}
use Rattle.geometry.specs.Shape.{segment_blocks}

abbrev pub address_of : Shape → ℕ → ℕ → ℕ
address_of shape segment offset = 1 + segment * segment_blocks shape + offset

abbrev pub segment_of : Shape → ℕ → ℕ
segment_of shape address = (address - 1) / segment_blocks shape

abbrev pub offset_of : Shape → ℕ → ℕ
offset_of shape address = (address - 1) % segment_blocks shape

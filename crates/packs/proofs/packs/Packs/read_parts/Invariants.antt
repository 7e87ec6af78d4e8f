use Rattle.std.proofs.Common.{◌≡◌, ◌≤◌, length, take}
use Rattle.device.specs.Disk.{IsQuiet}
use Rattle.image.specs.Slots.{slot_of}
use Rattle.packs.specs.Parts.{gathered, place}
use Rattle.packs.proofs.packs.Packs.read_parts.Given as goal

abbrev pub invariant-loop-k : goal.invariant-loop-k
invariant-loop-k g l = record {
  read : take (place l.fn.self.geometry l.k) l.out ≡ gathered l.fn.self.geometry (slot_of l.fn.self.version) l.map.sides l.k (g.M.Meta.seen l.fn.self.meta);
  long : length l.out ≡ length l.fn.out;
  quiet : IsQuiet g.M.Meta.seen g.M.Meta.may_leave g.M.Meta.moment g.M.Meta.left_since l.fn.self.meta l.self.meta;
  rest : l.self ≡ record l.fn.self { meta = l.self.meta };
  failed : g.M.Meta.failed l.fn.self.meta ≤ g.M.Meta.failed l.self.meta;
}

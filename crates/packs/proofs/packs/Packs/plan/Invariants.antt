use Rattle.std.proofs.Common.{◌≡◌, ◌≤◌}
use Rattle.device.specs.Disk.{IsQuiet}
use Rattle.image.specs.Slots.{slot_of}
use Rattle.packs.specs.Parts.{known_sides}
use Rattle.packs.proofs.Plans.{IsPlanTo}
use Rattle.packs.proofs.packs.Packs.plan.Given as goal

abbrev pub invariant-loop-k : goal.invariant-loop-k
invariant-loop-k g l = record {
  plan : IsPlanTo l.fn.self.geometry (slot_of l.fn.self.version) (known_sides l.fn.self.known.map) l.k l.sides l.body (g.M.Meta.seen l.fn.self.meta);
  quiet : IsQuiet g.M.Meta.seen g.M.Meta.may_leave g.M.Meta.moment g.M.Meta.left_since l.fn.self.meta l.self.meta;
  rest : l.self ≡ record l.fn.self { meta = l.self.meta };
  failed : g.M.Meta.failed l.fn.self.meta ≤ g.M.Meta.failed l.self.meta;
}

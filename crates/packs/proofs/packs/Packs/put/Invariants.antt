use Rattle.std.proofs.Common.{◌≡◌, ◌≤◌}
use Rattle.image.specs.Slots.{slot_of}
use Rattle.packs.specs.Parts.{known_sides}
use Rattle.packs.specs.Staging.{IsPut}
use Rattle.packs.proofs.Putting.{KeepOn}
use Rattle.packs.proofs.packs.Packs.put.Given as goal

abbrev pub invariant-loop-k : goal.invariant-loop-k
invariant-loop-k g l = record {
  put : IsPut l.fn.self.geometry (slot_of l.fn.self.version) (known_sides l.fn.self.known.map) l.sides l.body l.k (g.M.Meta.seen l.fn.self.meta) (g.M.Meta.seen l.self.meta);
  moment : KeepOn g.M.Meta.moment g.M.Meta.left_since g.M.Meta.may_leave l.fn.self l.self.meta;
  rest : l.self ≡ record l.fn.self { meta = l.self.meta };
  failed : g.M.Meta.failed l.fn.self.meta ≤ g.M.Meta.failed l.self.meta;
}

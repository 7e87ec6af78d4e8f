use Rattle.std.proofs.Common.{◌≡◌, Option, Some, None, refl, arith}
use Rattle.nodes.specs.declared.branch.Branch.{Branch}
use Rattle.nodes.specs.Spares.{token_weight}
use Rattle.nodes.proofs.spare_path.SparePath.end.Goals as goal

weightless : {C : Type 0} (node : Option (Branch C)) → token_weight (λ _. 1) node ≡ 0 → node ≡ None
weightless None none = refl
weightless (Some b) none = absurd (omega arith)

pub end_slot-requires : goal.end_slot-requires
end_slot-requires g c = let all = c.requires (λ _. 1) in weightless c.args.self.nodes.node (omega arith)

pub end_slot-requires-2 : goal.end_slot-requires-2
end_slot-requires-2 g c = let all = c.requires (λ _. 1) in weightless c.args.self.nodes.below.node (omega arith)

pub end_slot-requires-3 : goal.end_slot-requires-3
end_slot-requires-3 g c = let all = c.requires (λ _. 1) in weightless c.args.self.nodes.below.below.node (omega arith)

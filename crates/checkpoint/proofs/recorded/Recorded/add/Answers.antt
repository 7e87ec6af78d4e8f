use Rattle.std.proofs.Common.{ℕ, List, sym, subst}
use Rattle.std.specs.Prelude.{All}
use Rattle.std.proofs.lemmas.List.Elements.{All-cons}
use Rattle.nodes.specs.declared.file.FileState.{FileState}
use Rattle.checkpoint_image.specs.View.{taken_view}
use Rattle.checkpoint.specs.Files.{IsStateOf}
use Rattle.checkpoint.proofs.ImageFiles.{shown_is_of_image}
use Rattle.checkpoint.proofs.recorded.Recorded.add.Goals as goal

pub invariant_of-self : goal.invariant_of-self
invariant_of-self g c =
    let P : ℕ × FileState g.row.B.Denot g.row.B-Lease.Denot → Type 0 = λ entry. IsStateOf (taken_view c.args.self.now.image) entry.1 in
    record {
      of_image = subst (λ (items : List (ℕ × FileState g.row.B.Denot g.row.B-Lease.Denot)). All P items) (sym c.and-self.ensures)
          (All-cons P _ c.args.self.now.added.items c.requires c.args.self.now.of_image);
    }

pub returns-clause-of_image : goal.returns-clause-of_image
returns-clause-of_image g c = λ file blocks held. shown_is_of_image (taken_view c.args.self.now.image) c.args.file.now c.requires file blocks held

use Rattle.std.proofs.Common.{◌≡◌, ℕ, ◌+◌, ◌≤◌}
use Rattle.geometry.specs.Weights.{weigh}
use Rattle.rights_books.specs.declared.claim.TakenNumber.{TakenNumber}
use Rattle.geometry.specs.Shape.{block_bytes}
use Rattle.nodes.specs.Lacking.{spare_tokens, AreEmptyNodes}
use Rattle.nodes_law.specs.Law.{ragged}
use Rattle.file_cells.proofs.path.give_back.Given as goal

abbrev pub invariant-spares : goal.invariant-spares
invariant-spares g l = record {
  empty : (e : ℕ) × AreEmptyNodes e l.spares;
  whole : spare_tokens (ragged (block_bytes g.V.Numbers.GeometryName.geometry.shape)) l.spares ≡ 0;
  held : (h : TakenNumber → ℕ) → spare_tokens h l.spares ≤ weigh h l.hand.tokens;
  tokens : (h : TakenNumber → ℕ) → weigh h l.hand.tokens + spare_tokens h l.initial.spares ≡ weigh h l.initial.hand.tokens + spare_tokens h l.spares;
  tickets : l.hand.tickets ≡ l.initial.hand.tickets;
  book : l.hand.book ≡ l.initial.hand.book;
}

abbrev pub decreases-spares : goal.decreases-spares
decreases-spares g l = spare_tokens (λ k. 1) l.spares

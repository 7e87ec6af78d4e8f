-- What a walk over the entries of a node found.
use Rattle.nodes.specs.declared.entries.Pruned.{Pruned}
use Rattle.nodes.specs.declared.entries.Pruned.TheVariants.{Found, Kept, Empty}

-- one fact for each case
abbrev pub MatchPruned : {S : Type 0} → Pruned S → (S → Type 0) → Type 0 → Type 0 → Type 0
MatchPruned (Found s) P Q R = P s
MatchPruned Kept P Q R = Q
MatchPruned Empty P Q R = R

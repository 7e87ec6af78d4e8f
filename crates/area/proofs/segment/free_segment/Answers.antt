use Rattle.std.proofs.Common.{◌≡◌, ◌∙◌}
use Rattle.std.specs.Prelude.{Option, Some, None, IfSome, MatchOption}
use Rattle.atomic_table.specs.Seated.{TableId}
use Rattle.words.specs.Tokens.{FreeSegment, Post, IsFreed, IsKept}
use Rattle.sit.specs.Registered.{post_of}
use Rattle.area.proofs.segment.free_segment.Goals as goal

of_words : (table : TableId) (old new : Post) (slip : Option FreeSegment) → old.table ≡ table → MatchOption slip (IsKept old new) (λ s. IsFreed old s new) → IfSome slip (λ s. s.table ≡ table)
of_words table old new None is life = tt
of_words table old new (Some s) is life = life.2 ∙ is

pub returns-in-Prefree-clause-words : goal.returns-in-Prefree-clause-words
returns-in-Prefree-clause-words g c =
    of_words g.V.Words.WordsName.words (post_of c.args.cell.now.state) (post_of c.free.new.self) c.free.result c.args.cell.now.law.table_is c.free.ensures.life

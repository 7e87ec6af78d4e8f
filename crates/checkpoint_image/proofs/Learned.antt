-- What an audit that began with nothing has learned before the files.
use Rattle.std.proofs.Common.{◌≡◌, ℕ, ◌+◌, List, refl, arith}
use Rattle.geometry.specs.Weights.{weigh}
use Rattle.rights_books.specs.Accounts.{CensusView}
use Rattle.rights_books.specs.Weights.{file_copy}
use Rattle.rights_books.proofs.Learning.{weigh_nothing}
use Rattle.sit.specs.Registered.{Registered}
use Rattle.nat.specs.Shard.{ShardNodes}
use Rattle.checkpoint_image.specs.Learning.{HaveLearnedSegments, HaveLearnedShards}

-- neither segments nor shards are files
pub no_files_yet : (segments : List Registered) (shards : List ShardNodes) (start between now : CensusView) → HaveLearnedSegments segments start between → HaveLearnedShards shards between now
    → weigh (file_copy (λ n. 1)) start.copies ≡ 0 → weigh (file_copy (λ n. 1)) now.copies ≡ 0
no_files_yet segments shards start between now one two empty =
    let a = one.others (file_copy (λ n. 1)) (λ n marks. refl) in
    let b = two.copies (file_copy (λ n. 1)) in
    let none = weigh_nothing shards in omega arith

-- How many permits show that nothing is in flight.
use Rattle.std.specs.Prelude.{◌≡◌, ℕ, List, ◌++◌}
use Rattle.geometry.specs.Weights.{weigh}
use Rattle.rights_books.specs.ClaimRules.{Follows}
use Rattle.rights_books.specs.declared.claim.Layout.{Layout}
use Rattle.rights_books.specs.declared.claim.Claim.{Claim}
use Rattle.rights_books.specs.Weights.{segment_in, hand_in, file_in, shard_in}
use Rattle.rights_books.specs.Rules.{Lawful, Settled}
use Rattle.rights_books.specs.Accounts.{hands_claims}

-- all segments, files and shards, and no permit
pub record IsEveryAccount (l : Layout) (cs : List Claim) : Type 0 where
  pub hands : weigh hand_in cs ≡ 0
  pub segments : weigh (segment_in (λ s. 1)) cs ≡ l.segments
  pub files : weigh (file_in (λ i. 1)) cs ≡ l.files
  pub shards : weigh (shard_in (λ k. 1)) cs ≡ 16

-- one holder of every account and of n permits with nothing in hand can learn that nothing is outside its accounts
abbrev pub IsEnough : ℕ → Type 0
IsEnough n = (l : Layout) (accounts : List Claim) → IsEveryAccount l accounts → Follows (Lawful l) (accounts ++ hands_claims n) (accounts ++ hands_claims n) (Settled accounts)

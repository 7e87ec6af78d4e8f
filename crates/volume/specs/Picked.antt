-- What is said of the names that are picked last.
use Rattle.std.specs.Prelude.{◌≡◌}
use Rattle.atomic_table.specs.Seated.{TableId}
use Rattle.atomic_table.specs.declared.badge.Badge.{Badge}
use Rattle.rights_books.specs.Accounts.{HandView}
use Rattle.crossbeam_channel.specs.declared.flavors.array.Key.{Key}
use Rattle.pool.specs.Pools.{Queues}
use Rattle.rights_permits.specs.Turns.{Ring}

-- queues of free segments and a channel of permits that have these names
pub record HaveNames (queues : Queues) (channel : Ring) (ordinary reserve turns : TableId) (key : Badge (Key HandView)) : Type 0 where
  pub of_ordinary : queues.ordinary ≡ ordinary
  pub of_reserve : queues.reserve ≡ reserve
  pub of_turns : channel.turns ≡ turns
  pub of_key : channel.key ≡ key

-- What a contract says of a pool.
use Rattle.std.specs.Prelude.{◌≡◌, ◌-◌, []}
use Rattle.crossbeam_queue.specs.Passes.{Pass, view}
use Rattle.atomic_table.specs.Seated.{TableId}
use Rattle.crossbeam_queue.specs.declared.array_queue.Slotted.{Slotted}
use Rattle.pool.specs.declared.law.SlipTally.{SlipTally}
use Rattle.pool.specs.declared.law.Account.{Account}
use Rattle.pool.specs.Law.{all_parts, tally, account, both}

-- the tables of the two queues. A queue's table has as many slots as the queue can hold.
pub record Queues : Type 0 where
  pub ordinary : TableId
  pub reserve : TableId

abbrev pub queue_id : {S D Q A : Type 0} → Slotted S D Q A → TableId
queue_id q = q.table.shared.table_id

-- the pass of a pool that was just opened
abbrev pub first_account : Account
first_account = account (tally all_parts [] []) (tally all_parts [] [])

abbrev pub less_a_part : SlipTally → SlipTally
less_a_part v = tally (v.parts - 1) v.put v.taken

-- what is left of a pass that gave a part away
abbrev pub split_account : Account → Account
split_account a = account (less_a_part a.ordinary) (less_a_part a.reserve)

-- a pass with one part that has put and taken nothing
abbrev pub shared_account : Account
shared_account = account (tally 1 [] []) (tally 1 [] [])

-- two passes together
abbrev pub joined_account : Account → Account → Account
joined_account a b = account (both a.ordinary b.ordinary) (both a.reserve b.reserve)

-- a pass of the queue that is named, with no slot out
abbrev pub IsPassAt : {T : Type 0} → TableId → Pass T SlipTally → Type 0
IsPassAt queue p = (p.table_id ≡ queue) × (p.me.1 ≡ [])

abbrev pub tally_of : {T : Type 0} → Pass T SlipTally → SlipTally
tally_of p = view p

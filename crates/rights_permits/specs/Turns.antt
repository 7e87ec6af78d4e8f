-- The law of the channel: the permits in it and out of it are 64.
use Rattle.std.specs.Prelude.{◌≡◌, ℕ, ◌+◌, ◌≤◌, List, [], length}
use Rattle.atomic_table.specs.Seated.{TableId}
use Rattle.atomic_table.specs.declared.badge.Badge.{Badge}
use Rattle.crossbeam_channel.specs.declared.flavors.array.Key.{Key}
use Rattle.crossbeam_channel.specs.declared.flavors.array.Doing.{Doing}
use Rattle.crossbeam_channel.specs.declared.flavors.array.Rows.{Rows}
use Rattle.crossbeam_channel.specs.Claims.{Pass, view, IsKeyed}
use Rattle.geometry.specs.Weights.{weigh}
use Rattle.rights_books.specs.Accounts.{HandView}
use Rattle.rights_permits.specs.declared.law.PermitsOut.{PermitsOut}

abbrev pub all_permits : ℕ
all_permits = 64

abbrev pub turn : ℕ → PermitsOut
turn out = record { out = out }

abbrev pub out_of : PermitsOut → ℕ
out_of v = v.out

-- the permits in the channel and those that the passes have out are all
abbrev pub Counted : List HandView → List PermitsOut → Type 0
Counted items views = length items + weigh out_of views ≡ all_permits

-- no pass has out more than there are
abbrev pub AtMost : PermitsOut → List HandView → Type 0
AtMost v items = v.out ≤ all_permits

-- a permit with nothing in hand
abbrev pub at_home : TableId → HandView
at_home book = record { book = book; tickets = []; tokens = [] }

-- a channel of permits: its table, and the key of its messages
pub record Ring : Type 0 where
  pub turns : TableId
  pub key : Badge (Key HandView)

abbrev pub ring_of : {Q M L A : Type 0} → Rows (Badge (Key HandView)) (Doing HandView PermitsOut) Q M (Key HandView) L A → Ring
ring_of c = record { turns = c.stamps.shared.table_id; key = c.stamps.shared.key }

-- it is the channel that is named
abbrev pub IsRing : {Q M L A : Type 0} → TableId → Badge (Key HandView) → Rows (Badge (Key HandView)) (Doing HandView PermitsOut) Q M (Key HandView) L A → Type 0
IsRing turns key c = (c.stamps.shared.table_id ≡ turns) × (c.stamps.shared.key ≡ key) × IsKeyed c

-- a pass of the channel that is named, which holds no slot
abbrev pub IsTurnAt : TableId → Badge (Key HandView) → Pass HandView PermitsOut → Type 0
IsTurnAt turns key p = (p.table_id ≡ turns) × (p.me.0.of ≡ key) × (p.me.1 ≡ [])

abbrev pub count_of : Pass HandView PermitsOut → ℕ
count_of p = (view p).out

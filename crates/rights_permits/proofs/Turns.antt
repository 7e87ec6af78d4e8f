-- Each step keeps the count.
use Rattle.std.proofs.Common.{◌≡◌, ℕ, ◌+◌, ◌-◌, ◌<◌, [], ◌∷◌, length-append, set, refl, arith}
use Rattle.crossbeam_channel.specs.Fifo.{Pushes, Pops, Forks, Merges, Learns}
use Rattle.geometry.proofs.Weighing.{weigh-append}
use Rattle.rights_books.proofs.Weighing.{weigh-set_found}
use Rattle.rights_books.specs.Accounts.{HandView}
use Rattle.rights_permits.specs.declared.law.PermitsOut.{PermitsOut}
use Rattle.rights_permits.specs.Turns.{all_permits, turn, out_of, Counted, AtMost}

pub begins : Counted [] (turn all_permits ∷ [])
begins = refl

pub comes : (port : ℕ) (v : PermitsOut) → Pops Counted port v (λ x w. w ≡ turn (v.out + 1))
comes port v x items views b at =
    let w = turn (v.out + 1) in (w, (let s = weigh-set_found out_of views port v w at in omega (arith, s, b)), refl)

pub goes : (n port : ℕ) (v : PermitsOut) (x : HandView) → 0 < v.out → Pushes Counted n port v x (λ w. w ≡ turn (v.out - 1))
goes n port v x some_out items views room b at =
    let w = turn (v.out - 1) in (w, (let s = weigh-set_found out_of views port v w at in omega (arith, s, b, some_out, length-append items (x ∷ []))), refl)

pub forks : (port : ℕ) (v : PermitsOut) → Forks Counted port v (turn 0) v
forks port v items views b at =
    let s = weigh-set_found out_of views port v (turn 0) at in
    let t = weigh-append out_of (set views port (turn 0)) (v ∷ []) in
    omega (arith, s, t, b)

pub merges : (port : ℕ) (v : PermitsOut) (other : ℕ) (u : PermitsOut) → Merges Counted port v other u (turn (v.out + u.out)) (turn 0)
merges port v other u items views b at apart at' =
    let w = turn (v.out + u.out) in
    let s = weigh-set_found out_of views port v w at in
    let t = weigh-set_found out_of (set views port w) other u (turn 0) at' in
    omega (arith, s, t, b)

pub most : (port : ℕ) (v : PermitsOut) → Learns Counted port v (AtMost v)
most port v items views b at = let s = weigh-set_found out_of views port v (turn 0) at in omega (arith, s, b)

use Rattle.std.proofs.Common.{◌≡◌, ◌∙◌, ◌+◌, ◌-◌, ◌*◌, ◌<◌, ◌≤◌, ℕ, List, Result, Ok, Err, IfOk, ap, arith, drop, length, subst, sym, take}
use Rattle.std.proofs.Math.Nat.{add-mul, mul-le-mul_right, one-mul}
use Rattle.std.proofs.lemmas.List.{length-drop, length-take-le}
use Rattle.std.specs.Arc.{arc_value}
use Rattle.file_device.specs.Held.{content_in, held_at, size_of}
use Rattle.file_device.proofs.runs.Run.block.Goals as goal

-- a block within a run of blocks
fits : (k n size : ℕ) (bytes : List ℕ) → k < n → n * size ≤ length bytes → length (take size (drop (k * size) bytes)) ≡ size
fits k n size bytes low long =
    let next : (k + 1) * size ≤ n * size = mul-le-mul_right size (omega arith) in
    let sum : (k + 1) * size ≡ k * size + size = add-mul k 1 size ∙ ap (λ m. k * size + m) (one-mul size) in
    let rest : size ≤ length (drop (k * size) bytes) = let l = length-drop (k * size) bytes in omega (arith, next, sum, long) in
    length-take-le size (drop (k * size) bytes) rest

of_ok : {X K E : Type 0} (f : X → K) (P : K → Type 0) (result : Result X E) (k : K) → P k → IfOk result (λ x. f x ≡ k) → IfOk result (λ x. P (f x))
of_ok f P (Ok x) k holds is = subst P (sym is) holds
of_ok f P (Err e) k holds is = tt

pub returns-clause-length : goal.returns-clause-length
returns-clause-length c =
    let run = c.args.self.now in
    let kept = arc_value run.kept in
    let size = size_of kept in
    let place = c.args.place + 1 in
    let low : place - (run.first + 1) < run.count = let from = c.requires.from in let below = c.requires.below in omega arith in
    let whole = subst (λ held. length (held_at size place kept.bytes.items held) ≡ size) (sym run.begins) (fits (place - (run.first + 1)) run.count size kept.bytes.items low run.long) in
    of_ok (λ arc. arc_value arc) (λ kept. length (content_in kept place) ≡ size) c.try_clone.result kept whole c.try_clone.ensures

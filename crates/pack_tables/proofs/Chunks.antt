-- So many items, and so many of those behind them, are as many as both together; and a row that is written behind those
-- before it, in front of what stays, makes them one row more.
use Rattle.std.proofs.Common.{◌≡◌, sym, ◌∙◌, ap, ℕ, ◌+◌, ◌*◌, ◌<◌, ◌≤◌, List, ◌++◌, length, take, drop, get_or, arith}
use Rattle.std.proofs.lemmas.List.{take-append-drop, take-take, drop-take}
use Rattle.std.specs.List.{flat_map}
use Rattle.byteorder.proofs.Slices.{write_step}

pub take_both : {X : Type 0} (n m : ℕ) (xs : List X) → take (n + m) xs ≡ take n xs ++ take m (drop n xs)
take_both {X} n m xs =
    let whole : List X = take (n + m) xs in
    sym (take-append-drop n whole) ∙ ap (λ (l : List X). l ++ drop n whole) (take-take n (n + m) xs (omega arith))
    ∙ ap (λ (l : List X). take n xs ++ l) (drop-take n m xs)

pub row_written : {X : Type 0} (f : X → List ℕ) (n : ℕ) (src : List X) (d : X) (dst new bs rest post : List ℕ) (i : ℕ) → n * i ≤ length dst
    → i < length src → length (f (get_or src i d)) ≡ n → bs ≡ f (get_or src i d) → new ≡ bs ++ rest
    → take (n * i) dst ≡ flat_map f (take i src)
    → take (n * i + n) (take (n * i) dst ++ (new ++ post)) ≡ flat_map f (take (i + 1) src)
row_written f n src d dst new bs rest post i room fits len eb made before =
    ap (λ (r : List ℕ). take (n * i + n) (take (n * i) dst ++ (r ++ post))) made ∙ write_step f n src d dst bs rest post i room fits len eb before

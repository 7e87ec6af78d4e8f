-- The meta area begins with the superblock that was read, and goes on with what was read behind it.
use Rattle.std.proofs.Common.{◌≡◌, ◌∙◌, ◌++◌, ℕ, List, ap, arith, drop, length, subst, sym, take}
use Rattle.std.proofs.lemmas.List.{take-append-drop, take-append-le}
use Rattle.std.specs.Io.KnownBytes.{Consumes}
use Rattle.geometry.specs.Area.{pack_bytes, meta_bytes}
use Rattle.geometry.proofs.Areas.{holds_front}
use Rattle.file_device.proofs.Consuming.{consumes_more}
use Rattle.file_device.proofs.reading.read_area.Goals as goal

begins : (front got area : List ℕ) → got ≡ front → take (length got) area ≡ got → front ++ drop (length front) area ≡ area
begins front got area begun first =
    ap (λ xs. xs ++ drop (length front) area) (sym (subst (λ xs. take (length xs) area ≡ xs) begun first)) ∙ take-append-drop (length front) area

pub returns-clause-front : goal.returns-clause-front
returns-clause-front g c =
    let front = c.read_exact.new.buf in
    let area = c.read_more.new.bytes.items in
    let super = c.in_ok-geometry.ensures.ok in
    let whole = begins front c.in_ok-area.area.items area c.in_ok-area.ensures.items c.in_ok-read_more.ensures.front in
    let first_32 : take 32 (front ++ drop (length front) area) ≡ take 32 front = take-append-le 32 front (drop (length front) area) (let few = super.0 in omega arith) in
    let length_is : length area ≡ meta_bytes c.in_ok-geometry.geometry = c.in_ok-read_more.ensures.length ∙ c.meta_bytes.ensures in
    let long = holds_front c.in_ok-geometry.geometry.packing (pack_bytes c.in_ok-geometry.geometry) in (
      omega (arith, length_is, long),
      ap (take 32) (sym whole) ∙ first_32 ∙ super.1,
    )

pub returns-clause-length : goal.returns-clause-length
returns-clause-length g c = c.in_ok-read_more.ensures.length ∙ c.meta_bytes.ensures

pub returns-clause-bytes : goal.returns-clause-bytes
returns-clause-bytes g c =
    let front = c.read_exact.new.buf in
    let area = c.read_more.new.bytes.items in
    let begun = c.in_ok-area.ensures.items in
    let read = g.R.Read.remaining c.args.input.now in
    let later = g.R.Read.remaining c.read_exact.new.self in
    let then = g.R.Read.remaining c.read_more.new.input in
    let head : Consumes read then (front ++ drop (length front) area) = consumes_more read later then front (drop (length front) area) c.in_default.ensures.bytes (subst (λ xs. Consumes later then (drop (length xs) area)) begun c.in_ok-read_more.ensures.read) in
    subst (Consumes read then) (begins front c.in_ok-area.area.items area begun c.in_ok-read_more.ensures.front) head

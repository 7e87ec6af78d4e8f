-- The rows so far are spelled by the bytes so far, a row at a time; where a row is not spelled, no list of rows is.
use Rattle.std.proofs.Common.{◌≡◌, ◌∙◌, ◌+◌, ◌++◌, ◌<◌, ◌≤◌, ◌^◌, ℕ, List, [], ◌∷◌, ap, sym, subst, length, map, take, drop, rules, arith}
use Rattle.std.proofs.lemmas.List.{length-map, length_push, map-append}
use Rattle.named_folder.specs.Folder.{Row, IsRow, row_bytes}
use Rattle.named_folder.specs.Rows.{row_of}
use Rattle.named_folder.proofs.Spelling.{Begun, begun_more, begun_all, none_here}
use Rattle.named_folder.proofs.Cases.{none_of}
use Rattle.named_folder.proofs.folder.decode.Goals as goal

pub loop-preserved : goal.loop-preserved
loop-preserved c =
    let bytes = c.args.bytes.now in
    let count = c.u64_at-count.result in
    let before = c.loop.entries.items in
    let entry = c.in-Some.entry in
    let row : IsRow (row_of entry) = search rules in
    let within : c.in-Some.end ≤ length bytes = search rules in
    let spelled : take c.in-Some.end bytes ≡ take c.loop.at bytes ++ row_bytes (row_of entry) = search rules in
    let items : c.push.new.self.items ≡ before ++ entry ∷ [] = search rules in
    let begun = begun_more bytes c.loop.at c.in-Some.end count (map row_of before) (row_of entry) c.loop.invariant.0 row within spelled in
    let rows : map row_of c.push.new.self.items ≡ map row_of before ++ row_of entry ∷ [] = ap (map row_of) items ∙ map-append row_of before (entry ∷ []) in (
      subst (Begun bytes c.in-Some.end count) (sym rows) begun,
      ap length items ∙ length_push before entry ∙ ap (λ n. n + 1) c.loop.invariant.1,
    )

pub returns-clause-some : goal.returns-clause-some
returns-clause-some c =
    let count = c.u64_at-count.result in
    let entries = c.loop.entries.items in
    let fits : count < 2 ^ 64 = search rules in
    let done : c.loop.counter ≡ count = search rules in
    begun_all c.args.bytes.now c.loop.at count (map row_of entries) c.loop.invariant.0 (length-map entries row_of ∙ c.loop.invariant.1 ∙ done) fits

pub returns-in-None-clause-none : goal.returns-in-None-clause-none
returns-in-None-clause-none c =
    let bytes = c.args.bytes.now in
    let count = c.u64_at-count.result in
    let entries = c.loop.entries.items in
    let fits : count < 2 ^ 64 = search rules in
    let more : c.loop.counter < count = search rules in
    let few : length (map row_of entries) < count = let long = length-map entries row_of in let many = c.loop.invariant.1 in omega (arith, long, many, more) in
    let None_here : Type 0 = (row : Row) (behind : List ℕ) → IsRow row → drop c.loop.at bytes ≡ row_bytes row ++ behind → ⊥ in
    let none : None_here = none_of None_here c.in_ok-entry.field-0 c.in-None.is c.in_ok-entry.ensures.none in
    λ rows with_rows. none_here bytes c.loop.at count (map row_of entries) rows c.loop.invariant.0 fits few none with_rows

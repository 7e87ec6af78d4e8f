use Rattle.std.proofs.Common.{◌≡◌, ◌≢◌, ◌∙◌, ◌<◌, length, map, get_or, string_bytes, ap, sym, subst, true, false, rules}
use Rattle.std.proofs.Math.ListN.{get_or-map}
use Rattle.std.proofs.lemmas.List.{length-map}
use Rattle.std.proofs.lemmas.Slice.Eq.{bytes_eq-Decides}
use Rattle.named_folder.specs.Rows.{row_of}
use Rattle.named_folder.proofs.Places.{passed_row_here, passed_rows_more}
use Rattle.named_folder.proofs.rows.row_at.Goals as goal

pub returns-then-eq-clause-some : goal.returns-then-eq-clause-some
returns-then-eq-clause-some c =
    let entries = c.args.entries.now in
    let i = c.loop-place.place in
    let entry = c.index-entries-place.result in
    let low : i < length entries = search rules in
    let is : entry ≡ get_or entries i entry = search rules in
    let same : string_bytes entry.name ≡ c.args.name.now = search rules in
    passed_row_here c.args.name.now i (map row_of entries) (row_of entry) (subst (λ n. i < n) (sym (length-map entries row_of)) low)
    (ap row_of is ∙ sym (get_or-map row_of entries i entry)) c.loop-place.invariant same

pub loop-place-preserved : goal.loop-place-preserved
loop-place-preserved c =
    let entries = c.args.entries.now in
    let i = c.loop-place.place in
    let entry = c.index-entries-place.result in
    let low : i < length entries = search rules in
    let is : entry ≡ get_or entries i entry = search rules in
    let other : string_bytes entry.name ≢ c.args.name.now = λ same.
    let yes : c.eq.result ≡ true = c.eq.ensures ∙ (bytes_eq-Decides c.as_str.result.now c.args.name.now).1 (c.as_str.ensures.value ∙ same) in
    let no : c.eq.result ≡ false = search rules in
    let bad : true ≡ false = sym yes ∙ no in
    absurd (cc) in
    passed_rows_more c.args.name.now i (map row_of entries) (row_of entry) (subst (λ n. i < n) (sym (length-map entries row_of)) low)
    (ap row_of is ∙ sym (get_or-map row_of entries i entry)) c.loop-place.invariant other

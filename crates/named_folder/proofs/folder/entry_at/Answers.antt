use Rattle.std.proofs.Common.{◌≡◌, ◌∙◌, ◌-◌, ◌++◌, ℕ, List, ap, sym, length, take, drop, rules}
use Rattle.std.proofs.lemmas.List.{take_rest}
use Rattle.named_folder.specs.Folder.{Row, IsRow, row_bytes}
use Rattle.named_folder.specs.Rows.{row_of}
use Rattle.named_folder.proofs.Fields.{take_split}
use Rattle.named_folder.proofs.Cases.{none_of}
use Rattle.named_folder.proofs.folder.entry_at.Goals as goal

pub returns-in-Some-clause-spelled : goal.returns-in-Some-clause-spelled
returns-in-Some-clause-spelled c =
    let bytes = c.args.bytes.now in
    let at = c.args.at in
    let here : take c.in-Some.length (take (length bytes - at) (drop at bytes)) ≡ row_bytes (row_of c.in-Some.entry) = search rules in
    take_split at c.in-Some.length bytes ∙ ap (λ ys. take at bytes ++ ys) (ap (take c.in-Some.length) (sym (take_rest bytes at)) ∙ here)

pub returns-in-None-clause-none : goal.returns-in-None-clause-none
returns-in-None-clause-none c =
    let bytes = c.args.bytes.now in
    let at = c.args.at in
    let None_here : Type 0 = (row : Row) (behind : List ℕ) → IsRow row → take (length bytes - at) (drop at bytes) ≡ row_bytes row ++ behind → ⊥ in
    let none : None_here = none_of None_here c.in_ok-entry.field-0 c.in-None.is c.in_ok-entry.ensures.none in
    λ row behind is_row same. none row behind is_row (take_rest bytes at ∙ same)

use Rattle.std.proofs.Common.{◌≡◌, ◌∙◌, ◌+◌, ◌-◌, ◌≤◌, ℕ, ap, length, take, drop, string_bytes, rules, arith}
use Rattle.std.proofs.lemmas.List.{length-take-le, length-drop}
use Rattle.named_folder.proofs.Fields.{fields_make}
use Rattle.named_folder.proofs.folder.front_entry.Goals as goal

behind_head : (n : ℕ) → 20 + n - 20 ≡ n
behind_head n = omega arith

pub returns-in_ok-name-in-Ok-clause-spelled : goal.returns-in_ok-name-in-Ok-clause-spelled
returns-in_ok-name-in-Ok-clause-spelled c =
    let bytes = c.args.bytes.now in
    let n = c.u64_at-name_bytes.result in
    let name : string_bytes c.in_ok-name-in-Ok.name ≡ take (20 + n - 20) (drop 20 bytes) = search rules in
    let cut : string_bytes c.in_ok-name-in-Ok.name ≡ take n (drop 20 bytes) = name ∙ ap (λ k. take k (drop 20 bytes)) (behind_head n) in
    let enough : n ≤ length bytes - 20 = search rules in
    let there : n ≤ length (drop 20 bytes) = let long = length-drop 20 bytes in omega (arith, long, enough) in
    fields_make n c.u32_at-number.result c.u64_at-file_bytes.result (string_bytes c.in_ok-name-in-Ok.name) bytes
    c.u32_at-number.ensures c.u64_at-file_bytes.ensures c.u64_at-name_bytes.ensures cut (ap length cut ∙ length-take-le n (drop 20 bytes) there)

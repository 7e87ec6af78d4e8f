use Rattle.std.proofs.Common.{◌≡◌, ◌∙◌, ◌++◌, ℕ, List, ap, length, string_bytes, rules}
use Rattle.std.proofs.lemmas.List.{append_assoc}
use Rattle.std.specs.Int.{w32, w64, to_le_bytes}
use Rattle.named_folder.proofs.folder.push_entry.Goals as goal

-- four lists are put behind one, each in its turn
in_turn : (old a b c d one two three four : List ℕ) → one ≡ old ++ a → two ≡ one ++ b → three ≡ two ++ c → four ≡ three ++ d
    → four ≡ old ++ (a ++ b ++ c ++ d)
in_turn old a b c d one two three four first second third fourth =
    fourth
    ∙ ap (λ ys. ys ++ d) (third ∙ ap (λ ys. ys ++ c) (second ∙ ap (λ ys. ys ++ b) first))
    ∙ ap (λ ys. ys ++ c ++ d) (append_assoc old a b)
    ∙ ap (λ ys. ys ++ d) (append_assoc old (a ++ b) c)
    ∙ append_assoc old (a ++ b ++ c) d

pub returns-clause-bytes : goal.returns-clause-bytes
returns-clause-bytes c =
    let entry = c.args.entry.now in
    let first : c.extend_from_slice.new.self.items ≡ c.args.bytes.now.items ++ to_le_bytes w32 entry.number = search rules in
    let second : c.extend_from_slice-2.new.self.items ≡ c.extend_from_slice.new.self.items ++ to_le_bytes w64 entry.bytes = search rules in
    let third : c.extend_from_slice-3.new.self.items ≡ c.extend_from_slice-2.new.self.items ++ to_le_bytes w64 (length (string_bytes entry.name)) = search rules in
    let fourth : c.extend_from_slice-4.new.self.items ≡ c.extend_from_slice-3.new.self.items ++ string_bytes entry.name = search rules in
    in_turn c.args.bytes.now.items (to_le_bytes w32 entry.number) (to_le_bytes w64 entry.bytes) (to_le_bytes w64 (length (string_bytes entry.name))) (string_bytes entry.name)
    c.extend_from_slice.new.self.items c.extend_from_slice-2.new.self.items c.extend_from_slice-3.new.self.items c.extend_from_slice-4.new.self.items
    first second third fourth

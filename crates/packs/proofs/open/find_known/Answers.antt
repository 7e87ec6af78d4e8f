use Rattle.std.proofs.Common.{◌≡◌, sym, ◌∙◌, ap, subst, ℕ, true, false, List}
use Rattle.packs.specs.Parts.{body_bytes as bytes_of_body}
use Rattle.packs.proofs.Sizes.{is_paged}
use Rattle.packs.proofs.Knowing.{known_pages, none_out}
use Rattle.packs_journal.specs.Places.{IsArea, page_count, map_pages}
use Rattle.packs_journal.specs.Journal.{names_pages, is_head, map_of}
use Rattle.packs_journal.specs.Reading.{head_in}
use Rattle.packs_journal.proofs.Heads.{head_names}
use Rattle.packs_journal.proofs.Maps.{zeros_named}
use Rattle.packs.proofs.open.find_known.Goals as goal

pub find_map-requires-in-Pages-clause-area : goal.find_map-requires-in-Pages-clause-area
find_map-requires-in-Pages-clause-area g c =
    subst (λ (n : ℕ). IsArea n (g.M.Meta.seen c.args.meta.now)) (sym c.body_bytes.ensures) (is_paged c.args.geometry.now (g.M.Meta.seen c.args.meta.now) c.in-Pages.is c.requires.0)

pub returns-in-Some-clause-known : goal.returns-in-Some-clause-known
returns-in-Some-clause-known g c =
    let geometry = c.args.geometry.now in
    let head = head_in c.args.slot (g.M.Meta.seen c.args.meta.now) in
    let found = rw c.in-Some.is at c.in_ok-map-in-Pages.ensures.map in
    let has : is_head (bytes_of_body geometry) head ≡ true = subst (λ (n : ℕ). is_head n head ≡ true) c.body_bytes.ensures found.0 in
    known_pages geometry c.args.slot _ (g.M.Meta.seen c.args.meta.now) c.in-Pages.is (λ _. sym found.1)
    (ap (λ (m : List ℕ). names_pages (page_count (bytes_of_body geometry)) m map_pages) found.1 ∙ head_names (bytes_of_body geometry) head has)
    (λ k below out. absurd (none_out geometry c.nothing-known.result.pages.noted c.nothing-known.ensures.noted k below out))

pub returns-in_default-clause-known : goal.returns-in_default-clause-known
returns-in_default-clause-known g c =
    let geometry = c.args.geometry.now in
    let head = head_in c.args.slot (g.M.Meta.seen c.args.meta.now) in
    let found = rw c.in_default.is at c.in_ok-map-in-Pages.ensures.map in
    let none : is_head (bytes_of_body geometry) head ≡ false = subst (λ (n : ℕ). is_head n head ≡ false) c.body_bytes.ensures found in
    known_pages geometry c.args.slot c.nothing-known.result (g.M.Meta.seen c.args.meta.now) c.in-Pages.is (λ is. absurd (let no : false ≡ true = sym none ∙ is in cc))
    (ap (λ (m : List ℕ). names_pages (page_count (bytes_of_body geometry)) m map_pages) c.nothing-known.ensures.pages ∙ zeros_named (page_count (bytes_of_body geometry)))
    (λ k below out. absurd (none_out geometry c.nothing-known.result.pages.noted c.nothing-known.ensures.noted k below out))

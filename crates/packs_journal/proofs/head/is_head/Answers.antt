use Rattle.std.proofs.Common.{sym, ◌∙◌, ap, ℕ, List, arith}
use Rattle.packs_journal.specs.Places.{word_count as words_of, map_pages}
use Rattle.packs_journal.specs.Journal.{map_of as map_in, changes_of, names_pages as names_pages_of, rises as rises_in}
use Rattle.packs_journal.proofs.Heads.{not_zeros, too_many, other_pages, head_by}
use Rattle.packs_journal.proofs.head.is_head.Goals as goal

pub returns-then-number_in-ne0 : goal.returns-then-number_in-ne0
returns-then-number_in-ne0 c = sym (not_zeros c.args.len c.args.head.now (λ is. c.if-number_in-ne0.true (c.number_in.ensures ∙ is)))

pub returns-then-count-gt-MOST : goal.returns-then-count-gt-MOST
returns-then-count-gt-MOST c = sym (too_many c.args.len c.args.head.now (sym c.number_in.ensures ∙ c.if-number_in-ne0.false) (omega (arith, c.count_of-count.ensures, c.if-count-gt-MOST.true)))

pub returns-then-not-names_pages : goal.returns-then-not-names_pages
returns-then-not-names_pages c =
    let named = ap (λ (p : ℕ). names_pages_of p (map_in c.args.head.now) map_pages) (sym c.page_count.ensures) ∙ ap (λ (m : List ℕ). names_pages_of c.page_count.result m map_pages) (sym c.map_of.ensures) ∙ sym c.names_pages.ensures in
    sym (other_pages c.args.len c.args.head.now (sym c.number_in.ensures ∙ c.if-number_in-ne0.false) (omega (arith, c.count_of-count.ensures, c.if-count-gt-MOST.false)) (named ∙ c.if-not-names_pages.true))

pub returns : goal.returns
returns c =
    let named = ap (λ (p : ℕ). names_pages_of p (map_in c.args.head.now) map_pages) (sym c.page_count.ensures) ∙ ap (λ (m : List ℕ). names_pages_of c.page_count.result m map_pages) (sym c.map_of.ensures) ∙ sym c.names_pages.ensures in
    c.rises.ensures ∙ ap (λ (n : ℕ). rises_in n (changes_of c.args.head.now) c.count_of-count.result) c.word_count.ensures
    ∙ ap (rises_in (words_of c.args.len) (changes_of c.args.head.now)) c.count_of-count.ensures
    ∙ sym (head_by c.args.len c.args.head.now (sym c.number_in.ensures ∙ c.if-number_in-ne0.false) (omega (arith, c.count_of-count.ensures, c.if-count-gt-MOST.false)) (named ∙ c.if-not-names_pages.false))

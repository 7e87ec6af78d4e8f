-- What is found by a number after a pass was set, pushed or removed.
use Rattle.std.proofs.Common.{◌≡◌, ◌≢◌, ◌∙◌, ◌++◌, ℕ, zero, suc, List, [], ◌∷◌, Some, None, cond, ◌==◌, set, remove, ap, sym, subst, refl, inl, inr, ne_eqb, eq-eqb}
use Rattle.std.proofs.lemmas.Bool.{cases_eq}
use Rattle.file_cells.specs.Pass.{Pass}
use Rattle.byte_files.specs.Bytes.{HasBytes}
use Rattle.named_files.specs.Files.{file_at, IsPlace, WasWritten}

pub set_file : (number : ℕ) (passes : List Pass) (place : ℕ) (pass : Pass) → IsPlace number passes place → pass.number ≡ number
    → file_at number (set passes place pass) ≡ Some pass.file
set_file number [] place pass here is = absurd here
set_file number (p ∷ passes) zero pass here is = ap (λ b. cond b (Some pass.file) (file_at number passes)) (eq-eqb pass.number number is)
set_file number (p ∷ passes) (suc place) pass here is =
    ap (λ b. cond b (Some p.file) (file_at number (set passes place pass))) (ne_eqb p.number number here.0) ∙ set_file number passes place pass here.1 is

pub set_other : (number : ℕ) (passes : List Pass) (place : ℕ) (pass : Pass) → IsPlace number passes place → pass.number ≡ number
    → (n : ℕ) → n ≢ number → file_at n (set passes place pass) ≡ file_at n passes
set_other number [] place pass here is n other = absurd here
set_other number (p ∷ passes) zero pass here is n other =
    ap (λ b. cond b (Some pass.file) (file_at n passes)) (ne_eqb pass.number n (λ e. other (sym e ∙ is)))
    ∙ sym (ap (λ b. cond b (Some p.file) (file_at n passes)) (ne_eqb p.number n (λ e. other (sym e ∙ here))))
set_other number (p ∷ passes) (suc place) pass here is n other =
    ap (λ o. cond (p.number == n) (Some p.file) o) (set_other number passes place pass here.1 is n other)

pub push_other : (passes : List Pass) (pass : Pass) (n : ℕ) → n ≢ pass.number → file_at n (passes ++ pass ∷ []) ≡ file_at n passes
push_other [] pass n other = ap (λ b. cond b (Some pass.file) None) (ne_eqb pass.number n (λ e. other (sym e)))
push_other (p ∷ passes) pass n other = ap (λ o. cond (p.number == n) (Some p.file) o) (push_other passes pass n other)

pub push_file : (passes : List Pass) (pass : Pass) → file_at pass.number passes ≡ None → file_at pass.number (passes ++ pass ∷ []) ≡ Some pass.file
push_file [] pass none = ap (λ b. cond b (Some pass.file) None) (eq-eqb pass.number pass.number refl)
push_file (p ∷ passes) pass none =
    elim (cases_eq p.number pass.number) [
      | inl same ↦
          let there : Some p.file ≡ None = sym (ap (λ b. cond b (Some p.file) (file_at pass.number passes)) (eq-eqb p.number pass.number same)) ∙ none in
          absurd (cc)
      | inr other ↦
          ap (λ b. cond b (Some p.file) (file_at pass.number (passes ++ pass ∷ []))) (ne_eqb p.number pass.number other)
          ∙ push_file passes pass (sym (ap (λ b. cond b (Some p.file) (file_at pass.number passes)) (ne_eqb p.number pass.number other)) ∙ none)
    ]

pub remove_other : (number : ℕ) (passes : List Pass) (place : ℕ) → IsPlace number passes place → (n : ℕ) → n ≢ number
    → file_at n (remove passes place) ≡ file_at n passes
remove_other number [] place here n other = absurd here
remove_other number (p ∷ passes) zero here n other = sym (ap (λ b. cond b (Some p.file) (file_at n passes)) (ne_eqb p.number n (λ e. other (sym e ∙ here))))
remove_other number (p ∷ passes) (suc place) here n other = ap (λ o. cond (p.number == n) (Some p.file) o) (remove_other number passes place here.1 n other)

-- a file was written in its place
pub written_at : (size : ℕ) (bytes : List ℕ) (number : ℕ) (before after : List Pass) (place : ℕ) (new : Pass) → after ≡ set before place new → IsPlace number before place
    → new.number ≡ number → HasBytes size bytes new.file → WasWritten size bytes number before after
written_at size bytes number before after place new is here same has = record {
  file = new.file;
  there = ap (file_at number) is ∙ set_file number before place new here same;
  content = has;
  others = λ n other. ap (file_at n) is ∙ set_other number before place new here same n other;
}

-- a new file was written and put behind all
pub written_new : (size : ℕ) (bytes : List ℕ) (number : ℕ) (before after : List Pass) (new : Pass) → after ≡ before ++ new ∷ [] → file_at number before ≡ None
    → new.number ≡ number → HasBytes size bytes new.file → WasWritten size bytes number before after
written_new size bytes number before after new is none same has = record {
  file = new.file;
  there =
      ap (file_at number) is
      ∙ subst (λ k. file_at k (before ++ new ∷ []) ≡ Some new.file) same (push_file before new (subst (λ k. file_at k before ≡ None) (sym same) none));
  content = has;
  others = λ n other. ap (file_at n) is ∙ push_other before new n (λ e. other (e ∙ same));
}

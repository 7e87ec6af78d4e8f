-- A state whose tickets at some indexes went, and whose others stayed, shows the file with holes there.
use Rattle.std.proofs.Common.{◌≡◌, ℕ, ◌<◌, ◌≤◌, ◌⊎◌, ◌||◌, not, None, cond, nat_lt, sym, ap, ◌∙◌, inl, inr}
use borrow.Author.Tests.{lt-ltb, le-ltb}
use Rattle.std.proofs.lemmas.Bool.{cases_lt}
use Rattle.std.specs.FinMap.{get, get-retain_keys, nat_cmp-IsAntisymmetric}
use Rattle.nodes.specs.declared.file.FileState.{FileState}
use Rattle.nodes.specs.File.{IsFile, ticket_at, content_of, file_of}
use Rattle.nodes.proofs.Files.{shows_file_of, only_file}
use Rattle.geometry.specs.File.{erased}

module _ {B L : Type 0} (old new : FileState B L) (is : IsFile old) (now : IsFile new) (kind : new.kind ≡ old.kind) (length : new.length ≡ old.length) (from to : ℕ)
    (gone : (j : ℕ) → from ≤ j → j < to → ticket_at new j ≡ None) (stay : (j : ℕ) → (j < from) ⊎ (to ≤ j) → ticket_at new j ≡ ticket_at old j) where
  at_each : (i : ℕ) → get (erased (file_of old) from to).blocks i ≡ content_of (ticket_at new i)
  at_each i =
      let shows = shows_file_of old is in
      let blocks = (file_of old).blocks in
      get-retain_keys blocks (λ k. nat_lt k from || not (nat_lt k to)) i (λ x e. ap (λ k. nat_lt k from || not (nat_lt k to)) (sym (nat_cmp-IsAntisymmetric i x e)))
      ∙ elim (cases_lt i from) [
        | inl lt ↦ ap (λ b. cond (b || not (nat_lt i to)) (get blocks i) None) (lt-ltb i from lt) ∙ (shows.blocks i ∙ sym (ap content_of (stay i (inl lt))))
        | inr ge ↦ elim (cases_lt i to) [
          | inl lt ↦
              ap (λ b. cond (b || not (nat_lt i to)) (get blocks i) None) (le-ltb i from ge)
              ∙ (ap (λ b. cond (not b) (get blocks i) None) (lt-ltb i to lt) ∙ sym (ap content_of (gone i ge lt)))
          | inr past ↦
              ap (λ b. cond (b || not (nat_lt i to)) (get blocks i) None) (le-ltb i from ge)
              ∙ (ap (λ b. cond (not b) (get blocks i) None) (le-ltb i to past) ∙ (shows.blocks i ∙ sym (ap content_of (stay i (inr past)))))
        ]
      ]

  pub file_erased : file_of new ≡ erased (file_of old) from to
  file_erased = sym (only_file new now (erased (file_of old) from to) (record { kind = kind; length = length; blocks = at_each }))

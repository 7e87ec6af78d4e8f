-- Marks and tickets balance, and a mark of one segment is in no other: so each ticket that a file has lodged is a mark
-- of its own segment, within the volume, whatever others hold.
use Rattle.std.proofs.Common.{ℕ, ◌-◌, ◌/◌, ◌<◌, List, [], ◌∷◌, Option, inl, inr, arith}
use Rattle.std.proofs.lemmas.Bool.{cases_lt}
use Rattle.rights_books.specs.ClaimRules.{Follows}
use Rattle.geometry.specs.declared.owner.Mark.{Mark}
use Rattle.geometry.specs.Mark.{same_mark}
use Rattle.rights_books.specs.declared.claim.TakenNumber.{TakenNumber}
use Rattle.rights_books.specs.declared.claim.FileContent.{FileContent}
use Rattle.rights_books.specs.declared.claim.Layout.{Layout}
use Rattle.rights_books.specs.declared.claim.Claim.{Claim}
use Rattle.rights_books.specs.declared.claim.Claim.TheVariants.{Segment, File}
use Rattle.rights_books.specs.Lodged.{AreMarked, AreWithin}
use Rattle.rights_books.specs.Lists.{times}
use Rattle.rights_books.specs.Rules.{Lawful}
use Rattle.rights_books.proofs.Lists.{is, none_past}
use Rattle.rights_books.proofs.Rests.{at, no_mark_at_none, no_mark_elsewhere}
use Rattle.rights_books.proofs.Steps.{at_self, segment_alone, home_alone}

module _ (l : Layout) (i : ℕ) (ts : List Mark) (ks : List TakenNumber) (f : Option FileContent) where
  pub shows_marked : (s : ℕ) (ms : List Mark)
      → Follows (Lawful l) (Segment s ms ∷ File i ts ks f ∷ []) (Segment s ms ∷ File i ts ks f ∷ []) (AreMarked l.blocks s ts ms)
  shows_marked s ms rest law = (
    law,
    λ m here lodged.
        let mine : List Claim = Segment s ms ∷ File i ts ks f ∷ [] in
        let one = at_self s in
        let alone = segment_alone l mine rest s law (omega arith) in
        let none = no_mark_elsewhere l.blocks s m here rest alone (home_alone l mine rest law) in
        let count = law.tickets (is same_mark m) in omega arith,
  )

  pub shows_within : Follows (Lawful l) (File i ts ks f ∷ []) (File i ts ks f ∷ []) (AreWithin l ts)
  shows_within rest law = (law, λ m lodged. (some m lodged, within m lodged))
    where
      mine : List Claim
      mine = File i ts ks f ∷ []

      some : (m : Mark) → 0 < times same_mark m ts → 0 < m.address
      some m lodged = elim (cases_lt 0 m.address) [
        | inl lt ↦ lt
        | inr ge ↦
            let none = no_mark_at_none l.blocks m (omega arith) rest (home_alone l mine rest law) in
            let count = law.tickets (is same_mark m) in absurd (omega arith)
      ]

      within : (m : Mark) → 0 < times same_mark m ts → (m.address - 1) / l.blocks < l.segments
      within m lodged =
          let s : ℕ = (m.address - 1) / l.blocks in
          elim (cases_lt s l.segments) [
            | inl lt ↦ lt
            | inr ge ↦
                let all = law.segments (at s) in
                let past = none_past l.segments s ge in
                let none = no_mark_elsewhere l.blocks s m (λ _. s) rest (omega arith) (home_alone l mine rest law) in
                let count = law.tickets (is same_mark m) in absurd (omega arith)
          ]

-- An index below the width is the first map's and any other the second's, less the width: so a change of one part at an
-- index is a change of the whole at just one.
use Rattle.std.proofs.Common.{◌≡◌, ℕ, ◌+◌, ◌-◌, ◌<◌, ◌≤◌, Option, Some, None, arith, ap, sym, ◌∙◌, nat_lt, cond, inl, inr}
use borrow.Author.Tests.{lt-ltb, le-ltb}
use Rattle.std.proofs.lemmas.Bool.{cases_lt, cases_eq}
use Rattle.tickets.specs.Placed.{Placed}
use Rattle.nodes.specs.declared.spare.Spare.{Spare}
use Rattle.nodes.specs.declared.spare.Spare.TheVariants.{Ticket, Token}
use Rattle.nodes.specs.Tree.{SetsAt, Same, HandsOut, HandsOutAt, SwapsOne, EmptyFrom}
use Rattle.nodes.specs.File.{joined, content_of}

module _ {A : Type 0} (w : ℕ) (f g : ℕ → A) where
  pub at_first : (i : ℕ) → i < w → joined w f g i ≡ f i
  at_first i h = rw (lt-ltb i w h)

  pub at_rest : (i : ℕ) → w ≤ i → joined w f g i ≡ g (i - w)
  at_rest i h = rw (le-ltb i w h)

module _ {A : Type 0} (w : ℕ) (f f' g : ℕ → A) where
  pub same_first : Same f f' → Same (joined w f g) (joined w f' g)
  same_first s j = ap (λ x. cond (nat_lt j w) x (g (j - w))) (s j)

  pub sets_first : (i : ℕ) (v : A) → i < w → SetsAt f f' i v → SetsAt (joined w f g) (joined w f' g) i v
  sets_first i v h s = (at_first w f' g i h ∙ s.0, λ j ne. ap (λ x. cond (nat_lt j w) x (g (j - w))) (s.1 j ne))

module _ {A : Type 0} (w : ℕ) (f g g' : ℕ → A) where
  pub same_rest : Same g g' → Same (joined w f g) (joined w f g')
  same_rest s j = ap (λ x. cond (nat_lt j w) (f j) x) (s (j - w))

  pub sets_rest : (i : ℕ) (v : A) → w ≤ i → SetsAt g g' (i - w) v → SetsAt (joined w f g) (joined w f g') i v
  sets_rest i v h s = (
    at_rest w f g' i h ∙ s.0,
    λ j ne. elim (cases_lt j w) [
      | inl lt ↦ at_first w f g' j lt ∙ sym (at_first w f g j lt)
      | inr ge ↦ at_rest w f g' j ge ∙ s.1 (j - w) (λ e. ne (omega arith)) ∙ sym (at_rest w f g j ge)
    ],
  )

module _ (w : ℕ) (f f' g : ℕ → Option Placed) where
  pub hands_first : ((i : ℕ) → w ≤ i → f i ≡ None) → (from : ℕ) (spare : Spare Placed) → HandsOut f f' from spare → HandsOut (joined w f g) (joined w f' g) from spare
  hands_first bound from (Token t) s = same_first w f f' g s
  hands_first bound from (Ticket t) h =
      let i = h.0 in
      let inside : i < w = elim (cases_lt i w) [ inl lt ↦ lt | inr ge ↦ let none = bound i ge in let some : f i ≡ Some t = h.2 in cc ] in
      (i, h.1, at_first w f g i inside ∙ h.2, sets_first w f f' g i None inside h.3)

module _ (w : ℕ) (f g g' : ℕ → Option Placed) where
  pub hands_rest : (from : ℕ) (spare : Spare Placed) → HandsOut g g' (from - w) spare → HandsOut (joined w f g) (joined w f g') from spare
  hands_rest from (Token t) s = same_rest w f g g' s
  hands_rest from (Ticket t) h =
      let i = h.0 in
      let far : from - w ≤ i = h.1 in
      let past : w ≤ w + i = omega arith in
      let back : w + i - w ≡ i = omega arith in
      (w + i, omega arith, at_rest w f g (w + i) past ∙ (ap g back ∙ h.2), sets_rest w f g g' (w + i) None past (rw back h.3))

-- a ticket that is swapped
pub swaps_first : (w : ℕ) (f f' g : ℕ → Option Placed) → ((i : ℕ) → w ≤ i → f i ≡ None) → (before after : Placed) → SwapsOne f f' before after
    → SwapsOne (joined w f g) (joined w f' g) before after
swaps_first w f f' g bound before after h =
    let i = h.0 in
    let inside : i < w = elim (cases_lt i w) [ inl lt ↦ lt | inr ge ↦ let none = bound i ge in let some : f i ≡ Some before = h.1 in cc ] in
    (i, at_first w f g i inside ∙ h.1, sets_first w f f' g i (Some after) inside h.2)

pub swaps_rest : (w : ℕ) (f g g' : ℕ → Option Placed) (before after : Placed) → SwapsOne g g' before after → SwapsOne (joined w f g) (joined w f g') before after
swaps_rest w f g g' before after h =
    let i = h.0 in
    let past : w ≤ w + i = omega arith in
    let back : w + i - w ≡ i = omega arith in
    (w + i, at_rest w f g (w + i) past ∙ (ap g back ∙ h.1), sets_rest w f g g' (w + i) (Some after) past (rw back h.2))

-- a swap leaves nothing where nothing was
pub swaps_empty : (old new : ℕ → Option Placed) (before after : Placed) → SwapsOne old new before after → (n : ℕ) → EmptyFrom old n → EmptyFrom new n
swaps_empty old new before after s n empty j h = elim (cases_eq j s.0) [
  | inl e ↦ let none = empty j h in let some : old j ≡ Some before = ap old e ∙ s.1 in absurd (cc)
  | inr ne ↦ s.2.1 j ne ∙ empty j h
]

-- of a swap for a ticket of the same bytes nothing shows
pub swaps_content : (old new : ℕ → Option Placed) (before after : Placed) → SwapsOne old new before after → before.content ≡ after.content
    → (j : ℕ) → content_of (new j) ≡ content_of (old j)
swaps_content old new before after s same j = elim (cases_eq j s.0) [
  | inl e ↦ ap content_of (ap new e ∙ s.2.0) ∙ (ap (λ b. Some b) (sym same) ∙ sym (ap content_of (ap old e ∙ s.1)))
  | inr ne ↦ ap content_of (s.2.1 j ne)
]

pub empty_joined : (w : ℕ) (f g : ℕ → Option Placed) (from : ℕ) → EmptyFrom f from → EmptyFrom g (from - w) → EmptyFrom (joined w f g) from
empty_joined w f g from a b j h = elim (cases_lt j w) [
  | inl lt ↦ at_first w f g j lt ∙ a j h
  | inr ge ↦ at_rest w f g j ge ∙ b (j - w) (omega arith)
]

-- what is handed out leaves nothing where nothing was
pub hands_at_empty : (old new : ℕ → Option Placed) (i : ℕ) (spare : Spare Placed) → HandsOutAt old new i spare → (n : ℕ) → EmptyFrom old n → EmptyFrom new n
hands_at_empty old new i (Token t) s n empty j h = s j ∙ empty j h
hands_at_empty old new i (Ticket t) s n empty j h = elim (cases_eq j i) [
  | inl e ↦ ap new e ∙ s.1.0
  | inr ne ↦ s.1.1 j ne ∙ empty j h
]

pub hands_empty : (old new : ℕ → Option Placed) (from : ℕ) (spare : Spare Placed) → HandsOut old new from spare → (n : ℕ) → EmptyFrom old n → EmptyFrom new n
hands_empty old new from (Token t) s n empty j h = s j ∙ empty j h
hands_empty old new from (Ticket t) s n empty j h = elim (cases_eq j s.0) [
  | inl e ↦ ap new e ∙ s.3.0
  | inr ne ↦ s.3.1 j ne ∙ empty j h
]

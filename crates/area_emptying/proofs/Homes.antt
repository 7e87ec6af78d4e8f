-- Only the place of the block that comes home changes: so bytes that those at home show now are those that were shown
-- before, with the block's own at its address.
use Rattle.std.proofs.Common.{◌≡◌, ◌≢◌, ℕ, ◌<◌, ◌==◌, List, Option, Some, None, [], length, get_or, set, if◌then◌else◌, reverse, refl, sym, ap, subst, ◌∙◌, arith, ne_eqb, eq-eqb}
use Rattle.std.proofs.lemmas.List.{get_or-set_same, get_or-set_other, get_or_default, length-set, reverse-reverse}
use mathlib.Core.Logic.{dite}
use native.Mathlib.Decide.{ℕ_discrete}
use Rattle.geometry.proofs.Indexing.{each_reverse}
use Rattle.geometry.specs.declared.owner.Owner.{Owner}
use Rattle.geometry.specs.declared.shape.Shape.{Shape}
use Rattle.geometry.specs.Shape.{segment_blocks}
use Rattle.geometry.specs.Address.{address_of, segment_of, offset_of}
use Rattle.geometry.proofs.Addresses.{address_of-parts, offset_of-lt, offset_of-address_of}
use Rattle.sit.specs.declared.segment.Released.{Released}
use Rattle.sit.specs.declared.segment.Released.TheVariants.{Kept, Retired}
use Rattle.sit.specs.Registered.{Registered}
use Rattle.sit.specs.Segment.{Segment, cleared}
use Rattle.sit.specs.Released.{HasReleased}
use Rattle.sit.specs.ShownBlocks.{ShowsBlocks}
use Rattle.sit.proofs.Lists.{some-ne-none}
use Rattle.area_emptying.specs.Home.{AreAtHome}

module _ (old new : Segment) (address : ℕ) (content : List ℕ) (failed : ℕ) (released : Released) (owner : Owner)
    (some : 0 < address) (home : segment_of old.shape address ≡ old.number) (sized : length old.summaries ≡ segment_blocks old.shape)
    (valid : get_or old.summaries (offset_of old.shape address) None ≡ Some owner)
    (has : HasReleased (cleared old (offset_of old.shape address) content failed) released new)
    (forward : (blocks : ℕ → List ℕ) → blocks address ≡ content → ShowsBlocks old blocks → ShowsBlocks new blocks) where
  abbrev place : ℕ
  place = offset_of old.shape address

  record Same : Type 0 where
    pub shape : new.shape ≡ old.shape
    pub number : new.number ≡ old.number
    pub summaries : new.summaries ≡ set old.summaries place None
    pub contents : new.contents ≡ set old.contents place content

  same : Same
  same = go released has
    where
      go : (r : Released) → HasReleased (cleared old (offset_of old.shape address) content failed) r new → Same
      go Kept h = record {
        shape = ap (λ (s : Segment). s.shape) h.0;
        number = ap (λ (s : Segment). s.number) h.0;
        summaries = ap (λ (s : Segment). s.summaries) h.0;
        contents = ap (λ (s : Segment). s.contents) h.0;
      }
      go Retired h = record {
        shape = ap (λ (s : Segment). s.shape) h.0;
        number = ap (λ (s : Segment). s.number) h.0;
        summaries = ap (λ (s : Segment). s.summaries) h.0;
        contents = ap (λ (s : Segment). s.contents) h.0;
      }

  at_place : address_of old.shape old.number place ≡ address
  at_place = ap (λ n. address_of old.shape n place) (sym home) ∙ address_of-parts old.shape address some

  within : place < segment_blocks old.shape
  within = offset_of-lt old.shape address

  -- nobody names the block any more
  none_here : get_or new.summaries place None ≡ None
  none_here = ap (λ xs. get_or xs place None) same.summaries ∙ get_or-set_same old.summaries place None None (omega (arith, within, sized))

  -- what was there, and the block that comes
  abbrev were : ℕ → List ℕ
  were a = if a == address then content else get_or old.contents (offset_of old.shape a) []

  were_there : ShowsBlocks old were
  were_there o low none =
      let apart : o ≢ place = (λ e. some-ne-none owner (sym valid ∙ (ap (λ k. get_or old.summaries k None) (sym e) ∙ none))) in
      let elsewhere : address_of old.shape old.number o ≢ address = (λ e. apart (sym (offset_of-address_of old.shape old.number o low) ∙ ap (offset_of old.shape) e)) in
      sym (ap (λ b. if b then content else get_or old.contents (offset_of old.shape (address_of old.shape old.number o)) []) (ne_eqb (address_of old.shape old.number o) address elsewhere)
      ∙ ap (λ k. get_or old.contents k []) (offset_of-address_of old.shape old.number o low))

  -- the block is there with its bytes
  came : get_or new.contents place [] ≡ content
  came =
      let here : were address ≡ content = ap (λ b. if b then content else get_or old.contents (offset_of old.shape address) []) (eq-eqb address address refl) in
      let shown = forward were here were_there place (subst (λ s. place < segment_blocks s) (sym same.shape) within) none_here in
      shown ∙ (ap were (ap (λ (p : Shape × ℕ). address_of p.0 p.1 place) (λ i. (same.shape i, same.number i)) ∙ at_place) ∙ here)

  pub came_home : (bytes : ℕ → List ℕ) → ShowsBlocks new bytes → ShowsBlocks old bytes × (bytes address ≡ content)
  came_home bytes shows =
      let here : (o : ℕ) → address_of new.shape new.number o ≡ address_of old.shape old.number o = (λ o. ap (λ (p : Shape × ℕ). address_of p.0 p.1 o) (λ i. (same.shape i, same.number i))) in
      let low : (o : ℕ) → o < segment_blocks old.shape → o < segment_blocks new.shape = (λ o l. subst (λ s. o < segment_blocks s) (sym same.shape) l) in (
        (λ o l none.
            let apart : o ≢ place = (λ e. some-ne-none owner (sym valid ∙ (ap (λ k. get_or old.summaries k None) (sym e) ∙ none))) in
            let still : get_or new.summaries o None ≡ None = ap (λ xs. get_or xs o None) same.summaries ∙ (get_or-set_other old.summaries place o None None apart ∙ none) in
            sym (ap (λ xs. get_or xs o []) same.contents ∙ get_or-set_other old.contents place o content [] apart) ∙ (shows o (low o l) still ∙ ap bytes (here o))),
        sym (sym came ∙ (shows place (low place within) none_here ∙ ap bytes (here place ∙ at_place))),
      )

-- one of the segments changed
pub home_again : (segments : List Registered) (k : ℕ) (old new : Registered) (bytes : ℕ → List ℕ) → k < length segments → old ≡ get_or segments k old
    → (ShowsBlocks new.segment bytes → ShowsBlocks old.segment bytes) → AreAtHome bytes (set segments k new) → AreAtHome bytes segments
home_again segments k old new bytes low place back shown i other within =
    let long = length-set segments k new in
    dite (ℕ_discrete i k)
    (λ same. subst (λ (r : Registered). ShowsBlocks r.segment bytes) (place ∙ (get_or_default segments k old other low ∙ ap (λ j. get_or segments j other) (sym same)))
    (back (subst (λ (r : Registered). ShowsBlocks r.segment bytes) (get_or-set_same segments k new other low) (shown k other (omega arith)))))
    (λ apart. subst (λ (r : Registered). ShowsBlocks r.segment bytes) (get_or-set_other segments k i new other apart) (shown i other (omega arith)))

pub one_at_home : (segments : List Registered) (k : ℕ) (new : Registered) (bytes : ℕ → List ℕ) → k < length segments → AreAtHome bytes (set segments k new) → ShowsBlocks new.segment bytes
one_at_home segments k new bytes low shown =
    let long = length-set segments k new in
    subst (λ (r : Registered). ShowsBlocks r.segment bytes) (get_or-set_same segments k new new low) (shown k new (omega arith))

-- the order of the segments does not matter
pub home_turned : (segments : List Registered) (bytes : ℕ → List ℕ) → AreAtHome bytes (reverse segments) → AreAtHome bytes segments
home_turned segments bytes shown =
    subst (AreAtHome bytes) (reverse-reverse segments)
    (each_reverse (λ k (x : Registered). ShowsBlocks x.segment bytes) (λ k (x : Registered). ShowsBlocks x.segment bytes) (reverse segments) (length (reverse segments)) refl (λ k x low here. here) shown)

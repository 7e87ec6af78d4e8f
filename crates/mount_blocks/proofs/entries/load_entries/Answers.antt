-- What the next entry names is part of what all of them name, so the stock has it still; a turn takes just that out and
-- puts it into the next slot, which is empty yet.
use Rattle.std.proofs.Common.{◌≡◌, ◌≢◌, ℕ, ◌+◌, ◌-◌, ◌<◌, List, [], ◌∷◌, length, set, Option, None, refl, ap, sym, subst, ◌∙◌, inl, inr, arith}
use Rattle.std.proofs.lemmas.Bool.{cases_lt}
use Rattle.std.proofs.lemmas.List.{length-append, length-set, get_or-set_same, get_or-set_other}
use Rattle.std.specs.Prelude.{slice_index}
use Rattle.geometry.specs.Weights.{weigh}
use Rattle.geometry.proofs.Weighing.{weigh-set}
use Rattle.geometry.proofs.Indexing.{EachAt, each_front}
use Rattle.nodes.specs.Tree.{EmptyFrom, entry_at}
use Rattle.nodes.proofs.Changes.{weigh_nothing}
use Rattle.image.specs.View.{image_view}
use Rattle.mount_blocks.specs.Loaded.{of_rights}
use Rattle.mount_blocks.proofs.TreePlaces.{front_names, next_named, most_named}
use Rattle.mount_blocks.proofs.entries.load_entries.Goals as goal

pub load-requires-clause-there : goal.load-requires-clause-there
load-requires-clause-there g c = λ h.
    let names = g.C.Load.names (image_view c.args.image.now) h c.args.parent in
    let most = most_named names c.args.numbers.now c.loop-place.place (omega arith) in
    let so_far = c.loop-place.invariant.taken h in
    let all = c.requires.there h in
    omega arith

-- what stands where something came into one slot of a row
module _ {C : Type 0} (slots after : List (Option C)) (place : ℕ) (value : Option C) (is : after ≡ set slots place value) (low : place < length slots) where
  set_here : entry_at after place ≡ value
  set_here = rw is (get_or-set_same slots place value None low)

  set_elsewhere : (k : ℕ) → k ≢ place → entry_at after k ≡ entry_at slots k
  set_elsewhere k ne = rw is (get_or-set_other slots place k value None ne)

  still_unused : EmptyFrom (entry_at slots) place → EmptyFrom (entry_at after) (place + 1)
  still_unused none k past = set_elsewhere k (λ e. absurd (omega (arith, e, past))) ∙ none k (omega (arith, past))

  more_loaded : (Loaded : ℕ → Option C → Type 0) → ((k : ℕ) → k < place → Loaded k (entry_at slots k)) → Loaded place value
      → (k : ℕ) → k < place + 1 → Loaded k (entry_at after k)
  more_loaded Loaded before here k below = elim (cases_lt k place) [
    | inl lt ↦ subst (Loaded k) (sym (set_elsewhere k (λ e. absurd (omega (arith, e, lt))))) (before k lt)
    | inr ge ↦
        let e : place ≡ k = omega (arith, below, ge) in
        subst (λ j. Loaded j (entry_at after j)) e (subst (Loaded place) (sym set_here) here)
  ]

  more_weight : (weight : Option C → ℕ) → weight None ≡ 0 → EmptyFrom (entry_at slots) place → weigh weight after ≡ weigh weight slots + weight value
  more_weight weight none unused =
      let set = weigh-set weight slots place value None low in
      let all = ap (weigh weight) is in
      let was : weight (entry_at slots place) ≡ 0 = ap weight (unused place (omega arith)) ∙ none in
      omega arith

pub loop-place-init : goal.loop-place-init
loop-place-init g c =
    let room = c.requires.room in
    record {
      full = room.places;
      unused = λ k _. room.empty k;
      left = omega arith;
      rooms = room.below;
      all = refl;
      loaded = λ k below. absurd (omega (arith, below));
      taken = λ h. omega arith;
      trades = λ ticket token.
          (let nothing = weigh_nothing (g.C.Subtree.weight (of_rights ticket token)) (g.met.C.Subtree.weight_none (of_rights ticket token)) c.args.room.slots.items room.empty in
          omega arith);
    }

pub loop-place-preserved : goal.loop-place-preserved
loop-place-preserved g c =
    let image = image_view c.args.image.now in
    let numbers = c.args.numbers.now in
    let place = c.loop-place.place in
    let before = c.loop-place.invariant in
    let slots = c.loop-place.slots.items in
    let after = c.fill.new.self.items in
    let slot = c.load.result in
    let few = c.requires.room.few in
    let within : place < length numbers = omega arith in
    let low : place < length slots = omega (arith, before.full) in
    let long : length after ≡ length slots = ap length c.fill.ensures ∙ length-set slots place slot in
    let shorter = ap length c.in-Some.ensures.items in
    let popped = length-append c.pop.new.self.items (c.in-Some.room ∷ []) in
    let P : ℕ → g.row.C-Room.Denot → Type 0 = λ k r. g.C.Load.roomy image (slice_index numbers (length c.args.room.below.items - 1 - k)) r in
    let Q : ℕ → Option g.row.C.Denot → Type 0 = λ k s. g.C.Load.loaded image c.args.stock.now.all c.args.parent k (slice_index numbers k) s in
    let here : Q place slot = subst (λ all. g.C.Load.loaded image all c.args.parent place (slice_index numbers place) slot) before.all c.load.ensures.loaded in
    record {
      full = long ∙ before.full;
      unused = still_unused slots after place slot c.fill.ensures low before.unused;
      left = omega arith;
      rooms = each_front P c.pop.new.self.items (c.in-Some.room ∷ []) (subst (EachAt P) c.in-Some.ensures.items before.rooms);
      all = c.load.ensures.all ∙ before.all;
      loaded = more_loaded slots after place slot c.fill.ensures low Q before.loaded here;
      taken = λ h.
          (let next = next_named (g.C.Load.names image h c.args.parent) numbers place within in
          let so_far = before.taken h in
          let went = c.load.ensures.taken h in
          omega arith);
      trades = λ ticket token.
          (let weight = g.C.Subtree.weight (of_rights ticket token) in
          let more = more_weight slots after place slot c.fill.ensures low weight (g.met.C.Subtree.weight_none (of_rights ticket token)) before.unused in
          let so_far = before.trades ticket token in
          let went = c.load.ensures.trades ticket token in
          omega arith);
    }

pub returns-clause-loaded : goal.returns-clause-loaded
returns-clause-loaded g c =
    let image = image_view c.args.image.now in
    let numbers = c.args.numbers.now in
    let slots = c.loop-place.slots.items in
    let before = c.loop-place.invariant in
    let Q : ℕ → ℕ → Option g.row.C.Denot → Type 0 = λ k n s. g.C.Load.loaded image c.args.stock.now.all c.args.parent k n s in (
      before.full,
      λ k within. elim (cases_lt k c.loop-place.place) [
        | inl lt ↦ before.loaded k lt
        | inr ge ↦
            subst (λ n. Q k n (entry_at slots k)) (sym (c.requires.room.past k (omega arith)))
            (subst (Q k 0) (sym (before.unused k ge)) (g.C.Load.loaded_none image c.args.stock.now.all c.args.parent k))
      ],
    )

pub returns-clause-taken : goal.returns-clause-taken
returns-clause-taken g c = λ h.
    let image = image_view c.args.image.now in
    let names = g.C.Load.names image h c.args.parent in
    let all = front_names c.args.numbers.now c.loop-place.place (λ k le. c.requires.room.past k (omega arith)) names (λ slot. g.C.Load.names_none image h c.args.parent slot) in
    let so_far = c.loop-place.invariant.taken h in
    omega arith

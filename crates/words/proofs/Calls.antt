-- A call knows its seat's claims and the word that it is at; with these put in, what it asks of the rule is the one
-- step that was proved for such claims.
use Rattle.std.proofs.Common.{◌≡◌, ◌≢◌, ℕ, ◌+◌, ◌-◌, ◌%◌, ◌^◌, ◌<◌, ◌≤◌, List, [], ◌∷◌, sym, refl, subst}
use mathlib.Core.Option.{none}
use Rattle.atomic_table.specs.Table.{Step, step, Allows}
use Rattle.geometry.specs.declared.state.State.TheVariants.{Free, Sealed, Prefree}
use Rattle.words.specs.declared.claim.Life.{Life}
use Rattle.words.specs.declared.claim.Pins.{Pins}
use Rattle.words.specs.declared.claim.SeatClaim.{SeatClaim}
use Rattle.words.specs.declared.claim.SeatClaim.TheVariants.{Stands, Slip, Appends, Reads, Checkpoint}
use Rattle.words.specs.Claims.{times}
use Rattle.words.specs.Tokens.{IsPinnable}
use Rattle.words.specs.Steps.{SeatState, version_loaded, counted, sealed, retired, freed, opened, shown_open, pinned, unpinned, pins_counted, version_seen, advanced, agreed}
use Rattle.words.proofs.Standings.{Holds, seals, retires, counts, loads_version, frees_it, opens_it, shows_open}
use Rattle.words.proofs.Readers.{sees, counts_pins, unpins, pins_it, agrees}
use Rattle.words.proofs.Seats.{advances}

module _ (n slots id word : ℕ) (me : SeatState) where
  -- at a word that is the one meant, and claims that are those meant
  at_claims : (v : List SeatClaim) (w k : ℕ) (f : ℕ → ℕ) (then : Step (Unit {0}) → SeatState → ℕ → SeatState → Type 0) → me.0 ≡ v → word ≡ w
      → Allows (Holds n) slots id (v, me.1) w f (then (step {S = Unit {0}} slots w k 0 none) (v, me.1))
      → Allows (Holds n) slots id me word f (then (step {S = Unit {0}} slots word k 0 none) me)
  at_claims v w k f then e d h = subst (λ (z : List SeatClaim × ℕ). Allows (Holds n) slots id (z.0, me.1) z.1 f (then (step {S = Unit {0}} slots z.1 k 0 none) (z.0, me.1))) (λ i. (sym e i, sym d i)) h

  pub version_call : (l : Life) → me.0 ≡ Stands l ∷ [] → word ≡ n → Allows (Holds n) slots id me word (λ x. x) (version_loaded (step slots word 0 0 none) me)
  version_call l e d = at_claims (Stands l ∷ []) n 0 (λ x. x) version_loaded e d (loads_version n slots id me.1 l)

  pub count_call : (l : Life) → me.0 ≡ Stands l ∷ [] → word ≡ l.segment → l.state ≢ Free → Allows (Holds n) slots id me word (λ x. x) (counted (step slots word 0 0 none) me)
  count_call l e d h = at_claims (Stands l ∷ []) l.segment 0 (λ x. x) counted e d (counts n slots id me.1 l h)

  pub seal_call : (l : Life) → me.0 ≡ Stands l ∷ Appends l.segment ∷ [] → word ≡ l.segment → Allows (Holds n) slots id me word (λ x. (x + 256) % 2 ^ 64) (sealed (step slots word 256 0 none) me)
  seal_call l e d = at_claims (Stands l ∷ Appends l.segment ∷ []) l.segment 256 (λ x. (x + 256) % 2 ^ 64) sealed e d (seals n slots id me.1 l)

  pub open_shown_call : (l : Life) → me.0 ≡ Stands l ∷ Appends l.segment ∷ [] → word ≡ l.segment → Allows (Holds n) slots id me word (λ x. x) (shown_open (step slots word 0 0 none) me)
  open_shown_call l e d = at_claims (Stands l ∷ Appends l.segment ∷ []) l.segment 0 (λ x. x) shown_open e d (shows_open n slots id me.1 l)

  pub retire_call : (l : Life) → me.0 ≡ Stands l ∷ [] → word ≡ l.segment → l.state ≡ Sealed → l.incarnation ≤ l.seen → Allows (Holds n) slots id me word (λ x. (x + 256) % 2 ^ 64) (retired (step slots word 256 0 none) me)
  retire_call l e d h k = at_claims (Stands l ∷ []) l.segment 256 (λ x. (x + 256) % 2 ^ 64) retired e d (retires n slots id me.1 l h k)

  pub free_call : (l : Life) → me.0 ≡ Stands l ∷ [] → word ≡ l.segment → l.state ≡ Prefree → l.pins ≡ 0 → l.stamp < l.seen → Allows (Holds n) slots id me word (λ x. (x + (2 ^ 64 - 768)) % 2 ^ 64) (freed (step slots word 768 0 none) me)
  free_call l e d h k t = at_claims (Stands l ∷ []) l.segment 768 (λ x. (x + (2 ^ 64 - 768)) % 2 ^ 64) freed e d (frees_it n slots id me.1 l h k t)

  pub open_call : (l : Life) → me.0 ≡ Stands l ∷ Slip l.segment ∷ [] → word ≡ l.segment → Allows (Holds n) slots id me word (λ x. (x + 65792) % 2 ^ 64) (opened (step slots word 65792 0 none) me)
  open_call l e d = at_claims (Stands l ∷ Slip l.segment ∷ []) l.segment 65792 (λ x. (x + 65792) % 2 ^ 64) opened e d (opens_it n slots id me.1 l)

  pub pin_call : (l : Life) (p : Pins) → me.0 ≡ Stands l ∷ Reads p ∷ [] → word ≡ l.segment → IsPinnable l.state → times l.segment p.held ≡ 0 → Allows (Holds n) slots id me word (λ x. (x + 1) % 2 ^ 64) (pinned (step slots word 1 0 none) me)
  pin_call l p e d h k = at_claims (Stands l ∷ Reads p ∷ []) l.segment 1 (λ x. (x + 1) % 2 ^ 64) pinned e d (pins_it n slots id me.1 l p h k)

  pub agree_call : (l : Life) (p : Pins) → me.0 ≡ Stands l ∷ Reads p ∷ [] → word ≡ l.segment → Allows (Holds n) slots id me word (λ x. x) (agreed (step slots word 0 0 none) me)
  agree_call l p e d = at_claims (Stands l ∷ Reads p ∷ []) l.segment 0 (λ x. x) agreed e d (agrees n slots id me.1 l p)

  pub unpin_call : (p : Pins) → me.0 ≡ Reads p ∷ [] → word < n → 0 < times word p.held → Allows (Holds n) slots id me word (λ x. (x + (2 ^ 64 - 1)) % 2 ^ 64) (unpinned (step slots word 1 0 none) me)
  unpin_call p e lt has = at_claims (Reads p ∷ []) word 1 (λ x. (x + (2 ^ 64 - 1)) % 2 ^ 64) unpinned e refl (unpins n slots id me.1 p word lt has)

  pub pins_call : (p : Pins) → me.0 ≡ Reads p ∷ [] → word < n → Allows (Holds n) slots id me word (λ x. x) (pins_counted (step slots word 0 0 none) me)
  pins_call p e lt = at_claims (Reads p ∷ []) word 0 (λ x. x) pins_counted e refl (counts_pins n slots id me.1 p word lt)

  pub seen_call : (p : Pins) → me.0 ≡ Reads p ∷ [] → word ≡ n → Allows (Holds n) slots id me word (λ x. x) (version_seen (step slots word 0 0 none) me)
  seen_call p e d = at_claims (Reads p ∷ []) n 0 (λ x. x) version_seen e d (sees n slots id me.1 p)

  pub advance_call : (v : ℕ) → me.0 ≡ Checkpoint v ∷ [] → word ≡ n → v + 1 < 4294967296 → Allows (Holds n) slots id me word (λ x. (x + 1) % 2 ^ 64) (advanced (step slots word 1 0 none) me)
  advance_call v e d h = at_claims (Checkpoint v ∷ []) n 1 (λ x. (x + 1) % 2 ^ 64) advanced e d (advances n slots id me.1 v h)

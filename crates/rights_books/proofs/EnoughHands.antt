-- Whoever has all 64 permits, with nothing in hand, has every hand there is, so all else is in the accounts; with 63,
-- the last hand may have the ticket of a mark that no account has lodged.
use Rattle.std.proofs.Common.{List, [], ◌∷◌, ◌++◌, refl, arith, None}
use Rattle.geometry.specs.Weights.{weigh}
use Rattle.rights_books.specs.ClaimRules.{together}
use Rattle.geometry.proofs.Weighing.{weigh-append}
use Rattle.rights_books.proofs.Keeping.{same_weights}
use Rattle.geometry.specs.declared.owner.Owner.TheVariants.{Node}
use Rattle.geometry.specs.declared.owner.Mark.{Mark}
use Rattle.rights_books.specs.declared.claim.Layout.{Layout}
use Rattle.rights_books.specs.declared.claim.Claim.{Claim}
use Rattle.rights_books.specs.declared.claim.Claim.TheVariants.{Segment, Hand, File, Shard}
use Rattle.rights_books.specs.Weights.{marks_in, tickets_in, taken_in, tokens_in, shown_in, pass_in, segment_in, hand_in, file_in, shard_in}
use Rattle.rights_books.specs.Rules.{Lawful, each_below, opening, IsWhole}
use Rattle.rights_books.specs.Accounts.{hands_claims}
use Rattle.rights_books.specs.Enough.{IsEnough}
use Rattle.rights_books.proofs.Steps.{marks, audits}
use Rattle.rights_books.proofs.Counting.{hands_none, hands_count}
use Rattle.rights_books.proofs.Opening.{opens}

pub enough : IsEnough 64
enough l accounts every rest law =
    let mine = accounts ++ hands_claims 64 in
    let count = hands_count 64 in
    let whole : IsWhole l mine = record {
      hands = let a = weigh-append hand_in accounts (hands_claims 64) in let b = every.hands in omega arith;
      segments = let a = weigh-append (segment_in (λ s. 1)) accounts (hands_claims 64) in let b = every.segments in let d = hands_none (segment_in (λ s. 1)) refl 64 in omega arith;
      files = let a = weigh-append (file_in (λ i. 1)) accounts (hands_claims 64) in let b = every.files in let d = hands_none (file_in (λ i. 1)) refl 64 in omega arith;
      shards = let a = weigh-append (shard_in (λ k. 1)) accounts (hands_claims 64) in let b = every.shards in let d = hands_none (shard_in (λ k. 1)) refl 64 in omega arith;
    } in
    let then = audits l mine whole rest law in (
      then.0,
      record {
        tickets = λ h.
            let p = then.1.tickets h in
            let a = weigh-append (marks_in h) accounts (hands_claims 64) in
            let b = weigh-append (tickets_in h) accounts (hands_claims 64) in
            let d = hands_none (marks_in h) refl 64 in
            let e = hands_none (tickets_in h) refl 64 in omega arith;
        tokens = λ h.
            let p = then.1.tokens h in
            let a = weigh-append (taken_in h) accounts (hands_claims 64) in
            let b = weigh-append (tokens_in h) accounts (hands_claims 64) in
            let d = hands_none (taken_in h) refl 64 in
            let e = hands_none (tokens_in h) refl 64 in omega arith;
        passes = λ h.
            let p = then.1.passes h in
            let a = weigh-append (pass_in h) accounts (hands_claims 64) in
            let b = weigh-append (shown_in h) accounts (hands_claims 64) in
            let d = hands_none (pass_in h) refl 64 in
            let e = hands_none (shown_in h) refl 64 in omega arith;
      },
    )

-- a volume of one segment and one file
small : Layout
small = record { segments = 1; blocks = 1; files = 1 }

block : Mark
block = record { address = 1; owner = Node 1 }

-- its segment has a mark, whose ticket is in the hand of a call
abbrev accounts_of : Mark → List Claim
accounts_of m = Segment 0 (m ∷ []) ∷ File 1 [] [] None ∷ each_below 16 (λ k. Shard k [])

pub too_few : IsEnough 63 → ⊥
unfolding small block
too_few all =
    let bare : List Claim = File 1 [] [] None ∷ each_below 16 (λ k. Shard k []) in
    let begun : Lawful small (together (Segment 0 [] ∷ Hand [] [] ∷ []) (bare ++ hands_claims 63)) =
    same_weights (Lawful small) (λ h. weigh h (opening small)) (together (Segment 0 [] ∷ Hand [] [] ∷ []) (bare ++ hands_claims 63)) (λ h. omega arith) (opens small) in
    let marked = (marks small 0 [] [] [] block (omega arith) refl (bare ++ hands_claims 63) begun).0 in
    let law : Lawful small (together (accounts_of block ++ hands_claims 63) (Hand (block ∷ []) [] ∷ [])) =
    same_weights (Lawful small) (together (Segment 0 (block ∷ []) ∷ Hand (block ∷ []) [] ∷ []) (bare ++ hands_claims 63)) (together (accounts_of block ++ hands_claims 63) (Hand (block ∷ []) [] ∷ []))
    (λ h. omega arith) marked in
    let told = (all small (accounts_of block) record { hands = refl; segments = refl; files = refl; shards = refl } (Hand (block ∷ []) [] ∷ []) law).1 in
    let p = told.tickets (λ m. 1) in omega arith

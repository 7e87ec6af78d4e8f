-- Rooms, accounts, standings and slips stand in the order of their segments, so the last of each are those of one
-- segment, and what is left stands in order still.
use Rattle.std.proofs.Common.{◌≡◌, ℕ, ◌+◌, ◌-◌, ◌*◌, ◌<◌, Bool, List, [], ◌∷◌, ◌++◌, length, get_or, map, replicate, if◌then◌else◌, Option, Some, None, inl, inr, refl, sym, ap, subst, ◌∙◌, arith}
use Rattle.std.specs.Prelude.{IfSome}
use Rattle.std.proofs.lemmas.Bool.{cases_lt}
use Rattle.std.proofs.lemmas.List.{length-append, get_or-map, get_or_past}
use Rattle.geometry.specs.Weights.{weigh}
use Rattle.geometry.proofs.Indexing.{each_front, each_last}
use Rattle.atomic_table.specs.Seated.{TableId}
use Rattle.geometry.specs.declared.geometry.Geometry.{Geometry}
use Rattle.geometry.specs.declared.shape.Shape.{Shape}
use Rattle.geometry.specs.Shape.{segment_blocks}
use Rattle.rights_books.specs.Accounts.{SegmentView}
use Rattle.image.specs.Image.{Image}
use Rattle.tickets.specs.Placed.{Placed}
use Rattle.words.specs.Tokens.{Post, FreeSegment, OpenSegment, fresh_post, fresh_slip}
use Rattle.sit.specs.Room.{RoomOf}
use Rattle.sit.specs.Registered.{Registered}
use Rattle.image.specs.declared.image.LogHead.{LogHead}
use Rattle.image.specs.Rules.{IsLawful, IsPlace}
use borrow.Author.Tests.{lt-ltb}
use Rattle.sit.specs.Loading.{Loaded}
use Rattle.mount_blocks.specs.Rights.{AreRights, IsRightOf}
use Rattle.mount_blocks.specs.Table.{HaveBytes, AreTicketsPast}
use Rattle.mount_blocks.specs.States.{slip_weight, slip_from, AreSegmentsFrom}
use Rattle.mount_blocks.proofs.Tables.{all_none}

module _ (shape : Shape) (book table : TableId) (rooms rooms' : List RoomOf) (accounts accounts' : List SegmentView) (standings standings' : List Post) (slips slips' : List FreeSegment)
    (room : RoomOf) (account : SegmentView) (standing : Post) (slip : FreeSegment) (rights : AreRights shape book table rooms accounts standings slips)
    (rooms_end : rooms ≡ rooms' ++ room ∷ []) (accounts_end : accounts ≡ accounts' ++ account ∷ []) (standings_end : standings ≡ standings' ++ standing ∷ []) (slips_end : slips ≡ slips' ++ slip ∷ []) where
  few_accounts : length accounts' ≡ length rooms'
  few_accounts =
      let one = ap length rooms_end ∙ length-append rooms' (room ∷ []) in
      let two = ap length accounts_end ∙ length-append accounts' (account ∷ []) in
      let same = rights.accounts_count in
      omega arith

  few_standings : length standings' ≡ length rooms'
  few_standings =
      let one = ap length rooms_end ∙ length-append rooms' (room ∷ []) in
      let two = ap length standings_end ∙ length-append standings' (standing ∷ []) in
      let same = rights.standings_count in
      omega arith

  few_slips : length slips' ≡ length rooms'
  few_slips =
      let one = ap length rooms_end ∙ length-append rooms' (room ∷ []) in
      let two = ap length slips_end ∙ length-append slips' (slip ∷ []) in
      let same = rights.slips_count in
      omega arith

  all_rooms : (k : ℕ) (other : RoomOf) → k < length (rooms' ++ room ∷ []) → get_or (rooms' ++ room ∷ []) k other ≡ record { shape = shape; number = k }
  all_rooms = subst (λ xs. (k : ℕ) (other : RoomOf) → k < length xs → get_or xs k other ≡ record { shape = shape; number = k }) rooms_end rights.rooms_are

  all_accounts : (k : ℕ) (other : SegmentView) → k < length (accounts' ++ account ∷ []) → get_or (accounts' ++ account ∷ []) k other ≡ record { book = book; segment = k; marks = [] }
  all_accounts = subst (λ xs. (k : ℕ) (other : SegmentView) → k < length xs → get_or xs k other ≡ record { book = book; segment = k; marks = [] }) accounts_end rights.accounts_are

  all_standings : (k : ℕ) (other : Post) → k < length (standings' ++ standing ∷ []) → get_or (standings' ++ standing ∷ []) k other ≡ fresh_post table k
  all_standings = subst (λ xs. (k : ℕ) (other : Post) → k < length xs → get_or xs k other ≡ fresh_post table k) standings_end rights.standings_are

  all_slips : (k : ℕ) (other : FreeSegment) → k < length (slips' ++ slip ∷ []) → get_or (slips' ++ slip ∷ []) k other ≡ fresh_slip table k
  all_slips = subst (λ xs. (k : ℕ) (other : FreeSegment) → k < length xs → get_or xs k other ≡ fresh_slip table k) slips_end rights.slips_are

  pub right_is : IsRightOf shape book table (length rooms') room account standing slip
  right_is = record {
    room_is = each_last (λ k r. r ≡ record { shape = shape; number = k }) rooms' room all_rooms;
    account_is = each_last (λ k a. a ≡ record { book = book; segment = k; marks = [] }) accounts' account all_accounts ∙ (λ i. record { book = book; segment = few_accounts i; marks = [] });
    standing_is = each_last (λ k s. s ≡ fresh_post table k) standings' standing all_standings ∙ ap (fresh_post table) few_standings;
    slip_is = each_last (λ k s. s ≡ fresh_slip table k) slips' slip all_slips ∙ ap (fresh_slip table) few_slips;
  }

  pub rights_next : AreRights shape book table rooms' accounts' standings' slips'
  rights_next = record {
    rooms_are = each_front (λ k r. r ≡ record { shape = shape; number = k }) rooms' (room ∷ []) all_rooms;
    accounts_are = each_front (λ k a. a ≡ record { book = book; segment = k; marks = [] }) accounts' (account ∷ []) all_accounts;
    standings_are = each_front (λ k s. s ≡ fresh_post table k) standings' (standing ∷ []) all_standings;
    slips_are = each_front (λ k s. s ≡ fresh_slip table k) slips' (slip ∷ []) all_slips;
    accounts_count = few_accounts;
    standings_count = few_standings;
    slips_count = few_slips;
  }

-- a segment of which no block has come
abbrev pub begun : Shape → TableId → ℕ → Loaded
begun shape book number = record { shape = shape; number = number; book = book; left = segment_blocks shape; summaries = replicate (segment_blocks shape) None; contents = replicate (segment_blocks shape) []; failed = 0 }

pub begun_is : {shape : Shape} {book table : TableId} {number : ℕ} {room : RoomOf} {account : SegmentView} {standing : Post} {slip : FreeSegment}
    → IsRightOf shape book table number room account standing slip → begun room.shape account.book room.number ≡ begun shape book number
begun_is right i = begun (right.room_is i).shape (right.account_is i).book (right.room_is i).number

-- the bytes of the blocks of a run, by their addresses
pub bytes_of : {B : Type 0} → (B → List ℕ) → List B → ℕ → List ℕ
bytes_of content blocks a = get_or (map content blocks) (a - 1) []

pub have_own : {B : Type 0} (content : B → List ℕ) (blocks : List B) → HaveBytes content (bytes_of content blocks) blocks
unfolding bytes_of
have_own content blocks k other within =
    let back : k + 1 - 1 ≡ k = omega arith in
    sym (ap (λ i. get_or (map content blocks) i []) back ∙ get_or-map content blocks k other [] within)

-- once no segment is left the table has the tickets of all blocks
pub all_come : (geometry : Geometry) (image : Image) (bytes : ℕ → List ℕ) (tickets : List (Option Placed)) (segments blocks : ℕ) → segments ≡ 0 → blocks ≡ segments * segment_blocks geometry.shape
    → AreTicketsPast geometry image bytes blocks tickets → AreTicketsPast geometry image bytes 0 tickets
all_come geometry image bytes tickets segments blocks none so_many =
    subst (λ k. AreTicketsPast geometry image bytes k tickets) (so_many ∙ (ap (λ k. k * segment_blocks geometry.shape) none ∙ omega arith))

-- before the first segment has its blocks
module _ (geometry : Geometry) (image : Image) (lawful : IsLawful geometry image) (book table : TableId) where
  slip_past : (o : Option LogHead) → IfSome o (IsPlace geometry) → slip_from table geometry.segments o ≡ None
  slip_past None place = refl
  slip_past (Some p) place = ap (λ (b : Bool). if b then None else Some (record { table = table; segment = p.segment })) (lt-ltb p.segment geometry.segments place.0)

  no_log : (k : ℕ) → IfSome (get_or image.logs k None) (IsPlace geometry)
  no_log k = elim (cases_lt k (length image.logs)) [
    | inl low ↦ (lawful 1 (omega arith) (omega arith)).places k None low
    | inr past ↦ subst (λ o. IfSome o (IsPlace geometry)) (sym (get_or_past image.logs k None past)) tt
  ]

  pub segments_begin : (states : List Registered) (free : List FreeSegment) (logs : List (Option OpenSegment)) → states ≡ [] → free ≡ [] → logs ≡ replicate 6 None
      → AreSegmentsFrom geometry image book table geometry.segments states free logs
  segments_begin states free logs none no_slip empty =
      let long = ap length none in record {
        count = omega arith;
        each = λ k other low. absurd (omega arith);
        slips = λ h. ap (weigh h) no_slip ∙ sym (ap (weigh (slip_weight h)) none);
        six = ap length empty;
        opened = λ k. ap (λ ls. get_or ls k None) empty ∙ (all_none 6 k ∙ sym (slip_past (get_or image.logs k None) (no_log k)));
      }

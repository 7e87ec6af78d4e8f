-- Rooms, blocks and slips are popped from the end, so what is left is the front of each list, every item at its own
-- index still; what is popped so stands in falling order.
use Rattle.std.proofs.Common.{◌≡◌, ℕ, zero, suc, ◌+◌, ◌-◌, ◌*◌, ◌<◌, List, [], ◌∷◌, ◌++◌, Option, Some, None, length, get_or, replicate, reverse, refl, sym, ap, ◌∙◌, subst, arith}
use Rattle.std.specs.Prelude.{slice_get}
use Rattle.std.proofs.lemmas.List.{length-append, length-replicate}
use Rattle.device.specs.Parts.{IsBlockRun}
use Rattle.geometry.specs.declared.shape.Shape.{Shape}
use Rattle.geometry.specs.Shape.{segment_blocks, block_bytes}
use Rattle.geometry.specs.Address.{address_of}
use Rattle.geometry.proofs.Indexing.{each_front, each_last, each_push, each_reverse}
use Rattle.sit.specs.Room.{RoomOf}
use Rattle.atomic_table.specs.Seated.{TableId}
use Rattle.rights_books.specs.Accounts.{SegmentView}
use Rattle.words.specs.Tokens.{Post, FreeSegment, OpenSegment, fresh_post, fresh_posts, fresh_slip, fresh_slips}
use Rattle.sit.specs.Segment.{Segment, fresh}
use Rattle.sit.specs.Registered.{Registered}
use Rattle.geometry.specs.declared.owner.Owner.{Owner}
use Rattle.geometry.specs.declared.geometry.Geometry.{Geometry}
use Rattle.area.specs.Cells.{IsOpenOf}
use Rattle.area.specs.Opening.{SegmentsFall, AreSlips, AreOpen}
use Rattle.area.specs.Rooms.{AreRooms, IsBare, BareFallFrom, AreAccounts, ArePosts, SlipsFallFrom}

times-plus : (a b n : ℕ) → (a + b) * n ≡ a * n + b * n
times-plus a b n = omega arith

abbrev pub room_of : Shape → ℕ → RoomOf
room_of shape number = record { shape = shape; number = number }

module _ {B : Type 0} (block_address : B → ℕ) (content_of : B → List ℕ) (shape : Shape) (book table : TableId) (count : ℕ) where
  -- The rooms of the first segments are left, and the others are segments with their blocks.
  pub record Filling (rooms : List RoomOf) (segments : List Registered) (blocks : List B) : Type 0 where
    pub rooms_are : AreRooms shape rooms
    pub so_many : length rooms + length segments ≡ count
    pub falling : BareFallFrom shape book table count segments
    pub run : IsBlockRun block_address content_of (block_bytes shape) 1 blocks
    pub left : length blocks ≡ length rooms * segment_blocks shape

  module _ (rooms rest : List RoomOf) (room : RoomOf) (segments : List Registered) (blocks : List B) (is : Filling rooms segments blocks) (popped : rooms ≡ rest ++ room ∷ []) where
    shorter : length rooms ≡ length rest + 1
    shorter = ap length popped ∙ length-append rest (room ∷ [])

    parted : AreRooms shape (rest ++ room ∷ [])
    parted = subst (AreRooms shape) popped is.rooms_are

    pub room_is : room ≡ room_of shape (length rest)
    room_is = each_last (λ k r. r ≡ room_of shape k) rest room parted

    pub room_last : address_of room.shape room.number (segment_blocks room.shape) ≡ 1 + length blocks
    room_last =
        let last : address_of shape (length rest) (segment_blocks shape) ≡ 1 + length blocks = let s = shorter in let l = is.left in
        let more : (length rest + 1) * segment_blocks shape ≡ length rest * segment_blocks shape + segment_blocks shape = omega arith in
        let here = ap (λ n. n * segment_blocks shape) s in omega arith in
        ap (λ (r : RoomOf). address_of r.shape r.number (segment_blocks r.shape)) room_is ∙ last

    pub filling_goes_on : (segment : Registered) (blocks' : List B) → segment.segment ≡ fresh room.shape room.number segment.segment.contents segment.segment.failed → segment.book ≡ book → segment.table ≡ table → IsBlockRun block_address content_of (block_bytes room.shape) 1 blocks'
        → address_of room.shape room.number 0 ≡ 1 + length blocks' → Filling rest (segments ++ segment ∷ []) blocks'
    filling_goes_on segment blocks' segment_is book_is table_is run first =
        let s = shorter in
        let n = is.so_many in record {
          rooms_are = each_front (λ k r. r ≡ room_of shape k) rest (room ∷ []) parted;
          so_many = let l = length-append segments (segment ∷ []) in omega arith;
          falling = each_push (λ k x. IsBare shape book table (count - 1 - k) x) segments segment is.falling (record {
            shape_is = ap (λ (x : Segment). x.shape) segment_is ∙ ap (λ (r : RoomOf). r.shape) room_is;
            number_is = ap (λ (x : Segment). x.number) segment_is ∙ ap (λ (r : RoomOf). r.number) room_is ∙ omega arith;
            none = ap (λ (x : Segment). x.summaries) segment_is ∙ ap (λ (r : RoomOf). replicate (segment_blocks r.shape) None) room_is;
            book_is = book_is;
            table_is = table_is;
          });
          run = subst (λ (r : RoomOf). IsBlockRun block_address content_of (block_bytes r.shape) 1 blocks') room_is run;
          left = let here = sym (ap (λ (r : RoomOf). address_of r.shape r.number 0) room_is) in omega arith;
        }

get-found : {A : Type 0} (xs : List A) (k : ℕ) (other : A) → k < length xs → slice_get xs k ≡ Some (get_or xs k other)
get-found [] k other within = absurd (omega arith)
get-found (x ∷ xs) zero other within = refl
get-found (x ∷ xs) (suc k) other within = get-found xs k other (omega arith)

pub are_accounts : (book : TableId) (accounts : List SegmentView) → ((k : ℕ) (v : SegmentView) → slice_get accounts k ≡ Some v → v ≡ record { book = book; segment = k; marks = [] })
    → AreAccounts book accounts
are_accounts book accounts are k other within = are k (get_or accounts k other) (get-found accounts k other within)

-- the standings and the slips that new words deal
pub posts_from : (table : TableId) (s n k : ℕ) (other : Post) → k < length (fresh_posts table s n) → get_or (fresh_posts table s n) k other ≡ fresh_post table (s + k)
posts_from table s zero k other within = absurd (omega arith)
posts_from table s (suc n) zero other within = ap (fresh_post table) (omega arith)
posts_from table s (suc n) (suc k) other within = posts_from table (suc s) n k other (omega arith) ∙ ap (fresh_post table) (omega arith)

pub slips_from : (table : TableId) (s n k : ℕ) (other : FreeSegment) → k < length (fresh_slips table s n) → get_or (fresh_slips table s n) k other ≡ fresh_slip table (s + k)
slips_from table s zero k other within = absurd (omega arith)
slips_from table s (suc n) zero other within = ap (fresh_slip table) (omega arith)
slips_from table s (suc n) (suc k) other within = slips_from table (suc s) n k other (omega arith) ∙ ap (fresh_slip table) (omega arith)

pub posts_long : (table : TableId) (s n : ℕ) → length (fresh_posts table s n) ≡ n
posts_long table s zero = refl
posts_long table s (suc n) = let rest = posts_long table (suc s) n in omega arith

pub slips_long : (table : TableId) (s n : ℕ) → length (fresh_slips table s n) ≡ n
slips_long table s zero = refl
slips_long table s (suc n) = let rest = slips_long table (suc s) n in omega arith

pub are_posts : (table : TableId) (posts : List Post) (n : ℕ) → posts ≡ fresh_posts table 0 n → ArePosts table posts
are_posts table posts n is k other within =
    let long = ap length is in ap (λ xs. get_or xs k other) is ∙ (posts_from table 0 n k other (omega arith) ∙ ap (fresh_post table) (omega arith))

-- The first slips are left in rising order, and the others are in falling order.
pub record Storing (table : TableId) (count : ℕ) (slips free : List FreeSegment) : Type 0 where
  pub rising : (k : ℕ) (other : FreeSegment) → k < length slips → get_or slips k other ≡ fresh_slip table k
  pub falling : SlipsFallFrom table count free
  pub so_many : length slips + length free ≡ count

pub storing_begins : (table : TableId) (count : ℕ) (slips free : List FreeSegment) → slips ≡ fresh_slips table 0 count → free ≡ [] → Storing table count slips free
storing_begins table count slips free is none =
    let long = ap length is ∙ slips_long table 0 count in
    let empty = ap length none in record {
      rising = λ k other within. ap (λ xs. get_or xs k other) is ∙ (slips_from table 0 count k other (let same = ap length is in omega arith) ∙ ap (fresh_slip table) (omega arith));
      falling = λ k other within. absurd (omega arith);
      so_many = omega arith;
    }

pub storing_goes_on : (table : TableId) (count : ℕ) (slips rest free : List FreeSegment) (slip : FreeSegment) → Storing table count slips free → slips ≡ rest ++ slip ∷ []
    → Storing table count rest (free ++ slip ∷ [])
storing_goes_on table count slips rest free slip is popped =
    let parted = subst (λ xs. (k : ℕ) (other : FreeSegment) → k < length xs → get_or xs k other ≡ fresh_slip table k) popped is.rising in
    let shorter = ap length popped ∙ length-append rest (slip ∷ []) in
    let n = is.so_many in record {
      rising = each_front (λ k v. v ≡ fresh_slip table k) rest (slip ∷ []) parted;
      falling = each_push (λ k v. v ≡ fresh_slip table (count - 1 - k)) free slip is.falling (each_last (λ k v. v ≡ fresh_slip table k) rest slip parted ∙ ap (fresh_slip table) (omega arith));
      so_many = let l = length-append free (slip ∷ []) in omega arith;
    }

-- segments without a valid block are the volume's
pub bare_falls : (geometry : Geometry) (book table : TableId) (segments : List Registered) → BareFallFrom geometry.shape book table geometry.segments segments → length segments ≡ geometry.segments
    → SegmentsFall geometry book table geometry.segments segments
bare_falls geometry book table segments bare long k other low =
    let b = bare k other low in record {
      within = omega arith;
      shape = b.shape_is;
      number_is = b.number_is;
      sized = ap length b.none ∙ length-replicate {A = Option Owner} (segment_blocks geometry.shape) None;
      book_is = b.book_is;
      table_is = b.table_is;
    }

pub are_slips : (table : TableId) (count : ℕ) (slips : List FreeSegment) → SlipsFallFrom table count slips → AreSlips table slips
are_slips table count slips fall k other low = ap (λ (s : FreeSegment). s.table) (fall k other low)

pub open_turned : (table : TableId) (count : ℕ) (slips : List OpenSegment) → AreOpen table count slips → AreOpen table count (reverse slips)
open_turned table count slips each = each_reverse (λ k s. IsOpenOf table count s) (λ k s. IsOpenOf table count s) slips (length slips) refl (λ k s low is. is) each

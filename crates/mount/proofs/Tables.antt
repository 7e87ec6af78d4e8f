-- New tables are empty, and new rights stand in the order of their segments: the slips, which came in falling order,
-- are turned round to match.
use Rattle.std.proofs.Common.{◌≡◌, ℕ, zero, suc, ◌+◌, ◌-◌, ◌<◌, List, [], ◌∷◌, length, get_or, replicate, reverse, Option, Some, None, refl, sym, ap, ◌∙◌, arith}
use Rattle.std.specs.Prelude.{slice_get}
use Rattle.std.proofs.lemmas.List.{length-reverse}
use Rattle.geometry.specs.Weights.{weigh}
use Rattle.geometry.proofs.Indexing.{EachAt, each_reverse}
use Rattle.atomic_table.specs.Seated.{TableId}
use Rattle.geometry.specs.declared.shape.Shape.{Shape}
use Rattle.rights_books.specs.Accounts.{SegmentView, FileView, AreEmptySegments, AreEmptyFiles}
use Rattle.words.specs.Tokens.{Post, FreeSegment, fresh_post, fresh_posts, fresh_slip}
use Rattle.sit.specs.Room.{RoomOf}
use Rattle.area.specs.Rooms.{AreRooms, SlipsFallFrom}
use Rattle.area.proofs.RoomLemmas.{are_accounts, are_posts, posts_long}
use Rattle.mount_blocks.specs.TreeGoods.{in_place}
use Rattle.mount_blocks.specs.Rights.{AreRights}
use Rattle.mount_blocks.proofs.Tables.{nothing_weighs}
use Rattle.mount.specs.Empty.{AreEmptyAccounts}

-- places where nothing stands
pub empty_table : {A : Type 0} (places : ℕ) (xs : List (Option A)) → xs ≡ replicate places None → weigh (in_place (λ _. 1)) xs ≡ 0
empty_table places xs is = ap (weigh (in_place (λ _. 1))) is ∙ nothing_weighs (λ _. 1) places

found_at : {A : Type 0} (xs : List A) (k : ℕ) (other : A) → k < length xs → slice_get xs k ≡ Some (get_or xs k other)
found_at [] k other within = absurd (omega arith)
found_at (x ∷ xs) zero other within = refl
found_at (x ∷ xs) (suc k) other within = found_at xs k other (omega arith)

pub empty_accounts : (book : TableId) (accounts : List FileView) → AreEmptyFiles book accounts → AreEmptyAccounts book accounts
empty_accounts book accounts are k other low = are k (get_or accounts k other) (found_at accounts k other low)

-- the slips of the segments, turned round
slips_turned : (table : TableId) (n : ℕ) (free : List FreeSegment) → length free ≡ n → SlipsFallFrom table n free → EachAt (λ k s. s ≡ fresh_slip table k) (reverse free)
slips_turned table n free long fall =
    each_reverse (λ k s. s ≡ fresh_slip table (n - 1 - k)) (λ k s. s ≡ fresh_slip table k) free n long
    (λ k s low is. is ∙ (let back : n - 1 - (n - 1 - k) ≡ k = omega arith in ap (fresh_slip table) back)) fall

pub rights_made : (shape : Shape) (book table : TableId) (n : ℕ) (rooms : List RoomOf) (accounts : List SegmentView) (standings : List Post) (free slips : List FreeSegment)
    → AreRooms shape rooms → length rooms ≡ n → AreEmptySegments book accounts → length accounts ≡ n → standings ≡ fresh_posts table 0 n
    → SlipsFallFrom table n free → length free ≡ n → slips ≡ reverse free → AreRights shape book table rooms accounts standings slips
rights_made shape book table n rooms accounts standings free slips rooms_are count accounts_are many posts fall long turned =
    let posts_count = ap length posts ∙ posts_long table 0 n in
    let slips_count = ap length turned ∙ length-reverse free in
    record {
      rooms_are = rooms_are;
      accounts_are = are_accounts book accounts accounts_are;
      standings_are = are_posts table standings n posts;
      slips_are = rw turned (slips_turned table n free long fall);
      accounts_count = omega arith;
      standings_count = omega arith;
      slips_count = omega arith;
    }

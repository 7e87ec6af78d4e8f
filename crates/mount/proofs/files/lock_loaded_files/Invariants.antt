use Rattle.std.proofs.Common.{◌≡◌, ℕ, ◌+◌, ◌<◌, ◌≤◌, List, None, length, get_or, map, vec_len, vec_capacity}
use Rattle.std.specs.Vec.Iter.{into_iter_items, into_iter_len}
use Rattle.image.specs.View.{image_view}
use Rattle.mount_blocks.specs.Goods.{AreGoods}
use Rattle.mount.specs.Lodged.{HasLodged}
use Rattle.mount.proofs.Rest.{EachFrom}
use Rattle.mount.proofs.Passes.{shown, files_to}
use Rattle.mount.proofs.files.lock_loaded_files.Given as goal

abbrev pub invariant-accounts : goal.invariant-accounts
invariant-accounts g l =
    (vec_len l.cells + length (into_iter_items l.account-iterator) ≡ l.geometry.files) × (into_iter_len l.account-iterator ≡ length (into_iter_items l.account-iterator))
    × EachFrom (λ k account. HasLodged l.books.book (image_view l.image) l.stock.all (k + 1) account) (vec_len l.cells) (into_iter_items l.account-iterator)
    × (length l.rest.items ≡ l.geometry.files + 1)
    × ((k : ℕ) → vec_len l.cells < k → get_or l.rest.items k None ≡ get_or l.fn.files.items k None)
    × ((k : ℕ) → k ≤ vec_len l.cells → get_or l.rest.items k None ≡ None)
    × (l.geometry.files ≤ vec_capacity l.cells) × (l.geometry.files ≤ vec_capacity l.passes) × (vec_len l.passes ≤ vec_len l.cells)
    × ((bytes : ℕ → List ℕ) → AreGoods l.geometry (image_view l.image) bytes l.stock.all.tickets l.stock.all.tokens → map shown l.passes.items ≡ files_to l.geometry (image_view l.image) bytes (vec_len l.cells))

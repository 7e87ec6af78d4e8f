-- The memory was made for these books, so the blocks are loaded with the bytes that the device had: what the passes show are
-- the image's files over those bytes.
use Rattle.std.proofs.Common.{◌≡◌, ℕ, List, sym, ap, subst, ◌∙◌}
use Rattle.rights_books.specs.ClaimRules.{Ruled}
use Rattle.rights_books.specs.declared.claim.Layout.{Layout}
use Rattle.rights_books.specs.Accounts.{FileView}
use Rattle.image_codec.specs.Blocks.{bytes_at}
use Rattle.mount.specs.Empty.{AreEmptyAccounts}
use Rattle.mount.proofs.Passes.{have_bytes}
use Rattle.mount.proofs.locked.load_locks.Goals as goal

pub load_volume-loaded-requires-clause-accounts : goal.load_volume-loaded-requires-clause-accounts
load_volume-loaded-requires-clause-accounts g c =
    let same = ap (λ (b : Ruled Layout). b.book) (sym c.books.ensures) in
    subst (λ b. AreEmptyAccounts b c.args.memory.accounts.items) same c.requires.memory.accounts

pub lock_loaded_files-files-requires-clause-blocks : goal.lock_loaded_files-files-requires-clause-blocks
lock_loaded_files-files-requires-clause-blocks g c =
    let content = g.B.Block.content_of in
    let blocks = c.args.blocks.now.items in
    (bytes_at content blocks, c.requires.nodes, c.load_volume-loaded.ensures.goods (bytes_at content blocks) (have_bytes content blocks))

pub lock_loaded_files-files-requires-clause-accounts : goal.lock_loaded_files-files-requires-clause-accounts
lock_loaded_files-files-requires-clause-accounts g c =
    let loaded = c.load_volume-loaded.ensures in
    let same = ap (λ (b : Ruled Layout). b.book) (c.books.ensures ∙ sym c.books-2.ensures.books) in
    λ k other low.
    (let account = loaded.accounts k other low in
    record {
      book_is = ap (λ (v : FileView). v.book) account ∙ same;
      inode_is = ap (λ (v : FileView). v.inode) account;
      none = ap (λ (v : FileView). v.content) account;
      tickets = loaded.lodged_tickets k other low;
      tokens = loaded.lodged_tokens k other low;
    })

pub returns-clause-passes : goal.returns-clause-passes
returns-clause-passes g c =
    let content = g.B.Block.content_of in
    let blocks = c.args.blocks.now.items in
    c.lock_loaded_files-files.ensures.passes (bytes_at content blocks) (c.load_volume-loaded.ensures.goods (bytes_at content blocks) (have_bytes content blocks))

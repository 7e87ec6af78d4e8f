-- The inode's block, its data blocks and the five places are parts of what the file names, so each finds its rights in
-- what the ones before left in the stock.
use Rattle.std.proofs.Common.{◌≡◌, ℕ, ◌+◌, ◌<◌, ◌≤◌, None, [], ◌∷◌, Some, ap, sym, subst, ◌∙◌, refl, arith}
use Rattle.std.specs.Prelude.{slice_index_or, slice_set}
use Rattle.geometry.specs.declared.owner.Mark.{Mark}
use Rattle.rights_books.specs.declared.claim.TakenNumber.{TakenNumber}
use Rattle.rights_books.specs.Weights.{mark_of}
use Rattle.tickets.specs.Placed.{Placed}
use Rattle.image.specs.Image.{Image}
use Rattle.image.specs.Walk.{child, node_name}
use Rattle.image.specs.View.{image_view}
use Rattle.mount_blocks.specs.TreeGoods.{Goods, AreLeft, ArePlaced, marks_weight}
use Rattle.mount_blocks.specs.Loaded.{name_weight, weigh_from, AreLoaded}
use Rattle.mount_blocks.proofs.Stocks.{is_there, same_one, token_there, token_trades}
use Rattle.mount_blocks.specs.FileLoaded.{file_names, fits_direct, fits_indirect, fits_double, loaded_ticket, loaded_direct, loaded_indirect, loaded_double}
use Rattle.mount_blocks.proofs.file_tree.load_file.Goals as goal

abbrev mark : Placed → Mark
mark t = t.mark

-- the token of the inode that is loaded is there, and is of the inode's block
inode_there : (image : Image) (inode : ℕ) (goods : Goods Placed) → AreLeft goods.tickets goods.all.tickets → AreLeft goods.tokens goods.all.tokens → ArePlaced mark goods.all
    → ((h : Mark → ℕ) → file_names image h inode ≤ marks_weight mark h goods)
    → (e : TakenNumber) × (slice_index_or goods.tokens inode None ≡ Some e) × (mark_of e ≡ node_name image inode)
inode_there image inode goods tickets tokens placed there =
    token_there mark goods tickets tokens placed (node_name image inode) inode refl (λ h. let all = there h in omega arith)

-- the inode's token is of its block
token_named : (image : Image) (inode : ℕ) (goods : Goods Placed) → AreLeft goods.tickets goods.all.tickets → AreLeft goods.tokens goods.all.tokens → ArePlaced mark goods.all
    → ((h : Mark → ℕ) → file_names image h inode ≤ marks_weight mark h goods)
    → (token : TakenNumber) → slice_index_or goods.tokens inode None ≡ Some token → mark_of token ≡ node_name image inode
token_named image inode goods tickets tokens placed there token at =
    let found = inode_there image inode goods tickets tokens placed there in
    same_one (λ e. mark_of e ≡ node_name image inode) (slice_index_or goods.tokens inode None) found.0 token found.1 at found.2

-- the block of the inode goes with its token
inode_went : (image : Image) (inode : ℕ) (goods left : Goods Placed) → AreLeft goods.tickets goods.all.tickets → AreLeft goods.tokens goods.all.tokens → ArePlaced mark goods.all
    → ((h : Mark → ℕ) → file_names image h inode ≤ marks_weight mark h goods)
    → (token : TakenNumber) → left ≡ record goods { tokens = slice_set goods.tokens inode None } → slice_index_or goods.tokens inode None ≡ Some token
    → (h : Mark → ℕ) → marks_weight mark h left + h (node_name image inode) ≡ marks_weight mark h goods
inode_went image inode goods left tickets tokens placed there token new at h =
    let name = ap h (token_named image inode goods tickets tokens placed there token at) in
    let went = token_trades goods left inode token new at (λ t. h (mark t)) (λ e. h (mark_of e)) in
    omega arith

pub take_token-token-requires : goal.take_token-token-requires
take_token-token-requires g c =
    let found = inode_there (image_view c.args.image.now) c.args.inode c.args.stock.now c.law.ensures.tickets c.law.ensures.tokens c.requires.placed c.requires.there in
    record { there = is_there (slice_index_or c.args.stock.now.tokens c.args.inode None) found.0 found.1 }

pub load_entries-tickets-requires-clause-there : goal.load_entries-tickets-requires-clause-there
load_entries-tickets-requires-clause-there g c = λ h.
    let went = inode_went (image_view c.args.image.now) c.args.inode c.args.stock.now c.take_token-token.new.self c.law.ensures.tickets c.law.ensures.tokens c.requires.placed c.requires.there c.take_token-token.result c.take_token-token.ensures.stock c.take_token-token.ensures.token h in
    let here = ap (weigh_from (name_weight h c.args.inode) 0) (c.deref.ensures.value ∙ ap (λ n. n.addresses) c.in-Some.ensures) in
    let all = c.requires.there h in
    omega arith

-- the marks that are left after the data blocks of the inode
pub load_pair-direct-requires-clause-there : goal.load_pair-direct-requires-clause-there
load_pair-direct-requires-clause-there g c = λ h.
    let went = inode_went (image_view c.args.image.now) c.args.inode c.args.stock.now c.take_token-token.new.self c.law.ensures.tickets c.law.ensures.tokens c.requires.placed c.requires.there c.take_token-token.result c.take_token-token.ensures.stock c.take_token-token.ensures.token h in
    let here = ap (weigh_from (name_weight h c.args.inode) 0) (c.deref.ensures.value ∙ ap (λ n. n.addresses) c.in-Some.ensures) in
    let all = c.requires.there h in
    let first = c.load_entries-tickets.ensures.taken h in
    omega arith

pub load_pair-indirect-requires-clause-there : goal.load_pair-indirect-requires-clause-there
load_pair-indirect-requires-clause-there g c = λ h.
    let went = inode_went (image_view c.args.image.now) c.args.inode c.args.stock.now c.take_token-token.new.self c.law.ensures.tickets c.law.ensures.tokens c.requires.placed c.requires.there c.take_token-token.result c.take_token-token.ensures.stock c.take_token-token.ensures.token h in
    let here = ap (weigh_from (name_weight h c.args.inode) 0) (c.deref.ensures.value ∙ ap (λ n. n.addresses) c.in-Some.ensures) in
    let all = c.requires.there h in
    let first = c.load_entries-tickets.ensures.taken h in
    let second = c.load_pair-direct.ensures.taken h in
    omega arith

pub load_last-double-requires-clause-there : goal.load_last-double-requires-clause-there
load_last-double-requires-clause-there g c = λ h.
    let went = inode_went (image_view c.args.image.now) c.args.inode c.args.stock.now c.take_token-token.new.self c.law.ensures.tickets c.law.ensures.tokens c.requires.placed c.requires.there c.take_token-token.result c.take_token-token.ensures.stock c.take_token-token.ensures.token h in
    let here = ap (weigh_from (name_weight h c.args.inode) 0) (c.deref.ensures.value ∙ ap (λ n. n.addresses) c.in-Some.ensures) in
    let all = c.requires.there h in
    let first = c.load_entries-tickets.ensures.taken h in
    let second = c.load_pair-direct.ensures.taken h in
    let third = c.load_pair-indirect.ensures.taken h in
    omega arith

pub load_pair-direct-requires-clause-fits : goal.load_pair-direct-requires-clause-fits
load_pair-direct-requires-clause-fits g c =
    let fits = subst (λ e. (k : ℕ) → k < 2 → fits_direct (image_view c.args.image.now) e c.args.inode (child (image_view c.args.image.now) c.args.inode k)) (sym c.node_entries-entries.ensures) c.requires.fits.direct in
    (c.args.inode, fits 0 (omega arith), fits 1 (omega arith), λ h. absurd (omega arith))

pub load_pair-indirect-requires-clause-fits : goal.load_pair-indirect-requires-clause-fits
load_pair-indirect-requires-clause-fits g c =
    let fits = subst (λ e. (k : ℕ) → k < 2 → fits_indirect (image_view c.args.image.now) e c.args.inode (child (image_view c.args.image.now) c.args.inode (2 + k))) (sym c.node_entries-entries.ensures) c.requires.fits.indirect in
    (c.args.inode, fits 0 (omega arith), fits 1 (omega arith), λ h. absurd (omega arith))

pub load_last-double-requires-clause-fits : goal.load_last-double-requires-clause-fits
load_last-double-requires-clause-fits g c =
    let fits = subst (λ e. fits_double (image_view c.args.image.now) e c.args.inode (child (image_view c.args.image.now) c.args.inode 4)) (sym c.node_entries-entries.ensures) c.requires.fits.double in
    (c.args.inode, fits, λ h. absurd (omega arith))

pub returns-clause-loaded : goal.returns-clause-loaded
returns-clause-loaded g c =
    let image = image_view c.args.image.now in
    let inode = c.args.inode in
    let name = token_named image inode c.args.stock.now c.law.ensures.tickets c.law.ensures.tokens c.requires.placed c.requires.there c.take_token-token.result c.take_token-token.ensures.token in
    let first : c.take_token-token.new.self.all ≡ c.args.stock.now.all = ap (λ s. s.all) c.take_token-token.ensures.stock in
    let second = c.load_entries-tickets.ensures.all ∙ first in
    let third = c.load_pair-direct.ensures.all ∙ second in
    let fourth = c.load_pair-indirect.ensures.all ∙ third in
    let addresses = c.deref.ensures.value ∙ ap (λ n. n.addresses) c.in-Some.ensures in
    record {
      shape_is = refl;
      kind_is = ap (λ n. n.kind) c.in-Some.ensures;
      length_is = ap (λ n. n.length) c.in-Some.ensures;
      token = c.take_token-token.ensures.first;
      number_is = c.requires.placed.numbers inode c.take_token-token.result c.take_token-token.ensures.first;
      address = ap (λ m. m.address) name;
      unsized = refl;
      clean_tickets = c.load_entries-tickets.ensures.clean;
      clean_direct = c.load_pair-direct.ensures.clean;
      clean_indirect = c.load_pair-indirect.ensures.clean;
      clean_double = c.load_last-double.ensures.clean;
      tickets = subst (λ ns. AreLoaded (loaded_ticket c.args.stock.now.all inode) ns c.load_entries-tickets.result.slots.items) addresses
          (subst (λ all. AreLoaded (loaded_ticket all inode) c.deref.result.now c.load_entries-tickets.result.slots.items) first c.load_entries-tickets.ensures.loaded);
      direct = subst (λ all. AreLoaded (λ _ n v. loaded_direct image all n v) (child image inode 0 ∷ child image inode 1 ∷ []) c.load_pair-direct.result.slots.items) second c.load_pair-direct.ensures.loaded;
      indirect = subst (λ all. AreLoaded (λ _ n v. loaded_indirect image all n v) (child image inode 2 ∷ child image inode 3 ∷ []) c.load_pair-indirect.result.slots.items) third c.load_pair-indirect.ensures.loaded;
      double = subst (λ all. AreLoaded (λ _ n v. loaded_double image all n v) (child image inode 4 ∷ []) c.load_last-double.result.slots.items) fourth c.load_last-double.ensures.loaded;
    }

pub returns-clause-taken : goal.returns-clause-taken
returns-clause-taken g c = λ h.
    let went = inode_went (image_view c.args.image.now) c.args.inode c.args.stock.now c.take_token-token.new.self c.law.ensures.tickets c.law.ensures.tokens c.requires.placed c.requires.there c.take_token-token.result c.take_token-token.ensures.stock c.take_token-token.ensures.token h in
    let here = ap (weigh_from (name_weight h c.args.inode) 0) (c.deref.ensures.value ∙ ap (λ n. n.addresses) c.in-Some.ensures) in
    let first = c.load_entries-tickets.ensures.taken h in
    let second = c.load_pair-direct.ensures.taken h in
    let third = c.load_pair-indirect.ensures.taken h in
    let fourth = c.load_last-double.ensures.taken h in
    omega arith

pub returns-clause-trades : goal.returns-clause-trades
returns-clause-trades g c = λ ticket token.
    let went = token_trades c.args.stock.now c.take_token-token.new.self c.args.inode c.take_token-token.result c.take_token-token.ensures.stock c.take_token-token.ensures.token ticket token in
    let first = c.load_entries-tickets.ensures.trades ticket token in
    let second = c.load_pair-direct.ensures.trades ticket token in
    let third = c.load_pair-indirect.ensures.trades ticket token in
    let fourth = c.load_last-double.ensures.trades ticket token in
    omega arith

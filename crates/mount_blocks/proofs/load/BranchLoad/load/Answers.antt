-- A number that isn't 0 names the node's block and what its entries name: so its token is in the stock, and after it
-- what its entries take.
use Rattle.std.proofs.Common.{◌≡◌, ℕ, ◌<◌, ◌≤◌, Bool, None, Some, List, ap, sym, subst, ◌∙◌, refl, arith}
use Rattle.std.specs.Prelude.{slice_index, slice_index_or}
use Rattle.geometry.specs.declared.owner.Mark.{Mark}
use Rattle.rights_books.specs.declared.claim.TakenNumber.{TakenNumber}
use Rattle.rights_books.specs.Weights.{mark_of}
use Rattle.image.specs.Image.{Image, node_of}
use Rattle.image.specs.Walk.{node_name}
use Rattle.image.specs.View.{image_view}
use Rattle.mount_blocks.specs.TreeGoods.{Goods, AreLeft, ArePlaced, marks_weight}
use Rattle.mount_blocks.specs.Loaded.{names_below, numbers_in, weigh_from, AreLoaded}
use Rattle.mount_blocks.proofs.Stocks.{is_there, same_one, token_there, token_trades, token_mark, node_names}
use Rattle.mount_blocks.proofs.load.BranchLoad.load.Goals as goal

-- the token of a node that is loaded is there, and is of the node's block
token_named : {L : Type 0} (mark : L → Mark) (is_leaf : Bool) (names : (Mark → ℕ) → ℕ → ℕ → ℕ → ℕ) (image : Image) (n : ℕ) (goods : Goods L)
    → AreLeft goods.tickets goods.all.tickets → AreLeft goods.tokens goods.all.tokens → ArePlaced mark goods.all
    → ((h : Mark → ℕ) → names_below is_leaf (names h) image h n ≤ marks_weight mark h goods) → 0 < n
    → (e : TakenNumber) × (slice_index_or goods.tokens n None ≡ Some e) × (mark_of e ≡ node_name image n)
token_named mark is_leaf names image n goods tickets tokens placed there positive =
    token_there mark goods tickets tokens placed (node_name image n) n refl
    (λ h. let all = there h in let parts = node_names is_leaf (names h) image h n positive in omega arith)

-- the token that was taken is of the node's block
token_is : {L : Type 0} (mark : L → Mark) (is_leaf : Bool) (names : (Mark → ℕ) → ℕ → ℕ → ℕ → ℕ) (image : Image) (n : ℕ) (goods : Goods L)
    → AreLeft goods.tickets goods.all.tickets → AreLeft goods.tokens goods.all.tokens → ArePlaced mark goods.all
    → ((h : Mark → ℕ) → names_below is_leaf (names h) image h n ≤ marks_weight mark h goods) → 0 < n
    → (t : TakenNumber) → slice_index_or goods.tokens n None ≡ Some t → mark_of t ≡ node_name image n
token_is mark is_leaf names image n goods tickets tokens placed there positive t taken =
    let found = token_named mark is_leaf names image n goods tickets tokens placed there positive in
    same_one (λ e. mark_of e ≡ node_name image n) (slice_index_or goods.tokens n None) found.0 t found.1 taken found.2

pub take_token-token-requires : goal.take_token-token-requires
take_token-token-requires g c =
    let image = image_view c.args.image.now in
    let n = c.args.number in
    let positive : 0 < n = (rw c.in-Some.is at c.requires.room).0 in
    let found = token_named g.C.Load.mark_of g.C.Subtree.is_leaf (g.C.Load.names image) image n c.args.stock.now c.law.ensures.tickets c.law.ensures.tokens c.requires.placed c.requires.there positive in
    record { there = is_there (slice_index_or c.args.stock.now.tokens n None) found.0 found.1 }

pub load_entries-entries-requires-clause-fits : goal.load_entries-entries-requires-clause-fits
load_entries-entries-requires-clause-fits g c =
    let image = image_view c.args.image.now in
    let n = c.args.number in
    let positive : 0 < n = (rw c.in-Some.is at c.requires.room).0 in
    let numbers : c.numbers_of-numbers.result.now ≡ numbers_in g.C.Subtree.is_leaf (node_of image n) = c.numbers_of-numbers.ensures ∙ ap (numbers_in g.C.Subtree.is_leaf) c.in-Some-node.ensures in
    let fits = c.requires.fits in
    let node = fits.1 positive in
    (fits.0, subst (λ (ns : List ℕ). (k : ℕ) → g.C.Load.fits image c.args.entries fits.0 (slice_index ns k)) (sym numbers) node.below)

pub load_entries-entries-requires-clause-there : goal.load_entries-entries-requires-clause-there
load_entries-entries-requires-clause-there g c = λ h.
    let image = image_view c.args.image.now in
    let n = c.args.number in
    let positive : 0 < n = (rw c.in-Some.is at c.requires.room).0 in
    let numbers : c.numbers_of-numbers.result.now ≡ numbers_in g.C.Subtree.is_leaf (node_of image n) = c.numbers_of-numbers.ensures ∙ ap (numbers_in g.C.Subtree.is_leaf) c.in-Some-node.ensures in
    let mark = token_is g.C.Load.mark_of g.C.Subtree.is_leaf (g.C.Load.names image) image n c.args.stock.now c.law.ensures.tickets c.law.ensures.tokens c.requires.placed c.requires.there positive c.take_token-token.result c.take_token-token.ensures.token in
    let same = ap h mark in
    let went = token_trades c.args.stock.now c.take_token-token.new.self n c.take_token-token.result c.take_token-token.ensures.stock c.take_token-token.ensures.token (λ t. h (g.C.Load.mark_of t)) (λ e. h (mark_of e)) in
    let all = c.requires.there h in
    let parts = node_names g.C.Subtree.is_leaf (g.C.Load.names image h) image h n positive in
    let here = ap (weigh_from (g.C.Load.names image h n) 0) numbers in
    omega arith

pub returns-clause-loaded : goal.returns-clause-loaded
returns-clause-loaded g c =
    let image = image_view c.args.image.now in
    let n = c.args.number in
    let positive : 0 < n = (rw c.in-Some.is at c.requires.room).0 in
    let numbers : c.numbers_of-numbers.result.now ≡ numbers_in g.C.Subtree.is_leaf (node_of image n) = c.numbers_of-numbers.ensures ∙ ap (numbers_in g.C.Subtree.is_leaf) c.in-Some-node.ensures in
    let mark = token_is g.C.Load.mark_of g.C.Subtree.is_leaf (g.C.Load.names image) image n c.args.stock.now c.law.ensures.tickets c.law.ensures.tokens c.requires.placed c.requires.there positive c.take_token-token.result c.take_token-token.ensures.token in
    let all = ap (λ s. s.all) c.take_token-token.ensures.stock in
    let slots = c.load_entries-entries.result.slots.items in
    record {
      some = positive;
      token = c.take_token-token.ensures.first;
      number_is = c.requires.placed.numbers n c.take_token-token.result c.take_token-token.ensures.first;
      address = ap (λ m. m.address) mark;
      clean = c.load_entries-entries.ensures.clean;
      none_below = c.load_entries-entries.ensures.none_below;
      below = subst (λ ns. AreLoaded (g.C.Load.loaded image c.args.stock.now.all n) ns slots) numbers
          (subst (λ s. AreLoaded (g.C.Load.loaded image s n) c.numbers_of-numbers.result.now slots) all c.load_entries-entries.ensures.loaded);
    }

pub returns-clause-taken : goal.returns-clause-taken
returns-clause-taken g c = λ h.
    let image = image_view c.args.image.now in
    let n = c.args.number in
    let positive : 0 < n = (rw c.in-Some.is at c.requires.room).0 in
    let numbers : c.numbers_of-numbers.result.now ≡ numbers_in g.C.Subtree.is_leaf (node_of image n) = c.numbers_of-numbers.ensures ∙ ap (numbers_in g.C.Subtree.is_leaf) c.in-Some-node.ensures in
    let loaded = returns-clause-loaded g c in
    let mark : mark_of c.take_token-token.result ≡ node_name image n = token_mark c.take_token-token.result (node_name image n) n loaded.number_is loaded.address refl in
    let same = ap h mark in
    let went = token_trades c.args.stock.now c.take_token-token.new.self n c.take_token-token.result c.take_token-token.ensures.stock c.take_token-token.ensures.token (λ t. h (g.C.Load.mark_of t)) (λ e. h (mark_of e)) in
    let parts = node_names g.C.Subtree.is_leaf (g.C.Load.names image h) image h n positive in
    let here = ap (weigh_from (g.C.Load.names image h n) 0) numbers in
    let below = c.load_entries-entries.ensures.taken h in
    omega arith

pub returns-clause-trades : goal.returns-clause-trades
returns-clause-trades g c = λ ticket token.
    let went = token_trades c.args.stock.now c.take_token-token.new.self c.args.number c.take_token-token.result c.take_token-token.ensures.stock c.take_token-token.ensures.token ticket token in
    let below = c.load_entries-entries.ensures.trades ticket token in
    omega arith

-- The files take what stands in the stock, so its shelves still weigh what the files do.
use Rattle.std.proofs.Common.{◌≡◌, ℕ, ◌+◌, sym, ap, subst, ◌∙◌, arith}
use Rattle.rights_books.specs.Weights.{mark_of}
use Rattle.rights_books.specs.declared.claim.TakenNumber.{TakenNumber}
use Rattle.image.specs.View.{image_view}
use Rattle.mount_blocks.specs.TreeGoods.{Shelves, in_place}
use Rattle.mount_blocks.specs.Loaded.{of_rights}
use Rattle.nodes.specs.File.{weight_of}
use Rattle.geometry.specs.Weights.{weigh}
use Rattle.tickets.specs.Placed.{Placed}
use Rattle.mount_blocks.specs.Goods.{AreGoods}
use Rattle.mount.proofs.loading_all.load_all_files.Goals as goal

pub load_files-requires-clause-marks : goal.load_files-requires-clause-marks
load_files-requires-clause-marks g c =
    λ h. (let tickets = ap (weigh (in_place (λ (p : Placed). h p.mark))) c.of-stock.ensures.tickets in
    let tokens = ap (weigh (in_place (λ (e : TakenNumber). h (mark_of e)))) c.of-stock.ensures.tokens in
    let marks = c.requires.marks h in
    omega arith)

pub tell_all_lodged-requires-clause-goods : goal.tell_all_lodged-requires-clause-goods
tell_all_lodged-requires-clause-goods g c =
    let shelves = c.load_files.ensures.all ∙ c.of-stock.ensures.all in
    let goods = c.requires.goods in
    (goods.0, subst (λ (s : Shelves Placed). AreGoods c.args.geometry.now (image_view c.args.image.now) goods.0 s.tickets s.tokens) (sym shelves) goods.1)

pub tell_all_lodged-requires-clause-all : goal.tell_all_lodged-requires-clause-all
tell_all_lodged-requires-clause-all g c =
    let shelves = c.load_files.ensures.all ∙ c.of-stock.ensures.all in
    λ ticket token. (let files = ap (weigh (in_place (λ f. weight_of f (of_rights ticket token)))) c.deref.ensures.value in
    let trades = c.load_files.ensures.trades ticket token in
    let one = ap (λ (s : Shelves Placed). weigh (in_place ticket) s.tickets) shelves in
    let two = ap (λ (s : Shelves Placed). weigh (in_place token) s.tokens) shelves in
    let three = ap (weigh (in_place ticket)) c.of-stock.ensures.tickets in
    let four = ap (weigh (in_place token)) c.of-stock.ensures.tokens in
    omega arith)

pub returns-clause-all : goal.returns-clause-all
returns-clause-all g c =
    let shelves = c.load_files.ensures.all ∙ c.of-stock.ensures.all in
    λ ticket token. (let trades = c.load_files.ensures.trades ticket token in
    let one = ap (λ (s : Shelves Placed). weigh (in_place ticket) s.tickets) shelves in
    let two = ap (λ (s : Shelves Placed). weigh (in_place token) s.tokens) shelves in
    let three = ap (weigh (in_place ticket)) c.of-stock.ensures.tickets in
    let four = ap (weigh (in_place token)) c.of-stock.ensures.tokens in
    omega arith)

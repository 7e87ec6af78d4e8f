-- The account, the place in the table and the number of locks made go up together, so each file meets its own account;
-- taken files leave an empty table, and passes show the image's files.
use Rattle.std.proofs.Common.{◌≡◌, ℕ, suc, ◌+◌, ◌<◌, ◌≤◌, List, [], ◌∷◌, Some, None, length, get_or, map, vec_len, refl, sym, ap, subst, ◌∙◌, arith, rules}
use Rattle.std.proofs.lemmas.List.{get_or_default, length-set}
use Rattle.std.specs.Vec.Iter.{into_iter_items}
use Rattle.rights_books.specs.ClaimRules.{Ruled}
use Rattle.rights_books.specs.declared.claim.Layout.{Layout}
use Rattle.rights_books.specs.Accounts.{FileView}
use Rattle.geometry.specs.declared.geometry.Geometry.{Geometry}
use Rattle.image.specs.View.{image_view}
use Rattle.mount.specs.MountFiles.{StandsFor, HasFile}
use Rattle.mount_blocks.specs.FileLoaded.{IsLoadedFile}
use Rattle.mount.specs.Lodged.{HasLodged}
use Rattle.mount.proofs.Rest.{EachFrom, begin_from, first_of, rest_of, later_kept, gone_kept, all_gone, first_none}
use Rattle.mount.proofs.Passes.{shown, files_to, passes_kept, lodged_by}
use Rattle.mount.proofs.files.lock_loaded_files.Given as given
use Rattle.mount.proofs.files.lock_loaded_files.Goals as goal

pub own_file-cell-requires-clause-account : goal.own_file-cell-requires-clause-account
own_file-cell-requires-clause-account g c =
    let at = c.accounts in
    let i = at.invariant in
    let has = first_of (λ k account. HasLodged c.args.books.now.book (image_view c.args.image.now) c.args.stock.now.all (k + 1) account) (vec_len at.cells) (into_iter_items at.account-iterator) (into_iter_items c.next.new.self) c.in-Some.account c.in-Some.ensures.steps.0 i.2 in
    (has.book_is ∙ ap (λ (b : Ruled Layout). b.book) c.requires.books, has.inode_is ∙ sym (ap (λ n. n + 1) c.len.ensures), has.none)

-- what is taken out of the table stood there at first for the inode
taken_out : (g : given.Over) (c : goal.After-rest-in-accounts-1 g) → c.take-found.result ≡ get_or c.args.files.items (c.len.result + 1) None
taken_out g c =
    let at = c.accounts in
    let i = at.invariant in
    let n : ℕ = c.len.result + 1 in
    let count = c.len.ensures in
    let short = ap (λ l. length l) c.in-Some.ensures.steps.0 in
    let sum = i.0 in
    let places = i.3 in
    c.take-found.ensures.value ∙ (c.index_mut.ensures.value ∙ (get_or_default at.rest.items n c.index_mut.result.now None (omega arith) ∙ i.4 n (omega arith)))

pub own_file-cell-requires-clause-found : goal.own_file-cell-requires-clause-found
own_file-cell-requires-clause-found g c =
    let is = taken_out g c in
    rw is (c.requires.files.each (c.len.result + 1))

pub own_file-cell-requires-clause-lodged : goal.own_file-cell-requires-clause-lodged
own_file-cell-requires-clause-lodged g c =
    let at = c.accounts in
    let i = at.invariant in
    let files = c.args.files.items in
    let book = c.args.books.now.book in
    let image = image_view c.args.image.now in
    let all = c.args.stock.now.all in
    let n : ℕ = c.len.result + 1 in
    let count = c.len.ensures in
    let has = first_of (λ k account. HasLodged book image all (k + 1) account) (vec_len at.cells) (into_iter_items at.account-iterator) (into_iter_items c.next.new.self) c.in-Some.account c.in-Some.ensures.steps.0 i.2 in
    let own : HasLodged book image all n c.in-Some.account = subst (λ k. HasLodged book image all (k + 1) c.in-Some.account) (sym count) has in
    lodged_by c.args.geometry.now image c.requires.lawful c.requires.blocks.0 all c.requires.blocks.2 files c.requires.files c.requires.all book n c.in-Some.account own c.take-found.result (sym (taken_out g c))

pub accounts-init : goal.accounts-init
accounts-init g c =
    let none = c.args.frames.no_cells in
    let passes = c.args.frames.no_passes in
    let files = c.requires.files in
    let empty : vec_len c.args.frames.passes ≡ 0 = c.args.frames.passes.ok.0 ∙ ap length passes in (
      search rules,
      search rules,
      subst (λ m. EachFrom (λ k account. HasLodged c.args.books.now.book (image_view c.args.image.now) c.args.stock.now.all (k + 1) account) m (into_iter_items c.into_iter-account-iterator.result)) (sym none)
          (begin_from (λ k account. HasLodged c.args.books.now.book (image_view c.args.image.now) c.args.stock.now.all (k + 1) account) (into_iter_items c.into_iter-account-iterator.result) (search rules)),
      files.places,
      λ k high. refl,
      λ k low.
          (let zero_is : k ≡ 0 = omega arith in
          ap (λ j. get_or c.args.files.items j None) zero_is ∙ first_none c.args.files.items (λ x some. (let has = ((files.each 0).right x some).0.low in omega arith))),
      (let fit = c.args.frames.cells_fit in let same = ap (λ (x : Geometry). x.files) c.requires.geometry in omega arith),
      (let fit = c.args.frames.passes_fit in let same = ap (λ (x : Geometry). x.files) c.requires.geometry in omega arith),
      omega arith,
      λ bytes goods. (ap (map shown) passes ∙ sym (ap (files_to c.args.geometry.now (image_view c.args.image.now) bytes) none)),
    )

pub accounts-preserved : goal.accounts-preserved
accounts-preserved g c =
    let at = c.accounts in
    let i = at.invariant in
    let geometry = c.args.geometry.now in
    let image = image_view c.args.image.now in
    let all = c.args.stock.now.all in
    let book = c.args.books.now.book in
    let P : ℕ → FileView → Type 0 = λ k account. HasLodged book image all (k + 1) account in
    let steps = c.in-Some.ensures.steps in
    let short = ap (λ l. length l) steps.0 in
    let gone = steps.1 in
    let count = c.len.ensures in
    let more = c.push_reserved.ensures.len in
    let room = c.push_reserved.ensures.capacity in
    let sum = i.0 in
    let places = i.3 in
    let next : vec_len c.push_reserved.new.self ≡ c.len.result + 1 = omega arith in
    let later = later_kept at.rest.items c.args.files.items c.len.result c.take-found.new.self c.take-found.ensures.after (omega arith) (λ k high. i.4 k (omega arith)) (λ k low. i.5 k (omega arith)) in
    let nothing = gone_kept at.rest.items c.args.files.items c.len.result c.take-found.new.self c.take-found.ensures.after (omega arith) (λ k high. i.4 k (omega arith)) (λ k low. i.5 k (omega arith)) in (
      omega arith,
      omega arith,
      subst (λ m. EachFrom P m (into_iter_items c.next.new.self)) (sym more) (rest_of P (vec_len at.cells) (into_iter_items at.account-iterator) (into_iter_items c.next.new.self) c.in-Some.account steps.0 i.2),
      length-set at.rest.items (c.len.result + 1) c.take-found.new.self ∙ places,
      λ k high. later k (omega arith),
      λ k low. nothing k (omega arith),
      omega (arith, i.6),
      omega (arith, i.7, c.keep_pass.ensures.capacity),
      omega (arith, i.8, c.keep_pass.ensures.length),
      λ bytes goods.
          (let one : c.len.result + 1 ≡ suc (vec_len at.cells) = omega arith in
          rw (c.keep_pass.ensures.items, next) (passes_kept geometry image bytes (vec_len at.cells) (c.len.result + 1) at.passes.items c.own_file-cell.result.1 (i.9 bytes goods) one (c.own_file-cell.ensures.pass bytes goods))),
    )

pub free_table-requires : goal.free_table-requires
free_table-requires g c =
    let i = c.accounts.invariant in
    let sum = i.0 in
    let places = i.3 in
    let ended : length (into_iter_items c.accounts.account-iterator) ≡ 0 = search rules in
    all_gone c.accounts.rest.items (λ k low. i.5 k (omega arith))

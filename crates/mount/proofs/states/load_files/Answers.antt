-- The stock weighs what the files still to come name, so the next file finds its tickets and tokens there; after the
-- last one it weighs nothing, and the files have it all.
use Rattle.std.proofs.Common.{◌≡◌, ◌≢◌, ℕ, ◌+◌, None, Some, length, get_or, set, refl, sym, ap, subst, ◌∙◌, arith}
use Rattle.std.proofs.lemmas.List.{length-replicate, get_or-set_other}
use Rattle.rights_books.specs.declared.claim.TakenNumber.{TakenNumber}
use Rattle.geometry.specs.declared.owner.Mark.{Mark}
use Rattle.geometry.specs.declared.owner.Owner.TheVariants.{Node}
use Rattle.image.specs.declared.image.NodeEntry.{NodeEntry}
use Rattle.image.specs.Image.{entry_of}
use Rattle.image.specs.View.{image_view}
use Rattle.mount_blocks.specs.TreeGoods.{in_place, goods_weight}
use Rattle.mount_blocks.specs.Loaded.{of_rights}
use Rattle.mount_blocks.proofs.Stocks.{stood}
use Rattle.nodes.specs.File.{weight_of}
use Rattle.geometry.specs.Weights.{weigh}
use Rattle.tickets.specs.Placed.{Placed}
use Rattle.mount_blocks.specs.FileLoaded.{IsFileRoom, IsLoadedFile}
use Rattle.mount_blocks.proofs.Tables.{all_none, comes, nothing_weighs}
use Rattle.mount_blocks.proofs.Passing.{taken_of}
use Rattle.mount.specs.MountFiles.{StandsFor}
use Rattle.mount.proofs.Walks.{walks_to, walks_more, walks_same, walks_most, untaken}
use Rattle.mount.proofs.Nothing.{nothing_left}
use Rattle.mount.proofs.Standing.{AreUpTo, up_to_begins, up_to_more, up_to_same, up_to_all}
use Rattle.mount.proofs.states.load_files.Given as given
use Rattle.mount.proofs.states.load_files.Goals as goal
use Rattle.mount.proofs.states.load_files.Goals.{then-entry-ne0, else-entry-ne0}

pub loop-before-init : goal.loop-before-init
loop-before-init g c =
    let geometry = c.args.geometry.now in
    let image = image_view c.args.image.now in
    let none = c.requires.none in
    record {
      of_files = λ k room at. (image, k, ((c.requires.rooms.each k).right room at).1);
      rooms = λ inode past. c.requires.rooms.each inode;
      files = up_to_begins geometry image (λ i file. IsLoadedFile image geometry.shape c.args.stock.now.all i file) c.args.files.now.items (ap length none ∙ length-replicate (geometry.files + 1) None)
          (λ k. ap (λ ts. get_or ts k None) none ∙ all_none (geometry.files + 1) k);
      all = refl;
      marks = λ h. (let all = c.requires.marks h in omega arith);
      trades = λ ticket token. (let nothing = ap (weigh (in_place (λ file. weight_of file (of_rights ticket token)))) none ∙ nothing_weighs (λ file. weight_of file (of_rights ticket token)) (geometry.files + 1) in omega arith);
    }

pub load_file-file-requires-clause-room : goal.load_file-file-requires-clause-room
load_file-file-requires-clause-room g c = ((c.loop-before.invariant.rooms (c.loop-before.before + 1) (omega arith)).right c.take_at-room.result c.take_at-room.ensures.right).1

pub load_file-file-requires-clause-there : goal.load_file-file-requires-clause-there
load_file-file-requires-clause-there g c = λ h.
    let image = image_view c.args.image.now in
    let before = c.loop-before.before in
    let same = ap (λ (e : NodeEntry). e.address) c.entry.ensures in
    let taken = taken_of image (before + 1) (λ z. (let none = same ∙ z in absurd (omega arith))) in
    let balance = c.loop-before.invariant.marks h in
    let named = c.tell_lawful.ensures.names h in
    let more = walks_more image h before taken in
    let most = walks_most image h (before + 1) c.args.geometry.now.files (omega arith) in
    omega arith

pub loop-before-preserved : goal.loop-before-preserved
loop-before-preserved g c =
    let geometry = c.args.geometry.now in
    let image = image_view c.args.image.now in
    let all = c.args.stock.now.all in
    let at = c.loop-before in
    let before = at.invariant in
    let inode : ℕ = at.before + 1 in
    let entry = c.entry.result in
    let same : entry.address ≡ (entry_of image inode).address = ap (λ (e : NodeEntry). e.address) c.entry.ensures in
    elim c.if-entry-ne0.branch [
      | then-entry-ne0 w ↦
          let some : (entry_of image inode).address ≢ 0 = λ z. (let none = same ∙ z in absurd (omega arith)) in
          let taken = taken_of image inode some in
          let file = w.load_file-file.result in
          let room = w.take_at-room.result in
          let loaded = subst (λ all. IsLoadedFile image geometry.shape all inode file) before.all w.load_file-file.ensures.loaded in
          let rooms_are : c.if-entry-ne0.rooms.items ≡ set at.rooms.items inode None = ap (λ v. v.items) w.rooms-is ∙ w.take_at-room.ensures.table in
          let files_are : c.if-entry-ne0.files.items ≡ set at.files.items inode (Some file) = ap (λ v. v.items) w.files-is ∙ w.put_at.ensures in
          let stock_is = w.stock-is in
          let long = before.files.places in
          let empty = before.files.empty inode (omega arith) in
          record {
            of_files = λ k r e. before.of_files k r (stood at.rooms.items inode k r (sym (ap (λ ts. get_or ts k None) rooms_are) ∙ e));
            rooms = λ i past. subst (StandsFor geometry image (λ j r. IsFileRoom image j r) i) (sym (ap (λ ts. get_or ts i None) rooms_are ∙ get_or-set_other at.rooms.items inode i None None (λ e. absurd (omega arith)))) (before.rooms i (omega arith));
            files = subst (λ ts. AreUpTo geometry image (λ i f. IsLoadedFile image geometry.shape all i f) ts inode) (sym files_are)
                (up_to_more geometry image (λ i f. IsLoadedFile image geometry.shape all i f) at.files.items at.before file (omega arith) taken loaded before.files);
            all = ap (λ s. s.all) stock_is ∙ (w.load_file-file.ensures.all ∙ before.all);
            marks = λ h. (let balance = before.marks h in
                let named = w.tell_lawful.ensures.names h in
                let more = walks_more image h at.before taken in
                let went = w.load_file-file.ensures.taken h in
                let is = ap (λ s. goods_weight (λ (t : Placed). h t.mark) (λ (e : TakenNumber). h (record { address = e.address; owner = Node e.number })) s) stock_is in
                omega arith);
            trades = λ ticket token. (let so = before.trades ticket token in
                let went = w.load_file-file.ensures.trades ticket token in
                let is = ap (goods_weight ticket token) stock_is in
                let came = ap (weigh (in_place (λ f. weight_of f (of_rights ticket token)))) files_are ∙ comes (λ f. weight_of f (of_rights ticket token)) at.files.items inode file (omega arith) empty in
                omega arith);
          }
      | else-entry-ne0 w ↦
          let none : (entry_of image inode).address ≡ 0 = sym same ∙ omega arith in
          let free = untaken image inode none in
          let rooms_are = ap (λ v. v.items) w.rooms-is in
          let files_are = ap (λ v. v.items) w.files-is in
          let stock_is = w.stock-is in
          record {
            of_files = λ k r e. before.of_files k r (sym (ap (λ ts. get_or ts k None) rooms_are) ∙ e);
            rooms = λ i past. subst (StandsFor geometry image (λ j r. IsFileRoom image j r) i) (sym (ap (λ ts. get_or ts i None) rooms_are)) (before.rooms i (omega arith));
            files = subst (λ ts. AreUpTo geometry image (λ i f. IsLoadedFile image geometry.shape all i f) ts inode) (sym files_are)
                (up_to_same geometry image (λ i f. IsLoadedFile image geometry.shape all i f) at.files.items at.before free before.files);
            all = ap (λ s. s.all) stock_is ∙ before.all;
            marks = λ h. (let balance = before.marks h in
                let still = walks_same image h at.before free in
                let is = ap (λ s. goods_weight (λ (t : Placed). h t.mark) (λ (e : TakenNumber). h (record { address = e.address; owner = Node e.number })) s) stock_is in
                omega arith);
            trades = λ ticket token. (let so = before.trades ticket token in
                let is = ap (goods_weight ticket token) stock_is in
                let came = ap (weigh (in_place (λ f. weight_of f (of_rights ticket token)))) files_are in
                omega arith);
          }
    ]

pub returns-clause-files : goal.returns-clause-files
returns-clause-files g c =
    let geometry = c.args.geometry.now in
    let image = image_view c.args.image.now in
    let at = c.loop-before in
    let last : at.before ≡ geometry.files = omega arith in
    let all = subst (λ n. AreUpTo geometry image (λ i f. IsLoadedFile image geometry.shape c.args.stock.now.all i f) at.files.items n) last at.invariant.files in
    record { places = all.places; each = up_to_all geometry image (λ i f. IsLoadedFile image geometry.shape c.args.stock.now.all i f) at.files.items all }

-- nothing is left once the last file is there
spent : (g : given.Over) (c : goal.After-free_file_rooms g) → goods_weight (λ _. 1) (λ _. 1) c.loop-before.stock ≡ 0
spent g c =
    let at = c.loop-before in
    let last : at.before ≡ c.args.geometry.now.files = omega arith in
    let balance = at.invariant.marks (λ _. 1) in
    let same = ap (λ n. weigh (λ (m : Mark). 1) (walks_to (image_view c.args.image.now) n)) last in
    omega arith

pub returns-clause-nothing : goal.returns-clause-nothing
returns-clause-nothing g c = spent g c

pub returns-clause-trades : goal.returns-clause-trades
returns-clause-trades g c = λ ticket token.
    let so = c.loop-before.invariant.trades ticket token in
    let none : goods_weight ticket token c.loop-before.stock ≡ 0 = nothing_left ticket token c.loop-before.stock (spent g c) in
    omega arith

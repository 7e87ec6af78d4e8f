-- A right is lodged by its inode, and a loaded file's rights are all of its own inode: so of all that is in the tables,
-- each account has exactly what its file has.
use Rattle.std.proofs.Common.{◌≡◌, ◌≢◌, ℕ, ◌+◌, List, [], ◌∷◌, get_or, Option, Some, None, refl, sym, ap, ◌∙◌, arith}
use Rattle.std.specs.Prelude.{is_some}
use Rattle.geometry.specs.Weights.{weigh}
use Rattle.geometry.specs.declared.geometry.Geometry.{Geometry}
use Rattle.geometry.specs.declared.owner.Mark.{Mark}
use Rattle.rights_books.specs.declared.claim.TakenNumber.{TakenNumber}
use Rattle.tickets.specs.Placed.{Placed}
use Rattle.nodes.specs.Change.{of_tickets, of_tokens}
use Rattle.nodes.specs.declared.file.FileState.{FileState}
use Rattle.nodes.specs.File.{weight_of}
use Rattle.nodes.specs.Held.{AreHeld}
use Rattle.nodes_law.specs.Nodes.{nodes_of}
use Rattle.nodes_law.proofs.Listing.{nodes_weigh}
use Rattle.image.specs.Image.{Image}
use Rattle.image.specs.Walk.{inodes, misfits}
use Rattle.image.specs.Rules.{IsLawful}
use Rattle.mount_blocks.specs.TreeGoods.{Shelves, in_place}
use Rattle.mount_blocks.specs.Loaded.{of_rights}
use Rattle.mount_blocks.specs.FileLoaded.{FitsFile, IsLoadedFile}
use Rattle.mount_blocks.proofs.Fitting.{all_at, inode_listed, file_fits}
use Rattle.mount_blocks.specs.Goods.{AreGoods}
use Rattle.mount.specs.MountFiles.{HasFile, AreFiles}
use Rattle.mount_blocks.specs.Lodging.{file_of, of_file, of_some}
use Rattle.mount_blocks.proofs.Lodgings.{file_same, file_other, some_in}
use Rattle.mount.proofs.Sorted.{none_places, one_place, places_same, tickets_same, tokens_same}

-- an inode of a lawful image fits
fits_of : (geometry : Geometry) (image : Image) → IsLawful geometry image → (inode : ℕ) → HasFile geometry image inode → FitsFile image geometry.shape inode
fits_of geometry image lawful inode has =
    let listed = inode_listed image geometry.files inode has.low has.high has.taken in
    let fit = all_at (λ i. misfits image i ≡ []) (inodes geometry image) inode (lawful 4 (omega arith) (omega arith)) listed in
    let within = geometry.limits.inodes in
    let high = has.high in
    let some = has.low in
    let node = lawful 3 (omega arith) (omega arith) inode (omega arith) has.taken in
    let low = node.low has.high in
    file_fits geometry image (lawful 1 (omega arith) (omega arith)) inode fit (omega arith) low.0 (sym node.belongs ∙ low.1)

weigh_nothing : {A : Type 0} (xs : List A) → weigh (λ (x : A). 0) xs ≡ 0
weigh_nothing [] = refl
weigh_nothing (x ∷ xs) = let rest = weigh_nothing xs in omega arith

nodes_weigh_nothing : {B L : Type 0} (f : FileState B L) → weight_of f (of_tokens (λ (k : TakenNumber). 0)) ≡ 0
nodes_weigh_nothing f = nodes_weigh (λ n. 0) f ∙ weigh_nothing (nodes_of f)

module _ {B L : Type 0} (geometry : Geometry) (image : Image) (lawful : IsLawful geometry image) (bytes : ℕ → List ℕ) (all : Shelves Placed) (goods : AreGoods geometry image bytes all.tickets all.tokens) (files : List (Option (FileState B L)))
    (are : AreFiles geometry image all files)
    (whole : (ticket : Placed → ℕ) (token : TakenNumber → ℕ) → weigh (in_place (λ (f : FileState B L). weight_of f (of_rights ticket token))) files ≡ weigh (in_place ticket) all.tickets + weigh (in_place token) all.tokens) where
  none_tokens : (ts : List (Option TakenNumber)) → weigh (in_place (λ (k : TakenNumber). 0)) ts ≡ 0
  none_tokens [] = refl
  none_tokens (None ∷ ts) = let rest = none_tokens ts in omega arith
  none_tokens (Some k ∷ ts) = let rest = none_tokens ts in omega arith

  none_tickets : (ts : List (Option Placed)) → weigh (in_place (λ (t : Placed). 0)) ts ≡ 0
  none_tickets [] = refl
  none_tickets (None ∷ ts) = let rest = none_tickets ts in omega arith
  none_tickets (Some t ∷ ts) = let rest = none_tickets ts in omega arith

  of_all : (ticket : Placed → ℕ) → weigh (in_place (λ (f : FileState B L). weight_of f (of_tickets ticket))) files ≡ weigh (in_place ticket) all.tickets
  of_all ticket = let total = whole ticket (λ _. 0) in let none = none_tokens all.tokens in omega arith

  of_all_tokens : (token : TakenNumber → ℕ) → weigh (in_place (λ (f : FileState B L). weight_of f (of_tokens token))) files ≡ weigh (in_place token) all.tokens
  of_all_tokens token = let total = whole (λ _. 0) token in let none = none_tickets all.tickets in omega arith

  module _ (j : ℕ) (f : FileState B L) (at : get_or files j None ≡ Some f) where
    has : HasFile geometry image j
    has = ((are.each j).right f at).0

    loaded : IsLoadedFile image geometry.shape all j f
    loaded = ((are.each j).right f at).1

    fits : FitsFile image geometry.shape j
    fits = fits_of geometry image lawful j has

    tickets_own : (h : Mark → ℕ) → weight_of f (of_tickets (λ (t : Placed). of_file j (file_of image t.mark.owner) (h t.mark))) ≡ weight_of f (of_tickets (λ (t : Placed). h t.mark))
    tickets_own h = tickets_same geometry image all j f loaded fits (λ (t : Placed). of_file j (file_of image t.mark.owner) (h t.mark)) (λ (t : Placed). h t.mark) (λ t is. file_same j (file_of image t.mark.owner) (h t.mark) is)

    tickets_other : (inode : ℕ) (h : Mark → ℕ) → j ≢ inode → weight_of f (of_tickets (λ (t : Placed). of_file inode (file_of image t.mark.owner) (h t.mark))) ≡ 0
    tickets_other inode h apart = tickets_same geometry image all j f loaded fits (λ (t : Placed). of_file inode (file_of image t.mark.owner) (h t.mark)) (λ (t : Placed). 0) (λ t is. file_other inode (file_of image t.mark.owner) (h t.mark) (λ e. apart (sym is ∙ e))) ∙ nodes_weigh_nothing f

    tickets_some : (h : Mark → ℕ) → weight_of f (of_tickets (λ (t : Placed). of_some geometry.files (file_of image t.mark.owner) (h t.mark))) ≡ weight_of f (of_tickets (λ (t : Placed). h t.mark))
    tickets_some h = tickets_same geometry image all j f loaded fits (λ (t : Placed). of_some geometry.files (file_of image t.mark.owner) (h t.mark)) (λ (t : Placed). h t.mark)
        (λ t is. ap (λ i. of_some geometry.files i (h t.mark)) is ∙ some_in geometry.files j (h t.mark) has.low has.high)

    tokens_own : (h : TakenNumber → ℕ) → weight_of f (of_tokens (λ (k : TakenNumber). of_file j k.inode (h k))) ≡ weight_of f (of_tokens h)
    tokens_own h = tokens_same geometry image all j f loaded fits lawful bytes goods (λ (k : TakenNumber). of_file j k.inode (h k)) h (λ k is. file_same j k.inode (h k) is)

    tokens_other : (inode : ℕ) (h : TakenNumber → ℕ) → j ≢ inode → weight_of f (of_tokens (λ (k : TakenNumber). of_file inode k.inode (h k))) ≡ 0
    tokens_other inode h apart = tokens_same geometry image all j f loaded fits lawful bytes goods (λ (k : TakenNumber). of_file inode k.inode (h k)) (λ (k : TakenNumber). 0) (λ k is. file_other inode k.inode (h k) (λ e. apart (sym is ∙ e))) ∙ nodes_weigh_nothing f

    tokens_some : (h : TakenNumber → ℕ) → weight_of f (of_tokens (λ (k : TakenNumber). of_some geometry.files k.inode (h k))) ≡ weight_of f (of_tokens h)
    tokens_some h = tokens_same geometry image all j f loaded fits lawful bytes goods (λ (k : TakenNumber). of_some geometry.files k.inode (h k)) h
        (λ k is. ap (λ i. of_some geometry.files i (h k)) is ∙ some_in geometry.files j (h k) has.low has.high)

  -- what is of an inode is its file's
  pub file_held : (inode : ℕ) (f : FileState B L) → get_or files inode None ≡ Some f → (tickets : List Mark) (tokens : List TakenNumber)
      → ((h : Mark → ℕ) → weigh h tickets ≡ weigh (in_place (λ (t : Placed). of_file inode (file_of image t.mark.owner) (h t.mark))) all.tickets)
      → ((h : TakenNumber → ℕ) → weigh h tokens ≡ weigh (in_place (λ (k : TakenNumber). of_file inode k.inode (h k))) all.tokens) → AreHeld f tickets tokens
  file_held inode f at tickets tokens of_tickets_are of_tokens_are = record {
    tickets = λ h.
        (let lodged = of_tickets_are h in
        let total = of_all (λ (t : Placed). of_file inode (file_of image t.mark.owner) (h t.mark)) in
        let one = one_place (λ (g : FileState B L). weight_of g (of_tickets (λ (t : Placed). of_file inode (file_of image t.mark.owner) (h t.mark)))) files inode f at (λ j g apart there. tickets_other j g there inode h apart) in
        let own = tickets_own inode f at h in
        omega arith);
    tokens = λ h.
        (let lodged = of_tokens_are h in
        let total = of_all_tokens (λ (k : TakenNumber). of_file inode k.inode (h k)) in
        let one = one_place (λ (g : FileState B L). weight_of g (of_tokens (λ (k : TakenNumber). of_file inode k.inode (h k)))) files inode f at (λ j g apart there. tokens_other j g there inode h apart) in
        let own = tokens_own inode f at h in
        omega arith);
  }

  -- all are of files
  pub all_tickets : (h : Mark → ℕ) → weigh (in_place (λ (t : Placed). of_some geometry.files (file_of image t.mark.owner) (h t.mark))) all.tickets ≡ weigh (in_place (λ (t : Placed). h t.mark)) all.tickets
  all_tickets h =
      sym (of_all (λ (t : Placed). of_some geometry.files (file_of image t.mark.owner) (h t.mark)))
      ∙ (places_same (λ (g : FileState B L). weight_of g (of_tickets (λ (t : Placed). of_some geometry.files (file_of image t.mark.owner) (h t.mark)))) (λ (g : FileState B L). weight_of g (of_tickets (λ (t : Placed). h t.mark))) files (λ j g at. tickets_some j g at h)
      ∙ of_all (λ (t : Placed). h t.mark))

  pub all_tokens : (h : TakenNumber → ℕ) → weigh (in_place (λ (k : TakenNumber). of_some geometry.files k.inode (h k))) all.tokens ≡ weigh (in_place h) all.tokens
  all_tokens h =
      sym (of_all_tokens (λ (k : TakenNumber). of_some geometry.files k.inode (h k)))
      ∙ (places_same (λ (g : FileState B L). weight_of g (of_tokens (λ (k : TakenNumber). of_some geometry.files k.inode (h k)))) (λ (g : FileState B L). weight_of g (of_tokens h)) files (λ j g at. tokens_some j g at h)
      ∙ of_all_tokens h)

  module _ (inode : ℕ) (none : get_or files inode None ≡ None) where
    apart : (j : ℕ) (f : FileState B L) → get_or files j None ≡ Some f → j ≢ inode
    apart j f at same = let no = ap (λ (o : Option (FileState B L)). is_some o) (sym none ∙ (ap (λ k. get_or files k None) (sym same) ∙ at)) in cc

    -- where an inode has no file, nothing is of it
    pub no_tickets_of : (h : Mark → ℕ) → weigh (in_place (λ (t : Placed). of_file inode (file_of image t.mark.owner) (h t.mark))) all.tickets ≡ 0
    no_tickets_of h =
        sym (of_all (λ (t : Placed). of_file inode (file_of image t.mark.owner) (h t.mark)))
        ∙ none_places (λ (g : FileState B L). weight_of g (of_tickets (λ (t : Placed). of_file inode (file_of image t.mark.owner) (h t.mark)))) files (λ j g at. tickets_other j g at inode h (apart j g at))

    pub no_tokens_of : (h : TakenNumber → ℕ) → weigh (in_place (λ (k : TakenNumber). of_file inode k.inode (h k))) all.tokens ≡ 0
    no_tokens_of h =
        sym (of_all_tokens (λ (k : TakenNumber). of_file inode k.inode (h k)))
        ∙ none_places (λ (g : FileState B L). weight_of g (of_tokens (λ (k : TakenNumber). of_file inode k.inode (h k)))) files (λ j g at. tokens_other j g at inode h (apart j g at))

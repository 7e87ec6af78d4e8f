-- Each turn adds one number: where an inode is taken its file was looked at, and otherwise there is none to look at; so
-- what holds of the first numbers holds of one more.
use Rattle.std.proofs.Common.{◌≡◌, ◌≢◌, ◌<◌, ◌+◌, ℕ, refl, sym, ◌∙◌, subst, arith}
use Rattle.std.specs.Prelude.{All, filter}
use Rattle.image.specs.Files.{data_address}
use Rattle.image.specs.Image.{node_of}
use Rattle.image.specs.Walk.{is_taken, up_to}
use Rattle.image.specs.View.{image_view}
use Rattle.image.proofs.NameLemmas.{taken_of, not_taken_of}
use Rattle.image_checker.proofs.TreeLemmas.{all_at, inode_in}
use Rattle.image_checker.proofs.FaultLemmas.{all_more, all_same}
use Rattle.image_checker.proofs.LengthLemmas.{file_ends, file_long}
use Rattle.image_checker.proofs.lengths.lengths_hold.Goals.{then-entry-ne0+else-not-file_ends_below, else-entry-ne0}
use Rattle.image_checker.proofs.lengths.lengths_hold.Goals as goal

pub returns-then-not-file_ends_below : goal.returns-then-not-file_ends_below
returns-then-not-file_ends_below c = (
  λ e. absurd cc,
  λ all.
      let i = image_view c.args.image.now in
      let g = c.args.geometry.now in
      let taken = taken_of i (c.loop-k.k + 1) c.entry.result c.entry.ensures c.if-entry-ne0.true in
      let long = all_at (λ inode. (index : ℕ) → data_address g.shape i inode index ≢ 0 → index < (node_of i inode).length) _ (c.loop-k.k + 1) all
      (inode_in i g.files c.loop-k.k c.loop-k-test.true taken) in
      let is = c.from-length.ensures ∙ c.length_of.ensures in
      let yes = c.file_ends_below.ensures.1
      (file_ends g i (c.loop-k.k + 1) c.from-length.result c.requires.sized (λ index some. subst (λ (n : ℕ). index < n) (sym is) (long index some))) in
      let no = c.if-not-file_ends_below.true in cc,
)

pub loop-k-preserved : goal.loop-k-preserved
loop-k-preserved c =
    let i = image_view c.args.image.now in
    let s = c.args.geometry.now.shape in
    elim c.if-entry-ne0.branch [
      | then-entry-ne0+else-not-file_ends_below w ↦
          let is = w.from-length.ensures ∙ w.length_of.ensures in
          let long = file_long s i (c.loop-k.k + 1) w.from-length.result (w.file_ends_below.ensures.0 w.if-not-file_ends_below.false) in
          all_more (λ inode. (index : ℕ) → data_address s i inode index ≢ 0 → index < (node_of i inode).length) i c.loop-k.k
          (taken_of i (c.loop-k.k + 1) c.entry.result c.entry.ensures w.if-entry-ne0.true) c.loop-k.invariant
          (λ index some. subst (λ (n : ℕ). index < n) is (long index some))
      | else-entry-ne0 w ↦
          all_same (λ inode. (index : ℕ) → data_address s i inode index ≢ 0 → index < (node_of i inode).length) i c.loop-k.k
          (not_taken_of i (c.loop-k.k + 1) c.entry.result c.entry.ensures w.if-entry-ne0.false) c.loop-k.invariant
    ]

pub returns : goal.returns
returns c = (
  λ e.
      let i = image_view c.args.image.now in
      let s = c.args.geometry.now.shape in
      let whole : c.loop-k.k ≡ c.args.geometry.now.files = omega arith in
      subst (λ (n : ℕ). All (λ inode. (index : ℕ) → data_address s i inode index ≢ 0 → index < (node_of i inode).length) (filter (is_taken i) (up_to n)))
      whole c.loop-k.invariant,
  λ all. refl,
)

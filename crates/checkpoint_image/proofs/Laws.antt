-- Each segment, shard, log and file keeps its own law, which together is that of the parts; a settled audit adds that
-- they balance, and an image of such parts is lawful.
use Rattle.std.proofs.Common.{◌≡◌, sym, ◌∙◌, ap, subst, ℕ, suc, ◌+◌, ◌<◌, inl, inr, [], map, length, arith}
use Rattle.std.specs.Prelude.{Option, IfSome}
use Rattle.std.proofs.lemmas.Bool.Decides.{leb_tells}
use Rattle.std.proofs.lemmas.List.{get_or_past, length-map}
use Rattle.geometry.specs.declared.geometry.Geometry.{Geometry}
use Rattle.image_law.specs.Parts.{SegmentState, no_state, SegmentLaw, ShardLaw, FileTree, FileLaw, PartsLaw, segment_at, shard_at}
use Rattle.image_law.proofs.Assembling.{assembled_is_lawful}
use Rattle.image_law.proofs.Filing.{files_are}
use Rattle.image_law.proofs.Naming.{named_as_marked}
use Rattle.checkpoint_image.specs.Cells.{Cells, CellsLaw, tree_in, segment_part, shard_part, place_in, parts_of}
use Rattle.checkpoint_image.specs.PartsLaw.{AuditLaw, BlocksLaw, ImageLaw, TakenLaw, ReadLaw}
use Rattle.checkpoint_image.proofs.Places.{at_below}
use Rattle.checkpoint_image.proofs.SegmentParts.{segment_law}
use Rattle.checkpoint_image.proofs.ShardParts.{shard_law, empty_law}
use Rattle.checkpoint_image.proofs.LogParts.{opened_all, apart_all}
use Rattle.checkpoint_image.proofs.Balance.{balanced}
use Rattle.checkpoint_image.proofs.Imaging.{is_image_of}
use Rattle.checkpoint_image.proofs.ReadBack.{reads_back}
use Rattle.checkpoint_image.proofs.Written.{filed_at, are_spelled}
use Rattle.checkpoint_image.proofs.Found.{blocks_hold}

module _ (geometry : Geometry) (cells : Cells) (law : CellsLaw geometry cells) where
  segment_number : (k : ℕ) → k < geometry.segments → (segment_at (parts_of cells) k).number ≡ k
  segment_number k low =
      let l = law.all_segments in
      let t = at_below segment_part no_state cells.segments k (omega arith) in
      ap (λ (x : SegmentState). x.number) t.2 ∙ (law.segments k t.0 t.1).number

  segment_state : (k : ℕ) → k < geometry.segments → SegmentLaw geometry.shape (segment_at (parts_of cells) k)
  segment_state k low =
      let l = law.all_segments in
      let t = at_below segment_part no_state cells.segments k (omega arith) in
      subst (SegmentLaw geometry.shape) (sym t.2) (segment_law geometry k t.0 (law.segments k t.0 t.1))

  shard_state : (k : ℕ) → ShardLaw geometry k (shard_at (parts_of cells) k)
  shard_state k =
      elim (leb_tells (suc k) (length cells.shards)) [
        | inl (t, low) ↦
            let s = at_below shard_part [] cells.shards k low in
            subst (ShardLaw geometry k) (sym s.2) (shard_law geometry k s.0 (law.shards k s.0 s.1))
        | inr (t, high) ↦
            let l = length-map cells.shards shard_part in
            subst (ShardLaw geometry k) (sym (get_or_past (map shard_part cells.shards) k [] (omega arith))) (empty_law geometry k)
      ]

  pub parts_law : PartsLaw geometry (parts_of cells)
  parts_law = record {
    segments = length-map cells.segments segment_part ∙ law.all_segments;
    numbers = segment_number;
    states = segment_state;
    shards = shard_state;
    logs = length-map cells.logs (place_in cells.segments) ∙ law.all_logs;
    opened = opened_all cells.segments geometry.segments law.all_segments cells.logs law.logs;
    apart = apart_all cells.segments cells.logs law.apart;
    as_many = length-map cells.files tree_in ∙ law.all_files;
    files = λ k file at.
        let x = filed_at cells.files k file at in
        subst (λ (o : Option FileTree). IfSome o (FileLaw geometry (k + 1))) x.2 (law.files k x.0 x.1).law;
  }

pub audit_holds : AuditLaw
audit_holds geometry cells copies law are settled = record {
  law = parts_law geometry cells law;
  balanced = balanced geometry cells copies law are settled;
  spelled = are_spelled geometry cells copies law are settled;
}

pub image_holds : ImageLaw
image_holds geometry parts image law even is = record {
  lawful = assembled_is_lawful geometry parts image law even is;
  files_are = λ blocks. files_are geometry parts image blocks law even is;
  names_are = λ h. named_as_marked geometry parts image law even is h geometry.limits.inodes;
}

pub taken_holds : TakenLaw
taken_holds geometry parts image law even sized taken =
    let is = is_image_of geometry parts law even image taken sized in
    (is, image_holds geometry parts image law even is)

pub read_holds : ReadLaw
read_holds geometry parts image blocks law even is spelled = reads_back geometry parts image blocks law even is spelled

pub blocks_law_holds : BlocksLaw
blocks_law_holds geometry cells copies law are settled = blocks_hold geometry cells copies law are settled

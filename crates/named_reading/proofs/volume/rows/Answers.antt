use Rattle.std.proofs.Common.{◌≡◌, ◌∙◌, ℕ, List, map, true, subst, rules}
use Rattle.geometry.specs.Shape.{block_bytes}
use Rattle.image.specs.View.{image_view}
use Rattle.image_reading.specs.Held.{file_in, files_in}
use Rattle.named_folder.specs.Folder.{BeginsWith}
use Rattle.named_folder.specs.Rows.{row_of}
use Rattle.named_reading.specs.Named.{HasFolder}
use Rattle.named_reading.proofs.Found.{if_some}
use Rattle.named_reading.proofs.volume.rows.Goals as goal

pub returns-clause-some : goal.returns-clause-some
returns-clause-some g c =
    let geometry = c.args.geometry.now in
    let image = image_view c.args.image.now in
    let there : c.has.result ≡ true = search rules in
    if_some c.in_ok-decode.field-0
    (λ entries. BeginsWith (map row_of entries.items) c.as_slice.result.now)
    (λ entries. (bytes : List ℕ) → g.S.ImageSource.shows c.all_blocks.new.source bytes → HasFolder (block_bytes geometry.shape) (files_in geometry image bytes) (map row_of entries.items))
    (λ entries begins bytes shown. record {
      folder = file_in geometry image bytes 1;
      here = c.has.ensures there bytes;
      spelled = subst (BeginsWith (map row_of entries.items)) (c.as_slice.ensures.value ∙ c.in_ok-bytes.ensures.all bytes shown) begins;
    })
    c.in_ok-decode.ensures.some

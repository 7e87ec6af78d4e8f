-- The parts of a body are spelled one behind another, each of a known length: so each table is read at its place, and
-- gives the rows that were spelled there.
use Rattle.std.proofs.Common.{◌≡◌, refl, sym, ◌∙◌, ap, ℕ, List, [], ◌++◌, length, length-append, append_assoc, append-nil, arith}
use Rattle.geometry.specs.declared.geometry.Geometry.{Geometry}
use Rattle.geometry.specs.File.{Block}
use Rattle.geometry.specs.Area.{block_count}
use Rattle.image.specs.Image.{Image}
use Rattle.image.specs.Pack.{pack_body}
use Rattle.image.specs.Reading.{number_at, image_in, read_places, read_table, read_segments, read_summaries, read_nodes, table_start, segments_start, summaries_start}
use Rattle.pack_tables.specs.Grammar.{HasSpelling, SpellsTables}
use Rattle.pack_tables.proofs.Parts.{header, logs, table, segments, summaries, parts_of_spelling}
use Rattle.pack_tables.proofs.RowLemmas.{pair_there, places_there, table_there, segments_there, summaries_there}

module _ (geometry : Geometry) (image : Image) (fits : HasSpelling geometry image) where
  abbrev body : List ℕ
  body = pack_body geometry.shape image

  abbrev head_part : List ℕ
  head_part = header geometry image fits

  abbrev log_part : List ℕ
  log_part = logs geometry image fits

  abbrev table_part : List ℕ
  table_part = table geometry image fits

  abbrev segment_part : List ℕ
  segment_part = segments geometry image fits

  abbrev summary_part : List ℕ
  summary_part = summaries geometry image fits

  table_place : length (head_part ++ log_part) ≡ table_start
  table_place = let p = parts_of_spelling geometry image fits in let a = p.head_long in let b = p.logs_long in simp length-append (omega arith)

  segments_place : length (head_part ++ log_part ++ table_part) ≡ segments_start geometry
  segments_place =
      let p = parts_of_spelling geometry image fits in
      let a = p.head_long in
      let b = p.logs_long in
      let c = p.table_long in
      simp length-append (omega arith)

  summaries_place : length (head_part ++ log_part ++ table_part ++ segment_part) ≡ summaries_start geometry
  summaries_place =
      let p = parts_of_spelling geometry image fits in
      let a = p.segments_long in
      length-append (head_part ++ log_part ++ table_part) segment_part ∙ omega (arith, segments_place)

  version_back : number_at body 0 ≡ image.version
  version_back =
      let all : body ≡ head_part ++ (log_part ++ table_part ++ segment_part ++ summary_part) = simp append_assoc in
      ap (λ b. number_at b 0) all ∙ (pair_there [] (log_part ++ table_part ++ segment_part ++ summary_part) image.version image.total fits.version fits.total).0

  total_back : number_at body 4 ≡ image.total
  total_back =
      let all : body ≡ head_part ++ (log_part ++ table_part ++ segment_part ++ summary_part) = simp append_assoc in
      ap (λ b. number_at b 4) all ∙ (pair_there [] (log_part ++ table_part ++ segment_part ++ summary_part) image.version image.total fits.version fits.total).1

  logs_back : read_places body 8 6 ≡ image.logs
  logs_back =
      let all : body ≡ head_part ++ (log_part ++ (table_part ++ segment_part ++ summary_part)) = simp append_assoc in
      ap (λ b. read_places b 8 6) all ∙ ap (λ n. read_places (head_part ++ (log_part ++ (table_part ++ segment_part ++ summary_part))) 8 n) (sym fits.logs)
      ∙ places_there head_part (table_part ++ segment_part ++ summary_part) image.logs fits.places

  table_back : read_table body table_start geometry.nodes ≡ image.node_table
  table_back =
      let all : body ≡ (head_part ++ log_part) ++ (table_part ++ (segment_part ++ summary_part)) = simp append_assoc in
      ap (λ b. read_table b table_start geometry.nodes) all
      ∙ ap (λ p. read_table ((head_part ++ log_part) ++ (table_part ++ (segment_part ++ summary_part))) p geometry.nodes) (sym table_place)
      ∙ ap (λ n. read_table ((head_part ++ log_part) ++ (table_part ++ (segment_part ++ summary_part))) (length (head_part ++ log_part)) n) (sym fits.table)
      ∙ table_there (head_part ++ log_part) (segment_part ++ summary_part) image.node_table fits.entries

  segments_back : read_segments geometry.shape body (segments_start geometry) geometry.segments ≡ image.segments
  segments_back =
      let all : body ≡ (head_part ++ log_part ++ table_part) ++ (segment_part ++ summary_part) = simp append_assoc in
      ap (λ b. read_segments geometry.shape b (segments_start geometry) geometry.segments) all
      ∙ ap (λ p. read_segments geometry.shape ((head_part ++ log_part ++ table_part) ++ (segment_part ++ summary_part)) p geometry.segments) (sym segments_place)
      ∙ ap (λ n. read_segments geometry.shape ((head_part ++ log_part ++ table_part) ++ (segment_part ++ summary_part)) (length (head_part ++ log_part ++ table_part)) n) (sym fits.segments)
      ∙ segments_there geometry.shape (head_part ++ log_part ++ table_part) summary_part image.segments fits.infos

  summaries_back : read_summaries body (summaries_start geometry) (block_count geometry) ≡ image.summaries
  summaries_back =
      let all : body ≡ (head_part ++ log_part ++ table_part ++ segment_part) ++ (summary_part ++ []) = sym (ap (λ m. (head_part ++ log_part ++ table_part ++ segment_part) ++ m) (append-nil summary_part)) in
      ap (λ b. read_summaries b (summaries_start geometry) (block_count geometry)) all
      ∙ ap (λ p. read_summaries ((head_part ++ log_part ++ table_part ++ segment_part) ++ (summary_part ++ [])) p (block_count geometry)) (sym summaries_place)
      ∙ ap (λ n. read_summaries ((head_part ++ log_part ++ table_part ++ segment_part) ++ (summary_part ++ [])) (length (head_part ++ log_part ++ table_part ++ segment_part)) n) (sym fits.summaries)
      ∙ summaries_there (head_part ++ log_part ++ table_part ++ segment_part) [] image.summaries fits.owners

  -- the tables of an image are read back from its body, and its nodes are those in the blocks
  pub tables_back : (blocks : ℕ → Block) → image_in geometry body blocks ≡ record image { nodes = read_nodes geometry.shape blocks image.node_table }
  unfolding image_in
  tables_back blocks =
      rw (version_back, total_back, logs_back, table_back, segments_back, summaries_back) refl

-- the same of a body that is known to spell the image
pub spelled_back : (geometry : Geometry) (bytes : List ℕ) (image : Image) (blocks : ℕ → Block) → SpellsTables geometry bytes image
    → image_in geometry bytes blocks ≡ record image { nodes = read_nodes geometry.shape blocks image.node_table }
spelled_back geometry bytes image blocks is = ap (λ b. image_in geometry b blocks) is.1 ∙ tables_back geometry image is.0 blocks

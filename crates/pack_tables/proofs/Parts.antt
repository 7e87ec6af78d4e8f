-- Each part of a body has the length that the geometry gives, so a body is cut into parts in one way: where one of its
-- parts spells nothing, the body spells no tables.
use Rattle.std.proofs.Common.{◌≡◌, refl, sym, ◌∙◌, ap, subst, ℕ, ◌+◌, ◌*◌, ◌/◌, List, [], ◌∷◌, ◌++◌, length, take, drop, arith, length-append}
use Rattle.std.proofs.lemmas.List.{take_at, drop_at}
use Rattle.std.specs.Prelude.{IfSome, ◌≢◌}
use Rattle.std.specs.List.{flat_map}
use Rattle.geometry.specs.declared.geometry.Geometry.{Geometry}
use Rattle.geometry.specs.Shape.{segment_blocks}
use Rattle.image.specs.Node.{numbers}
use Rattle.image.specs.Image.{Image}
use Rattle.image.specs.Pack.{pack_body, body_bytes, log_bytes, entry_bytes, segment_bytes, summary_bytes}
use Rattle.pack_tables.specs.Grammar.{HasSpelling, SpellsTables, SpellsNoTables, IsPlaceRow, IsEntryRow}
use Rattle.pack_tables.specs.Rows.{AreNoRows}
use Rattle.pack_tables.specs.Parts.{AreParts}
use Rattle.pack_tables.proofs.Widths.{rows_long, log_long, entry_long, summary_long, segment_long}
use Rattle.std.proofs.Math.Nat.{mul_comm, mul_assoc}

-- two joins with fronts of one length have one front and one rest
pub cut : {A : Type 0} (a b c d : List A) → length a ≡ length c → a ++ b ≡ c ++ d → (a ≡ c) × (b ≡ d)
cut a b c d long is = (
  sym (take_at a b (length c) long) ∙ ap (take (length c)) is ∙ take_at c d (length c) refl,
  sym (drop_at a b (length c) long) ∙ ap (drop (length c)) is ∙ drop_at c d (length c) refl,
)

module _ (geometry : Geometry) (image : Image) (fits : HasSpelling geometry image) where
  abbrev pub header : List ℕ
  header = numbers (image.version ∷ image.total ∷ [])

  abbrev pub logs : List ℕ
  logs = flat_map log_bytes image.logs

  abbrev pub table : List ℕ
  table = flat_map entry_bytes image.node_table

  abbrev pub segments : List ℕ
  segments = flat_map (segment_bytes geometry.shape) image.segments

  abbrev pub summaries : List ℕ
  summaries = flat_map summary_bytes image.summaries

  -- a body of an image has that image's parts
  pub parts_of_spelling : AreParts geometry (pack_body geometry.shape image) header logs table segments summaries
  parts_of_spelling = record {
    joined = refl;
    head_long = refl;
    logs_long = rows_long log_bytes 8 log_long image.logs ∙ ap (λ n. 8 * n) fits.logs;
    table_long = rows_long entry_bytes 8 entry_long image.node_table ∙ ap (λ n. 8 * n) fits.table;
    segments_long = rows_long (segment_bytes geometry.shape) (12 + segment_blocks geometry.shape / 8) (segment_long geometry.shape) image.segments
        ∙ mul_comm (12 + segment_blocks geometry.shape / 8) (length image.segments)
        ∙ ap (λ n. n * (12 + segment_blocks geometry.shape / 8)) fits.segments;
    summaries_long = rows_long summary_bytes 8 summary_long image.summaries ∙ ap (λ n. 8 * n) fits.summaries;
  }

-- all parts of a body are as long as the body
pub parts_long : (geometry : Geometry) (body head logs table segments summaries : List ℕ) → AreParts geometry body head logs table segments summaries → length body ≡ body_bytes geometry
parts_long geometry body head logs table segments summaries parts =
    let a = parts.head_long in
    let b = parts.logs_long in
    let c = parts.table_long in
    let d = parts.segments_long in
    let e = parts.summaries_long in
    let square : 8 * (geometry.segments * segment_blocks geometry.shape) ≡ 8 * geometry.segments * segment_blocks geometry.shape
    = sym (mul_assoc 8 geometry.segments (segment_blocks geometry.shape)) in
    ap length parts.joined ∙ simp length-append (omega arith)

-- a body has one header, one row of logs and so on
pub parts_same : (geometry : Geometry) (body head logs table segments summaries head' logs' table' segments' summaries' : List ℕ)
    → AreParts geometry body head logs table segments summaries → AreParts geometry body head' logs' table' segments' summaries' → (logs ≡ logs') × (table ≡ table')
parts_same geometry body head logs table segments summaries head' logs' table' segments' summaries' p q =
    let h : length head ≡ length head' = p.head_long ∙ sym q.head_long in
    let l : length logs ≡ length logs' = p.logs_long ∙ sym q.logs_long in
    let t : length table ≡ length table' = p.table_long ∙ sym q.table_long in
    let s : length segments ≡ length segments' = p.segments_long ∙ sym q.segments_long in
    let first = cut (head ++ logs ++ table ++ segments) summaries (head' ++ logs' ++ table' ++ segments') summaries'
    (simp length-append (omega arith)) (sym p.joined ∙ q.joined) in
    let second = cut (head ++ logs ++ table) segments (head' ++ logs' ++ table') segments' (simp length-append (omega arith)) first.0 in
    let third = cut (head ++ logs) table (head' ++ logs') table' (simp length-append (omega arith)) second.0 in
    ((cut head logs head' logs' h third.0).1, third.1)

-- a body of an image has that image's parts
body_parts : (geometry : Geometry) (body : List ℕ) (image : Image) (is : SpellsTables geometry body image)
    → AreParts geometry body (header geometry image is.0) (logs geometry image is.0) (table geometry image is.0) (segments geometry image is.0) (summaries geometry image is.0)
body_parts geometry body image is =
    let P : List ℕ → Type 0 = λ b. AreParts geometry b (header geometry image is.0) (logs geometry image is.0) (table geometry image is.0) (segments geometry image is.0) (summaries geometry image is.0) in
    subst P (sym is.1) (parts_of_spelling geometry image is.0)

pub long_as_a_body : (geometry : Geometry) (body : List ℕ) (image : Image) → SpellsTables geometry body image → length body ≡ body_bytes geometry
long_as_a_body geometry body image is = parts_long geometry body _ _ _ _ _ (body_parts geometry body image is)

pub none_of_this_length : (geometry : Geometry) (body : List ℕ) → length body ≢ body_bytes geometry → SpellsNoTables geometry body
none_of_this_length geometry body another image is = another (long_as_a_body geometry body image is)

module _ (geometry : Geometry) (body head logs' table' segments' summaries' : List ℕ) (parts : AreParts geometry body head logs' table' segments' summaries') where
  pub none_of_these_logs : AreNoRows log_bytes (λ log. IfSome log IsPlaceRow) 6 logs' → SpellsNoTables geometry body
  none_of_these_logs never image is =
      never image.logs (record {
        as_many = is.0.logs;
        each = is.0.places;
        spelled = (parts_same geometry body _ _ _ _ _ _ _ _ _ _ parts (body_parts geometry body image is)).0;
      })

  pub none_of_this_table : AreNoRows entry_bytes IsEntryRow geometry.nodes table' → SpellsNoTables geometry body
  none_of_this_table never image is =
      never image.node_table (record {
        as_many = is.0.table;
        each = is.0.entries;
        spelled = (parts_same geometry body _ _ _ _ _ _ _ _ _ _ parts (body_parts geometry body image is)).1;
      })

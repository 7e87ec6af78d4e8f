-- What the front of an image file tells of the whole file.
use Rattle.std.proofs.Common.{◌≡◌, ◌∙◌, ◌<◌, ◌≤◌, ◌+◌, ◌-◌, ◌++◌, ⊎_elim, ℕ, List, Option, Some, None, IfSome, append-nil, append_assoc, inl, inr, ap, arith, length, length-append, sym, subst, take}
use Rattle.std.specs.Io.KnownBytes.{Consumes, IsAtEnd}
use lib.Seq.{take-append_seam}
use Rattle.std.proofs.lemmas.List.{length-take, take-take}
use Rattle.geometry.specs.declared.geometry.Geometry.{Geometry}
use Rattle.geometry.specs.declared.error.Error.{Error}
use Rattle.geometry.specs.declared.error.Error.TheVariants.{NoMemory, Device, NoSpace, NoFile, NoNode, TooFar, BadLength, Wounded, BadGeometry, NoPack, BadImage, PassesOut, SeatsOut, Exhausted}
use Rattle.pack_tables.specs.File.{IsFileRefusal, file_bytes}
use Rattle.image.specs.Image.{Image}
use Rattle.pack_tables.specs.Grammar.{HasSuper}
use Rattle.std.proofs.lemmas.Bool.{cases_lt}
use Rattle.pack_tables.proofs.Same.{one_geometry}
use Rattle.program_run.specs.Checking.{HoldsLawfulImage}
use Rattle.program_run.specs.Reading.{IsEnoughOf, IsTooLong, IsWhole}

pub if_some : {X : Type 0} (known : Option X) (P Q : X → Type 0) → ((x : X) → P x → Q x) → IfSome known P → IfSome known Q
if_some None P Q f is = tt
if_some (Some x) P Q f is = f x is

-- a front is no longer than the file
front_short : (read file : List ℕ) → read ≡ take (length read) file → length read ≤ length file
front_short read file front =
    let long : length read ≡ length (take (length read) file) = ap length front in
    omega (arith, long ∙ length-take (length read) file)

-- a front of 64 bytes or more begins as the file does
front_begins : (read file : List ℕ) → read ≡ take (length read) file → 64 ≤ length read → take 32 read ≡ take 32 file
front_begins read file front long = ap (take 32) front ∙ take-take 32 (length read) file (omega (arith, long))

super_up : (geometry : Geometry) (read file : List ℕ) → read ≡ take (length read) file → HasSuper geometry read → HasSuper geometry file
super_up geometry read file front super =
    let short = front_short read file front in
    (omega (arith, short, super.0), sym (front_begins read file front super.0) ∙ super.1)

super_down : (geometry : Geometry) (read file : List ℕ) → read ≡ take (length read) file → 64 ≤ length read → HasSuper geometry file → HasSuper geometry read
super_down geometry read file front long super = (long, front_begins read file front long ∙ super.1)

-- what was read and has the size that its superblock tells is all that there is
pub whole_is_all : (read file : List ℕ) → IsEnoughOf read file → IsWhole read → read ≡ file
whole_is_all read file known whole = elim known.enough [
  | inl same ↦ same
  | inr beyond ↦ absurd (omega (arith, beyond.1 whole.0 whole.1, whole.2))
]

module _ (read file : List ℕ) (front : read ≡ take (length read) file) (beyond : IsTooLong read) where
  -- what is longer than its superblock tells is refused whatever comes behind
  long_refused : (error : Error) → IsFileRefusal read error → IsFileRefusal file error
  long_refused NoMemory is = tt
  long_refused BadGeometry is = λ geometry super. is geometry (super_down geometry read file front beyond.0 super)
  long_refused NoPack (geometry, super, is) = absurd (omega (arith, beyond.1 geometry super, is.0))
  long_refused (BadImage fault) (geometry, super, inl is) =
      let short = front_short read file front in
      let more = beyond.1 geometry super in
      (geometry, super_up geometry read file front super, inl (is.0, λ same. absurd (omega (arith, short, more, same))))
  long_refused (BadImage fault) (geometry, super, inr is) = absurd (omega (arith, beyond.1 geometry super, is.0))
  long_refused Device (geometry, super, is) = absurd is
  long_refused NoSpace (geometry, super, is) = absurd is
  long_refused NoFile (geometry, super, is) = absurd is
  long_refused NoNode (geometry, super, is) = absurd is
  long_refused TooFar (geometry, super, is) = absurd is
  long_refused BadLength (geometry, super, is) = absurd is
  long_refused Wounded (geometry, super, is) = absurd is
  long_refused (PassesOut count) (geometry, super, is) = absurd is
  long_refused (SeatsOut count) (geometry, super, is) = absurd is
  long_refused Exhausted (geometry, super, is) = absurd is

-- A refusal that is true of what was read is true of the file.
pub refusal_is_known : (read file : List ℕ) → IsEnoughOf read file → (error : Error) → IsFileRefusal read error → IsFileRefusal file error
refusal_is_known read file known error is = elim known.enough [
  | inl same ↦ subst (λ bytes. IsFileRefusal bytes error) same is
  | inr beyond ↦ long_refused read file known.front beyond error is
]

-- what is true of the file that these bytes begin, and the rest ends, is true of what was known before they were read
pub if_consumed : (before after : Option (List ℕ)) (read : List ℕ) (P : List ℕ → Type 0) → Consumes before after read → IfSome after (λ rest. P (read ++ rest)) → IfSome before P
if_consumed None after read P consumed is = tt
if_consumed (Some file) None read P consumed is = absurd consumed
if_consumed (Some file) (Some rest) read P consumed is = subst P (sym consumed) is

is_front : (read rest : List ℕ) → read ≡ take (length read) (read ++ rest)
is_front read rest = sym (take-append_seam read rest)

-- so few bytes that the input ended are all, and more are enough where they are no superblock
pub front_is_enough : (after : Option (List ℕ)) (read : List ℕ) → (length read < 64 → IsAtEnd after) → ((geometry : Geometry) → ¬ HasSuper geometry read)
    → IfSome after (λ rest. IsEnoughOf read (read ++ rest))
front_is_enough None read all none = tt
front_is_enough (Some rest) read all none = record {
  front = is_front read rest;
  enough = ⊎_elim (λ few. inl (sym (ap (λ end. read ++ end) (all few) ∙ append-nil read))) (λ many. inr (many, λ geometry super. absurd (none geometry super))) (cases_lt (length read) 64);
}

-- of a file whose superblock tells a size, all bytes, or one more than it tells, are enough
pub behind_is_enough : (geometry : Geometry) (before after : Option (List ℕ)) (front behind : List ℕ) → HasSuper geometry front → Consumes before after behind
    → (length behind < file_bytes geometry - 63 → IsAtEnd after) → IfSome before (λ rest. IsEnoughOf (front ++ behind) (front ++ rest))
behind_is_enough geometry None after front behind super consumed all = tt
behind_is_enough geometry (Some rest) None front behind super consumed all = absurd consumed
behind_is_enough geometry (Some rest) (Some end) front behind super consumed all =
    let whole : front ++ rest ≡ (front ++ behind) ++ end = ap (λ bytes. front ++ bytes) consumed ∙ sym (append_assoc front behind end) in
    let long : length (front ++ behind) ≡ length front + length behind = length-append front behind in
    let begins : front ≡ take (length front) (front ++ behind) = is_front front behind in
    subst (IsEnoughOf (front ++ behind)) (sym whole) (record {
      front = is_front (front ++ behind) end;
      enough = ⊎_elim
          (λ few. inl (sym (ap (λ last. (front ++ behind) ++ last) (all few) ∙ append-nil (front ++ behind))))
          (λ many. inr (
            omega (arith, long, super.0),
            λ other told.
                let same = one_geometry other geometry (front ++ behind) told (super_up geometry front (front ++ behind) begins super) in
                subst (λ told_by. file_bytes told_by < length (front ++ behind)) (sym same) (omega (arith, long, many, super.0)),
          )) (cases_lt (length behind) (file_bytes geometry - 63));
    })

-- The lawful image that what was read holds is the file's.
pub image_is_known : (read file : List ℕ) → IsEnoughOf read file → (geometry : Geometry) (image : Image) → HoldsLawfulImage geometry image read → HoldsLawfulImage geometry image file
image_is_known read file known geometry image holds =
    subst (HoldsLawfulImage geometry image) (whole_is_all read file known (geometry, holds.superblock, holds.held.size)) holds

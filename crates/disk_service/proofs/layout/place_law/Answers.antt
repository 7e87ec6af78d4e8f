use Rattle.std.proofs.Common.{◌∙◌, sym}
use Rattle.disk_service.proofs.Places.{same_block}
use Rattle.disk_service.proofs.layout.place_law.Goals as goal

pub returns : goal.returns
returns c = record {
  apart = λ numbers size blocks one other place lie first second.
      same_block numbers one other lie.some lie.distinct (first.file ∙ sym second.file) (sym first.index ∙ second.index);
}

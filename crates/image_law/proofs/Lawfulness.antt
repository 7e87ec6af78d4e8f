-- The law of the assembled image.
use Rattle.image_law.specs.AssemblyLaw.{AssemblyLaw}
use Rattle.image_law.specs.Assembled.{assembled}
use Rattle.image_law.proofs.Tables.{is_image}
use Rattle.image_law.proofs.Assembling.{assembled_is_lawful}
use Rattle.image_law.proofs.Filing.{files_are}
use Rattle.image_law.proofs.Naming.{named_as_marked}

pub assembly_holds : AssemblyLaw
assembly_holds geometry version parts blocks low law even spelled =
    let image = assembled geometry version parts blocks in
    let is = is_image geometry version parts blocks low law even spelled in
    record {
      lawful = assembled_is_lawful geometry parts image law even is;
      files = files_are geometry parts image blocks law even is;
      names = λ h. named_as_marked geometry parts image law even is h geometry.limits.inodes;
    }

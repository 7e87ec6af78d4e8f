use Rattle.flash_volume.proofs.scheduler_ladder.visit_by_rounds.Given as goal

-- what was just read of the device
abbrev pub ghosts-on_mounted : goal.ghosts-on_mounted
ghosts-on_mounted g a = record { books = a.mounted.books; rows = a.mounted.rows; words = a.mounted.words; geometry = a.mounted.geometry }

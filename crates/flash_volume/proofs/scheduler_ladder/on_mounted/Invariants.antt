use Rattle.flash_volume.proofs.scheduler_ladder.on_mounted.Given as goal

-- the queues that were just made
abbrev pub ghosts-on_opened-P-PoolName : goal.ghosts-on_opened-P-PoolName
ghosts-on_opened-P-PoolName g a = record { ordinary = a.opened.queues.ordinary; reserve = a.opened.queues.reserve }

abbrev pub ghosts-on_opened-T-TurnName : goal.ghosts-on_opened-T-TurnName
ghosts-on_opened-T-TurnName g a = record { turns = a.opened.channel.turns; key = a.opened.channel.key }

-- A mount changes nothing that work on a volume speaks of.
use Rattle.mount_reading.proofs.Moments.{kept_held}
use Rattle.flash_volume.proofs.mounting.mount_parts.Goals as goal

pub returns-in-Ok-clause-held : goal.returns-in-Ok-clause-held
returns-in-Ok-clause-held g c =
    let found = c.in-Ok.ensures in
    record { size = found.size; held = record { front = found.front; tables = found.image.tables; nodes = found.image.nodes }; lawful = found.lawful }

pub returns-in-Ok-clause-contents : goal.returns-in-Ok-clause-contents
returns-in-Ok-clause-contents g c = c.in-Ok.ensures.parts.contents

pub returns-in-Ok-clause-back : goal.returns-in-Ok-clause-back
returns-in-Ok-clause-back g c =
    let mounted = c.in-Ok.mounted in
    let found = c.in-Ok.ensures in
    let now = found.held (g.M.Meta.seen mounted.parts.meta) (g.met.M.Meta.seen_is_left mounted.parts.meta) in
    record {
      refused = tt;
      same = found.parts;
      kept = λ other. kept_held g.M.Meta.seen c.args.parts.meta mounted.parts.meta mounted.geometry mounted.image found.front found.image.tables now;
      any_moment = found.any_moment;
      device = λ is. absurd (let no = is in cc);
    }

pub returns-in-Err-clause-handed_back : goal.returns-in-Err-clause-handed_back
returns-in-Err-clause-handed_back g c =
    let fault = c.in-Err.ensures in
    record { refused = fault.refused; same = fault.back; kept = fault.kept; any_moment = fault.any_moment_err; device = fault.device }

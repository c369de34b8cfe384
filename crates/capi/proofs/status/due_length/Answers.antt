use Rattle.capi.proofs.StatusLaws.{asked}
use Rattle.capi.proofs.status.due_length.Goals as goal

pub due_len-requires : goal.due_len-requires
due_len-requires c = asked c.in_ok-manifest.ensures c.known_geometry.ensures c.from.ensures

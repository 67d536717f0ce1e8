use denote.Param.Send.{sendable}
use Rattle.std.proofs.Crossing.{Arc-send}
use Rattle.silo_workers.proofs.Sites.{site_sends, site_syncs}
use Rattle.silo_workers.proofs.laws.sites_cross.Goals as goal

pub sends-requires-send-T : goal.sends-requires-send-T
sends-requires-send-T g c κs within = search (Arc-send, site_sends, site_syncs, sendable) depth 12

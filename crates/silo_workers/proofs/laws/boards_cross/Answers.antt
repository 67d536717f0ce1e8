use denote.Param.Send.{sendable}
use Rattle.silo_workers.proofs.Boards.{board_sends}
use Rattle.silo_workers.proofs.laws.boards_cross.Goals as goal

pub sends-requires-send-T : goal.sends-requires-send-T
sends-requires-send-T g c κs within = search (board_sends, sendable) depth 12

use Rattle.progress_rules.proofs.WithRoom.{comes_back_with_room, comes_back_unowned_with_room}
use Rattle.progress_rules.proofs.laws.comes_back_with_room.Goals as goal

pub returns : goal.returns
returns c = record { active = comes_back_with_room; any = comes_back_unowned_with_room }

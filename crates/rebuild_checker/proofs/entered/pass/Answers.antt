use Rattle.rebuild_checker.proofs.Walked.{put_behind}
use Rattle.rebuild_checker.proofs.entered.pass.Goals as goal

pub returns : goal.returns
returns c =
    put_behind c.extend_from_slice.result c.args.entered.now c.args.passed.now.items c.extend_from_slice.new.self.items c.args.from
    c.args.to c.if-to-from.false
    c.extend_from_slice.ensures.items

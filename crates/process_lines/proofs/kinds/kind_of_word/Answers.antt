use Rattle.std.proofs.Common.{◌∙◌, ◌++◌}
use Rattle.process_rules.specs.ReadLetter.{reply_kinds, request_kinds, transfer_kinds}
use Rattle.process_lines.proofs.Names.{kind_behind, kind_first}
use Rattle.process_lines.proofs.kinds.kind_of_word.Goals as goal

pub returns-in-Some : goal.returns-in-Some
returns-in-Some c = kind_first request_kinds (reply_kinds ++ transfer_kinds) c.args.word.now c.in-Some.kind c.in-Some.ensures

pub returns-in-Some-reply_kind : goal.returns-in-Some-reply_kind
returns-in-Some-reply_kind c =
    kind_first reply_kinds transfer_kinds c.args.word.now c.in-Some-reply_kind.kind c.in-Some-reply_kind.ensures
    ∙ kind_behind request_kinds (reply_kinds ++ transfer_kinds) c.args.word.now c.in_default.ensures

use Rattle.dumps.proofs.PlainTexts.{begun_behind, begun_fresh}
use Rattle.dumps.proofs.plain_text.begun.Goals as goal

pub returns-in-Fresh : goal.returns-in-Fresh
returns-in-Fresh c = begun_fresh c.args.place c.args.bytes.now c.behind_blanks.result.now c.in-Fresh.is c.behind_blanks.ensures

pub returns-in_ok-rest-in-AfterValue : goal.returns-in_ok-rest-in-AfterValue
returns-in_ok-rest-in-AfterValue c =
    begun_behind c.args.place c.args.bytes.now c.in_ok-rest-in-AfterValue.rest.now c.behind_blanks-in-AfterValue.result.now
    c.in-AfterValue.is c.in_ok-rest-in-AfterValue.ensures c.behind_blanks-in-AfterValue.ensures

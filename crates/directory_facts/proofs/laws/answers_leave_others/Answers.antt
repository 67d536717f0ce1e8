use Rattle.directory_facts.proofs.Answers.{answers_leave_others}
use Rattle.directory_facts.proofs.laws.answers_leave_others.Goals as goal

pub returns : goal.returns
returns c = answers_leave_others

use Rattle.directory_rules.proofs.Mails.{mail_after}
use Rattle.directory_rules.proofs.laws.mail_is_numbered.Goals as goal

pub returns : goal.returns
returns c = mail_after

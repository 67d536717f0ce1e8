-- How what the code's silo answers, and leaves, is what the definitions make.
use Rattle.directory_rules.specs.Step.{Stepped}
use Rattle.directory_silo.specs.declared.answer.Answer.{Answer}
use Rattle.silo_rules.specs.declared.news.News.{News}
use Rattle.silo_rules.specs.SiloValue.{SiloValue}
use Rattle.silo_rules.specs.Told.{Heard}

-- the step that leaves this silo, and answers so
abbrev pub stepped_as : SiloValue → Answer → Stepped
stepped_as after answer = record { node = after.node; letters = answer.letters.items; effect = answer.effect }

-- a change that leaves this silo, and is told so
abbrev pub heard_as : SiloValue → News → Heard
heard_as after news = record { membership = after.membership; news = news }

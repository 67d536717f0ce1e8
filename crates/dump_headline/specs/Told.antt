-- What is promised of the dump of a world.
use Rattle.std.specs.Prelude.{◌≡◌, true, codes, None}
use Rattle.texts.specs.Printed.{Output}
use Rattle.directory_rules.specs.State.{World}
use Rattle.dump_rules.specs.Dump.{dump_of, dump_text}
use Rattle.dump_rules.specs.DumpShape.{is_dump}
use Rattle.dump_rules.specs.Judged.{judged_text}
use Rattle.dump_rules.specs.Judgement.{judged}
use Rattle.dump_rules.specs.RightDump.{IsRightDump}
use Rattle.dump_rules.specs.RightShape.{IsDump}
use Rattle.dump_rules.specs.Verdict.{verdict}

-- what is said where all is right
abbrev pub all_right : Output
all_right = record { text = codes "check ok\n"; status = 0 }

-- the world's dump is a dump, and all is right in it; so the tests find, and the checker says of its lists and of its bytes
pub record IsRightlyTold (world : World) : Type 0 where
  pub dump : IsDump (dump_of world)
  pub right : IsRightDump (dump_of world)
  pub shaped : is_dump (dump_of world) ≡ true
  pub no_fault : verdict (dump_of world) ≡ None
  pub said : judged (dump_of world) ≡ all_right
  pub said_of_text : judged_text (dump_text (dump_of world)) ≡ all_right

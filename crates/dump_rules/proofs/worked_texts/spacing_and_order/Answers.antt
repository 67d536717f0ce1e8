use Rattle.std.proofs.Common.{refl}
use Rattle.dump_rules.proofs.Opened.{all_opened}
use Rattle.dump_rules.proofs.worked_texts.spacing_and_order.Goals as goal

pub returns : goal.returns
unfolding all_opened
returns c =
    record {
      nobody_joined = refl;
      spaced = refl;
      another_order = refl;
      escaped_letter = refl;
      member_twice = refl;
      member_twice_amiss = refl;
    }

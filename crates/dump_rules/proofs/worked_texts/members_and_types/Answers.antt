use Rattle.std.proofs.Common.{refl}
use Rattle.dump_rules.proofs.Opened.{all_opened}
use Rattle.dump_rules.proofs.worked_texts.members_and_types.Goals as goal

pub returns : goal.returns
unfolding all_opened
returns c =
    record {
      member_missing = refl;
      member_misnamed = refl;
      text_for_number = refl;
      with_point = refl;
      with_exponent = refl;
      minus_nought =
          refl;
      number_too_high =
          refl;
      unknown_word = refl;
      unreadable_silo = refl;
      unreadable_range = refl;
      point_of_two = refl;
      no_object = refl;
    }

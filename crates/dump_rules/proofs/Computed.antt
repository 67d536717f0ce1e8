-- The texts compute.
use Rattle.std.proofs.Common.{refl}
use Rattle.dump_rules.specs.Texts.{IsSaid}
use Rattle.dump_rules.specs.Texts as texts
use Rattle.dump_rules.proofs.Opened.{all_opened}

pub check_ok : IsSaid texts.check_ok
unfolding all_opened
check_ok = refl

pub check_cut : IsSaid texts.check_cut
unfolding all_opened
check_cut = refl

pub check_extra_member : IsSaid texts.check_extra_member
unfolding all_opened
check_extra_member = refl

pub check_seen_above_current : IsSaid texts.check_seen_above_current
unfolding all_opened
check_seen_above_current = refl

pub check_ring : IsSaid texts.check_ring
unfolding all_opened
check_ring = refl

pub check_range : IsSaid texts.check_range
unfolding all_opened
check_range = refl

pub check_missing_firm : IsSaid texts.check_missing_firm
unfolding all_opened
check_missing_firm = refl

pub check_asking : IsSaid texts.check_asking
unfolding all_opened
check_asking = refl

pub check_stranger : IsSaid texts.check_stranger
unfolding all_opened
check_stranger = refl

pub check_two_firm : IsSaid texts.check_two_firm
unfolding all_opened
check_two_firm = refl

pub check_passes_over_the_dead : IsSaid texts.check_passes_over_the_dead
unfolding all_opened
check_passes_over_the_dead = refl

-- The parts are those of `meet_of`.
use Rattle.std.proofs.Common.{List, subst, sym}
use Rattle.ring_range.specs.Range.{Range}
use Rattle.ring_range.specs.Meet.{AreCommon, AreApart, AreFewest, AreNearerFirst, AreAbsentAtStart}
use Rattle.ring_range.proofs.Meets.{common, apart, fewest, nearer_first, absent}
use Rattle.ring_range.proofs.range.RingRange.meet.Goals as goal

pub returns-clause-common : goal.returns-clause-common
returns-clause-common c =
    subst (λ (parts : List Range). AreCommon c.args.self.now c.args.other.now parts) (sym c.common_parts.ensures.parts)
    (common _ _ c.common_parts.ensures.this c.common_parts.ensures.that)

pub returns-clause-apart : goal.returns-clause-apart
returns-clause-apart c =
    subst (λ (parts : List Range). AreApart parts) (sym c.common_parts.ensures.parts)
    (apart _ _ c.common_parts.ensures.this c.common_parts.ensures.that)

pub returns-clause-fewest : goal.returns-clause-fewest
returns-clause-fewest c =
    subst (λ (parts : List Range). AreFewest c.args.self.now c.args.other.now parts) (sym c.common_parts.ensures.parts)
    (fewest _ _ c.common_parts.ensures.this c.common_parts.ensures.that)

pub returns-clause-nearer_first : goal.returns-clause-nearer_first
returns-clause-nearer_first c =
    subst (λ (parts : List Range). AreNearerFirst c.args.self.now parts) (sym c.common_parts.ensures.parts)
    (nearer_first _ _ c.common_parts.ensures.this c.common_parts.ensures.that)

pub returns-clause-absent : goal.returns-clause-absent
returns-clause-absent c =
    subst (λ (parts : List Range). AreAbsentAtStart c.args.self.now parts) (sym c.common_parts.ensures.parts)
    (absent _ _ c.common_parts.ensures.this c.common_parts.ensures.that)

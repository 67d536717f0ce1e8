use Rattle.ring_range.proofs.Meets.{common, apart, fewest, nearer_first, absent, ranges, held}
use Rattle.ring_range.proofs.laws.meet_of_is_the_meet.Goals as goal

pub returns-clause-common : goal.returns-clause-common
returns-clause-common c = λ this t other o. common this other t o

pub returns-clause-apart : goal.returns-clause-apart
returns-clause-apart c = λ this t other o. apart this other t o

pub returns-clause-fewest : goal.returns-clause-fewest
returns-clause-fewest c = λ this t other o. fewest this other t o

pub returns-clause-nearer_first : goal.returns-clause-nearer_first
returns-clause-nearer_first c = λ this t other o. nearer_first this other t o

pub returns-clause-absent : goal.returns-clause-absent
returns-clause-absent c = λ this t other o. absent this other t o

pub returns-clause-ranges : goal.returns-clause-ranges
returns-clause-ranges c = λ this t other o. ranges this other t o

pub returns-clause-held : goal.returns-clause-held
returns-clause-held c = λ this t other o hash h. held this other hash t o h

use Rattle.std.proofs.Common.{◌≡◌}
use Rattle.std.specs.VecDeque.{deque_len}
use Rattle.letter_mail.specs.Queues.{fresh_at, from_first}
use Rattle.letter_mail.proofs.queue.drop_stale.Given as goal

-- from the first fresh one on they are what they were
abbrev pub invariant-loop-number : goal.invariant-loop-number
invariant-loop-number l = from_first (fresh_at l.slots) l.numbers.items ≡ from_first (fresh_at l.slots) l.fn.numbers.items

abbrev pub decreases-loop-number : goal.decreases-loop-number
decreases-loop-number l = deque_len l.numbers

-- How a queue of the code is one of the specs.
use Rattle.letter_mail.specs.declared.queue.Queue.TheInside.{Inside}
use Rattle.letter_mail.specs.Queues.{QueueValue}

-- its numbers
abbrev pub queue_seen : Inside → QueueValue
queue_seen q = q.numbers.items

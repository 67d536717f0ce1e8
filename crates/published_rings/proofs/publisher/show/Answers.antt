use Rattle.std.proofs.Common.{◌≡◌, ◌∙◌, sym, List, drop}
use Rattle.published_rings.specs.Shown.{EditionValue, edition_after}
use Rattle.published_rings.proofs.Ends.{follows_on, shown_next}
use Rattle.published_rings.proofs.publisher.show.Goals as goal

pub turn-requires : goal.turn-requires
turn-requires g c =
    let shown = c.queue.new.writer.desk.shown.value in
    let all : List EditionValue = drop c.queue.new.writer.behind c.queue.new.writer.log.items in
    let pending : List EditionValue = drop c.args.writer.behind c.args.writer.log.items in
    let follows : c.args.given.1 ≡ edition_after shown.edition c.args.given.1.ring = rw c.queue.ensures.desk c.requires in
    follows_on shown all pending c.args.given.1 c.queue.ensures.pending follows

pub returns : goal.returns
returns g c =
    let shown = c.queue.new.writer.desk.shown.value in
    let all : List EditionValue = drop c.queue.new.writer.behind c.queue.new.writer.log.items in
    let pending : List EditionValue = drop c.args.writer.behind c.args.writer.log.items in
    rw (sym c.queue.ensures.desk) (c.turn.ensures ∙ shown_next shown all pending c.args.given.1 c.queue.ensures.pending)

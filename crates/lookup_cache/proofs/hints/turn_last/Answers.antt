use Rattle.std.proofs.Common.{◌∙◌, ap, sym}
use Rattle.lru.specs.LruCache.{lru_cache}
use Rattle.lookup_cache.proofs.Rounds.{turned_none, turned_living, turned_dead}
use Rattle.lookup_cache.proofs.hints.turn_last.Goals as goal

pub returns-in_default : goal.returns-in_default
returns-in_default c =
    ap (λ l. lru_cache l c.args.hints.now.cap) (turned_none c.args.view.now c.args.hints.now.entries (sym c.in_default.ensures))

pub returns-then-is_dead_in : goal.returns-then-is_dead_in
returns-then-is_dead_in c =
    c.pop_lru.ensures.entries
    ∙ ap (λ l. lru_cache l c.args.hints.now.cap)
    (turned_dead c.args.view.now c.args.hints.now.entries (c.in-Some.grain.now, c.in-Some.activation.now) (sym c.in-Some.ensures)
    (sym c.is_dead_in.ensures ∙ c.if-is_dead_in.true))

pub returns-else-is_dead_in : goal.returns-else-is_dead_in
returns-else-is_dead_in c =
    c.promote.ensures.entries
    ∙ ap (λ l. lru_cache l c.args.hints.now.cap)
    (turned_living c.args.view.now c.args.hints.now.entries (c.in-Some.grain.now, c.in-Some.activation.now) (sym c.in-Some.ensures)
    c.len-len.ensures.valid.0
    (sym c.is_dead_in.ensures ∙ c.if-is_dead_in.false))

use Rattle.std.proofs.Common.{◌≡◌, ◌++◌, Err, arith, length, rules, take, ap, ◌∙◌}
use Rattle.std.proofs.lemmas.List.{length-take-le, with_items_is}
use Rattle.console_command.proofs.Chunks.{all_read, chunk_read, kept_unread, not_taken, nothing_read, read_broken, read_more, read_not_begun, read_unkept, read_whole}
use Rattle.console_command.proofs.source.read_all.Goals as goal

pub chunks-init : goal.chunks-init
chunks-init g c = record {
  consumes = nothing_read _ _ c.new-bytes.ensures.items;
  fits = omega (arith, c.new-bytes.ensures.len);
  room = c.in_ok-chunk.ensures.len;
  calls = λ last well after. after;
}

pub returns-in_default-clause-unread : goal.returns-in_default-clause-unread
returns-in_default-clause-unread g c =
    kept_unread _ _ _ c.chunks.bytes.items c.chunks.invariant.consumes (g.met.R.Source.known _ _ _ c.in_default.ensures.once)
    (omega (arith, c.chunks.invariant.fits, c.chunks.bytes.ok.0))

pub returns-then-count-eq0-clause-read : goal.returns-then-count-eq0-clause-read
returns-then-count-eq0-clause-read g c =
    let chunk = c.read_chunk.new.chunk in
    let made = g.met.R.Source.known _ _ _ c.in-Ok.ensures.once in
    all_read _ _ _ c.chunks.bytes.items (take c.in-Ok.count chunk) c.chunks.invariant.consumes made.0
    (ap (λ n. take n chunk) c.if-count-eq0.true)
    (made.1 (ap (λ n. take n chunk) c.if-count-eq0.true)) (omega (arith, c.chunks.invariant.fits, c.chunks.bytes.ok.0))

pub chunks-preserved : goal.chunks-preserved
chunks-preserved g c =
    let chunk = c.read_chunk.new.chunk in
    let whole : c.deref.result.now ≡ chunk = c.deref.ensures.value ∙ with_items_is c.chunks.chunk chunk (search rules) in
    let made = g.met.R.Source.known _ _ _ c.in-Ok.ensures.once in
    record {
      consumes = chunk_read _ _ _ c.chunks.bytes.items (take c.in-Ok.count chunk) _ c.chunks.invariant.consumes made.0
          (c.in_default-take_in.ensures.taken ∙ ap (λ l. c.chunks.bytes.items ++ take c.in-Ok.count l) whole);
      fits = c.in_default-take_in.ensures.fits;
      room = c.chunks.invariant.room;
      calls = read_more g.R.Source.reads _ c.chunks.reader c.read_chunk.new.self (take c.in-Ok.count chunk)
          (omega (arith, length-take-le c.in-Ok.count chunk c.in-Ok.ensures.bound.0, c.in-Ok.ensures.bound.0)) c.in-Ok.ensures.once
          c.chunks.invariant.calls;
    }

pub returns-in-Err-clause-unread : goal.returns-in-Err-clause-unread
returns-in-Err-clause-unread g c =
    let chunk = c.read_chunk.new.chunk in
    let room : length chunk ≡ 65536 = search rules in
    let whole : c.deref.result.now ≡ chunk = c.deref.ensures.value ∙ with_items_is c.chunks.chunk chunk (search rules) in
    let made = g.met.R.Source.known _ _ _ c.in-Ok.ensures.once in
    not_taken _ _ _ c.chunks.bytes.items (take c.in-Ok.count chunk) c.in-Err.unread c.chunks.invariant.consumes made.0
    (omega (arith, c.chunks.invariant.fits, c.chunks.bytes.ok.0))
    (omega (arith, room, length-take-le c.in-Ok.count chunk c.in-Ok.ensures.bound.0, c.in-Ok.ensures.bound.0))
    (λ long. omega (arith, c.in-Err.ensures.too_long (ap Err long), c.chunks.bytes.ok.0, ap (λ l. length (take c.in-Ok.count l)) whole))
    (λ lacks. omega (arith, c.in-Err.ensures.within (ap Err lacks), c.chunks.bytes.ok.0, ap (λ l. length (take c.in-Ok.count l)) whole))

pub returns-in_default-clause-calls : goal.returns-in_default-clause-calls
returns-in_default-clause-calls g c =
    read_broken g.R.Source.reads _ c.chunks.reader c.read_chunk.new.self c.in_default.ensures.once c.chunks.invariant.calls

pub returns-then-count-eq0-clause-calls : goal.returns-then-count-eq0-clause-calls
returns-then-count-eq0-clause-calls g c =
    read_whole g.R.Source.reads _ c.chunks.reader c.read_chunk.new.self (take c.in-Ok.count c.read_chunk.new.chunk)
    (ap (λ n. take n c.read_chunk.new.chunk) c.if-count-eq0.true)
    c.in-Ok.ensures.once c.chunks.invariant.calls

pub returns-in-Err-clause-calls : goal.returns-in-Err-clause-calls
returns-in-Err-clause-calls g c =
    let chunk = c.read_chunk.new.chunk in
    read_unkept g.R.Source.reads _ c.chunks.reader c.read_chunk.new.self (take c.in-Ok.count chunk) c.in-Err.unread
    (λ broken. c.in-Err.ensures.unbroken (ap Err broken))
    (omega (arith, length-take-le c.in-Ok.count chunk c.in-Ok.ensures.bound.0, c.in-Ok.ensures.bound.0)) c.in-Ok.ensures.once
    c.chunks.invariant.calls

pub returns-in_err-chunk-clause-calls : goal.returns-in_err-chunk-clause-calls
returns-in_err-chunk-clause-calls g c = search (rules, read_not_begun)

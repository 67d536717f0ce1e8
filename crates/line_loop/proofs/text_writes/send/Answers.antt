use Rattle.std.proofs.Common.{ℕ, List, Some, None, arith, subst, true, false, drop}
use Rattle.std.proofs.lemmas.List.{drop-drop, drop_all, length-drop, take_rest}
use Rattle.line_loop.proofs.Sent.{sends, written_broken, written_more, written_nothing, written_whole}
use Rattle.line_loop.proofs.text_writes.send.Goals as goal

pub loop-sent-preserved : goal.loop-sent-preserved
loop-sent-preserved g c =
    let at = c.loop-sent.sent in
    let bytes = c.args.bytes.now in
    record {
      within = omega (arith, length-drop at bytes, c.in-Ok.ensures.bound);
      calls = written_more g.W.Sink.writes bytes c.args.writer.now c.loop-sent.writer c.write_front.new.self (drop at bytes) _ c.in-Ok.count
          (omega arith) (omega (arith, length-drop at bytes, c.in-Ok.ensures.bound)) (drop-drop c.in-Ok.count at bytes)
          (subst (λ (bs : List ℕ). g.W.Sink.writes c.loop-sent.writer bs (Some c.in-Ok.count) c.write_front.new.self) (take_rest bytes at)
          c.in-Ok.ensures.once)
          c.loop-sent.invariant.calls;
    }

pub returns-then-count-eq0 : goal.returns-then-count-eq0
returns-then-count-eq0 g c =
    let at = c.loop-sent.sent in
    let bytes = c.args.bytes.now in
    let calls = written_nothing g.W.Sink.writes bytes c.args.writer.now c.loop-sent.writer c.write_front.new.self (drop at bytes) c.in-Ok.count
    (omega (arith, length-drop at bytes)) c.if-count-eq0.true
    (subst (λ (bs : List ℕ). g.W.Sink.writes c.loop-sent.writer bs (Some c.in-Ok.count) c.write_front.new.self) (take_rest bytes at)
    c.in-Ok.ensures.once)
    c.loop-sent.invariant.calls in
    record {
      sends = sends g.W.Sink.writes g.W.Sink.contents g.met.W.Sink.known bytes c.args.writer.now c.write_front.new.self false calls;
      calls = calls;
    }

pub returns-in-Err : goal.returns-in-Err
returns-in-Err g c =
    let at = c.loop-sent.sent in
    let bytes = c.args.bytes.now in
    let calls = written_broken g.W.Sink.writes bytes c.args.writer.now c.loop-sent.writer c.write_front.new.self (drop at bytes) (omega (arith, length-drop at bytes))
    (subst (λ (bs : List ℕ). g.W.Sink.writes c.loop-sent.writer bs None c.write_front.new.self) (take_rest bytes at) c.in-Err.ensures.once)
    c.loop-sent.invariant.calls in
    record {
      sends = sends g.W.Sink.writes g.W.Sink.contents g.met.W.Sink.known bytes c.args.writer.now c.write_front.new.self false calls;
      calls = calls;
    }

pub returns : goal.returns
returns g c =
    let bytes = c.args.bytes.now in
    let calls = written_whole g.W.Sink.writes bytes c.args.writer.now c.loop-sent.writer c.loop-sent.writer (drop c.loop-sent.sent bytes) (drop_all c.loop-sent.sent bytes (omega arith))
    c.loop-sent.invariant.calls in
    record {
      sends = sends g.W.Sink.writes g.W.Sink.contents g.met.W.Sink.known bytes c.args.writer.now c.loop-sent.writer true calls;
      calls = calls;
    }

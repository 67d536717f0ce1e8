use Rattle.std.proofs.Common.{codes, lit<, refl, take, ◌∙◌}
use Rattle.console_command.proofs.Told.{by_line}
use Rattle.console_command.proofs.errors.tell_line.Goals as goal

pub returns : goal.returns
returns g c = (
  take c.put-end.result c.put-end.new.text,
  by_line c.args.fault (codes "a fault, whose number stands on the output") c.as_bytes.result.now c.as_bytes-2.result.now _ _ _ _ _ _
      (lit< tt) (c.as_bytes.ensures.value ∙ c.format.ensures.text) c.as_bytes-2.ensures.value refl
      c.put-start.ensures.put c.put-line_end.ensures.put c.put-words.ensures.put c.put-words_end.ensures.put c.put-end.ensures.put,
  c.tell.ensures,
)

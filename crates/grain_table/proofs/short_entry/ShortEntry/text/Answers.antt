use Rattle.std.proofs.Common.{◌∙◌, ap}
use Rattle.silo_address.specs.Grain.{grain_text}
use Rattle.silo_address.specs.declared.Entry.{Entry}
use Rattle.grain_table.proofs.short_entry.ShortEntry.text.Goals as goal

pub returns : goal.returns
returns c = c.as_slice.ensures.value ∙ c.self.invariant.spelled ∙ ap (λ (e : Entry). grain_text e.grain) c.self.view_is

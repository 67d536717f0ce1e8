use Rattle.std.proofs.Common.{◌∙◌, ap, take}
use Rattle.std.proofs.lemmas.List.{take_min}
use Rattle.directory_rules.specs.Settings.{page_size}
use Rattle.seal_snapshot.proofs.snapshot.front.Goals as goal

pub returns : goal.returns
returns c = ap (λ n. take n c.args.entries.now) c.min-count.ensures ∙ take_min page_size c.args.entries.now

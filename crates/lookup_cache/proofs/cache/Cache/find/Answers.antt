use Rattle.std.proofs.Common.{◌∙◌, ap}
use Rattle.directory_rules.specs.State.{Cache}
use Rattle.lookup_cache.specs.Used.{used}
use Rattle.lookup_cache.proofs.Caches.{seen, seen_used}
use Rattle.lookup_cache.proofs.cache.Cache.find.Goals as goal

pub returns-clause-used : goal.returns-clause-used
returns-clause-used c =
    ap seen c.use_hint.ensures.front ∙ seen_used c.self.inside.hints c.args.grain.now c.len-len.ensures.valid
    ∙ ap (λ (v : Cache). used v c.args.grain.now) c.self.view_is

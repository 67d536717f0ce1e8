use Rattle.std.proofs.Common.{◌∙◌, ap}
use Rattle.directory_rules.specs.State.{Cache}
use Rattle.directory_rules.specs.Cache.{learnt}
use Rattle.lookup_cache.proofs.Caches.{seen, seen_put}
use Rattle.lookup_cache.proofs.cache.Cache.learn.Goals as goal

pub returns-clause-learnt : goal.returns-clause-learnt
returns-clause-learnt c =
    ap seen c.in_ok-put.ensures.entries ∙ seen_put c.self.inside.hints c.args.entry.grain c.args.entry.activation c.len-len.ensures.valid
    ∙ ap (λ (v : Cache). learnt v c.args.entry) c.self.view_is

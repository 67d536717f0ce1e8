use Rattle.std.proofs.Common.{◌∙◌, ap}
use Rattle.directory_rules.specs.State.{Cache}
use Rattle.directory_rules.specs.Cache.{cache_seeing}
use Rattle.lookup_cache.proofs.Caches.{seen}
use Rattle.lookup_cache.proofs.cache.Cache.see.Goals as goal

pub returns : goal.returns
returns c = ap seen c.drop_dead.ensures ∙ ap (λ (v : Cache). cache_seeing c.args.view.now v) c.self.view_is

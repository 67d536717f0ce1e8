use Rattle.std.proofs.Common.{◌≡◌, ◌∙◌, ap, sym, Some}
use Rattle.directory_rules.specs.State.{Cache}
use Rattle.directory_rules.specs.Cache.{hint_of, without_pair}
use Rattle.lookup_cache.proofs.Caches.{seen, seen_forgot, seen_kept}
use Rattle.lookup_cache.proofs.cache.Cache.forget.Goals as goal

pub returns-then-names : goal.returns-then-names
returns-then-names c =
    let named : hint_of (seen c.self.inside.hints) c.args.grain.now ≡ Some c.args.activation.now =
    ap (λ (v : Cache). hint_of v c.args.grain.now) c.self.view_is ∙ c.names.ensures.0 c.if-names.true in
    ap seen c.pop.ensures.entries ∙ seen_forgot c.self.inside.hints c.args.grain.now c.args.activation.now c.len-len.ensures.valid named
    ∙ ap (λ (v : Cache). without_pair v c.args.grain.now c.args.activation.now) c.self.view_is

pub returns-else-names : goal.returns-else-names
returns-else-names c =
    sym c.self.view_is
    ∙ seen_kept c.self.inside.hints c.args.grain.now c.args.activation.now c.len-len.ensures.valid
    (λ named. let so = c.names.ensures.1 (sym (ap (λ (v : Cache). hint_of v c.args.grain.now) c.self.view_is) ∙ named) in
    let not = c.if-names.false in cc)
    ∙ ap (λ (v : Cache). without_pair v c.args.grain.now c.args.activation.now) c.self.view_is

use Rattle.std.proofs.Common.{◌∙◌, Option, option_map, slice_get, ap, sym}
use Rattle.silo_address.specs.Grain.{grain_eq}
use Rattle.silo_address.specs.declared.ActivationId.{ActivationId}
use Rattle.lookup_cache.proofs.Pairs.{first-promoted}
use Rattle.lookup_cache.proofs.Rounds.{Hint}
use Rattle.lookup_cache.proofs.hints.use_hint.Goals as goal

abbrev told : Option Hint → Option ActivationId
told o = option_map (λ e. e.1) o

pub returns-in-Some-clause-hint : goal.returns-in-Some-clause-hint
returns-in-Some-clause-hint c =
    ap told c.in-Some.ensures
    ∙ ap (λ h. told (slice_get h.entries 0)) c.bring_to_front.ensures.front
    ∙ first-promoted (grain_eq c.args.grain.now) c.args.hints.now.entries
    (sym c.bring_to_front.ensures.found ∙ c.if-not-bring_to_front.false)

pub returns-in-None-clause-hint : goal.returns-in-None-clause-hint
returns-in-None-clause-hint c =
    ap told c.in-None.ensures
    ∙ ap (λ h. told (slice_get h.entries 0)) c.bring_to_front.ensures.front
    ∙ first-promoted (grain_eq c.args.grain.now) c.args.hints.now.entries
    (sym c.bring_to_front.ensures.found ∙ c.if-not-bring_to_front.false)

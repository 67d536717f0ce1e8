use Rattle.std.proofs.Common.{◌≡◌, ap, subst, ◌∙◌}
use Rattle.std.specs.Map.{lookup}
use Rattle.std.specs.Option.{option_map}
use Rattle.directory_rules.specs.declared.Held.{Held}
use Rattle.std.specs.Prelude.{MatchOption, set, slice_get}
use Rattle.host_activations.proofs.Changes.{unwritten, written_at}
use Rattle.host_activations.proofs.Grains.{tests_alike}
use Rattle.host_activations.proofs.activations.write.Goals as goal

pub returns-in_default : goal.returns-in_default
returns-in_default c = record {
  was =
      ap (option_map (λ (h : Held). h.phase)) (c.in_default.ensures.value
      ∙ ap (λ test. lookup test c.args.map.now) (tests_alike c.args.grain.now));
  written = unwritten c.args.map.now c.args.grain.now c.args.phase c.args.previous c.in_default.ensures.value;
}

pub returns : goal.returns
returns c = record {
  was =
      ap (option_map (λ (h : Held). h.phase)) (c.in-Some.ensures.value
      ∙ ap (λ test. lookup test c.args.map.now) (tests_alike c.args.grain.now));
  written =
      written_at c.args.map.now c.apart.ensures c.args.grain.now c.args.phase c.args.previous c.set_at.new.self c.in-Some.index
      c.in-Some.held c.in-Some.ensures.entry c.in-Some.ensures.value
      (subst (λ held. MatchOption (slice_get c.args.map.now c.in-Some.index) (c.set_at.new.self ≡ c.args.map.now)
      (λ e. c.set_at.new.self ≡ set c.args.map.now c.in-Some.index (e.0, held))) c.of.ensures c.set_at.ensures);
}

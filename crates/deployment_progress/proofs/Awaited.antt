-- Whom a silo at rest awaits is there.
use Rattle.std.proofs.Common.{◌≡◌, List, [], ◌∷◌, refl, sym, ap, ◌∙◌}
use Rattle.std.specs.Prelude.{◌||◌, true, false, is_some, Option, Some, None}
use Rattle.std.specs.Option.{option_map}
use Rattle.silo_address.specs.Silo.{Silo}
use Rattle.silo_address.proofs.Same.{Decides-silo}
use Rattle.membership_view.specs.View.{ViewValue}
use Rattle.ring_range.specs.Range.{Range}
use Rattle.directory_rules.specs.Happens.{node_of}
use Rattle.directory_rules.specs.Members.{members_of}
use Rattle.directory_rules.specs.State.{Node}
use Rattle.directory_rules.specs.Recovery.{is_among}
use Rattle.directory_rules.specs.Sent.{recovery_of}
use Rattle.progress_rules.specs.Waits.{Recovers, Awaits}
use Rattle.progress_rules.specs.Gathers.{AwaitsFrom}
use Rattle.progress_rules.proofs.Resting.{rest_live}
use Rattle.deployment_headline.specs.Deployment.{Deployment}
use Rattle.deployment_headline.specs.Limits.{node_with_room}
use Rattle.deployment_progress.proofs.Rest.{node_at, HasWorld, IsAtRest}
use Rattle.deployment_progress.proofs.Later.{w, in_world, its_recoveries, its_view}

some_mapped : (f : Node → Node) (o : Option Node) → is_some (option_map f o) ≡ true → (m : Node) × (o ≡ Some m)
some_mapped f None is = absurd (cc (is))
some_mapped f (Some m) is = (m, refl)

module _ (d : Deployment) (r : IsAtRest d) (silo : Silo) (node : Node) (there : node_at d silo ≡ Some node) where
  abbrev its : HasWorld d
  its = w d r

  pub lives : (other : Silo) → is_some (node_of its.world other) ≡ true → (m : Node) × (node_at d other ≡ Some m)
  lives other is =
      some_mapped (node_with_room its.events its.letters) (node_at d other)
      (ap (λ (o : Option Node). is_some o) (sym (its.nodes other)) ∙ is)

  members_there : (other : Silo) → is_among other (members_of node.view) ≡ true → (m : Node) × (node_at d other ≡ Some m)
  members_there other among =
      lives other (rest_live its.world its.rests other
      ∙ ap (λ (v : ViewValue). is_among other (members_of v)) (sym (its_view d r silo node there)) ∙ among)

  pub awaited_there : (range : Range) (other : Silo) → Awaits node range other → (m : Node) × (node_at d other ≡ Some m)
  awaited_there range other waits =
      members_there other ((its_recoveries d r silo node there range waits.recovers).members other waits.among)

  pub giver_there : (range : Range) (giver : Silo) → AwaitsFrom node range giver → (m : Node) × (node_at d giver ≡ Some m)
  giver_there range giver waits =
      lives giver (its.lives silo (node_with_room its.events its.letters node) (in_world d r silo node there) range giver waits)

  -- a range that recovers awaits somebody
  pub awaits_some : (range : Range) → Recovers node range → (other : Silo) × Awaits node range other
  awaits_some range recovers = by (recovery_of node range).awaiting refl
    where
      own : is_among silo (members_of node.view) ≡ true
      own =
          ap (λ (v : ViewValue). is_among silo (members_of v)) (its_view d r silo node there) ∙ sym (rest_live its.world its.rests silo)
          ∙ ap (λ (o : Option Node). is_some o) (in_world d r silo node there)

      by : (silos : List Silo) → (recovery_of node range).awaiting ≡ silos → (other : Silo) × Awaits node range other
      by [] none =
          let members = (its_recoveries d r silo node there range recovers).some none in
          let not : is_among silo (members_of node.view) ≡ false = ap (λ ms. is_among silo ms) members in
          absurd (cc (own, not))
      by (other ∷ more) some = (
        other,
        record {
          recovers = recovers;
          among = ap (λ ss. is_among other ss) some
              ∙ ap (λ b. b || is_among other more) ((Decides-silo other other).1 refl);
        },
      )

-- Steps that are no action: nothing changes that is shown.
use Rattle.std.proofs.Common.{◌≡◌, ℕ, refl, sym, ap, ◌∙◌}
use Rattle.std.specs.Prelude.{not}
use Rattle.std.specs.Option.{option_map}
use Rattle.std.specs.Map.{lookup}
use Rattle.std.specs.BTreeMap.{is_at}
use Rattle.std.proofs.lemmas.List.Elements.{All-filter}
use Rattle.silo_address.specs.Silo.{Silo}
use Rattle.silo_address.specs.Grain.{grain_cmp}
use Rattle.ring_range.specs.Range.{Range}
use Rattle.directory_protocol.specs.Setting.{Setting}
use Rattle.directory_protocol.specs.World as protocol
use Rattle.directory_rules.specs.declared.effect.Effect.{Effect}
use Rattle.directory_rules.specs.declared.effect.Effect.TheVariants as effect
use Rattle.directory_rules.specs.Snapshot.{is_snapshot, shelf_without}
use Rattle.directory_rules.specs.State.{Host, Cache, Letter, Body, Node, World}
use Rattle.directory_rules.specs.Host.{without_find}
use Rattle.directory_rules.specs.Step.{silently}
use Rattle.directory_rules.specs.Transfer.{answering, answer_to}
use Rattle.directory_headline.specs.Shown.{held_as, IsShownLetter, IsShownSnapshot, IsShownBody}
use Rattle.directory_headline.proofs.Frame.{Here, Moves, stays, node_shown, no_letters, one_letter}

module _ (m : Setting) (f : World) (w : protocol.World) (silo : Silo) (node : Node) (here : Here m f w silo node) where
  pub nothing : (effect : Effect) → Moves m w silo (silently node effect)
  nothing effect = stays m w silo (silently node effect) (node_shown m f w silo node here) (no_letters (IsShownLetter m.hash w))

  -- another host and cache, of the same activations and numbers
  pub host_same : (host : Host) (cache : Cache) (effect : Effect) → host.held ≡ node.host.held → host.next_number ≡ node.host.next_number
      → host.next_count ≡ node.host.next_count
      → Moves m w silo (silently (record node { host = host; cache = cache }) effect)
  host_same host cache effect held number count =
      let was = node_shown m f w silo node here in
      stays m w silo (silently (record node { host = host; cache = cache }) effect) (record {
        seen = was.seen;
        host = record {
          held = λ grain. was.host.held grain ∙ ap (λ es. option_map held_as (lookup (is_at (grain_cmp grain)) es)) (sym held);
          next_number = was.host.next_number ∙ sym number;
          next_count = was.host.next_count ∙ sym count;
        };
        holding = was.holding;
        shelf = was.shelf;
        gatherings = was.gatherings;
        recoveries = was.recoveries;
      }) (no_letters (IsShownLetter m.hash w))

  pub cache_changes : (cache : Cache) (effect : Effect) → Moves m w silo (silently (record node { cache = cache }) effect)
  cache_changes cache effect = host_same node.host cache effect refl refl refl

  pub find_ends : (number : ℕ) (cache : Cache) (effect : Effect)
      → Moves m w silo (silently (record node { host = without_find node.host number; cache = cache }) effect)
  find_ends number cache effect = host_same (without_find node.host number) cache effect refl refl refl

  -- a letter back that has no like in the protocol
  pub answers_so : (letter : Letter) (body : Body) (effect : Effect) → IsShownBody m.hash w (answer_to letter node body) body
      → Moves m w silo (answering letter node body effect)
  answers_so letter body effect is =
      stays m w silo (answering letter node body effect) (node_shown m f w silo node here)
      (one_letter (IsShownLetter m.hash w) (answer_to letter node body) is)

  pub forgoes : (letter : Letter) (range : Range) → Moves m w silo
      (silently (record node { shelf = shelf_without node.shelf letter.version range letter.from }) effect.Deleted)
  forgoes letter range =
      let was = node_shown m f w silo node here in
      stays m w silo (silently (record node { shelf = shelf_without node.shelf letter.version range letter.from }) effect.Deleted) (record {
        seen = was.seen;
        host = was.host;
        holding = was.holding;
        shelf =
            All-filter (λ s. not (is_snapshot letter.version range letter.from s)) (IsShownSnapshot m.hash w.snapshots) node.shelf
            was.shelf;
        gatherings = was.gatherings;
        recoveries = was.recoveries;
      }) (no_letters (IsShownLetter m.hash w))

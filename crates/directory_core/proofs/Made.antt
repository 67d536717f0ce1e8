-- What holds of a world that events have made: it can be made by one event more, and what the laws say of all of them.
use Rattle.std.proofs.Common.{◌≡◌, ℕ, ◌-◌, ◌≤◌, List, [], ◌∷◌, ◌++◌, true, Some, Result, Ok, Err, refl, sym, ◌∙◌, ap, subst}
use Rattle.std.specs.Map.{keys_of}
use Rattle.std.proofs.lemmas.List.Elements.{All-nil, All-cons, All-append}
use Rattle.silo_address.specs.Silo.{Silo}
use Rattle.membership_view.specs.View.{ViewValue}
use Rattle.membership_view.specs.Views.{view_at}
use Rattle.hash_ring.specs.Ring.{are_added, ring_of}
use Rattle.directory_rules.specs.Settings.{Settings, AreSettings}
use Rattle.directory_rules.specs.Membership.{Membership, first_membership}
use Rattle.directory_rules.specs.State.{Node, World, Accepted}
use Rattle.directory_rules.specs.Event.{Event, IsEvent}
use Rattle.directory_rules.specs.World.{first_world}
use Rattle.directory_rules.specs.Happens.{happens, node_of}
use Rattle.directory_rules.specs.Headline.{AfterAnyEvents, Headline, MovesPlainly}
use Rattle.directory_rules.specs.Laws.{ArePeopled}
use Rattle.directory_rules.specs.Run.{run, run_from_start, world_after}
use Rattle.directory_rules.proofs.Mails.{mail_after}
use Rattle.directory_rules.proofs.Peopled.{peopled_after}
use Rattle.directory_facts.specs.Seen.{SeesItsVersion}
use Rattle.directory_facts.proofs.Lawful.{nodes_see, settings_stay, shared_by}
use Rattle.directory_facts.proofs.Places.{AllAdded, added_view}
use Rattle.directory_facts.proofs.SeenRings.{seen_facts, seen_keep}
use Rattle.directory_headline.proofs.Theorems.{headline_after, plain_after}
use Rattle.directory_headline.proofs.Runs.{one_more}
use Rattle.dump_headline.specs.Told.{IsRightlyTold}
use Rattle.dump_headline.proofs.Theorem.{rightly_told}
use Rattle.directory_node.specs.Placed.{ArePlaced}
use Rattle.letter_mail.specs.Mail.{MailValue}
use Rattle.directory_core.specs.CurrentView.{ring_of_current_view}
use Rattle.directory_core.specs.Whole.{IsWorld, LeavesWorld}

-- ---- made
pub first_made : (settings : Settings) → AreSettings settings → IsWorld (first_world settings)
unfolding run
first_made settings are = record { in_range = are; events = []; named = All-nil IsEvent; made = refl }

-- of equal parts too
pub first_kept : (settings : Settings) (m : Membership) (nodes : List (Silo × Node)) (mail : MailValue) → AreSettings settings
    → m ≡ first_membership settings → nodes ≡ []
    → mail ≡ record { letters = []; sent = 0 }
    → IsWorld (record {
      settings = settings;
      accepted = 0;
      views = m.views;
      places = m.places;
      nodes = nodes;
      mail = mail.letters;
      sent = mail.sent;
    })
first_kept settings m nodes mail are m_is nodes_are mail_is =
    let first = first_membership settings in
    subst (λ (m : Membership). IsWorld (record {
      settings = settings;
      accepted = 0;
      views = m.views;
      places = m.places;
      nodes = nodes;
      mail = mail.letters;
      sent = mail.sent;
    })) (sym m_is)
    (subst (λ (n : List (Silo × Node)). IsWorld (record {
      settings = settings;
      accepted = 0;
      views = first.views;
      places = first.places;
      nodes = n;
      mail = mail.letters;
      sent = mail.sent;
    })) (sym nodes_are)
    (subst (λ (l : MailValue). IsWorld (record {
      settings = settings;
      accepted = 0;
      views = first.views;
      places = first.places;
      nodes = [];
      mail = l.letters;
      sent = l.sent;
    })) (sym mail_is)
    (first_made settings are)))

-- what one event more leaves
pub further : (world : World) (event : Event) → IsWorld world → IsEvent event → LeavesWorld (happens world event)
further world event is its = by (happens world event) refl
  where
    by : (happened : Result Accepted ℕ) → happens world event ≡ happened → LeavesWorld happened
    by (Err number) h = tt
    by (Ok accepted) h =
        let more = is.events ++ event ∷ [] in
        let left : (run_from_start world.settings more).world ≡ accepted.world =
        one_more world.settings is.events event ∙ ap (λ (w : World). world_after (happens w event) w) (sym is.made)
        ∙ ap (λ o. world_after o world) h in
        let same : accepted.world.settings ≡ world.settings = ap (λ (w : World). w.settings) (sym left) ∙ settings_stay world.settings more in
        record {
          in_range = subst AreSettings (sym same) is.in_range;
          events = more;
          named = All-append IsEvent is.events (event ∷ []) is.named (All-cons IsEvent event [] its (All-nil IsEvent));
          made = sym left ∙ ap (λ (s : Settings). (run_from_start s more).world) (sym same);
        }

-- ---- what holds after any events holds of it
pub holds : (P : World → Type 0) → AfterAnyEvents P → (world : World) → IsWorld world → P world
holds P law world is = subst P (sym is.made) (law world.settings is.events is.in_range is.named)

pub headline_of : (world : World) → IsWorld world → Headline world
headline_of = holds Headline headline_after

pub told_rightly : (world : World) → IsWorld world → IsRightlyTold world
told_rightly = holds IsRightlyTold rightly_told

pub plain_of_all : (world : World) → IsWorld world → MovesPlainly world
plain_of_all = holds MovesPlainly plain_after

pub peopled : (world : World) → IsWorld world → ArePeopled world.views world.nodes
peopled = holds (λ w. ArePeopled w.views w.nodes) (λ settings events are named. peopled_after settings events are)

-- no more letters were sent than ever may be
pub mail_limited : (world : World) → IsWorld world → world.sent ≤ world.settings.letters
mail_limited =
    holds (λ w. w.sent ≤ w.settings.letters)
    (λ settings events are named.
    subst (λ (s : Settings). (run_from_start settings events).world.sent ≤ s.letters) (sym (settings_stay settings events))
    (mail_after settings events).limited)

-- whoever joined has places
all_added : (world : World) → IsWorld world → AllAdded world.places (keys_of world.views.rows)
all_added =
    holds (λ w. AllAdded w.places (keys_of w.views.rows))
    (λ settings events are named. (shared_by seen_facts seen_keep settings events are (λ k d below. tt)).added)

-- a silo's node has the view of the version that it has seen, and its ring
pub seeing : (world : World) → IsWorld world → (silo : Silo) (node : Node) → node_of world silo ≡ Some node
    → SeesItsVersion world.views world.places node
seeing =
    holds (λ w. (silo : Silo) (node : Node) → node_of w silo ≡ Some node → SeesItsVersion w.views w.places node)
    (λ settings events are named silo node there. nodes_see settings events are silo node there)

-- where that is the current version, it is the current ring
pub current_seen : (world : World) → IsWorld world → (silo : Silo) (node : Node) → node_of world silo ≡ Some node
    → node.view.version ≡ world.views.version → node.ring ≡ ring_of_current_view world
current_seen world is silo node there current =
    let sees = seeing world is silo node there in
    sees.ring_is ∙ ap (λ (v : ViewValue). ring_of v world.places) (sees.view_is ∙ ap (λ n. view_at world.views n) current)

-- so the places are known that a sight asks for
pub placed_sight : (world : World) (version : ℕ) (node : Node) (before view : ViewValue) → IsWorld world
    → node.ring ≡ ring_of node.view world.places
    → before ≡ view_at world.views (version - 1) → view ≡ view_at world.views version → ArePlaced node before view world.places
placed_sight world version node before view is ring_is before_is view_is = record {
  earlier = at (version - 1) before before_is;
  now = at version view view_is;
  ring = ring_is;
}
  where
    at : (v : ℕ) (seen : ViewValue) → seen ≡ view_at world.views v → are_added seen world.places ≡ true
    at v seen seen_is = ap (λ s. are_added s world.places) seen_is ∙ added_view world.views world.places v (all_added world is)

-- What a silo has seen stays the view of its version and the ring of that view, whatever happens.
use Rattle.std.proofs.Common.{◌≡◌, refl, sym, ap, subst, ◌∙◌, ℕ, ◌+◌, ◌≤◌, List, arith}
use Rattle.std.specs.Prelude.{⊤, fold, Ok}
use Rattle.std.specs.Map.{keys_of}
use Rattle.std.proofs.lemmas.List.Elements.{All-nil}
use Rattle.silo_address.specs.Silo.{Silo}
use Rattle.membership_view.specs.declared.row.Row.{Row}
use Rattle.membership_view.specs.Row.{leaving, dying}
use Rattle.membership_view.specs.View.{ViewValue}
use Rattle.membership_view.specs.Views.{ViewsValue, view_at, status_at}
use Rattle.membership_view.specs.Changes as change
use Rattle.membership_view.specs.Whole.{IsViews}
use Rattle.membership_view.specs.Laws.{Accepts}
use Rattle.membership_view.proofs.Kept.{join_is, leave_is, death_is, whole-after}
use Rattle.membership_view.proofs.Unchanged.{views_start, versions_rise, views_stay, first_is_empty}
use Rattle.hash_ring.specs.Places.{PlacesValue, after_add}
use Rattle.hash_ring.specs.Ring.{ring_of}
use Rattle.hash_ring.proofs.Lawful.{ring_stays}
use Rattle.directory_rules.specs.Settings.{Settings, AreSettings}
use Rattle.directory_rules.specs.State.{Node}
use Rattle.directory_rules.specs.Transfer.{told_nothing}
use Rattle.directory_rules.specs.Node.{new_node}
use Rattle.directory_rules.specs.Step as at
use Rattle.directory_rules.specs.Input.{Input, step}
use Rattle.directory_facts.specs.Seen.{SeesItsVersion}
use Rattle.directory_facts.proofs.Carried.{Facts, Brings, IsSight, GoesOn, IsGoing, Keeps}
use Rattle.directory_facts.proofs.Ways.{Ways}
use Rattle.directory_facts.proofs.EachStep.{by_way}
use Rattle.directory_facts.proofs.Emptied.{leaves_else}
use Rattle.directory_facts.proofs.Places.{AllAdded, added_changed, added_joined, added_more, added_itself, added_is, added_view}

-- the views are whole, and views and places are by the settings and of the same silos
pub record AreViews (settings : Settings) (views : ViewsValue) (places : PlacesValue) : Type 0 where
  pub whole : IsViews views
  pub limit : views.limit ≡ settings.silos
  pub hashing : places.hashing ≡ settings.hashing
  pub points : places.points ≡ settings.points
  pub added : AllAdded places (keys_of views.rows)

abbrev pub seen_facts : Facts
seen_facts = record {
  asked = AreSettings;
  named = λ event. ⊤;
  shared = AreViews;
  node = λ settings views places silo node. SeesItsVersion views places node;
  letter = λ settings letter. ⊤;
}

-- ---- the views go on
module _ (settings : Settings) (views next : ViewsValue) (places : PlacesValue) (way : change.Change) (are : AreViews settings views places)
    (is : change.after views way ≡ Ok next) where
  accepts : Accepts views way next
  accepts = record { whole = are.whole; is = is }

  next_whole : IsViews next
  next_whole = whole-after views are.whole way next is

  -- a node that has seen a version still has, by the same places or by more
  still_sees : (added : PlacesValue) (node : Node) →
      ((version : ℕ) → ring_of (view_at views version) added ≡ ring_of (view_at views version) places) → SeesItsVersion views places node
      → SeesItsVersion next added node
  still_sees added node stays sees =
      let rises = versions_rise views way next accepts in
      let within = sees.within in
      record {
        within = omega arith;
        view_is = sees.view_is ∙ sym (views_stay views way next accepts node.view.version sees.within);
        ring_is =
            sees.ring_is ∙ ap (λ view. ring_of view places) sees.view_is ∙ sym (stays node.view.version)
            ∙ ap (λ view. ring_of view added) (sym sees.view_is);
      }

-- nobody has seen anything at first
new_sees : (settings : Settings) (views : ViewsValue) (places : PlacesValue) (silo : Silo) → IsViews views
    → SeesItsVersion views places (new_node settings silo)
new_sees settings views places silo whole = record {
  within = omega arith;
  view_is = ap (λ rows. record { version = 0; rows = rows }) (sym (first_is_empty views whole));
  ring_is = refl;
}

joining : (settings : Settings) (views next : ViewsValue) (places added : PlacesValue) (silo : Silo) (given : List ℕ)
    → AreViews settings views places → change.after_join views silo ≡ Ok next → after_add places silo given ≡ Ok added
    → GoesOn seen_facts settings views places next added × SeesItsVersion next added (new_node settings silo)
joining settings views next places added silo given are viewed placed =
    let whole = next_whole settings views next places (change.Join silo) are viewed in
    let join = join_is views silo next viewed in
    let made = added_is places added silo given placed in (
      record {
        shared = record {
          whole = whole;
          limit = ap (λ v. v.limit) join.is ∙ are.limit;
          hashing = ap (λ p. p.hashing) (sym made) ∙ are.hashing;
          points = ap (λ p. p.points) (sym made) ∙ are.points;
          added = subst (λ (v : ViewsValue). AllAdded added (keys_of v.rows)) (sym join.is)
              (added_joined added silo (views.version + 1) views.rows
              (added_more places added silo given (keys_of views.rows) placed are.added) (added_itself places added silo given placed));
        };
        nodes = λ other node sees. still_sees settings views next places (change.Join silo) are viewed added node
            (λ version. ring_stays places silo given added placed (view_at views version) (added_view views places version are.added)) sees;
      },
      new_sees settings next added silo whole,
    )

-- rows change, and no silo more has one
rows_change : (settings : Settings) (views next : ViewsValue) (places : PlacesValue) (how : Row → Row) (silo : Silo) → IsViews next
    → next ≡ change.next_views views (change.changed how silo views.rows) → AreViews settings views places → AreViews settings next places
rows_change settings views next places how silo whole is are = record {
  whole = whole;
  limit = ap (λ v. v.limit) is ∙ are.limit;
  hashing = are.hashing;
  points = are.points;
  added = subst (λ (v : ViewsValue). AllAdded places (keys_of v.rows)) (sym is) (added_changed places how silo views.rows are.added);
}

going : (settings : Settings) (views next : ViewsValue) (places : PlacesValue) (way : change.Change) → IsGoing way
    → AreViews settings views places → change.after views way ≡ Ok next → GoesOn seen_facts settings views places next places
going settings views next places (change.Join silo) goes are is = absurd goes
going settings views next places (change.Leave silo) goes are is = record {
  shared =
      rows_change settings views next places (leaving (views.version + 1)) silo
      (next_whole settings views next places (change.Leave silo) are is)
      (leave_is views silo next (status_at views views.version silo) is).is are;
  nodes = λ other node sees. still_sees settings views next places (change.Leave silo) are is places node (λ version. refl) sees;
}
going settings views next places (change.Die silo) goes are is = record {
  shared =
      rows_change settings views next places (dying (views.version + 1)) silo
      (next_whole settings views next places (change.Die silo) are is)
      (death_is views silo next (status_at views views.version silo) is).is are;
  nodes = λ other node sees. still_sees settings views next places (change.Die silo) are is places node (λ version. refl) sees;
}

-- ---- steps
module _ (settings : Settings) (views : ViewsValue) (places : PlacesValue) (silo : Silo) (node : Node)
    (sees : SeesItsVersion views places node) where
  abbrev Made : Input → at.Stepped → Type 0
  Made input stepped = Brings seen_facts settings views places silo input → SeesItsVersion views places stepped.node

  -- the view and the ring stay
  pub stay : (its : Node) → its.view ≡ node.view → its.ring ≡ node.ring → SeesItsVersion views places its
  stay its view ring = record {
    within = subst (λ (v : ViewValue). v.version ≤ views.version) (sym view) sees.within;
    view_is = view ∙ sees.view_is ∙ ap (λ v. view_at views v.version) (sym view);
    ring_is = ring ∙ sees.ring_is ∙ ap (λ v. ring_of v places) (sym view);
  }

  sighted : (before view : ViewValue) (brought : PlacesValue) (its : Node) → IsSight views places silo before view brought → its.view ≡ view
      → its.ring ≡ ring_of view brought → SeesItsVersion views places its
  sighted before view brought its sight viewed ringed =
      let version : its.view.version ≡ sight.version = ap (λ v. v.version) (viewed ∙ sight.is_view) in
      let within = sight.within in
      record {
        within = subst (λ n. n ≤ views.version) (sym version) within;
        view_is = viewed ∙ sight.is_view ∙ ap (λ n. view_at views n) (sym version);
        ring_is = ringed ∙ ap (λ p. ring_of view p) sight.is_brought ∙ ap (λ v. ring_of v places) (sym viewed);
      }

  ways : Ways node Made
  ways = record {
    nothing = λ input effect plain brings. sees;
    sees = λ before view brought newer numbers brings. sighted before view brought _ brings refl refl;
    wakes = λ grain may brings. stay _ refl refl;
    closes = λ grain held may brings. stay _ refl refl;
    cancels = λ grain held may brings. stay _ refl refl;
    offers = λ grain held to may active other brings. stay _ refl refl;
    uses_hint = λ grain activation hint brings. stay _ refl refl;
    finds = λ grain room numbers brings. stay _ refl refl;
    forgets = λ grain activation hint brings. stay _ refl refl;
    nudges = λ numbers brings. stay _ refl refl;
    nudges_grain = λ grain numbers brings. stay _ refl refl;
    nudges_ranges = λ brings. sees;
    answers = λ letter request body sender version brings. stay _ refl refl;
    confirms = λ letter number entry e is there brings. stay _ refl refl;
    yields = λ letter number entry e is there brings. stay _ refl refl;
    removes = λ letter number e is there brings. stay _ refl refl;
    misses = λ letter number e is there brings. stay _ refl refl;
    learns = λ letter number entry is there brings. stay _ refl refl;
    notes = λ letter number is there brings. stay _ refl refl;
    hands = λ letter range number page body is brings. sees;
    lacks = λ letter range number body is brings. sees;
    forgoes = λ letter range body there brings. stay _ refl refl;
    lags = λ letter range brings. sees;
    passed = λ letter range brings. sees;
    reports = λ letter range after body seen brings. sees;
    gathers = λ letter page gathering taken is brings. stay _ refl refl;
    installs = λ letter page entries taken is brings. stay _ refl refl;
    drops = λ letter page gathering taken is brings. stay _ refl refl;
    turns = λ letter range piece body has awaits brings. stay _ refl refl;
    continues = λ letter report recovery taken is brings. stay _ refl refl;
    collects = λ letter report recovery taken is brings. stay _ refl refl;
    completes = λ letter report table taken is brings. stay _ refl refl;
    surveys = λ letter first others body seen brings. sees;
    empties =
        λ letter ranges its body plain brings. let rest = leaves_else letter node ranges in
        stay (fold (told_nothing letter) node ranges) rest.view rest.ring;
    takes_over = λ letter entry body seen may brings. stay _ refl refl;
  }

-- a step leaves it so
pub sees_on : (settings : Settings) (views : ViewsValue) (places : PlacesValue) (silo : Silo) (node : Node) (input : Input)
    (stepped : at.Stepped) → SeesItsVersion views places node → Brings seen_facts settings views places silo input
    → step node input ≡ Ok stepped → SeesItsVersion views places stepped.node
sees_on settings views places silo node input stepped sees brings is =
    by_way node (Made settings views places silo node sees) (ways settings views places silo node sees) input stepped is brings

pub seen_keep : Keeps seen_facts
seen_keep = record {
  first = λ settings are. record {
    whole = views_start settings.silos 0 (omega (are.silos_above, arith)) are.silos_within (omega arith);
    limit = refl;
    hashing = refl;
    points = refl;
    added = All-nil _;
  };
  joining =
      λ settings views next places added silo given named are viewed placed. joining settings views next places added silo given are viewed
      placed;
  going = going;
  stepping = λ settings views places silo node input stepped before is. record {
    node = sees_on settings views places silo node input stepped before.node before.brings is;
    letters = λ k d below. tt;
  };
}

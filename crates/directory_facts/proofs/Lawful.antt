-- The laws, from what is carried.
use Rattle.std.proofs.Common.{◌≡◌, refl, sym, ap, subst, ℕ, List}
use Rattle.std.specs.Prelude.{⊤, true, All, Some, IfSome}
use Rattle.std.specs.Ordering.{nat_cmp}
use Rattle.std.specs.Map.{keys_of}
use Rattle.std.specs.BTreeMap.{is_at}
use Rattle.std.proofs.lemmas.List.Elements.{All-weaker}
use Rattle.silo_address.specs.Silo.{Silo, IsSilo}
use Rattle.hash_ring.specs.declared.point.Point.{Point}
use Rattle.hash_ring.specs.Places.{is_added}
use Rattle.directory_rules.specs.Settings.{Settings, AreSettings}
use Rattle.directory_rules.specs.State.{Letter, Node, World}
use Rattle.directory_rules.specs.Event.{Event, Join, Leave, Kill, See, Do, Deliver, Lose, IsEvent}
use Rattle.directory_rules.specs.World.{first_world}
use Rattle.directory_rules.specs.Mail.{letter_of}
use Rattle.directory_rules.specs.Happens.{node_of}
use Rattle.directory_rules.specs.Laws.{NamesHashes, HoldOnce}
use Rattle.directory_rules.proofs.Kept.{run_keeps}
use Rattle.directory_rules.proofs.Reached.{nodes_hold_once}
use Rattle.directory_facts.specs.Pieces.{IsPiece, IsHashedInto}
use Rattle.directory_facts.specs.Laws.{world_by, SettingsStay, NodesAreOwn, CountsAreApart, LettersAreOwn, NodesSeeTheirVersions, RowsHavePlaces, NodesHavePieces, PiecesAreOwned, NamesAreInRange, EventsNameHashes}
use Rattle.directory_facts.proofs.Carried.{Facts, Keeps}
use Rattle.directory_facts.proofs.Reached.{everywhere, found_node, found_letter}
use Rattle.directory_facts.proofs.Owners.{own_facts, own_keep, is_own_node}
use Rattle.directory_facts.proofs.Counts.{counts_once, counted_facts, counted_keep}
use Rattle.directory_facts.proofs.Places.{added_row}
use Rattle.directory_facts.proofs.SeenRings.{AreViews, seen_facts, seen_keep}
use Rattle.directory_facts.proofs.Names.{has_names, place_silo, ring_silos}
use Rattle.directory_facts.proofs.NamesKept.{all_names, names_keep}
use Rattle.directory_facts.proofs.PiecesKept.{all_facts, all_keep, has_pieces}

pub settings_stay : SettingsStay
settings_stay settings events =
    run_keeps (λ its mail sent. its ≡ settings) (record {
      sending = λ world letters room is. is;
      delivering = λ its mail sent number posted
          is. is;
      losing = λ its mail sent number is. is;
    }) (first_world settings) events refl

-- what is carried of a node, of a letter, and of views and places, by the settings of the run
module _ (F : Facts) (k : Keeps F) (settings : Settings) (events : List Event) (asked : F.asked settings) (named : All F.named events) where
  abbrev by : World
  by = world_by settings events

  pub node_by : (silo : Silo) (node : Node) → node_of by silo ≡ Some node → F.node settings by.views by.places silo node
  node_by silo node there =
      subst (λ its. F.node its by.views by.places silo node) (settings_stay settings events)
      (found_node F by silo node (everywhere F k settings events asked named) there)

  pub letter_by : (number : ℕ) (letter : Letter) → letter_of by number ≡ Some letter → F.letter settings letter
  letter_by number letter there =
      subst (λ its. F.letter its letter) (settings_stay settings events)
      (subst (λ o. IfSome o (F.letter by.settings)) there
      (found_letter F by.settings (is_at (nat_cmp number)) by.mail (everywhere F k settings events asked named).letters))

  pub shared_by : F.shared settings by.views by.places
  shared_by =
      subst (λ its. F.shared its by.views by.places) (settings_stay settings events) (everywhere F k settings events asked named).shared

pub nodes_are_own : NodesAreOwn
nodes_are_own settings events silo node there =
    is_own_node settings silo node (node_by own_facts own_keep settings events tt (λ k d below. tt) silo node there)

pub counts_are_apart : CountsAreApart
counts_are_apart settings events silo node there =
    counts_once node.host (nodes_are_own settings events silo node there).once
    (node_by counted_facts counted_keep settings events tt (λ k d below. tt) silo node there)

pub letters_are_own : LettersAreOwn
letters_are_own settings events number letter there = letter_by own_facts own_keep settings events tt (λ k d below. tt) number letter there

pub nodes_see : NodesSeeTheirVersions
nodes_see settings events are silo node there = node_by seen_facts seen_keep settings events are (λ k d below. tt) silo node there

pub rows_have_places : RowsHavePlaces
rows_have_places settings events are =
    let is : AreViews settings (world_by settings events).views (world_by settings events).places = shared_by seen_facts seen_keep settings events are (λ k d below. tt) in
    record {
      limit = is.limit;
      hashing = is.hashing;
      points = is.points;
      added = λ silo there. added_row (world_by settings events).views
          (world_by settings events).places silo is.added there;
    }

pub nodes_have_pieces : NodesHavePieces
nodes_have_pieces settings events silo node is =
    has_pieces settings.hashing node
    (node_by all_facts all_keep settings events ((tt, is.in_range), is.in_range) (λ k d below. ((tt, tt), is.hashes k d below)) silo node
    is.found).1

pub pieces_are_owned : PiecesAreOwned
pieces_are_owned settings events silo node is =
    let own = nodes_are_own settings events silo node is.found in
    let has = nodes_have_pieces settings events silo node is in
    record {
      once = subst (λ s. HoldOnce node.ring.points s node.holding.pieces) own.host_is (nodes_hold_once settings events silo node is);
      placed =
          All-weaker (λ e. IsPiece settings.hashing e.0 e.1) (λ e. All (λ x. IsHashedInto settings.hashing e.1.range x.1) e.1.entries)
          (λ e piece. piece.table.placed) node.holding.pieces has.pieces.each;
    }

pub names_are_in_range : NamesAreInRange
names_are_in_range settings events are named =
    let f = world_by settings events in
    let asked : (⊤ × AreSettings settings) × AreSettings settings = ((tt, are), are) in
    let ways : All (all_names).named events = λ k d below. ((tt, tt), named k d below) in
    let shared = shared_by all_names names_keep settings events asked ways in
    let silos = shared.1.silos in (
      All-weaker (λ silo. is_added f.places silo ≡ true) IsSilo (λ silo added. place_silo f.places silo silos added) (keys_of f.views.rows)
          shared.0.1.added,
      λ silo node there.
          let is = node_by all_names names_keep settings events asked ways silo node there in
          has_names node is.1 (subst (λ (points : List Point). All (λ p. IsSilo p.silo) points) (sym (ap (λ r. r.points) is.0.1.ring_is))
          (ring_silos node.view f.places silos)),
    )

named : (event : Event) → IsEvent event → NamesHashes event
named (Join silo places) is = is.1
named (Leave silo) is = tt
named (Kill silo) is = tt
named (See silo version) is = tt
named (Do silo step) is = tt
named (Deliver number) is = tt
named (Lose number) is = tt

pub events_name_hashes : EventsNameHashes
events_name_hashes events are = All-weaker IsEvent NamesHashes (λ event is. named event is) events are

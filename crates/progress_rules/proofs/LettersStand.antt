-- In every world that events reach, what letters of transfers say stands.
use Rattle.std.proofs.Common.{arith, ◌≡◌, ◌≢◌, refl, sym, ap, subst, ◌∙◌, ℕ, ◌+◌, ◌<◌, List, [], ◌∷◌, ◌++◌, ◌⊎◌, inl, inr}
use Rattle.std.specs.Prelude.{false, map, All, IsSome, is_some, Option, Some, None, Result, Ok, Err, IfOk}
use Rattle.std.specs.Option.{option_map}
use Rattle.std.specs.List.{enumerate_from}
use Rattle.std.specs.Ordering.{nat_cmp}
use Rattle.std.specs.Map.{lookup}
use Rattle.std.specs.BTreeMap.{is_at}
use Rattle.std.proofs.lemmas.List.Elements.{All-nil, All-cons, All-head, All-tail, All-append}
use Rattle.silo_address.specs.Silo.{Silo, silo_eq}
use Rattle.silo_address.proofs.Same.{Decides-silo}
use Rattle.membership_view.specs.declared.status.Status.{Status}
use Rattle.membership_view.specs.View.{ViewValue}
use Rattle.membership_view.specs.Views.{ViewsValue, view_at, status_at}
use Rattle.membership_view.specs.Whole.{IsViews}
use Rattle.membership_view.specs.Step.{Joins}
use Rattle.membership_view.specs.Changes as change
use Rattle.membership_view.specs.Laws.{Accepts}
use Rattle.membership_view.proofs.Kept.{whole-after}
use Rattle.membership_view.proofs.Unchanged.{versions_rise, statuses_stay, rows_stay}
use Rattle.membership_view.proofs.Changes.{changes_are_steps}
use Rattle.ring_range.specs.Range.{Range}
use Rattle.hash_ring.specs.Places.{PlacesValue}
use Rattle.directory_rules.proofs.Decided.{died}
use Rattle.directory_rules.specs.Settings.{Settings, AreSettings}
use Rattle.directory_rules.specs.State.{Letter, Body, Page_letter, Done_letter, Node, World, Posted, Accepted}
use Rattle.directory_rules.specs.Step.{Stepped}
use Rattle.directory_rules.specs.Input.{Input, Sees, Receives, step, sight_of}
use Rattle.directory_rules.specs.Event.{Event, IsEvent}
use Rattle.directory_rules.specs.World.{first_world, membership_of}
use Rattle.directory_rules.specs.Mail.{fresh_letter, numbered, letter_of, with_delivered, with_lost}
use Rattle.directory_rules.specs.Happens.{happens, node_of, after_joining, counted}
use Rattle.directory_rules.specs.Run.{run, world_after}
use Rattle.directory_rules.specs.Laws.{ArePeopled}
use Rattle.directory_rules.proofs.Cases.{on_bool}
use Rattle.directory_rules.proofs.Peopled.{peopled_after}
use Rattle.directory_facts.specs.Laws.{world_by}
use Rattle.directory_facts.specs.Pieces.{HasPieces}
use Rattle.directory_facts.proofs.Entries.{all_set, all_removed, found_so}
use Rattle.directory_facts.proofs.Lawful.{events_name_hashes}
use Rattle.directory_facts.proofs.PiecesKept.{has_pieces}
use Rattle.directory_facts.proofs.Reached.{everywhere, found_node}
use Rattle.directory_headline.proofs.Statuses.{live_there}
use Rattle.directory_headline.proofs.Viewed.{newcomer, still_there, joining_node}
use Rattle.directory_headline.proofs.Events.{EventWays, IsOwnInput, by_event}
use Rattle.directory_headline.proofs.Runs.{one_more}
use Rattle.progress_rules.proofs.Waits.{is_one}
use Rattle.progress_rules.proofs.Gathers.{awaited_before}
use Rattle.progress_rules.proofs.FitGatherings.{all_facts, all_keep}
use Rattle.progress_rules.proofs.Flights.{stepped_world, its_node, other_node}
use Rattle.progress_rules.proofs.HandedPages.{IsPast, Tells, IsDoneFor, Says, step_says}
use Rattle.progress_rules.proofs.StandingLetters.{Known, Past, IsHandedBy, Stands, AllStand, GoesFrom, Onward, stays_same, all_on}

-- ---- the mail
numbered_stand : (P : Letter → Type 0) (from : ℕ) (letters : List Letter) → All P letters
    → All (λ (e : ℕ × Posted). P e.1.letter) (map (λ e. (e.0, fresh_letter e.1)) (enumerate_from from letters))
numbered_stand P from [] all = All-nil (λ (e : ℕ × Posted). P e.1.letter)
numbered_stand P from (letter ∷ letters) all =
    All-cons (λ (e : ℕ × Posted). P e.1.letter) (from, fresh_letter letter)
    (map (λ e. (e.0, fresh_letter e.1)) (enumerate_from (from + 1) letters))
    (All-head P letter letters all)
    (numbered_stand P (from + 1) letters (All-tail P letter letters all))

pub in_mail : (P : Letter → Type 0) (world : World) (number : ℕ) (letter : Letter) → All (λ e. P e.1.letter) world.mail
    → letter_of world number ≡ Some letter → P letter
in_mail P world number letter all is = by (lookup (is_at (nat_cmp number)) world.mail) refl is
  where
    by : (o : Option Posted) → lookup (is_at (nat_cmp number)) world.mail ≡ o → option_map (λ p. p.letter) o ≡ Some letter → P letter
    by None found none = absurd (cc (none))
    by (Some posted) found some =
        let same : posted.letter ≡ letter = cc (some) in
        subst P same (found_so (λ (e : ℕ × Posted). P e.1.letter) (is_at (nat_cmp number)) posted world.mail all found).2

-- who was known still is after a change
known_on : (views : ViewsValue) → IsViews views → (way : change.Change) (next : ViewsValue) → change.after views way ≡ Ok next
    → (silo : Silo) → Known views silo
    → Known next silo
known_on views whole way next is silo known =
    let accepts : Accepts views way next = record { whole = whole; is = is } in
    let rises = versions_rise views way next accepts in
    let same = statuses_stay views way next accepts views.version (omega arith) silo in
    rows_stay next (whole-after views whole way next is) silo views.version next.version (omega (arith, rises)) (omega arith)
    (subst (λ (o : Option Status). IsSome o) (sym same) known)

nobody : (o : Option Status) → o ≡ None → IsSome o → ⊥
nobody None none some = cc (some)
nobody (Some status) none some = cc (none)

same_letter : (one other : Letter) → Receives one ≡ Receives other → one ≡ other
same_letter one other is = cc (is)

no_receipt : {before view : ViewValue} {places : PlacesValue} {letter : Letter} → Sees before view places ≡ Receives letter → ⊥
no_receipt is = cc (is)

module _ (settings : Settings) (are : AreSettings settings) (events : List Event) (named : All IsEvent events) where
  abbrev f : World
  f = world_by settings events

  peopled : ArePeopled f.views f.nodes
  peopled = peopled_after settings events are

  known_there : (silo : Silo) (node : Node) → node_of f silo ≡ Some node → Known f.views silo
  known_there silo node its =
      live_there (status_at f.views f.views.version silo) (sym (peopled.live silo) ∙ ap (λ (o : Option Node). is_some o) its)

  module _ (silo : Silo) (node : Node) (its : node_of f silo ≡ Some node) where
    facts : all_facts.node f.settings f.views f.places silo node
    facts = found_node all_facts f silo node (everywhere all_facts all_keep settings events ((((tt, are), are), tt), tt)
        (λ k d below. ((((tt, tt), events_name_hashes events named k d below), tt), tt))) its

    has : HasPieces f.settings.hashing node
    has = has_pieces f.settings.hashing node facts.0.0.1

    by_silo : node.host.silo ≡ silo
    by_silo = facts.0.0.0.0.by_silo

    -- ---- a silo takes a step
    module _ (input : Input) (stepped : Stepped) (made : step node input ≡ Ok stepped)
        (past : (version : ℕ) (range : Range) (to : Silo) → IsDoneFor input version range to
        → Past f to version range) where
      says : Says node input stepped
      says = step_says node input stepped made

      goes : (node.view.version < stepped.node.view.version) ⊎ (stepped.node.view ≡ node.view) → GoesFrom f node stepped.node
      goes (inl rises) = inl rises
      goes (inr same) = inr (record {
        view = same;
        awaits = λ range giver waits. awaited_before f.settings.hashing node has input stepped made same range giver waits;
        shelf =
            λ version range to there. elim (says.keeps same version range to there)
            [ inl still ↦ inl still | inr done ↦ inr (past version range to done) ];
      })

      module _ (mail : List (ℕ × Posted)) where
        abbrev after : World
        after = stepped_world (record f { mail = mail }) silo stepped

        at_silo : (other : Silo) (later : Node) → other ≡ silo → node_of after other ≡ Some later → stepped.node ≡ later
        at_silo other later same there =
            let mine : node_of after silo ≡ Some later = subst (λ s. node_of after s ≡ Some later) same there in
            let put = its_node (record f { mail = mail }) silo stepped in
            cc (mine, put)

        onward : Onward f after
        onward = record {
          known = λ other known. known;
          nodes = λ other later known there.
              on_bool (λ b. silo_eq other silo ≡ b → (x : Node) × (node_of f other ≡ Some x) × GoesFrom f x later) (silo_eq other silo)
              (λ t is.
              let same = is_one other silo is in
              (node, ap (λ s. node_of f s) same ∙ its, subst (GoesFrom f node) (at_silo other later same there) (goes says.view)))
              (λ u is.
              let apart : other ≢ silo = λ same. let it = (Decides-silo other silo).1 same in cc (it, is) in
              (later, sym (other_node (record f { mail = mail }) silo stepped other apart) ∙ there, stays_same f later)) refl;
        }

        new_stands : (letter : Letter) (body : Body) → Tells body letter node stepped.node → Stands after letter body
        new_stands letter (Done_letter range) tells = record {
          known = subst (Known f.views) (sym (tells.0 ∙ by_silo)) (known_there silo node its);
          node = λ later there. subst (IsPast letter.version range) (at_silo letter.from later (tells.0 ∙ by_silo) there) tells.1;
        }
        new_stands letter (Page_letter page) tells = record {
          known = subst (Known f.views) (sym (tells.0 ∙ by_silo)) (known_there silo node its);
          node = λ later there. subst (IsHandedBy after letter.to page) (at_silo letter.from later (tells.0 ∙ by_silo) there)
              (record { reached = tells.1; shelved = λ same. inl tells.2 });
        }
        new_stands letter body tells = tt

        all_after : All (λ e. Stands f e.1.letter e.1.letter.body) mail → AllStand after
        all_after all =
            All-append (λ (e : ℕ × Posted). Stands after e.1.letter e.1.letter.body) mail (numbered f stepped.letters)
            (all_on f after onward mail all)
            (numbered_stand (λ l. Stands after l l.body) (f.sent + 1) stepped.letters (λ i d below. new_stands _ _ (says.tells i d below)))

  -- ---- each event
  joined : (silo : Silo) (next : ViewsValue) (added : PlacesValue) → change.after_join f.views silo ≡ Ok next → (old : Option Silo)
      → AllStand f
      → AllStand (counted (after_joining f silo old next added))
  joined silo next added is old all = by old refl
    where
      accepts : Accepts f.views (change.Join silo) next
      accepts = record { whole = peopled.whole; is = is }

      step_is : Joins silo (view_at f.views f.views.version) (view_at next next.version)
      step_is = changes_are_steps f.views (change.Join silo) next accepts

      nodes : (o : Option Silo) (other : Silo) (later : Node) → Known f.views other
          → node_of (after_joining f silo o next added) other ≡ Some later
          → (node : Node) × (node_of f other ≡ Some node) × GoesFrom f node later
      nodes o other later known there = elim (joining_node f peopled silo next added o other later there) [
        | inl its ↦
            let none = newcomer silo f.views next peopled.whole step_is in
            let some : IsSome (status_at f.views f.views.version silo) = subst (λ s. IsSome (status_at f.views f.views.version s)) its.0 known in
            absurd (nobody (status_at f.views f.views.version silo) none some)
        | inr was ↦ (later, was, stays_same f later)
      ]

      by : (o : Option Silo) → old ≡ o → AllStand (counted (after_joining f silo o next added))
      by None same = all_on f (counted (after_joining f silo None next added))
          (record { known = λ other known. known_on f.views peopled.whole (change.Join silo) next is other known; nodes = nodes None })
          f.mail all
      by (Some gone) same = all_on f (counted (after_joining f silo (Some gone) next added))
          (record {
            known = λ other known. known_on f.views peopled.whole (change.Join silo) next is other known;
            nodes = nodes (Some gone);
          }) f.mail all

  delivered_past : (number : ℕ) (letter : Letter) → AllStand f → letter_of f number ≡ Some letter
      → (version : ℕ) (range : Range) (to : Silo)
      → IsDoneFor (Receives letter) version range to → Past f to version range
  delivered_past number letter all found version range to done =
      let one = same_letter letter done.letter done.is in
      let stands = in_mail (λ l. Stands f l l.body) f number letter all found in
      let past : Past f done.letter.from done.letter.version range = subst (Stands f done.letter) done.body (subst (λ (l : Letter). Stands f l l.body) one stands) in
      subst (λ s. Past f s version range) done.from (subst (λ v. Past f done.letter.from v range) done.version_is past)

  ways : AllStand f → EventWays f (λ a. AllStand a.world)
  ways all = record {
    joins = λ silo given next added viewed placed. joined silo next added viewed (change.occupant silo f.views.rows) all;
    leaves = λ silo is. all_on f (counted (record f { views = change.with_leave f.views silo })) (record {
      known = λ other known. known_on f.views peopled.whole (change.Leave silo) (change.with_leave f.views silo) is other known;
      nodes = λ other later known there. (later, there, stays_same f later);
    }) f.mail all;
    dies = λ silo is. all_on f (died f silo).world (record {
      known = λ other known. known_on f.views peopled.whole (change.Die silo) (change.with_death f.views silo) is other known;
      nodes = λ other later known there. (later, still_there f peopled silo other later there, stays_same f later);
    }) f.mail all;
    sees =
        λ silo version node stepped its sight made. all_after silo node its (sight_of (membership_of f) version) stepped made
        (λ v range to done. absurd (no_receipt done.is)) f.mail all;
    does =
        λ silo input node stepped own its made. all_after silo node its input stepped made
        (λ v range to done. absurd (subst IsOwnInput done.is own)) f.mail all;
    delivers = λ number letter node stepped found its made.
        all_after letter.to node its (Receives letter) stepped made (delivered_past number letter all found)
        (with_delivered f number letter).mail
        (all_set (λ (e : ℕ × Posted). Stands f e.1.letter e.1.letter.body) (is_at (nat_cmp number))
        (record { letter = letter; fresh = false }) f.mail
        (λ key old at so. in_mail (λ l. Stands f l l.body) f number letter all found) all);
    loses =
        λ number. all_on f (counted (with_lost f number))
        (record { known = λ other known. known; nodes = λ other later known there. (later, there, stays_same f later) })
        (with_lost f number).mail
        (all_removed (λ (e : ℕ × Posted). Stands f e.1.letter e.1.letter.body) (is_at (nat_cmp number)) f.mail all);
  }

  stand_event : AllStand f → (event : Event) → IfOk (happens f event) (λ a. AllStand a.world)
  stand_event all event = by_event f (λ a. AllStand a.world) (ways all) event

-- ---- runs
stand_result : (world : World) (result : Result Accepted ℕ) → IfOk result (λ a. AllStand a.world) → AllStand world
    → AllStand (world_after result world)
stand_result world (Ok accepted) stands before = stands
stand_result world (Err number) stands before = before

module _ (settings : Settings) (are : AreSettings settings) where
  stand_run : (before rest : List Event) → All IsEvent before → All IsEvent rest → AllStand (world_by settings before)
      → AllStand (run (world_by settings before) rest).world
  unfolding run
  stand_run before [] named more all = all
  stand_run before (event ∷ rest) named more all =
      let world = world_by settings before in
      let one = one_more settings before event in
      let then = stand_result world (happens world event) (stand_event settings are before named all event) all in
      subst (λ w. AllStand (run w rest).world) one
      (stand_run (before ++ event ∷ []) rest (All-append IsEvent before (event ∷ []) named
      (All-cons IsEvent event [] (All-head IsEvent event rest more) (All-nil IsEvent)))
      (All-tail IsEvent event rest more) (subst AllStand (sym one) then))

  pub all_stand : (events : List Event) → All IsEvent events → AllStand (world_by settings events)
  unfolding run
  all_stand events named =
      stand_run [] events (All-nil IsEvent) named (All-nil (λ (e : ℕ × Posted). Stands (first_world settings) e.1.letter e.1.letter.body))

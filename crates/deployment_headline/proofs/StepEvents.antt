-- Each step of a deployment is an event of its world, or none.
use Rattle.std.proofs.Common.{arith, ◌≡◌, ◌⊎◌, inl, inr, ℕ, ◌+◌, ◌≤◌, ◌<◌, List, length, refl, sym, ap, ◌∙◌, subst, drop, append-nil}
use Rattle.std.specs.Prelude.{Bool, true, false, cond, not, is_some, nat_le, nat_lt, slice_get, if◌then◌else◌, Option, Some, None, Result, Ok, Err}
use Rattle.std.specs.Option.{option_map}
use Rattle.std.specs.Ordering.{nat_cmp}
use Rattle.std.specs.Map.{set_value, keys_of}
use Rattle.std.specs.List.Sorted.{IsStrictlySortedBy}
use Rattle.std.specs.BTreeMap.{is_at, insert_entry}
use Rattle.silo_address.specs.Silo.{Silo, silo_cmp, silo_eq, IsSilo}
use Rattle.silo_address.proofs.Order.{silo_cmp_total}
use Rattle.silo_address.proofs.Same.{Decides-silo}
use Rattle.membership_view.specs.declared.status.Status.{Status}
use Rattle.membership_view.specs.declared.status.Status.TheVariants.{Active, Leaving, Dead}
use Rattle.membership_view.specs.declared.row.Row.{Row}
use Rattle.membership_view.specs.Views.{ViewsValue, row_of, status_at}
use Rattle.membership_view.proofs.Statuses.{joined_since, there_from}
use Rattle.membership_view.specs.Changes as change
use Rattle.hash_ring.specs.Places.{PlacesValue}
use Rattle.directory_rules.specs.declared.effect.Effect.TheVariants.{Ignored}
use Rattle.directory_rules.specs.Settings.{Settings}
use Rattle.directory_rules.specs.State.{Letter, Accepted, Posted, World}
use Rattle.directory_rules.specs.Node.{new_node}
use Rattle.directory_rules.specs.Event as event
use Rattle.directory_rules.specs.declared.outcome.Happening.TheVariants as happening
use Rattle.directory_rules.specs.Event.{Event, IsEvent}
use Rattle.directory_rules.specs.Step.{Stepped, silently}
use Rattle.directory_rules.specs.Input.{Input, Does, Receives, step, sight_of}
use Rattle.directory_rules.specs.World.{membership_of}
use Rattle.directory_rules.specs.Members.{is_known_dead}
use Rattle.directory_rules.specs.Happens as rule
use Rattle.directory_rules.proofs.Decided.{died}
use Rattle.directory_rules.specs.Membership.{Change, Join, Leave, Die, Membership, with_views, changed, is_seeable, barred_by, listing_of}
use Rattle.silo_rules.specs.SiloValue.{SiloValue, first_silo, own_status}
use Rattle.silo_rules.specs.Steps.{unless_barred, seen, does}
use Rattle.silo_rules.specs.Told.{Heard, told}
use Rattle.silo_rules.specs.Begun.{told_view}
use Rattle.silo_rules.proofs.Whole.{Are}
use Rattle.deployment_headline.specs.Deployment.{Deployment, process_of}
use Rattle.deployment_headline.specs.Steps.{Step, Decide, Tell, Begin, See, Do, Receive, IsStep, without, decided, heard, begins, begins_at, took, tells, tells_at, does_at, sees_at, delivers, receives_at, after}
use Rattle.deployment_headline.proofs.Lists.{over, insert-over, remove-over, set_same, put_same}
use Rattle.deployment_headline.proofs.Mirrors.{Mirrors, ReadsAs}
use Rattle.deployment_headline.proofs.Memberships.{AgreesFrom, IsStill, Leads, leads_to, mirrors_agree, same_sight, still_known, still_seeable}
use Rattle.deployment_headline.proofs.Worlds.{its_node, its_letter, make, HasWritten, node_there, letter_there, Moves, stays, goes, steps}

-- what a process was told mirrors what the first changes made, which leads to what was decided; and its silo joined after the version with
-- which that begins
pub record IsTold (settings : Settings) (changes : List Change) (now own : Membership) (silo : Silo) : Type 0 where
  pub are : Are settings own
  pub at : Membership
  pub all : Are settings at
  pub mirrors : Mirrors own at
  pub within : own.views.version ≤ length changes
  pub leads : Leads settings at (drop own.views.version changes) now
  pub later : (row : Row) → row_of own.views silo ≡ Some row → own.views.first < row.joined

-- so it agrees with all of that from there on
pub told_agrees : (settings : Settings) (changes : List Change) (now own : Membership) (silo : Silo) → IsTold settings changes now own silo
    → AgreesFrom own.views.first own now
told_agrees settings changes now own silo its =
    mirrors_agree own its.at now its.are.whole its.all.whole its.mirrors
    (leads_to settings its.at now (drop own.views.version changes) its.all its.leads).0

-- and its silo's row is that of all changes
own_still : (settings : Settings) (changes : List Change) (now own : Membership) (silo : Silo) → IsTold settings changes now own silo
    → (row : Row) → row_of own.views silo ≡ Some row → IsStill now.views silo row
own_still settings changes now own silo its row found =
    let known = its.mirrors.known silo row found in
    let still = still_known settings its.at now (drop own.views.version changes) its.all its.leads silo known.0 known.1 in
    record { its = still.its; found = still.found; joined = still.joined ∙ same known.0 known.2 known.2.later }
  where
    after : own.views.first < row.joined
    after = its.later row found

    same : (other : Row) → ReadsAs own.views.first row other → (other.joined ≤ own.views.first) ⊎ (row ≡ other) → other.joined ≡ row.joined
    same other reads (inr one) = ap (λ (r : Row). r.joined) (sym one)
    same other reads (inl early) =
        let there = subst (λ (o : Option Status). is_some o ≡ true) (sym (reads.statuses own.views.first (omega arith))) (there_from own.views.first other early) in
        let joined = joined_since own.views.version own.views.first row (its.are.whole.in_time silo row found) there in
        let late = after in
        absurd (omega (joined, late, arith))

-- the silo's process was told so, and has its address and the settings
pub record IsProcess (settings : Settings) (changes : List Change) (now : Membership) (silo : Silo) (s : SiloValue) : Type 0 where
  pub told : IsTold settings changes now s.membership silo
  pub set_up : s.node.settings ≡ settings
  pub address : s.node.host.silo ≡ silo

abbrev pub IsProcessIn : Deployment → Silo → SiloValue → Type 0
IsProcessIn d silo s = IsProcess d.settings d.changes d.membership silo s

module _ (d : Deployment) (accepted : ℕ) (mail : List (ℕ × Posted)) (has : HasWritten d mail) (room : accepted < d.settings.events) where
  abbrev w : World
  w = make d accepted mail

  abbrev Fits : Deployment → Type 0
  Fits next = length next.written ≤ d.settings.letters

  none : Moves d d accepted mail
  none = stays d d accepted mail has refl refl

  has_process : (silo : Silo) (s : SiloValue) → process_of d silo ≡ Some s → rule.node_of w silo ≡ Some s.node
  has_process silo s there = node_there d accepted mail silo ∙ ap (option_map its_node) there

  -- ---- what a process's own application asks for
  done_so : (e : Event) → IsEvent e → (silo : Silo) (s : SiloValue) (r : Result Stepped ℕ) → rule.attempted w e ≡ rule.done_by r w silo
      → Fits (took r d silo s) → Moves d (took r d silo s) accepted mail
  done_so e named silo s (Err number) is fits = none
  done_so e named silo s (Ok stepped) is fits =
      steps d accepted mail mail e silo s (happening.Did silo stepped.effect) stepped named room fits has is

  -- a silo that takes a step isn't barred from it
  unbarred : (silo : Silo) (s : SiloValue) (r : Result Stepped ℕ) (o : Option Status) → own_status s ≡ o
      → (is_some (own_status s) ≡ true → Fits (took r d silo s) → Moves d (took r d silo s) accepted mail)
      → Fits (took (unless_barred (barred_by o) r) d silo s) → Moves d (took (unless_barred (barred_by o) r) d silo s) accepted mail
  unbarred silo s r None at so fits = none
  unbarred silo s r (Some Active) at so fits = so (ap (λ (o : Option Status). is_some o) at) fits
  unbarred silo s r (Some Leaving) at so fits = so (ap (λ (o : Option Status). is_some o) at) fits
  unbarred silo s r (Some Dead) at so fits = none

  does_so : (e : Event) → IsEvent e → (silo : Silo) (input : Input) (o : Option SiloValue) → process_of d silo ≡ o
      → rule.attempted w e ≡ rule.does w silo input → Fits (does_at o d silo input) → Moves d (does_at o d silo input) accepted mail
  does_so e named silo input None there is fits = none
  does_so e named silo input (Some s) there is fits =
      unbarred silo s (step s.node input) (own_status s) refl
      (λ known. done_so e named silo s (step s.node input) (is ∙ ap (λ o. rule.does_at o w silo input) (has_process silo s there))) fits

  -- ---- sights
  saw_so : (silo : Silo) → IsSilo silo → (version : ℕ) (s : SiloValue) (r : Result Stepped ℕ) → process_of d silo ≡ Some s
      → IsProcessIn d silo s → is_some (own_status s) ≡ true
      → nat_lt s.node.view.version version ≡ true → is_seeable s.membership s.node.host.silo version ≡ true
      → step s.node (sight_of s.membership version) ≡ r → Fits (took r d silo s) → Moves d (took r d silo s) accepted mail
  saw_so silo named version s (Err number) there its known newer seeable is fits = none
  saw_so silo named version s (Ok stepped) there its known newer seeable is fits =
      let m = s.membership in
      let agrees = told_agrees d.settings d.changes d.membership m silo its.told in
      let still = still_seeable m d.membership silo version its.told.are.whole agrees.version
      (λ row found. (its.told.later row found, own_still d.settings d.changes d.membership m silo its.told row found))
      (subst (λ t. is_some (status_at m.views m.views.version t) ≡ true) its.address known)
      (subst (λ t. is_seeable m t version ≡ true) its.address seeable) in
      let sight = sym (same_sight s.node m.views.first m d.membership version agrees still.0 still.1) ∙ is in
      steps d accepted mail mail (event.See silo version) silo s (happening.Saw silo version stepped.effect) stepped named room fits has
      (ap (λ o. rule.sees_at o w silo version) (has_process silo s there)
      ∙ ap (λ b. cond (not b) (Err 903) (cond (not (is_seeable (membership_of w) silo version)) (Err 904)
      (rule.seen_by (step s.node (sight_of (membership_of w) version)) w silo version))) newer
      ∙ ap (λ b. cond (not b) (Err 904) (rule.seen_by (step s.node (sight_of (membership_of w) version)) w silo version)) still.2
      ∙ ap (λ r. rule.seen_by r w silo version) sight)

  abbrev seen_to : (silo : Silo) (version : ℕ) (s : SiloValue) (newer seeable : Bool) → Deployment
  seen_to silo version s newer seeable =
      took (if not newer then Err 903 else (if not seeable then Err 904 else step s.node (sight_of s.membership version))) d silo s

  seen_so : (silo : Silo) → IsSilo silo → (version : ℕ) (s : SiloValue) → process_of d silo ≡ Some s → IsProcessIn d silo s
      → is_some (own_status s) ≡ true → Fits (took (seen s version) d silo s)
      → Moves d (took (seen s version) d silo s) accepted mail
  seen_so silo named version s there its known fits =
      by (nat_lt s.node.view.version version) (is_seeable s.membership s.node.host.silo version) refl refl fits
    where
      by : (newer seeable : Bool) → nat_lt s.node.view.version version ≡ newer → is_seeable s.membership s.node.host.silo version ≡ seeable
          → Fits (seen_to silo version s newer seeable) → Moves d (seen_to silo version s newer seeable) accepted mail
      by false seeable at there_is so = none
      by true false at there_is so = none
      by true true at there_is so =
          saw_so silo named version s (step s.node (sight_of s.membership version)) there its known at there_is refl so

  sees_so : (silo : Silo) → IsSilo silo → (version : ℕ) (o : Option SiloValue) → process_of d silo ≡ o
      → ((s : SiloValue) → process_of d silo ≡ Some s → IsProcessIn d silo s) → Fits (sees_at o d silo version)
      → Moves d (sees_at o d silo version) accepted mail
  sees_so silo named version None there its fits = none
  sees_so silo named version (Some s) there its fits =
      unbarred silo s (seen s version) (own_status s) refl (seen_so silo named version s there (its s there)) fits

  -- ---- letters
  delivered_so : (index : ℕ) (letter : Letter) (s : SiloValue) (r : Result Stepped ℕ) → slice_get d.written index ≡ Some letter
      → rule.attempted w (event.Deliver (1 + index)) ≡ rule.delivered_by r w (1 + index) letter → Fits (took r d letter.to s)
      → Moves d (took r d letter.to s) accepted mail
  delivered_so index letter s (Err number) found is fits = none
  delivered_so index letter s (Ok stepped) found is fits =
      let posted : Posted = record { letter = letter; fresh = false } in
      steps d accepted mail (set_value (is_at (nat_cmp (1 + index))) mail posted) (event.Deliver (1 + index)) letter.to s _ stepped tt room
      fits
      (set_same its_letter (is_at (nat_cmp (1 + index))) posted mail (letter_there d accepted mail has index ∙ found) ∙ has) is

  comes_so : (index : ℕ) (letter : Letter) (s : SiloValue) → slice_get d.written index ≡ Some letter → process_of d letter.to ≡ Some s
      → Fits (took (does s (Receives letter)) d letter.to s)
      → Moves d (took (does s (Receives letter)) d letter.to s) accepted mail
  comes_so index letter s found there fits =
      unbarred letter.to s (step s.node (Receives letter)) (own_status s) refl
      (λ known. delivered_so index letter s (step s.node (Receives letter)) found
      (ap (λ o. rule.delivers o w (1 + index)) (letter_there d accepted mail has index ∙ found)
      ∙ ap (λ o. rule.delivers_to o w (1 + index) letter) (has_process letter.to s there))) fits

  -- ---- what changes no node
  module _ (sorted : IsStrictlySortedBy silo_cmp (keys_of d.processes)) where
    put_so : (silo : Silo) (s new : SiloValue) → process_of d silo ≡ Some s → s.node ≡ new.node
        → over its_node (insert_entry silo_cmp d.processes silo new) ≡ over its_node d.processes
    put_so silo s new there same =
        put_same its_node silo_cmp silo_cmp_total silo new d.processes sorted (ap (option_map its_node) there ∙ ap (λ node. Some node) same)

    heard_so : (silo : Silo) (s : SiloValue) (r : Result Heard ℕ) → process_of d silo ≡ Some s → Moves d (heard r d silo s) accepted mail
    heard_so silo s (Err number) there = none
    heard_so silo s (Ok its) there =
        stays d _ accepted mail has (ap (λ nodes. record w { nodes = nodes })
        (sym (put_so silo s (record s { membership = its.membership }) there refl))) refl

    begins_so : (silo : Silo) (s : SiloValue) (r : Result Membership ℕ) → process_of d silo ≡ Some s → Moves d (begins r d silo s) accepted mail
    begins_so silo s (Err number) there = none
    begins_so silo s (Ok m) there =
        stays d _ accepted mail has (ap (λ nodes. record w { nodes = nodes })
        (sym (put_so silo s (record s { membership = m }) there refl))) refl

    begins_at_so : (silo : Silo) (version : ℕ) (o : Option SiloValue) → process_of d silo ≡ o
        → Moves d (begins_at o d silo version) accepted mail
    begins_at_so silo version None there = none
    begins_at_so silo version (Some s) there = by (nat_le version d.membership.views.version)
      where
        by : (b : Bool)
            → Moves d (if b then begins (told_view s.node.settings s.membership silo version (listing_of d.membership version)) d silo s else d) accepted mail
        by false = none
        by true = begins_so silo s (told_view s.node.settings s.membership silo version (listing_of d.membership version)) there

    tells_so : (silo : Silo) (s : SiloValue) (index : ℕ) (o : Option Change) → process_of d silo ≡ Some s
        → Moves d (tells o d silo s index) accepted mail
    tells_so silo s index None there = none
    tells_so silo s index (Some change) there = heard_so silo s (told s.node.settings s.membership (index + 1) change) there

    tells_at_so : (silo : Silo) (index : ℕ) (o : Option SiloValue) → process_of d silo ≡ o → Moves d (tells_at o d silo index) accepted mail
    tells_at_so silo index None there = none
    tells_at_so silo index (Some s) there = tells_so silo s index (slice_get d.changes index) there

    -- a letter to another silo
    astray : (silo : Silo) (s : SiloValue) → process_of d silo ≡ Some s
        → Moves d (took (Ok (silently s.node Ignored)) d silo s) accepted mail
    astray silo s there =
        stays d _ accepted mail has
        (ap (λ nodes. record w { nodes = nodes }) (sym (put_so silo s s there refl))
        ∙ ap (λ l. record w { nodes = over its_node (insert_entry silo_cmp d.processes silo s); sent = length l })
        (sym (append-nil d.written)))
        (sym (append-nil d.written))

    -- by whether it is the letter's receiver
    abbrev taken_if : Bool → SiloValue → Letter → Result Stepped ℕ
    taken_if its s letter = if its then does s (Receives letter) else Ok (silently s.node Ignored)

    delivers_so : (silo : Silo) (s : SiloValue) (index : ℕ) (o : Option Letter) → slice_get d.written index ≡ o → process_of d silo ≡ Some s
        → IsProcessIn d silo s → Fits (delivers o d silo s) → Moves d (delivers o d silo s) accepted mail
    delivers_so silo s index None found there its fits = none
    delivers_so silo s index (Some letter) found there its fits = by (silo_eq letter.to s.node.host.silo) refl fits
      where
        by : (b : Bool) → silo_eq letter.to s.node.host.silo ≡ b → Fits (took (taken_if b s letter) d silo s)
            → Moves d (took (taken_if b s letter) d silo s) accepted mail
        by false at so = astray silo s there
        by true at so =
            let to : letter.to ≡ silo = (Decides-silo letter.to s.node.host.silo).0 at ∙ its.address in
            subst (λ t. Moves d (took (does s (Receives letter)) d t s) accepted mail) to
            (comes_so index letter s found (subst (λ t. process_of d t ≡ Some s) (sym to) there)
            (subst (λ t. Fits (took (does s (Receives letter)) d t s)) (sym to) so))

    receives_so : (silo : Silo) (index : ℕ) (o : Option SiloValue) → process_of d silo ≡ o
        → ((s : SiloValue) → process_of d silo ≡ Some s → IsProcessIn d silo s) → Fits (receives_at o d silo index)
        → Moves d (receives_at o d silo index) accepted mail
    receives_so silo index None there its fits = none
    receives_so silo index (Some s) there its fits = delivers_so silo s index (slice_get d.written index) refl there (its s there) fits

  -- ---- what is decided
  joining : (silo : Silo) (old : Option Silo) (views : ViewsValue) (places : PlacesValue)
      → rule.counted (rule.after_joining w silo old views places)
      ≡ record w {
        accepted = accepted + 1;
        views = views;
        places = places;
        nodes = over its_node
            (insert_entry silo_cmp (without old d.processes) silo (first_silo d.settings silo));
      }
  joining silo None views places =
      ap (λ nodes. record w { accepted = accepted + 1; views = views; places = places; nodes = nodes })
      (insert-over its_node silo_cmp d.processes silo (first_silo d.settings silo))
  joining silo (Some old) views places =
      ap (λ nodes. record w {
        accepted = accepted + 1;
        views = views;
        places = places;
        nodes = insert_entry silo_cmp nodes silo
            (new_node d.settings silo);
      }) (remove-over its_node (is_at (silo_cmp old)) d.processes)
      ∙ ap (λ nodes. record w { accepted = accepted + 1; views = views; places = places; nodes = nodes })
      (insert-over its_node silo_cmp (without (Some old) d.processes) silo (first_silo d.settings silo))

  joins_so : (silo : Silo) (stated : List ℕ) → IsEvent (event.Join silo stated) → (o : Result Membership ℕ)
      → rule.attempted w (event.Join silo stated) ≡ rule.changed_by o w (Join silo stated)
      → Moves d (decided o d (Join silo stated)) accepted mail
  joins_so silo stated named (Err number) is = none
  joins_so silo stated named (Ok m) is =
      goes d _ accepted mail mail (event.Join silo stated) _ _ named room is
      (joining silo (change.occupant silo d.membership.views.rows) m.views m.places) has

  -- by the silo's status: in a world that of a Dead one is refused by 902
  abbrev by_status : Option Status → Result Membership ℕ → Change → Result Accepted ℕ
  by_status o made c = if is_known_dead o then Err 902 else rule.changed_by made w c

  leaves_so : (silo : Silo) → IsSilo silo → (o : Option Status)
      → rule.attempted w (event.Leave silo) ≡ by_status o (with_views (change.leave_from o d.membership.views silo) d.membership.places)
      (Leave silo)
      → Moves d (decided (with_views (change.leave_from o d.membership.views silo) d.membership.places) d (Leave silo)) accepted mail
  leaves_so silo named None is = none
  leaves_so silo named (Some Active) is = goes d _ accepted mail mail (event.Leave silo) _ _ named room is refl has
  leaves_so silo named (Some Leaving) is = none
  leaves_so silo named (Some Dead) is = none

  dying : (silo : Silo) → (died w silo).world ≡ record w {
    accepted = accepted + 1;
    views = change.with_death d.membership.views silo;
    nodes = over its_node (without (Some silo) d.processes);
  }
  dying silo =
      ap (λ nodes. record w { accepted = accepted + 1; views = change.with_death d.membership.views silo; nodes = nodes })
      (remove-over its_node (is_at (silo_cmp silo)) d.processes)

  dies_so : (silo : Silo) → IsSilo silo → (o : Option Status)
      → rule.attempted w (event.Kill silo) ≡ by_status o (with_views (change.die_from o d.membership.views silo) d.membership.places)
      (Die silo)
      → Moves d (decided (with_views (change.die_from o d.membership.views silo) d.membership.places) d (Die silo)) accepted mail
  dies_so silo named None is = none
  dies_so silo named (Some Active) is = goes d _ accepted mail mail (event.Kill silo) _ _ named room is (dying silo) has
  dies_so silo named (Some Leaving) is = goes d _ accepted mail mail (event.Kill silo) _ _ named room is (dying silo) has
  dies_so silo named (Some Dead) is = none

  decides_so : (c : Change) → IsStep (Decide c) → Moves d (decided (changed d.settings d.membership c) d c) accepted mail
  decides_so (Join silo stated) named = joins_so silo stated named (changed d.settings d.membership (Join silo stated)) refl
  decides_so (Leave silo) named = leaves_so silo named (status_at d.membership.views d.membership.views.version silo) refl
  decides_so (Die silo) named = dies_so silo named (status_at d.membership.views d.membership.views.version silo) refl

  -- ---- each step
  pub moves : IsStrictlySortedBy silo_cmp (keys_of d.processes)
      → ((silo : Silo) (s : SiloValue) → process_of d silo ≡ Some s → IsProcessIn d silo s) → (s : Step) → IsStep s → Fits (after d s)
      → Moves d (after d s) accepted mail
  unfolding after
  moves sorted its (Decide c) named fits = decides_so c named
  moves sorted its (Tell silo index) named fits = tells_at_so sorted silo index (process_of d silo) refl
  moves sorted its (Begin silo version) named fits = begins_at_so sorted silo version (process_of d silo) refl
  moves sorted its (See silo version) named fits = sees_so silo named version (process_of d silo) refl (its silo) fits
  moves sorted its (Do silo step) named fits = does_so (event.Do silo step) named silo (Does step) (process_of d silo) refl refl fits
  moves sorted its (Receive silo index) named fits = receives_so sorted silo index (process_of d silo) refl (its silo) fits

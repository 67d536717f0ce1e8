-- A host keeps to its limits at each step, and takes at most one number for each request that it may have outstanding, and one more.
use Rattle.std.proofs.Common.{arith, ◌≡◌, refl, sym, subst, ◌∙◌, ℕ, ◌+◌, ◌≤◌, List, [], ◌∷◌, ◌++◌}
use Rattle.std.specs.Prelude.{Bool, false, cond, not, map, filter, fold, length, Option, Some, None, Ok}
use Rattle.std.specs.Ordering.{nat_cmp, match_ordering}
use Rattle.std.specs.declared.cmp.Ordering.{Ordering}
use Rattle.std.specs.declared.cmp.Ordering.TheVariants.{Less, Equal, Greater}
use Rattle.std.specs.List.{filter_map, cons_option}
use Rattle.std.specs.Map.{remove_entry}
use Rattle.std.specs.BTreeMap.{is_at, insert_entry}
use Rattle.std.proofs.lemmas.Bool.{leb-false}
use Rattle.std.proofs.lemmas.List.{length-map, length-append}
use Rattle.std.proofs.lemmas.Map.{length-set_value}
use Rattle.silo_address.specs.Grain.{Grain, grain_cmp, grain_eq}
use Rattle.silo_address.specs.declared.ActivationId.{ActivationId}
use Rattle.directory_rules.specs.declared.act.Act.{Act}
use Rattle.directory_rules.specs.declared.act.Act.TheVariants as act
use Rattle.directory_rules.specs.declared.held.Held.{Held}
use Rattle.directory_rules.specs.declared.held.Phase.TheVariants.{Firm}
use Rattle.directory_rules.specs.Settings.{Settings}
use Rattle.directory_rules.specs.State.{Host, Node}
use Rattle.directory_rules.specs.Host.{grain_of, outstanding, held_acts, find_acts, act_in, is_full_of_activations, is_full_of_finds, next_held, with_started, next_closing, with_closing, with_find, confirmed, without_held, without_find, renewed, renewed_phase, new_number, renewed_about, held_renewed_about, new_number_about}
use Rattle.directory_rules.specs.Step.{Stepped}
use Rattle.directory_rules.specs.Input.{Input, step}
use Rattle.directory_rules.proofs.Cases.{on_bool}
use Rattle.directory_facts.proofs.Ways.{Ways}
use Rattle.directory_facts.proofs.EachStep.{by_way}
use Rattle.directory_facts.proofs.Emptied.{leaves_else}

-- ---- how long lists get
pub removed_few : {K X : Type 0} (test : K → Bool) (es : List (K × X)) → length (remove_entry test es) ≤ length es
removed_few test [] = omega arith
removed_few test (e ∷ es) =
    let rest = removed_few test es in
    on_bool (λ b. length (cond b es (e ∷ remove_entry test es)) ≤ length (e ∷ es)) (test e.0) (λ t. omega arith) (λ f. omega (arith, rest))

pub put_few : {K X : Type 0} (R : K → K → Ordering) (es : List (K × X)) (key : K) (value : X)
    → length (insert_entry R es key value) ≤ length es + 1
put_few R [] key value = omega arith
put_few R (e ∷ es) key value = by (R key e.0) (put_few R es key value)
  where
    by : (r : Ordering) → length (insert_entry R es key value) ≤ length es + 1
        → length (match_ordering r ((key, value) ∷ e ∷ es) ((e.0, value) ∷ es) (e ∷ insert_entry R es key value)) ≤ length (e ∷ es) + 1
    by Less rest = omega arith
    by Equal rest = omega arith
    by Greater rest = omega (arith, rest)

pub all_put_few : (es xs : List (ℕ × Act)) → length (fold (λ acts e. insert_entry nat_cmp acts e.0 e.1) es xs) ≤ length xs + length es
all_put_few es [] = omega arith
all_put_few es (x ∷ xs) =
    let one = put_few nat_cmp es x.0 x.1 in
    let rest = all_put_few (insert_entry nat_cmp es x.0 x.1) xs in
    omega (arith, one, rest)

one_few : {X : Type 0} (o : Option X) (xs : List X) → length (cons_option o xs) ≤ length xs + 1
one_few None xs = omega arith
one_few (Some x) xs = omega arith

picked_few : {X Y : Type 0} (f : X → Option Y) (xs : List X) → length (filter_map f xs) ≤ length xs
picked_few f [] = omega arith
picked_few f (x ∷ xs) = let one = one_few (f x) (filter_map f xs) in let rest = picked_few f xs in omega (arith, one, rest)

pub filtered_few : {X : Type 0} (test : X → Bool) (xs : List X) → length (filter test xs) ≤ length xs
filtered_few test [] = omega arith
filtered_few test (x ∷ xs) =
    let rest = filtered_few test xs in
    on_bool (λ b. length (cond b (x ∷ filter test xs) (filter test xs)) ≤ length (x ∷ xs)) (test x) (λ t. omega (arith, rest))
    (λ f. omega (arith, rest))

-- some stay in front, and the others follow, changed
module _ {X : Type 0} (test : X → Bool) (f : X → X) where
  both_parts : (xs : List X) → length (filter (λ x. not (test x)) xs) + length (map f (filter test xs)) ≡ length xs
  both_parts [] = refl
  both_parts (x ∷ xs) =
      let rest = both_parts xs in
      on_bool (λ b. length (cond (not b) (x ∷ filter (λ y. not (test y)) xs) (filter (λ y. not (test y)) xs)) + length
      (map f (cond b (x ∷ filter test xs) (filter test xs))) ≡ length (x ∷ xs)) (test x)
      (λ t. omega (arith, rest)) (λ g. omega (arith, rest))

  pub parted_as_many : (xs : List X) → length (filter (λ x. not (test x)) xs ++ map f (filter test xs)) ≡ length xs
  parted_as_many xs = length-append (filter (λ x. not (test x)) xs) (map f (filter test xs)) ∙ both_parts xs

-- as many requests are outstanding as the host has activations and finds, at most
pub outstanding_few : (host : Host) → length (outstanding host) ≤ length host.held + length host.finds
outstanding_few host =
    let all = all_put_few (find_acts host) (held_acts host) in
    let held = picked_few (λ (e : Grain × Held). act_in e.1.phase host e.0 e.1) host.held in
    let finds = length-map {B = ℕ × Act} host.finds (λ (e : ℕ × Grain). (e.0, act.Find e.1)) in
    omega (arith, all, held, finds)

-- ---- the limits
pub record IsWithin (settings : Settings) (host : Host) : Type 0 where
  pub held : length host.held ≤ settings.activations
  pub finds : length host.finds ≤ settings.finds

-- the numbers that an event takes at most
abbrev pub most_numbers : Settings → ℕ
most_numbers settings = settings.activations + settings.finds + 1

-- a host after a step
pub record GoesOn (settings : Settings) (host later : Host) : Type 0 where
  pub within : IsWithin settings later
  pub used : later.next_number ≤ host.next_number + most_numbers settings

module _ (settings : Settings) (host : Host) (is : IsWithin settings host) where
  still : GoesOn settings host host
  still = record { within = is; used = omega arith }

  begun : (grain : Grain) (previous : Option ActivationId) → is_full_of_activations settings host ≡ false
      → GoesOn settings host (with_started host grain previous)
  begun grain previous room =
      let free = leb-false settings.activations (length host.held) room in
      let more = length-append host.held ((grain, next_held host previous) ∷ []) in
      record { within = record { held = omega (arith, more, free); finds = is.finds }; used = omega arith }

  closed : (grain : Grain) (its : Held) → GoesOn settings host (with_closing host grain its)
  closed grain its =
      let same = length-set_value (is_at (grain_cmp grain)) host.held (next_closing host its) in
      let few = is.held in
      record { within = record { held = omega (arith, same, few); finds = is.finds }; used = omega arith }

  firm : (grain : Grain) (its : Held) → GoesOn settings host (confirmed host grain its)
  firm grain its =
      let same = length-set_value (is_at (grain_cmp grain)) host.held (record its { phase = Firm; previous = None }) in
      let few = is.held in
      record { within = record { held = omega (arith, same, few); finds = is.finds }; used = omega arith }

  ended : (grain : Grain) → GoesOn settings host (without_held host grain)
  ended grain =
      let less = removed_few (is_at (grain_cmp grain)) host.held in
      let few = is.held in
      record { within = record { held = omega (arith, less, few); finds = is.finds }; used = omega arith }

  sought : (grain : Grain) → is_full_of_finds settings host ≡ false → GoesOn settings host (with_find host grain)
  sought grain room =
      let free = leb-false settings.finds (length host.finds) room in
      let more = put_few nat_cmp host.finds host.next_number grain in
      record { within = record { held = is.held; finds = omega (arith, more, free) }; used = omega arith }

  found : (number : ℕ) → GoesOn settings host (without_find host number)
  found number =
      let less = removed_few (is_at (nat_cmp number)) host.finds in
      let few = is.finds in
      record { within = record { held = is.held; finds = omega (arith, less, few) }; used = omega arith }

  renews : GoesOn settings host (renewed host)
  renews =
      let held = length-map {B = Grain × Held} host.held (λ (e : Grain × Held). (e.0, record e.1 { phase = renewed_phase host e.1.phase })) in
      let finds = length-map {B = ℕ × Grain} host.finds (λ (e : ℕ × Grain). (new_number host e.0, e.1)) in
      let all = outstanding_few host in
      let few = is.held in
      let few_finds = is.finds in
      record {
        within = record { held = omega (arith, held, few); finds = omega (arith, finds, few_finds) };
        used = omega
            (arith, all, few, few_finds);
      }

  renews_about : (grain : Grain) → GoesOn settings host (renewed_about grain host)
  renews_about grain =
      let held = length-map {B = Grain × Held} host.held (λ (e : Grain × Held). (e.0, held_renewed_about grain host e.0 e.1)) in
      let finds = parted_as_many (λ (e : ℕ × Grain). grain_eq e.1 grain) (λ (e : ℕ × Grain). (new_number_about grain host e.0, e.1)) host.finds in
      let about = filtered_few (λ (e : ℕ × Act). grain_eq (grain_of e.1) grain) (outstanding host) in
      let all = outstanding_few host in
      let few = is.held in
      let few_finds = is.finds in
      record {
        within = record { held = omega (arith, held, few); finds = omega (arith, finds, few_finds) };
        used = omega
            (arith, about, all, few, few_finds);
      }

-- ---- so it is after each step
abbrev pub StepGoesOn : Node → Node → Type 0
StepGoesOn node later = (later.settings ≡ node.settings) × GoesOn node.settings node.host later.host

module _ (node : Node) (is : IsWithin node.settings node.host) where
  stays : StepGoesOn node node
  stays = (refl, still node.settings node.host is)

  ways : Ways node (λ input stepped. StepGoesOn node stepped.node)
  ways = record {
    nothing = λ input effect plain. stays;
    sees = λ before view places newer numbers. (refl, renews node.settings node.host is);
    wakes = λ grain may. (refl, begun node.settings node.host is grain None may.room);
    closes = λ grain its may. (refl, closed node.settings node.host is grain its);
    cancels = λ grain its may. (refl, closed node.settings node.host is grain its);
    offers = λ grain its to may active other. (refl, closed node.settings node.host is grain its);
    uses_hint = λ grain activation hint. stays;
    finds = λ grain room numbers. (refl, sought node.settings node.host is grain room);
    forgets = λ grain activation hint. stays;
    nudges = λ numbers. (refl, renews node.settings node.host is);
    nudges_grain = λ grain numbers. (refl, renews_about node.settings node.host is grain);
    nudges_ranges = stays;
    answers = λ letter request body sender version. stays;
    confirms = λ letter number entry e of_it there. (refl, firm node.settings node.host is e.0 e.1);
    yields = λ letter number entry e of_it there. (refl, ended node.settings node.host is e.0);
    removes = λ letter number e of_it there. (refl, ended node.settings node.host is e.0);
    misses = λ letter number e of_it there. (refl, ended node.settings node.host is e.0);
    learns = λ letter number entry of_it there. (refl, found node.settings node.host is number);
    notes = λ letter number of_it there. (refl, found node.settings node.host is number);
    hands = λ letter range number page body so. stays;
    lacks = λ letter range number body so. stays;
    forgoes = λ letter range body there. stays;
    lags = λ letter range. stays;
    passed = λ letter range. stays;
    reports = λ letter range after body seen. stays;
    gathers = λ letter page gathering taken so. stays;
    installs = λ letter page entries taken so. stays;
    drops = λ letter page gathering taken so. stays;
    turns = λ letter range piece body has awaits. stays;
    continues = λ letter report recovery taken so. stays;
    collects = λ letter report recovery taken so. stays;
    completes = λ letter report table taken so. stays;
    surveys = λ letter first others body seen. stays;
    empties = λ letter ranges its body plain. let rest = leaves_else letter node ranges in
        (rest.settings, subst (λ (h : Host). GoesOn node.settings node.host h) (sym rest.host) (still node.settings node.host is));
    takes_over = λ letter entry body seen may. (refl, begun node.settings node.host is entry.grain (Some entry.activation) may.room);
  }

pub step_goes_on : (node : Node) (input : Input) (stepped : Stepped) → IsWithin node.settings node.host → step node input ≡ Ok stepped
    → StepGoesOn node stepped.node
step_goes_on node input stepped within is = by_way node (λ its result. StepGoesOn node result.node) (ways node within) input stepped is

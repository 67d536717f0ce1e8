-- What is carried holds of every world that a run reaches.
use Rattle.std.proofs.Common.{◌≡◌, refl, sym, subst, ℕ, ◌+◌, List, [], ◌∷◌, ◌++◌}
use Rattle.std.specs.Prelude.{Bool, true, false, cond, not, nat_le, nat_lt, is_some, All, Option, Some, None, Result, Ok, Err, IfOk, IfSome}
use Rattle.std.specs.Option.{option_map}
use Rattle.std.specs.Ordering.{nat_cmp}
use Rattle.std.specs.List.{enumerate_from}
use Rattle.std.specs.Map.{lookup}
use Rattle.std.specs.BTreeMap.{is_at}
use Rattle.std.proofs.lemmas.Bool.{leb-true}
use Rattle.std.proofs.lemmas.List.Elements.{All-nil, All-cons, All-head, All-tail, All-append, All-map, All-weaker}
use Rattle.texts.proofs.Decided.{both}
use Rattle.silo_address.specs.Silo.{Silo, silo_cmp}
use Rattle.silo_address.proofs.Order.{silo_cmp_exact}
use Rattle.membership_view.specs.Views.{ViewsValue}
use Rattle.membership_view.specs.Changes as change
use Rattle.hash_ring.specs.Places.{PlacesValue}
use Rattle.directory_rules.specs.Settings.{Settings}
use Rattle.directory_rules.specs.Membership as membership
use Rattle.directory_rules.specs.Membership.{Die, is_seeable, joined_in}
use Rattle.directory_rules.specs.State.{Letter, Node, Posted, World, Accepted}
use Rattle.directory_rules.specs.Node.{new_node}
use Rattle.directory_rules.specs.Event.{Event, Join, Leave, Kill, See, Do, Deliver, Lose}
use Rattle.directory_rules.specs.declared.outcome.Happening.{Happening}
use Rattle.directory_rules.specs.Step.{Stepped}
use Rattle.directory_rules.specs.Input.{Input, Does, Receives, sight_of, step}
use Rattle.directory_rules.specs.World.{first_world, membership_of}
use Rattle.directory_rules.specs.Mail.{fresh_letter, numbered, letter_of, has_room_for, with_delivered}
use Rattle.directory_rules.specs.Happens as rule
use Rattle.directory_rules.specs.Run.{run, run_from_start, world_after}
use Rattle.directory_rules.proofs.Cases.{on_bool}
use Rattle.directory_rules.proofs.Decided.{made, decided, join_makes, leave_is, death_is, died}
use Rattle.directory_facts.proofs.Entries.{all_put, all_removed, all_set, found_so, same_key}
use Rattle.directory_facts.proofs.Carried.{Facts, Brings, After, GoesOn, IsGoing, Keeps, Everywhere}

-- the fact of a node, of entries
abbrev Of : Facts → World → (Silo × Node) → Type 0
Of F world e = F.node world.settings world.views world.places e.0 e.1

-- the node that a silo has
pub found_node : (F : Facts) (world : World) (silo : Silo) (node : Node) → Everywhere F world → rule.node_of world silo ≡ Some node
    → F.node world.settings world.views world.places silo node
found_node F world silo node all there =
    let found = found_so (Of F world) (is_at (silo_cmp silo)) node world.nodes all.nodes there in
    let same = same_key silo_cmp silo_cmp_exact silo found.0 found.1 in
    rw same found.2

-- the fact of a letter, of what stands in the mail
abbrev pub Says : Facts → Settings → (ℕ × Posted) → Type 0
Says F settings e = F.letter settings e.1.letter

abbrev pub HasLetter : Facts → Settings → Option Letter → Type 0
HasLetter F settings found = IfSome found (F.letter settings)

-- a letter that is found in the mail has its fact
pub found_letter : (F : Facts) (settings : Settings) (test : ℕ → Bool) (mail : List (ℕ × Posted)) → All (Says F settings) mail
    → HasLetter F settings (option_map (λ posted. posted.letter) (lookup test mail))
found_letter F settings test [] all = tt
found_letter F settings test (e ∷ es) all =
    on_bool (λ b. HasLetter F settings (option_map (λ posted. posted.letter) (cond b (Some e.1) (lookup test es)))) (test e.0)
    (λ t. All-head (Says F settings) e es all) (λ f. found_letter F settings test es (All-tail (Says F settings) e es all))

-- letters that are sent
numbered_from : (F : Facts) (settings : Settings) (next : ℕ) (letters : List Letter) → All (F.letter settings) letters
    → All (λ e. F.letter settings e.1) (enumerate_from next letters)
numbered_from F settings next [] all = All-nil (λ e. F.letter settings e.1)
numbered_from F settings next (letter ∷ letters) all =
    All-cons (λ e. F.letter settings e.1) (next, letter) (enumerate_from (next + 1) letters)
    (All-head (F.letter settings) letter letters all)
    (numbered_from F settings (next + 1) letters (All-tail (F.letter settings) letter letters all))

sent : (F : Facts) (world : World) (letters : List Letter) → All (Says F world.settings) world.mail → All (F.letter world.settings) letters
    → All (Says F world.settings) (world.mail ++ numbered world letters)
sent F world letters mail all =
    All-append (Says F world.settings) world.mail (numbered world letters) mail
    (All-map (Says F world.settings) (λ e. (e.0, fresh_letter e.1)) (enumerate_from (world.sent + 1) letters)
    (numbered_from F world.settings (world.sent + 1) letters all))

-- ---- events
abbrev Held : Facts → Result Accepted ℕ → Type 0
Held F result = IfOk result (λ accepted. Everywhere F accepted.world)

unless : (F : Facts) (b : Bool) (number : ℕ) (result : Result Accepted ℕ) → (b ≡ true → Held F result)
    → Held F (cond (not b) (Err number) result)
unless F true number result then = then refl
unless F false number result then = tt

when : (F : Facts) (b : Bool) (number : ℕ) (result : Result Accepted ℕ) → Held F result → Held F (cond b result (Err number))
when F true number result then = then
when F false number result then = tt

taken : (F : Facts) (world : World) (silo : Silo) (happening : Happening) (stepped : Stepped) → Everywhere F world
    → After F world.settings world.views world.places silo stepped → Held F (rule.taken world silo happening stepped)
taken F world silo happening stepped all made = unless F (has_room_for world stepped.letters) 909 _ (λ room. record {
  shared = all.shared;
  nodes = all_put silo_cmp silo_cmp_exact (Of F world) silo stepped.node world.nodes all.nodes made.node;
  letters = sent F world stepped.letters all.letters made.letters;
})

-- a step of the silo's, by what it brings
stepped_so : (F : Facts) → Keeps F → (world : World) (silo : Silo) (node : Node) (input : Input) (stepped : Stepped) → Everywhere F world
    → rule.node_of world silo ≡ Some node → Brings F world.settings world.views world.places silo input
    → step node input ≡ Ok stepped → After F world.settings world.views world.places silo stepped
stepped_so F k world silo node input stepped all there brings is =
    k.stepping world.settings world.views world.places silo node input stepped
    (record { shared = all.shared; node = found_node F world silo node all there; brings = brings }) is

done_by : (F : Facts) → Keeps F → (node : Node) (input : Input) (result : Result Stepped ℕ) (world : World) (silo : Silo)
    → Everywhere F world → rule.node_of world silo ≡ Some node → Brings F world.settings world.views world.places silo input
    → step node input ≡ result → Held F (rule.done_by result world silo)
done_by F k node input (Err number) world silo all there brings is = tt
done_by F k node input (Ok stepped) world silo all there brings is =
    taken F world silo _ stepped all (stepped_so F k world silo node input stepped all there brings is)

does_at : (F : Facts) → Keeps F → (node : Option Node) (world : World) (silo : Silo) (input : Input) → Everywhere F world
    → rule.node_of world silo ≡ node → Brings F world.settings world.views world.places silo input
    → Held F (rule.does_at node world silo input)
does_at F k None world silo input all there brings = tt
does_at F k (Some node) world silo input all there brings = done_by F k node input (step node input) world silo all there brings refl

does : (F : Facts) → Keeps F → (world : World) (silo : Silo) (input : Input) → Everywhere F world
    → Brings F world.settings world.views world.places silo input → Held F (rule.does world silo input)
does F k world silo input all brings = does_at F k (rule.node_of world silo) world silo input all refl brings

seen_by : (F : Facts) → Keeps F → (node : Node) (input : Input) (result : Result Stepped ℕ) (world : World) (silo : Silo) (version : ℕ)
    → Everywhere F world → rule.node_of world silo ≡ Some node
    → Brings F world.settings world.views world.places silo input → step node input ≡ result
    → Held F (rule.seen_by result world silo version)
seen_by F k node input (Err number) world silo version all there brings is = tt
seen_by F k node input (Ok stepped) world silo version all there brings is =
    taken F world silo _ stepped all (stepped_so F k world silo node input stepped all there brings is)

sees_at : (F : Facts) → Keeps F → (node : Option Node) (world : World) (silo : Silo) (version : ℕ) → Everywhere F world
    → rule.node_of world silo ≡ node → Held F (rule.sees_at node world silo version)
sees_at F k None world silo version all there = tt
sees_at F k (Some node) world silo version all there =
    unless F (nat_lt node.view.version version) 903 _ (λ newer. unless F (is_seeable (membership_of world) silo version) 904 _ (λ seeable.
    let so = both (nat_le version world.views.version) (nat_le (joined_in (membership_of world) silo) version) seeable in
    seen_by F k node (sight_of (membership_of world) version) (step node (sight_of (membership_of world) version)) world silo version all
    there
    (record {
      version = version;
      within = leb-true version world.views.version so.0;
      joined = leb-true (joined_in (membership_of world) silo) version so.1;
      is_before = refl;
      is_view = refl;
      is_brought = refl;
    }) refl))

-- nodes, when the views and places go on
nodes_on : (F : Facts) (settings : Settings) (views next : ViewsValue) (places added : PlacesValue) (nodes : List (Silo × Node))
    → GoesOn F settings views places next added
    → All (λ e. F.node settings views places e.0 e.1) nodes → All (λ e. F.node settings next added e.0 e.1) nodes
nodes_on F settings views next places added nodes on all =
    All-weaker (λ e. F.node settings views places e.0 e.1) (λ e. F.node settings next added e.0 e.1) (λ e is. on.nodes e.0 e.1 is) nodes all

-- the world after a join, by the silo that is replaced
after_joining : (F : Facts) (old : Option Silo) (world : World) (silo : Silo) (next : ViewsValue) (added : PlacesValue) → Everywhere F world
    → GoesOn F world.settings world.views world.places next added × F.node world.settings next added silo (new_node world.settings silo)
    → Everywhere F (rule.counted (rule.after_joining world silo old next added))
after_joining F None world silo next added all on = record {
  shared = on.0.shared;
  nodes = all_put silo_cmp silo_cmp_exact (λ e. F.node world.settings next added e.0 e.1) silo (new_node world.settings silo) world.nodes
      (nodes_on F world.settings world.views next world.places added world.nodes on.0 all.nodes) on.1;
  letters = all.letters;
}
after_joining F (Some old) world silo next added all on = record {
  shared = on.0.shared;
  nodes =
      all_put silo_cmp silo_cmp_exact (λ e. F.node world.settings next added e.0 e.1) silo (new_node world.settings silo)
      (rule.without_node world old).nodes
      (all_removed (λ e. F.node world.settings next added e.0 e.1) (is_at (silo_cmp old)) world.nodes
      (nodes_on F world.settings world.views next world.places added world.nodes on.0 all.nodes)) on.1;
  letters = all.letters;
}

joins : (F : Facts) → Keeps F → (world : World) (silo : Silo) (given : List ℕ) → F.named (Join silo given) → Everywhere F world
    → Held F (rule.decides world (membership.Join silo given))
joins F k world silo given named all = decided (Held F) world (membership.Join silo given) (λ number. tt) (λ m is.
    let makes = join_makes world.settings (membership_of world) m silo given is in
    after_joining F (change.occupant silo world.views.rows) world silo m.views m.places all
    (k.joining world.settings world.views m.views world.places m.places silo given named all.shared makes.viewed makes.added))

goes : (F : Facts) → Keeps F → (world : World) (next : ViewsValue) (way : change.Change) → IsGoing way → Everywhere F world
    → change.after world.views way ≡ Ok next → GoesOn F world.settings world.views world.places next world.places
goes F k world next way going all is = k.going world.settings world.views next world.places way going all.shared is

leaves : (F : Facts) → Keeps F → (world : World) (silo : Silo) → Everywhere F world → Held F (rule.decides world (membership.Leave silo))
leaves F k world silo all = decided (Held F) world (membership.Leave silo) (λ number. tt) (λ m is.
    let its = leave_is world.settings (membership_of world) m silo is in
    let next = change.with_leave world.views silo in
    let on = goes F k world next (change.Leave silo) tt all its.1 in
    subst (λ m. Held F (made world (membership.Leave silo) m)) (sym its.0)
    (record {
      shared = on.shared;
      nodes = nodes_on F world.settings world.views next world.places world.places world.nodes on all.nodes;
      letters = all.letters;
    }))

gone : (F : Facts) → Keeps F → (world : World) (silo : Silo) → Everywhere F world
    → change.after world.views (change.Die silo) ≡ Ok (change.with_death world.views silo) → Everywhere F (died world silo).world
gone F k world silo all is =
    let next = change.with_death world.views silo in
    let on = goes F k world next (change.Die silo) tt all is in
    record {
      shared = on.shared;
      nodes =
          all_removed (λ e. F.node world.settings next world.places e.0 e.1) (is_at (silo_cmp silo)) world.nodes
          (nodes_on F world.settings world.views next world.places world.places world.nodes on all.nodes);
      letters = all.letters;
    }

dies : (F : Facts) → Keeps F → (world : World) (silo : Silo) → Everywhere F world → Held F (rule.decides world (Die silo))
dies F k world silo all = decided (Held F) world (Die silo) (λ number. tt) (λ m is.
    let its = death_is world.settings (membership_of world) m silo is in
    subst (λ m. Held F (made world (Die silo) m)) (sym its.0) (gone F k world silo all its.1))

delivered_by : (F : Facts) → Keeps F → (node : Node) (result : Result Stepped ℕ) (world : World) (number : ℕ) (letter : Letter)
    → Everywhere F world → rule.node_of world letter.to ≡ Some node → F.letter world.settings letter
    → step node (Receives letter) ≡ result → Held F (rule.delivered_by result world number letter)
delivered_by F k node (Err refusal) world number letter all there has is = tt
delivered_by F k node (Ok stepped) world number letter all there has is =
    taken F (with_delivered world number letter) letter.to _ stepped
    (record {
      shared = all.shared;
      nodes = all.nodes;
      letters = all_set (Says F world.settings) (is_at (nat_cmp number))
          (record { letter = letter; fresh = false }) world.mail (λ key old at so. has) all.letters;
    })
    (stepped_so F k world letter.to node (Receives letter) stepped all there (refl, has) is)

delivers_to : (F : Facts) → Keeps F → (node : Option Node) (world : World) (number : ℕ) (letter : Letter) → Everywhere F world
    → rule.node_of world letter.to ≡ node → F.letter world.settings letter → Held F (rule.delivers_to node world number letter)
delivers_to F k None world number letter all there has = tt
delivers_to F k (Some node) world number letter all there has =
    delivered_by F k node (step node (Receives letter)) world number letter all there has refl

delivers : (F : Facts) → Keeps F → (letter : Option Letter) (world : World) (number : ℕ) → Everywhere F world
    → HasLetter F world.settings letter → Held F (rule.delivers letter world number)
delivers F k None world number all has = tt
delivers F k (Some letter) world number all has = delivers_to F k (rule.node_of world letter.to) world number letter all refl has

lost : (F : Facts) (world : World) (number : ℕ) → Everywhere F world → Held F (rule.lose world number)
lost F world number all = when F (is_some (letter_of world number)) 905 _
    (record {
      shared = all.shared;
      nodes = all.nodes;
      letters = all_removed (Says F world.settings) (is_at (nat_cmp number)) world.mail
          all.letters;
    })

attempted : (F : Facts) → Keeps F → (world : World) (event : Event) → F.named event → Everywhere F world
    → Held F (rule.attempted world event)
attempted F k world (Join silo given) named all = joins F k world silo given named all
attempted F k world (Leave silo) named all = leaves F k world silo all
attempted F k world (Kill silo) named all = dies F k world silo all
attempted F k world (See silo version) named all = sees_at F k (rule.node_of world silo) world silo version all refl
attempted F k world (Do silo step) named all = does F k world silo (Does step) all named
attempted F k world (Deliver number) named all =
    delivers F k (letter_of world number) world number all (found_letter F world.settings (is_at (nat_cmp number)) world.mail all.letters)
attempted F k world (Lose number) named all = lost F world number all

-- an event keeps what is carried
pub happened : (F : Facts) → Keeps F → (world : World) (event : Event) → F.named event → Everywhere F world
    → Held F (rule.happens world event)
unfolding rule.happens
happened F k world event named all = when F _ 908 (rule.attempted world event) (attempted F k world event named all)

world_kept : (F : Facts) (result : Result Accepted ℕ) (world : World) → Held F result → Everywhere F world
    → Everywhere F (world_after result world)
world_kept F (Ok accepted) world held all = held
world_kept F (Err number) world held all = all

-- so does a run
pub run_keeps : (F : Facts) → Keeps F → (world : World) (events : List Event) → All F.named events → Everywhere F world
    → Everywhere F (run world events).world
unfolding run
run_keeps F k world [] named all = all
run_keeps F k world (event ∷ events) named all =
    run_keeps F k (world_after (rule.happens world event) world) events (All-tail F.named event events named)
    (world_kept F (rule.happens world event) world (happened F k world event (All-head F.named event events named) all) all)

-- it holds after every list of such events
pub everywhere : (F : Facts) → Keeps F → (settings : Settings) (events : List Event) → F.asked settings → All F.named events
    → Everywhere F (run_from_start settings events).world
everywhere F k settings events asked named =
    run_keeps F k (first_world settings) events named
    (record { shared = k.first settings asked; nodes = All-nil (Of F (first_world settings)); letters = All-nil (Says F settings) })

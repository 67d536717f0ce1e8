-- The world that the code leaves, field by field, is the one that the rule leaves.
use Rattle.std.proofs.Common.{◌≡◌, ℕ, ◌+◌, ◌<◌, List, false, Option, Some, None, Result, Ok, Err, IsSome, is_some, refl, sym, ◌∙◌, ap, subst, arith}
use Rattle.std.specs.Prelude.{IfOk, IsSomeAnd}
use Rattle.std.specs.Map.{lookup, remove_entry}
use Rattle.std.specs.BTreeMap.{is_at, insert_entry}
use Rattle.silo_address.specs.Silo.{Silo, IsSameEndpoint, silo_cmp}
use Rattle.silo_address.proofs.Order.{silo_cmp_total, silo_cmp_exact, apart_in_order}
use Rattle.membership_view.specs.Views.{ViewsValue, status_at, view_at}
use Rattle.membership_view.specs.Changes as view
use Rattle.membership_view.specs.Changes.{after_join, occupant, with_join}
use Rattle.membership_view.specs.Step.{Joins}
use Rattle.membership_view.specs.declared.Status.{Status}
use Rattle.membership_view.proofs.Searches.{occupant_law}
use Rattle.membership_view.proofs.Changes.{changes_are_steps}
use Rattle.membership_view.proofs.Said.{views_say_statuses}
use Rattle.directory_rules.specs.Laws.{ArePeopled, is_live}
use Rattle.directory_rules.specs.State.{Letter, Node, World}
use Rattle.directory_rules.specs.Node.{new_node}
use Rattle.directory_rules.specs.Membership.{Change, Join, Leave, Die, Membership, changed}
use Rattle.directory_rules.specs.World.{membership_of}
use Rattle.directory_rules.specs.Mail.{with_delivered, with_lost}
use Rattle.directory_rules.specs.Happens.{after_change, after_joining, counted}
use Rattle.letter_mail.specs.Mail.{MailValue, with_posted, with_stale}
use Rattle.letter_mail.specs.Mail.{with_lost as lost_mail}
use Rattle.directory_node.specs.Follows.{RefusesBy}
use Rattle.directory_core.specs.Applied.{IsNever}
use Rattle.directory_core.specs.Changes.{made_by, made_world, nodes_without}
use Rattle.directory_core.specs.Steps.{after_step}
use Rattle.directory_core.specs.Whole.{IsWorld}
use Rattle.directory_core.proofs.Entries.{taken_before}

-- what is there
pub found_of : {X : Type 0} (found : Option X) → IsSome found → (x : X) × (found ≡ Some x)
found_of None there = absurd (cc (there))
found_of (Some x) there = (x, refl)

-- ---- a step: an equal world with that node, those letters sent and one event more
pub kept_step : (world now : World) → world ≡ now → (silo : Silo) (node : Node) (nodes : List (Silo × Node)) (mail : MailValue)
    (letters : List Letter)
    → IsWorld (after_step now silo node letters) → nodes ≡ insert_entry silo_cmp world.nodes silo node
    → mail ≡ with_posted (record { letters = world.mail; sent = world.sent }) letters
    → IsWorld (record world { accepted = world.accepted + 1; nodes = nodes; mail = mail.letters; sent = mail.sent })
kept_step world now same silo node nodes mail letters is nodes_are mail_is =
    let is_first : IsWorld (after_step world silo node letters) = subst (λ (w : World). IsWorld (after_step w silo node letters)) (sym same) is in
    subst (λ (n : List (Silo × Node)). IsWorld (record world
    { accepted = world.accepted + 1; nodes = n; mail = mail.letters; sent = mail.sent })) (sym nodes_are)
    (subst (λ (m : MailValue). IsWorld (record world
    { accepted = world.accepted + 1; nodes = insert_entry silo_cmp world.nodes silo node; mail = m.letters; sent = m.sent })) (sym mail_is)
    is_first)

-- so it is where a letter was received
pub kept_receipt : (world now : World) → world ≡ now
    → (silo : Silo) (node : Node) (nodes : List (Silo × Node)) (mail : MailValue) (letters : List Letter) (number : ℕ) (letter : Letter)
    → IsWorld (after_step (with_delivered now number letter) silo node letters) → nodes ≡ insert_entry silo_cmp world.nodes silo node
    → mail ≡ with_posted (with_stale (record { letters = world.mail; sent = world.sent }) number letter) letters
    → IsWorld (record world { accepted = world.accepted + 1; nodes = nodes; mail = mail.letters; sent = mail.sent })
kept_receipt world now same silo node nodes mail letters number letter is nodes_are mail_is =
    let is_first : IsWorld (after_step (with_delivered world number letter) silo node letters) =
    subst (λ (w : World). IsWorld (after_step (with_delivered w number letter) silo node letters)) (sym same) is in
    subst (λ (n : List (Silo × Node)). IsWorld (record world
    { accepted = world.accepted + 1; nodes = n; mail = mail.letters; sent = mail.sent })) (sym nodes_are)
    (subst (λ (m : MailValue). IsWorld (record world
    { accepted = world.accepted + 1; nodes = insert_entry silo_cmp world.nodes silo node; mail = m.letters; sent = m.sent })) (sym mail_is)
    is_first)

-- and where a letter was lost
pub kept_loss : (world now : World) → world ≡ now → (number : ℕ) (mail : MailValue) → IsWorld (counted (with_lost now number))
    → mail ≡ lost_mail (record { letters = world.mail; sent = world.sent }) number
    → IsWorld (record world { accepted = world.accepted + 1; mail = mail.letters; sent = mail.sent })
kept_loss world now same number mail is mail_is =
    subst (λ (m : MailValue). IsWorld (record world { accepted = world.accepted + 1; mail = m.letters; sent = m.sent })) (sym mail_is)
    (subst (λ (w : World). IsWorld (counted (with_lost w number))) (sym same) is)

-- ---- a change of membership, as an equal world makes it
made_so : (world now : World) → world ≡ now → (change : Change) (m : Membership)
    → changed world.settings (membership_of world) change ≡ Ok m
    → made_world now change ≡ Ok (counted (after_change world change m))
made_so world now same change m is =
    ap (λ (w : World). made_world w change) (sym same) ∙ ap (λ (o : Result Membership ℕ). made_by o world change) is

pub left_so : (world now : World) → world ≡ now → (silo : Silo) (m : Membership)
    → changed world.settings (membership_of world) (Leave silo) ≡ Ok m
    → made_world now (Leave silo) ≡ Ok (record world { accepted = world.accepted + 1; views = m.views; places = m.places })
left_so world now same silo m is = made_so world now same (Leave silo) m is

pub died_so : (world now : World) → world ≡ now → (silo : Silo) (m : Membership) (nodes : List (Silo × Node))
    → changed world.settings (membership_of world) (Die silo) ≡ Ok m
    → nodes ≡ remove_entry (is_at (silo_cmp silo)) world.nodes
    → made_world now (Die silo) ≡ Ok (record world { accepted = world.accepted + 1; views = m.views; places = m.places; nodes = nodes })
died_so world now same silo m nodes is nodes_are =
    made_so world now same (Die silo) m is
    ∙ ap (λ (n : List (Silo × Node)). Ok (record world { accepted = world.accepted + 1; views = m.views; places = m.places; nodes = n }))
    (sym nodes_are)

-- or membership refuses it
pub refused_so : (world now : World) → world ≡ now → (change : Change) (number : Option ℕ)
    → IsSomeAnd number (λ n. changed world.settings (membership_of world) change ≡ Err n)
    → RefusesBy IsNever number (made_world now change)
refused_so world now same change None is = absurd is
refused_so world now same change (Some n) is =
    ap (λ (w : World). made_world w change) (sym same) ∙ ap (λ (o : Result Membership ℕ). made_by o world change) is

-- what it makes is a world that events have made
pub kept_made : (world after : World) (change : Change) → IfOk (made_world world change) IsWorld → made_world world change ≡ Ok after
    → IsWorld after
kept_made world after change leaves is = subst (λ (o : Result World ℕ). IfOk o IsWorld) is leaves

-- ---- a join
none_of : {X : Type 0} (found : Option X) → is_some found ≡ false → found ≡ None
none_of None none = refl
none_of (Some x) none = cc

-- who may join has no status, so no node
no_status : (silo : Silo) (status : Option Status) → (IsSome status → silo.generation < silo.generation) → is_live status ≡ false
no_status silo None newest = refl
no_status silo (Some status) newest = absurd (omega (arith, newest refl))

same_endpoint : (silo : Silo) → IsSameEndpoint silo silo
same_endpoint silo = search

joins : (views : ViewsValue) (nodes : List (Silo × Node)) (silo : Silo) → ArePeopled views nodes
    → after_join views silo ≡ Ok (with_join views silo)
    → Joins silo (view_at views views.version) (view_at (with_join views silo) (with_join views silo).version)
joins views nodes silo are may = changes_are_steps views (view.Join silo) (with_join views silo) (record { whole = are.whole; is = may })

-- each silo of its endpoint that is there is older
older : (views : ViewsValue) (nodes : List (Silo × Node)) (silo other : Silo) → ArePeopled views nodes
    → after_join views silo ≡ Ok (with_join views silo) → IsSameEndpoint silo other → IsSome (status_at views views.version other)
    → other.generation < silo.generation
older views nodes silo other are may same there =
    (joins views nodes silo are may).newest other same
    (subst (λ (o : Option Status). IsSome o) (sym (views_say_statuses views are.whole other views.version (omega arith) there)) there)

pub no_node : (views : ViewsValue) (nodes : List (Silo × Node)) (silo : Silo) → ArePeopled views nodes
    → after_join views silo ≡ Ok (with_join views silo) → lookup (is_at (silo_cmp silo)) nodes ≡ None
no_node views nodes silo are may =
    none_of (lookup (is_at (silo_cmp silo)) nodes) (are.live silo
    ∙ no_status silo (status_at views views.version silo) (older views nodes silo silo are may (same_endpoint silo)))

-- whom it replaces is another silo, so its node may go before or after
pub nodes_put : (views : ViewsValue) (nodes : List (Silo × Node)) (silo : Silo) (node : Node) → ArePeopled views nodes
    → after_join views silo ≡ Ok (with_join views silo)
    → nodes_without (occupant silo views.rows) (insert_entry silo_cmp nodes silo node) ≡ insert_entry silo_cmp
    (nodes_without (occupant silo views.rows) nodes) silo node
nodes_put views nodes silo node are may = by (occupant silo views.rows) refl
  where
    not_itself : occupant silo views.rows ≡ Some silo → ⊥
    not_itself is =
        let law = (occupant_law views are.whole silo silo).0 is in
        let newer : silo.generation < silo.generation = older views nodes silo silo are may law.0 law.1.0 in
        omega (arith, newer)

    by : (old : Option Silo) → occupant silo views.rows ≡ old
        → nodes_without old (insert_entry silo_cmp nodes silo node) ≡ insert_entry silo_cmp (nodes_without old nodes) silo node
    by None is = refl
    by (Some old) is =
        taken_before silo_cmp silo_cmp_total silo_cmp_exact silo old node nodes are.by_address
        (apart_in_order silo_cmp silo_cmp_exact old silo (λ same. not_itself (is ∙ ap Some same)))

-- the silo has its node, and whom it replaces has none any more
joined_nodes : (old : Option Silo) (world : World) (silo : Silo) (m : Membership) (nodes : List (Silo × Node))
    → nodes ≡ insert_entry silo_cmp (nodes_without old world.nodes) silo (new_node world.settings silo)
    → counted (after_joining world silo old m.views m.places) ≡ record world
    { accepted = world.accepted + 1; views = m.views; places = m.places; nodes = nodes }
joined_nodes None world silo m nodes nodes_are =
    ap (λ (n : List (Silo × Node)). record world { accepted = world.accepted + 1; views = m.views; places = m.places; nodes = n })
    (sym nodes_are)
joined_nodes (Some old) world silo m nodes nodes_are =
    ap (λ (n : List (Silo × Node)). record world { accepted = world.accepted + 1; views = m.views; places = m.places; nodes = n })
    (sym nodes_are)

pub joined_so : (world now : World) → world ≡ now → (silo : Silo) (given : List ℕ) (m : Membership) (nodes : List (Silo × Node))
    → changed world.settings (membership_of world) (Join silo given) ≡ Ok m
    → nodes ≡ insert_entry silo_cmp (nodes_without (occupant silo world.views.rows) world.nodes) silo (new_node world.settings silo)
    → made_world now (Join silo given) ≡ Ok (record world
    { accepted = world.accepted + 1; views = m.views; places = m.places; nodes = nodes })
joined_so world now same silo given m nodes is nodes_are =
    made_so world now same (Join silo given) m is ∙ ap (λ (w : World). Ok w)
    (joined_nodes (occupant silo world.views.rows) world silo m nodes nodes_are)

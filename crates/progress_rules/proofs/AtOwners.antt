-- How many registrations and deregistrations a host has outstanding at one owner; they are as many under new numbers.
use Rattle.std.proofs.Common.{arith, ◌≡◌, ◌≤◌, refl, sym, ap, ◌∙◌, ℕ, List, [], ◌∷◌, ◌++◌}
use Rattle.std.specs.Prelude.{Bool, true, not, ◌&&◌, map, count_by, Option, Some, None}
use Rattle.std.specs.List.{cons_option}
use Rattle.std.proofs.lemmas.List.{map-append}
use Rattle.std.proofs.lemmas.List.Filters.{length-filter_both}
use Rattle.std.proofs.lemmas.List.Sums.{length-filter}
use Rattle.texts.proofs.Decided.{both}
use Rattle.silo_address.specs.Silo.{Silo}
use Rattle.silo_address.specs.Grain.{Grain}
use Rattle.silo_address.proofs.Same.{Decides-silo}
use Rattle.directory_rules.specs.declared.act.Act.{Act}
use Rattle.directory_rules.specs.declared.act.Act.TheVariants as act
use Rattle.directory_rules.specs.declared.held.Held.{Held}
use Rattle.directory_rules.specs.declared.held.Phase.{Phase}
use Rattle.directory_rules.specs.declared.held.Phase.TheVariants as phase
use Rattle.directory_rules.specs.Answer.{is_numbered}
use Rattle.directory_rules.specs.State.{Host, Node, World}
use Rattle.directory_rules.specs.Host.{act_in, entry_on, held_acts, find_acts, outstanding, new_number, renewed, renewed_phase}
use Rattle.directory_rules.specs.Laws.{requests_of, AreNumbered}
use Rattle.directory_rules.specs.Happens.{node_of}
use Rattle.directory_rules.specs.Sight.{is_owner}
use Rattle.progress_rules.specs.Second.{owner_in}
use Rattle.progress_rules.specs.AnyOrder.{is_at_owner, asked_of}
use Rattle.progress_rules.proofs.Fewer.{mapped_count, same_tests, no_more}
use Rattle.progress_rules.proofs.FindsSorted.{outstanding_has}
use Rattle.progress_rules.proofs.Resting.{IsResting}
use Rattle.progress_rules.proofs.Answering.{node_facts, owner_seen}
use Rattle.progress_rules.proofs.Quiet.{acts}
use Rattle.progress_rules.proofs.Two.{both_true}

-- a registration or deregistration that is that owner's in the world
abbrev pub is_for : World → Silo → Act → Bool
is_for world owner act = is_numbered act && is_owner owner (owner_in world act)

abbrev pub asks : World → Silo → Host → ℕ
asks world owner host = count_by (λ e. is_for world owner e.1) (requests_of host)

pub for_owner : (world : World) (owner : Silo) (act : Act) → is_numbered act ≡ true → owner_in world act ≡ Some owner
    → is_for world owner act ≡ true
for_owner world owner act counts owns = both_true _ _ counts (ap (is_owner owner) owns ∙ (Decides-silo owner owner).1 refl)

pub owner_of : (world : World) (owner : Silo) (act : Act) → is_for world owner act ≡ true → owner_in world act ≡ Some owner
owner_of world owner act is = by (owner_in world act) (both (is_numbered act) _ is).1
  where
    by : (o : Option Silo) → is_owner owner o ≡ true → o ≡ Some owner
    by None none = absurd (cc (none))
    by (Some other) same = ap Some ((Decides-silo other owner).0 same)

-- as many where owners are the same
pub asks_from : (world base : World) (owner : Silo) → ((act : Act) → owner_in world act ≡ owner_in base act) → (host : Host)
    → asks world owner host ≡ asks base owner host
asks_from world base owner same host = same_tests (λ (e : ℕ × Act). is_for world owner e.1) (λ (e : ℕ × Act). is_for base owner e.1)
    (λ e. ap (λ o. is_numbered e.1 && is_owner owner o) (same e.1)) (requests_of host)

-- ---- the acts are the same under new numbers
abbrev acts_of : List (ℕ × Act) → List Act
acts_of es = map (λ e. e.1) es

act_same : (h : Host) (its : Phase) (grain : Grain) (held : Held) (xs ys : List (ℕ × Act)) → acts_of xs ≡ acts_of ys
    → acts_of (cons_option (act_in (renewed_phase h its) (renewed h) grain (record held { phase = renewed_phase h its })) xs) ≡ acts_of
    (cons_option (act_in its h grain held) ys)
act_same h (phase.Asking k) grain held xs ys same = ap (λ l. act.Register (entry_on h.silo grain held) held.previous ∷ l) same
act_same h phase.Firm grain held xs ys same = same
act_same h (phase.Closing k) grain held xs ys same = ap (λ l. act.Deregister (entry_on h.silo grain held) ∷ l) same

held_same : (h : Host) (held : List (Grain × Held))
    → acts_of (acts (renewed h) (map (λ e. (e.0, record e.1 { phase = renewed_phase h e.1.phase })) held)) ≡ acts_of (acts h held)
held_same h [] = refl
held_same h (e ∷ es) =
    act_same h e.1.phase e.0 e.1 (acts (renewed h) (map (λ x. (x.0, record x.1 { phase = renewed_phase h x.1.phase })) es)) (acts h es)
    (held_same h es)

finds_same : (h : Host) (finds : List (ℕ × Grain))
    → acts_of (map (λ (e : ℕ × Grain). (e.0, act.Find e.1)) (map (λ (e : ℕ × Grain). (new_number h e.0, e.1)) finds)) ≡ acts_of
    (map (λ (e : ℕ × Grain). (e.0, act.Find e.1)) finds)
finds_same h [] = refl
finds_same h (e ∷ es) = ap (λ l. act.Find e.1 ∷ l) (finds_same h es)

pub renewed_asks : (world : World) (owner : Silo) (h : Host) → asks world owner (renewed h) ≡ asks world owner h
renewed_asks world owner h =
    mapped_count (λ (e : ℕ × Act). e.1) (is_for world owner) (requests_of (renewed h)) ∙ ap (count_by (is_for world owner)) same
    ∙ sym (mapped_count (λ (e : ℕ × Act). e.1) (is_for world owner) (requests_of h))
  where
    same : acts_of (requests_of (renewed h)) ≡ acts_of (requests_of h)
    same =
        map-append (λ (e : ℕ × Act). e.1) (held_acts (renewed h)) (find_acts (renewed h))
        ∙ ap (λ l. l ++ acts_of (find_acts (renewed h))) (held_same h h.held)
        ∙ ap (λ l. acts_of (held_acts h) ++ l) (finds_same h h.finds)
        ∙ sym (map-append (λ (e : ℕ × Act). e.1) (held_acts h) (find_acts h))

-- ---- and among what is outstanding, as each of a host's requests is
pub asked_same : (world : World) (r : IsResting world) (silo : Silo) (node : Node) → node_of world silo ≡ Some node → (owner : Silo)
    → asked_of node owner ≡ asks world owner node.host
asked_same world r silo node there owner =
    let all = length-filter_both p q (λ x. refl) (requests_of node.host) in
    let all_out = length-filter_both p q (λ x. refl) (outstanding node.host) in
    let many = numbered.many in
    let some = no_fewer p in
    let others = no_fewer q in
    let filtered = length-filter p (requests_of node.host) in
    let filtered_out = length-filter p (outstanding node.host) in
    let rest = length-filter q (requests_of node.host) in
    let rest_out = length-filter q (outstanding node.host) in
    let tests = same_tests p (λ (e : ℕ × Act). is_for world owner e.1) (λ e. ap (λ o. is_numbered e.1 && is_owner owner o) (owner_seen world r silo node there e.1))
    (requests_of node.host) in
    omega (arith, all, all_out, many, some, others, filtered, filtered_out, rest, rest_out, tests)
  where
    p : ℕ × Act → Bool
    p = is_at_owner node owner

    q : ℕ × Act → Bool
    q e = not (is_at_owner node owner e)

    numbered : AreNumbered node.host
    numbered = (node_facts world r silo node there).numbered

    no_fewer : (t : ℕ × Act → Bool) → count_by t (requests_of node.host) ≤ count_by t (outstanding node.host)
    no_fewer t =
        no_more t (requests_of node.host) (outstanding node.host)
        (λ i j d lt below same. numbered.distinct i j d lt below (ap (λ (x : ℕ × Act). x.0) same))
        (λ e owes. outstanding_has node.host numbered e owes)

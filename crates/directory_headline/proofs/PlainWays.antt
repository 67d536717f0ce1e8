-- What a silo's step is to the plain machine: of the activations that the silo holds, at most one changes.
use Rattle.std.proofs.Common.{◌≡◌, ◌≢◌, ℕ, ◌+◌, List, [], ◌∷◌, refl, sym, ap, subst, ◌∙◌}
use Rattle.std.specs.Prelude.{Bool, true, false, cond, is_some, map, fold, if◌then◌else◌, Option, Some, None, Result, Ok, Err, not, nat_lt, length}
use Rattle.std.specs.Option.{option_map}
use Rattle.std.specs.Map.{lookup}
use Rattle.std.specs.BTreeMap.{is_at}
use Rattle.silo_address.specs.Grain.{Grain, grain_cmp, grain_eq}
use Rattle.silo_address.specs.declared.ActivationId.{ActivationId}
use Rattle.silo_address.proofs.Order.{grain_cmp_total, grain_cmp_exact}
use Rattle.membership_view.specs.View.{ViewValue}
use Rattle.hash_ring.specs.Places.{PlacesValue}
use Rattle.directory_rules.specs.declared.held.Held.{Held}
use Rattle.directory_rules.specs.declared.held.Phase.{Phase}
use Rattle.directory_rules.specs.declared.held.Phase.TheVariants as phase
use Rattle.directory_rules.specs.declared.reply.Reply.{Reply}
use Rattle.directory_rules.specs.declared.reply.Reply.TheVariants as reply
use Rattle.directory_rules.specs.declared.effect.Effect.TheVariants as effect
use Rattle.directory_rules.specs.State.{Host, Node}
use Rattle.directory_rules.specs.Host.{has_numbers, outstanding, held_of, is_asking, renewed, renewed_phase, renewed_about, phase_renewed_about, next_closing, with_started, with_closing, without_held, confirmed, next_held, asking_under, closing_under, is_asking_under, is_closing_under}
use Rattle.directory_rules.specs.Sight.{is_next}
use Rattle.directory_rules.specs.Step.{Stepped, sight}
use Rattle.directory_rules.specs.Receive.{reply_effect, replying}
use Rattle.directory_rules.specs.Transfer.{told_nothing}
use Rattle.directory_rules.specs.Answer.{answered}
use Rattle.directory_rules.specs.Input.{Input, Sees, step}
use Rattle.directory_rules.specs.PlainMachine.{Life, Is_asking, Is_firm, Is_closing, life_by, life_of, life_on, PlainStep, Change_view, Begin, Make_firm, Yield, Begin_closing, Give_up, End, Nothing_changes, step_of_effect}
use Rattle.directory_rules.proofs.Cases.{on_bool}
use Rattle.directory_facts.specs.Own.{HoldsOnce}
use Rattle.directory_facts.proofs.Ways.{Ways, MayClose}
use Rattle.directory_facts.proofs.EachStep.{by_way}
use Rattle.directory_facts.proofs.Emptied.{leaves_else}
use Rattle.directory_facts.proofs.Lookups.{found_set, found_beside_set, found_beside_removed, find_looked, found_at_end, found_beside_end, once_removed}

-- no activation changes, and no count is used
pub record NodeSame (node next : Node) : Type 0 where
  pub lives : (grain : Grain) → life_on grain next ≡ life_on grain node
  pub count : next.host.next_count ≡ node.host.next_count

-- one activation goes from one phase to another, or goes
pub record NodeGoes (node : Node) (life : Life) (after : Option Life) (next : Node) : Type 0 where
  pub grain : Grain
  pub was : life_on grain node ≡ Some life
  pub there : life_on grain next ≡ after
  pub elsewhere : (other : Grain) → other ≢ grain → life_on other next ≡ life_on other node
  pub count : next.host.next_count ≡ node.host.next_count

-- an activation begins under the next count
pub record NodeBegins (node next : Node) : Type 0 where
  pub grain : Grain
  pub free : life_on grain node ≡ None
  pub there : life_on grain next ≡ Some (Is_asking node.host.next_count)
  pub elsewhere : (other : Grain) → other ≢ grain → life_on other next ≡ life_on other node
  pub count : next.host.next_count ≡ node.host.next_count + 1

-- the kinds of a silo's plain step
abbrev pub IsNodeStep : Node → PlainStep → Node → Type 0
IsNodeStep node Change_view next = ⊥
IsNodeStep node Begin next = NodeBegins node next
IsNodeStep node Make_firm next = (count : ℕ) × NodeGoes node (Is_asking count) (Some (Is_firm count)) next
IsNodeStep node Yield next = (count : ℕ) × NodeGoes node (Is_asking count) None next
IsNodeStep node Begin_closing next = (count : ℕ) × NodeGoes node (Is_firm count) (Some (Is_closing count)) next
IsNodeStep node Give_up next = (count : ℕ) × NodeGoes node (Is_asking count) (Some (Is_closing count)) next
IsNodeStep node End next = (count : ℕ) × NodeGoes node (Is_closing count) None next
IsNodeStep node Nothing_changes next = NodeSame node next

-- a reply that is sent changes no activation
reply_plain : (its : Reply) → step_of_effect (reply_effect its) ≡ Nothing_changes
reply_plain (reply.Registered entry) = refl
reply_plain (reply.Taken entry) = refl
reply_plain reply.Removed = refl
reply_plain reply.Absent = refl
reply_plain (reply.Found entry) = refl
reply_plain reply.Nothing = refl
reply_plain (reply.Retry why) = refl

-- ---- phases
life_renewed : (host : Host) (its : Phase) (count : ℕ) → life_by (renewed_phase host its) count ≡ life_by its count
life_renewed host (phase.Asking number) count = refl
life_renewed host phase.Firm count = refl
life_renewed host (phase.Closing number) count = refl

life_renewed_about : (grain : Grain) (host : Host) (about : Bool) (its : Phase) (count : ℕ)
    → life_by (if about then phase_renewed_about grain host its else its) count ≡ life_by its count
life_renewed_about grain host true (phase.Asking number) count = refl
life_renewed_about grain host true phase.Firm count = refl
life_renewed_about grain host true (phase.Closing number) count = refl
life_renewed_about grain host false its count = refl

-- other phases, of the same lives
other_lives : (phase_of : Grain → Phase → Phase) →
    ((grain : Grain) (its : Phase) (count : ℕ) → life_by (phase_of grain its) count ≡ life_by its count)
    → (test : Grain → Bool) (held : List (Grain × Held))
    → option_map life_of (lookup test (map (λ e. (e.0, record e.1 { phase = phase_of e.0 e.1.phase })) held)) ≡ option_map life_of
    (lookup test held)
other_lives phase_of same test [] = refl
other_lives phase_of same test (e ∷ es) =
    on_bool (λ b. option_map life_of (cond b (Some (record e.1 { phase = phase_of e.0 e.1.phase }))
    (lookup test (map (λ x. (x.0, record x.1 { phase = phase_of x.0 x.1.phase })) es))) ≡ option_map life_of
    (cond b (Some e.1) (lookup test es)))
    (test e.0)
    (λ t. ap Some (same e.0 e.1.phase e.1.count)) (λ f. other_lives phase_of same test es)

asking_life : (number count : ℕ) (its : Phase) → is_asking_under number its ≡ true → life_by its count ≡ Is_asking count
asking_life number count (phase.Asking n) is = refl
asking_life number count phase.Firm is = absurd (cc (is))
asking_life number count (phase.Closing n) is = absurd (cc (is))

asks_life : (count : ℕ) (its : Phase) → is_asking its ≡ true → life_by its count ≡ Is_asking count
asks_life count (phase.Asking n) is = refl
asks_life count phase.Firm is = absurd (cc (is))
asks_life count (phase.Closing n) is = absurd (cc (is))

closing_life : (number count : ℕ) (its : Phase) → is_closing_under number its ≡ true → life_by its count ≡ Is_closing count
closing_life number count (phase.Asking n) is = absurd (cc (is))
closing_life number count phase.Firm is = absurd (cc (is))
closing_life number count (phase.Closing n) is = refl

module _ (node : Node) (once : HoldsOnce node.host) where
  same : NodeSame node node
  same = record { lives = λ grain. refl; count = refl }

  -- the host's activations and next count are the same
  host_same : (next : Node) → next.host.held ≡ node.host.held → next.host.next_count ≡ node.host.next_count → NodeSame node next
  host_same next held count =
      record { lives = λ grain. ap (λ es. option_map life_of (lookup (is_at (grain_cmp grain)) es)) held; count = count }

  renews : (next : Node) → next.host ≡ renewed node.host → NodeSame node next
  renews next host = record {
    lives =
        λ grain. ap (λ h. option_map life_of (held_of h grain)) host
        ∙ other_lives (λ r its. renewed_phase node.host its) (λ r its count. life_renewed node.host its count) (is_at (grain_cmp grain))
        node.host.held;
    count = ap (λ h. h.next_count) host;
  }

  renews_about : (grain : Grain) → NodeSame node (record node { host = renewed_about grain node.host })
  renews_about grain = record {
    lives = λ r.
        other_lives (λ q its. if grain_eq q grain then phase_renewed_about grain node.host its else its)
        (λ q its count. life_renewed_about grain node.host (grain_eq q grain) its count) (is_at (grain_cmp r)) node.host.held;
    count = refl;
  }

  sighted : (next : Bool) (made : Node) → NodeSame node made
      → IsNodeStep node (step_of_effect (if next then effect.Next else effect.Skip)) made
  sighted true made is = is
  sighted false made is = is

  begins : (grain : Grain) (previous : Option ActivationId) → held_of node.host grain ≡ None
      → NodeBegins node (record node { host = with_started node.host grain previous })
  begins grain previous free = record {
    grain = grain;
    free = ap (option_map life_of) free;
    there =
        ap (option_map life_of) (found_at_end grain_cmp grain_cmp_total grain_cmp_exact grain (next_held node.host previous) node.host.held
        free);
    elsewhere =
        λ other apart. ap (option_map life_of) (found_beside_end grain_cmp grain_cmp_total grain_cmp_exact grain
        (next_held node.host previous) node.host.held other apart);
    count = refl;
  }

  closes : (grain : Grain) (held : Held) (life : Life) → held_of node.host grain ≡ Some held → life_of held ≡ life
      → NodeGoes node life (Some (Is_closing held.count)) (record node { host = with_closing node.host grain held })
  closes grain held life found its =
      let closing : Held = next_closing node.host held in
      record {
        grain = grain;
        was = ap (option_map life_of) found ∙ ap Some its;
        there =
            ap (option_map life_of) (found_set grain_cmp grain_cmp_total grain_cmp_exact grain closing node.host.held (ap is_some found));
        elsewhere =
            λ other apart. ap (option_map life_of) (found_beside_set grain_cmp grain_cmp_total grain_cmp_exact grain closing node.host.held
            other apart);
        count = refl;
      }

  closes_firm : (grain : Grain) (held : Held) → MayClose node grain held
      → NodeGoes node (Is_firm held.count) (Some (Is_closing held.count)) (record node { host = with_closing node.host grain held })
  closes_firm grain held may = closes grain held (Is_firm held.count) may.found (ap (λ p. life_by p held.count) may.firm)

  makes_firm : (number : ℕ) (e : Grain × Held) (next : Node) → asking_under node.host number ≡ Some e
      → next.host ≡ confirmed node.host e.0 e.1 → NodeGoes node (Is_asking e.1.count) (Some (Is_firm e.1.count)) next
  makes_firm number e next under host =
      let firm : Held = record e.1 { phase = phase.Firm; previous = None } in
      let so = find_looked grain_cmp grain_cmp_total grain_cmp_exact (λ x. is_asking_under number x.1.phase) node.host.held e once under in
      record {
        grain = e.0;
        was = ap (option_map life_of) so.1 ∙ ap Some (asking_life number e.1.count e.1.phase so.0);
        there =
            ap (λ h. option_map life_of (held_of h e.0)) host
            ∙ ap (option_map life_of) (found_set grain_cmp grain_cmp_total grain_cmp_exact e.0 firm node.host.held (ap is_some so.1));
        elsewhere = λ other apart.
            ap (λ h. option_map life_of (held_of h other)) host
            ∙ ap (option_map life_of) (found_beside_set grain_cmp grain_cmp_total grain_cmp_exact e.0 firm node.host.held other apart);
        count = ap (λ h. h.next_count) host;
      }

  goes : (e : Grain × Held) (life : Life) (next : Node) → held_of node.host e.0 ≡ Some e.1 → life_of e.1 ≡ life
      → next.host ≡ without_held node.host e.0 → NodeGoes node life None next
  goes e life next there its host = record {
    grain = e.0;
    was = ap (option_map life_of) there ∙ ap Some its;
    there =
        ap (λ h. option_map life_of (held_of h e.0)) host
        ∙ ap (option_map life_of) (once_removed grain_cmp grain_cmp_total grain_cmp_exact e.0 node.host.held once);
    elsewhere = λ other apart.
        ap (λ h. option_map life_of (held_of h other)) host
        ∙ ap (option_map life_of) (found_beside_removed grain_cmp grain_cmp_total grain_cmp_exact e.0 node.host.held other apart);
    count = ap (λ h. h.next_count) host;
  }

  yields : (number : ℕ) (e : Grain × Held) (next : Node) → asking_under node.host number ≡ Some e → next.host ≡ without_held node.host e.0
      → NodeGoes node (Is_asking e.1.count) None next
  yields number e next under host =
      let so = find_looked grain_cmp grain_cmp_total grain_cmp_exact (λ x. is_asking_under number x.1.phase) node.host.held e once under in
      goes e (Is_asking e.1.count) next so.1 (asking_life number e.1.count e.1.phase so.0) host

  ends : (number : ℕ) (e : Grain × Held) (next : Node) → closing_under node.host number ≡ Some e → next.host ≡ without_held node.host e.0
      → NodeGoes node (Is_closing e.1.count) None next
  ends number e next under host =
      let so = find_looked grain_cmp grain_cmp_total grain_cmp_exact (λ x. is_closing_under number x.1.phase) node.host.held e once under in
      goes e (Is_closing e.1.count) next so.1 (closing_life number e.1.count e.1.phase so.0) host

  ways : Ways node (λ input stepped. IsNodeStep node (step_of_effect stepped.effect) stepped.node)
  ways = record {
    nothing = λ input effect plain. subst (λ its. IsNodeStep node its node) (sym plain) same;
    sees = λ before view places newer numbers. sighted (is_next node.view before view node.host.silo) _ (renews _ refl);
    wakes = λ grain may. begins grain None may.free;
    closes = λ grain held may. (held.count, closes_firm grain held may);
    cancels = λ grain held may. (held.count, closes grain held (Is_asking held.count) may.found (asks_life held.count held.phase may.asks));
    offers = λ grain held to may active other. (held.count, closes_firm grain held may);
    uses_hint = λ grain activation hint. host_same _ refl refl;
    finds = λ grain room numbers. host_same _ refl refl;
    forgets = λ grain activation hint. host_same _ refl refl;
    nudges = λ numbers. renews _ refl;
    nudges_grain = λ grain numbers. renews_about grain;
    nudges_ranges = same;
    answers = λ letter request body sender version.
        let made = replying node request (answered node.holding request) in
        subst (λ its. IsNodeStep node its made.node) (sym (reply_plain (answered node.holding request).reply))
        (host_same made.node refl refl);
    confirms = λ letter number entry e is there. (e.1.count, makes_firm number e _ there refl);
    yields = λ letter number entry e is there. (e.1.count, yields number e _ there refl);
    removes = λ letter number e is there. (e.1.count, ends number e _ there refl);
    misses = λ letter number e is there. (e.1.count, ends number e _ there refl);
    learns = λ letter number entry is there. host_same _ refl refl;
    notes = λ letter number is there. host_same _ refl refl;
    hands = λ letter range number page body is. same;
    lacks = λ letter range number body is. same;
    forgoes = λ letter range body there. host_same _ refl refl;
    lags = λ letter range. same;
    passed = λ letter range. same;
    reports = λ letter range after body seen. same;
    surveys = λ letter first others body seen. same;
    gathers = λ letter page gathering taken is. host_same _ refl refl;
    installs = λ letter page entries taken is. host_same _ refl refl;
    drops = λ letter page gathering taken is. host_same _ refl refl;
    turns = λ letter range piece body has awaits. host_same _ refl refl;
    continues = λ letter report recovery taken is. host_same _ refl refl;
    collects = λ letter report recovery taken is. host_same _ refl refl;
    completes = λ letter report table taken is. host_same _ refl refl;
    empties = λ letter ranges its body plain.
        let made = fold (told_nothing letter) node ranges in
        let host = (leaves_else letter node ranges).host in
        subst (λ kind. IsNodeStep node kind made) (sym plain)
        (host_same made (ap (λ (h : Host). h.held) host) (ap (λ (h : Host). h.next_count) host));
    takes_over = λ letter entry body seen may. begins entry.grain (Some entry.activation) may.free;
  }

  -- every accepted step of a silo
  pub steps_plainly : (input : Input) (stepped : Stepped) → step node input ≡ Ok stepped
      → IsNodeStep node (step_of_effect stepped.effect) stepped.node
  steps_plainly input stepped is = by_way node (λ its made. IsNodeStep node (step_of_effect made.effect) made.node) ways input stepped is

  made_is : (b c : Bool) (sight made : Stepped) → cond {A = Result Stepped ℕ} (not b) (Err 903)
      (cond {A = Result Stepped ℕ} (not c) (Err 805) (Ok sight)) ≡ Ok made → sight ≡ made
  made_is true true its made is = cc (is)
  made_is true false its made is = absurd (cc (is))
  made_is false c its made is = absurd (cc (is))

  -- a sight changes no activation
  pub sees_plainly : (before view : ViewValue) (places : PlacesValue) (made : Stepped) → step node (Sees before view places) ≡ Ok made
      → NodeSame node made.node
  sees_plainly before view places made is =
      let its = sight (is_next node.view before view node.host.silo) node before view places in
      subst (λ (s : Stepped). NodeSame node s.node) (made_is (nat_lt node.view.version view.version)
      (has_numbers node.settings node.host (length (outstanding node.host))) its made is) (renews its.node refl)

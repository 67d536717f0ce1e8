-- Whatever a silo does but see a version, what it has outstanding then it had before, or it has one of the free numbers.
use Rattle.std.proofs.Common.{arith, ◌≡◌, refl, sym, ap, subst, ◌∙◌, ℕ, ◌≤◌, List, [], ◌∷◌, ◌++◌, ◌⊎◌, inl, inr}
use Rattle.std.specs.Prelude.{Bool, true, false, cond, not, if◌then◌else◌, map, filter, Contains, Option, Some, None, Ok}
use Rattle.std.specs.List.{cons_option}
use Rattle.std.specs.Ordering.{nat_cmp, match_ordering}
use Rattle.std.specs.declared.cmp.Ordering.{Ordering}
use Rattle.std.specs.declared.cmp.Ordering.TheVariants.{Less, Equal, Greater}
use Rattle.std.specs.Map.{set_value}
use Rattle.std.specs.BTreeMap.{is_at, insert_entry}
use Rattle.std.proofs.lemmas.Map.Lookups.{exact_unsigned}
use Rattle.std.proofs.lemmas.List.Elements.{All-contains, Contains-append_left, Contains-append_right, Contains-append_cases, filter_map-append}
use Rattle.silo_address.specs.Grain.{Grain, grain_cmp, grain_eq}
use Rattle.silo_address.specs.declared.ActivationId.{ActivationId}
use Rattle.membership_view.specs.View.{ViewValue}
use Rattle.directory_rules.specs.declared.act.Act.{Act}
use Rattle.directory_rules.specs.declared.act.Act.TheVariants as act
use Rattle.directory_rules.specs.declared.held.Held.{Held}
use Rattle.directory_rules.specs.declared.held.Phase.{Phase}
use Rattle.directory_rules.specs.declared.held.Phase.TheVariants as phase
use Rattle.directory_rules.specs.State.{Host, Node}
use Rattle.directory_rules.specs.Host.{entry_of, act_in, held_acts, find_acts, outstanding, next_held, next_closing, with_started, with_closing, with_find, renewed, new_number_about, phase_renewed_about, held_renewed_about, renewed_about}
use Rattle.directory_rules.specs.Input.{Input, step}
use Rattle.directory_rules.specs.Laws.{AreNumbered}
use Rattle.directory_rules.specs.Step.{Stepped}
use Rattle.directory_rules.proofs.Cases.{on_bool}
use Rattle.directory_facts.proofs.EachStep.{by_way}
use Rattle.directory_facts.proofs.Emptied.{leaves_else}
use Rattle.directory_facts.proofs.Ways.{Ways}
use Rattle.progress_rules.specs.Owed.{Owes}
use Rattle.progress_rules.proofs.Answered.{only_one}
use Rattle.progress_rules.proofs.Filtered.{passed}
use Rattle.progress_rules.proofs.FindsSorted.{outstanding_has}
use Rattle.progress_rules.proofs.NudgedAgain.{IsRenewed, renewed_from}
use Rattle.progress_rules.proofs.Quiet.{acts, acts_same, more_acts, quiet_firm, owes_less, owes_unfound}

-- ---- one request more, or one under another number
-- the first of some
first_is : (a : ℕ × Act) (rest : List (ℕ × Act)) (x : ℕ × Act) → Contains (a ∷ rest) x → (a.0 ≡ x.0) ⊎ Contains rest x
first_is a rest x has =
    elim (Contains-append_cases (a ∷ []) rest x has)
    [ inl here ↦ inl (ap (λ (y : ℕ × Act). y.0) (only_one a x here)) | inr there ↦ inr there ]

in_front : (o : Option (ℕ × Act)) (rest more : List (ℕ × Act)) (x : ℕ × Act) (n : ℕ) → (Contains rest x → Contains more x ⊎ (n ≡ x.0))
    → Contains (cons_option o rest) x → Contains (cons_option o more) x ⊎ (n ≡ x.0)
in_front None rest more x n so has = so has
in_front (Some a) rest more x n so has =
    elim (Contains-append_cases (a ∷ []) rest x has) [
      | inl here ↦ inl (Contains-append_left (a ∷ []) more x here)
      | inr there ↦ elim (so there) [ inl old ↦ inl (Contains-append_right (a ∷ []) more x old) | inr new ↦ inr new ]
    ]

closing_acts : (host : Host) (test : Grain → Bool) (new : Held) (n : ℕ) → new.phase ≡ phase.Closing n
    → (held : List (Grain × Held)) (x : ℕ × Act) → Contains (acts host (set_value test held new)) x → Contains (acts host held) x
    ⊎ (n ≡ x.0)
closing_acts host test new n is [] x has = inl has
closing_acts host test new n is (e ∷ es) x has =
    on_bool (λ b. Contains (acts host (cond b ((e.0, new) ∷ es) (e ∷ set_value test es new))) x → Contains (acts host (e ∷ es)) x
    ⊎ (n ≡ x.0)) (test e.0)
    (λ t here. elim (first_is _ (acts host es) x (subst (λ (p : Phase). Contains (cons_option (act_in p host e.0 new) (acts host es)) x) is
    here)) [
      | inl same ↦ inr same
      | inr there ↦ inl (more_acts (act_in e.1.phase host e.0 e.1) (acts host es) x there)
    ])
    (λ f there. in_front (act_in e.1.phase host e.0 e.1) (acts host (set_value test es new)) (acts host es) x n
    (closing_acts host test new n is es x) there) has

-- ---- those about one grain under new numbers
one_or_more : (a : ℕ × Act) (rest more : List (ℕ × Act)) (x : ℕ × Act) (n : ℕ) → (Contains rest x → Contains more x ⊎ (n ≤ x.0))
    → Contains (a ∷ rest) x → Contains (a ∷ more) x ⊎ (n ≤ x.0)
one_or_more a rest more x n so has =
    elim (Contains-append_cases (a ∷ []) rest x has) [
      | inl here ↦ inl (Contains-append_left (a ∷ []) more x here)
      | inr there ↦ elim (so there) [ inl old ↦ inl (Contains-append_right (a ∷ []) more x old) | inr new ↦ inr new ]
    ]

module _ (host : Host) (grain : Grain) where
  abbrev next : ℕ
  next = host.next_number

  -- in front stands a request under a new number, or as it was
  renewed_first : (a b : ℕ × Act) (rest more : List (ℕ × Act)) (x : ℕ × Act) → next ≤ a.0
      → (Contains rest x → Contains more x ⊎ (next ≤ x.0)) → Contains (a ∷ rest) x → Contains (b ∷ more) x ⊎ (next ≤ x.0)
  renewed_first a b rest more x high so has =
      elim (first_is a rest x has) [
        | inl same ↦ inr (omega (arith, same, high))
        | inr there ↦ elim (so there) [ inl old ↦ inl (Contains-append_right (b ∷ []) more x old) | inr new ↦ inr new ]
      ]

  renewed_one : (its : Phase) (about : Bool) (other : Grain) (held : Held) (its_phase : Phase) (rest more : List (ℕ × Act)) (x : ℕ × Act)
      → (Contains rest x → Contains more x ⊎ (next ≤ x.0))
      → Contains (cons_option (act_in (if about then phase_renewed_about grain host its else its) host other
      (record held { phase = its_phase })) rest) x → Contains (cons_option (act_in its host other held) more) x ⊎ (next ≤ x.0)
  renewed_one (phase.Asking k) true other held its_phase rest more x so has =
      renewed_first (new_number_about grain host k, act.Register (entry_of host other held) held.previous)
      (k, act.Register (entry_of host other held) held.previous) rest more x (omega arith) so has
  renewed_one (phase.Asking k) false other held its_phase rest more x so has =
      one_or_more (k, act.Register (entry_of host other held) held.previous) rest more x next so has
  renewed_one phase.Firm true other held its_phase rest more x so has = so has
  renewed_one phase.Firm false other held its_phase rest more x so has = so has
  renewed_one (phase.Closing k) true other held its_phase rest more x so has =
      renewed_first (new_number_about grain host k, act.Deregister (entry_of host other held))
      (k, act.Deregister (entry_of host other held)) rest more x (omega arith) so has
  renewed_one (phase.Closing k) false other held its_phase rest more x so has =
      one_or_more (k, act.Deregister (entry_of host other held)) rest more x next so has

  pub renewed_acts : (held : List (Grain × Held)) (x : ℕ × Act)
      → Contains (acts host (map (λ e. (e.0, held_renewed_about grain host e.0 e.1)) held)) x → Contains (acts host held) x ⊎ (next ≤ x.0)
  renewed_acts [] x has = inl has
  renewed_acts (e ∷ es) x has =
      renewed_one e.1.phase (grain_eq e.0 grain) e.0 e.1 (held_renewed_about grain host e.0 e.1).phase
      (acts host (map (λ e. (e.0, held_renewed_about grain host e.0 e.1)) es)) (acts host es) x (renewed_acts es x) has

abbrev as_acts : List (ℕ × Grain) → List (ℕ × Act)
as_acts es = map (λ e. (e.0, act.Find e.1)) es

put_finds : (k : ℕ) (grain : Grain) (es : List (ℕ × Grain)) (x : ℕ × Act) → Contains (as_acts (insert_entry nat_cmp es k grain)) x
    → Contains (as_acts es) x ⊎ (k ≡ x.0)
put_finds k grain [] x has = inr (ap (λ (y : ℕ × Act). y.0) (only_one (k, act.Find grain) x has))
put_finds k grain (e ∷ es) x has = by (nat_cmp k e.0) refl (put_finds k grain es x) has
  where
    by : (o : Ordering) → nat_cmp k e.0 ≡ o → (Contains (as_acts (insert_entry nat_cmp es k grain)) x → Contains (as_acts es) x ⊎ (k ≡ x.0))
        → Contains (as_acts (match_ordering o ((k, grain) ∷ e ∷ es) ((e.0, grain) ∷ es) (e ∷ insert_entry nat_cmp es k grain))) x
        → Contains (as_acts (e ∷ es)) x ⊎ (k ≡ x.0)
    by Less is later has = elim (first_is (k, act.Find grain) (as_acts (e ∷ es)) x has) [ inl same ↦ inr same | inr there ↦ inl there ]
    by Equal is later has =
        elim (first_is (e.0, act.Find grain) (as_acts es) x has) [
          | inl same ↦ inr (exact_unsigned k e.0 is ∙ same)
          | inr there ↦ inl
              (Contains-append_right ((e.0, act.Find e.1) ∷ []) (as_acts es) x there)
        ]
    by Greater is later has = in_front (Some (e.0, act.Find e.1)) (as_acts (insert_entry nat_cmp es k grain)) (as_acts es) x k later has

-- some of the finds, and some under new numbers
module _ (f : ℕ → ℕ) (n : ℕ) (high : (k : ℕ) → n ≤ f k) where
  new_finds : (es : List (ℕ × Grain)) (x : ℕ × Act) → Contains (as_acts (map (λ e. (f e.0, e.1)) es)) x → n ≤ x.0
  new_finds [] x has = absurd (omega (arith, has.1))
  new_finds (e ∷ es) x has =
      elim (first_is (f e.0, act.Find e.1) (as_acts (map (λ e. (f e.0, e.1)) es)) x has)
      [ inl same ↦ let low = high e.0 in omega (arith, same, low) | inr there ↦ new_finds es x there ]

  renewed_finds : (finds left again : List (ℕ × Grain)) (x : ℕ × Act) → ((e : ℕ × Grain) → Contains left e → Contains finds e)
      → Contains (as_acts (left ++ map (λ e. (f e.0, e.1)) again)) x → Contains (as_acts finds) x ⊎ (n ≤ x.0)
  renewed_finds finds [] again x are has = inr (new_finds again x has)
  renewed_finds finds (e ∷ left) again x are has =
      elim (Contains-append_cases ((e.0, act.Find e.1) ∷ []) (as_acts (left ++ map (λ e. (f e.0, e.1)) again)) x has) [
        | inl here ↦ inl (subst (λ y. Contains (as_acts finds) y) (only_one (e.0, act.Find e.1) x here)
            (as_act finds e (are e (0, omega arith, refl))))
        | inr there ↦ renewed_finds finds left again x (λ y in_left. are y (Contains-append_right (e ∷ []) left y in_left)) there
      ]
    where
      as_act : (es : List (ℕ × Grain)) (y : ℕ × Grain) → Contains es y → Contains (as_acts es) (y.0, act.Find y.1)
      as_act [] y has = absurd (omega (arith, has.1))
      as_act (z ∷ es) y has =
          elim (Contains-append_cases (z ∷ []) es y has) [
            | inl here ↦ Contains-append_left ((z.0, act.Find z.1) ∷ []) (as_acts es) (y.0, act.Find y.1)
                (0, omega arith, ap (λ (w : ℕ × Grain). (w.0, act.Find w.1)) (only_one z y here))
            | inr there ↦ Contains-append_right ((z.0, act.Find z.1) ∷ []) (as_acts es) (y.0, act.Find y.1) (as_act es y there)
          ]

-- ---- from one host to the other
pub record AsksOn (before after : Host) : Type 0 where
  pub owes : AreNumbered after → (e : ℕ × Act) → Owes after e → Owes before e ⊎ (before.next_number ≤ e.0)
  pub rises : before.next_number ≤ after.next_number

module _ (node : Node) where
  abbrev h : Host
  h = node.host

  -- both kinds
  either : (one finds : List (ℕ × Act)) (x : ℕ × Act) → (Contains one x → Contains (held_acts h) x ⊎ (h.next_number ≡ x.0))
      → (Contains finds x → Contains (find_acts h) x ⊎ (h.next_number ≡ x.0)) → Contains (one ++ finds) x → Owes h x ⊎ (h.next_number ≤ x.0)
  either one finds x acts_so finds_so has =
      elim (Contains-append_cases one finds x has) [
        | inl here ↦ elim (acts_so here) [
          | inl old ↦ inl (Contains-append_left (held_acts h) (find_acts h) x old)
          | inr new ↦ inr
              (omega (arith, new))
        ]
        | inr there ↦ elim (finds_so there) [
          | inl old ↦ inl (Contains-append_right (held_acts h) (find_acts h) x old)
          | inr new ↦ inr
              (omega (arith, new))
        ]
      ]

  starts : (grain : Grain) (previous : Option ActivationId) → AsksOn h (with_started h grain previous)
  starts grain previous = record {
    owes = λ numbered x has.
        either (acts (with_started h grain previous) (with_started h grain previous).held) (find_acts h) x
        (λ here. elim (Contains-append_cases (held_acts h) (acts h ((grain, next_held h previous) ∷ [])) x
        (subst (λ l. Contains l x) (acts_same (with_started h grain previous) h refl (with_started h grain previous).held
        ∙ filter_map-append (λ (e : Grain × Held). act_in e.1.phase h e.0 e.1) h.held ((grain, next_held h previous) ∷ [])) here)) [
          | inl old ↦ inl old
          | inr new ↦ inr (ap (λ (y : ℕ × Act). y.0) (only_one _ x new))
        ]) (λ there. inl there) has;
    rises = omega arith;
  }

  closes : (grain : Grain) (held : Held) → AsksOn h (with_closing h grain held)
  closes grain held = record {
    owes = λ numbered x has.
        either (acts (with_closing h grain held) (with_closing h grain held).held) (find_acts h) x
        (λ here. closing_acts h (is_at (grain_cmp grain)) (next_closing h held) h.next_number refl h.held x
        (subst (λ l. Contains l x) (acts_same (with_closing h grain held) h refl (with_closing h grain held).held) here))
        (λ there. inl there) has;
    rises = omega arith;
  }

  finds : (grain : Grain) → AsksOn h (with_find h grain)
  finds grain = record {
    owes = λ numbered x has.
        either (acts (with_find h grain) h.held) (find_acts (with_find h grain)) x
        (λ here. inl (subst (λ l. Contains l x) (acts_same (with_find h grain) h refl h.held) here))
        (λ there. put_finds h.next_number grain h.finds x there) has;
    rises = omega arith;
  }

  nudges : AsksOn h (renewed h)
  nudges = record {
    owes =
        λ numbered x has. inr (All-contains (IsRenewed h) (outstanding (renewed h)) x (renewed_from h)
        (outstanding_has (renewed h) numbered x has)).0;
    rises = omega arith;
  }

  nudges_grain : (grain : Grain) → AsksOn h (renewed_about grain h)
  nudges_grain grain = record {
    owes = λ numbered x has.
        elim (Contains-append_cases (held_acts (renewed_about grain h)) (find_acts (renewed_about grain h)) x has) [
          | inl here ↦
              elim (renewed_acts h grain h.held x (subst (λ l. Contains l x)
              (acts_same (renewed_about grain h) h refl (renewed_about grain h).held) here)) [
                | inl old ↦ inl (Contains-append_left (held_acts h) (find_acts h) x old)
                | inr new ↦ inr new
              ]
          | inr there ↦
              elim (renewed_finds (new_number_about grain h) h.next_number (λ k. omega arith) h.finds
              (filter (λ e. not (grain_eq e.1 grain)) h.finds) (filter (λ e. grain_eq e.1 grain) h.finds) x
              (λ e left. (passed (λ (y : ℕ × Grain). not (grain_eq y.1 grain)) h.finds e left).0) there) [
                | inl old ↦ inl (Contains-append_right (held_acts h) (find_acts h) x old)
                | inr new ↦ inr new
              ]
        ];
    rises = omega arith;
  }

  same : (after : Host) → ((x : ℕ × Act) → Owes after x → Owes h x) → h.next_number ≤ after.next_number → AsksOn h after
  same after fewer rises = record { owes = λ numbered x has. inl (fewer x has); rises = rises }

  abbrev Asks : Input → Stepped → Type 0
  Asks input stepped = stepped.node.view ≡ node.view → AsksOn h stepped.node.host

  ways : Ways node Asks
  ways = record {
    nothing = λ input its plain seen. same h (λ x has. has) (omega arith);
    sees =
        λ before view places newer numbers seen. let version = ap (λ (v : ViewValue). v.version) seen in
        absurd (omega (arith, version, newer));
    wakes = λ grain may seen. starts grain None;
    closes = λ grain held may seen. closes grain held;
    cancels = λ grain held may seen. closes grain held;
    offers = λ grain held to may active other seen. closes grain held;
    uses_hint = λ grain activation hint seen. same h (λ x has. has) (omega arith);
    finds = λ grain room numbers seen. finds grain;
    forgets = λ grain activation hint seen. same h (λ x has. has) (omega arith);
    nudges = λ numbers seen. nudges;
    nudges_grain = λ grain numbers seen. nudges_grain grain;
    nudges_ranges = λ seen. same h (λ x has. has) (omega arith);
    answers = λ letter request body sender version seen. same h (λ x has. has) (omega arith);
    confirms = λ letter number entry e is there seen. same _ (quiet_firm node e).owes (omega arith);
    yields = λ letter number entry e is there seen. same _ (owes_less node e.0) (omega arith);
    removes = λ letter number e is there seen. same _ (owes_less node e.0) (omega arith);
    misses = λ letter number e is there seen. same _ (owes_less node e.0) (omega arith);
    learns = λ letter number entry is there seen. same _ (owes_unfound node number) (omega arith);
    notes = λ letter number is there seen. same _ (owes_unfound node number) (omega arith);
    hands = λ letter range number page body is seen. same h (λ x has. has) (omega arith);
    lacks = λ letter range number body is seen. same h (λ x has. has) (omega arith);
    forgoes = λ letter range body there seen. same h (λ x has. has) (omega arith);
    lags = λ letter range seen. same h (λ x has. has) (omega arith);
    passed = λ letter range seen. same h (λ x has. has) (omega arith);
    reports = λ letter range after body now seen. same h (λ x has. has) (omega arith);
    gathers = λ letter page gathering taken is seen. same h (λ x has. has) (omega arith);
    installs = λ letter page entries taken is seen. same h (λ x has. has) (omega arith);
    drops = λ letter page left taken is seen. same h (λ x has. has) (omega arith);
    turns = λ letter range piece body its awaits seen. same h (λ x has. has) (omega arith);
    continues = λ letter report recovery taken is seen. same h (λ x has. has) (omega arith);
    collects = λ letter report recovery taken is seen. same h (λ x has. has) (omega arith);
    completes = λ letter report table taken is seen. same h (λ x has. has) (omega arith);
    surveys = λ letter first others body now seen. same h (λ x has. has) (omega arith);
    empties = λ letter ranges its body plain seen.
        subst (λ (after : Host). AsksOn h after) (sym (leaves_else letter node ranges).host) (same h (λ x has. has) (omega arith));
    takes_over = λ letter entry body now may seen. starts entry.grain (Some entry.activation);
  }

  pub asks_on : (input : Input) (stepped : Stepped) → step node input ≡ Ok stepped → Asks input stepped
  asks_on input stepped is = by_way node Asks ways input stepped is

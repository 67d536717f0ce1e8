-- What is firm stays firm at every step but its application's and its silo's death.
use Rattle.std.proofs.Common.{arith, ◌≡◌, ◌≢◌, ℕ, Bool, true, false, List, [], ◌∷◌, ◌⊎◌, inl, inr, Option, Some, None, Result, Ok, Err, length, refl, sym, ap, ◌∙◌, subst}
use Rattle.std.specs.Prelude.{◌&&◌, ◌||◌, cond, not, nat_lt}
use Rattle.std.specs.Map.{lookup}
use Rattle.std.specs.Option.{option_map}
use Rattle.std.specs.BTreeMap.{is_at, insert_entry}
use Rattle.std.proofs.lemmas.Bool.{and_right}
use Rattle.std.proofs.lemmas.Bool.Decides.{nat_tests}
use Rattle.silo_address.specs.Silo.{Silo, IsSilo, silo_cmp}
use Rattle.silo_address.specs.Grain.{Grain}
use Rattle.silo_address.proofs.Order.{silo_cmp_total, silo_cmp_exact}
use Rattle.silo_address.proofs.Same.{Decides-endpoint}
use Rattle.membership_view.specs.declared.row.Row.{Row}
use Rattle.membership_view.specs.declared.status.Status.{Status}
use Rattle.membership_view.specs.View.{shares_endpoint}
use Rattle.membership_view.specs.Changes.{is_newest, with_join}
use Rattle.membership_view.specs.Views.{ViewsValue, status_at}
use Rattle.membership_view.specs.Whole.{IsViews}
use Rattle.membership_view.proofs.Kept.{has_row}
use Rattle.directory_rules.proofs.Cases.{on_bool}
use Rattle.directory_rules.specs.Laws.{is_live}
use Rattle.directory_facts.proofs.Entries.{same_key}
use Rattle.directory_facts.proofs.Lookups.{found_put, found_beside_put, found_beside_removed}
use Rattle.directory_rules.specs.Membership.{Change, Join, Leave, Die, Membership, changed, joined}
use Rattle.deployment_headline.specs.Deployment.{Deployment, process_of}
use Rattle.deployment_headline.specs.Steps as deployment
use Rattle.deployment_headline.proofs.Lists.{lookup-over}
use Rattle.process_rules.specs.Output.{said}
use Rattle.process_deployment.specs.Allowed.{May}
use Rattle.process_deployment.specs.Cluster.{Process, started, answer_to, having_read, reads, Cluster, first_cluster, process_at}
use Rattle.process_deployment.specs.Firm.{HasFirm, AsksToEnd, TellsFirm, HasItFirm, IsItsEnd, FirmStays}
use Rattle.process_deployment.specs.Steps.{Decide, Read, dying, without, with_started, decided, read_by, reading, after, after_all}
use Rattle.process_deployment.proofs.Ended.{peopled}
use Rattle.process_deployment.proofs.Firm.{lines_tell_firm}
use Rattle.process_deployment.proofs.Following.{WrittenReadAsThemselves, its_silo, follows_all, follows_first}
use Rattle.process_deployment.proofs.Started.{same_or_other}

-- ---- a silo that joined doesn't join again
own_row_is_newer : (silo : Silo) → (not (shares_endpoint silo silo) || nat_lt silo.generation silo.generation) ≡ false
own_row_is_newer silo =
    let shares : shares_endpoint silo silo ≡ true = (Decides-endpoint (shares_endpoint silo silo) silo.ip silo.ip silo.port silo.port refl).1 (refl, refl) in
    let low : nat_lt silo.generation silo.generation ≡ false = grind (arith, nat_tests) in
    ap (λ b. not b || nat_lt silo.generation silo.generation) shares ∙ low

no_newest : (silo : Silo) (rows : List (Silo × Row)) (row : Row) → lookup (is_at (silo_cmp silo)) rows ≡ Some row
    → is_newest silo rows ≡ false
no_newest silo [] row found = absurd (cc found)
no_newest silo (e ∷ rows) row found =
    on_bool (λ b. is_at (silo_cmp silo) e.0 ≡ b → cond b (Some e.1) (lookup (is_at (silo_cmp silo)) rows) ≡ Some row
    → is_newest silo (e ∷ rows) ≡ false) (is_at (silo_cmp silo) e.0)
    (λ t is its.
    let same : silo ≡ e.0 = same_key silo_cmp silo_cmp_exact silo e.0 is in
    let older : (not (shares_endpoint silo e.0) || nat_lt e.0.generation silo.generation) ≡ false = subst (λ (other : Silo). (not (shares_endpoint silo other) || nat_lt other.generation silo.generation) ≡ false) same (own_row_is_newer silo) in
    ap (λ b. b && is_newest silo rows) older)
    (λ f is its. and_right (not (shares_endpoint silo e.0) || nat_lt e.0.generation silo.generation) (is_newest silo rows)
    (no_newest silo rows row its)) refl found

not_again : (m next : Membership) (c : Cluster) (silo : Silo) (stated : List ℕ) (row : Row)
    → lookup (is_at (silo_cmp silo)) m.views.rows ≡ Some row → changed c.settings m (Join silo stated) ≡ Ok next → ⊥
not_again m next c silo stated row found is =
    let refused : changed c.settings m (Join silo stated) ≡ Err 201 =
    ap (λ b. joined (cond {A = Result ViewsValue ℕ} (not b) (Err 201)
    (cond (not (nat_lt (length m.views.rows) m.views.limit)) (Err 205) (Ok (with_join m.views silo)))) c.settings m.places silo stated)
    (no_newest silo m.views.rows row found) in
    cc (refused, is)

live_has_row : (views : ViewsValue) → IsViews views → (silo : Silo) (o : Option Status) → status_at views views.version silo ≡ o
    → is_live o ≡ true → (row : Row) × (lookup (is_at (silo_cmp silo)) views.rows ≡ Some row)
live_has_row views whole silo None is live = absurd (cc live)
live_has_row views whole silo (Some status) is live = let has = has_row views whole silo status is in (has.row, has.found)

-- ---- a line
reads_firm : (p : Process) (line : List ℕ) (grain : Grain) (count : ℕ) → HasFirm p.silo grain count
    → TellsFirm p.silo (said line p.silo) (answer_to line p) → HasFirm (reads line p).silo grain count ⊎ AsksToEnd grain (said line p.silo)
reads_firm p line grain count firm tells = by p.ended
  where
    by : (ended : Bool) → HasFirm (cond ended p (having_read line (answer_to line p) p)).silo grain count
        ⊎ AsksToEnd grain (said line p.silo)
    by true = inl firm
    by false = tells.stays grain count firm

module _ (c : Cluster) (silo : Silo) (grain : Grain) (count : ℕ) (p : Process) (there : process_at silo c.processes ≡ Some p)
    (firm : HasFirm p.silo grain count) where
  abbrev Still : List (Silo × Process) → Type 0
  Still processes = (q : Process) × (process_at silo processes ≡ Some q) × HasFirm q.silo grain count

  read_on : (its : Silo) (line : List ℕ) → ((silo ≡ its) → TellsFirm p.silo (said line p.silo) (answer_to line p))
      → Still (reading its line c.processes) ⊎ ((its ≡ silo) × AsksToEnd grain (said line p.silo))
  read_on its line tells = by (same_or_other silo its)
    where
      put : its ≡ silo → HasFirm (reads line p).silo grain count ⊎ AsksToEnd grain (said line p.silo)
          → Still (insert_entry silo_cmp c.processes its (reads line p)) ⊎ ((its ≡ silo) × AsksToEnd grain (said line p.silo))
      put same (inl still) =
          inl (
            reads line p,
            subst (λ key. process_at key (insert_entry silo_cmp c.processes its (reads line p)) ≡ Some (reads line p)) same
                (found_put silo_cmp silo_cmp_total silo_cmp_exact its (reads line p) c.processes),
            still,
          )
      put same (inr ends) = inr (same, ends)

      beside : (o : Option Process) → process_at its c.processes ≡ o → silo ≢ its → Still (read_by o its line c.processes)
      beside None found apart = (p, there, firm)
      beside (Some q) found apart =
          (p, found_beside_put silo_cmp silo_cmp_total silo_cmp_exact its (reads line q) c.processes silo apart ∙ there, firm)

      by : (silo ≡ its) ⊎ (silo ≢ its) → Still (reading its line c.processes) ⊎ ((its ≡ silo) × AsksToEnd grain (said line p.silo))
      by (inl same) =
          let found : process_at its c.processes ≡ Some p = ap (λ key. process_at key c.processes) (sym same) ∙ there in
          subst (λ o. Still (read_by o its line c.processes) ⊎ ((its ≡ silo) × AsksToEnd grain (said line p.silo))) (sym found)
          (put (sym same) (reads_firm p line grain count firm (tells same)))
      by (inr apart) = inl (beside (process_at its c.processes) refl apart)

  -- ---- a change
  still_there : (old : Option Silo) → ¬ (old ≡ Some silo) → process_at silo (without old c.processes) ≡ Some p
  still_there None never = there
  still_there (Some other) never =
      found_beside_removed silo_cmp silo_cmp_total silo_cmp_exact other c.processes silo (λ same. never (ap Some (sym same))) ∙ there

  beside_started : (change : Change) (processes : List (Silo × Process)) → ((stated : List ℕ) → ¬ (change ≡ Join silo stated))
      → process_at silo processes ≡ Some p → process_at silo (with_started c.settings c.tokens change processes) ≡ Some p
  beside_started (Join who stated) processes never found =
      found_beside_put silo_cmp silo_cmp_total silo_cmp_exact who (started c.settings c.tokens who) processes silo
      (λ same. never stated (ap (λ s. Join s stated) (sym same))) ∙ found
  beside_started (Leave who) processes never found = found
  beside_started (Die who) processes never found = found

  dies_or_not : (old : Option Silo) → (old ≡ Some silo) ⊎ (¬ (old ≡ Some silo))
  dies_or_not None = inr (λ same. cc same)
  dies_or_not (Some other) = by (same_or_other other silo)
    where
      by : (other ≡ silo) ⊎ (other ≢ silo) → (Some other ≡ Some silo) ⊎ (¬ (Some other ≡ Some silo))
      by (inl same) = inl (ap Some same)
      by (inr apart) = inr (λ same. apart (cc same))

  decide_on : (change : Change) (r : Result Membership ℕ) → changed c.settings c.membership change ≡ r
      → ((stated : List ℕ) (m : Membership) → changed c.settings c.membership (Join silo stated) ≡ Ok m → ⊥)
      → Still (decided r c change).processes ⊎ (dying c.membership change ≡ Some silo)
  decide_on change (Err number) is never = inl (p, there, firm)
  decide_on change (Ok m) is never = by (dies_or_not (dying c.membership change))
    where
      by : (dying c.membership change ≡ Some silo) ⊎ (¬ (dying c.membership change ≡ Some silo)) → Still (decided (Ok m) c change).processes
          ⊎ (dying c.membership change ≡ Some silo)
      by (inl dies) = inr dies
      by (inr lives) =
          inl (
            p,
            beside_started change (without (dying c.membership change) c.processes)
                (λ stated same. never stated m (ap (λ (x : Change). changed c.settings c.membership x) (sym same) ∙ is))
                (still_there (dying c.membership change) lives),
            firm,
          )

pub firm_stays : WrittenReadAsThemselves → FirmStays
unfolding after May
firm_stays themselves settings tokens steps are may (Read its line) silo grain count allowed has =
    let c = after_all (first_cluster settings tokens) steps in
    let p = has.process in
    by (read_on c silo grain count p has.there has.firm its line
    (λ same. lines_tell_firm themselves settings tokens steps are may silo p line (subst IsSilo (sym same) allowed.0) has.there))
  where
    by : Still (after_all (first_cluster settings tokens) steps) silo grain count has.process has.there has.firm
        (reading its line (after_all (first_cluster settings tokens) steps).processes)
        ⊎ ((its ≡ silo) × AsksToEnd grain (said line has.process.silo))
        → HasItFirm (after (after_all (first_cluster settings tokens) steps) (Read its line)) silo grain count
        ⊎ IsItsEnd (after_all (first_cluster settings tokens) steps) (Read its line) silo has.process.silo grain
    by (inl still) = inl (record { process = still.0; there = still.1; firm = still.2 })
    by (inr ends) = inr ends
firm_stays themselves settings tokens steps are may (Decide change) silo grain count allowed has =
    let c = after_all (first_cluster settings tokens) steps in
    let p = has.process in
    let f = follows_all themselves (first_cluster settings tokens) (follows_first themselves settings tokens are) steps may in
    let found : process_of (deployment.deployed c.settings f.steps) silo ≡ Some p.silo =
    ap (λ d. process_of d silo) f.same ∙ lookup-over its_silo (is_at (silo_cmp silo)) c.processes ∙ ap (option_map its_silo) has.there in
    let its = subst (λ (d : Deployment). IsViews d.membership.views × (is_live (status_at d.membership.views d.membership.views.version silo) ≡ true)) f.same (peopled c.settings f.steps f.are f.named silo p.silo found) in
    let row = live_has_row c.membership.views its.0 silo (status_at c.membership.views c.membership.views.version silo) refl its.1 in
    by (decide_on c silo grain count p has.there has.firm change (changed c.settings c.membership change) refl
    (λ stated m is. not_again c.membership m c silo stated row.0 row.1 is))
  where
    by : Still (after_all (first_cluster settings tokens) steps) silo grain count has.process has.there has.firm
        (after (after_all (first_cluster settings tokens) steps) (Decide change)).processes
        ⊎ (dying (after_all (first_cluster settings tokens) steps).membership change ≡ Some silo)
        → HasItFirm (after (after_all (first_cluster settings tokens) steps) (Decide change)) silo grain count
        ⊎ IsItsEnd (after_all (first_cluster settings tokens) steps) (Decide change) silo has.process.silo grain
    by (inl still) = inl (record { process = still.0; there = still.1; firm = still.2 })
    by (inr dies) = inr dies

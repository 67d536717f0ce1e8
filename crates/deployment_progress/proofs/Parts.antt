-- A nudge of a part, of a silo's process.
use Rattle.std.proofs.Common.{arith, ◌≡◌, ℕ, suc, List, refl, sym, ap, ◌∙◌, length}
use Rattle.std.specs.Prelude.{All, Option, Some, None, Result, Ok}
use Rattle.std.specs.Option.{option_map}
use Rattle.std.specs.Map.{lookup}
use Rattle.std.specs.BTreeMap.{is_at, insert_entry}
use Rattle.silo_address.specs.Silo.{Silo, silo_cmp, silo_eq}
use Rattle.silo_address.proofs.Order.{silo_cmp_total, silo_cmp_exact}
use Rattle.silo_address.proofs.Same.{Decides-silo}
use Rattle.directory_rules.specs.declared.own_step.OwnStep.TheVariants.{NudgeGrain, NudgeRanges}
use Rattle.directory_rules.specs.Settings.{Settings, AreSettings}
use Rattle.directory_rules.specs.Happens.{node_of}
use Rattle.directory_rules.specs.State.{World}
use Rattle.directory_rules.specs.Run.{run_from_start}
use Rattle.directory_rules.specs.Step.{Stepped, nudge_ranges}
use Rattle.directory_rules.specs.Input.{Does, step}
use Rattle.directory_rules.proofs.Cases.{on_bool}
use Rattle.directory_rules.proofs.Numbered.{Numbered}
use Rattle.directory_facts.proofs.Lookups.{found_put, found_beside_put}
use Rattle.directory_facts.proofs.Reached.{everywhere, found_node}
use Rattle.silo_rules.specs.SiloValue.{SiloValue}
use Rattle.silo_rules.specs.Steps.{barred, unless_barred}
use Rattle.progress_rules.proofs.FindsSorted.{sorted_facts, sorted_keep}
use Rattle.progress_rules.proofs.Parts.{grain_nudge_leaves}
use Rattle.deployment_headline.specs.Deployment.{Deployment, process_of}
use Rattle.deployment_headline.specs.Limits.{with_room, process_with_room}
use Rattle.deployment_headline.specs.Steps.{Step, IsStep, does_at, took, after, deployed}
use Rattle.deployment_headline.proofs.Lists.{over, lookup-over}
use Rattle.deployment_headline.proofs.Runs.{made_so}
use Rattle.deployment_headline.proofs.Worlds.{its_node}
use Rattle.deployment_progress.specs.Parts.{GrainNudgesLeaveOthers, ChangesNoProcess, RangeNudgesChangeNoProcess}

unbarred : (o : Option ℕ) (outcome : Result Stepped ℕ) (it : Stepped) → unless_barred o outcome ≡ Ok it → outcome ≡ Ok it
unbarred None outcome it is = is
unbarred (Some number) outcome it is = absurd (cc is)

-- ---- the numbers of a process's requests
module _ (settings : Settings) (steps : List Step) (are : AreSettings settings) (named : All IsStep steps) where
  abbrev d : Deployment
  d = deployed settings steps

  abbrev most : ℕ
  most = suc (length steps)

  abbrev letters : ℕ
  letters = suc (length d.written)

  numbered : (silo : Silo) (s : SiloValue) → process_of d silo ≡ Some s → Numbered s.node.host
  numbered silo s there =
      let all = made_so settings steps are named most letters (omega arith) (omega arith) in
      let test = is_at (silo_cmp silo) in
      let found : lookup test (over its_node (over (process_with_room most letters) d.processes)) ≡ Some (process_with_room most letters s).node =
      lookup-over its_node test (over (process_with_room most letters) d.processes)
      ∙ ap (option_map its_node) (lookup-over (process_with_room most letters) test d.processes
      ∙ ap (option_map (process_with_room most letters)) there) in
      let facts = everywhere sorted_facts sorted_keep (with_room most letters settings) all.events tt (λ k other below. tt) in
      (found_node sorted_facts (run_from_start (with_room most letters settings) all.events).world silo
      (process_with_room most letters s).node facts (ap (λ (w : World). node_of w silo) all.is ∙ found)).0

pub grain_nudges_leave_others : GrainNudgesLeaveOthers
grain_nudges_leave_others settings steps are named silo s grain nudged there is =
    grain_nudge_leaves s.node grain nudged (numbered settings steps are named silo s there)
    (unbarred (barred s) (step s.node (Does (NudgeGrain grain))) nudged is)

-- ---- ranges
same_put : (d : Deployment) (silo : Silo) (s : SiloValue) → process_of d silo ≡ Some s → (other : Silo)
    → lookup (is_at (silo_cmp other)) (insert_entry silo_cmp d.processes silo s) ≡ process_of d other
same_put d silo s there other =
    on_bool (λ b. silo_eq other silo ≡ b → lookup (is_at (silo_cmp other)) (insert_entry silo_cmp d.processes silo s) ≡ process_of d other)
    (silo_eq other silo)
    (λ t is.
    let same = (Decides-silo other silo).0 is in
    ap (λ q. lookup (is_at (silo_cmp q)) (insert_entry silo_cmp d.processes silo s)) same
    ∙ found_put silo_cmp silo_cmp_total silo_cmp_exact silo s d.processes ∙ sym there ∙ ap (process_of d) (sym same))
    (λ f is. found_beside_put silo_cmp silo_cmp_total silo_cmp_exact silo s d.processes other
    (λ same. let it = (Decides-silo other silo).1 same in cc (it, is)))
    refl

by_outcome : (d : Deployment) (silo : Silo) (s : SiloValue) → process_of d silo ≡ Some s → (o : Option ℕ)
    → ChangesNoProcess d (took (unless_barred o (Ok (nudge_ranges s.node))) d silo s)
by_outcome d silo s there None = record { membership = refl; processes = same_put d silo s there }
by_outcome d silo s there (Some number) = record { membership = refl; processes = λ other. refl }

by_process : (d : Deployment) (silo : Silo) (o : Option SiloValue) → process_of d silo ≡ o
    → ChangesNoProcess d (does_at o d silo (Does NudgeRanges))
by_process d silo None there = record { membership = refl; processes = λ other. refl }
by_process d silo (Some s) there = by_outcome d silo s there (barred s)

pub range_nudges_change_no_process : RangeNudgesChangeNoProcess
unfolding after
range_nudges_change_no_process d silo = by_process d silo (process_of d silo) refl

-- Each process of a deployment is whole: what it has seen, it was told.
use Rattle.std.proofs.Common.{◌≡◌, ℕ, ◌+◌, List, [], ◌∷◌, refl, sym, subst}
use Rattle.std.specs.Prelude.{All, slice_get, nat_le, if◌then◌else◌, Option, Some, None, Result, Ok, Err}
use Rattle.std.specs.BTreeMap.{is_at, insert_entry}
use Rattle.std.proofs.lemmas.List.Elements.{All-nil}
use Rattle.silo_address.specs.Silo.{Silo, silo_cmp}
use Rattle.silo_address.proofs.Order.{silo_cmp_exact}
use Rattle.membership_view.specs.Changes.{occupant}
use Rattle.directory_rules.specs.Settings.{Settings, AreSettings}
use Rattle.directory_rules.specs.Input.{Input, Does}
use Rattle.directory_rules.specs.State.{Letter}
use Rattle.directory_rules.specs.Step.{Stepped}
use Rattle.directory_facts.proofs.Entries.{all_put, all_removed, found_so}
use Rattle.directory_rules.specs.Membership.{Change, Join, Leave, Die, Membership, changed, listing_of}
use Rattle.directory_rules.proofs.Cases.{on_bool}
use Rattle.silo_rules.specs.Begun.{told_view}
use Rattle.silo_rules.specs.NodeInputs.{IsNoSight}
use Rattle.silo_rules.specs.SiloValue.{SiloValue, first_silo}
use Rattle.silo_rules.specs.Steps.{does, sees, receives}
use Rattle.silo_rules.specs.Told.{Heard, told}
use Rattle.silo_rules.specs.Whole.{IsWhole}
use Rattle.silo_rules.proofs.Lawful.{stays_whole}
use Rattle.deployment_headline.specs.Deployment.{Deployment, first_deployment, process_of}
use Rattle.deployment_headline.specs.Steps.{Step, Decide, Tell, Begin, See, Do, Receive, without, processes_after, decided, heard, begins, took, tells, tells_at, begins_at, does_at, sees_at, delivers, receives_at, after, after_all}
use Rattle.deployment_headline.proofs.Sound.{Sound, keeps}

abbrev IsWholeAt : Silo × SiloValue → Type 0
IsWholeAt e = IsWhole e.1

abbrev pub AreWholes : Deployment → Type 0
AreWholes d = All IsWholeAt d.processes

module _ (d : Deployment) (are : AreSettings d.settings) (wholes : AreWholes d) where
  pub its_whole : (silo : Silo) (s : SiloValue) → process_of d silo ≡ Some s → IsWhole s
  its_whole silo s there = (found_so IsWholeAt (is_at (silo_cmp silo)) s d.processes wholes there).2

  put : (silo : Silo) (s : SiloValue) → IsWhole s → All IsWholeAt (insert_entry silo_cmp d.processes silo s)
  put silo s is = all_put silo_cmp silo_cmp_exact IsWholeAt silo s d.processes wholes is

  without_whole : (old : Option Silo) → All IsWholeAt (without old d.processes)
  without_whole None = wholes
  without_whole (Some silo) = all_removed IsWholeAt (is_at (silo_cmp silo)) d.processes wholes

  processes_whole : (c : Change) → All IsWholeAt (processes_after d c)
  processes_whole (Join silo stated) =
      let old = occupant silo d.membership.views.rows in
      all_put silo_cmp silo_cmp_exact IsWholeAt silo (first_silo d.settings silo) (without old d.processes) (without_whole old)
      (stays_whole.first d.settings silo are)
  processes_whole (Leave silo) = wholes
  processes_whole (Die silo) = without_whole (Some silo)

  decided_whole : (c : Change) (r : Result Membership ℕ) → AreWholes (decided r d c)
  decided_whole c (Err number) = wholes
  decided_whole c (Ok m) = processes_whole c

  took_whole : (silo : Silo) (s : SiloValue) (r : Result Stepped ℕ)
      → ((stepped : Stepped) → r ≡ Ok stepped → IsWhole (record s { node = stepped.node })) → AreWholes (took r d silo s)
  took_whole silo s (Err number) so = wholes
  took_whole silo s (Ok stepped) so = put silo (record s { node = stepped.node }) (so stepped refl)

  heard_whole : (silo : Silo) (s : SiloValue) (r : Result Heard ℕ)
      → ((its : Heard) → r ≡ Ok its → IsWhole (record s { membership = its.membership })) → AreWholes (heard r d silo s)
  heard_whole silo s (Err number) so = wholes
  heard_whole silo s (Ok its) so = put silo (record s { membership = its.membership }) (so its refl)

  tells_whole : (silo : Silo) (s : SiloValue) (index : ℕ) (o : Option Change) → process_of d silo ≡ Some s
      → AreWholes (tells o d silo s index)
  tells_whole silo s index None there = wholes
  tells_whole silo s index (Some c) there =
      heard_whole silo s (told s.node.settings s.membership (index + 1) c)
      (λ its is. stays_whole.tells s (index + 1) c its (its_whole silo s there) is)

  tells_at_whole : (silo : Silo) (index : ℕ) (o : Option SiloValue) → process_of d silo ≡ o → AreWholes (tells_at o d silo index)
  tells_at_whole silo index None there = wholes
  tells_at_whole silo index (Some s) there = tells_whole silo s index (slice_get d.changes index) there

  begins_whole : (silo : Silo) (s : SiloValue) (r : Result Membership ℕ)
      → ((its : Membership) → r ≡ Ok its → IsWhole (record s { membership = its })) → AreWholes (begins r d silo s)
  begins_whole silo s (Err number) so = wholes
  begins_whole silo s (Ok its) so = put silo (record s { membership = its }) (so its refl)

  begins_at_whole : (silo : Silo) (version : ℕ) (o : Option SiloValue) → process_of d silo ≡ o → AreWholes (begins_at o d silo version)
  begins_at_whole silo version None there = wholes
  begins_at_whole silo version (Some s) there =
      on_bool (λ b. AreWholes (if b then
      begins (told_view s.node.settings s.membership silo version (listing_of d.membership version)) d silo s else d))
      (nat_le version d.membership.views.version)
      (λ t. begins_whole silo s (told_view s.node.settings s.membership silo version (listing_of d.membership version))
      (λ its is. stays_whole.begins s silo version (listing_of d.membership version) its (its_whole silo s there) is)) (λ f. wholes)

  sees_at_whole : (silo : Silo) (version : ℕ) (o : Option SiloValue) → process_of d silo ≡ o → AreWholes (sees_at o d silo version)
  sees_at_whole silo version None there = wholes
  sees_at_whole silo version (Some s) there =
      took_whole silo s (sees s version) (λ stepped is. stays_whole.sees_so s version stepped (its_whole silo s there) is)

  does_at_whole : (silo : Silo) (input : Input) → IsNoSight input → (o : Option SiloValue) → process_of d silo ≡ o
      → AreWholes (does_at o d silo input)
  does_at_whole silo input plain None there = wholes
  does_at_whole silo input plain (Some s) there =
      took_whole silo s (does s input) (λ stepped is. stays_whole.does_so s input stepped plain (its_whole silo s there) is)

  delivers_whole : (silo : Silo) (s : SiloValue) (o : Option Letter) → process_of d silo ≡ Some s → AreWholes (delivers o d silo s)
  delivers_whole silo s None there = wholes
  delivers_whole silo s (Some letter) there =
      took_whole silo s (receives s letter) (λ stepped is. stays_whole.receives_so s letter stepped (its_whole silo s there) is)

  receives_at_whole : (silo : Silo) (index : ℕ) (o : Option SiloValue) → process_of d silo ≡ o → AreWholes (receives_at o d silo index)
  receives_at_whole silo index None there = wholes
  receives_at_whole silo index (Some s) there = delivers_whole silo s (slice_get d.written index) there

  whole_after : (step : Step) → AreWholes (after d step)
  unfolding after
  whole_after (Decide c) = decided_whole c (changed d.settings d.membership c)
  whole_after (Tell silo index) = tells_at_whole silo index (process_of d silo) refl
  whole_after (Begin silo version) = begins_at_whole silo version (process_of d silo) refl
  whole_after (See silo version) = sees_at_whole silo version (process_of d silo) refl
  whole_after (Do silo step) = does_at_whole silo (Does step) tt (process_of d silo) refl
  whole_after (Receive silo index) = receives_at_whole silo index (process_of d silo) refl

pub wholes_after : (d : Deployment) → Sound d → AreSettings d.settings → AreWholes d → (steps : List Step) → AreWholes (after_all d steps)
unfolding after_all
wholes_after d sound are wholes [] = wholes
wholes_after d sound are wholes (step ∷ steps) =
    let one = keeps d sound step in
    wholes_after (after d step) one.sound (subst AreSettings (sym one.settings) are) (whole_after d are wholes step) steps

pub wholes_first : (settings : Settings) → AreWholes (first_deployment settings)
wholes_first settings = All-nil IsWholeAt

-- What every step keeps: what processes were told leads to what was decided.
use Rattle.std.proofs.Common.{arith, ◌≡◌, ℕ, suc, ◌+◌, ◌≤◌, List, [], ◌∷◌, ◌++◌, length, length-append, refl, sym, ap, ◌∙◌, subst, drop}
use Rattle.std.specs.Prelude.{◌==◌, Bool, true, false, not, nat_le, nat_lt, slice_get, if◌then◌else◌, All, IfOk, Option, Some, None, Result, Ok, Err}
use Rattle.std.specs.Map.{keys_of}
use Rattle.std.specs.List.Sorted.{IsStrictlySortedBy}
use Rattle.std.specs.BTreeMap.{is_at, insert_entry}
use Rattle.std.proofs.lemmas.Bool.{eqb-true, leb-true}
use Rattle.std.proofs.lemmas.List.Elements.{All-nil, All-weaker}
use Rattle.std.proofs.lemmas.List.{drop-append-le}
use Rattle.silo_address.specs.Silo.{Silo, silo_cmp, silo_eq}
use Rattle.silo_address.proofs.Order.{silo_cmp_total, silo_cmp_exact}
use Rattle.membership_view.specs.Changes.{occupant}
use Rattle.texts.proofs.Entries.{sorted-insert_entry, sorted-remove_entry}
use Rattle.directory_rules.specs.declared.effect.Effect.TheVariants.{Ignored}
use Rattle.directory_rules.specs.Settings.{Settings}
use Rattle.directory_rules.specs.State.{Letter}
use Rattle.directory_rules.specs.Step.{Stepped, silently}
use Rattle.directory_rules.specs.Input.{Input, Does, Receives, step, sight_of}
use Rattle.directory_facts.proofs.Entries.{all_put, all_removed, found_so, same_key}
use Rattle.silo_rules.specs.declared.news.News.TheVariants.{Known}
use Rattle.silo_rules.specs.Known.{is_before, is_known}
use Rattle.silo_rules.specs.Begun.{told_view}
use Rattle.directory_rules.specs.Membership.{Change, Join, Leave, Die, Membership, first_membership, changed, replaced_by, is_seeable, listing_of}
use Rattle.silo_rules.specs.SiloValue.{SiloValue, first_silo}
use Rattle.silo_rules.specs.Steps.{barred, unless_barred, seen, sees, does, receives}
use Rattle.silo_rules.specs.Told.{Heard, heard_by, told}
use Rattle.silo_rules.proofs.Own.{StaysOwn, stays_own}
use Rattle.silo_rules.proofs.Whole.{Are, made}
use Rattle.deployment_headline.specs.Deployment.{Deployment, first_deployment, process_of}
use Rattle.deployment_headline.specs.Steps.{Step, Decide, Tell, Begin, See, Do, Receive, without, processes_after, decided, heard, begins, begins_at, took, tells, tells_at, does_at, sees_at, delivers, receives_at, after}
use Rattle.deployment_headline.proofs.Lists.{rest_begins}
use Rattle.deployment_headline.proofs.Mirrors.{Mirrors, mirrors_itself}
use Rattle.deployment_headline.proofs.MirrorChanges.{goes_on}
use Rattle.deployment_headline.proofs.Memberships.{Leads, leads_on, one_higher}
use Rattle.deployment_headline.proofs.Beginnings.{begun_told, later_still}
use Rattle.deployment_headline.proofs.StepEvents.{IsTold, IsProcess, IsProcessIn}

pub record Sound (d : Deployment) : Type 0 where
  pub first : Are d.settings (first_membership d.settings)
  pub start : Leads d.settings (first_membership d.settings) d.changes d.membership
  pub each : All (λ e. IsProcessIn d e.0 e.1) d.processes
  pub sorted : IsStrictlySortedBy silo_cmp (keys_of d.processes)

pub sound_first : (settings : Settings) → Are settings (first_membership settings) → Sound (first_deployment settings)
unfolding IsStrictlySortedBy
sound_first settings first =
    record {
      first = first;
      start = refl;
      each = All-nil (λ (e : Silo × SiloValue). IsProcessIn (first_deployment settings) e.0 e.1);
      sorted = tt;
    }

-- the process of a silo is its own
pub its_process : (d : Deployment) → Sound d → (silo : Silo) (s : SiloValue) → process_of d silo ≡ Some s → IsProcessIn d silo s
its_process d sound silo s there =
    let found = found_so (λ e. IsProcessIn d e.0 e.1) (is_at (silo_cmp silo)) s d.processes sound.each there in
    subst (λ key. IsProcessIn d key s) (sym (same_key silo_cmp silo_cmp_exact silo found.0 found.1)) found.2

-- what a step keeps
pub record Keeps (d next : Deployment) : Type 0 where
  pub settings : next.settings ≡ d.settings
  pub written : length d.written ≤ length next.written
  pub sound : Sound next

-- one change more is decided
more_told : (settings : Settings) (changes : List Change) (now next own : Membership) (silo : Silo) (c : Change)
    → changed settings now c ≡ Ok next → IsTold settings changes now own silo → IsTold settings (changes ++ c ∷ []) next own silo
more_told settings changes now next own silo c is its =
    let longer = length-append changes (c ∷ []) in
    let low = its.within in
    record {
      are = its.are;
      at = its.at;
      all = its.all;
      mirrors = its.mirrors;
      later = its.later;
      within = omega (low, longer, arith);
      leads = subst (λ l. Leads settings its.at l next) (sym (drop-append-le own.views.version changes (c ∷ []) its.within))
          (leads_on settings its.at now next (drop own.views.version changes) c its.leads is);
    }

-- a process is told one change more: it makes what all make of it
told_one : (settings : Settings) (changes : List Change) (now own next : Membership) (silo : Silo) (c : Change)
    → slice_get changes own.views.version ≡ Some c → changed settings own c ≡ Ok next → IsTold settings changes now own silo
    → IsTold settings changes now next silo
told_one settings changes now own next silo c there is its =
    let rest = rest_begins changes own.views.version c there in
    let leads : Leads settings its.at (c ∷ drop (suc own.views.version) changes) now = subst (λ l. Leads settings its.at l now) rest.0 its.leads in
    let on = goes_on settings own its.at its.are its.all its.mirrors c leads.0 leads.1 in
    let same : on.mine ≡ next = cc (on.is, is) in
    let one = made settings own next its.are c is in
    let higher : suc own.views.version ≡ next.views.version = omega (one_higher settings own next its.are c is, arith) in
    record {
      are = one.are;
      at = leads.0;
      all = (made settings its.at leads.0 its.all c leads.1).are;
      mirrors = subst (λ n. Mirrors n leads.0) same on.mirrors;
      within = subst (λ n. n ≤ length changes) higher rest.1;
      leads = subst (λ n. Leads settings leads.0 (drop n changes) now) higher leads.2;
      later = λ row found.
          later_still settings own next c its.are is silo row found its.later;
    }

-- ---- what steps leave of a silo
barred_own : (o : Option ℕ) (s : SiloValue) (r : Result Stepped ℕ) → IfOk r (λ stepped. StaysOwn s.node stepped.node)
    → IfOk (unless_barred o r) (λ stepped. StaysOwn s.node stepped.node)
barred_own None s r own = own
barred_own (Some number) s r own = tt

stepped_own : (s : SiloValue) (input : Input) (r : Result Stepped ℕ) → step s.node input ≡ r
    → IfOk r (λ stepped. StaysOwn s.node stepped.node)
stepped_own s input (Err number) is = tt
stepped_own s input (Ok stepped) is = stays_own s.node input stepped is

does_own : (s : SiloValue) (input : Input) → IfOk (does s input) (λ stepped. StaysOwn s.node stepped.node)
does_own s input = barred_own (barred s) s (step s.node input) (stepped_own s input (step s.node input) refl)

sees_own : (s : SiloValue) (version : ℕ) → IfOk (sees s version) (λ stepped. StaysOwn s.node stepped.node)
sees_own s version =
    barred_own (barred s) s (seen s version)
    (by (nat_lt s.node.view.version version) (is_seeable s.membership s.node.host.silo version)
    (step s.node (sight_of s.membership version)) refl)
  where
    by : (newer seeable : Bool) (r : Result Stepped ℕ) → step s.node (sight_of s.membership version) ≡ r
        → IfOk (if not newer then Err 903 else (if not seeable then Err 904 else r)) (λ stepped. StaysOwn s.node stepped.node)
    by false seeable r is = tt
    by true false r is = tt
    by true true r is = stepped_own s (sight_of s.membership version) r is

receives_own : (s : SiloValue) (letter : Letter) → IfOk (receives s letter) (λ stepped. StaysOwn s.node stepped.node)
receives_own s letter = by (silo_eq letter.to s.node.host.silo)
  where
    by : (its : Bool) → IfOk (if its then does s (Receives letter) else Ok (silently s.node Ignored))
        (λ stepped. StaysOwn s.node stepped.node)
    by true = does_own s (Receives letter)
    by false = record { settings = refl; silo = refl }

module _ (d : Deployment) (sound : Sound d) where
  same : Keeps d d
  same = record { settings = refl; written = omega arith; sound = sound }

  -- a process goes on so
  put : (silo : Silo) (s : SiloValue) (written : List Letter) → length d.written ≤ length written → IsProcessIn d silo s
      → Keeps d (record d { processes = insert_entry silo_cmp d.processes silo s; written = written })
  put silo s written longer its = record {
    settings = refl;
    written = longer;
    sound = record {
      first = sound.first;
      start = sound.start;
      each = all_put silo_cmp silo_cmp_exact (λ e. IsProcessIn d e.0 e.1) silo s d.processes sound.each its;
      sorted = sorted-insert_entry silo_cmp_total silo s d.processes sound.sorted;
    };
  }

  -- ---- steps
  took_keeps : (silo : Silo) (s : SiloValue) (r : Result Stepped ℕ) → IsProcessIn d silo s
      → IfOk r (λ stepped. StaysOwn s.node stepped.node) → Keeps d (took r d silo s)
  took_keeps silo s (Err number) its own = same
  took_keeps silo s (Ok stepped) its own =
      let longer = length-append d.written stepped.letters in
      put silo (record s { node = stepped.node }) (d.written ++ stepped.letters) (omega (longer, arith))
      (record { told = its.told; set_up = own.settings ∙ its.set_up; address = own.silo ∙ its.address })

  does_keeps : (silo : Silo) (input : Input) (o : Option SiloValue) → process_of d silo ≡ o → Keeps d (does_at o d silo input)
  does_keeps silo input None there = same
  does_keeps silo input (Some s) there = took_keeps silo s (does s input) (its_process d sound silo s there) (does_own s input)

  sees_keeps : (silo : Silo) (version : ℕ) (o : Option SiloValue) → process_of d silo ≡ o → Keeps d (sees_at o d silo version)
  sees_keeps silo version None there = same
  sees_keeps silo version (Some s) there = took_keeps silo s (sees s version) (its_process d sound silo s there) (sees_own s version)

  delivers_keeps : (silo : Silo) (s : SiloValue) (o : Option Letter) → IsProcessIn d silo s → Keeps d (delivers o d silo s)
  delivers_keeps silo s None its = same
  delivers_keeps silo s (Some letter) its = took_keeps silo s (receives s letter) its (receives_own s letter)

  receives_keeps : (silo : Silo) (index : ℕ) (o : Option SiloValue) → process_of d silo ≡ o → Keeps d (receives_at o d silo index)
  receives_keeps silo index None there = same
  receives_keeps silo index (Some s) there = delivers_keeps silo s (slice_get d.written index) (its_process d sound silo s there)

  -- ---- what a process is told
  heard_keeps : (silo : Silo) (s : SiloValue) (r : Result Heard ℕ) → IsProcessIn d silo s
      → IfOk r (λ its. IsTold d.settings d.changes d.membership its.membership silo) → Keeps d (heard r d silo s)
  heard_keeps silo s (Err number) its told_so = same
  heard_keeps silo s (Ok heard) its told_so =
      put silo (record s { membership = heard.membership }) d.written (omega arith)
      (record { told = told_so; set_up = its.set_up; address = its.address })

  told_so : (silo : Silo) (s : SiloValue) (index : ℕ) (c : Change) → IsProcessIn d silo s → slice_get d.changes index ≡ Some c
      → IfOk (told s.node.settings s.membership (index + 1) c) (λ its. IsTold d.settings d.changes d.membership its.membership silo)
  told_so silo s index c its found =
      by (nat_le (index + 1) s.membership.views.version) (is_before s.membership (index + 1)) (is_known s.membership (index + 1) c)
      (index + 1 == s.membership.views.version + 1) (changed s.node.settings s.membership c) refl refl
    where
      by : (old before known next : Bool) (made : Result Membership ℕ) → (index + 1 == s.membership.views.version + 1) ≡ next
          → changed s.node.settings s.membership c ≡ made
          → IfOk (if old then (if before then Err 212 else (if known then Ok (record { membership = s.membership; news = Known }) else Err 207)) else
          (if not next then Err 206 else heard_by made (replaced_by s.membership c)))
          (λ its. IsTold d.settings d.changes d.membership its.membership silo)
      by true true known next made at is = tt
      by true false true next made at is = its.told
      by true false false next made at is = tt
      by false before known false made at is = tt
      by false before known true (Err number) at is = tt
      by false before known true (Ok m) at is =
          let equal = eqb-true (index + 1) (s.membership.views.version + 1) at in
          let turn : index ≡ s.membership.views.version = omega (equal, arith) in
          told_one d.settings d.changes d.membership s.membership m silo c (subst (λ n. slice_get d.changes n ≡ Some c) turn found)
          (ap (λ (t : Settings). changed t s.membership c) (sym its.set_up) ∙ is) its.told

  tells_keeps : (silo : Silo) (s : SiloValue) (index : ℕ) (o : Option Change) → IsProcessIn d silo s → slice_get d.changes index ≡ o
      → Keeps d (tells o d silo s index)
  tells_keeps silo s index None its next = same
  tells_keeps silo s index (Some c) its next =
      heard_keeps silo s (told s.node.settings s.membership (index + 1) c) its (told_so silo s index c its next)

  tells_at_keeps : (silo : Silo) (index : ℕ) (o : Option SiloValue) → process_of d silo ≡ o → Keeps d (tells_at o d silo index)
  tells_at_keeps silo index None there = same
  tells_at_keeps silo index (Some s) there = tells_keeps silo s index (slice_get d.changes index) (its_process d sound silo s there) refl

  -- ---- what a process begins with
  begins_keeps : (silo : Silo) (s : SiloValue) (r : Result Membership ℕ) → IsProcessIn d silo s
      → IfOk r (λ m. IsTold d.settings d.changes d.membership m silo) → Keeps d (begins r d silo s)
  begins_keeps silo s (Err number) its told_so = same
  begins_keeps silo s (Ok m) its told_so =
      put silo (record s { membership = m }) d.written (omega arith)
      (record { told = told_so; set_up = its.set_up; address = its.address })

  begun_so : (silo : Silo) (s : SiloValue) (version : ℕ) → IsProcessIn d silo s → version ≤ d.membership.views.version
      → (r : Result Membership ℕ) → told_view s.node.settings s.membership silo version (listing_of d.membership version) ≡ r
      → IfOk r (λ m. IsTold d.settings d.changes d.membership m silo)
  begun_so silo s version its upto (Err number) is = tt
  begun_so silo s version its upto (Ok m) is =
      begun_told d.settings d.changes d.membership sound.first sound.start s.membership its.told.are silo version upto m
      (ap (λ t. told_view t s.membership silo version (listing_of d.membership version)) (sym its.set_up) ∙ is)

  begins_at_keeps : (silo : Silo) (version : ℕ) (o : Option SiloValue) → process_of d silo ≡ o → Keeps d (begins_at o d silo version)
  begins_at_keeps silo version None there = same
  begins_at_keeps silo version (Some s) there = by (nat_le version d.membership.views.version) refl
    where
      by : (b : Bool) → nat_le version d.membership.views.version ≡ b
          → Keeps d (if b then begins (told_view s.node.settings s.membership silo version (listing_of d.membership version)) d silo s else d)
      by false at = same
      by true at =
          let its = its_process d sound silo s there in
          begins_keeps silo s (told_view s.node.settings s.membership silo version (listing_of d.membership version)) its
          (begun_so silo s version its (leb-true version d.membership.views.version at)
          (told_view s.node.settings s.membership silo version (listing_of d.membership version)) refl)

  -- ---- what is decided
  module _ (c : Change) (next : Membership) (is : changed d.settings d.membership c ≡ Ok next) where
    abbrev P : Silo × SiloValue → Type 0
    P e = IsProcess d.settings (d.changes ++ c ∷ []) next e.0 e.1

    on : All P d.processes
    on =
        All-weaker (λ e. IsProcessIn d e.0 e.1) P
        (λ e its. record {
          told = more_told d.settings d.changes d.membership next e.1.membership e.0 c is its.told;
          set_up = its.set_up;
          address = its.address;
        }) d.processes sound.each

    start : Leads d.settings (first_membership d.settings) (d.changes ++ c ∷ []) next
    start = leads_on d.settings (first_membership d.settings) d.membership next d.changes c sound.start is

    without_so : (old : Option Silo) → All P (without old d.processes)
    without_so None = on
    without_so (Some silo) = all_removed P (is_at (silo_cmp silo)) d.processes on

    processes_so : (how : Change) → All P (processes_after d how)
    processes_so (Join silo stated) =
        all_put silo_cmp silo_cmp_exact P silo (first_silo d.settings silo) (without (occupant silo d.membership.views.rows) d.processes)
        (without_so (occupant silo d.membership.views.rows))
        (record {
          told = record {
            are = sound.first;
            at = first_membership d.settings;
            all = sound.first;
            mirrors = mirrors_itself (first_membership d.settings);
            within = omega arith;
            leads = start;
            later = λ row found. absurd (cc (found));
          };
          set_up = refl;
          address = refl;
        })
    processes_so (Leave silo) = on
    processes_so (Die silo) = without_so (Some silo)

    without_sorted : (old : Option Silo) → IsStrictlySortedBy silo_cmp (keys_of (without old d.processes))
    without_sorted None = sound.sorted
    without_sorted (Some silo) = sorted-remove_entry (is_at (silo_cmp silo)) silo_cmp d.processes sound.sorted

    processes_sorted : (how : Change) → IsStrictlySortedBy silo_cmp (keys_of (processes_after d how))
    processes_sorted (Join silo stated) =
        let old = occupant silo d.membership.views.rows in
        sorted-insert_entry silo_cmp_total silo (first_silo d.settings silo) (without old d.processes) (without_sorted old)
    processes_sorted (Leave silo) = sound.sorted
    processes_sorted (Die silo) = without_sorted (Some silo)

  decided_keeps : (c : Change) (r : Result Membership ℕ) → changed d.settings d.membership c ≡ r → Keeps d (decided r d c)
  decided_keeps c (Err number) is = same
  decided_keeps c (Ok next) is = record {
    settings = refl;
    written = omega arith;
    sound = record { first = sound.first; start = start c next is; each = processes_so c next is c; sorted = processes_sorted c next is c };
  }

  pub keeps : (s : Step) → Keeps d (after d s)
  unfolding after
  keeps (Decide c) = decided_keeps c (changed d.settings d.membership c) refl
  keeps (Tell silo index) = tells_at_keeps silo index (process_of d silo) refl
  keeps (Begin silo version) = begins_at_keeps silo version (process_of d silo) refl
  keeps (See silo version) = sees_keeps silo version (process_of d silo) refl
  keeps (Do silo step) = does_keeps silo (Does step) (process_of d silo) refl
  keeps (Receive silo index) = receives_keeps silo index (process_of d silo) refl

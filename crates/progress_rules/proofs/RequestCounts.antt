-- How many requests a host has outstanding, and how a step changes that.
use Rattle.std.proofs.Common.{arith, ◌≡◌, refl, ap, ◌∙◌, ℕ, ◌+◌, ◌≤◌, List, [], ◌∷◌, length}
use Rattle.std.specs.Prelude.{Bool, cond, map, sum_by, Option, None}
use Rattle.std.specs.List.{cons_option}
use Rattle.std.specs.Ordering.{nat_cmp}
use Rattle.std.specs.Map.{set_value, values_of}
use Rattle.std.specs.BTreeMap.{is_at}
use Rattle.std.proofs.lemmas.List.{length-append, length-map, map-append}
use Rattle.std.proofs.lemmas.List.Sums.{sum_by-cons, sum_by-append}
use Rattle.std.proofs.lemmas.Map.Entries.{sum_by-remove_entry}
use Rattle.silo_address.specs.Grain.{Grain, grain_cmp}
use Rattle.silo_address.specs.declared.ActivationId.{ActivationId}
use Rattle.directory_rules.specs.declared.act.Act.{Act}
use Rattle.directory_rules.specs.declared.act.Act.TheVariants as act
use Rattle.directory_rules.specs.declared.held.Held.{Held}
use Rattle.directory_rules.specs.declared.held.Phase.{Phase}
use Rattle.directory_rules.specs.declared.held.Phase.TheVariants as phase
use Rattle.directory_rules.specs.State.{Host}
use Rattle.directory_rules.specs.Host.{act_in, held_acts, find_acts, outstanding, next_held, with_started, confirmed, without_held, without_find, new_number, renewed, renewed_phase}
use Rattle.directory_rules.specs.Laws.{requests_of}
use Rattle.directory_rules.proofs.Cases.{on_bool}
use Rattle.progress_rules.proofs.HostLimits.{removed_few, all_put_few}
use Rattle.progress_rules.proofs.Quiet.{acts}
use Rattle.progress_rules.proofs.Sums.{le_same}

-- ---- activations that ask or close
abbrev asks_one : Phase → ℕ
asks_one (phase.Asking number) = 1
asks_one phase.Firm = 0
asks_one (phase.Closing number) = 1

abbrev asks_of : List (Grain × Held) → ℕ
asks_of held = sum_by (λ (h : Held). asks_one h.phase) (values_of held)

asks_cons : (e : Grain × Held) (es : List (Grain × Held)) → asks_of (e ∷ es) ≡ asks_one e.1.phase + asks_of es
asks_cons e es = sum_by-cons (λ (h : Held). asks_one h.phase) e.1 (values_of es)

acts_counted : (host : Host) (held : List (Grain × Held)) → length (acts host held) ≡ asks_of held
acts_counted host [] = refl
acts_counted host (e ∷ es) = by e.1.phase (acts_counted host es) ∙ (let all = asks_cons e es in omega (arith, all))
  where
    by : (its : Phase) → length (acts host es) ≡ asks_of es
        → length (cons_option (act_in its host e.0 e.1) (acts host es)) ≡ asks_one its + asks_of es
    by (phase.Asking number) rest = omega (arith, rest)
    by phase.Firm rest = omega (arith, rest)
    by (phase.Closing number) rest = omega (arith, rest)

-- so many requests a host has
pub counted : (host : Host) → length (requests_of host) ≡ asks_of host.held + length host.finds
counted host =
    let parts = length-append (held_acts host) (find_acts host) in
    let held = acts_counted host host.held in
    let finds = length-map {B = ℕ × Act} host.finds (λ (e : ℕ × Grain). (e.0, act.Find e.1)) in
    omega (arith, parts, held, finds)

-- ---- after a reply
set_firm : (test : Grain → Bool) (firm : Held) → asks_one firm.phase ≡ 0 → (held : List (Grain × Held))
    → asks_of (set_value test held firm) ≤ asks_of held
set_firm test firm none [] = le_same 0
set_firm test firm none (e ∷ es) =
    on_bool (λ b. asks_of (cond b ((e.0, firm) ∷ es) (e ∷ set_value test es firm)) ≤ asks_of (e ∷ es)) (test e.0)
    (λ t. let one = asks_cons (e.0, firm) es in let other = asks_cons e es in omega (arith, one, other, none))
    (λ f. let rest = set_firm test firm none es in let one = asks_cons e (set_value test es firm) in let other = asks_cons e es in
    omega (arith, rest, one, other))

module _ (host : Host) where
  pub confirmed_less : (e : Grain × Held) → length (requests_of (confirmed host e.0 e.1)) ≤ length (requests_of host)
  confirmed_less e =
      let before = counted host in
      let after = counted (confirmed host e.0 e.1) in
      let less = set_firm (is_at (grain_cmp e.0)) (record e.1 { phase = phase.Firm; previous = None }) refl host.held in
      omega (arith, before, after, less)

  pub held_less : (grain : Grain) → length (requests_of (without_held host grain)) ≤ length (requests_of host)
  held_less grain =
      let before = counted host in
      let after = counted (without_held host grain) in
      let less = sum_by-remove_entry (λ (h : Held). asks_one h.phase) (is_at (grain_cmp grain)) host.held in
      omega (arith, before, after, less)

  pub find_less : (number : ℕ) → length (requests_of (without_find host number)) ≤ length (requests_of host)
  find_less number =
      let before = counted host in
      let after = counted (without_find host number) in
      let less = removed_few (is_at (nat_cmp number)) host.finds in
      omega (arith, before, after, less)

  -- an activation that begins asks
  pub started_more : (grain : Grain) (previous : Option ActivationId)
      → length (requests_of (with_started host grain previous)) ≤ 1 + length (requests_of host)
  started_more grain previous =
      let before = counted host in
      let after = counted (with_started host grain previous) in
      let all = ap (sum_by (λ (h : Held). asks_one h.phase)) (map-append (λ (e : Grain × Held). e.1) host.held ((grain, next_held host previous) ∷ [])) in
      let parts = sum_by-append (λ (h : Held). asks_one h.phase) (values_of host.held) (next_held host previous ∷ []) in
      omega (arith, before, after, all, parts)

  -- renewal keeps their number
  renewed_asks : (es : List (Grain × Held)) → asks_of (map (λ e. (e.0, record e.1 { phase = renewed_phase host e.1.phase })) es) ≡ asks_of
      es
  renewed_asks [] = refl
  renewed_asks (e ∷ es) =
      let here = by e.1.phase in
      let rest = renewed_asks es in
      let one = asks_cons (e.0, record e.1 { phase = renewed_phase host e.1.phase }) (map (λ e. (e.0, record e.1 { phase = renewed_phase host e.1.phase })) es) in
      let other = asks_cons e es in
      omega (arith, here, rest, one, other)
    where
      by : (its : Phase) → asks_one (renewed_phase host its) ≡ asks_one its
      by (phase.Asking number) = refl
      by phase.Firm = refl
      by (phase.Closing number) = refl

  pub renewed_same : length (requests_of (renewed host)) ≡ length (requests_of host)
  renewed_same =
      let before = counted host in
      let after = counted (renewed host) in
      let asks = renewed_asks host.held in
      let finds = length-map {B = ℕ × Grain} host.finds (λ (e : ℕ × Grain). (new_number host e.0, e.1)) in
      omega (arith, before, after, asks, finds)

-- ---- no more are outstanding
pub outstanding_few : (host : Host) → length (outstanding host) ≤ length (requests_of host)
outstanding_few host =
    let few = all_put_few (find_acts host) (held_acts host) in let parts = length-append (held_acts host) (find_acts host) in
    omega (arith, few, parts)

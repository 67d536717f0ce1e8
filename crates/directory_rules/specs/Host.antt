-- A silo as the host of activations. It has the activations that it holds and the finds that it has outstanding.
use Rattle.std.specs.Prelude.{ℕ, ◌+◌, ◌==◌, ◌&&◌, nat_lt, nat_le, not, is_some, Bool, true, false, if◌then◌else◌, List, [], ◌∷◌, ◌++◌, Option, Some, None, length, map, fold, filter, count_by, find}
use Rattle.std.specs.Ordering.{nat_cmp}
use Rattle.std.specs.List.{filter_map}
use Rattle.std.specs.Map.{lookup, set_value, remove_entry}
use Rattle.std.specs.BTreeMap.{is_at, insert_entry}
use Rattle.silo_address.specs.Silo.{Silo}
use Rattle.silo_address.specs.Grain.{Grain, grain_cmp, grain_eq}
use Rattle.silo_address.specs.declared.ActivationId.{ActivationId}
use Rattle.silo_address.specs.declared.Entry.{Entry}
use Rattle.ring_range.specs.Range.{Range, holds}
use Rattle.hash_ring.specs.declared.Hashing.{Hashing}
use Rattle.hash_ring.specs.Hash.{hash_grain}
use Rattle.directory_rules.specs.declared.act.Act.{Act}
use Rattle.directory_rules.specs.declared.act.Act.TheVariants as act
use Rattle.directory_rules.specs.declared.held.Held.{Held}
use Rattle.directory_rules.specs.declared.held.Phase.{Phase}
use Rattle.directory_rules.specs.declared.held.Phase.TheVariants.{Asking, Firm, Closing}
use Rattle.directory_rules.specs.Settings.{Settings}
use Rattle.directory_rules.specs.Standing.{as_they_stand, stands_behind}
use Rattle.directory_rules.specs.State.{Host}

-- a host that has nothing yet
abbrev pub new_host : Silo → Host
new_host silo = record { silo = silo; next_number = 1; next_count = 1; held = []; finds = [] }

-- the entry of an activation on a silo
abbrev pub entry_on : Silo → Grain → Held → Entry
entry_on silo grain held = record { grain = grain; activation = record { silo = silo; count = held.count } }

-- the entry of an activation that the host holds
abbrev pub entry_of : Host → Grain → Held → Entry
entry_of host grain held = entry_on host.silo grain held

-- what the host holds of the grain
abbrev pub held_of : Host → Grain → Option Held
held_of host grain = lookup (is_at (grain_cmp grain)) host.held

-- with another phase of an activation that it holds
abbrev pub with_held : Host → Grain → Held → Host
with_held host grain held = record host { held = set_value (is_at (grain_cmp grain)) host.held held }

-- without the activation of the grain
abbrev pub without_held : Host → Grain → Host
without_held host grain = record host { held = remove_entry (is_at (grain_cmp grain)) host.held }

-- whether the phase is firm
abbrev pub is_firm : Phase → Bool
is_firm (Asking number) = false
is_firm Firm = true
is_firm (Closing number) = false

-- whether it asks
abbrev pub is_asking : Phase → Bool
is_asking (Asking number) = true
is_asking Firm = false
is_asking (Closing number) = false

-- whether it closes
abbrev pub is_closing : Phase → Bool
is_closing (Asking number) = false
is_closing Firm = false
is_closing (Closing number) = true

-- the entries of the firm activations that are hashed into the range, as they stand there
abbrev pub firm_entries : Hashing → Host → Range → List Entry
firm_entries hashing host range =
    as_they_stand (hash_grain hashing) (range ∷ []) (map (λ e. entry_of host e.0 e.1) (filter (λ e. is_firm e.1.phase && holds range (hash_grain hashing e.0)) host.held))

-- those of them that stand behind a grain
abbrev pub firm_behind : Hashing → Host → Range → (after : Option Grain) → List Entry
firm_behind hashing host range after =
    filter (λ e. stands_behind (hash_grain hashing) (range ∷ []) after e.grain) (firm_entries hashing host range)

-- What is outstanding: a request for each activation that asks or closes, and each find.

-- the grain that an act is about
abbrev pub grain_of : Act → Grain
grain_of (act.Register entry previous) = entry.grain
grain_of (act.Deregister entry) = entry.grain
grain_of (act.Find grain) = grain

-- the request of an activation, under its number
abbrev pub act_in : Phase → Host → Grain → Held → Option (ℕ × Act)
act_in (Asking number) host grain held = Some (number, act.Register (entry_of host grain held) held.previous)
act_in Firm host grain held = None
act_in (Closing number) host grain held = Some (number, act.Deregister (entry_of host grain held))

-- the requests of the activations, in the order in which those began
abbrev pub held_acts : Host → List (ℕ × Act)
held_acts host = filter_map (λ e. act_in e.1.phase host e.0 e.1) host.held

-- the finds as requests, by number
abbrev pub find_acts : Host → List (ℕ × Act)
find_acts host = map (λ e. (e.0, act.Find e.1)) host.finds

-- the outstanding requests, under their numbers, in order
abbrev pub outstanding : Host → List (ℕ × Act)
outstanding host = fold (λ acts e. insert_entry nat_cmp acts e.0 e.1) (find_acts host) (held_acts host)

-- Taking numbers.

-- whether the host may take so many more request numbers
abbrev pub has_numbers : Settings → Host → ℕ → Bool
has_numbers settings host taken = nat_le (host.next_number + taken) (settings.last_number + 1)

-- whether it may take another count
abbrev pub has_count : Settings → Host → Bool
has_count settings host = nat_le host.next_count settings.last_number

-- whether it has as many activations as it may hold
abbrev pub is_full_of_activations : Settings → Host → Bool
is_full_of_activations settings host = nat_le settings.activations (length host.held)

-- whether it has as many finds outstanding as it may have
abbrev pub is_full_of_finds : Settings → Host → Bool
is_full_of_finds settings host = nat_le settings.finds (length host.finds)

-- Beginning and ending.

-- the activation that begins next, in the place of a previous one if there is one
abbrev pub next_held : Host → Option ActivationId → Held
next_held host previous = record { count = host.next_count; phase = Asking host.next_number; previous = previous }

-- an activation of the grain begins, and asks to be entered
abbrev pub with_started : Host → Grain → Option ActivationId → Host
with_started host grain previous = record host {
  next_number = host.next_number + 1;
  next_count = host.next_count + 1;
  held = host.held ++ (grain, next_held host previous) ∷ [];
}

-- the activation, closing under the next number: it asks for no other's place any more
abbrev pub next_closing : Host → Held → Held
next_closing host held = record held { phase = Closing host.next_number; previous = None }

-- an activation asks to be taken out
abbrev pub with_closing : Host → Grain → Held → Host
with_closing host grain held = record host {
  next_number = host.next_number + 1;
  held = set_value (is_at (grain_cmp grain)) host.held (next_closing host held);
}

-- the host asks where a grain is
abbrev pub with_find : Host → Grain → Host
with_find host grain = record host {
  next_number = host.next_number + 1;
  finds = insert_entry nat_cmp host.finds host.next_number grain;
}

-- without the find of that number
abbrev pub without_find : Host → ℕ → Host
without_find host number = record host { finds = remove_entry (is_at (nat_cmp number)) host.finds }

-- Renewal: every outstanding request gets a new number, in the order of the old ones.

-- the new number of the request that has this one
abbrev pub new_number : Host → ℕ → ℕ
new_number host number = host.next_number + count_by (λ e. nat_lt e.0 number) (outstanding host)

-- the phase, its request under the new number
abbrev pub renewed_phase : Host → Phase → Phase
renewed_phase host (Asking number) = Asking (new_number host number)
renewed_phase host Firm = Firm
renewed_phase host (Closing number) = Closing (new_number host number)

-- the host, each outstanding request under its new number
abbrev pub renewed : Host → Host
renewed host = record host {
  next_number = host.next_number + length (outstanding host);
  held = map (λ e. (e.0, record e.1 { phase = renewed_phase host e.1.phase })) host.held;
  finds = map (λ e. (new_number host e.0, e.1)) host.finds;
}

-- Renewal of what is outstanding about one grain, alone.

-- the outstanding requests about the grain, under their numbers, in order
abbrev pub requests_about : Grain → Host → List (ℕ × Act)
requests_about grain host = filter (λ e. grain_eq (grain_of e.1) grain) (outstanding host)

-- the new number of the request about the grain that has this one
abbrev pub new_number_about : Grain → Host → ℕ → ℕ
new_number_about grain host number = host.next_number + count_by (λ e. nat_lt e.0 number) (requests_about grain host)

-- the phase, its request under the new number
abbrev pub phase_renewed_about : Grain → Host → Phase → Phase
phase_renewed_about grain host (Asking number) = Asking (new_number_about grain host number)
phase_renewed_about grain host Firm = Firm
phase_renewed_about grain host (Closing number) = Closing (new_number_about grain host number)

-- the activation of the grain has its request under the new number; any other is as it was
abbrev pub held_renewed_about : Grain → Host → Grain → Held → Held
held_renewed_about grain host its held = record held { phase = if grain_eq its grain then phase_renewed_about grain host held.phase else held.phase }

-- the host, each outstanding request about the grain under its new number, and the others as they were
abbrev pub renewed_about : Grain → Host → Host
renewed_about grain host = record host {
  next_number = host.next_number + length (requests_about grain host);
  held = map (λ e. (e.0, held_renewed_about grain host e.0 e.1)) host.held;
  finds = filter (λ e. not (grain_eq e.1 grain)) host.finds ++ map (λ e. (new_number_about grain host e.0, e.1)) (filter (λ e. grain_eq e.1 grain) host.finds);
}

-- Which request a reply is to.

-- whether the phase has a Register outstanding under the number
abbrev pub is_asking_under : ℕ → Phase → Bool
is_asking_under number (Asking its) = its == number
is_asking_under number Firm = false
is_asking_under number (Closing its) = false

-- whether the phase has a Deregister outstanding under the number
abbrev pub is_closing_under : ℕ → Phase → Bool
is_closing_under number (Asking its) = false
is_closing_under number Firm = false
is_closing_under number (Closing its) = its == number

-- the activation whose Register, or whose Deregister, has the number
abbrev pub asking_under : Host → ℕ → Option (Grain × Held)
asking_under host number = find (λ e. is_asking_under number e.1.phase) host.held

-- the activation whose Deregister has the number
abbrev pub closing_under : Host → ℕ → Option (Grain × Held)
closing_under host number = find (λ e. is_closing_under number e.1.phase) host.held

-- whether a request of that number is outstanding
abbrev pub is_outstanding : Host → ℕ → Bool
is_outstanding host number = is_some (lookup (is_at (nat_cmp number)) (outstanding host))

-- whether a find of that number is outstanding
abbrev pub is_finding : Host → ℕ → Bool
is_finding host number = is_some (lookup (is_at (nat_cmp number)) host.finds)

-- the asking activation is firm
abbrev pub confirmed : Host → Grain → Held → Host
confirmed host grain held = with_held host grain (record held { phase = Firm; previous = None })

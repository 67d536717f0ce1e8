-- The silos that a recovery asks for their reports: those that it awaits still, and those that have reported.
use Rattle.std.specs.Prelude.{◌≡◌, ℕ, ◌<◌, Bool, true, false, not, if◌then◌else◌, List, slice_index_or, length, map, filter, Option, Some, None, Contains}
use Rattle.std.specs.BTreeSet.{insert_key}
use Rattle.std.specs.List.Sorted.{IsStrictlySortedBy}
use Rattle.silo_address.specs.Silo.{Silo, silo_eq, silo_cmp}
use Rattle.directory_rules.specs.State.{Recovery}
use Rattle.directory_rules.specs.Recovery.{is_among}
use Rattle.range_recovery.specs.declared.awaited.Awaited.{Awaited}

-- the silos that haven't reported yet, and those that have
pub record AwaitedValue : Type 0 where
  pub awaiting : List Silo
  pub reported : List Silo

-- each is told by address and once, and none both awaits and has reported
pub record AreAwaited (silos : AwaitedValue) : Type 0 where
  pub awaiting_in_order : IsStrictlySortedBy silo_cmp silos.awaiting
  pub reported_in_order : IsStrictlySortedBy silo_cmp silos.reported
  pub apart : (silo : Silo) → Contains silos.awaiting silo → ¬ (Contains silos.reported silo)

-- those of a recovery
abbrev pub silos_in : Recovery → AwaitedValue
silos_in recovery = record { awaiting = recovery.awaiting; reported = recovery.reported }

-- whether the silo has reported; nothing where it was never awaited
abbrev pub has_reported : AwaitedValue → Silo → Option Bool
has_reported silos silo =
    if is_among silo silos.reported then Some true else (if is_among silo silos.awaiting then Some false else None)

-- the silo has reported
abbrev pub marked : AwaitedValue → Silo → AwaitedValue
marked silos silo = record {
  awaiting = filter (λ s. not (silo_eq s silo)) silos.awaiting;
  reported = insert_key silo_cmp silos.reported silo;
}

-- ---- the silos with their marks, as one list

-- the silos of a list
abbrev pub silos_of : List Awaited → List Silo
silos_of silos = map (λ a. a.silo) silos

-- those that haven't reported
abbrev pub awaiting_of : List Awaited → List Silo
awaiting_of silos = silos_of (filter (λ a. not a.has_reported) silos)

-- those that have
abbrev pub reported_of : List Awaited → List Silo
reported_of silos = silos_of (filter (λ a. a.has_reported) silos)

-- the silos stand by address, each once
abbrev pub IsByAddress : List Awaited → Type 0
IsByAddress silos = IsStrictlySortedBy silo_cmp (silos_of silos)

-- they do, and the count is of those that haven't reported
pub record IsCounted (silos : List Awaited) (missing : ℕ) : Type 0 where
  pub by_address : IsByAddress silos
  pub counted : missing ≡ length (awaiting_of silos)

-- the silo stands at this index
pub record IsSiloAt (silos : List Awaited) (silo : Silo) (index : ℕ) : Type 0 where
  pub within : index < length silos
  pub there : (default : Awaited) → (slice_index_or silos index default).silo ≡ silo

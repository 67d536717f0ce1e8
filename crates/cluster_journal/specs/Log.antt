-- A log that only grows, its keeper, and beginnings of it.
use Rattle.std.specs.Prelude.{◌≡◌, ℕ, List, [], ◌∷◌, ◌++◌, true, false}
use mathlib.Core.Option.{Option, none, some}
use mathlib.Core.List.{IsPrefix}
use lib.ListN.{get_elem?}
use Rattle.atomic_table.specs.Table.{State, Me, Step}
use Rattle.atomic_table.specs.Seated.{TableId}
use Rattle.cluster_journal.specs.declared.log_rule.Known.{Known}

-- the name of no log
abbrev pub no_log : TableId
no_log = record { words = 0; slots = 0; views_name = 0; atom = 0; block = 0; offset = 0; slot_names = [] }

-- ---- What is known.

-- by the keeper: all, and what it was told
abbrev pub keepers : {E : Type 0} → (all told : List E) → Known E
keepers all told = record { keeps = true; all = all; told = told }

-- by a front: a beginning
abbrev pub fronts : {E : Type 0} → (all : List E) → Known E
fronts all = record { keeps = false; all = all; told = [] }

-- who takes in what another knows is told of it
abbrev pub informed : {E : Type 0} → Known E → Known E → Known E
informed known other = record { keeps = known.keeps; all = known.all; told = other.all }

-- ---- The rule.

-- whoever keeps the log has this seat and knows all, and whatever anybody knows is a beginning
pub record Fits {E : Type 0} (seat : ℕ) (log : List E) (by : ℕ) (known : Known E) : Type 0 where
  pub keeper : known.keeps ≡ true → (by ≡ seat) × (known.all ≡ log)
  pub begins : IsPrefix known.all log
  pub told : IsPrefix known.told log

-- there is one log that fits all that is known
pub record AreOfOneLog {E : Type 0} (all : List (Known E)) : Type 0 where
  pub seat : ℕ
  pub log : List E
  pub fit : (by : ℕ) (known : Known E) → get_elem? all by ≡ some known → Fits seat log by known

abbrev pub AreKept : {E : Type 0} → State E (Known E) → Type 0
AreKept state = AreOfOneLog state.views

-- ---- The keeper's steps.

-- what a step announces
abbrev pub said_list : {E : Type 0} → Option E → List E
said_list (some entry) = entry ∷ []
said_list none = []

-- that is added
abbrev pub Adds : {E : Type 0} → Step E → Me E (Known E) → ℕ → Me E (Known E) → Type 0
Adds step before found after = after ≡ (record { keeps = before.0.keeps; all = before.0.all ++ said_list step.said; told = before.0.told }, before.1)

-- what the keeper was told is a beginning of all that it knows
abbrev pub Compares : {E : Type 0} → Step E → Me E (Known E) → ℕ → Me E (Known E) → Type 0
Compares step before found after = (after ≡ (keepers before.0.all [], before.1)) × IsPrefix before.0.told before.0.all

-- Limits alone refuse the plan.
use Rattle.std.proofs.Common.{inl, inr, ◌≡◌, ◌⊎◌, refl, subst, ℕ, List}
use Rattle.std.specs.Prelude.{⊤, All, Err}
use Rattle.silo_address.specs.Silo.{Silo}
use Rattle.directory_rules.specs.Settings.{Settings, AreSettings}
use Rattle.directory_rules.specs.Input.{Input}
use Rattle.directory_rules.specs.Event.{Event, IsEvent}
use Rattle.directory_facts.specs.Laws.{world_by}
use Rattle.directory_rules.specs.State.{World}
use Rattle.progress_rules.specs.Plan.{plan}
use Rattle.progress_rules.specs.Limits.{IsLimit, LimitsAloneRefuse, NumbersSuffice, NumbersNeverRefuse}
use Rattle.progress_rules.proofs.Refused.{Refused}
use Rattle.progress_rules.proofs.ReachedBy.{IsReachedBy}
use Rattle.progress_rules.proofs.NumbersUsed.{numbers_suffice}
use Rattle.progress_rules.proofs.PlanEnds.{PlanKeeps, Reached, Ends, plan_ends}

-- whatever each refusal of an event says, the plan's says
abbrev SayIt : Settings → (ℕ → Type 0) → Type 0
SayIt settings E =
    (world : World) (silo : Silo) (input : Input) (number : ℕ) → IsReachedBy settings world → Refused world silo input number → E number

module _ (settings : Settings) (E : ℕ → Type 0) (say : SayIt settings E) where
  keeps : PlanKeeps settings (λ world. ⊤) E
  keeps = record {
    sees = λ world after silo r on it. tt;
    nudges = λ world after silo r on it. tt;
    delivers = λ world after letter r on it. tt;
    refuses = λ world silo input number r on refused. say world silo input number r refused;
  }

  refused_so : (events : List Event) (number : ℕ) → AreSettings settings → All IsEvent events → plan (world_by settings events) ≡ Err number
      → E number
  refused_so events number are named is =
      let first : IsReachedBy settings (world_by settings events) = record { events = events; named = named; is = refl } in
      subst (Ends (Reached settings (λ world. ⊤)) E) is (plan_ends settings are (λ world. ⊤) E keeps (world_by settings events) (first, tt))

by_limits : (world : World) (silo : Silo) (input : Input) (number : ℕ) → Refused world silo input number → IsLimit number ⊎ (number ≡ 805)
by_limits world silo input number (inl late) = inl (inr late.number_is)
by_limits world silo input number (inr (inl room)) = inl (inl room.number_is)
by_limits world silo input number (inr (inr none)) = inr none.number_is

pub limits_alone_refuse : LimitsAloneRefuse
limits_alone_refuse settings events number are named is =
    refused_so settings (λ n. IsLimit n ⊎ (n ≡ 805)) (λ world silo input n r refused. by_limits world silo input n refused) events number
    are named is

-- where numbers suffice
but_numbers : (settings : Settings) → NumbersSuffice settings → SayIt settings IsLimit
but_numbers settings suffice world silo input number r (inl late) = inr late.number_is
but_numbers settings suffice world silo input number r (inr (inl room)) = inl room.number_is
but_numbers settings suffice world silo input number r (inr (inr none)) =
    let has = numbers_suffice settings world r suffice silo none.node none.its none.early in
    let lacks = none.lacks in
    absurd (cc (has, lacks))

pub numbers_never_refuse : NumbersNeverRefuse
numbers_never_refuse settings events number are suffice named is =
    refused_so settings IsLimit (but_numbers settings suffice) events number are named is

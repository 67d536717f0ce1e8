-- A silo is told a change of membership, with the version that it makes. Changes come in order; what is told again is harmless.
use Rattle.std.specs.Prelude.{ℕ, ◌+◌, ◌<◌, ◌==◌, nat_le, not, IsOk, if◌then◌else◌, Option, Some, None, Result, Ok, Err}
use Rattle.silo_address.specs.Silo.{Silo}
use Rattle.directory_rules.specs.Settings.{Settings}
use Rattle.silo_rules.specs.declared.news.News.{News}
use Rattle.silo_rules.specs.declared.news.News.TheVariants.{Known, Made, Replaced}
use Rattle.directory_rules.specs.Membership.{Change, Membership, changed, replaced_by}
use Rattle.silo_rules.specs.Known.{is_before, is_known}

-- what a change that was told makes: the membership after it, and whether it was known
pub record Heard : Type 0 where
  pub membership : Membership
  pub news : News

-- of a version that is known: nothing changes; 212 where it was told by the view with which the silo began, since then it isn't known what
-- made it; 207 where it was made by another change
abbrev pub told_again : Membership → (version : ℕ) → Change → Result Heard ℕ
told_again m version change =
    if is_before m version then Err 212
    else (if is_known m version change then Ok (record { membership = m; news = Known }) else Err 207)

-- the news of a change that was made, by which this silo was replaced, if one was
abbrev pub news_of : (replaced : Option Silo) → News
news_of None = Made
news_of (Some old) = Replaced old

-- by what the change makes, or its refusal
abbrev pub heard_by : Result Membership ℕ → (replaced : Option Silo) → Result Heard ℕ
heard_by (Err number) replaced = Err number
heard_by (Ok membership) replaced = Ok (record { membership = membership; news = news_of replaced })

-- a change is told: 212, 207, then 206 where its version isn't the next one, then as the change is refused
abbrev pub told : Settings → Membership → (version : ℕ) → Change → Result Heard ℕ
told settings m version change =
    if nat_le version m.views.version then told_again m version change
    else (if not (version == m.views.version + 1) then Err 206
    else heard_by (changed settings m change) (replaced_by m change))

-- the change isn't known, and is made
abbrev pub MakesVersion : Membership → (version : ℕ) → Result Heard ℕ → Type 0
MakesVersion m version outcome = (m.views.version < version) × IsOk outcome

-- no outcome
abbrev pub IsNever : {A : Type 0} → Result A ℕ → Type 0
IsNever outcome = ⊥

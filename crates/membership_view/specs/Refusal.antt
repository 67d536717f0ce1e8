-- The numbers of the refusals, and when each comes.
use Rattle.std.specs.Prelude.{◌≡◌, ℕ, Option, Some, None, IsSomeAnd, IsOk, Err, MatchOption}
use Rattle.membership_view.specs.declared.refusal.ViewsError.{ViewsError}
use Rattle.membership_view.specs.declared.refusal.ViewsError.TheVariants.{OldGeneration, UnknownSilo, NotActive, AlreadyDead, RowsFull, NotListable, OutOfMemory}
use Rattle.membership_view.specs.Views.{ViewsValue}
use Rattle.membership_view.specs.declared.status.Status.{Status}
use Rattle.membership_view.specs.Changes.{Change, after}
use Rattle.membership_view.specs.Beginning.{after_listing}
use Rattle.silo_address.specs.Silo.{Silo}

-- the stated number of a refusal; out of memory has none
abbrev pub views_error_number : ViewsError → Option ℕ
views_error_number OldGeneration = Some 201
views_error_number UnknownSilo = Some 202
views_error_number NotActive = Some 203
views_error_number AlreadyDead = Some 204
views_error_number RowsFull = Some 205
views_error_number NotListable = Some 210
views_error_number OutOfMemory = None

-- a refusal that refuses a change by its number
abbrev pub Refuses : ViewsValue → Change → ViewsError → Type 0
Refuses views change refusal = IsSomeAnd (views_error_number refusal) (λ number. after views change ≡ Err number)

-- the same, or out of memory at a change that nothing refuses
abbrev pub RefusesOrLacksMemory : ViewsValue → Change → ViewsError → Type 0
RefusesOrLacksMemory views change refusal = MatchOption (views_error_number refusal) (IsOk (after views change)) (λ number. after views change ≡ Err number)

-- a refusal that refuses a silo's listing by its number, or out of memory at one that nothing refuses
abbrev pub RefusesListing : ViewsValue → Silo → Status → ViewsError → Type 0
RefusesListing views silo status refusal = MatchOption (views_error_number refusal) (IsOk (after_listing views silo status)) (λ number. after_listing views silo status ≡ Err number)

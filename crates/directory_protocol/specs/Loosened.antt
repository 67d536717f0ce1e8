-- Wrong protocols, first kind: a guard lacks one of its conditions. And what it means that one wrong step breaks a promise.
use Rattle.std.specs.Prelude.{◌≡◌, ◌≢◌, ◌<◌, ◌≤◌, ℕ, suc, Bool, true, is_some, Option, Some, None, List, Contains, filter, option_map}
use Rattle.std.specs.List.{slice_get}
use Rattle.silo_address.specs.Silo.{Silo}
use Rattle.silo_address.specs.Grain.{Grain}
use Rattle.silo_address.specs.declared.activation.ActivationId.{ActivationId}
use Rattle.directory_protocol.specs.Setting.{Setting}
use Rattle.directory_protocol.specs.Letters.{activation_on, Registered, Removed, Register, Deregister, named, Reply, Report, Offer, Sent}
use Rattle.directory_protocol.specs.World.{World, start, Held, outstanding}
use Rattle.directory_protocol.specs.Actions.{Action, Confirm, Sight, Service, Settling, IsAnswered, MaySettle}
use Rattle.directory_protocol.specs.Effects.{after, after_sight, after_service, after_settling, after_start, run, AllAllowed}

-- one wrong step, after some allowed actions and before others, ends in a world without the promise
abbrev pub Breaks : (Step : Setting → World → World → Type 0) → (Promise : Setting → World → Type 0) → Type 0
Breaks Step Promise =
    (m : Setting) × (before : List Action) × (wrong : World) × (rest : List Action) × AllAllowed m before start × Step m (run m before start) wrong × AllAllowed m rest wrong × (Promise m (run m rest wrong) → ⊥)

-- a sight keeps what the silo owns no more: no guard `kept_owned`
pub record MaySeeKeepingAll (m : Setting) (w : World) (x : Sight) : Type 0 where
  pub alive : m.alive w.now x.silo ≡ true
  pub newer : w.seen x.silo < x.version
  pub known : x.version ≤ w.now
  pub member : m.member x.version x.silo ≡ true
  pub kept_settled : (h : ℕ) → x.kept h ≡ true → w.settled x.silo h ≡ true
  pub sealed_settled : (h : ℕ) → x.sealed h ≡ true → w.settled x.silo h ≡ true
  pub sealed_next : (h : ℕ) → x.sealed h ≡ true → x.version ≡ suc (w.seen x.silo)

abbrev pub SealedPieceStillServes : Setting → World → World → Type 0
SealedPieceStillServes m w after = (x : Sight) × MaySeeKeepingAll m w x × (after ≡ after_sight m w x)

-- the same of a sight that skips versions
abbrev pub SkipKeepsPiecesNotOwned : Setting → World → World → Type 0
SkipKeepsPiecesNotOwned m w after = (x : Sight) × MaySeeKeepingAll m w x × (suc (w.seen x.silo) < x.version) × (after ≡ after_sight m w x)

-- a request is served whatever its number: no guard `new_number`
pub record MayServeAnyNumber (m : Setting) (w : World) (x : Service) : Type 0 where
  pub sent : Sent x.request w.requests
  pub alive : m.alive w.now x.server ≡ true
  pub same_version : w.seen x.server ≡ x.request.version
  pub settled : w.settled x.server (m.hash x.request.grain) ≡ true
  pub answered : IsAnswered x.request.purpose (named x.request) x.request.previous (w.table x.server x.request.grain) x.answer x.entry

abbrev pub RequestNumbersNotCompared : Setting → World → World → Type 0
RequestNumbersNotCompared m w after = (x : Service) × MayServeAnyNumber m w x × (after ≡ after_service w x)

-- a request is served, whatever the answer: no guard `answered`
pub record MayServeAnyhow (m : Setting) (w : World) (x : Service) : Type 0 where
  pub sent : Sent x.request w.requests
  pub alive : m.alive w.now x.server ≡ true
  pub same_version : w.seen x.server ≡ x.request.version
  pub settled : w.settled x.server (m.hash x.request.grain) ≡ true
  pub new_number : w.served x.server x.request.sender < x.request.number

-- a registration is entered whatever entry is there
abbrev pub RegisterOverwrites : Setting → World → World → Type 0
RegisterOverwrites m w after =
    (x : Service) × MayServeAnyhow m w x × (x.request.purpose ≡ Register) × (x.answer ≡ Registered) × (x.entry ≡ Some (named x.request)) × (after ≡ after_service w x)

-- a registration that names a previous activation is entered whatever entry is there
abbrev pub PreviousReplacesAnyEntry : Setting → World → World → Type 0
PreviousReplacesAnyEntry m w after =
    (x : Service) × (p : ActivationId) × MayServeAnyhow m w x × (x.request.purpose ≡ Register) × (x.request.previous ≡ Some p) × (x.answer ≡ Registered) × (x.entry ≡ Some (named x.request)) × (after ≡ after_service w x)

-- a deregistration takes out whatever entry is there
abbrev pub DeregisterIgnoresTheActivation : Setting → World → World → Type 0
DeregisterIgnoresTheActivation m w after =
    (x : Service) × MayServeAnyhow m w x × (x.request.purpose ≡ Deregister) × (x.answer ≡ Removed) × (x.entry ≡ None) × (after ≡ after_service w x)

-- a reply counts whatever its number: no `same_number`
pub record MayConfirmAnyNumber (m : Setting) (w : World) (y : Reply) (g : Grain) (x : Held) : Type 0 where
  pub alive : m.alive w.now y.receiver ≡ true
  pub sent : Sent y w.replies
  pub held_there : w.held y.receiver g ≡ Some x
  pub asking : (n : ℕ) × (outstanding Register x ≡ Some n)
  pub same_version : y.version ≡ w.seen y.receiver
  pub answer : y.answer ≡ Registered

abbrev pub StaleReplyAccepted : Setting → World → World → Type 0
StaleReplyAccepted m w after' = (y : Reply) × (g : Grain) × (x : Held) × MayConfirmAnyNumber m w y g x × (after' ≡ after m w (Confirm y g x))

-- a recovery ends with the report of one member
pub record MayRecoverEarly (m : Setting) (w : World) (x : Settling) (report : Report) : Type 0 where
  pub settles : MaySettle m w x
  pub member : m.member (w.seen x.silo) report.sender ≡ true
  pub sent : Sent report w.reports
  pub same_version : report.version ≡ w.seen x.silo
  pub entries : (g : Grain) → x.entries g ≡ option_map (activation_on report.sender) (report.firm g)

abbrev pub RecoveryCompletesAtFirstReport : Setting → World → World → Type 0
RecoveryCompletesAtFirstReport m w after = (x : Settling) × (report : Report) × MayRecoverEarly m w x report × (after ≡ after_settling m w x)

-- a recovery ends with the first page of each member's report: of grains that aren't on it nothing is known. A report that has
-- something has something on its first page
pub record MayRecoverByFirstPages (m : Setting) (w : World) (x : Settling) (told : Silo → Report) (page : Silo → Grain → Bool) : Type 0 where
  pub settles : MaySettle m w x
  pub sent : (r : Silo) → m.member (w.seen x.silo) r ≡ true → Sent (told r) w.reports
  pub same_version : (r : Silo) → m.member (w.seen x.silo) r ≡ true → (told r).version ≡ w.seen x.silo
  pub own_report : (r : Silo) → m.member (w.seen x.silo) r ≡ true → (told r).sender ≡ r
  pub some :
      (r : Silo) (g : Grain) → m.member (w.seen x.silo) r ≡ true → (told r).firm g ≢ None
      → (first : Grain) × (page r first ≡ true) × ((told r).firm first ≢ None)
  pub from_member :
      (g : Grain) (a : ActivationId) → x.part (m.hash g) ≡ true → x.entries g ≡ Some a → m.member (w.seen x.silo) a.silo ≡ true
  pub from_page :
      (g : Grain) (a : ActivationId) → x.part (m.hash g) ≡ true → x.entries g ≡ Some a
      → (page a.silo g ≡ true) × ((told a.silo).firm g ≡ Some a.count)
  pub complete :
      (g : Grain) (r : Silo) (c : ℕ) → x.part (m.hash g) ≡ true → m.member (w.seen x.silo) r ≡ true → page r g ≡ true
      → (told r).firm g ≡ Some c → (a : ActivationId) × (x.entries g ≡ Some a)

abbrev pub FirstPageCompletes : Setting → World → World → Type 0
FirstPageCompletes m w after =
    (x : Settling) × (told : Silo → Report) × (page : Silo → Grain → Bool) × MayRecoverByFirstPages m w x told page × (after ≡ after_settling m w x)

-- of these grains, in their order, the one of that number which a report has
abbrev pub firm_numbered : List Grain → ℕ → Report → Option Grain
firm_numbered grains number report = slice_get (filter (λ g. is_some (report.firm g)) grains) number

-- a recovery asks for pages of one grain by their numbers: a member reports anew for each page, and has told all where there is none of
-- the number asked for
pub record MayRecoverByNumbers
    (m : Setting) (w : World) (x : Settling) (grains : List Grain) (told : Silo → (number : ℕ) → Report) (pages : Silo → ℕ) : Type 0 where
  pub settles : MaySettle m w x
  pub sent : (r : Silo) (n : ℕ) → m.member (w.seen x.silo) r ≡ true → n ≤ pages r → Sent (told r n) w.reports
  pub same_version : (r : Silo) (n : ℕ) → m.member (w.seen x.silo) r ≡ true → n ≤ pages r → (told r n).version ≡ w.seen x.silo
  pub own_report : (r : Silo) (n : ℕ) → m.member (w.seen x.silo) r ≡ true → n ≤ pages r → (told r n).sender ≡ r
  pub all_grains :
      (r : Silo) (n : ℕ) (g : Grain) → m.member (w.seen x.silo) r ≡ true → n ≤ pages r → (told r n).firm g ≢ None → Contains grains g
  pub ends : (r : Silo) → m.member (w.seen x.silo) r ≡ true → firm_numbered grains (pages r) (told r (pages r)) ≡ None
  pub from_member :
      (g : Grain) (a : ActivationId) → x.part (m.hash g) ≡ true → x.entries g ≡ Some a → m.member (w.seen x.silo) a.silo ≡ true
  pub from_page :
      (g : Grain) (a : ActivationId) → x.part (m.hash g) ≡ true → x.entries g ≡ Some a
      → (n : ℕ) × (n < pages a.silo) × (firm_numbered grains n (told a.silo n) ≡ Some g) × ((told a.silo n).firm g ≡ Some a.count)
  pub complete :
      (g : Grain) (r : Silo) (n : ℕ) → x.part (m.hash g) ≡ true → m.member (w.seen x.silo) r ≡ true → n < pages r
      → firm_numbered grains n (told r n) ≡ Some g → (a : ActivationId) × (x.entries g ≡ Some a)

abbrev pub PagesByNumber : Setting → World → World → Type 0
PagesByNumber m w after =
    (x : Settling) × (grains : List Grain) × (told : Silo → ℕ → Report) × (pages : Silo → ℕ) × MayRecoverByNumbers m w x grains told pages × (after ≡ after_settling m w x)

-- an activation starts in the place of one that was offered at a version which its silo hasn't seen
pub record MayStartEarly (m : Setting) (w : World) (s : Silo) (g : Grain) (p : ActivationId) : Type 0 where
  pub alive : m.alive w.now s ≡ true
  pub member : m.member (w.seen s) s ≡ true
  pub free : w.held s g ≡ None
  pub offered : (o : Offer) × Sent o w.offers × (o.grain ≡ g) × (o.activation ≡ p)

abbrev pub OfferStartsAtALaggingSilo : Setting → World → World → Type 0
OfferStartsAtALaggingSilo m w after = (s : Silo) × (g : Grain) × (p : ActivationId) × MayStartEarly m w s g p × (after ≡ after_start w s g (Some p))

-- What can happen: worlds that some list of allowed actions reaches. So no guard asks what can never be met.
use Rattle.std.specs.Prelude.{◌≡◌, ◌≢◌, ◌<◌, ◌≤◌, ℕ, suc, true, Some, None, List}
use Rattle.silo_address.specs.Silo.{Silo}
use Rattle.silo_address.specs.Grain.{Grain}
use Rattle.silo_address.specs.declared.activation.ActivationId.{ActivationId}
use Rattle.directory_protocol.specs.Setting.{Setting}
use Rattle.directory_protocol.specs.Letters.{Register, Registered, Taken, Request, Reply, Snapshot, Report, Sent}
use Rattle.directory_protocol.specs.World.{World, start, Held, Asking, count_of, outstanding, previous_of, surviving}
use Rattle.directory_protocol.specs.Actions.{Action, Close, Serve, Service, See, Confirm, Install, Recover, Sight, Settling, Counts, Allowed}
use Rattle.directory_protocol.specs.Safety.{IsFirmOn}
use Rattle.directory_protocol.specs.Effects.{after, run, AllAllowed}

-- in some setting, some list of allowed actions ends in such a world
abbrev pub CanBe : (Setting → World → Type 0) → Type 0
CanBe Holds = (m : Setting) × (actions : List Action) × AllAllowed m actions start × Holds m (run m actions start)

-- in some setting, after some list of allowed actions, such an action is allowed
abbrev pub CanHappen : (Setting → World → Action → Type 0) → Type 0
CanHappen Happens = CanBe (λ m w. (a : Action) × Allowed m w a × Happens m w a)

-- a snapshot brings an entry to the next owner
abbrev pub TransfersEntry : Setting → World → Action → Type 0
TransfersEntry m w a =
    (x : Settling) × (snapshot : Snapshot) × (g : Grain) × (e : ActivationId) × (a ≡ Install x snapshot) × (x.part (m.hash g) ≡ true) × (x.entries g ≡ Some e)

-- a recovery ends with an entry
abbrev pub RecoversEntry : Setting → World → Action → Type 0
RecoversEntry m w a =
    (x : Settling) × (told : Silo → Grain → Report) × (g : Grain) × (e : ActivationId) × (a ≡ Recover x told) × (x.part (m.hash g) ≡ true) × (x.entries g ≡ Some e)

-- a silo skips a version, and keeps an entry that it still owns
abbrev pub KeepsOverSkip : Setting → World → Action → Type 0
KeepsOverSkip m w a =
    (x : Sight) × (g : Grain) × (e : ActivationId) × (a ≡ See x) × (suc (w.seen x.silo) < x.version) × (x.kept (m.hash g) ≡ true) × (surviving m x.version (w.table x.silo g) ≡ Some e)

-- an activation becomes firm in the place of one that another silo offered
abbrev pub Migrates : Setting → World → Action → Type 0
Migrates m w a =
    (y : Reply) × (g : Grain) × (x : Held) × (p : ActivationId) × (a ≡ Confirm y g x) × (previous_of x ≡ Some p) × (p.silo ≢ y.receiver)

-- a registration is answered by the entry of another silo's activation, which is firm
abbrev pub FindsPlaceTaken : Setting → World → Action → Type 0
FindsPlaceTaken m w a =
    (x : Service) × (t : Silo) × (c : ℕ) × (a ≡ Serve x) × (x.answer ≡ Taken) × IsFirmOn m w x.request.grain t c × (t ≢ x.request.sender)

-- a silo would serve the request, but for its number
abbrev pub IsOutdated : Setting → World → Silo → Request → Type 0
IsOutdated m w s r = (m.alive w.now s ≡ true) × (w.seen s ≡ r.version) × (w.settled s (m.hash r.grain) ≡ true) × (r.number ≤ w.served s r.sender)

-- a registration of an activation that its sender holds no more is refused for its number alone
abbrev pub RefusesOldNumber : Setting → World → Type 0
RefusesOldNumber m w =
    (s : Silo) × (r : Request) × Sent r w.requests × (r.purpose ≡ Register) × ((x : Held) → w.held r.sender r.grain ≡ Some x → count_of x ≢ r.count) × IsOutdated m w s r

-- an activation that asks is given up: its registration, which comes late, is refused for its number alone, and nothing is
-- entered
abbrev pub GivesUpInTime : Setting → World → Action → Type 0
GivesUpInTime m w a =
    (s : Silo) × (r : Request) × (rest : List Action) × Sent r w.requests × (r.purpose ≡ Register) × (a ≡ Close r.sender r.grain (Asking r.count r.number r.previous))
    × AllAllowed m rest (after m w a) × IsOutdated m (run m rest (after m w a)) s r × ((run m rest (after m w a)).table s r.grain ≡ None)

-- a reply to an asking activation's silo, of the version that it has seen, has an older number than that activation's
-- request, and counts for no activation there
abbrev pub IgnoresStaleReply : Setting → World → Type 0
IgnoresStaleReply m w =
    (y : Reply) × (g : Grain) × (x : Held) × (n : ℕ) × Sent y w.replies × (m.alive w.now y.receiver ≡ true) × (y.answer ≡ Registered) × (y.version ≡ w.seen y.receiver)
    × (w.held y.receiver g ≡ Some x) × (outstanding Register x ≡ Some n) × (y.number < n) × ((h : Grain) (z : Held) → ¬ Counts w.seen w.held y h z)

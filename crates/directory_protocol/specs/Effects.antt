-- What each action makes of a world.
use Rattle.std.specs.Prelude.{ℕ, suc, true, Option, Some, None, List, [], ◌∷◌}
use Rattle.silo_address.specs.Silo.{Silo}
use Rattle.silo_address.specs.Grain.{Grain}
use Rattle.silo_address.specs.declared.activation.ActivationId.{ActivationId}
use Rattle.directory_protocol.specs.Change.{put, put_grain, put_at, where_true}
use Rattle.directory_protocol.specs.Setting.{Setting}
use Rattle.directory_protocol.specs.Letters.{activation_on, Purpose, Register, Deregister, Request, Reply, Snapshot, Report}
use Rattle.directory_protocol.specs.World.{World, Held, Asking, Firm, Closing, count_of, renumbered, previous_of, firm_count, surviving}
use Rattle.directory_protocol.specs.Actions.{Action, New_view, See, Start, Close, Offer_away, Renew, Find, Serve, Confirm, Leave, Tell, Install, Recover, Sight, Service, Settling, Allowed}

-- the entries that survive a sight: those on silos that aren't dead in the version seen
abbrev pub kept_entries : Setting → World → Sight → Grain → Option ActivationId
kept_entries m w x g = surviving m x.version (w.table x.silo g)

-- the snapshot that a sight leaves behind
abbrev pub sealed_by : Setting → World → Sight → Snapshot
sealed_by m w x = record { sealed_at = w.seen x.silo; covers = x.sealed; entries = kept_entries m w x }

-- a request of that silo, of the version that it has seen, under its next number
abbrev pub asked : World → Purpose → Silo → Grain → (count : ℕ) → (previous : Option ActivationId) → Request
asked w purpose s g count previous =
    record {
      purpose = purpose;
      version = w.seen s;
      number = w.next_number s;
      sender = s;
      grain = g;
      count = count;
      previous = previous;
    }

abbrev pub replied : Service → Reply
replied x =
    record {
      answer = x.answer;
      version = x.request.version;
      number = x.request.number;
      receiver = x.request.sender;
    }

-- all that is firm on the silo
abbrev pub reported : World → Silo → Report
reported w s = record { version = w.seen s; sender = s; firm = λ g. firm_count (w.held s g) }

-- seen is the version; settled is what is kept, without entries of dead silos; nothing has been served at it
abbrev pub after_sight : Setting → World → Sight → World
after_sight m w x =
    record w {
      seen = put x.silo x.version w.seen;
      settled = put x.silo x.kept w.settled;
      table = put x.silo (kept_entries m w x) w.table;
      served = put x.silo (λ t. 0) w.served;
      snapshots = sealed_by m w x ∷ w.snapshots;
      level = where_true x.kept (λ h. x.version) w.level;
      authority = where_true (λ g. x.kept (m.hash g)) (kept_entries m w x) w.authority;
    }

-- the silo's next number goes to a request about that activation, which is held in that phase from now on
abbrev pub after_asking : World → Silo → Grain → Held → Request → World
after_asking w s g x r =
    record w {
      held = put_at s g (Some x) w.held;
      next_number = put s (suc (w.next_number s)) w.next_number;
      requests = r ∷ w.requests;
    }

abbrev pub after_start : World → Silo → Grain → Option ActivationId → World
after_start w s g previous =
    record w {
      held = put_at s g (Some (Asking (w.next_count s) (w.next_number s) previous)) w.held;
      next_number = put s (suc (w.next_number s)) w.next_number;
      next_count = put s (suc (w.next_count s)) w.next_count;
      requests = asked w Register s g (w.next_count s) previous ∷ w.requests;
    }

-- the deregistration is numbered above the registration, if that is still outstanding
abbrev pub after_close : World → Silo → Grain → ℕ → World
after_close w s g count =
    after_asking w s g (Closing count (w.next_number s)) (asked w Deregister s g count None)

-- the deregistration takes its number, but is first sent when it is sent again
abbrev pub after_offer : World → Silo → Grain → ℕ → World
after_offer w s g count =
    record w {
      held = put_at s g (Some (Closing count (w.next_number s))) w.held;
      next_number = put s (suc (w.next_number s)) w.next_number;
      offers = record { version = w.seen s; grain = g; activation = activation_on s count } ∷ w.offers;
    }

abbrev pub after_renewal : World → Silo → Grain → Held → Purpose → World
after_renewal w s g x purpose =
    after_asking w s g (renumbered (w.next_number s) x) (asked w purpose s g (count_of x) (previous_of x))

abbrev pub after_service : World → Service → World
after_service w x =
    record w {
      table = put_at x.server x.request.grain x.entry w.table;
      served = put x.server (put x.request.sender x.request.number (w.served x.server)) w.served;
      replies = replied x ∷ w.replies;
      authority = put_grain x.request.grain x.entry w.authority;
    }

abbrev pub after_settling : Setting → World → Settling → World
after_settling m w x =
    record w {
      settled = put x.silo (where_true x.part (λ h. true) (w.settled x.silo)) w.settled;
      table = put x.silo (where_true (λ g. x.part (m.hash g)) x.entries (w.table x.silo)) w.table;
      level = where_true x.part (λ h. w.seen x.silo) w.level;
      authority = where_true (λ g. x.part (m.hash g)) x.entries w.authority;
    }

-- the world after an action
abbrev pub after : Setting → World → Action → World
after m w New_view = record w { now = suc w.now }
after m w (See x) = after_sight m w x
after m w (Start s g previous) = after_start w s g previous
after m w (Close s g x) = after_close w s g (count_of x)
after m w (Offer_away s g count) = after_offer w s g count
after m w (Renew s g x purpose) = after_renewal w s g x purpose
after m w (Find s) = record w { next_number = put s (suc (w.next_number s)) w.next_number }
after m w (Serve x) = after_service w x
after m w (Confirm y g x) = record w { held = put_at y.receiver g (Some (Firm (count_of x))) w.held }
after m w (Leave y g x) = record w { held = put_at y.receiver g None w.held }
after m w (Tell s) = record w { reports = reported w s ∷ w.reports }
after m w (Install x snapshot) = after_settling m w x
after m w (Recover x told) = after_settling m w x

-- the world after a list of actions
abbrev pub run : Setting → List Action → World → World
run m [] w = w
run m (a ∷ rest) w = run m rest (after m w a)

-- each action of the list may be taken where its turn comes
abbrev pub AllAllowed : Setting → List Action → World → Type 0
AllAllowed m [] w = Unit {0}
AllAllowed m (a ∷ rest) w = Allowed m w a × AllAllowed m rest (after m w a)

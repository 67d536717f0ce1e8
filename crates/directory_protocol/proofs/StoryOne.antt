-- One silo: it registers an activation, closes it, and old letters come again.
use Rattle.std.proofs.Common.{◌≡◌, ◌≢◌, Bool, true, false, cond, Some, None, List, [], ◌∷◌, ◌++◌, inl, inr, refl, ap, ◌∙◌, arith}
use Rattle.silo_address.specs.Grain.{grain_eq}
use Rattle.silo_address.specs.declared.activation.ActivationId.{ActivationId}
use Rattle.directory_protocol.specs.Change.{put, put_grain, put_at}
use Rattle.directory_protocol.specs.Letters.{activation_on, Register, Registered, Removed}
use Rattle.directory_protocol.specs.World.{start, Held, Asking, Firm, Closing, outstanding}
use Rattle.directory_protocol.specs.Actions.{Action, New_view, See, Start, Close, Confirm, Leave}
use Rattle.directory_protocol.specs.Effects.{after, run, AllAllowed}
use Rattle.directory_protocol.specs.Safety.{SettledIsRight}
use Rattle.directory_protocol.specs.Reached.{CanBe, CanHappen, KeepsOverSkip, RefusesOldNumber, IgnoresStaleReply}
use Rattle.directory_protocol.specs.Loosened.{Breaks, RequestNumbersNotCompared, StaleReplyAccepted}
use Rattle.directory_protocol.proofs.Runs.{allowed_append}
use Rattle.directory_protocol.proofs.Story.{first, ann, cluster, all, no_hash, opening, opening_allowed, registration, removal, reply, answers}

abbrev pub one : ActivationId
one = activation_on first 1

-- ann is registered and firm
abbrev pub registering : List Action
registering =
    Start first ann None ∷ answers (registration 1 1 first 1 None) Registered (Some one) ∷ Confirm (reply Registered 1 1 first) ann
    (Asking 1 1 None) ∷ []

registering_allowed : AllAllowed cluster registering (run cluster opening start)
unfolding put put_at put_grain
registering_allowed = (
  record { alive = refl; member = refl; free = refl; offered = λ p e. absurd cc },
  (
    record {
      sent = inl refl;
      alive = refl;
      same_version = refl;
      settled = refl;
      new_number = omega arith;
      answered = inl (refl, refl, inl refl);
    },
    (
      record {
        accepted = record { alive = refl; sent = inl refl; counts = record { held_there = refl; same_number = refl; same_version = refl } };
        answer = refl;
      },
      tt,
    ),
  ),
)

pub registered : AllAllowed cluster (opening ++ registering) start
registered = allowed_append cluster opening registering start opening_allowed registering_allowed

-- then it closes, and is gone
abbrev closing : List Action
closing =
    Close first ann (Firm 1) ∷ answers (removal 1 2) Removed None ∷ Leave (reply Removed 1 2 first) ann (Closing 1 2) ∷ []

closing_allowed : AllAllowed cluster closing (run cluster (opening ++ registering) start)
unfolding put put_at put_grain
closing_allowed = (
  record { alive = refl; held = refl; not_yet = refl },
  (
    record {
      sent = inl refl;
      alive = refl;
      same_version = refl;
      settled = refl;
      new_number = omega arith;
      answered = (refl, inl (refl, refl));
    },
    (
      record {
        accepted = record { alive = refl; sent = inl refl; counts = record { held_there = refl; same_number = refl; same_version = refl } };
        answer = λ e. cc;
      },
      tt,
    ),
  ),
)

closed : AllAllowed cluster ((opening ++ registering) ++ closing) start
closed = allowed_append cluster (opening ++ registering) closing start registered closing_allowed

pub refuses_old_number : CanBe RefusesOldNumber
unfolding put put_at put_grain
refuses_old_number = (
  cluster,
  (opening ++ registering) ++ closing,
  closed,
  (first, registration 1 1 first 1 None, inr (inl refl), refl, λ x held. absurd cc, (refl, refl, refl, omega arith)),
)

-- then another one starts
starting_allowed : AllAllowed cluster (Start first ann None ∷ []) (run cluster ((opening ++ registering) ++ closing) start)
unfolding put put_at put_grain
starting_allowed = (record { alive = refl; member = refl; free = refl; offered = λ p e. absurd cc }, tt)

started : AllAllowed cluster (((opening ++ registering) ++ closing) ++ (Start first ann None ∷ [])) start
started = allowed_append cluster ((opening ++ registering) ++ closing) (Start first ann None ∷ []) start closed starting_allowed

-- the silo holds the new one alone, under another number
not_under_one :
    (b : Bool) (x : Held)
    → cond b (Some (Asking 2 3 None)) (cond b None (cond b (Some (Closing 1 2))
    (cond b (Some (Firm 1)) (cond b (Some (Asking 1 1 None)) None)))) ≡ Some x
    → outstanding Register x ≢ Some 1
not_under_one true x held number =
    let same : Asking 2 3 None ≡ x = cc in
    let e : outstanding Register (Asking 2 3 None) ≡ Some 1 = ap (outstanding Register) same ∙ number in
    cc
not_under_one false x held number = cc

pub ignores_stale_reply : CanBe IgnoresStaleReply
unfolding put put_at put_grain
ignores_stale_reply = (
  cluster,
  ((opening ++ registering) ++ closing) ++ (Start first ann None ∷ []),
  started,
  (
    reply Registered 1 1 first,
    ann,
    Asking 2 3 None,
    3,
    inr (inl refl),
    refl,
    refl,
    refl,
    refl,
    refl,
    omega arith,
    λ h z counts. not_under_one (grain_eq h ann) z counts.held_there counts.same_number,
  ),
)

-- three views come, and the silo skips two of them
viewed : AllAllowed cluster ((opening ++ registering) ++ (New_view ∷ New_view ∷ New_view ∷ [])) start
viewed = allowed_append cluster (opening ++ registering) (New_view ∷ New_view ∷ New_view ∷ []) start registered (tt, (tt, (tt, tt)))

pub keeps_over_skip : CanHappen KeepsOverSkip
unfolding put put_at put_grain
keeps_over_skip = (
  cluster,
  (opening ++ registering) ++ (New_view ∷ New_view ∷ New_view ∷ []),
  viewed,
  (
    See (record { silo = first; version = 4; kept = all; sealed = no_hash }),
    record {
      alive = refl;
      newer = omega arith;
      known = omega arith;
      member = refl;
      kept_settled = λ h e. refl;
      kept_owned = λ h e. refl;
      sealed_settled = λ h e. absurd cc;
      sealed_next = λ h e. absurd cc;
    },
    (record { silo = first; version = 4; kept = all; sealed = no_hash }, ann, one, refl, omega arith, refl, refl),
  ),
)

-- ---- wrong protocols

pub numbers_not_compared : Breaks RequestNumbersNotCompared SettledIsRight
unfolding put put_at put_grain
numbers_not_compared = (
  cluster,
  (opening ++ registering) ++ closing,
  after cluster (run cluster ((opening ++ registering) ++ closing) start) (answers (registration 1 1 first 1 None) Registered (Some one)),
  [],
  closed,
  (
    record { server = first; request = registration 1 1 first 1 None; answer = Registered; entry = Some one },
    record { sent = inr (inl refl); alive = refl; same_version = refl; settled = refl; answered = inl (refl, refl, inl refl) },
    refl,
  ),
  tt,
  λ right.
      let none = (right ann first (record { alive = refl; settled = refl })).held one refl refl in
      let e : None ≡ Some none.0 = none.1 in
      cc,
)

pub stale_reply_accepted : Breaks StaleReplyAccepted SettledIsRight
unfolding put put_at put_grain
stale_reply_accepted = (
  cluster,
  ((opening ++ registering) ++ closing) ++ (Start first ann None ∷ []),
  after cluster (run cluster (((opening ++ registering) ++ closing) ++ (Start first ann None ∷ [])) start)
      (Confirm (reply Registered 1 1 first) ann (Asking 2 3 None)),
  [],
  started,
  (
    reply Registered 1 1 first,
    ann,
    Asking 2 3 None,
    record { alive = refl; sent = inr (inl refl); held_there = refl; asking = (3, refl); same_version = refl; answer = refl },
    refl,
  ),
  tt,
  λ right.
      let e : None ≡ Some (activation_on first 2) = (right ann first (record { alive = refl; settled = refl })).complete first 2 (record { alive = refl; firm = refl }) in
      cc,
)

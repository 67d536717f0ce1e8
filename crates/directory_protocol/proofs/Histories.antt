-- No action reads the histories.
use Rattle.std.proofs.Common.{refl}
use Rattle.directory_protocol.specs.Setting.{Setting}
use Rattle.directory_protocol.specs.World.{World}
use Rattle.directory_protocol.specs.Actions.{Action, New_view, See, Start, Close, Offer_away, Renew, Find, Serve, Confirm, Leave, Tell, Install, Recover}
use Rattle.directory_protocol.specs.Safety.{HistoriesUnread}

pub histories_unread : (m : Setting) (w : World) (a : Action) → HistoriesUnread m w a
histories_unread m w New_view level authority = (λ may. may, refl)
histories_unread m w (See x) level authority = (
  λ may.
      record {
        alive = may.alive;
        newer = may.newer;
        known = may.known;
        member = may.member;
        kept_settled = may.kept_settled;
        kept_owned = may.kept_owned;
        sealed_settled = may.sealed_settled;
        sealed_next = may.sealed_next;
      },
  refl,
)
histories_unread m w (Start s g previous) level authority =
    (λ may. record { alive = may.alive; member = may.member; free = may.free; offered = may.offered }, refl)
histories_unread m w (Close s g x) level authority = (λ may. record { alive = may.alive; held = may.held; not_yet = may.not_yet }, refl)
histories_unread m w (Offer_away s g count) level authority =
    (λ may. record { alive = may.alive; held = may.held; not_yet = may.not_yet }, refl)
histories_unread m w (Renew s g x purpose) level authority =
    (λ may. record { alive = may.alive; held = may.held; outstanding = may.outstanding }, refl)
histories_unread m w (Find s) level authority = (λ may. may, refl)
histories_unread m w (Serve x) level authority = (
  λ may.
      record {
        sent = may.sent;
        alive = may.alive;
        same_version = may.same_version;
        settled = may.settled;
        new_number = may.new_number;
        answered = may.answered;
      },
  refl,
)
histories_unread m w (Confirm y g x) level authority = (
  λ may. record {
    accepted = record { alive = may.accepted.alive; sent = may.accepted.sent; counts = may.accepted.counts };
    answer = may.answer;
  },
  refl,
)
histories_unread m w (Leave y g x) level authority = (
  λ may. record {
    accepted = record { alive = may.accepted.alive; sent = may.accepted.sent; counts = may.accepted.counts };
    answer = may.answer;
  },
  refl,
)
histories_unread m w (Tell s) level authority = (λ may. may, refl)
histories_unread m w (Install x snapshot) level authority = (
  λ may.
      record {
        settles = record { alive = may.settles.alive; owned = may.settles.owned; unsettled = may.settles.unsettled };
        sent = may.sent;
        same_version = may.same_version;
        covered = may.covered;
        entries = may.entries;
      },
  refl,
)
histories_unread m w (Recover x told) level authority = (
  λ may.
      record {
        settles = record { alive = may.settles.alive; owned = may.settles.owned; unsettled = may.settles.unsettled };
        sent = may.sent;
        same_version = may.same_version;
        own_report = may.own_report;
        from_member = may.from_member;
        from_report = may.from_report;
        complete = may.complete;
      },
  refl,
)

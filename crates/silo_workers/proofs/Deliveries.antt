-- Deliveries of a worker, and how it ends, where more is known of the journal.
use Rattle.std.proofs.Common.{◌≡◌, ◌∙◌, ◌+◌, ◌++◌, [], ◌∷◌, ℕ, List, ap, get_or, length, length-append, sym, subst}
use Rattle.std.specs.Prelude.{IfSome, Option, Some, None, Ok, Err}
use Rattle.std.proofs.lemmas.List.Elements.{All-nil, All-push}
use Rattle.std.proofs.lemmas.Option.{same_Some}
use mathlib.Core.List.{IsPrefix}
use Rattle.silo_address.specs.Silo.{Silo}
use Rattle.directory_rules.specs.Event.{Deliver}
use Rattle.directory_rules.specs.Happens.{happens}
use Rattle.directory_rules.specs.Mail.{letter_of}
use Rattle.directory_rules.specs.Settings.{Settings}
use Rattle.directory_rules.specs.State.{World}
use Rattle.directory_rules.specs.World.{accepted_as}
use Rattle.cluster_board.specs.Commits.{Declines}
use Rattle.cluster_board.specs.Work.{Work}
use Rattle.cluster_board.specs.declared.refusal.CommitRefusal.{CommitRefusal}
use Rattle.cluster_board.specs.declared.refusal.CommitRefusal.TheVariants as refusals
use Rattle.cluster_journal.specs.Entry.{EntryValue}
use Rattle.cluster_journal.specs.Journal.{world_of}
use Rattle.cluster_journal.specs.declared.entry.Receipt.{Receipt}
use Rattle.cluster_journal.proofs.Beginnings.{prefix_none, prefix_self, prefix_then}
use Rattle.silo_workers.specs.Causes.{cause_of}
use Rattle.silo_workers.specs.Delivered.{AreDeliveriesTo, IsDeliveryTo}
use Rattle.silo_workers.specs.SoFar.{IsTally}
use Rattle.silo_workers.specs.Endings.{EndingValue, Ends, GivesUp, IsGivenBy, WasRefused}
use Rattle.silo_workers.specs.declared.cause.Cause.{Cause}
use Rattle.silo_workers.specs.declared.cause.Cause.TheVariants as causes

-- ---- Where more is known.

pub delivery_on : (settings : Settings) (silo : Silo) (known now : List EntryValue) (receipt : Receipt) → IsPrefix known now
    → IsDeliveryTo settings silo known receipt → IsDeliveryTo settings silo now receipt
delivery_on settings silo known now receipt goes_on is = record {
  number = is.number;
  letter = is.letter;
  told = record {
    journal = is.told.journal;
    behind = is.told.behind;
    stands = prefix_then (is.told.journal ++ receipt.entry ∷ []) known now is.told.stands goes_on;
    its = is.told.its;
    number = is.told.number;
    told = is.told.told;
  };
  mailed = is.mailed;
  its = is.its;
}

pub deliveries_on : (settings : Settings) (silo : Silo) (known now : List EntryValue) (receipts : List Receipt) → IsPrefix known now
    → AreDeliveriesTo settings silo known receipts → AreDeliveriesTo settings silo now receipts
deliveries_on settings silo known now receipts goes_on are =
    λ k d within. delivery_on settings silo known now (get_or receipts k d) goes_on (are k d within)

refused_on : (settings : Settings) (silo : Silo) (known now : List EntryValue) (number : ℕ) → IsPrefix known now
    → WasRefused settings silo known number → WasRefused settings silo now number
refused_on settings silo known now number goes_on was = record {
  journal = was.journal;
  begins = prefix_then was.journal known now was.begins goes_on;
  number = was.number;
  letter = was.letter;
  mailed = was.mailed;
  its = was.its;
  refused = was.refused;
}

gives_up_on : (settings : Settings) (silo : Silo) (known now : List EntryValue) (cause : Cause) → IsPrefix known now
    → GivesUp settings silo known cause → GivesUp settings silo now cause
gives_up_on settings silo known now causes.JournalFull goes_on gives = refused_on settings silo known now 908 goes_on gives
gives_up_on settings silo known now causes.MailFull goes_on gives = refused_on settings silo known now 909 goes_on gives
gives_up_on settings silo known now causes.OutOfMemory goes_on gives = tt

why_on : (settings : Settings) (silo : Silo) (known now : List EntryValue) (cause : Option Cause) → IsPrefix known now
    → IfSome cause (GivesUp settings silo known) → IfSome cause (GivesUp settings silo now)
why_on settings silo known now None goes_on why = tt
why_on settings silo known now (Some cause) goes_on why = gives_up_on settings silo known now cause goes_on why

pub ends_on : (settings : Settings) (silo : Silo) (known now : List EntryValue) (ending : EndingValue) → IsPrefix known now
    → Ends settings silo known ending → Ends settings silo now ending
ends_on settings silo known now ending goes_on ends =
    record { its = ends.its; why = why_on settings silo known now ending.cause goes_on ends.why }

-- ---- A commit.

-- what was committed is the last entry of what is known now
pub committed : (settings : Settings) (silo : Silo) (known journal now : List EntryValue) (world after : World) (work : Work)
    (receipt : Receipt) (receipts : List Receipt)
    → AreDeliveriesTo settings silo known receipts → IsPrefix known journal → now ≡ journal ++ receipt.entry ∷ []
    → world_of settings journal ≡ world → world_of settings now ≡ after
    → letter_of world work.number ≡ Some work.letter → work.letter.to ≡ silo
    → happens world (Deliver work.number) ≡ Ok (accepted_as after receipt.entry.outcome) → receipt.entry.event ≡ Deliver work.number
    → receipt.number ≡ length journal + 1
    → AreDeliveriesTo settings silo now (receipts ++ receipt ∷ [])
committed settings silo known journal now world after work receipt receipts are begins is world_is after_is mailed its told event number =
    let all = journal ++ receipt.entry ∷ [] in
    let told_so : happens (world_of settings journal) (Deliver work.number) ≡ Ok (accepted_as (world_of settings all) receipt.entry.outcome) =
    subst (λ (w : World). happens w (Deliver work.number) ≡ Ok (accepted_as (world_of settings all) receipt.entry.outcome)) (sym world_is)
    (subst (λ (w : World). happens world (Deliver work.number) ≡ Ok (accepted_as w receipt.entry.outcome))
    (sym after_is ∙ ap (λ (l : List EntryValue). world_of settings l) is) told) in
    let ends : IsPrefix all now = subst (IsPrefix all) (sym is) (prefix_self all) in
    let goes_on : IsPrefix known now = prefix_then known journal now begins (receipt.entry ∷ [], sym is) in
    All-push (IsDeliveryTo settings silo now) receipts receipt (deliveries_on settings silo known now receipts goes_on are) (record {
      number = work.number;
      letter = work.letter;
      told = record { journal = journal; behind = prefix_none journal; stands = ends; its = event; number = number; told = told_so };
      mailed = subst (λ (w : World). letter_of w work.number ≡ Some work.letter) (sym world_is) mailed;
      its = its;
    })

-- a tally before the first commit
pub none_yet : (settings : Settings) (silo : Silo) (seen : List EntryValue) (parts amount : ℕ) (receipts : List Receipt) → parts ≡ 1
    → amount ≡ 0 → receipts ≡ [] → IsTally settings silo seen parts amount receipts
none_yet settings silo seen parts amount receipts part nothing none =
    subst (IsTally settings silo seen parts amount) (sym none)
    (record { part = part; counted = nothing; delivered = All-nil (IsDeliveryTo settings silo seen) })

-- the tally where nothing was committed, but more was seen
pub nothing_more : (settings : Settings) (silo : Silo) (seen now : List EntryValue) (parts same amount still : ℕ) (receipts : List Receipt)
    → IsTally settings silo seen parts amount receipts → IsPrefix seen now → same ≡ parts → still ≡ amount
    → IsTally settings silo now same still receipts
nothing_more settings silo seen now parts same amount still receipts is goes_on same_is still_is = record {
  part = same_is ∙ is.part;
  counted = still_is ∙ is.counted;
  delivered = deliveries_on settings silo seen now receipts goes_on is.delivered;
}

-- and where something was
pub one_more : (settings : Settings) (silo : Silo) (seen now : List EntryValue) (parts same amount more : ℕ) (receipts all : List Receipt)
    (receipt : Receipt)
    → IsTally settings silo seen parts amount receipts → same ≡ parts → more ≡ amount + 1
    → AreDeliveriesTo settings silo now (receipts ++ receipt ∷ []) → all ≡ receipts ++ receipt ∷ []
    → IsTally settings silo now same more all
one_more settings silo seen now parts same amount more receipts all receipt is same_is more_is delivered all_is =
    subst (IsTally settings silo now same more) (sym all_is) (record {
      part = same_is ∙ is.part;
      counted = more_is ∙ ap (λ n. n + 1) is.counted ∙ sym (length-append receipts (receipt ∷ []));
      delivered = delivered;
    })

-- ---- A refusal.

-- where it has no cause, the work was stale
pub stale : (world : World) (work : Work) (refusal : CommitRefusal) → Declines world work refusal → None ≡ cause_of refusal
    → Declines world work refusals.StaleWork
stale world work refusals.StaleWork declines is = declines
stale world work refusals.JournalFull declines is = absurd (cc)
stale world work refusals.MailFull declines is = absurd (cc)
stale world work refusals.OutOfMemory declines is = absurd (cc)

-- where it has a cause, the worker gives up by it
pub declined : (settings : Settings) (silo : Silo) (known : List EntryValue) (work : Work) (cause : Cause) → work.letter.to ≡ silo
    → IsGivenBy (world_of settings known) work cause → GivesUp settings silo known cause
declined settings silo known work cause its given = gives given.0 given.1 (sym given.2)
  where
    by_number : (number : ℕ) → letter_of (world_of settings known) work.number ≡ Some work.letter
        → happens (world_of settings known) (Deliver work.number) ≡ Err number → WasRefused settings silo known number
    by_number number mailed refused =
        record {
          journal = known;
          begins = prefix_self known;
          number = work.number;
          letter = work.letter;
          mailed = mailed;
          its = its;
          refused = refused;
        }

    gives : (refusal : CommitRefusal) → Declines (world_of settings known) work refusal → Some cause ≡ cause_of refusal
        → GivesUp settings silo known cause
    gives refusals.StaleWork declines is = absurd (cc)
    gives refusals.JournalFull declines is =
        subst (GivesUp settings silo known) (sym (same_Some cause causes.JournalFull is)) (by_number 908 declines.0.mailed declines.1)
    gives refusals.MailFull declines is =
        subst (GivesUp settings silo known) (sym (same_Some cause causes.MailFull is)) (by_number 909 declines.0.mailed declines.1)
    gives refusals.OutOfMemory declines is = subst (GivesUp settings silo known) (sym (same_Some cause causes.OutOfMemory is)) tt

-- What a board keeps, after an event that was refused and one that was accepted.
use Rattle.std.proofs.Common.{◌≡◌, sym, ap, subst, ◌∙◌, ℕ, ◌+◌, List, [], ◌∷◌, ◌++◌, length-append, Ok}
use Rattle.std.specs.Prelude.{None}
use Rattle.silo_address.specs.Silo.{Silo}
use Rattle.directory_rules.specs.declared.Outcome.{Outcome}
use Rattle.std.proofs.lemmas.Option.{same_Some}
use Rattle.directory_rules.specs.Event.{Event, Deliver}
use Rattle.directory_rules.specs.State.{Letter, Node, World}
use Rattle.directory_rules.specs.Settings.{Settings}
use Rattle.directory_rules.specs.Happens.{happens}
use Rattle.cluster_journal.specs.Entry.{EntryValue}
use Rattle.cluster_journal.proofs.Journal.{goes_on}
use Rattle.cluster_board.specs.Changed.{MayChange}
use Rattle.cluster_board.specs.Marked.{AreLeft, marked_at}
use Rattle.cluster_board.specs.Whole.{IsBoard}
use Rattle.cluster_board.specs.Work.{IsCurrent, Work}
use Rattle.cluster_board.proofs.MarksKept.{after_event, fewer}

-- nothing happened, and some marks are gone
pub with_fewer : (settings : Settings) (world same : World) (journal still log as_before : List EntryValue) (total : ℕ)
    (before marks : List (Silo × Node))
    → IsBoard settings world journal log total before → same ≡ world → still ≡ journal → as_before ≡ log → AreLeft before marks
    → IsBoard settings same still as_before total marks
with_fewer settings world same journal still log as_before total before marks is world_is journal_is log_is left =
    subst (λ (w : World). IsBoard settings w still as_before total marks) (sym world_is)
    (subst (λ (j : List EntryValue). IsBoard settings world j as_before total marks) (sym journal_is)
    (record {
      journaled = is.journaled;
      logged = log_is
          ∙ is.logged;
      counted = is.counted;
      marked = fewer world before marks is.marked left;
    }))

-- an event was accepted, and entered
pub entered : (settings : Settings) (world after : World) (journal room new log as_before now : List EntryValue) (total counted : ℕ)
    (before marks : List (Silo × Node)) (event : Event) (outcome : Outcome) (entry : EntryValue)
    → IsBoard settings world journal log total before → room ≡ journal → new ≡ room ++ entry ∷ [] → as_before ≡ log
    → now ≡ as_before ++ entry ∷ [] → counted ≡ total + 1
    → entry.event ≡ event → entry.outcome ≡ outcome
    → AreLeft before marks → ((silo : Silo) → MayChange world event silo → marked_at marks silo ≡ None)
    → happens world event ≡ Ok (record { outcome = outcome; world = after })
    → IsBoard settings after new now counted marks
entered settings world after journal room new log as_before now total counted before marks event outcome entry is room_is new_is log_is
    now_is counted_is event_is outcome_is left gone happened =
    let new_so : new ≡ journal ++ entry ∷ [] = new_is ∙ ap (λ (j : List EntryValue). j ++ entry ∷ []) room_is in
    let its : happens world entry.event ≡ Ok (record { outcome = entry.outcome; world = after }) =
    ap (λ (e : Event). happens world e) event_is ∙ happened
    ∙ ap (λ (o : Outcome). Ok (record { outcome = o; world = after })) (sym outcome_is) in
    subst (λ (j : List EntryValue). IsBoard settings after j now counted marks) (sym new_so)
    (record {
      journaled = goes_on settings journal world after entry is.journaled its;
      logged = now_is ∙ ap (λ (j : List EntryValue). j ++ entry ∷ []) (log_is ∙ is.logged);
      counted = counted_is ∙ ap (λ n. n + 1) is.counted ∙ sym (length-append journal (entry ∷ []));
      marked = after_event world after event outcome before marks is.marked left gone happened;
    })

-- the receiver of the letter of current work has no mark any more
pub receiver_gone : (world : World) (work : Work) (to : Silo) (marks : List (Silo × Node)) → IsCurrent world work → to ≡ work.letter.to
    → marked_at marks to ≡ None
    → (silo : Silo) → MayChange world (Deliver work.number) silo → marked_at marks silo ≡ None
receiver_gone world work to marks current to_is gone silo may =
    let same : may.letter ≡ work.letter = same_Some may.letter work.letter (sym may.mailed ∙ current.mailed) in
    let its : silo ≡ to = may.its ∙ ap (λ (l : Letter). l.to) same ∙ sym to_is in
    ap (λ (s : Silo). marked_at marks s) its ∙ gone

-- a letter was delivered, and entered
pub delivered : (settings : Settings) (world after : World) (journal room new log as_before now : List EntryValue) (total counted : ℕ)
    (before marks : List (Silo × Node)) (work : Work) (to : Silo) (outcome : Outcome) (entry : EntryValue)
    → IsBoard settings world journal log total before → room ≡ journal → new ≡ room ++ entry ∷ [] → as_before ≡ log
    → now ≡ as_before ++ entry ∷ [] → counted ≡ total + 1
    → entry.event ≡ Deliver work.number → entry.outcome ≡ outcome
    → AreLeft before marks → IsCurrent world work → to ≡ work.letter.to → marked_at marks to ≡ None
    → happens world (Deliver work.number) ≡ Ok (record { outcome = outcome; world = after })
    → IsBoard settings after new now counted marks
delivered settings world after journal room new log as_before now total counted before marks work to outcome entry is room_is new_is log_is
    now_is counted_is event_is outcome_is left current to_is gone happened =
    entered settings world after journal room new log as_before now total counted before marks (Deliver work.number) outcome entry is
    room_is new_is log_is now_is counted_is event_is outcome_is left
    (receiver_gone world work to marks current to_is gone) happened

-- Receipts of commands that were carried out, beside those of a journal: its entries are of those commands, and the others of deliveries.
use Rattle.std.proofs.Common.{◌≡◌, ◌∙◌, ◌+◌, ◌-◌, ◌<◌, ◌≤◌, ◌⊎◌, ℕ, Bool, false, Option, Some, Result, Ok, Err, List, [], ◌++◌, length, get_or, ap, arith, inl, inr, refl, sym, subst}
use Rattle.std.proofs.Math.Seq.{get_or-append_right}
use Rattle.std.specs.Prelude.{IfOk, OnOk}
use Rattle.std.specs.Option.{unwrap_or}
use Rattle.std.specs.List.{Any}
use Rattle.std.proofs.lemmas.Bool.Decides.{leb_tells}
use Rattle.std.proofs.lemmas.List.{get_or-map, get_or_append_left, length-append, length-map}
use mathlib.Core.List.{IsPrefix}
use Rattle.directory_rules.specs.Settings.{Settings}
use Rattle.cluster_board.specs.Board.{BoardValue}
use Rattle.cluster_journal.specs.Agreement.{Agree, Stands}
use Rattle.cluster_journal.specs.Entry.{EntryValue}
use Rattle.cluster_journal.specs.Journal.{entry_at}
use Rattle.cluster_journal.specs.declared.entry.Receipt.{Receipt}
use Rattle.script_rules.specs.Script.{Command}
use Rattle.silo_threads.specs.Cluster.{ClusterValue}
use Rattle.silo_threads.specs.Tallied.{HasMore, IsDeliveryToOneOf}
use Rattle.threaded_play.specs.CarriedOut.{AreCarriedOut, CarriesOut, HasDeliveriesBeside, IsDelivery}
use Rattle.console_threads.specs.Driven.{Puts, numbers_of}
use Rattle.console_threads.proofs.EachEntry.{each_entry_has_its_receipt}

module _ (journal : List EntryValue) where
  -- ---- The driver's are among all.

  module _ (settings : Settings) (seen : List EntryValue) (cluster : ClusterValue) (receipts all : List Receipt) (amount total : ℕ)
      (has : HasMore settings seen cluster.workers receipts all amount total) (agree : Agree journal all) where
    many : length all ≡ length receipts + length has.more
    many = ap (λ (l : List Receipt). length l) has.kept ∙ length-append receipts has.more

    within_all : (k : ℕ) → k < length receipts → k < length all
    within_all k within = let its = many in omega (within, its, arith)

    same_place : (k : ℕ) (d : Receipt) → k < length receipts → get_or all k d ≡ get_or receipts k d
    same_place k d within = ap (λ (l : List Receipt). get_or l k d) has.kept ∙ get_or_append_left receipts has.more d k within

    -- ---- The others are the silos' deliveries.

    -- the entry that a receipt is of
    its_entry : (receipt : Receipt) (number : ℕ) (entry : EntryValue) → Stands journal receipt → receipt.number ≡ number
        → entry_at journal number ≡ Some entry → receipt.entry ≡ entry
    its_entry receipt number entry stands same at =
        ap (λ (o : Option EntryValue). unwrap_or o receipt.entry) (sym stands ∙ (ap (entry_at journal) same ∙ at))

    delivery : (receipt : Receipt) (entry : EntryValue) → IsDeliveryToOneOf settings seen cluster.workers receipt → receipt.entry ≡ entry
        → IsDelivery entry.event
    delivery receipt entry delivered is = subst (λ (e : EntryValue). IsDelivery e.event) is (subst IsDelivery (sym delivered.4.told.its) tt)

    -- a receipt behind the driver's is of a delivery
    behind : (k : ℕ) (receipt : Receipt) → length receipts ≤ k → k < length all → get_or all k receipt ≡ receipt
        → IsDeliveryToOneOf settings seen cluster.workers receipt
    behind k receipt later within is =
        let its = many in
        let place = ap (λ (l : List Receipt). get_or l k receipt) (sym has.kept) in
        subst (IsDeliveryToOneOf settings seen cluster.workers) (sym (get_or-append_right receipts has.more k receipt later) ∙ (place ∙ is))
        (has.its (k - length receipts) receipt (omega (within, later, its, arith)))

    pub deliveries_beside : HasDeliveriesBeside journal (numbers_of receipts)
    deliveries_beside number entry at =
        let found = each_entry_has_its_receipt journal all number entry agree at in
        let k = found.0 in
        let receipt = found.1 in
        elim (leb_tells (length receipts) k) as (λ _. Any (λ one. one ≡ number) (numbers_of receipts) ⊎ IsDelivery entry.event) [
          | inr less ↦
              let sooner = less.1 in
              let same = get_or-map (λ (r : Receipt). r.number) receipts k receipt number sooner ∙ (ap (λ (r : Receipt). r.number) (sym (same_place k receipt sooner) ∙ found.3) ∙ found.4) in
              let within = length-map receipts (λ (r : Receipt). r.number) in
              inl (k, number, omega (sooner, within, arith), same, refl)
          | inl more ↦
              let later = more.1 in
              let delivered = behind k receipt later found.2 found.3 in
              inr (delivery receipt entry delivered (its_entry receipt number entry
              (subst (Stands journal) found.3 (agree.stand k receipt found.2)) found.4 at))
        ]

-- ---- Of a cluster that was closed.

pub closed_carries_out : {E : Type 0} (settings : Settings) (closed : Result BoardValue E) (commands : List Command)
    (seen now : List EntryValue) (before receipts : List Receipt) (lacks : Bool) → before ≡ []
    → seen ≡ [] → (lacks ≡ false → Puts (λ journal from to. AreCarriedOut settings journal from to commands) seen now before receipts)
    → OnOk closed (lacks ≡ false)
    → IfOk closed (λ board. IsPrefix now board.journal) → IfOk closed (λ board. HasDeliveriesBeside board.journal (numbers_of receipts))
    → IfOk closed (λ board. CarriesOut settings board.journal commands)
closed_carries_out settings (Ok board) commands seen now before receipts lacks none nothing puts all begins beside =
    let its = puts all in
    let is : its.more ≡ receipts = sym (its.kept ∙ ap (λ (l : List Receipt). l ++ its.more) none) in
    record {
      numbers = numbers_of receipts;
      known = length now;
      carried = subst (λ (l : List Receipt). AreCarriedOut settings board.journal 0 (length now) commands (numbers_of l)) is
          (subst (λ (l : List EntryValue). AreCarriedOut settings board.journal (length l) (length now) commands (numbers_of its.more))
          nothing (its.its board.journal begins));
      beside = beside;
    }
closed_carries_out settings (Err error) commands seen now before receipts lacks none nothing puts all begins beside = tt

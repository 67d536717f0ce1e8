-- What is told of an event that was posted.
use Rattle.std.proofs.Common.{◌≡◌, ◌∙◌, ◌+◌, ◌++◌, [], ◌∷◌, ℕ, List, Option, Some, None, Result, Ok, Err, IfErr, IfOk, OnErr, ap, length, length-append, subst, sym}
use mathlib.Core.List.{IsPrefix}
use Rattle.directory_rules.specs.Event.{Event}
use Rattle.directory_rules.specs.Happens.{happens}
use Rattle.directory_rules.specs.Settings.{Settings}
use Rattle.directory_rules.specs.State.{World}
use Rattle.directory_rules.specs.World.{accepted_as}
use Rattle.directory_node.specs.Follows.{Follows, RefusesBy}
use Rattle.directory_core.specs.Numbers.{IsNumberedUnlessMemory, event_refusal_number}
use Rattle.directory_core.specs.declared.refusal.EventRefusal.{EventRefusal}
use Rattle.cluster_journal.specs.Entry.{EntryValue}
use Rattle.cluster_journal.specs.Journal.{IsJournaled, world_of}
use Rattle.cluster_journal.specs.Posted.{IsReceiptOf}
use Rattle.cluster_journal.specs.declared.entry.Receipt.{Receipt}
use Rattle.cluster_journal.proofs.Beginnings.{its_world, prefix_self, prefix_then}
use Rattle.cluster_board.specs.Board.{BoardValue}
use Rattle.silo_threads.specs.Replies.{IsRefusalOf, IsRefusedBy}

-- what follows the rule in a world, whatever excuses want of a number
abbrev pub FollowsIn : World → Event → World → Result Receipt EventRefusal → Type 0
FollowsIn world event after result =
    Follows (λ (receipt : Receipt). accepted_as after receipt.entry.outcome) event_refusal_number (λ _. Unit {0}) (happens world event)
    result

module _ (settings : Settings) (event : Event) (known now : List EntryValue) (old new : BoardValue) (begins : IsPrefix known old.journal)
    (is_now : now ≡ new.journal)
    (was : IsJournaled settings old.journal old.world) (is : IsJournaled settings new.journal new.world) where
  -- what is known now leaves the board's world
  pub left : new.world ≡ world_of settings now
  left = sym (its_world settings new.journal new.world is) ∙ ap (λ (l : List EntryValue). world_of settings l) (sym is_now)

  module _ (receipt : Receipt) (entered : new ≡ record old { world = new.world; journal = old.journal ++ receipt.entry ∷ [] }) where
    all : now ≡ old.journal ++ receipt.entry ∷ []
    all = is_now ∙ ap (λ (b : BoardValue). b.journal) entered

    one_more : IsPrefix known now
    one_more = prefix_then known old.journal now begins (receipt.entry ∷ [], sym all)

    longer : receipt.number ≡ length old.journal + 1 → receipt.number ≡ length now
    longer number = number ∙ sym (ap (λ (l : List EntryValue). length l) all ∙ length-append old.journal (receipt.entry ∷ []))

    told_so : happens old.world event ≡ Ok (accepted_as new.world receipt.entry.outcome)
        → happens (world_of settings old.journal) event ≡ Ok
        (accepted_as (world_of settings (old.journal ++ receipt.entry ∷ [])) receipt.entry.outcome)
    told_so told =
        ap (λ (w : World). happens w event) (its_world settings old.journal old.world was) ∙ told
        ∙ ap (λ (w : World). Ok (accepted_as w receipt.entry.outcome)) (left ∙ ap (λ (l : List EntryValue). world_of settings l) all)

  -- the entry of an event that was accepted is the last one that is known now
  pub received : (result : Result Receipt EventRefusal) → FollowsIn old.world event new.world result
      → IfOk result (λ receipt. receipt.entry.event ≡ event)
      → IfOk result (λ receipt. receipt.number ≡ length old.journal + 1)
      → IfOk result (λ receipt. new ≡ record old { world = new.world; journal = old.journal ++ receipt.entry ∷ [] })
      → IfOk result (IsReceiptOf settings known now event)
  received (Ok receipt) told its number entered = record {
    journal = old.journal;
    behind = begins;
    stands =
        subst (IsPrefix (old.journal ++ receipt.entry ∷ [])) (sym (all receipt entered)) (prefix_self (old.journal ++ receipt.entry ∷ []));
    its = its;
    number = number;
    told = told_so receipt entered told;
  }
  received (Err refusal) told its number entered = tt

  pub last : (result : Result Receipt EventRefusal) → IfOk result (λ receipt. receipt.number ≡ length old.journal + 1)
      → IfOk result (λ receipt. new ≡ record old { world = new.world; journal = old.journal ++ receipt.entry ∷ [] })
      → IfOk result (λ receipt. receipt.number ≡ length now)
  last (Ok receipt) number entered = longer receipt entered number
  last (Err refusal) number entered = tt

  as_before : new ≡ old → now ≡ old.journal
  as_before same = is_now ∙ ap (λ (b : BoardValue). b.journal) same

  -- accepted or refused, what was known begins what is known now
  pub goes_on : (result : Result Receipt EventRefusal)
      → IfOk result (λ receipt. new ≡ record old { world = new.world; journal = old.journal ++ receipt.entry ∷ [] })
      → OnErr result (new ≡ old)
      → IsPrefix known now
  goes_on (Ok receipt) entered same = one_more receipt entered
  goes_on (Err refusal) entered same = subst (IsPrefix known) (sym (as_before same)) begins

  refused_by : (number : Option ℕ) → new ≡ old → RefusesBy (λ _. Unit {0}) number (happens old.world event)
      → IsRefusedBy settings known now event number
  refused_by (Some number) same refused = record {
    behind = subst (IsPrefix known) (sym (as_before same)) begins;
    refused = ap (λ (w : World). happens w event) (sym left ∙ ap (λ (b : BoardValue). b.world) same) ∙ refused;
  }
  refused_by None same refused = tt

  pub refused : (result : Result Receipt EventRefusal) → FollowsIn old.world event new.world result → IfErr result IsNumberedUnlessMemory
      → OnErr result (new ≡ old)
      → IfErr result (IsRefusalOf settings known now event)
  refused (Ok receipt) told numbered same = tt
  refused (Err refusal) told numbered same = record { by_number = refused_by (event_refusal_number refusal) same told; numbered = numbered }

-- What workers did, put together, that of one after the other.
use Rattle.std.proofs.Common.{◌≡◌, ◌∙◌, ◌+◌, ℕ, false, List, [], ◌∷◌, ◌++◌, All, ap, append_assoc, arith, get_or, length, subst, sym}
use Rattle.std.specs.List.{Any}
use Rattle.std.specs.Prelude.{Result, Ok, Err, OnOk, is_err}
use Rattle.std.proofs.Math.Seq.{get_or-append_seam}
use Rattle.std.proofs.lemmas.List.{append-nil, length-append}
use Rattle.std.proofs.lemmas.List.Elements.{All-append, All-nil, All-push}
use mathlib.Core.List.{IsPrefix}
use Rattle.silo_address.specs.Silo.{Silo}
use Rattle.directory_rules.specs.Settings.{Settings}
use Rattle.cluster_journal.specs.Entry.{EntryValue}
use Rattle.cluster_journal.specs.declared.entry.Receipt.{Receipt}
use Rattle.silo_workers.specs.Delivered.{AreDeliveriesTo, IsDeliveryTo}
use Rattle.silo_workers.specs.Endings.{EndingValue, Ends}
use Rattle.silo_workers.proofs.Deliveries.{delivery_on, ends_on}
use Rattle.silo_threads.specs.Tallied.{HasMore, IsDeliveryToOneOf, IsEndingOfOneOf}

-- the workers still to be joined stand in front of those that were
pub record AreLeft (all left : List Silo) : Type 0 where
  pub joined : List Silo
  pub is : all ≡ left ++ joined

-- the last of those still to be joined stands in front of those that were
stands_next : (all left now : List Silo) (silo : Silo) → left ≡ now ++ silo ∷ [] → (are : AreLeft all left) → all ≡ now ++ silo ∷ are.joined
stands_next all left now silo is are = are.is ∙ (ap (λ (l : List Silo). l ++ are.joined) is ∙ append_assoc now (silo ∷ []) are.joined)

-- then it was joined too
pub one_joined : (all left now : List Silo) (silo : Silo) → left ≡ now ++ silo ∷ [] → AreLeft all left → AreLeft all now
one_joined all left now silo is are = record { joined = silo ∷ are.joined; is = stands_next all left now silo is are }

-- how those ended that were joined
pub record EndedSoFar (settings : Settings) (known : List EntryValue) (all left : List Silo) (endings : List EndingValue) : Type 0 where
  pub many : length endings + length left ≡ length all
  pub its : All (IsEndingOfOneOf settings known all) endings

module _ (settings : Settings) (silos left now : List Silo) (silo : Silo) (is : left ≡ now ++ silo ∷ []) (are : AreLeft silos left)
    (before known its : List EntryValue)
    (mine : IsPrefix before known) (theirs : IsPrefix its known) where
  -- the silo whose worker was joined is one of them
  one_of : (P : Silo → Type 0) → P silo → Any P silos
  one_of P its =
      let next = stands_next silos left now silo is are in
      let many = ap (λ (l : List Silo). length l) next ∙ length-append now (silo ∷ are.joined) in (
        length now,
        silo,
        omega (many, arith),
        subst (λ (l : List Silo). get_or l (length now) silo ≡ silo) (sym next)
            (get_or-append_seam now silo are.joined silo),
        its,
      )

  -- what held when less was known
  still : (receipt : Receipt) → IsDeliveryToOneOf settings before silos receipt → IsDeliveryToOneOf settings known silos receipt
  still receipt held = (held.0, held.1, held.2, held.3, delivery_on settings held.1 before known receipt mine held.4)

  still_ended : (ending : EndingValue) → IsEndingOfOneOf settings before silos ending → IsEndingOfOneOf settings known silos ending
  still_ended ending held = (held.0, held.1, held.2, held.3, ends_on settings held.1 before known ending mine held.4)

  -- its receipts are put to the others
  pub one_more : (receipts all put after : List Receipt) (amount total more : ℕ) → AreDeliveriesTo settings silo its put
      → after ≡ all ++ put → more ≡ total + length put
      → HasMore settings before silos receipts all amount total → HasMore settings known silos receipts after amount more
  one_more receipts all put after amount total more delivered is_put counted has =
      let many = length-append has.more put in
      record {
        more = has.more ++ put;
        kept = is_put ∙ (ap (λ (l : List Receipt). l ++ put) has.kept ∙ append_assoc receipts has.more put);
        its = All-append (IsDeliveryToOneOf settings known silos) has.more put
            (λ k d within. still (get_or has.more k d) (has.its k d within))
            (λ k d within. one_of (λ s. IsDeliveryTo settings s known (get_or put k d))
            (delivery_on settings silo its known (get_or put k d) theirs (delivered k d within)));
        counted = let so_far = has.counted in omega (counted, so_far, many, arith);
      }

  -- and how it ended
  pub one_ended : (endings after : List EndingValue) (ending : EndingValue) → after ≡ endings ++ ending ∷ [] → Ends settings silo its ending
      → EndedSoFar settings before silos left endings
      → EndedSoFar settings known silos now after
  one_ended endings after ending is_put ends so_far =
      let more = length-append endings (ending ∷ []) in
      let count = ap (λ (l : List EndingValue). length l) is_put in
      let fewer = ap (λ (l : List Silo). length l) is ∙ length-append now (silo ∷ []) in
      let sum = so_far.many in
      record {
        many = omega (more, count, fewer, sum, arith);
        its = subst (All (IsEndingOfOneOf settings known silos)) (sym is_put)
            (All-push (IsEndingOfOneOf settings known silos) endings ending
            (λ k d within. still_ended (get_or endings k d) (so_far.its k d within))
            (one_of (λ s. Ends settings s known ending) (ends_on settings silo its known ending theirs ends)));
      }

-- before the first is joined
pub none_yet : (settings : Settings) (known : List EntryValue) (silos : List Silo) (receipts : List Receipt) (amount : ℕ)
    → HasMore settings known silos receipts receipts amount amount
none_yet settings known silos receipts amount =
    record { more = []; kept = sym (append-nil receipts); its = All-nil (IsDeliveryToOneOf settings known silos); counted = omega arith }

-- what holds where nothing was lost
pub unless_lost : {T E : Type 0} (result : Result T E) (P : Type 0) → OnOk result P → is_err result ≡ false → P
unless_lost (Ok value) P p well = p
unless_lost (Err error) P p well = absurd (cc)

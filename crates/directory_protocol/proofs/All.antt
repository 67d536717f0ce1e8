-- The whole invariant holds in every world that is reached, and gives what is promised.
use Rattle.std.proofs.Common.{◌≡◌, true, Some, List, [], ◌∷◌, inl, inr, sym, refl, ◌∙◌, subst}
use Rattle.directory_protocol.specs.Setting.{Setting}
use Rattle.directory_protocol.specs.Letters.{activation_on}
use Rattle.directory_protocol.specs.World.{World, start}
use Rattle.directory_protocol.specs.Actions.{Action, New_view, See, Start, Close, Offer_away, Renew, Find, Serve, Confirm, Leave, Tell, Install, Recover, Allowed}
use Rattle.directory_protocol.specs.Effects.{after, run, AllAllowed}
use Rattle.directory_protocol.specs.Invariant.{Placed, Asked, Backed}
use Rattle.directory_protocol.specs.Safety.{OneSettles, OneFirm, SettledIsRight, SealedOnce, AfterAnyRun, SettledServesAlone}
use Rattle.directory_protocol.proofs.Placed.{placed_start, placed_after, one_settles}
use Rattle.directory_protocol.proofs.Numbers.{numbers_start, numbers_after}
use Rattle.directory_protocol.proofs.Notices.{notices_start, notices_after}
use Rattle.directory_protocol.proofs.SpentAfter.{spent_start, spent_after}
use Rattle.directory_protocol.proofs.Backed.{backed_start, backed_after}

-- the three parts of the invariant
pub record Kept (m : Setting) (w : World) : Type 0 where
  pub placed : Placed m w
  pub asked : Asked m w
  pub backed : Backed m w

pub kept_start : (m : Setting) → Kept m start
kept_start m =
    record {
      placed = placed_start m;
      asked = record { numbers = numbers_start m; notices = notices_start; spent = spent_start m };
      backed = backed_start m;
    }

pub kept_after : (m : Setting) (w : World) (a : Action) → Allowed m w a → Kept m w → Kept m (after m w a)
kept_after m w a may k =
    record {
      placed = placed_after m w a may k.placed;
      asked = record {
        numbers = numbers_after m w a may k.placed k.asked.numbers;
        notices = notices_after m w a may k.placed k.asked.notices;
        spent = spent_after m w a may k.placed k.asked.numbers k.asked.spent;
      };
      backed = backed_after m w a may k.placed k.asked k.backed;
    }

pub kept_run : (m : Setting) (actions : List Action) (w : World) → AllAllowed m actions w → Kept m w → Kept m (run m actions w)
kept_run m [] w may k = k
kept_run m (a ∷ rest) w may k = kept_run m rest (after m w a) may.1 (kept_after m w a may.0 k)

pub kept_reached : (m : Setting) (actions : List Action) → AllAllowed m actions start → Kept m (run m actions start)
kept_reached m actions may = kept_run m actions start may (kept_start m)

-- ---- what is promised

one_firm : (m : Setting) (w : World) → Kept m w → OneFirm m w
one_firm m w k g s t c d a b =
    let e : w.authority g ≡ Some (activation_on s c) = k.backed.confirmed.firm s g c a.alive a.firm in
    let f : w.authority g ≡ Some (activation_on t d) = k.backed.confirmed.firm t g d b.alive b.firm in
    cc

settled_is_right : (m : Setting) (w : World) → Kept m w → SettledIsRight m w
settled_is_right m w k g s i =
    record {
      complete = λ t c f. right ∙ k.backed.confirmed.firm t g c f.alive f.firm;
      held = λ a e l. k.backed.entries.held_there g a (sym right ∙ e);
      live = λ a e now.
          let member : m.member (w.level (m.hash g)) a.silo ≡ true = k.backed.entries.on_member g a (sym right ∙ e) in
          m.member_is_alive w.now a.silo (subst (λ v. m.member v a.silo ≡ true)
          (k.placed.levels.at_level s (m.hash g) i.alive i.settled ∙ now) member);
    }
  where
    right : w.table s g ≡ w.authority g
    right = k.backed.entries.right s g i.alive i.settled

pub one_silo_settles : AfterAnyRun OneSettles
one_silo_settles m actions may = one_settles m (run m actions start) (kept_reached m actions may).placed

pub settled_tables_are_right : AfterAnyRun SettledIsRight
settled_tables_are_right m actions may = settled_is_right m (run m actions start) (kept_reached m actions may)

pub hashes_are_sealed_once : AfterAnyRun SealedOnce
hashes_are_sealed_once m actions may h x y = (kept_reached m actions may).placed.levels.sealed_once x y h

pub no_two_firm : AfterAnyRun OneFirm
no_two_firm m actions may = one_firm m (run m actions start) (kept_reached m actions may)

-- ---- who answers

pub only_settled_answer : (m : Setting) (w : World) (a : Action) → SettledServesAlone m w a
only_settled_answer m w New_view may y q = inl q
only_settled_answer m w (See x) may y q = inl q
only_settled_answer m w (Start s g previous) may y q = inl q
only_settled_answer m w (Close s g x) may y q = inl q
only_settled_answer m w (Offer_away s g c) may y q = inl q
only_settled_answer m w (Renew s g x purpose) may y q = inl q
only_settled_answer m w (Find s) may y q = inl q
only_settled_answer m w (Serve x) may y (inl e) = inr (x, refl, e, record { alive = may.alive; settled = may.settled }, may.same_version)
only_settled_answer m w (Serve x) may y (inr q) = inl q
only_settled_answer m w (Confirm y' g x) may y q = inl q
only_settled_answer m w (Leave y' g x) may y q = inl q
only_settled_answer m w (Tell s) may y q = inl q
only_settled_answer m w (Install x snapshot) may y q = inl q
only_settled_answer m w (Recover x told) may y q = inl q

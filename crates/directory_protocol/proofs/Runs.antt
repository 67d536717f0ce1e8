-- Lists of actions, one after the other: for stories, and for whoever shows that an event is a list of actions.
use Rattle.std.proofs.Common.{◌≡◌, List, [], ◌∷◌, ◌++◌, sym, refl, ap, ◌∙◌, subst}
use Rattle.directory_protocol.specs.Setting.{Setting}
use Rattle.directory_protocol.specs.World.{World, start}
use Rattle.directory_protocol.specs.Actions.{Action, Allowed}
use Rattle.directory_protocol.specs.Effects.{after, run, AllAllowed}
use Rattle.directory_protocol.specs.Safety.{IsReached, AfterAnyRun}

pub run_append : (m : Setting) (xs ys : List Action) (w : World) → run m (xs ++ ys) w ≡ run m ys (run m xs w)
run_append m [] ys w = refl
run_append m (x ∷ xs) ys w = run_append m xs ys (after m w x)

pub allowed_append :
    (m : Setting) (xs ys : List Action) (w : World) → AllAllowed m xs w → AllAllowed m ys (run m xs w) → AllAllowed m (xs ++ ys) w
allowed_append m [] ys w a b = b
allowed_append m (x ∷ xs) ys w a b = (a.0, allowed_append m xs ys (after m w x) a.1 b)

pub reached_start : (m : Setting) → IsReached m start
reached_start m = ([], tt, refl)

-- allowed actions lead from a world that is reached to another
pub reached_run : (m : Setting) (w : World) (actions : List Action) → IsReached m w → AllAllowed m actions w → IsReached m (run m actions w)
reached_run m w actions r may = (
  r.0 ++ actions,
  allowed_append m r.0 actions start r.1 (subst (AllAllowed m actions) (sym r.2) may),
  run_append m r.0 actions start
      ∙ ap (run m actions) r.2,
)

pub reached_after : (m : Setting) (w : World) (a : Action) → IsReached m w → Allowed m w a → IsReached m (after m w a)
reached_after m w a r may = reached_run m w (a ∷ []) r (may, tt)

-- what holds after any run holds in each world that is reached
pub holds_where_reached : (Holds : Setting → World → Type 0) → AfterAnyRun Holds → (m : Setting) (w : World) → IsReached m w → Holds m w
holds_where_reached Holds always m w r = subst (Holds m) r.2 (always m r.0 r.1)

-- Letters that come in any order, each of them fresh: what each of these deliveries keeps, all of them keep.
use Rattle.std.proofs.Common.{◌≡◌, refl, ap, ◌∙◌, ℕ, List, [], ◌∷◌, subst}
use Rattle.std.specs.Prelude.{Bool, true, false, cond, Option, Some, None, Result, Ok, Err}
use Rattle.std.specs.Ordering.{nat_cmp}
use Rattle.std.specs.Map.{lookup}
use Rattle.std.specs.BTreeMap.{is_at}
use Rattle.texts.proofs.Decided.{both}
use Rattle.directory_rules.specs.State.{Letter, World, Posted, Accepted}
use Rattle.directory_rules.specs.Event.{Deliver}
use Rattle.directory_rules.specs.Happens.{happens, least_deliverable}
use Rattle.progress_rules.specs.Plan.{then_on, ended}
use Rattle.progress_rules.specs.Second.{Flies}
use Rattle.progress_rules.specs.AnyOrder.{may_come, settled_in, PiecesComeBackInAnyOrder}
use Rattle.progress_rules.proofs.Flying.{fresh_is}
use Rattle.progress_rules.proofs.Resting.{IsEnded, Settles}
use Rattle.progress_rules.proofs.Synced.{ranges_settled}

-- a letter that may come is still to come
flies_so : (world : World) (number : ℕ) (o : Option Posted) → lookup (is_at (nat_cmp number)) world.mail ≡ o → may_come o world ≡ true
    → (letter : Letter) × Flies world number letter
flies_so world number None found may = absurd (cc (may))
flies_so world number (Some posted) found may =
    let so = both posted.fresh _ may in
    (posted.letter, record { found = found ∙ ap Some (fresh_is posted so.0); comes = so.1 })

pub settled_in_keeps : (I : World → Type 0)
    → ((world : World) (number : ℕ) (letter : Letter) (accepted : Accepted) → I world → Flies world number letter
    → happens world (Deliver number) ≡ Ok accepted
    → I accepted.world)
    → (order : List ℕ) (world after : World) → I world → settled_in order world ≡ Ok after → IsEnded I after
settled_in_keeps I k [] world after holds is = by (least_deliverable world) refl is
  where
    by : (o : Option ℕ) → least_deliverable world ≡ o → ended o world ≡ Ok after → IsEnded I after
    by None none is = let same : world ≡ after = cc (is) in subst (IsEnded I) same (record { kept = holds; none = none })
    by (Some number) some is = absurd (cc (is))
settled_in_keeps I k (number ∷ order) world after holds is = by (may_come (lookup (is_at (nat_cmp number)) world.mail) world) refl
    (λ next on rest. settled_in_keeps I k order next after on rest) is
  where
    Later : Type 0
    Later = (next : World) → I next → settled_in order next ≡ Ok after → IsEnded I after

    further : may_come (lookup (is_at (nat_cmp number)) world.mail) world ≡ true → (r : Result Accepted ℕ)
        → happens world (Deliver number) ≡ r → Later
        → then_on r (λ next. settled_in order next) ≡ Ok after → IsEnded I after
    further may (Err refusal) happened on is = absurd (cc (is))
    further may (Ok accepted) happened on is =
        let flight = flies_so world number (lookup (is_at (nat_cmp number)) world.mail) refl may in
        on accepted.world (k world number flight.0 accepted holds flight.1 happened) is

    by : (b : Bool) → may_come (lookup (is_at (nat_cmp number)) world.mail) world ≡ b → Later
        → cond {A = Result World ℕ} b (then_on (happens world (Deliver number)) (λ next. settled_in order next)) (Err 0) ≡ Ok after
        → IsEnded I after
    by true may on is = further may (happens world (Deliver number)) refl on is
    by false not on is = absurd (cc (is))

pub any_settles : (order : List ℕ) → Settles (λ world. settled_in order world)
any_settles order I k world after holds is =
    settled_in_keeps I (λ now number letter accepted kept flies ok. k now number accepted kept ok) order world after holds is

-- ---- so each piece is settled after one round
pub pieces_come_back_in_any_order : PiecesComeBackInAnyOrder
pieces_come_back_in_any_order settings events order after are named is =
    (ranges_settled (λ world. settled_in order world) (any_settles order) settings events after are named is).1

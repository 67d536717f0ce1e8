-- A letter of empty ranges: one range after the other, nothing comes of it, or it is taken as a report, or that settles the range.
use Rattle.std.proofs.Common.{◌≡◌, List, [], ◌∷◌, ◌++◌, refl, sym, subst}
use Rattle.std.specs.Prelude.{All, fold}
use Rattle.std.specs.Ordering.{nat_cmp}
use Rattle.std.specs.BTreeMap.{is_at}
use Rattle.std.proofs.lemmas.List.Elements.{All-head, All-tail}
use Rattle.silo_address.specs.Silo.{Silo}
use Rattle.ring_range.specs.Range.{Range}
use Rattle.directory_protocol.specs.Setting.{Setting}
use Rattle.directory_protocol.specs.World as protocol
use Rattle.directory_protocol.specs.Actions.{Action}
use Rattle.directory_protocol.specs.Effects.{run, AllAllowed}
use Rattle.directory_protocol.proofs.Runs.{run_append, allowed_append}
use Rattle.directory_rules.specs.declared.effect.Effect.{Effect}
use Rattle.directory_rules.specs.declared.effect.Effect.TheVariants as effect
use Rattle.directory_rules.specs.declared.piece_state.PieceState.TheVariants.{Settled}
use Rattle.directory_rules.specs.State.{Piece, Letter, Empty_letter, Node, World}
use Rattle.directory_rules.specs.Step.{silently}
use Rattle.directory_rules.specs.Transfer.{nothing_in, told_nothing, with_recovery, with_settled}
use Rattle.directory_rules.proofs.Ranges.{ranges, changed_ranges}
use Rattle.directory_facts.proofs.Emptied.{as_report, by_nothing, one_leaves}
use Rattle.directory_headline.specs.Shown.{IsShownLetter, IsShownBody, IsShownEmpty}
use Rattle.directory_headline.proofs.Actors.{AllBy, by_append, leaves_run}
use Rattle.directory_headline.proofs.MoreLetters.{empties_still}
use Rattle.directory_headline.proofs.Stands.{Stands, stands, stands_on}
use Rattle.directory_headline.proofs.Tellings.{collects}
use Rattle.directory_headline.proofs.LastReport.{completes}
use Rattle.directory_headline.proofs.Frame.{Here, Comes, Moves, stays, no_letters}

-- actions of the silo, all allowed, after which it stands with this node
pub record Leads (m : Setting) (w : protocol.World) (silo : Silo) (next : Node) : Type 0 where
  pub actions : List Action
  pub allowed : AllAllowed m actions w
  pub by : AllBy silo actions
  pub reaches : Stands m (run m actions w) silo next

-- the one and then the others
leads_on : (m : Setting) (w : protocol.World) (silo : Silo) (node next : Node) (first : Leads m w silo node)
    → Leads m (run m first.actions w) silo next → Leads m w silo next
leads_on m w silo node next first more = record {
  actions = first.actions ++ more.actions;
  allowed = allowed_append m first.actions more.actions w first.allowed more.allowed;
  by = by_append silo first.actions more.actions first.by more.by;
  reaches = subst (λ later. Stands m later silo next) (sym (run_append m first.actions more.actions w)) more.reaches;
}

-- where no letters are sent, the effect doesn't matter
quietly : (m : Setting) (w : protocol.World) (silo : Silo) (node : Node) (its other : Effect) → Moves m w silo (silently node its)
    → Moves m w silo (silently node other)
quietly m w silo node its other x =
    record { actions = x.actions; allowed = x.allowed; by = x.by; node = x.node; letters = x.letters }

-- ---- one range
module _ (m : Setting) (w : protocol.World) (silo : Silo) (node : Node) (it : Stands m w silo node) (letter : Letter) (range : Range)
    (shown : IsShownEmpty m.hash w.reports letter range) where
  abbrev next : Node
  next = told_nothing letter node range

  same_ranges : ranges next.holding.pieces ≡ ranges node.holding.pieces
  same_ranges =
      by_nothing letter node range (λ n. ranges n.holding.pieces ≡ ranges node.holding.pieces) refl (λ recovery so. refl)
      (λ table so.
      let piece : Piece = record { range = range; state = Settled; entries = table } in
      changed_ranges (is_at (nat_cmp range.start)) node.holding.pieces so.0.piece piece so.0.has.found so.0.has.same)

  moves : Moves m w silo (silently next effect.Ignored)
  moves =
      by_nothing letter node range (λ n. Moves m w silo (silently n effect.Ignored))
      (stays m w silo (silently node effect.Ignored) it.shown (no_letters (IsShownLetter m.hash w)))
      (λ recovery so. quietly m w silo (with_recovery node recovery) effect.More effect.Ignored
      (collects m w silo node it (as_report letter range) (nothing_in letter range) so.0 shown recovery so.1))
      (λ table so. quietly m w silo (with_settled node range table) effect.Complete effect.Ignored
      (completes m w silo node it (as_report letter range) (nothing_in letter range) so.0 shown table so.1))

  leads : Leads m w silo next
  leads =
      let made = moves in
      record {
        actions = made.actions;
        allowed = made.allowed;
        by = made.by;
        reaches =
            stands_on m w (run m made.actions w) silo node next it (one_leaves letter node range) same_ranges
            (leaves_run m made.actions w silo made.by).now made.node;
      }

-- ---- and one after the other
each_leads : (m : Setting) (silo : Silo) (letter : Letter) (ranges : List Range) (w : protocol.World) (node : Node) → Stands m w silo node
    → All (IsShownEmpty m.hash w.reports letter) ranges → Leads m w silo (fold (told_nothing letter) node ranges)
each_leads m silo letter [] w node it all = record { actions = []; allowed = tt; by = tt; reaches = it }
each_leads m silo letter (range ∷ ranges) w node it all =
    let first = leads m w silo node it letter range (All-head (IsShownEmpty m.hash w.reports letter) range ranges all) in
    let later = run m first.actions w in
    let still = empties_still m w later (leaves_run m first.actions w silo first.by).grows letter ranges
    (All-tail (IsShownEmpty m.hash w.reports letter) range ranges all) in
    leads_on m w silo (told_nothing letter node range) (fold (told_nothing letter) node (range ∷ ranges)) first
    (each_leads m silo letter ranges later (told_nothing letter node range) first.reaches still)

pub empties :
    (m : Setting) (f : World) (w : protocol.World) (silo : Silo) (node : Node) → Here m f w silo node → (letter : Letter)
    (ranges : List Range) (its : Effect) → letter.body ≡ Empty_letter ranges → Comes m f w silo letter
    → Moves m w silo (silently (fold (told_nothing letter) node ranges) its)
empties m f w silo node here letter ranges its body comes =
    let led = each_leads m silo letter ranges w node (stands m f w silo node here) (subst (IsShownBody m.hash w letter) body comes.shown) in
    record {
      actions = led.actions;
      allowed = led.allowed;
      by = led.by;
      node = led.reaches.shown;
      letters = no_letters (IsShownLetter m.hash (run m led.actions w));
    }

-- Worlds that events reach by the settings, and what holds of each.
use Rattle.std.proofs.Common.{arith, ◌≡◌, refl, sym, ap, subst, ◌∙◌, ◌≤◌, List, [], ◌∷◌, ◌++◌}
use Rattle.std.specs.Prelude.{true, nat_le, All, Option, Some, None, Ok}
use Rattle.std.specs.Option.{option_map, unwrap_or}
use Rattle.std.proofs.lemmas.Bool.{le-leb}
use Rattle.std.proofs.lemmas.List.Elements.{All-nil, All-cons, All-append}
use Rattle.silo_address.specs.Silo.{Silo, IsSilo}
use Rattle.membership_view.specs.declared.row.Row.{Row}
use Rattle.membership_view.specs.Views.{row_of}
use Rattle.membership_view.specs.Whole.{IsViews}
use Rattle.directory_rules.specs.Membership.{is_seeable, joined_in}
use Rattle.directory_rules.specs.Settings.{Settings, AreSettings}
use Rattle.directory_rules.specs.Event.{Event, IsEvent}
use Rattle.directory_rules.specs.State.{World, Accepted}
use Rattle.directory_rules.specs.World.{membership_of}
use Rattle.directory_rules.specs.Laws.{IsMail, ArePeopled}
use Rattle.directory_rules.specs.Happens.{happens}
use Rattle.directory_rules.specs.Run.{world_after}
use Rattle.directory_rules.proofs.Mails.{mail_there}
use Rattle.directory_rules.proofs.Peopled.{peopled_after}
use Rattle.directory_facts.specs.Laws.{world_by}
use Rattle.directory_headline.proofs.Runs.{one_more}
use Rattle.progress_rules.proofs.RoundOfPieces.{silos}
use Rattle.progress_rules.proofs.Two.{both_true}

pub record IsReachedBy (settings : Settings) (world : World) : Type 0 where
  pub events : List Event
  pub named : All IsEvent events
  pub is : world ≡ world_by settings events

module _ (settings : Settings) (are : AreSettings settings) (world : World) (r : IsReachedBy settings world) where
  pub reached_mail : IsMail world.settings world.mail world.sent
  reached_mail = subst (λ (w : World). IsMail w.settings w.mail w.sent) (sym r.is) (mail_there settings r.events)

  pub reached_peopled : ArePeopled world.views world.nodes
  reached_peopled = subst (λ (w : World). ArePeopled w.views w.nodes) (sym r.is) (peopled_after settings r.events are)

  -- each that has a node is a silo
  pub reached_silos : All (λ e. IsSilo e.0) world.nodes
  reached_silos = subst (λ (w : World). All (λ e. IsSilo e.0) w.nodes) (sym r.is) (silos settings r.events are r.named)

  -- one event more
  pub reached_on : (event : Event) (accepted : Accepted) → IsEvent event → happens world event ≡ Ok accepted
      → IsReachedBy settings accepted.world
  reached_on event accepted named ok =
      let here : happens (world_by settings r.events) event ≡ Ok accepted = subst (λ w. happens w event ≡ Ok accepted) r.is ok in
      record {
        events = r.events ++ event ∷ [];
        named = All-append IsEvent r.events (event ∷ []) r.named (All-cons IsEvent event [] named (All-nil IsEvent));
        is = sym (one_more settings r.events event ∙ ap (λ result. world_after result (world_by settings r.events)) here);
      }

-- ---- each silo may see the current view
joined_by : (world : World) (silo : Silo) → IsViews world.views → joined_in (membership_of world) silo ≤ world.views.version
joined_by world silo whole = by (row_of world.views silo) refl
  where
    by : (o : Option Row) → row_of world.views silo ≡ o → unwrap_or (option_map (λ row. row.joined) o) 0 ≤ world.views.version
    by None none = omega arith
    by (Some row) found = (whole.in_time silo row found).joined_by

pub seeable_now : (world : World) (silo : Silo) → IsViews world.views → is_seeable (membership_of world) silo world.views.version ≡ true
seeable_now world silo whole =
    let made = le-leb world.views.version world.views.version (omega arith) in
    let joined = le-leb (joined_in (membership_of world) silo) world.views.version (joined_by world silo whole) in
    both_true (nat_le world.views.version world.views.version) (nat_le (joined_in (membership_of world) silo) world.views.version) made
    joined

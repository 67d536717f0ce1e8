-- An activation begins: a wake, or an offer that is taken.
use Rattle.std.proofs.Common.{arith, ◌≡◌, suc, ◌≤◌, inl, refl, sym, ap, subst, ◌∙◌}
use Rattle.std.specs.Prelude.{true, false, Option, Some, None}
use Rattle.std.specs.Option.{option_map, option_map_or}
use Rattle.silo_address.specs.Silo.{Silo}
use Rattle.silo_address.specs.Grain.{Grain, grain_cmp}
use Rattle.silo_address.specs.declared.ActivationId.{ActivationId}
use Rattle.silo_address.specs.declared.Entry.{Entry}
use Rattle.silo_address.proofs.Order.{grain_cmp_total, grain_cmp_exact}
use Rattle.membership_view.specs.declared.status.Status.{Status}
use Rattle.membership_view.specs.declared.status.Status.TheVariants.{Active, Leaving, Dead}
use Rattle.membership_view.specs.Row.{is_active}
use Rattle.membership_view.specs.View.{status_of}
use Rattle.directory_protocol.specs.Setting.{Setting}
use Rattle.directory_protocol.specs.Letters as letters
use Rattle.directory_protocol.specs.World as protocol
use Rattle.directory_protocol.specs.Actions.{Start, IsOffered, MayStart}
use Rattle.directory_protocol.specs.Effects.{after}
use Rattle.directory_protocol.proofs.Changes.{put_same}
use Rattle.directory_rules.specs.declared.act.Act.TheVariants as act
use Rattle.directory_rules.specs.Host.{entry_of, next_held, with_started}
use Rattle.directory_rules.specs.State.{Letter, Offer_letter, Node, World}
use Rattle.directory_rules.specs.Step.{started}
use Rattle.directory_rules.specs.Laws.{is_live}
use Rattle.directory_facts.proofs.Ways.{MayBegin}
use Rattle.directory_headline.specs.SiloState.{state_of}
use Rattle.directory_headline.specs.Shown.{held_as, IsShownHost, IsShownBody, offer_as}
use Rattle.directory_headline.proofs.Actors.{leaves_after}
use Rattle.directory_facts.proofs.Lookups.{found_at_end, found_beside_end}
use Rattle.directory_headline.proofs.Frame.{Here, Comes, Moves, acts, alive, node_shown, host_is, seen_is, member_is}
use Rattle.directory_headline.proofs.Hosts.{host_changes, request_shown, held_put, same_request}

active_live : (status : Option Status) → option_map_or (λ s. is_active s) status false ≡ true → is_live status ≡ true
active_live None active = absurd (cc)
active_live (Some Active) active = refl
active_live (Some Leaving) active = refl
active_live (Some Dead) active = absurd (cc)

module _ (m : Setting) (f : World) (w : protocol.World) (silo : Silo) (node : Node) (here : Here m f w silo node) where
  begins : (grain : Grain) (previous : Option ActivationId) → MayBegin node grain
      → ((p : ActivationId) → previous ≡ Some p → IsOffered w grain (w.seen silo) p) → Moves m w silo (started node grain previous)
  begins grain previous may offered =
      let was = node_shown m f w silo node here in
      let later = after m w (Start silo grain previous) in
      let number = was.host.next_number in
      let count = was.host.next_count in
      let its = host_is m f w silo node here in
      let member : m.member (w.seen silo) silo ≡ true =
      ap (λ v. m.member v silo) (seen_is m f w silo node here) ∙ member_is m f w silo node here silo
      ∙ ap (λ s. is_live (status_of node.view s)) (sym its) ∙ active_live (status_of node.view node.host.silo) may.active in
      let allowed : MayStart m w silo grain previous = record {
        alive = alive m f w silo node here;
        member = member;
        free = was.host.held grain ∙ ap (option_map held_as) may.free;
        offered = offered;
      } in
      let host : IsShownHost (with_started node.host grain previous) (state_of later silo) = record {
        held =
            held_put w silo grain (Some (protocol.Asking (w.next_count silo) (w.next_number silo) previous)) node.host
            (with_started node.host grain previous) was.host.held
            (ap (λ c. Some (protocol.Asking c (w.next_number silo) previous)) count
            ∙ ap (λ n. Some (protocol.Asking node.host.next_count n previous)) number
            ∙ ap (option_map held_as) (sym (found_at_end grain_cmp grain_cmp_total grain_cmp_exact grain (next_held node.host previous)
            node.host.held may.free)))
            (λ r apart. found_beside_end grain_cmp grain_cmp_total grain_cmp_exact grain (next_held node.host previous) node.host.held r
            apart);
        next_number = put_same silo (suc (w.next_number silo)) w.next_number ∙ omega arith;
        next_count = put_same silo (suc (w.next_count silo)) w.next_count ∙ omega arith;
      } in
      acts m w silo (started node grain previous) (Start silo grain previous) allowed refl
      (host_changes m f w silo node here later (with_started node.host grain previous) node.cache
      (record { seen = refl; settled = refl; table = refl; served = refl })
      (leaves_after m w (Start silo grain previous) silo refl).grows host)
      (request_shown m later node node.host.next_number (act.Register (entry_of node.host grain (next_held node.host previous)) previous)
      (inl (same_request letters.Register grain previous node.view.version (w.seen silo) node.host.next_number (w.next_number silo)
      node.host.silo silo node.host.next_count (w.next_count silo)
      (sym (seen_is m f w silo node here)) (sym number) its (sym count))))

  pub wakes : (grain : Grain) → MayBegin node grain → Moves m w silo (started node grain None)
  wakes grain may = begins grain None may (λ p none. absurd (cc (none)))

  pub takes_over : (letter : Letter) (entry : Entry) → letter.body ≡ Offer_letter entry → letter.version ≤ node.view.version
      → MayBegin node entry.grain → Comes m f w silo letter
      → Moves m w silo (started node entry.grain (Some entry.activation))
  takes_over letter entry body seen may comes =
      begins entry.grain (Some entry.activation) may (λ p is.
      let same : entry.activation ≡ p = cc (is) in
      let there : letters.Sent (offer_as letter entry) w.offers = subst (IsShownBody m.hash w letter) body comes.shown in
      let its = seen_is m f w silo node here in
      (offer_as letter entry, there, refl, same, omega arith))

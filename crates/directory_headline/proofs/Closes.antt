-- An activation begins to close: a firm one by a close or an offer, and one that asks where it is given up.
use Rattle.std.proofs.Common.{arith, ◌≡◌, ℕ, suc, inl, refl, sym, ap, ◌∙◌}
use Rattle.std.specs.Prelude.{true, false, is_some, Some, None}
use Rattle.std.specs.Option.{option_map}
use Rattle.silo_address.specs.Silo.{Silo}
use Rattle.silo_address.specs.Grain.{Grain, grain_cmp}
use Rattle.silo_address.proofs.Order.{grain_cmp_total, grain_cmp_exact}
use Rattle.directory_protocol.specs.Setting.{Setting}
use Rattle.directory_protocol.specs.Letters as letters
use Rattle.directory_protocol.specs.World as protocol
use Rattle.directory_protocol.specs.Actions.{Close, Offer_away, MayClose}
use Rattle.directory_protocol.specs.Effects.{after}
use Rattle.directory_protocol.proofs.Changes.{put_same}
use Rattle.directory_rules.specs.declared.act.Act.TheVariants as act
use Rattle.directory_rules.specs.declared.effect.Effect.{Effect}
use Rattle.directory_rules.specs.declared.effect.Effect.TheVariants.{Closing, Cancelled}
use Rattle.directory_rules.specs.declared.held.Held.{Held}
use Rattle.directory_rules.specs.declared.held.Phase.{Phase}
use Rattle.directory_rules.specs.declared.held.Phase.TheVariants as phase
use Rattle.directory_rules.specs.Host.{held_of, is_asking, entry_of, next_closing, with_closing}
use Rattle.directory_rules.specs.State.{Offer_letter, Node, World}
use Rattle.directory_rules.specs.Sent.{letter_to, request_letters}
use Rattle.directory_rules.specs.Step.{with_one_closing, closing, cancelled, offered}
use Rattle.directory_facts.proofs.Ways as way
use Rattle.directory_headline.specs.SiloState.{state_of}
use Rattle.directory_headline.specs.Shown.{held_in, held_as, IsShownHost, IsShownLetter}
use Rattle.directory_headline.proofs.Actors.{leaves_after}
use Rattle.directory_facts.proofs.Lookups.{found_set, found_beside_set}
use Rattle.directory_headline.proofs.Frame.{Here, Moves, acts, alive, node_shown, host_is, seen_is, one_letter}
use Rattle.directory_headline.proofs.Hosts.{host_changes, request_shown, held_put, same_request}

-- the request of an activation that asks is outstanding
asks_under : (its : Phase) → is_asking its ≡ true → (number : ℕ) × (its ≡ phase.Asking number)
asks_under (phase.Asking number) asks = (number, refl)
asks_under phase.Firm asks = absurd (cc (asks))
asks_under (phase.Closing number) asks = absurd (cc (asks))

-- an activation that the protocol has as x, and not closing yet
module _ (m : Setting) (f : World) (w : protocol.World) (silo : Silo) (node : Node) (here : Here m f w silo node) (grain : Grain)
    (held : Held) (found : held_of node.host grain ≡ Some held)
    (x : protocol.Held) (shown : held_as held ≡ x) (count : protocol.count_of x ≡ held.count)
    (not_yet : protocol.is_closing x ≡ false) where
  allowed : MayClose m w silo grain x
  allowed =
      let was = node_shown m f w silo node here in
      record {
        alive = alive m f w silo node here;
        held = was.host.held grain ∙ ap (option_map held_as) found
            ∙ ap Some shown;
        not_yet = not_yet;
      }

  -- another world that has the activation closing under the next number
  closing_host :
      (later : protocol.World) → later.held silo ≡ (after m w (Close silo grain x)).held silo
      → later.next_number silo ≡ (after m w (Close silo grain x)).next_number silo
      → later.next_count silo ≡ w.next_count silo → IsShownHost (with_closing node.host grain held) (state_of later silo)
  closing_host later its_held its_number its_count =
      let was = node_shown m f w silo node here in
      let number = was.host.next_number in
      record {
        held = λ r.
            ap (λ h. h r) its_held
            ∙ held_put w silo grain (Some (protocol.Closing (protocol.count_of x) (w.next_number silo))) node.host
            (with_closing node.host grain held) was.host.held
            (ap (λ c. Some (protocol.Closing c (w.next_number silo))) count
            ∙ ap (λ n. Some (protocol.Closing held.count n)) number
            ∙ ap (option_map held_as) (sym (found_set grain_cmp grain_cmp_total grain_cmp_exact grain (next_closing node.host held)
            node.host.held (ap is_some found))))
            (λ q apart. found_beside_set grain_cmp grain_cmp_total grain_cmp_exact grain (next_closing node.host held) node.host.held q
            apart) r;
        next_number = its_number ∙ put_same silo (suc (w.next_number silo)) w.next_number ∙ omega arith;
        next_count = its_count ∙ was.host.next_count;
      }

  -- it asks to be taken out, whatever is told of that
  deregisters : (effect : Effect) → Moves m w silo (record {
    node = with_one_closing node grain held;
    letters = request_letters node
        node.host.next_number (act.Deregister (entry_of node.host grain held));
    effect = effect;
  })
  deregisters effect =
      let was = node_shown m f w silo node here in
      let later = after m w (Close silo grain x) in
      acts m w silo _ (Close silo grain x) allowed refl
      (host_changes m f w silo node here later (with_closing node.host grain held) node.cache
      (record { seen = refl; settled = refl; table = refl; served = refl })
      (leaves_after m w (Close silo grain x) silo refl).grows (closing_host later refl refl refl))
      (request_shown m later node node.host.next_number (act.Deregister (entry_of node.host grain held))
      (inl (same_request letters.Deregister grain None node.view.version (w.seen silo) node.host.next_number (w.next_number silo)
      node.host.silo silo held.count (protocol.count_of x)
      (sym (seen_is m f w silo node here)) (sym was.host.next_number) (host_is m f w silo node here) (sym count))))

module _ (m : Setting) (f : World) (w : protocol.World) (silo : Silo) (node : Node) (here : Here m f w silo node) (grain : Grain)
    (held : Held) where
  pub cancels : way.MayCancel node grain held → Moves m w silo (cancelled node grain held)
  cancels may =
      let asks = asks_under held.phase may.asks in
      deregisters m f w silo node here grain held may.found (protocol.Asking held.count asks.0 held.previous)
      (ap (λ p. held_in p held.count held.previous) asks.1) refl refl (Cancelled (entry_of node.host grain held))

  module _ (may : way.MayClose node grain held) where
    firm : held_as held ≡ protocol.Firm held.count
    firm = ap (λ p. held_in p held.count held.previous) may.firm

    pub closes : Moves m w silo (closing node grain held)
    closes =
        deregisters m f w silo node here grain held may.found (protocol.Firm held.count) firm refl refl
        (Closing (entry_of node.host grain held))

    offer_is : (version version' : ℕ) (s s' : Silo) → version ≡ version' → s ≡ s'
        → let one : letters.Offer = record { version = version; grain = grain; activation = letters.activation_on s held.count } in
        let other : letters.Offer = record { version = version'; grain = grain; activation = letters.activation_on s' held.count } in
        one ≡ other
    offer_is version version' s s' v silo_is =
        ap (λ (x : ℕ). let o : letters.Offer = record { version = x; grain = grain; activation = letters.activation_on s held.count } in o)
        v
        ∙ ap (λ (x : Silo).
        let o : letters.Offer = record { version = version'; grain = grain; activation = letters.activation_on x held.count } in o) silo_is

    pub offers : (to : Silo) → Moves m w silo (offered node grain held to)
    offers to =
        let later = after m w (Offer_away silo grain held.count) in
        acts m w silo (offered node grain held to) (Offer_away silo grain held.count)
        (allowed m f w silo node here grain held may.found (protocol.Firm held.count) firm refl refl) refl
        (host_changes m f w silo node here later (with_closing node.host grain held) node.cache
        (record { seen = refl; settled = refl; table = refl; served = refl })
        (leaves_after m w (Offer_away silo grain held.count) silo refl).grows
        (closing_host m f w silo node here grain held may.found (protocol.Firm held.count) firm refl refl later refl refl refl))
        (one_letter (IsShownLetter m.hash later) (letter_to to node (Offer_letter (entry_of node.host grain held)))
        (inl (offer_is node.view.version (w.seen silo) node.host.silo silo (sym (seen_is m f w silo node here))
        (host_is m f w silo node here))))

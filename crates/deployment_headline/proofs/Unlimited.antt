-- The headline is of views, places and nodes: it looks at no limit on events and letters, and whatever is on its way, it stays.
use Rattle.std.proofs.Common.{◌≡◌, ℕ, List, refl, sym, ap, subst, ◌∙◌}
use Rattle.std.specs.Prelude.{Option, Some, None}
use Rattle.std.specs.Option.{option_map}
use Rattle.std.specs.BTreeMap.{is_at}
use Rattle.std.proofs.lemmas.List.Elements.{All-weaker}
use Rattle.silo_address.specs.Silo.{Silo, silo_cmp}
use Rattle.silo_address.specs.Grain.{Grain}
use Rattle.silo_address.specs.declared.ActivationId.{ActivationId}
use Rattle.silo_address.specs.declared.Entry.{Entry}
use Rattle.directory_rules.specs.declared.held.Held.{Held}
use Rattle.directory_rules.specs.Host.{held_of}
use Rattle.directory_rules.specs.State.{Node, Posted, World}
use Rattle.directory_rules.specs.Happens.{node_of}
use Rattle.directory_rules.specs.Settled.{HasNode, IsSettledAt, IsHeld, IsFirmOn, AreComplete, IsRightTable, IsRightOnLive}
use Rattle.directory_rules.specs.Headline.{Headline, IsSettledSomewhere}
use Rattle.deployment_headline.specs.Limits.{with_room, node_with_room}
use Rattle.deployment_headline.proofs.Lists.{over, lookup-over}

module _ (g : World) (events letters accepted : ℕ) (mail : List (ℕ × Posted)) (sent : ℕ) where
  abbrev R : Node → Node
  R node = node_with_room events letters node

  -- the same world by other limits, after other events, and with another mail
  abbrev f : World
  f = record g { settings = with_room events letters g.settings; accepted = accepted; nodes = over R g.nodes; mail = mail; sent = sent }

  has : (silo : Silo) (node : Node) → HasNode g silo node → HasNode f silo (R node)
  has silo node there = lookup-over R (is_at (silo_cmp silo)) g.nodes ∙ ap (option_map R) there

  -- a node of one is that of the other, by other limits
  had : (silo : Silo) (node : Node) → HasNode f silo node → (its : Node) × HasNode g silo its × (R its ≡ node)
  had silo node there = by (node_of g silo) refl (sym (lookup-over R (is_at (silo_cmp silo)) g.nodes) ∙ there)
    where
      by : (o : Option Node) → node_of g silo ≡ o → option_map R o ≡ Some node → (its : Node) × HasNode g silo its × (R its ≡ node)
      by None is some = absurd (cc (some))
      by (Some its) is some = let same : R its ≡ node = cc (some) in (its, is, same)

  settled_in : (version hash : ℕ) (silo : Silo) (node : Node) → IsSettledAt g version hash silo node
      → IsSettledAt f version hash silo (R node)
  settled_in version hash silo node at =
      record { live = has silo node at.live; seen = at.seen; owner = at.owner; piece = at.piece; found = at.found; settled = at.settled }

  settled_out : (version hash : ℕ) (silo : Silo) (node : Node) → IsSettledAt f version hash silo node
      → (its : Node) × IsSettledAt g version hash silo its
  settled_out version hash silo node at =
      let its = had silo node at.live in
      let there : IsSettledAt f version hash silo (R its.0) = subst (IsSettledAt f version hash silo) (sym its.2) at in (
        its.0,
        record {
          live = its.1;
          seen = there.seen;
          owner = there.owner;
          piece = there.piece;
          found = there.found;
          settled = there.settled;
        },
      )

  firm_in : (grain : Grain) (silo : Silo) (held : Held) → IsFirmOn g grain silo held → IsFirmOn f grain silo held
  firm_in grain silo held is = record { node = R is.node; live = has silo is.node is.live; found = is.found; firm = is.firm }

  held_out : (grain : Grain) (activation : ActivationId) → IsHeld f grain activation → IsHeld g grain activation
  held_out grain activation is =
      let its = had activation.silo is.node is.live in
      record {
        node = its.0;
        live = its.1;
        held = is.held;
        found = ap (λ (n : Node). held_of n.host grain) its.2
            ∙ is.found;
        count = is.count;
      }

  complete_out : (hash : ℕ) (entries : List Entry) → AreComplete f hash entries → AreComplete g hash entries
  complete_out hash entries are grain silo held hashed firm = are grain silo held hashed (firm_in grain silo held firm)

  table_out : (hash : ℕ) (entries : List Entry) → IsRightTable f hash entries → IsRightTable g hash entries
  table_out hash entries is = record {
    complete = complete_out hash entries is.complete;
    held =
        All-weaker (λ e. IsHeld f e.grain e.activation) (λ e. IsHeld g e.grain e.activation) (λ e its. held_out e.grain e.activation its)
        entries is.held;
    one_a_grain = is.one_a_grain;
  }

  live_out : (hash : ℕ) (entries : List Entry) → IsRightOnLive f hash entries → IsRightOnLive g hash entries
  live_out hash entries is = record {
    complete = complete_out hash entries is.complete;
    held =
        All-weaker (λ e. (node : Node) → HasNode f e.activation.silo node → IsHeld f e.grain e.activation)
        (λ e. (node : Node) → HasNode g e.activation.silo node → IsHeld g e.grain e.activation)
        (λ e its node there. held_out e.grain e.activation (its (R node) (has e.activation.silo node there))) entries is.held;
    one_a_grain = is.one_a_grain;
  }

  nowhere_in : (version hash : ℕ) → IsSettledSomewhere f version hash → IsSettledSomewhere g version hash
  nowhere_in version hash some = let its = settled_out version hash some.0 some.1 some.2 in (some.0, its.0, its.1)

  pub headline_under : Headline f → Headline g
  headline_under h = record {
    rings = λ silo node there. h.rings silo (R node) (has silo node there);
    settled = λ hash silo node at. table_out hash _ (h.settled hash silo (R node) (settled_in g.views.version hash silo node at));
    earlier = λ version hash silo node at. live_out hash _ (h.earlier version hash silo (R node) (settled_in version hash silo node at));
    unsettled =
        λ silo node request there current nowhere. h.unsettled silo (R node) request (has silo node there) current
        (λ some. nowhere (nowhere_in g.views.version request.hash some));
    pieces = λ silo node request piece there found not. h.pieces silo (R node) request piece (has silo node there) found not;
    no_two_firm = λ grain s t x y one other. h.no_two_firm grain s t x y (firm_in grain s x one) (firm_in grain t y other);
    none_firm_twice = λ silo node there. h.none_firm_twice silo (R node) (has silo node there);
    one_settles =
        λ v u hash s t x y one other. h.one_settles v u hash s t (R x) (R y) (settled_in v hash s x one) (settled_in u hash t y other);
  }

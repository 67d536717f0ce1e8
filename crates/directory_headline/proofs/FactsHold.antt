-- The facts hold of every world that events reach.
use Rattle.std.proofs.Common.{arith, ◌≡◌, ℕ, suc, ◌<◌, List, [], ◌∷◌, sym, subst}
use Rattle.std.specs.Prelude.{All, AllPairs}
use Rattle.std.specs.Ordering.{nat_cmp}
use Rattle.std.specs.List.{AllByRecursion}
use Rattle.std.specs.List.Sorted.{IsStrictlySortedBy}
use Rattle.std.specs.Map.{keys_of}
use Rattle.std.specs.BTreeMap.{is_at}
use Rattle.std.specs.declared.cmp.Ordering.TheVariants.{Less}
use Rattle.std.proofs.lemmas.List.Elements.{All-head, All-tail, All-weaker}
use Rattle.silo_address.specs.Silo.{silo_cmp}
use Rattle.hash_ring.specs.Hash.{hash_grain}
use Rattle.std.specs.Cmp.{nat_cmp_is}
use Rattle.directory_rules.specs.Settings.{AreSettings}
use Rattle.directory_rules.specs.State.{Piece}
use Rattle.directory_rules.specs.Laws.{IsReached, IsOfOneVersion, HoldOnce}
use Rattle.directory_rules.proofs.Nodes.{of_found}
use Rattle.directory_rules.proofs.Numbered.{numbers_are_distinct}
use Rattle.directory_rules.proofs.Peopled.{peopled_after}
use Rattle.directory_rules.proofs.Reached.{reached}
use Rattle.directory_rules.proofs.Versions.{one_version}
use Rattle.directory_facts.specs.Own.{IsOwnNode, IsOwnLetter}
use Rattle.directory_facts.specs.Pieces as facts
use Rattle.directory_facts.specs.Laws.{world_by}
use Rattle.directory_facts.proofs.Lawful.{settings_stay, shared_by, nodes_are_own, letters_are_own, nodes_see, nodes_have_pieces, pieces_are_owned, events_name_hashes}
use Rattle.directory_facts.proofs.SeenRings.{AreViews, seen_facts, seen_keep}
use Rattle.directory_headline.proofs.Facts.{IsPiece}
use Rattle.directory_headline.proofs.Runs.{FactsHold}

above : (key : ℕ) (es : List (ℕ × Piece)) → All (λ e. key < e.0) es → AllByRecursion (λ other. nat_cmp key other ≡ Less) (keys_of es)
above key [] all = tt
above key (e ∷ es) all =
    (sym (nat_cmp_is key e.0 Less (All-head (λ x. key < x.0) e es all)), above key es (All-tail (λ x. key < x.0) e es all))

sorted_keys : (es : List (ℕ × Piece)) → AllPairs (λ e later. e.0 < later.0) es → IsStrictlySortedBy nat_cmp (keys_of es)
unfolding IsStrictlySortedBy
sorted_keys [] pairs = tt
sorted_keys (e ∷ es) pairs = (
  above e.0 es (λ k d below. pairs 0 (suc k) d (omega arith) (omega (arith, below))),
  sorted_keys es (λ i j d lt below. pairs (suc i) (suc j) d (omega (arith, lt)) (omega (arith, below))),
)

pub facts_hold : FactsHold
facts_hold settings events are named =
    let f = world_by settings events in
    let stay = settings_stay settings events in
    let hashes = events_name_hashes events named in
    record {
      settings = subst AreSettings (sym stay) are;
      views = subst (λ s. AreViews s f.views f.places) (sym stay) (shared_by seen_facts seen_keep settings events are (λ k d below. tt));
      places = (reached settings events are hashes).places;
      peopled = peopled_after settings events are;
      nodes = λ silo node there.
          let is : IsReached settings events silo node = record { in_range = are; hashes = hashes; found = there } in
          let has = nodes_have_pieces settings events silo node is in
          let own = nodes_are_own settings events silo node there in
          record {
            own = subst (λ s. IsOwnNode s silo node) (sym stay) own;
            sees = nodes_see settings events are silo node there;
            of_one_version = of_found IsOfOneVersion (is_at (silo_cmp silo)) f.nodes node (one_version settings events) there;
            numbered = numbers_are_distinct settings events silo node there;
            once =
                subst (λ s. HoldOnce node.ring.points s node.holding.pieces) (sym own.host_is)
                (pieces_are_owned settings events silo node is).once;
            pieces = record {
              rising = sorted_keys node.holding.pieces has.pieces.rising;
              under_start =
                  All-weaker (λ e. facts.IsPiece settings.hashing e.0 e.1) (λ (e : ℕ × Piece). e.0 ≡ e.1.range.start) (λ e p. p.under)
                  node.holding.pieces has.pieces.each;
              each =
                  All-weaker (λ e. facts.IsPiece settings.hashing e.0 e.1) (λ e. IsPiece (hash_grain settings.hashing) e.1) (λ e p. record {
                    range = p.range_is;
                    present = p.present;
                    table = record { by_grain = p.table.by_grain; own_grain = p.table.own_grain };
                    inside = p.table.placed;
                    empty = p.bare;
                  }) node.holding.pieces has.pieces.each;
            };
          };
      letters = λ number letter found. subst (λ s. IsOwnLetter s letter) (sym stay) (letters_are_own settings events number letter found);
    }

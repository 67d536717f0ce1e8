-- Where all pieces are settled and no letter is to come, all are nudged: then each request that is outstanding is on its way to its owner.
use Rattle.std.proofs.Common.{arith, ◌≡◌, ◌≢◌, refl, sym, ap, subst, ◌∙◌, ℕ, List, [], ◌∷◌}
use Rattle.std.specs.Prelude.{true, All, None, Ok}
use Rattle.std.specs.List.{AllByRecursion}
use Rattle.std.specs.declared.cmp.Ordering.TheVariants.{Less}
use Rattle.std.proofs.lemmas.Cmp.{tied_itself}
use Rattle.std.proofs.lemmas.List.Kept.{AllPairs-cons}
use Rattle.std.specs.List.Sorted.{IsStrictlySortedBy}
use Rattle.std.specs.Map.{keys_of}
use Rattle.std.specs.BTreeMap.{is_at}
use Rattle.std.proofs.lemmas.List.Elements.{All-nil, All-cons}
use Rattle.silo_address.specs.Silo.{Silo, IsSilo, silo_cmp}
use Rattle.silo_address.proofs.Order.{silo_cmp_total, silo_cmp_exact}
use Rattle.directory_rules.specs.State.{Letter, Node, World}
use Rattle.directory_rules.specs.Mail.{fresh_letter}
use Rattle.directory_rules.specs.Happens.{least_deliverable}
use Rattle.directory_facts.proofs.Entries.{found_so, same_key}
use Rattle.directory_rules.proofs.Peopled.{peopled_after}
use Rattle.progress_rules.specs.Plan.{settled}
use Rattle.progress_rules.specs.Plan as plan
use Rattle.progress_rules.specs.ComeBack.{AreSettled}
use Rattle.progress_rules.specs.Second.{Flies}
use Rattle.progress_rules.proofs.Flights.{nothing_comes}
use Rattle.progress_rules.proofs.Resting.{IsResting, nudging_keeps}
use Rattle.progress_rules.proofs.RoundOfPieces.{silos}
use Rattle.progress_rules.proofs.Answering.{IsAnswering}
use Rattle.progress_rules.proofs.NudgedOn.{Apart, IsNudgingOn, nudge_on}

-- ---- the start
pub sorted_apart : (nodes : List (Silo × Node)) → IsStrictlySortedBy silo_cmp (keys_of nodes) → Apart nodes
unfolding IsStrictlySortedBy
sorted_apart [] sorted = λ i j d lt below. absurd (omega (arith, below))
sorted_apart (e ∷ es) sorted = AllPairs-cons (λ (a later : Silo × Node). a.0 ≢ later.0) e es (others es sorted.0) (sorted_apart es sorted.1)
  where
    others : (es : List (Silo × Node)) → AllByRecursion (λ y. silo_cmp e.0 y ≡ Less) (keys_of es) → All (λ x. e.0 ≢ x.0) es
    others [] above = All-nil (λ (x : Silo × Node). e.0 ≢ x.0)
    others (x ∷ xs) above =
        All-cons (λ (y : Silo × Node). e.0 ≢ y.0) x xs (λ same. let tied = tied_itself silo_cmp_total e.0 in
        let less = ap (silo_cmp e.0) same ∙ above.0 in cc (tied, less))
        (others xs above.1)

pub nodes_silos : (world : World) → IsResting world → All (λ e. IsSilo e.0) world.nodes
nodes_silos world rests =
    subst (λ (w : World). All (λ e. IsSilo e.0) w.nodes) (sym rests.is) (silos rests.settings rests.events rests.are rests.named)

pub none_fly : (world : World) (k : ℕ) (l : Letter) → least_deliverable world ≡ None → Flies world k l → ⊥
none_fly world k l none f =
    nothing_comes world (λ x. x ≡ l) none (record {
      number = k;
      posted = fresh_letter l;
      found = f.found;
      fresh = refl;
      comes = f.comes;
      letter = refl;
    })

pub begins : (world : World) → IsResting world → AreSettled world → least_deliverable world ≡ None → IsNudgingOn world.nodes world
begins world rests all none = record {
  apart =
      sorted_apart world.nodes (subst (λ w. IsStrictlySortedBy silo_cmp (keys_of w.nodes)) (sym rests.is)
      (peopled_after rests.settings rests.events rests.are).by_address);
  answering = record {
    rests = rests;
    settled = all;
    plain = λ k l f. absurd (none_fly world k l none f);
    from = λ k l r f body. absurd (none_fly world k l none f);
    asked = λ k l r f body. absurd (none_fly world k l none f);
    kept = λ silo node there e owes. (node, there, owes);
    above = λ k l r own f body counts there. absurd (none_fly world k l none f);
    ordered = λ so k j l i r q f g one other counts too same where_to less. absurd (none_fly world k l none f);
    owed = λ silo node there apart e owes owner owns.
        let found = found_so (λ (x : Silo × Node). x.0 ≢ silo) (is_at (silo_cmp silo)) node world.nodes apart there in
        absurd (found.2 (sym (same_key silo_cmp silo_cmp_exact silo found.0 found.1)));
  };
}

-- ---- all are nudged
pub all_nudged : (world next : World) → IsResting world → AreSettled world → least_deliverable world ≡ None → plan.nudged world ≡ Ok next
    → IsAnswering true next [] next
all_nudged world next rests all none made =
    (nudging_keeps IsNudgingOn nudge_on world.nodes world next (nodes_silos world rests) (begins world rests all none) made).answering

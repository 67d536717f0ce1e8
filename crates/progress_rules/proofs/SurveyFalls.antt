-- What a node sends when a survey comes, and what it needs once a letter of empty ranges has come.
use Rattle.std.proofs.Common.{arith, ◌≡◌, refl, ap, subst, ℕ, ◌+◌, ◌≤◌, List, [], ◌∷◌, length}
use Rattle.std.specs.Prelude.{Bool, cond, not, nat_lt, filter, find, fold, map, Option, Some, None}
use Rattle.std.proofs.lemmas.List.{length-append, length-map}
use Rattle.silo_address.specs.Silo.{Silo}
use Rattle.silo_address.specs.Grain.{Grain}
use Rattle.ring_range.specs.Range.{Range}
use Rattle.hash_ring.specs.declared.Hashing.{Hashing}
use Rattle.directory_rules.specs.declared.effect.Effect.{Effect}
use Rattle.directory_rules.specs.declared.effect.Effect.TheVariants as effect
use Rattle.directory_rules.specs.State.{Snapshot, Report_letter, Survey_letter, Empty_letter, Behind_letter, Ahead_letter, Letter, Body, Host, Node}
use Rattle.directory_rules.specs.Snapshot.{is_snapshot}
use Rattle.directory_rules.specs.Sent.{recovery_of}
use Rattle.directory_rules.specs.Step.{Stepped}
use Rattle.directory_rules.specs.Transfer.{answer_to, empty_effect, empty_letters, emptied, has_nothing, nothing_in, report_of, surveyed, tellings, told_nothing}
use Rattle.directory_rules.specs.Laws.{requests_of}
use Rattle.directory_rules.proofs.Cases.{on_bool}
use Rattle.directory_facts.specs.Pieces.{HasPieces}
use Rattle.directory_facts.proofs.Collected.{TakenSo, taken_so}
use Rattle.directory_facts.proofs.Emptied.{as_report, by_nothing, leaves_else}
use Rattle.directory_facts.proofs.Surveys.{all_tellings}
use Rattle.directory_facts.proofs.Ways.{IsReportTaken}
use Rattle.progress_rules.specs.Room.{answers_of, offers_of, pages_of, pages_shelved}
use Rattle.progress_rules.proofs.EmptiedPieces.{by_each_piece}
use Rattle.progress_rules.proofs.Falls.{Left, need, weight, Falls, quietly, nothing, answers}
use Rattle.progress_rules.proofs.FreshWith.{none_sent}
use Rattle.progress_rules.proofs.LeftReports.{collects_need, completes_need}
use Rattle.progress_rules.proofs.Sums.{le_same}
use Rattle.progress_rules.proofs.Waits.{HasRecovering}

-- ---- the answers to a survey are no more than its ranges
-- some pass a test, and the others don't
parted : {X : Type 0} (test : X → Bool) (xs : List X) → length (filter test xs) + length (filter (λ x. not (test x)) xs) ≡ length xs
parted test [] = refl
parted test (x ∷ xs) =
    let rest = parted test xs in
    on_bool (λ b. length (cond b (x ∷ filter test xs) (filter test xs)) + length
    (cond (not b) (x ∷ filter (λ y. not (test y)) xs) (filter (λ y. not (test y)) xs)) ≡ length (x ∷ xs)) (test x)
    (λ t. omega (arith, rest)) (λ f. omega (arith, rest))

one_at_most : (letter : Letter) (node : Node) (ranges : List Range) → length (empty_letters letter node ranges) ≤ length ranges
one_at_most letter node [] = omega arith
one_at_most letter node (range ∷ ranges) = omega arith

few_tellings : (letter : Letter) (node : Node) (ranges : List Range) → length (tellings letter node ranges) ≤ length ranges
few_tellings letter node ranges =
    let empty = empty_letters letter node (filter (has_nothing node) ranges) in
    let others = filter (λ range. not (has_nothing node range)) ranges in
    let all = length-append empty (map (λ range. answer_to letter node (Report_letter (report_of node range None))) others) in
    let reports = length-map {B = Letter} others (λ range. answer_to letter node (Report_letter (report_of node range None))) in
    let few = one_at_most letter node (filter (has_nothing node) ranges) in
    let parts = parted (has_nothing node) ranges in
    omega (arith, all, reports, few, parts)

module _ (due : Silo → Range → ℕ) (left : Left) (node : Node) (letter : Letter) where
  pub survey_falls : (ranges : List Range) → Falls due left node (Survey_letter ranges) (surveyed node letter ranges)
  survey_falls [] = nothing due left node (Survey_letter []) effect.Ignored
  survey_falls (first ∷ others) =
      on_bool (λ b. Falls due left node (Survey_letter (first ∷ others)) (cond b (back (Behind_letter first) effect.Behind)
      (cond (nat_lt letter.version node.view.version) (back (Ahead_letter first) effect.Ahead) told)))
      (nat_lt node.view.version letter.version)
      (λ t. answers due left node (Survey_letter (first ∷ others)) letter (Behind_letter first) effect.Behind some refl refl)
      (λ f. on_bool (λ b. Falls due left node (Survey_letter (first ∷ others)) (cond b (back (Ahead_letter first) effect.Ahead) told)) (nat_lt letter.version node.view.version)
      (λ t. answers due left node (Survey_letter (first ∷ others)) letter (Ahead_letter first) effect.Ahead some refl refl)
      (λ g. record {
        sends =
            let few = few_tellings letter node (first ∷ others) in
            let none = none_sent answers_of (tellings letter node (first ∷ others))
            (all_tellings (λ l. answers_of l.body ≡ 0) letter node (first ∷ others) (λ empties. refl) (λ range. refl)) in
            omega (arith, few, none);
        begins = omega arith;
        no_offers =
            none_sent offers_of (tellings letter node (first ∷ others))
            (all_tellings (λ l. offers_of l.body ≡ 0) letter node (first ∷ others) (λ empties. refl) (λ range. refl));
        shelves = λ silo version range. le_same (pages_shelved (Some node) silo version range);
        silo_is = refl;
        view_is = refl;
      }))
    where
      back : Body → Effect → Stepped
      back body its = record { node = node; letters = answer_to letter node body ∷ []; effect = its }

      told : Stepped
      told = record { node = node; letters = tellings letter node (first ∷ others); effect = effect.Report }

      some : 1 ≤ weight (Survey_letter (first ∷ others))
      some = omega arith

-- ---- a silo has nothing in some ranges: no more is needed than before
module _ (due : Silo → Range → ℕ) (left : Left) (some : (silo : Silo) (range : Range) (after : Option Grain) → 1 ≤ left silo range after)
    (hashing : Hashing) where
  recovering : (node : Node) (letter : Letter) (range : Range) → IsReportTaken node (as_report letter range) (nothing_in letter range)
      → HasRecovering node range
  recovering node letter range taken =
      record { piece = taken.piece; found = taken.has.found; same = taken.has.same; recovering = taken.recovers }

  one_needs : (node : Node) → HasPieces hashing node → (letter : Letter) (range : Range)
      → need due left (told_nothing letter node range) ≤ need due left node
  one_needs node has letter range =
      let report = nothing_in letter range in
      by_nothing letter node range (λ n. need due left n ≤ need due left node) (le_same (need due left node))
      (λ recovery so. collects_need due left some hashing node has report (recovering node letter range so.0) recovery
      (subst (TakenSo (recovery_of node range) report) so.1 (taken_so (recovery_of node range) report)))
      (λ table so. completes_need due left some hashing node has report (recovering node letter range so.0) table)

  pub empty_falls : (node : Node) → HasPieces hashing node → (letter : Letter) (ranges : List Range)
      → Falls due left node (Empty_letter ranges) (emptied node letter ranges)
  empty_falls node has letter ranges =
      let after : Node = fold (told_nothing letter) node ranges in
      let rest = leaves_else letter node ranges in
      quietly due left node (Empty_letter ranges) after (empty_effect letter node ranges)
      (by_each_piece hashing letter (λ n. need due left n ≤ need due left node) (λ n range pieces less.
      let here = one_needs n pieces letter range in omega (arith, here, less)) ranges node has (le_same (need due left node)))
      (let same = ap (λ (h : Host). length (requests_of h)) rest.host in omega (arith, same))
      (λ silo version range.
      let same = ap (λ (s : List Snapshot). pages_of (find (is_snapshot version range silo) s)) rest.shelf in omega (arith, same))
      (ap (λ (h : Host). h.silo) rest.host) rest.view

-- Several ranges at once: what a survey of them comes to, and what their owner makes of those that are empty.
use Rattle.std.proofs.Common.{◌≡◌, ◌≢◌, refl, sym, ap, ◌∙◌, ℕ, suc, ◌+◌, ◌<◌, ◌≤◌, List, [], ◌∷◌, length, cond, filter, map, arith, length-append}
use Rattle.std.specs.Prelude.{Bool, true, false, ◌&&◌, not, nat_lt, Option, Some, None, Ok, IsSomeAnd, slice_get}
use Rattle.std.proofs.lemmas.Bool.{and_parts, le-ltb}
use Rattle.std.proofs.lemmas.List.{length-map}
use Rattle.std.proofs.lemmas.Option.{same_Some}
use Rattle.ring_range.specs.Range.{Range}
use Rattle.directory_rules.specs.declared.Effect.TheVariants as effect
use Rattle.directory_rules.specs.State.{Letter, Node, Report, Report_letter, Behind_letter, Ahead_letter}
use Rattle.directory_rules.specs.Recovery.{Recovered, Has_more, Awaits_more, Has_union, Rejects, recovered}
use Rattle.directory_rules.specs.Sent.{recovery_of}
use Rattle.directory_rules.specs.Step.{Stepped, silently}
use Rattle.directory_rules.specs.Transfer.{answer_to, answering, empty_letters, has_nothing, has_range, is_recovering, is_taken, is_whole, nothing_in, nothing_makes, piece_at, recovers, report_of, surveyed, tellings, told_nothing}
use Rattle.directory_rules.proofs.Emptied.{nothing_counts}
use Rattle.range_recovery.specs.declared.RecoveryError.{RecoveryError}
use Rattle.range_recovery.specs.declared.RecoveryProgress.{RecoveryProgress}
use Rattle.range_recovery.specs.declared.RecoveryProgress.TheVariants.{Continues, More, Complete}
use Rattle.range_recovery.specs.Numbers.{recovery_error_number}
use Rattle.range_recovery.specs.Progress.{Refuses, progress_of}
use Rattle.node_plans.proofs.CountedReports.{counted}
use Rattle.directory_node.specs.Emptied.{is_complete}

module _ (node : Node) (letter : Letter) where
  -- ---- A survey.
  -- by the first of its ranges
  abbrev answers : List Range → Range → Stepped
  answers ranges first =
      cond (nat_lt node.view.version letter.version) (answering letter node (Behind_letter first) effect.Behind)
      (cond (nat_lt letter.version node.view.version) (answering letter node (Ahead_letter first) effect.Ahead)
      (record { node = node; letters = tellings letter node ranges; effect = effect.Report }))

  by_first : (ranges : List Range) (first : Range) → slice_get ranges 0 ≡ Some first → surveyed node letter ranges ≡ answers ranges first
  by_first [] first is = absurd (let no : None ≡ Some first = is in cc (no))
  by_first (range ∷ ranges) first is = ap (λ (r : Range). answers (range ∷ ranges) r) (same_Some range first is)

  module _ (ranges : List Range) (first : Range) (is : slice_get ranges 0 ≡ Some first) where
    upto : letter.version ≤ node.view.version → surveyed node letter ranges
        ≡ cond (nat_lt letter.version node.view.version) (answering letter node (Ahead_letter first) effect.Ahead)
        (record { node = node; letters = tellings letter node ranges; effect = effect.Report })
    upto seen =
        by_first ranges first is
        ∙ ap (λ b. cond b (answering letter node (Behind_letter first) effect.Behind)
        (cond (nat_lt letter.version node.view.version) (answering letter node (Ahead_letter first) effect.Ahead)
        (record { node = node; letters = tellings letter node ranges; effect = effect.Report })))
        (le-ltb node.view.version letter.version seen)

    pub told_all : letter.version ≤ node.view.version → node.view.version ≤ letter.version
        → surveyed node letter ranges ≡ record { node = node; letters = tellings letter node ranges; effect = effect.Report }
    told_all seen up =
        upto seen
        ∙ ap (λ b. cond b (answering letter node (Ahead_letter first) effect.Ahead)
        (record { node = node; letters = tellings letter node ranges; effect = effect.Report }))
        (le-ltb letter.version node.view.version up)

  -- ---- How many letters that is.
  pub counts_all : (ranges : List Range) → length ranges ≢ 0 → letter.version ≡ node.view.version
      → length (tellings letter node ranges) ≡ length (surveyed node letter ranges).letters
  counts_all [] some same = absurd (some refl)
  counts_all (range ∷ ranges) some same =
      sym (ap (λ (s : Stepped). length s.letters) (told_all (range ∷ ranges) range refl (omega (arith, same)) (omega (arith, same))))

  -- ---- Those that are empty, and the others.
  by_one : (b : Bool) (none some : List Range) (n : ℕ) (range : Range) → length none + length some ≡ n
      → length (cond b (range ∷ none) none) + length (cond (not b) (range ∷ some) some) ≡ suc n
  by_one true none some n range rest = omega (arith, rest)
  by_one false none some n range rest = omega (arith, rest)

  both : (ranges : List Range) → length (filter (has_nothing node) ranges) + length (filter (λ r. not (has_nothing node r)) ranges)
      ≡ length ranges
  both [] = refl
  both (range ∷ ranges) =
      by_one (has_nothing node range) (filter (has_nothing node) ranges) (filter (λ r. not (has_nothing node r)) ranges)
      (length ranges) range (both ranges)

  reports_are : (ranges : List Range)
      → length (tellings letter node ranges)
      ≡ length (empty_letters letter node (filter (has_nothing node) ranges)) + length (filter (λ r. not (has_nothing node r)) ranges)
  reports_are ranges =
      length-append (empty_letters letter node (filter (has_nothing node) ranges))
      (map (λ r. answer_to letter node (Report_letter (report_of node r None))) (filter (λ r. not (has_nothing node r)) ranges))
      ∙ ap (λ n. length (empty_letters letter node (filter (has_nothing node) ranges)) + n)
      (length-map (filter (λ r. not (has_nothing node r)) ranges) (λ r. answer_to letter node (Report_letter (report_of node r None))))

  one_empty : (none : List Range) → 0 < length none → length (empty_letters letter node none) ≡ 1
  one_empty [] some = absurd (omega (arith, some))
  one_empty (range ∷ none) some = refl

  no_empty : (none : List Range) → length none ≡ 0 → length (empty_letters letter node none) ≡ 0
  no_empty [] is = refl
  no_empty (range ∷ none) is = absurd (omega (arith, is))

  pub with_empty : (ranges : List Range) (reports : ℕ) → reports ≡ length (filter (λ r. not (has_nothing node r)) ranges)
      → reports < length ranges → reports + 1 ≡ length (tellings letter node ranges)
  with_empty ranges reports is fewer =
      let all = both ranges in
      let some : 0 < length (filter (has_nothing node) ranges) = omega (arith, all, is, fewer) in
      let one = one_empty (filter (has_nothing node) ranges) some in
      let sum = reports_are ranges in
      omega (arith, is, one, sum)

  pub without_empty : (ranges : List Range) (reports : ℕ) → reports ≡ length (filter (λ r. not (has_nothing node r)) ranges)
      → length ranges ≤ reports → reports ≡ length (tellings letter node ranges)
  without_empty ranges reports is full =
      let all = both ranges in
      let none : length (filter (has_nothing node) ranges) ≡ 0 = omega (arith, all, is, full) in
      let no = no_empty (filter (has_nothing node) ranges) none in
      let sum = reports_are ranges in
      omega (arith, is, no, sum)

  -- ---- Ranges that are empty.
  module _ (range : Range) where
    abbrev report : Report
    report = nothing_in letter range

    abbrev outcome : Recovered
    outcome = recovered (recovery_of node range) (nothing_in letter range)

    -- one that doesn't recover
    pub makes_nothing : (test : Recovered → Bool) → recovers node letter.version range ≡ false
        → false ≡ nothing_makes test letter node range
    makes_nothing test not = sym (ap (λ b. b && test outcome) not)

    made_by : (test : Recovered → Bool) → recovers node letter.version range ≡ true → test outcome ≡ nothing_makes test letter node range
    made_by test is = sym (ap (λ b. b && test outcome) is)

    whole_if : (o : Recovered) (progress : RecoveryProgress) → progress_of o ≡ Ok progress → is_complete (Some progress) ≡ is_whole o
    whole_if (Has_more recovery) progress is = let same : Continues ≡ progress = cc (is) in sym (ap (λ p. is_complete (Some p)) same)
    whole_if (Awaits_more recovery) progress is = let same : More ≡ progress = cc (is) in sym (ap (λ p. is_complete (Some p)) same)
    whole_if (Has_union table) progress is = let same : Complete ≡ progress = cc (is) in sym (ap (λ p. is_complete (Some p)) same)
    whole_if (Rejects number) progress is = absurd (cc (is))

    taken_if : (o : Recovered) (progress : RecoveryProgress) → progress_of o ≡ Ok progress → true ≡ is_taken o
    taken_if (Has_more recovery) progress is = refl
    taken_if (Awaits_more recovery) progress is = refl
    taken_if (Has_union table) progress is = refl
    taken_if (Rejects number) progress is = absurd (cc (is))

    pub makes_whole : recovers node letter.version range ≡ true → (progress : RecoveryProgress) → progress_of outcome ≡ Ok progress
        → is_complete (Some progress) ≡ nothing_makes is_whole letter node range
    makes_whole is progress so = whole_if outcome progress so ∙ made_by is_whole is

    pub makes_taken : recovers node letter.version range ≡ true → (progress : RecoveryProgress) → progress_of outcome ≡ Ok progress
        → true ≡ nothing_makes is_taken letter node range
    makes_taken is progress so = taken_if outcome progress so ∙ made_by is_taken is

    pub makes_refusal : (test : Recovered → Bool) → ((number : ℕ) → test (Rejects number) ≡ false)
        → recovers node letter.version range ≡ true → (fault : RecoveryError) → Refuses (recovery_of node range) report fault
        → false ≡ nothing_makes test letter node range
    makes_refusal test fails is fault refused = by (recovery_error_number fault) refused ∙ made_by test is
      where
        by : (number : Option ℕ) → IsSomeAnd number (λ n. outcome ≡ Rejects n) → false ≡ test outcome
        by None none = absurd none
        by (Some n) so = sym (ap test so ∙ fails n)

    -- where it recovers there is a piece of it that does
    pub recovering : recovers node letter.version range ≡ true → has_range is_recovering range (piece_at node range) ≡ true
    recovering is = (and_parts _ _ is).1

    -- the report of it counts just where the range recovers
    pub uncounted : recovers node letter.version range ≡ false → node ≡ told_nothing letter node range
    uncounted not =
        sym (ap (λ b. (cond b (counted node report) (silently node effect.Ignored)).node) (nothing_counts node letter range ∙ not))

    pub is_counted : recovers node letter.version range ≡ true → (counted node report).node ≡ told_nothing letter node range
    is_counted is =
        sym (ap (λ b. (cond b (counted node report) (silently node effect.Ignored)).node) (nothing_counts node letter range ∙ is))

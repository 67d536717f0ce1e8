-- What a piece that recovers needs once a report is taken: a report fewer of a silo that has more to tell, and none of one that has told all;
-- nothing once all have told all.
use Rattle.std.proofs.Common.{arith, ◌≡◌, ◌≢◌, refl, sym, ap, ◌∙◌, ℕ, ◌+◌, ◌*◌, ◌-◌, ◌≤◌, List, [], ◌∷◌}
use Rattle.std.specs.Prelude.{true, cond, not, ◌||◌, filter, sum_by, Option}
use Rattle.std.specs.Ordering.{nat_cmp}
use Rattle.std.specs.BTreeMap.{is_at}
use Rattle.std.proofs.lemmas.List.Sums.{sum_by-cons, sum_by-le-sum_by}
use Rattle.std.proofs.lemmas.Map.Steps.{set_value_same}
use Rattle.silo_address.specs.Silo.{Silo, silo_eq}
use Rattle.silo_address.specs.Grain.{Grain}
use Rattle.silo_address.proofs.Same.{Decides-silo}
use Rattle.ring_range.specs.Range.{Range}
use Rattle.hash_ring.specs.declared.Hashing.{Hashing}
use Rattle.directory_rules.specs.declared.piece_state.PieceState.{PieceState}
use Rattle.directory_rules.specs.declared.piece_state.PieceState.TheVariants as state
use Rattle.directory_rules.specs.State.{Table, Report, Recovery, Node}
use Rattle.directory_rules.specs.Recovery.{Has_more, Awaits_more, is_among, told_by, with_more, with_last}
use Rattle.directory_rules.specs.Sent.{recovery_of}
use Rattle.directory_rules.specs.Transfer.{with_recovery, with_settled}
use Rattle.directory_rules.proofs.Cases.{on_bool}
use Rattle.directory_facts.specs.Pieces.{HasPieces}
use Rattle.directory_facts.proofs.Collected.{TakenSo}
use Rattle.progress_rules.proofs.Falls.{Left, left_after, need_of, need, settled_beside, need_set}
use Rattle.progress_rules.proofs.Told.{last_told, told_on, others_on, others_left, put, beside}
use Rattle.progress_rules.proofs.Waits.{is_one, HasRecovering}

-- ---- sums over silos, of which one counts less or is left out
module _ (f g : Silo → ℕ) (it : Silo) (same : (x : Silo) → x ≢ it → g x ≡ f x) where
  falls_at : (xs : List Silo) → g it + 1 ≤ f it → is_among it xs ≡ true → sum_by g xs + 1 ≤ sum_by f xs
  falls_at [] less among = absurd (cc (among))
  falls_at (x ∷ xs) less among =
      let one = sum_by-cons f x xs in
      let other = sum_by-cons g x xs in
      on_bool (λ b. silo_eq it x ≡ b → (b || is_among it xs) ≡ true → sum_by g (x ∷ xs) + 1 ≤ sum_by f (x ∷ xs)) (silo_eq it x)
      (λ t is so.
      let here = ap g (is_one it x is) in
      let was = ap f (is_one it x is) in
      let rest = sum_by-le-sum_by g f xs no_more in
      omega (arith, one, other, here, was, rest, less))
      (λ u is so.
      let here = same x (λ eq. let it_is = (Decides-silo it x).1 (sym eq) in cc (it_is, is)) in
      let rest = falls_at xs less so in
      omega (arith, one, other, here, rest)) refl among
    where
      no_more : (x : Silo) → g x ≤ f x
      no_more x =
          on_bool (λ b. silo_eq x it ≡ b → g x ≤ f x) (silo_eq x it)
          (λ t is. let here = ap g (is_one x it is) in let was = ap f (is_one x it is) in omega (arith, here, was, less))
          (λ u is. let here = same x (λ eq. let it_is = (Decides-silo x it).1 eq in cc (it_is, is)) in omega (arith, here)) refl

  left_out : (xs : List Silo) → sum_by g (filter (λ s. not (silo_eq s it)) xs) ≤ sum_by f xs
  left_out [] = omega arith
  left_out (x ∷ xs) =
      let rest = left_out xs in
      let one = sum_by-cons f x xs in
      on_bool (λ b. silo_eq x it ≡ b
      → sum_by g (cond (not b) (x ∷ filter (λ s. not (silo_eq s it)) xs) (filter (λ s. not (silo_eq s it)) xs)) ≤ sum_by f (x ∷ xs)) (silo_eq x it)
      (λ t is. omega (arith, rest, one))
      (λ u is.
      let here = same x (λ eq. let it_is = (Decides-silo x it).1 eq in cc (it_is, is)) in
      let other = sum_by-cons g x (filter (λ s. not (silo_eq s it)) xs) in
      omega (arith, rest, one, here, other)) refl

module _ (due : Silo → Range → ℕ) (left : Left) (some : (silo : Silo) (range : Range) (after : Option Grain) → 1 ≤ left silo range after)
    (hashing : Hashing) (node : Node) (has : HasPieces hashing node) (report : Report) (its : HasRecovering node report.range) where
  abbrev old : Recovery
  old = recovery_of node report.range

  abbrev left_of : Recovery → Silo → ℕ
  left_of recovery silo = left silo report.range (told_by silo recovery) - 1

  -- what the piece needs with a recovery in place
  needs : (next : Recovery) → next.range ≡ report.range → (made : Recovery) → next ≡ made
      → need due left (with_recovery node next) + 2 * left_after left report.range old
      ≤ need due left node + 2 * left_after left report.range made
  needs next same_range made is =
      let after = with_recovery node next in
      let set = need_set due left hashing node has after report.range its.piece its.piece its.found
      (sym (set_value_same (is_at (nat_cmp report.range.start)) node.holding.pieces its.piece its.found)) refl
      (λ other apart. (refl, beside node report.range next same_range other apart)) in
      let was : need_of due left node its.piece.state its.piece.range ≡ 2 * left_after left report.range old =
      ap (λ (s : PieceState). need_of due left node s its.piece.range) its.recovering
      ∙ ap (λ (r : Range). need_of due left node state.Recovering r) its.same in
      let now : need_of due left after its.piece.state its.piece.range ≡ 2 * left_after left report.range made =
      ap (λ (s : PieceState). need_of due left after s its.piece.range) its.recovering
      ∙ ap (λ (r : Range). need_of due left after state.Recovering r) its.same
      ∙ ap (λ (r : Recovery). 2 * left_after left report.range r) (put node report.range next same_range ∙ is) in
      omega (arith, set, was, now)

  pub continues_need : (next : Recovery) → TakenSo old report (Has_more next)
      → left report.silo report.range (last_told old report) + 1 ≤ left report.silo report.range report.after
      → need due left (with_recovery node next) + 2 ≤ need due left node
  continues_need next so fewer =
      let all = needs next (ap (λ (r : Recovery). r.range) so.2 ∙ sym so.0.range) (with_more old report) so.2 in
      let told = ap (left report.silo report.range) (told_on old report so.0.goes_on) in
      let before = ap (left report.silo report.range) so.0.goes_on in
      let one = some report.silo report.range (told_by report.silo (with_more old report)) in
      let falls : left_after left report.range (with_more old report) + 1 ≤ left_after left report.range old =
      falls_at (left_of old) (left_of (with_more old report)) report.silo
      (λ x apart. ap (λ o. left x report.range o - 1) (others_on old report x apart)) old.awaiting
      (omega (arith, told, before, one, fewer)) so.0.awaited in
      omega (arith, all, falls)

  pub collects_need : (next : Recovery) → TakenSo old report (Awaits_more next) → need due left (with_recovery node next) ≤ need due left node
  collects_need next so =
      let all = needs next (ap (λ (r : Recovery). r.range) so.2 ∙ sym so.0.range) (with_last old report) so.2 in
      let less : left_after left report.range (with_last old report) ≤ left_after left report.range old =
      left_out (left_of old) (left_of (with_last old report)) report.silo
      (λ x apart. ap (λ o. left x report.range o - 1) (others_left old report x apart)) old.awaiting in
      omega (arith, all, less)

  pub completes_need : (table : Table) → need due left (with_settled node report.range table) ≤ need due left node
  completes_need table =
      let set = need_set due left hashing node has (with_settled node report.range table) report.range its.piece
      (record { range = report.range; state = state.Settled; entries = table }) its.found refl refl
      (λ other apart. settled_beside node report.range other table apart) in
      omega (arith, set)

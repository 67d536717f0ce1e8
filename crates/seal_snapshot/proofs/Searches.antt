-- Where a search of a shelf ends, and what it tells of the whole shelf.
use Rattle.std.proofs.Common.{◌≡◌, ◌⊎◌, ℕ, zero, suc, ◌<◌, ◌≤◌, Bool, true, false, not, cond, List, [], ◌∷◌, ◌++◌, length, get_or, take, drop, Option, Some, None, refl, sym, ◌∙◌, ap, inl, inr, arith, find, subst, eqb-true, le-ltb}
use Rattle.std.specs.List.{All, HoldsAt, filter, list_any}
use Rattle.std.specs.List.Sorted.{IsPartitionPoint}
use Rattle.std.specs.Prelude.{◌==◌, ◌&&◌, ◌||◌}
use Rattle.std.proofs.lemmas.Bool.{and_parts, cases_order, false_from_ne_true}
use Rattle.std.proofs.lemmas.List.Elements.{All-head, All-tail}
use Rattle.silo_address.specs.Silo.{Silo, silo_eq}
use Rattle.ring_range.specs.Range.{Range, range_eq}
use Rattle.directory_rules.specs.State.{Snapshot}
use Rattle.std.specs.Prelude.{IfSome, nat_lt}
use Rattle.directory_rules.specs.State.{Page as PageValue}
use Rattle.directory_rules.specs.Snapshot.{ShelfAnswer as Answer, digest_of, is_snapshot, page_count, page_from, page_of, shelf_answer, Hands_page, Has_none, Is_behind}
use Rattle.seal_snapshot.specs.Shelf.{AreInOrder, IsAt, IsDigestFor, TellsDigest, answer_of, comes_before, is_before}
use Rattle.seal_snapshot.specs.declared.shelf_answer.ShelfAnswer.{ShelfAnswer}
use Rattle.seal_snapshot.specs.declared.shelf_answer.ShelfAnswer.TheVariants.{Page, Missing, Behind}
use Rattle.seal_snapshot.proofs.Order.{apart, ordered_at}

module _ (version : ℕ) (range : Range) (to : Silo) where
  abbrev test : Snapshot → Bool
  test = is_snapshot version range to

  -- the place of such a snapshot
  place_of : (s : Snapshot) → test s ≡ true → (s.version ≡ version) × (s.range.start ≡ range.start)
  place_of s passes =
      let first = and_parts ((s.version == version) && range_eq s.range range) (silo_eq s.to to) passes in
      let second = and_parts (s.version == version) (range_eq s.range range) first.0 in
      let third = and_parts (s.range.start == range.start) (s.range.size == range.size) second.1 in
      (eqb-true s.version version second.0, eqb-true s.range.start range.start third.0)

  -- of two, one before the other, one alone is such a snapshot
  never_both : (a b : Snapshot) → comes_before a b ≡ true → test a ≡ true → test b ≡ true → ⊥
  never_both a b before one other =
      let p = place_of a one in
      let q = place_of b other in
      apart a b before (p.0 ∙ sym q.0) (p.1 ∙ sym q.1)

  -- ---- where there is one, it is found
  front_fails : (x : Snapshot) (shelf : List Snapshot) (i : ℕ) → AreInOrder (x ∷ shelf) → i < length shelf
      → HoldsAt (λ s. test s ≡ true) shelf i → test x ≡ false
  front_fails x shelf i order within passes =
      false_from_ne_true (test x) (λ p. never_both x (get_or shelf i x) (order.0 i x within) p (passes x))

  find_at : (shelf : List Snapshot) (i : ℕ) (s : Snapshot) → AreInOrder shelf → i < length shelf → HoldsAt (λ s. test s ≡ true) shelf i
      → s ≡ get_or shelf i s
      → find test shelf ≡ Some s
  find_at [] i s order within passes here = absurd (omega arith)
  find_at (x ∷ shelf) zero s order within passes here = ap (λ b. cond b (Some x) (find test shelf)) (passes x) ∙ ap (λ y. Some y) (sym here)
  find_at (x ∷ shelf) (suc i) s order within passes here =
      ap (λ b. cond b (Some x) (find test shelf)) (front_fails x shelf i order (omega arith) passes)
      ∙ find_at shelf i s order.1 (omega arith) passes here

  pub has_at : (shelf : List Snapshot) (i : ℕ) → i < length shelf → HoldsAt (λ s. test s ≡ true) shelf i → list_any test shelf ≡ true
  has_at [] i within passes = absurd (omega arith)
  has_at (x ∷ shelf) zero within passes = ap (λ b. b || list_any test shelf) (passes x)
  has_at (x ∷ shelf) (suc i) within passes = either (test x) (list_any test shelf) (has_at shelf i (omega arith) passes)
    where
      either : (a b : Bool) → b ≡ true → (a || b) ≡ true
      either true b holds = refl
      either false b holds = holds

  none_behind : (x : Snapshot) (shelf : List Snapshot) → AreInOrder (x ∷ shelf) → test x ≡ true → All (λ s. test s ≡ false) shelf
  none_behind x shelf order passes k d within =
      false_from_ne_true (test (get_or shelf k d)) (λ p. never_both x (get_or shelf k d) (order.0 k d within) passes p)

  -- ---- where there is none
  find_none : (shelf : List Snapshot) → All (λ s. test s ≡ false) shelf → find test shelf ≡ None
  find_none [] fail = refl
  find_none (x ∷ shelf) fail =
      ap (λ b. cond b (Some x) (find test shelf)) (All-head (λ s. test s ≡ false) x shelf fail)
      ∙ find_none shelf (All-tail (λ s. test s ≡ false) x shelf fail)

  pub has_none : (shelf : List Snapshot) → All (λ s. test s ≡ false) shelf → list_any test shelf ≡ false
  has_none [] fail = refl
  has_none (x ∷ shelf) fail =
      ap (λ b. b || list_any test shelf) (All-head (λ s. test s ≡ false) x shelf fail)
      ∙ has_none shelf (All-tail (λ s. test s ≡ false) x shelf fail)

  pub without_none : (shelf : List Snapshot) → All (λ s. test s ≡ false) shelf → filter (λ s. not (test s)) shelf ≡ shelf
  without_none [] fail = refl
  without_none (x ∷ shelf) fail =
      ap (λ b. cond (not b) (x ∷ filter (λ s. not (test s)) shelf) (filter (λ s. not (test s)) shelf))
      (All-head (λ s. test s ≡ false) x shelf fail)
      ∙ ap (λ l. x ∷ l) (without_none shelf (All-tail (λ s. test s ≡ false) x shelf fail))

  -- ---- it alone is taken out
  pub without_at : (shelf : List Snapshot) (i : ℕ) → AreInOrder shelf → i < length shelf → HoldsAt (λ s. test s ≡ true) shelf i
      → filter (λ s. not (test s)) shelf ≡ take i shelf ++ drop (suc i) shelf
  without_at [] i order within passes = absurd (omega arith)
  without_at (x ∷ shelf) zero order within passes =
      ap (λ b. cond (not b) (x ∷ filter (λ s. not (test s)) shelf) (filter (λ s. not (test s)) shelf)) (passes x)
      ∙ without_none shelf (none_behind x shelf order (passes x))
  without_at (x ∷ shelf) (suc i) order within passes =
      ap (λ b. cond (not b) (x ∷ filter (λ s. not (test s)) shelf) (filter (λ s. not (test s)) shelf))
      (front_fails x shelf i order (omega arith) passes)
      ∙ ap (λ l. x ∷ l) (without_at shelf i order.1 (omega arith) passes)

  -- ---- a search that misses
  pub nobody_there : (shelf : List Snapshot) (i : ℕ) → AreInOrder shelf
      → IsPartitionPoint (λ s. is_before version range.start s ≡ true) (λ s. is_before version range.start s ≡ false) shelf i
      → ((d : Snapshot) → i < length shelf → test (get_or shelf i d) ≡ false) → All (λ s. test s ≡ false) shelf
  nobody_there shelf i order split misses k d within = by (cases_order k i)
    where
      -- its place is the one that was searched for
      placed : test (get_or shelf k d) ≡ true → (a : Snapshot) → comes_before a (get_or shelf k d) ≡ is_before version range.start a
      placed passes a =
          let p = place_of (get_or shelf k d) passes in
          ap (λ v. is_before v (get_or shelf k d).range.start a) p.0 ∙ ap (λ s. is_before version s a) p.1

      clash : (b : Bool) → b ≡ true → b ≡ false → ⊥
      clash b holds fails = let e : true ≡ false = sym holds ∙ fails in cc

      itself : test (get_or shelf k d) ≡ true → is_before version range.start (get_or shelf k d) ≡ true → ⊥
      itself passes before = apart (get_or shelf k d) (get_or shelf k d) (placed passes (get_or shelf k d) ∙ before) refl refl

      by : (k ≡ i) ⊎ ((k < i) ⊎ (i < k)) → test (get_or shelf k d) ≡ false
      by (inl same) = ap (λ j. test (get_or shelf j d)) same ∙ misses d (omega arith)
      by (inr (inl below)) = false_from_ne_true (test (get_or shelf k d)) (λ passes. itself passes (split.0 k d (omega arith) below))
      by (inr (inr above)) =
          false_from_ne_true (test (get_or shelf k d)) (λ passes.
          clash (is_before version range.start (get_or shelf i d))
          (sym (placed passes (get_or shelf i d)) ∙ ordered_at shelf i k d order above within)
          (split.1 i d (omega arith) (omega arith)))

-- ---- what is answered once the version was seen
answer_seen : (shelf : List Snapshot) (seen version : ℕ) (range : Range) (asker : Silo) (page : ℕ) (found : Option Snapshot)
    → version ≤ seen
    → find (is_snapshot version range asker) shelf ≡ found → shelf_answer shelf seen version range asker page ≡ page_from found page
answer_seen shelf seen version range asker page found new found_is =
    ap (λ b. cond b Is_behind (page_from (find (is_snapshot version range asker) shelf) page)) (le-ltb seen version new)
    ∙ ap (λ o. page_from o page) found_is

pub answer_found : (shelf : List Snapshot) (seen version : ℕ) (range : Range) (asker : Silo) (page i : ℕ) (s : Snapshot) → AreInOrder shelf
    → version ≤ seen
    → IsAt (is_snapshot version range asker) shelf i → s ≡ get_or shelf i s
    → shelf_answer shelf seen version range asker page ≡ page_from (Some s) page
answer_found shelf seen version range asker page i s order new at here =
    answer_seen shelf seen version range asker page (Some s) new (find_at version range asker shelf i s order at.within at.passes here)

pub answer_missing : (shelf : List Snapshot) (seen version : ℕ) (range : Range) (asker : Silo) (page : ℕ) → version ≤ seen
    → All (λ s. is_snapshot version range asker s ≡ false) shelf → shelf_answer shelf seen version range asker page ≡ Has_none
answer_missing shelf seen version range asker page new fail =
    answer_seen shelf seen version range asker page None new (find_none version range asker shelf fail)

-- ---- a page tells the digest of its snapshot
abbrev digest_in : Answer → List ℕ
digest_in (Hands_page page) = page.digest
digest_in Has_none = []
digest_in Is_behind = []

module _ (page : PageValue) (number : ℕ) where
  digest_of_page : (s : Snapshot) (b : Bool) → Hands_page page ≡ cond b (Hands_page (page_of s number)) Has_none
      → page.digest ≡ digest_of s.entries
  digest_of_page s true is = ap digest_in is
  digest_of_page s false is = cc

  digest_found : (behind : Bool) (found : Option Snapshot) → Hands_page page ≡ cond behind Is_behind (page_from found number)
      → IfSome found (λ s. page.digest ≡ digest_of s.entries)
  digest_found true found is = cc
  digest_found false None is = tt
  digest_found false (Some s) is = digest_of_page s (nat_lt number (page_count (length s.entries))) is

pub tells_digest : (shelf : List Snapshot) (seen version : ℕ) (range : Range) (asker : Silo) (number : ℕ) (answer : ShelfAnswer)
    → answer_of answer ≡ shelf_answer shelf seen version range asker number → TellsDigest version range asker shelf answer
tells_digest shelf seen version range asker number (Page page) is =
    digest_found page number (nat_lt seen version) (find (is_snapshot version range asker) shelf) is
tells_digest shelf seen version range asker number Missing is = tt
tells_digest shelf seen version range asker number Behind is = tt

-- what is the digest of the snapshot that was found is that of the one at its index
pub digest_at : (version : ℕ) (range : Range) (to : Silo) (shelf : List Snapshot) (i : ℕ) (s : Snapshot) (digest : List ℕ) → AreInOrder shelf
    → IsAt (is_snapshot version range to) shelf i → s ≡ get_or shelf i s → IsDigestFor version range to shelf digest
    → digest ≡ digest_of s.entries
digest_at version range to shelf i s digest order at here is =
    subst (λ (found : Option Snapshot). IfSome found (λ snapshot. digest ≡ digest_of snapshot.entries))
    (find_at version range to shelf i s order at.within at.passes here) is

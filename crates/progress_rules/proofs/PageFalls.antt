-- What a new owner sends when a page comes, or the word that there is none.
use Rattle.std.proofs.Common.{arith, ◌≡◌, ◌≢◌, refl, sym, ap, subst, ◌∙◌, ℕ, ◌+◌, ◌*◌, ◌-◌, ◌≤◌, List, [], ◌∷◌, ◌++◌, length}
use Rattle.std.specs.Prelude.{true, cond, ◌==◌, ◌&&◌, map, sum_by, All, Option, Some, None}
use Rattle.std.specs.Option.{unwrap_or}
use Rattle.std.specs.Ordering.{nat_cmp}
use Rattle.std.specs.Map.{lookup}
use Rattle.std.specs.BTreeMap.{is_at, insert_entry}
use Rattle.std.proofs.lemmas.Bool.{eqb-true, ltb-true}
use Rattle.std.proofs.lemmas.Cmp.{nat_cmp_total}
use Rattle.std.proofs.lemmas.List.{length-map}
use Rattle.std.proofs.lemmas.List.Sums.{sum_by-cons}
use Rattle.std.proofs.lemmas.Map.Lookups.{exact_unsigned}
use Rattle.std.proofs.lemmas.Map.Steps.{set_value_same}
use Rattle.texts.proofs.Decided.{both}
use Rattle.silo_address.specs.Silo.{Silo}
use Rattle.silo_address.specs.Grain.{Grain}
use Rattle.silo_address.specs.declared.Entry.{Entry}
use Rattle.ring_range.specs.Range.{Range}
use Rattle.hash_ring.specs.declared.Hashing.{Hashing}
use Rattle.directory_rules.specs.declared.effect.Effect.TheVariants as effect
use Rattle.directory_rules.specs.declared.piece_state.PieceState.{PieceState}
use Rattle.directory_rules.specs.declared.piece_state.PieceState.TheVariants as state
use Rattle.directory_rules.specs.Members.{members_of}
use Rattle.directory_rules.specs.Table.{table_of, rise_by_grain, lie_in}
use Rattle.directory_rules.specs.State.{Page, Gathering, Recovery, Letter, Ask_letter, Page_letter, Missing_letter, Node}
use Rattle.directory_rules.specs.Gatherings.{Gathered, Wants_page, Has_all, Refuses, new_gathering, gathered}
use Rattle.directory_rules.specs.Recovery.{new_recovery}
use Rattle.directory_rules.specs.Sent.{letter_to, query_to, gathering_of, recovery_of}
use Rattle.directory_rules.specs.Step.{silently}
use Rattle.directory_rules.specs.Transfer.{awaits, with_gathering, with_settled, gathered_by, is_page_awaited, paged, turned_to_recovery, querying, missing}
use Rattle.directory_rules.proofs.Cases.{on_bool}
use Rattle.directory_facts.specs.Pieces.{HasPieces}
use Rattle.directory_facts.proofs.Collected.{GatheredSo, gathered_so}
use Rattle.directory_facts.proofs.Lookups.{found_put, found_beside_put}
use Rattle.progress_rules.specs.Gathers.{AwaitsFrom}
use Rattle.progress_rules.specs.Room.{pages_shelved}
use Rattle.progress_rules.proofs.Gathers.{HasAwaiting, awaiting_piece}
use Rattle.progress_rules.proofs.Sums.{le_same}
use Rattle.progress_rules.proofs.Questions.{IsQuestion, asked_once, questions_offer_none, query_questions}
use Rattle.progress_rules.proofs.Falls.{Left, left_instead, left_after, need_of, Falls, nothing, settled_beside, turned_beside, need_set}

-- one of each, and what is left of each, are all
pub left_each : {X : Type 0} (f : X → ℕ) (xs : List X) → ((x : X) → 1 ≤ f x) → sum_by (λ x. f x - 1) xs + length xs ≡ sum_by f xs
left_each f [] some = refl
left_each f (x ∷ xs) some =
    let rest = left_each f xs some in
    let here = some x in
    let one = sum_by-cons (λ y. f y - 1) x xs in
    let other = sum_by-cons f x xs in
    omega (arith, rest, here, one, other)

module _ (due : Silo → Range → ℕ) (left : Left) (hashing : Hashing) (node : Node) (has : HasPieces hashing node) (letter : Letter) where
  -- what the piece needed
  waited : (range : Range) (its : HasAwaiting node range letter.from)
      → need_of due left node its.piece.state its.piece.range ≡ 2 * (due letter.from range - (gathering_of node range).next) + 2 * left_instead left node range
  waited range its =
      ap (λ (s : PieceState). need_of due left node s its.piece.range) its.awaiting
      ∙ ap (λ (r : Range). need_of due left node (state.Awaiting letter.from) r) its.same

  -- ---- a page
  module _ (page : Page) (counts : is_page_awaited node letter page ≡ true) where
    pub waits : AwaitsFrom node page.range letter.from
    waits =
        let all = both ((page.version == letter.version) && awaits node letter.version page.range letter.from && rise_by_grain
        ((gathering_of node page.range).entries ++ page.entries)) (lie_in node.settings.hashing page.range page.entries) counts in
        let three = both ((page.version == letter.version) && awaits node letter.version page.range letter.from)
        (rise_by_grain ((gathering_of node page.range).entries ++ page.entries)) all.0 in
        let two = both (page.version == letter.version) (awaits node letter.version page.range letter.from) three.0 in
        (both (letter.version == node.view.version) _ two.1).1

    pub of_version : page.version ≡ node.view.version
    of_version =
        let all = both ((page.version == letter.version) && awaits node letter.version page.range letter.from && rise_by_grain
        ((gathering_of node page.range).entries ++ page.entries)) (lie_in node.settings.hashing page.range page.entries) counts in
        let three = both ((page.version == letter.version) && awaits node letter.version page.range letter.from)
        (rise_by_grain ((gathering_of node page.range).entries ++ page.entries)) all.0 in
        let two = both (page.version == letter.version) (awaits node letter.version page.range letter.from) three.0 in
        eqb-true page.version letter.version two.0 ∙ eqb-true letter.version node.view.version
        (both (letter.version == node.view.version) _ two.1).0

    its : HasAwaiting node page.range letter.from
    its = awaiting_piece node page.range letter.from waits

    module _ (told : page.pages ≤ due letter.from page.range) where
      -- more are wanted: the next one is asked for
      goes_on : (gathering : Gathering) → GatheredSo (gathering_of node page.range) page (Wants_page gathering)
          → Falls due left node (Page_letter page) (gathered_by (Wants_page gathering) letter page.range node)
      goes_on gathering so = record {
        sends =
            let before = waited page.range its in
            let after_need = ap (λ (s : PieceState). need_of due left after s its.piece.range) its.awaiting
            ∙ ap (λ (r : Range). need_of due left after (state.Awaiting letter.from) r) its.same in
            let set = need_set due left hashing node has after page.range its.piece its.piece its.found
            (sym (set_value_same (is_at (nat_cmp page.range.start)) node.holding.pieces its.piece its.found)) refl
            (λ other apart. (beside other apart, refl)) in
            let next = ap (λ (g : Gathering). g.next) put in
            let stepped_on = ap (λ (g : Gathering). g.next) so.1 in
            let turn = so.0.next in
            let below = ltb-true page.page page.pages so.0.below in
            omega (arith, before, after_need, set, next, stepped_on, turn, below, told);
        begins = omega arith;
        no_offers = refl;
        shelves = λ silo version range. le_same (pages_shelved (Some node) silo version range);
        silo_is = refl;
        view_is = refl;
      }
        where
          after : Node
          after = with_gathering node gathering

          ask : Letter
          ask = letter_to letter.from after (Ask_letter page.range (gathering_of after page.range).next)

          same_start : gathering.range.start ≡ page.range.start
          same_start = ap (λ (g : Gathering). g.range.start) so.1 ∙ ap (λ (r : Range). r.start) (sym so.0.range)

          put : gathering_of after page.range ≡ gathering
          put =
              ap (λ k. unwrap_or (lookup (is_at (nat_cmp page.range.start)) (insert_entry nat_cmp node.gatherings k gathering))
              (new_gathering node.view.version page.range)) same_start
              ∙ ap (λ o. unwrap_or o (new_gathering node.view.version page.range))
              (found_put nat_cmp nat_cmp_total exact_unsigned page.range.start gathering node.gatherings)

          beside : (other : Range) → other.start ≢ page.range.start → gathering_of after other ≡ gathering_of node other
          beside other apart =
              ap (λ o. unwrap_or o (new_gathering node.view.version other))
              (found_beside_put nat_cmp nat_cmp_total exact_unsigned gathering.range.start gathering node.gatherings other.start
              (subst (λ k. other.start ≢ k) (sym same_start) apart))

      -- all are there: the giver is told
      ends : (entries : List Entry) → GatheredSo (gathering_of node page.range) page (Has_all entries)
          → Falls due left node (Page_letter page) (gathered_by (Has_all entries) letter page.range node)
      ends entries so = record {
        sends =
            let before = waited page.range its in
            let set = need_set due left hashing node has (with_settled node page.range (table_of entries)) page.range its.piece
            (record { range = page.range; state = state.Settled; entries = table_of entries }) its.found refl refl
            (λ other apart. settled_beside node page.range other (table_of entries) apart) in
            let turn = so.0.next in
            let below = ltb-true page.page page.pages so.0.below in
            omega (arith, before, set, turn, below, told);
        begins = omega arith;
        no_offers = refl;
        shelves = λ silo version range. le_same (pages_shelved (Some node) silo version range);
        silo_is = refl;
        view_is = refl;
      }

      pub by_gathered : (result : Gathered) → gathered (gathering_of node page.range) page ≡ result
          → ((left : Gathering) → result ≡ Refuses 701 left → ⊥)
          → Falls due left node (Page_letter page) (gathered_by result letter page.range node)
      by_gathered (Wants_page gathering) is kept =
          goes_on gathering (subst (GatheredSo (gathering_of node page.range) page) is (gathered_so (gathering_of node page.range) page))
      by_gathered (Has_all entries) is kept =
          ends entries (subst (GatheredSo (gathering_of node page.range) page) is (gathered_so (gathering_of node page.range) page))
      by_gathered (Refuses number anew) is kept =
          on_bool (λ b. (number == 701) ≡ b → Falls due left node (Page_letter page)
          (cond b (silently (with_gathering node anew) (effect.Refused 701))
          (silently node effect.Ignored))) (number == 701)
          (λ t so. absurd (kept anew (ap (λ k. Refuses k anew) (eqb-true number 701 so))))
          (λ f so. nothing due left node (Page_letter page) effect.Ignored) refl

  -- whatever the page: those that are due are no fewer than it says, and none is refused by its digest
  pub page_falls : (page : Page) → (is_page_awaited node letter page ≡ true → page.pages ≤ due letter.from page.range)
      → ((left : Gathering) → is_page_awaited node letter page ≡ true → gathered (gathering_of node page.range) page ≡ Refuses 701 left → ⊥)
      → Falls due left node (Page_letter page) (paged node letter page)
  page_falls page told kept =
      on_bool (λ b. is_page_awaited node letter page ≡ b
      → Falls due left node (Page_letter page) (cond b (gathered_by (gathered (gathering_of node page.range) page) letter page.range node)
      (silently node effect.Ignored)))
      (is_page_awaited node letter page)
      (λ t counts. by_gathered page counts (told counts) (gathered (gathering_of node page.range) page) refl
      (λ left is. kept left counts is))
      (λ f not. nothing due left node (Page_letter page) effect.Ignored) refl

  -- ---- there is none: all silos are asked, each behind nothing
  turns : (range : Range) → ((silo : Silo) (other : Range) (after : Option Grain) → 1 ≤ left silo other after) → AwaitsFrom node range letter.from
      → Falls due left node (Missing_letter range) (querying range (turned_to_recovery node range))
  turns range some waits = record {
    sends =
        let before = waited range its in
        let set = need_set due left hashing node has after range its.piece (record { range = range; state = state.Recovering; entries = [] }) its.found refl refl
        (λ other apart. turned_beside node range other apart) in
        let asks = asked_once letters all in
        let sent = length-map (recovery_of after range).awaiting (query_to after range) ∙ ap (λ (r : Recovery). length r.awaiting) recovers in
        let told : left_after left range (recovery_of after range) ≡ sum_by (λ silo. left silo range None - 1) (members_of node.view) = ap (left_after left range) recovers in
        let one_each = left_each (λ silo. left silo range None) (members_of node.view) (λ silo. some silo range None) in
        omega (arith, before, set, asks, sent, told, one_each);
    begins = omega arith;
    no_offers = questions_offer_none letters all;
    shelves = λ silo version other. le_same (pages_shelved (Some node) silo version other);
    silo_is = refl;
    view_is = refl;
  }
    where
      its : HasAwaiting node range letter.from
      its = awaiting_piece node range letter.from waits

      after : Node
      after = turned_to_recovery node range

      letters : List Letter
      letters = map (query_to after range) (recovery_of after range).awaiting

      recovers : recovery_of after range ≡ new_recovery node.view range
      recovers =
          ap (λ o. unwrap_or o (new_recovery node.view range))
          (found_put nat_cmp nat_cmp_total exact_unsigned range.start (new_recovery node.view range) node.recoveries)

      all : All IsQuestion letters
      all = query_questions after range

  pub missing_falls : (range : Range) → ((silo : Silo) (other : Range) (after : Option Grain) → 1 ≤ left silo other after)
      → Falls due left node (Missing_letter range) (missing node letter range)
  missing_falls range some =
      on_bool (λ b. awaits node letter.version range letter.from ≡ b
      → Falls due left node (Missing_letter range) (cond b (querying range (turned_to_recovery node range)) (silently node effect.Ignored)))
      (awaits node letter.version range letter.from)
      (λ t waits. turns range some (both (letter.version == node.view.version) _ waits).1)
      (λ f not. nothing due left node (Missing_letter range) effect.Ignored) refl

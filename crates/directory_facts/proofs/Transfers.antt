-- A snapshot's pages complete a gathering with its entries; the last page, and the last report, settle their piece with what is had then.
use Rattle.std.proofs.Common.{arith, ◌≡◌, refl, sym, ap, subst, ◌∙◌, ℕ, zero, suc, ◌+◌, ◌*◌, ◌/◌, ◌<◌, List, ◌++◌, length, take, map}
use Rattle.std.specs.Prelude.{◌==◌, ◌&&◌, not, nat_lt, Bool, true, false, cond, is_some, if◌then◌else◌, Option, Some, None, fold}
use Rattle.std.specs.Ordering.{nat_cmp}
use Rattle.std.specs.Cmp.Lexicographic.{pointwise}
use Rattle.std.specs.List.{range_with_len}
use Rattle.std.proofs.lemmas.Bool.{eq-eqb, eqb-false, lt-ltb, ltb-true}
use Rattle.std.proofs.lemmas.Cmp.{nat_cmp_total}
use Rattle.std.proofs.lemmas.Map.Lookups.{exact_unsigned}
use Rattle.texts.proofs.Decided.{both}
use Rattle.silo_address.specs.declared.Entry.{Entry}
use Rattle.ring_range.specs.Range.{Range, range_eq}
use Rattle.ring_range.proofs.Same.{Decides-range}
use Rattle.directory_rules.specs.declared.piece_state.PieceState.{PieceState}
use Rattle.directory_rules.specs.declared.piece_state.PieceState.TheVariants.{Settled}
use Rattle.directory_rules.specs.Settings.{page_size}
use Rattle.directory_rules.specs.State.{Piece, Table, Snapshot, Gathering, Whole, Node}
use Rattle.directory_rules.specs.Table.{table_of, rise_by_grain, lie_in}
use Rattle.directory_rules.specs.Snapshot.{page_count, page_entries, page_of, digest_of}
use Rattle.directory_rules.specs.Gatherings.{Gathered, Wants_page, Has_all, Refuses, new_gathering, with_page, is_in_turn, completed, gathered, agrees, is_entry_count}
use Rattle.directory_rules.specs.Recovery.{recovered}
use Rattle.directory_rules.specs.Sent.{gathering_of, recovery_of}
use Rattle.directory_rules.specs.Step.{silently}
use Rattle.directory_rules.specs.declared.effect.Effect.TheVariants as effect
use Rattle.directory_rules.specs.Transfer.{piece_at, has_range, is_awaiting_from, is_recovering, awaits, with_settled, gathered_by, recovered_by}
use Rattle.directory_rules.proofs.Cases.{on_bool}
use Rattle.directory_rules.proofs.ReportCounts.{report_counts}
use Rattle.directory_facts.specs.Transfers.{then_page, PagesAreTheSnapshot, IsSettledWith, LastPageSettles, LastReportSettles}
use Rattle.directory_facts.proofs.Lookups.{found_set}
use Rattle.directory_facts.proofs.PageCounts.{counted, same_bytes}
use Rattle.directory_facts.proofs.PagesTaken.{page_more, all_pages}

-- ---- the pages of a snapshot
both_true : (a b : Bool) → a ≡ true → b ≡ true → (a && b) ≡ true
both_true a b one other = ap (λ t. t && b) one ∙ other

-- there is a page
some_page : (n : ℕ) → 0 < page_count n
some_page n =
    on_bool (λ b. (n == 0) ≡ b → 0 < (if b then 1 else (n + 63) / page_size)) (n == 0) (λ t is. omega arith)
    (λ f is. let more = eqb-false n 0 is in above n more) refl
  where
    above : (n : ℕ) → ¬ (n ≡ 0) → 0 < (n + 63) / page_size
    above zero not = absurd (not refl)
    above (suc n) not = omega arith

module _ (snapshot : Snapshot) where
  abbrev all : List Entry
  all = snapshot.entries

  abbrev count : ℕ
  count = page_count (length all)

  -- what the first page has told, once it has come
  abbrev told : ℕ → Option Whole
  told zero = None
  told (suc k) = Some (record { pages = count; digest = digest_of all })

  -- after so many pages
  abbrev had : ℕ → Gathering
  had k = record { version = snapshot.version; range = snapshot.range; next = k; whole = told k; entries = take (k * page_size) all }

  agreeing : (k : ℕ) → agrees (told k) (page_of snapshot k) ≡ true
  agreeing zero = refl
  agreeing (suc k) = ap (λ t. t && pointwise ◌==◌ (digest_of all) (digest_of all)) (eq-eqb count count refl) ∙ same_bytes (digest_of all)

  in_turn : (k : ℕ) → k < count → is_in_turn (had k) (page_of snapshot k) ≡ true
  in_turn k less =
      both_true ((k == k) && nat_lt k count && agrees (told k) (page_of snapshot k)) (is_entry_count k count (length (page_entries k all)))
      (both_true ((k == k) && nat_lt k count) (agrees (told k) (page_of snapshot k))
      (both_true (k == k) (nat_lt k count) (eq-eqb k k refl) (lt-ltb k count less)) (agreeing k))
      (counted all k less)

  of_it : ((snapshot.version == snapshot.version) && range_eq snapshot.range snapshot.range) ≡ true
  of_it =
      both_true (snapshot.version == snapshot.version) (range_eq snapshot.range snapshot.range)
      (eq-eqb snapshot.version snapshot.version refl) ((Decides-range snapshot.range snapshot.range).1 refl)

  abbrev going_on : ℕ → Gathered
  going_on k = cond (nat_lt (k + 1) count) (Wants_page (with_page (had k) (page_of snapshot k))) (completed (had k) (page_of snapshot k))

  taken : (k : ℕ) → k < count → gathered (had k) (page_of snapshot k) ≡ going_on k
  taken k less =
      ap (λ b. cond (not b) (Refuses 703 (had k)) (cond (not (is_in_turn (had k) (page_of snapshot k))) (Refuses 702 (had k)) (going_on k)))
      of_it
      ∙ ap (λ b. cond (not b) (Refuses 702 (had k)) (going_on k)) (in_turn k less)

  next : (k : ℕ) → k + 1 < count → gathered (had k) (page_of snapshot k) ≡ Wants_page (had (suc k))
  next k more =
      taken k (omega (more, arith)) ∙ ap (λ b. cond b (Wants_page (with_page (had k) (page_of snapshot k)))
      (completed (had k) (page_of snapshot k))) (lt-ltb (k + 1) count more)
      ∙ ap (λ (entries : List Entry). Wants_page (record {
        version = snapshot.version;
        range = snapshot.range;
        next = k + 1;
        whole = told
            (suc k);
        entries = entries;
      })) (page_more k all)
      ∙ ap (λ (n : ℕ). Wants_page (record {
        version = snapshot.version;
        range = snapshot.range;
        next = n;
        whole = told (suc k);
        entries = take (n * page_size) all;
      })) same
    where
      same : k + 1 ≡ suc k
      same = omega arith

  last : (k : ℕ) → k + 1 ≡ count → gathered (had k) (page_of snapshot k) ≡ Has_all all
  last k is =
      taken k (omega (is, arith)) ∙ ap (λ b. cond b (Wants_page (with_page (had k) (page_of snapshot k)))
      (completed (had k) (page_of snapshot k))) (ltb-not (k + 1) count is)
      ∙ ap (λ (entries : List Entry). cond (pointwise ◌==◌ (digest_of entries) (digest_of all)) (Has_all entries)
      (Refuses 701 (new_gathering snapshot.version snapshot.range))) (page_more k all ∙ all_pages (k + 1) all (omega (is, arith)))
      ∙ ap (λ b. cond b (Has_all all) (Refuses 701 (new_gathering snapshot.version snapshot.range))) (same_bytes (digest_of all))
    where
      ltb-not : (a b : ℕ) → a ≡ b → nat_lt a b ≡ false
      ltb-not a b same =
          on_bool (λ t. nat_lt a b ≡ t → t ≡ false) (nat_lt a b)
          (λ t less. let below = ltb-true a b less in absurd (omega (below, same, arith))) (λ f less. refl) refl

  from : (m k : ℕ) → k + suc m ≡ count → fold then_page (Wants_page (had k)) (map (page_of snapshot) (range_with_len k (suc m))) ≡ Has_all
      all
  from zero k is = last k (omega (is, arith))
  from (suc m) k is =
      ap (λ so. fold then_page so (map (page_of snapshot) (range_with_len (k + 1) (suc m)))) (next k (omega (is, arith)))
      ∙ ap (λ n. fold then_page (Wants_page (had (suc k))) (map (page_of snapshot) (range_with_len n (suc m)))) same
      ∙ from m (suc k) (omega (is, arith))
    where
      same : k + 1 ≡ suc k
      same = omega arith

pub pages_are_the_snapshot : PagesAreTheSnapshot
pages_are_the_snapshot snapshot = by (page_count (length snapshot.entries)) refl
  where
    by : (c : ℕ) → page_count (length snapshot.entries) ≡ c
        → fold then_page (Wants_page (new_gathering snapshot.version snapshot.range)) (map (page_of snapshot) (range_with_len 0 c))
        ≡ Has_all snapshot.entries
    by zero is = let some = some_page (length snapshot.entries) in absurd (omega (some, is, arith))
    by (suc m) is = from snapshot m 0 (omega (is, arith))

-- ---- the piece that is settled then
there_is : (test : PieceState → Bool) (range : Range) (o : Option Piece) → has_range test range o ≡ true → is_some o ≡ true
there_is test range None has = absurd (cc (has))
there_is test range (Some piece) has = refl

settled_so : (node : Node) (range : Range) (table : Table) (test : PieceState → Bool) → has_range test range (piece_at node range) ≡ true
    → IsSettledWith (with_settled node range table) range table
settled_so node range table test has =
    found_set nat_cmp nat_cmp_total exact_unsigned range.start (record { range = range; state = Settled; entries = table })
    node.holding.pieces (there_is test range (piece_at node range) has)

pub last_page_settles : LastPageSettles
last_page_settles node letter page entries awaited all =
    subst (λ b. IsSettledWith (cond b (gathered_by (gathered (gathering_of node page.range) page) letter page.range node)
    (silently node effect.Ignored)).node page.range (table_of entries)) (sym awaited)
    (subst (λ g. IsSettledWith (gathered_by g letter page.range node).node page.range (table_of entries)) (sym all)
    (settled_so node page.range (table_of entries) (is_awaiting_from letter.from) has))
  where
    has : has_range (is_awaiting_from letter.from) page.range (piece_at node page.range) ≡ true
    has =
        let order = rise_by_grain ((gathering_of node page.range).entries ++ page.entries) in
        let inside = lie_in node.settings.hashing page.range page.entries in
        let awaiting = awaits node letter.version page.range letter.from in
        let three = both ((page.version == letter.version) && awaiting && order) inside awaited in
        let two = both ((page.version == letter.version) && awaiting) order three.0 in
        (both (letter.version == node.view.version) (has_range (is_awaiting_from letter.from) page.range (piece_at node page.range))
        (both (page.version == letter.version) awaiting two.0).1).1

pub last_report_settles : LastReportSettles
last_report_settles node letter report table awaited all =
    subst (λ b. IsSettledWith (cond b (recovered_by (recovered (recovery_of node report.range) report) report node)
    (silently node effect.Ignored)).node report.range table) (sym awaited)
    (subst (λ r. IsSettledWith (recovered_by r report node).node report.range table) (sym all)
    (settled_so node report.range table is_recovering
    (both (letter.version == node.view.version) (has_range is_recovering report.range (piece_at node report.range))
    (report_counts node letter report awaited).waits).1))

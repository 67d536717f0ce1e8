-- Whatever a silo does but see a version, it only waits for less.
use Rattle.std.proofs.Common.{arith, ◌≡◌, refl, sym, ap, subst, ◌∙◌, ℕ, ◌+◌, ◌<◌, List, [], ◌⊎◌, inl, inr}
use Rattle.std.specs.Prelude.{Bool, true, false, ◌==◌, fold, Option, Some, Ok}
use Rattle.std.specs.Option.{unwrap_or}
use Rattle.std.specs.Ordering.{nat_cmp}
use Rattle.std.specs.Map.{lookup}
use Rattle.std.specs.BTreeMap.{is_at, insert_entry}
use Rattle.std.proofs.lemmas.Bool.{eqb-true, eqb-false}
use Rattle.std.proofs.lemmas.Cmp.{nat_cmp_total}
use Rattle.std.proofs.lemmas.Map.Lookups.{exact_unsigned}
use Rattle.std.proofs.lemmas.List.Elements.{All-weaker}
use Rattle.texts.proofs.Decided.{both}
use Rattle.silo_address.specs.Silo.{Silo}
use Rattle.silo_address.proofs.Same.{Decides-silo}
use Rattle.ring_range.specs.Range.{Range, range_eq}
use Rattle.hash_ring.specs.Hash.{hash_grain}
use Rattle.hash_ring.specs.declared.Hashing.{Hashing}
use Rattle.directory_rules.specs.declared.act.Request.{Request}
use Rattle.directory_rules.specs.declared.piece_state.PieceState.{PieceState}
use Rattle.directory_rules.specs.declared.piece_state.PieceState.TheVariants as state
use Rattle.directory_rules.specs.Answer.{answered}
use Rattle.directory_rules.specs.State.{Gathering, Letter, Node, Piece, Page, Recovery, Report, Table}
use Rattle.directory_rules.specs.Gatherings.{Wants_page, new_gathering, gathered}
use Rattle.directory_rules.specs.Input.{Input, step}
use Rattle.directory_rules.specs.Recovery.{Awaits_more, new_recovery, recovered, told_by}
use Rattle.directory_rules.specs.Settings.{Settings}
use Rattle.directory_rules.specs.Sent.{gathering_of, recovery_of}
use Rattle.directory_rules.specs.Sight.{is_settled}
use Rattle.directory_rules.specs.Step.{Stepped}
use Rattle.directory_rules.specs.Transfer.{piece_at, has_range, is_awaiting_from, is_recovering, nothing_in, told_nothing, with_gathering, with_recovery, with_settled, turned_to_recovery}
use Rattle.directory_rules.proofs.Cases.{on_bool}
use Rattle.directory_facts.specs.Pieces.{HasPieces, IsPiece}
use Rattle.directory_facts.proofs.Answers.{answers_leave_others}
use Rattle.directory_facts.proofs.Collected.{GatheredSo, gathered_so}
use Rattle.directory_facts.proofs.EachStep.{by_way}
use Rattle.directory_facts.proofs.Emptied.{as_report, by_nothing}
use Rattle.directory_facts.proofs.Lookups.{found_put, found_beside_put, found_beside_set}
use Rattle.directory_facts.proofs.Ways.{IsPageTaken, IsReportTaken, Ways}
use Rattle.progress_rules.specs.Waits.{Recovers, Awaits, IsUpTo}
use Rattle.progress_rules.proofs.Asked.{outlined, by_outline, more_awaits, told_more, collected_awaits}
use Rattle.progress_rules.proofs.EmptiedPieces.{by_each_piece}
use Rattle.progress_rules.proofs.Gathers.{IsDropped, settling, turning, gathers_so, wanted_range}
use Rattle.progress_rules.proofs.Told.{up_to_both}
use Rattle.progress_rules.proofs.Waits.{AsBefore, as_before, settled_awaits}
use Rattle.deployment_progress.specs.Waits.{HasToldOn, WaitsForLess}
use Rattle.deployment_progress.proofs.States.{GoesOn, same_states, one_moves, set_states, not_settled_and_recovers}

-- who was awaited before, and had told as much
told_on : (before after : Node) (range : Range) (silo : Silo) → AsBefore before after range silo
    → Awaits before range silo × HasToldOn before after range silo
told_on before after range silo so = (so.0, inl so.1)

-- ---- at once and on
pub same_waits : (node : Node) → GoesOn node node
same_waits node =
    same_states node node refl (λ range giver waits. (waits, inl refl)) (λ range silo was waits. (waits, inl refl)) (λ test range. refl)

pub waits_on : (one two three : Node) → WaitsForLess one two → WaitsForLess two three → WaitsForLess one three
waits_on one two three a b = record {
  settings = b.settings ∙ a.settings;
  settled = λ range is. b.settled range (a.settled range is);
  recovers = λ range is. elim (a.recovers range is) [ inl still ↦ b.recovers range still | inr settled ↦ inr (b.settled range settled) ];
  awaits = λ range giver is.
      elim (a.awaits range giver is) [
        | inl still ↦ b.awaits range giver still
        | inr less ↦ inr (elim less [ inl recovers ↦ b.recovers range recovers | inr settled ↦ inr (b.settled range settled) ])
      ];
  recovered =
      λ range is. elim (b.recovered range is) [
        | inl before ↦ a.recovered range before
        | inr awaited ↦ inr
            (awaited.0, (a.pages range awaited.0 awaited.1).0)
      ];
  reports = λ range silo was waits.
      elim (a.recovers range was) [
        | inl still ↦ a.reports range silo was (b.reports range silo still waits)
        | inr settled ↦ absurd (not_settled_and_recovers three range (b.settled range settled) waits.recovers)
      ];
  told = λ range silo was waits.
      elim (a.recovers range was) [
        | inl still ↦ up_to_both (hash_grain one.settings.hashing) range (told_by silo (recovery_of one range))
            (told_by silo (recovery_of two range)) (told_by silo (recovery_of three range))
            (a.told range silo was (b.reports range silo still waits))
            (subst (λ (s : Settings). IsUpTo (hash_grain s.hashing) range (told_by silo (recovery_of two range))
            (told_by silo (recovery_of three range))) a.settings (b.told range silo still waits))
        | inr settled ↦ absurd (not_settled_and_recovers three range (b.settled range settled) waits.recovers)
      ];
  pages =
      λ range giver waits. let before = b.pages range giver waits in let first = a.pages range giver before.0 in
      (first.0, let less = before.1 in let more = first.1 in omega (arith, less, more));
}

gathers_both : (one two three : Gathering) → (two ≡ one) ⊎ (one.next < two.next) → (three ≡ two) ⊎ (two.next < three.next)
    → (three ≡ one) ⊎ (one.next < three.next)
gathers_both one two three (inl same) (inl still) = inl (still ∙ same)
gathers_both one two three (inl same) (inr more) = let next = ap (λ (g : Gathering). g.next) same in inr (omega (arith, next, more))
gathers_both one two three (inr more) (inl still) = let next = ap (λ (g : Gathering). g.next) still in inr (omega (arith, next, more))
gathers_both one two three (inr more) (inr further) = inr (omega (arith, more, further))

goes_both : (one two three : Node) → GoesOn one two → GoesOn two three → GoesOn one three
goes_both one two three a b = record {
  less = waits_on one two three a.less b.less;
  pages = λ range giver waits.
      let later = b.pages range giver waits in
      let first = a.pages range giver later.0 in
      (first.0, gathers_both (gathering_of one range) (gathering_of two range) (gathering_of three range) first.1 later.1);
}

-- ---- every step
abbrev pub GoesOnWith : Node → Input → Stepped → Type 0
GoesOnWith node input stepped = stepped.node.view ≡ node.view → (IsDropped node input → ⊥) → GoesOn node stepped.node

module _ (hashing : Hashing) (node : Node) (has : HasPieces hashing node) where
  -- nothing moves
  still : (after : Node) → after.settings ≡ node.settings → after.holding.pieces ≡ node.holding.pieces
      → ((range : Range) → gathering_of after range ≡ gathering_of node range)
      → ((range : Range) → recovery_of after range ≡ recovery_of node range) → GoesOn node after
  still after settings pieces gatherings recoveries =
      let at : (range : Range) → piece_at after range ≡ piece_at node range = λ range. ap (λ (ps : List (ℕ × Piece)). lookup (is_at (nat_cmp range.start)) ps) pieces in
      same_states node after settings (λ range giver waits. (
        ap (λ (o : Option Piece). has_range (is_awaiting_from giver) range o) (sym (at range))
            ∙ waits,
        inl (gatherings range),
      ))
      (λ range silo was waits. told_on node after range silo (as_before node after range silo (at range) (recoveries range) waits))
      (λ test range. ap (λ (o : Option Piece). has_range test range o) (at range))

  answers : (request : Request) → GoesOn node (record node { holding = (answered node.holding request).holding })
  answers request =
      let under = All-weaker (λ (e : ℕ × Piece). IsPiece hashing e.0 e.1) (λ (e : ℕ × Piece). e.0 ≡ e.1.range.start) (λ e piece. piece.under) node.holding.pieces has.pieces.each in
      let leaves = answers_leave_others node.holding request under has.pieces.rising in
      let after : Node = record node { holding = (answered node.holding request).holding } in
      let same : (test : PieceState → Bool) (range : Range) → has_range test range (piece_at after range) ≡ has_range test range (piece_at node range) =
      λ test range.
      let key = is_at (nat_cmp range.start) in
      by_outline test range key (answered node.holding request).holding.pieces ∙ ap (outlined test range key) leaves.outline
      ∙ sym (by_outline test range key node.holding.pieces) in
      same_states node after refl (λ range giver waits. (sym (same (is_awaiting_from giver) range) ∙ waits, inl refl))
      (λ range silo was waits. (record { recovers = sym (same is_recovering range) ∙ waits.recovers; among = waits.among }, inl refl)) same

  -- a page is taken
  gathers : (letter : Letter) (page : Page) (gathering : Gathering) → IsPageTaken node letter page
      → gathered (gathering_of node page.range) page ≡ Wants_page gathering → GoesOn node (with_gathering node gathering)
  gathers letter page gathering taken is =
      let so : GatheredSo (gathering_of node page.range) page (Wants_page gathering) = subst (GatheredSo (gathering_of node page.range) page) is (gathered_so (gathering_of node page.range) page) in
      let start : gathering.range.start ≡ page.range.start = ap (λ (r : Range). r.start) (wanted_range hashing node has page gathering is) in
      let put : gathering_of (with_gathering node gathering) page.range ≡ gathering =
      ap (λ k. unwrap_or (lookup (is_at (nat_cmp page.range.start)) (insert_entry nat_cmp node.gatherings k gathering))
      (new_gathering node.view.version page.range)) start
      ∙ ap (λ o. unwrap_or o (new_gathering node.view.version page.range))
      (found_put nat_cmp nat_cmp_total exact_unsigned page.range.start gathering node.gatherings) in
      let next : (gathering_of (with_gathering node gathering) page.range).next ≡ (gathering_of node page.range).next + 1 = ap (λ (g : Gathering). g.next) (put ∙ so.1) in
      same_states node (with_gathering node gathering) refl
      (λ range giver waits. (
        waits,
        elim (gathers_so hashing node has letter page gathering taken start range giver waits) [
          | inl same ↦ inl same
          | inr it ↦ inr (subst (λ (r : Range). (gathering_of node r).next < (gathering_of (with_gathering node gathering) r).next) it.0
              (omega (arith, next)))
        ],
      ))
      (λ range silo was waits. (record { recovers = waits.recovers; among = waits.among }, inl refl)) (λ test range. refl)

  -- a piece is settled
  settles : (range : Range) (piece : Piece) (table : Table) → piece_at node range ≡ Some piece → piece.range ≡ range
      → GoesOn node (with_settled node range table)
  settles range piece table found same =
      one_moves node (with_settled node range table) refl (λ other giver waits.
      let was = settling hashing node has node.view range table other giver waits in (was.0, inl was.1))
      (λ other silo was waits. told_on node (with_settled node range table) other silo (settled_awaits node range table other silo waits)) range piece.state state.Settled
      (set_states node (with_settled node range table) range piece state.Settled table found same refl) (λ is. refl) (λ is. refl)
      (λ giver is. inr refl)
      (λ is. absurd (cc (is)))

  -- a piece turns to recovery
  turns : (range : Range) (piece : Piece) (from : Silo) → piece_at node range ≡ Some piece → piece.range ≡ range
      → piece.state ≡ state.Awaiting from → GoesOn node (turned_to_recovery node range)
  turns range piece from found same awaiting =
      let after = turned_to_recovery node range in
      one_moves node after refl (λ other giver waits. let was = turning hashing node has range other giver waits in (was.0, inl was.1)) reports
      range piece.state state.Recovering
      (set_states node after range piece state.Recovering [] found same refl) (λ is. absurd (not_it is_settled refl is))
      (λ is. absurd (not_it is_recovering refl is)) (λ giver is. inl refl)
      (λ is. (from, ap (is_awaiting_from from) awaiting ∙ (Decides-silo from from).1 refl))
    where
      not_it : (test : PieceState → Bool) → test (state.Awaiting from) ≡ false → test piece.state ≡ true → ⊥
      not_it test false_there is = let there = ap test awaiting in cc (false_there, there, is)

      recovering_before : (other : Range) → other.start ≡ range.start → Recovers node other → ⊥
      recovering_before other start was =
          let its : has_range is_recovering other (Some piece) ≡ true = ap (λ (o : Option Piece). has_range is_recovering other o) (sym found) ∙ ap (λ k. has_range is_recovering other (lookup (is_at (nat_cmp k)) node.holding.pieces)) (sym start) ∙ was in
          not_it is_recovering refl (both (range_eq piece.range other) (is_recovering piece.state) its).1

      reports : (other : Range) (silo : Silo) → Recovers node other → Awaits (turned_to_recovery node range) other silo
          → Awaits node other silo × HasToldOn node (turned_to_recovery node range) other silo
      reports other silo was waits =
          on_bool (λ b. (other.start == range.start) ≡ b → Awaits node other silo × HasToldOn node (turned_to_recovery node range) other silo)
          (other.start == range.start)
          (λ t it. absurd (recovering_before other (eqb-true other.start range.start it) was))
          (λ f it.
          let apart = eqb-false other.start range.start it in
          told_on node (turned_to_recovery node range) other silo (as_before node (turned_to_recovery node range) other silo
          (found_beside_set nat_cmp nat_cmp_total exact_unsigned range.start
          (record { range = range; state = state.Recovering; entries = [] }) node.holding.pieces other.start apart)
          (ap (λ o. unwrap_or o (new_recovery node.view other))
          (found_beside_put nat_cmp nat_cmp_total exact_unsigned range.start (new_recovery node.view range) node.recoveries other.start
          apart)) waits)) refl

  -- a report is taken that is its silo's last, and others haven't told all
  collects : (letter : Letter) (report : Report) (recovery : Recovery) → IsReportTaken node letter report
      → recovered (recovery_of node report.range) report ≡ Awaits_more recovery → GoesOn node (with_recovery node recovery)
  collects letter report recovery taken is =
      same_states node (with_recovery node recovery) refl (λ range giver waits. (waits, inl refl))
      (λ range silo was waits. told_on node (with_recovery node recovery) range silo
      (collected_awaits node letter report recovery taken is range silo waits)) (λ test range. refl)

  -- a silo has nothing in a range
  one_emptied : (letter : Letter) (range : Range) → GoesOn node (told_nothing letter node range)
  one_emptied letter range =
      by_nothing letter node range (GoesOn node) (same_waits node)
      (λ recovery so. collects (as_report letter range) (nothing_in letter range) recovery so.0 so.1)
      (λ table so. settles range so.0.piece table so.0.has.found so.0.has.same)

  ways : ((letter : Letter) (ranges : List Range) → GoesOn node (fold (told_nothing letter) node ranges)) → Ways node (GoesOnWith node)
  ways emptied = record {
    nothing = λ input its plain seen never. still node refl refl (λ range. refl) (λ range. refl);
    sees = λ before view places newer numbers seen never. let version = ap (λ v. v.version) seen in absurd (omega (arith, version, newer));
    wakes = λ grain may seen never. still _ refl refl (λ range. refl) (λ range. refl);
    closes = λ grain held may seen never. still _ refl refl (λ range. refl) (λ range. refl);
    cancels = λ grain held may seen never. still _ refl refl (λ range. refl) (λ range. refl);
    offers = λ grain held to may active other seen never. still _ refl refl (λ range. refl) (λ range. refl);
    uses_hint = λ grain activation hint seen never. still _ refl refl (λ range. refl) (λ range. refl);
    finds = λ grain room numbers seen never. still _ refl refl (λ range. refl) (λ range. refl);
    forgets = λ grain activation hint seen never. still _ refl refl (λ range. refl) (λ range. refl);
    nudges = λ numbers seen never. still _ refl refl (λ range. refl) (λ range. refl);
    nudges_grain = λ grain numbers seen never. still _ refl refl (λ range. refl) (λ range. refl);
    nudges_ranges = λ seen never. still node refl refl (λ range. refl) (λ range. refl);
    answers = λ letter request body sender version seen never. answers request;
    confirms = λ letter number entry e is there seen never. still _ refl refl (λ range. refl) (λ range. refl);
    yields = λ letter number entry e is there seen never. still _ refl refl (λ range. refl) (λ range. refl);
    removes = λ letter number e is there seen never. still _ refl refl (λ range. refl) (λ range. refl);
    misses = λ letter number e is there seen never. still _ refl refl (λ range. refl) (λ range. refl);
    learns = λ letter number entry is there seen never. still _ refl refl (λ range. refl) (λ range. refl);
    notes = λ letter number is there seen never. still _ refl refl (λ range. refl) (λ range. refl);
    hands = λ letter range number page body is seen never. still node refl refl (λ range. refl) (λ range. refl);
    lacks = λ letter range number body is seen never. still node refl refl (λ range. refl) (λ range. refl);
    forgoes = λ letter range body there seen never. still _ refl refl (λ range. refl) (λ range. refl);
    lags = λ letter range seen never. still node refl refl (λ range. refl) (λ range. refl);
    passed = λ letter range seen never. still node refl refl (λ range. refl) (λ range. refl);
    reports = λ letter range after body now seen never. still node refl refl (λ range. refl) (λ range. refl);
    gathers = λ letter page gathering taken is seen never. gathers letter page gathering taken is;
    installs = λ letter page entries taken is seen never. settles page.range taken.piece _ taken.has.found taken.has.same;
    drops =
        λ letter page left taken is seen never. absurd (never
        (record { letter = letter; page = page; is = refl; taken = taken; left = left; refused = is }));
    turns = λ letter range piece body its awaits seen never. turns range piece letter.from its.found its.same awaits;
    continues = λ letter report recovery taken is seen never.
        same_states node (with_recovery node recovery) refl (λ range giver waits. (waits, inl refl))
        (λ range silo was waits. (
          more_awaits node letter report recovery taken is range silo waits,
          told_more node letter report recovery taken is range silo waits,
        )) (λ test range. refl);
    collects = λ letter report recovery taken is seen never. collects letter report recovery taken is;
    completes = λ letter report table taken is seen never. settles report.range taken.piece _ taken.has.found taken.has.same;
    surveys = λ letter first others body now seen never. still node refl refl (λ range. refl) (λ range. refl);
    empties = λ letter ranges its body plain seen never. emptied letter ranges;
    takes_over = λ letter entry body now may seen never. still _ refl refl (λ range. refl) (λ range. refl);
  }

-- or in several ranges
emptied : (hashing : Hashing) (node : Node) → HasPieces hashing node → (letter : Letter) (ranges : List Range)
    → GoesOn node (fold (told_nothing letter) node ranges)
emptied hashing start has letter ranges =
    by_each_piece hashing letter (GoesOn start)
    (λ node range pieces so. goes_both start node (told_nothing letter node range) so (one_emptied hashing node pieces letter range)) ranges
    start has (same_waits start)

pub goes_on : (hashing : Hashing) (node : Node) → HasPieces hashing node → (input : Input) (stepped : Stepped)
    → step node input ≡ Ok stepped → GoesOnWith node input stepped
goes_on hashing node has input stepped is =
    by_way node (GoesOnWith node) (ways hashing node has (emptied hashing node has)) input stepped is

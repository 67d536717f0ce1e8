-- Whoever is awaited after a step had told as much before it, or a report of his was taken that isn't the last.
use Rattle.std.proofs.Common.{arith, ◌≡◌, refl, sym, ap, ◌∙◌, ◌⊎◌, inl, inr}
use Rattle.std.specs.Prelude.{false, ◌==◌, Some, Ok}
use Rattle.std.specs.Option.{unwrap_or}
use Rattle.std.specs.Ordering.{nat_cmp}
use Rattle.std.specs.Map.{lookup}
use Rattle.std.specs.BTreeMap.{is_at}
use Rattle.std.proofs.lemmas.Bool.{eqb-true, eqb-false}
use Rattle.std.proofs.lemmas.Cmp.{nat_cmp_total}
use Rattle.std.proofs.lemmas.Map.Lookups.{exact_unsigned}
use Rattle.silo_address.specs.Silo.{Silo, silo_eq}
use Rattle.silo_address.proofs.Same.{Decides-silo}
use Rattle.membership_view.specs.View.{ViewValue}
use Rattle.ring_range.specs.Range.{Range}
use Rattle.directory_rules.specs.declared.piece_state.PieceState.TheVariants as state
use Rattle.directory_rules.specs.State.{Piece, Report, Recovery, Letter, Node}
use Rattle.directory_rules.specs.Input.{Input, Receives, step}
use Rattle.directory_rules.specs.Recovery.{new_recovery, told_by}
use Rattle.directory_rules.specs.Sent.{recovery_of}
use Rattle.directory_rules.specs.Standing.{last_grain}
use Rattle.directory_rules.specs.Step.{Stepped}
use Rattle.directory_rules.specs.Transfer.{piece_at, with_recovery, querying_on, turned_to_recovery}
use Rattle.directory_rules.proofs.Cases.{on_bool}
use Rattle.directory_facts.proofs.EachStep.{by_way}
use Rattle.directory_facts.proofs.Lookups.{found_beside_put}
use Rattle.directory_facts.proofs.Ways.{IsReportTaken, Ways}
use Rattle.progress_rules.specs.Waits.{Recovers, Awaits}
use Rattle.progress_rules.proofs.Asked.{more_so, more_range, others_told, teller_told, collected_awaits, emptied_awaits}
use Rattle.progress_rules.proofs.Told.{put_or_beside}
use Rattle.progress_rules.proofs.Waits.{is_one, recovering_piece, settled_awaits}

-- a report of the silo on the range was taken, behind what the silo had told, and others are to come
pub record TakesMore (node : Node) (input : Input) (stepped : Stepped) (range : Range) (silo : Silo) : Type 0 where
  pub letter : Letter
  pub is : input ≡ Receives letter
  pub report : Report
  pub taken : IsReportTaken node letter report
  pub not_last : report.last ≡ false
  pub by : report.silo ≡ silo
  pub of : report.range ≡ range
  pub behind : report.after ≡ told_by silo (recovery_of node range)
  pub upto : told_by silo (recovery_of stepped.node range) ≡ last_grain report.after report.entries

abbrev pub TellsOn : Node → Input → Stepped → Type 0
TellsOn node input stepped =
    stepped.node.view ≡ node.view → (range : Range) (silo : Silo) → Recovers node range → Awaits stepped.node range silo
    → (told_by silo (recovery_of stepped.node range) ≡ told_by silo (recovery_of node range)) ⊎ TakesMore node input stepped range silo

module _ (node : Node) where
  -- a piece that turns to recovery awaited a snapshot
  turning : (range : Range) (piece : Piece) (from : Silo) → piece_at node range ≡ Some piece → piece.state ≡ state.Awaiting from
      → (other : Range) (silo : Silo) → Recovers node other
      → told_by silo (recovery_of (turned_to_recovery node range) other) ≡ told_by silo (recovery_of node other)
  turning range piece from found awaiting other silo was =
      on_bool (λ b. (other.start == range.start) ≡ b
      → told_by silo (recovery_of (turned_to_recovery node range) other) ≡ told_by silo (recovery_of node other))
      (other.start == range.start)
      (λ t is.
      let its = recovering_piece node other was in
      let there : piece_at node range ≡ Some its.piece = ap (λ k. lookup (is_at (nat_cmp k)) node.holding.pieces) (sym (eqb-true other.start range.start is)) ∙ its.found in
      let one : piece ≡ its.piece = cc (found, there) in
      let recovering = ap (λ (p : Piece). p.state) one ∙ its.recovering in
      absurd (cc (awaiting, recovering)))
      (λ f is. ap (λ (r : Recovery). told_by silo r) (ap (λ o. unwrap_or o (new_recovery node.view other))
      (found_beside_put nat_cmp nat_cmp_total exact_unsigned range.start (new_recovery node.view range) node.recoveries other.start
      (eqb-false other.start range.start is)))) refl

  ways : Ways node (TellsOn node)
  ways = record {
    nothing = λ input its plain seen range silo was waits. inl refl;
    sees = λ before view places newer numbers seen.
        let version = ap (λ (v : ViewValue). v.version) seen in absurd (omega (arith, version, newer));
    wakes = λ grain may seen range silo was waits. inl refl;
    closes = λ grain held may seen range silo was waits. inl refl;
    cancels = λ grain held may seen range silo was waits. inl refl;
    offers = λ grain held to may active other seen range silo was waits. inl refl;
    uses_hint = λ grain activation hint seen range silo was waits. inl refl;
    finds = λ grain room numbers seen range silo was waits. inl refl;
    forgets = λ grain activation hint seen range silo was waits. inl refl;
    nudges = λ numbers seen range silo was waits. inl refl;
    nudges_grain = λ grain numbers seen range silo was waits. inl refl;
    nudges_ranges = λ seen range silo was waits. inl refl;
    answers = λ letter request body sender version seen range silo was waits. inl refl;
    confirms = λ letter number entry e is there seen range silo was waits. inl refl;
    yields = λ letter number entry e is there seen range silo was waits. inl refl;
    removes = λ letter number e is there seen range silo was waits. inl refl;
    misses = λ letter number e is there seen range silo was waits. inl refl;
    learns = λ letter number entry is there seen range silo was waits. inl refl;
    notes = λ letter number is there seen range silo was waits. inl refl;
    hands = λ letter range number page body is seen other silo was waits. inl refl;
    lacks = λ letter range number body is seen other silo was waits. inl refl;
    forgoes = λ letter range body there seen other silo was waits. inl refl;
    lags = λ letter range seen other silo was waits. inl refl;
    passed = λ letter range seen other silo was waits. inl refl;
    reports = λ letter range after body now seen other silo was waits. inl refl;
    gathers = λ letter page gathering taken is seen range silo was waits. inl refl;
    installs = λ letter page entries taken is seen range silo was waits. inl (settled_awaits node page.range _ range silo waits).1;
    drops = λ letter page gathering taken is seen range silo was waits. inl refl;
    turns = λ letter range piece body its awaits seen other silo was waits. inl
        (turning range piece letter.from its.found awaits other silo was);
    continues = λ letter report recovery taken is seen range silo was waits.
        on_bool (λ b. silo_eq silo report.silo ≡ b
        → (told_by silo (recovery_of (with_recovery node recovery) range) ≡ told_by silo (recovery_of node range))
        ⊎ TakesMore node (Receives letter) (querying_on report.range report.silo (with_recovery node recovery)) range silo)
        (silo_eq silo report.silo)
        (λ t is_it. elim (put_or_beside node letter report taken recovery (more_range node letter report recovery taken is) range was) [
          | inl same ↦
              let one = is_one silo report.silo is_it in
              let so = more_so node letter report recovery taken is in
              inr (record {
                letter = letter;
                is = refl;
                report = report;
                taken = taken;
                not_last = so.1;
                by = sym one;
                of = same;
                behind = so.0.goes_on ∙ ap (λ s. told_by s (recovery_of node report.range)) (sym one)
                    ∙ ap (λ (r : Range). told_by silo (recovery_of node r)) same;
                upto = ap (λ s. told_by s (recovery_of (with_recovery node recovery) range)) one
                    ∙ ap (λ (r : Range). told_by report.silo (recovery_of (with_recovery node recovery) r)) (sym same)
                    ∙ teller_told node letter report recovery taken is;
              })
          | inr still ↦ inl (ap (λ (r : Recovery). told_by silo r) still)
        ])
        (λ f other_one. inl (others_told node letter report recovery taken is range silo
        (λ same. let it = (Decides-silo silo report.silo).1 same in cc (it, other_one)) was)) refl;
    collects = λ letter report recovery taken is seen range silo was waits. inl
        (collected_awaits node letter report recovery taken is range silo waits).1;
    completes = λ letter report table taken is seen range silo was waits. inl (settled_awaits node report.range _ range silo waits).1;
    surveys = λ letter first others body now seen range silo was waits. inl refl;
    empties = λ letter ranges its body plain seen range silo was waits. inl (emptied_awaits letter ranges node range silo waits).1;
    takes_over = λ letter entry body now may seen range silo was waits. inl refl;
  }

  pub tells_on : (input : Input) (stepped : Stepped) → step node input ≡ Ok stepped → TellsOn node input stepped
  tells_on input stepped is = by_way node (TellsOn node) ways input stepped is

-- What an answer leaves of a holding.
use Rattle.std.proofs.Common.{◌≡◌, refl, sym, ap, subst, ◌∙◌, ℕ, ◌<◌, List, [], ◌∷◌, arith, suc}
use Rattle.std.specs.Prelude.{Bool, true, false, cond, find, All, AllPairs, Option, Some, option_and_then, Result, Ok, Err}
use Rattle.std.specs.Option.{option_map}
use Rattle.std.specs.Ordering.{nat_cmp}
use Rattle.std.specs.Map.{lookup, set_value}
use Rattle.std.specs.BTreeMap.{is_at}
use Rattle.std.proofs.lemmas.List.Elements.{All-nil, All-cons, All-head, All-tail}
use Rattle.silo_address.specs.Grain.{Grain}
use Rattle.silo_address.specs.declared.Entry.{Entry}
use Rattle.ring_range.specs.Range.{Range, holds}
use Rattle.directory_rules.specs.declared.act.Act.{Act}
use Rattle.directory_rules.specs.declared.act.Act.TheVariants.{Register, Deregister, Find}
use Rattle.directory_rules.specs.declared.act.Request.{Request}
use Rattle.directory_rules.specs.declared.reply.Why.{Why}
use Rattle.directory_rules.specs.Table.{entry_at}
use Rattle.directory_rules.specs.State.{Piece, Holding}
use Rattle.directory_rules.specs.Answer.{with_piece, turned, serving_piece, served_by, answered_from}
use Rattle.directory_rules.specs.Host.{grain_of}
use Rattle.directory_rules.proofs.Cases.{on_bool}
use Rattle.directory_rules.proofs.Tables.{turned_leaves}
use Rattle.directory_rules.proofs.Ranges.{ranges, Rising, stands_at}
use Rattle.directory_facts.specs.Whole.{StandUnderStarts, entry_in, outline_of, LeavesOthers, AnswersLeaveOthers}
use Rattle.directory_facts.proofs.Served.{serves}

-- keys that rise are starts that rise
above : (low : ℕ) (pieces : List (ℕ × Piece)) → StandUnderStarts pieces → All (λ e. low < e.0) pieces
    → All (λ r. low < r.1.start) (ranges pieces)
above low [] under all = All-nil _
above low (e ∷ es) under all =
    All-cons (λ (r : ℕ × Range). low < r.1.start) (e.0, e.1.range) (ranges es)
    (subst (λ n. low < n) (All-head (λ (x : ℕ × Piece). x.0 ≡ x.1.range.start) e es under)
    (All-head (λ (x : ℕ × Piece). low < x.0) e es all))
    (above low es (All-tail (λ (x : ℕ × Piece). x.0 ≡ x.1.range.start) e es under) (All-tail (λ (x : ℕ × Piece). low < x.0) e es all))

pub starts_rise : (pieces : List (ℕ × Piece)) → StandUnderStarts pieces → AllPairs (λ e later. e.0 < later.0) pieces
    → Rising (ranges pieces)
starts_rise [] under rise = tt
starts_rise (e ∷ es) under rise =
    let later = All-tail (λ (x : ℕ × Piece). x.0 ≡ x.1.range.start) e es under in (
      All-head (λ (x : ℕ × Piece). x.0 ≡ x.1.range.start) e es under,
      above e.0 es later (λ k d below. rise 0 (suc k) d (omega arith) (omega (arith, below))),
      starts_rise es later (λ i j d less below. rise (suc i) (suc j) d (omega (arith, less)) (omega (arith, below))),
    )

-- ---- a piece that is changed
abbrev entry_of_found : Grain → Option (ℕ × Piece) → Option Entry
entry_of_found grain found = option_and_then (λ piece. entry_at grain piece.entries) (option_map (λ e. e.1) found)

set_leaves : (test : ℕ → Bool) (pieces : List (ℕ × Piece)) (found changed : Piece) (hash : ℕ) (grain : Grain)
    → lookup test pieces ≡ Some found → found.range ≡ changed.range → entry_at grain changed.entries ≡ entry_at grain found.entries
    → entry_in (set_value test pieces changed) hash grain ≡ entry_in pieces hash grain
set_leaves test [] found changed hash grain there same so = refl
set_leaves test (e ∷ es) found changed hash grain there same so =
    by (test e.0) there (λ later. set_leaves test es found changed hash grain later same so)
  where
    rest : Option (ℕ × Piece)
    rest = find (λ x. holds x.1.range hash) es

    by : (b : Bool) → cond b (Some e.1) (lookup test es) ≡ Some found
        → (lookup test es ≡ Some found → entry_in (set_value test es changed) hash grain ≡ entry_in es hash grain)
        → entry_in (cond b ((e.0, changed) ∷ es) (e ∷ set_value test es changed)) hash grain ≡ entry_in (e ∷ es) hash grain
    by true is later =
        let here : e.1 ≡ found = cc (is) in
        let range : changed.range ≡ e.1.range = sym same ∙ ap (λ (p : Piece). p.range) (sym here) in
        ap (λ (r : Range). entry_of_found grain (cond (holds r hash) (Some (e.0, changed)) rest)) range
        ∙ on_bool (λ b. entry_of_found grain (cond b (Some (e.0, changed)) rest) ≡ entry_of_found grain (cond b (Some e) rest))
        (holds e.1.range hash)
        (λ t. so ∙ ap (λ (p : Piece). entry_at grain p.entries) (sym here)) (λ f. refl)
    by false is later =
        on_bool (λ b. entry_of_found grain (cond b (Some e) (find (λ x. holds x.1.range hash) (set_value test es changed))) ≡ entry_of_found
        grain (cond b (Some e) rest)) (holds e.1.range hash) (λ t. refl) (λ f. later is)

outline_set : (test : ℕ → Bool) (pieces : List (ℕ × Piece)) (found changed : Piece) → lookup test pieces ≡ Some found
    → found.range ≡ changed.range → found.state ≡ changed.state → outline_of (set_value test pieces changed) ≡ outline_of pieces
outline_set test [] found changed there range its = refl
outline_set test (e ∷ es) found changed there range its = by (test e.0) there (λ later. outline_set test es found changed later range its)
  where
    by : (b : Bool) → cond b (Some e.1) (lookup test es) ≡ Some found
        → (lookup test es ≡ Some found → outline_of (set_value test es changed) ≡ outline_of es)
        → outline_of (cond b ((e.0, changed) ∷ es) (e ∷ set_value test es changed)) ≡ outline_of (e ∷ es)
    by true is later =
        let here : e.1 ≡ found = cc (is) in
        ap (λ r. (e.0, r, changed.state) ∷ outline_of es) (sym range ∙ ap (λ (p : Piece). p.range) (sym here))
        ∙ ap (λ s. (e.0, e.1.range, s) ∷ outline_of es) (sym its ∙ ap (λ (p : Piece). p.state) (sym here))
    by false is later = ap (λ rest. (e.0, e.1.range, e.1.state) ∷ rest) (later is)

-- ---- answers
turned_so : (act : Act) (piece : Piece) (holding : Holding) (request : Request)
    → lookup (is_at (nat_cmp piece.range.start)) holding.pieces ≡ Some piece
    → LeavesOthers (grain_of act) holding (record holding
    { pieces = with_piece (record piece { entries = (turned act piece.entries).table }) holding.pieces })
turned_so act piece holding request there =
    let changed : Piece = record piece { entries = (turned act piece.entries).table } in
    record {
      seen = refl;
      outline = outline_set (is_at (nat_cmp piece.range.start)) holding.pieces piece changed there refl refl;
      others =
          λ hash grain apart. set_leaves (is_at (nat_cmp piece.range.start)) holding.pieces piece changed hash grain there refl
          (turned_leaves act piece.entries grain apart);
    }

served_so : (act : Act) (piece : Piece) (holding : Holding) (request : Request)
    → lookup (is_at (nat_cmp piece.range.start)) holding.pieces ≡ Some piece
    → LeavesOthers (grain_of act) holding (served_by act piece holding request).holding
served_so (Register entry previous) piece holding request there =
    let so = turned_so (Register entry previous) piece holding request there in
    record { seen = refl; outline = so.outline; others = so.others }
served_so (Deregister entry) piece holding request there =
    let so = turned_so (Deregister entry) piece holding request there in record { seen = refl; outline = so.outline; others = so.others }
served_so (Find grain) piece holding request there = record { seen = refl; outline = refl; others = λ hash other apart. refl }

answered_so : (serving : Result Piece Why) (holding : Holding) (request : Request) → Rising (ranges holding.pieces)
    → serving_piece holding request ≡ serving → LeavesOthers (grain_of request.act) holding (answered_from serving holding request).holding
answered_so (Ok piece) holding request rising is =
    served_so request.act piece holding request (stands_at request.hash holding.pieces piece rising (serves holding request piece is).found)
answered_so (Err why) holding request rising is = record { seen = refl; outline = refl; others = λ hash other apart. refl }

pub answers_leave_others : AnswersLeaveOthers
answers_leave_others holding request under rise =
    answered_so (serving_piece holding request) holding request (starts_rise holding.pieces under rise) refl

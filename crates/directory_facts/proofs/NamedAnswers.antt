-- A request that is served leaves tables and pieces that name silos, grains and counts in their ranges.
use Rattle.std.proofs.Common.{◌≡◌, subst, sym, ℕ, List, [], ◌∷◌}
use Rattle.std.specs.Prelude.{Bool, true, false, cond, Some, Result, Ok, Err, find}
use Rattle.std.specs.Option.{option_map}
use Rattle.std.specs.Ordering.{nat_cmp}
use Rattle.std.specs.BTreeMap.{is_at}
use Rattle.std.proofs.lemmas.List.Elements.{All-head, All-tail}
use Rattle.ring_range.specs.Range.{holds}
use Rattle.directory_rules.specs.declared.act.Act.{Act}
use Rattle.directory_rules.specs.declared.act.Act.TheVariants as act
use Rattle.directory_rules.specs.declared.act.Request.{Request}
use Rattle.directory_rules.specs.declared.piece_state.PieceState.TheVariants as state
use Rattle.directory_rules.specs.declared.reply.Why.{Why}
use Rattle.directory_rules.specs.State.{Piece, Holding}
use Rattle.directory_rules.specs.Answer.{piece_with, with_piece, turned, serving_piece, served_by, answered_from}
use Rattle.directory_facts.specs.Named.{AreNamed, AwaitsSilo}
use Rattle.directory_facts.proofs.Entries.{all_set}
use Rattle.directory_facts.proofs.Served.{serves}
use Rattle.directory_facts.proofs.NamedTables.{NamesAct, turned_named}
use Rattle.directory_facts.proofs.NamedSights.{TablesNamed, AwaitSilos}

found_table : (hash : ℕ) (pieces : List (ℕ × Piece)) (piece : Piece) → TablesNamed pieces → piece_with hash pieces ≡ Some piece
    → AreNamed piece.entries
found_table hash [] piece named found = absurd (cc (found))
found_table hash (e ∷ es) piece named found =
    by (holds e.1.range hash) found (λ later. found_table hash es piece (All-tail (λ (x : ℕ × Piece). AreNamed x.1.entries) e es named)
    later)
  where
    by : (b : Bool) → option_map (λ x. x.1) (cond b (Some e) (find (λ x. holds x.1.range hash) es)) ≡ Some piece
        → (piece_with hash es ≡ Some piece → AreNamed piece.entries) → AreNamed piece.entries
    by true here rest =
        let same : e.1 ≡ piece = cc (here) in subst (λ (p : Piece). AreNamed p.entries) same
        (All-head (λ (x : ℕ × Piece). AreNamed x.1.entries) e es named)
    by false there rest = rest there

-- a piece is changed
pub tables_set : (pieces : List (ℕ × Piece)) (piece : Piece) → TablesNamed pieces → AreNamed piece.entries
    → TablesNamed (with_piece piece pieces)
tables_set pieces piece named is =
    all_set (λ (e : ℕ × Piece). AreNamed e.1.entries) (is_at (nat_cmp piece.range.start)) piece pieces (λ key old at so. is) named

pub awaited_set : (pieces : List (ℕ × Piece)) (piece : Piece) → AwaitSilos pieces → AwaitsSilo piece.state
    → AwaitSilos (with_piece piece pieces)
awaited_set pieces piece awaited is =
    all_set (λ (e : ℕ × Piece). AwaitsSilo e.1.state) (is_at (nat_cmp piece.range.start)) piece pieces (λ key old at so. is) awaited

abbrev pub BothNamed : List (ℕ × Piece) → Type 0
BothNamed pieces = TablesNamed pieces × AwaitSilos pieces

served_named : (its : Act) (piece : Piece) (holding : Holding) (request : Request) → BothNamed holding.pieces → AreNamed piece.entries
    → piece.state ≡ state.Settled → NamesAct its → BothNamed (served_by its piece holding request).holding.pieces
served_named (act.Register entry previous) piece holding request named table settled is = (
  tables_set holding.pieces (record piece { entries = (turned (act.Register entry previous) piece.entries).table }) named.0
      (turned_named (act.Register entry previous) piece.entries table is),
  awaited_set holding.pieces (record piece { entries = (turned (act.Register entry previous) piece.entries).table }) named.1
      (subst AwaitsSilo (sym settled) tt),
)
served_named (act.Deregister entry) piece holding request named table settled is = (
  tables_set holding.pieces (record piece { entries = (turned (act.Deregister entry) piece.entries).table }) named.0
      (turned_named (act.Deregister entry) piece.entries table tt),
  awaited_set holding.pieces (record piece { entries = (turned (act.Deregister entry) piece.entries).table }) named.1
      (subst AwaitsSilo (sym settled) tt),
)
served_named (act.Find grain) piece holding request named table settled is = named

pub answered_by : (serving : Result Piece Why) (holding : Holding) (request : Request) → BothNamed holding.pieces → NamesAct request.act
    → serving_piece holding request ≡ serving → BothNamed (answered_from serving holding request).holding.pieces
answered_by (Ok piece) holding request named is so =
    let its = serves holding request piece so in
    served_named request.act piece holding request named (found_table request.hash holding.pieces piece named.0 its.found) its.settled is
answered_by (Err why) holding request named is so = named

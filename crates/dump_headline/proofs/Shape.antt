-- The nodes of a world's dump have the shape that they must have, as far as the facts of the world say it.
use Rattle.std.proofs.Common.{arith, ◌≡◌, ◌≢◌, ◌⊎◌, inl, inr, ℕ, suc, List, [], ◌∷◌, map, refl, sym, ap, subst}
use Rattle.std.specs.Prelude.{All, AllPairs}
use Rattle.std.specs.Ordering.{nat_cmp}
use Rattle.std.specs.List.Sorted.{IsSorted}
use Rattle.std.specs.Map.{keys_of}
use Rattle.std.proofs.lemmas.Cmp.{nat_cmp_total}
use Rattle.std.proofs.lemmas.List.Elements.{All-head, All-tail, All-map, All-weaker}
use Rattle.std.proofs.lemmas.List.Kept.{AllPairs-cons}
use Rattle.silo_address.specs.Silo.{Silo, silo_cmp}
use Rattle.silo_address.specs.Grain.{Grain, grain_cmp}
use Rattle.silo_address.specs.declared.ActivationId.{ActivationId}
use Rattle.silo_address.specs.declared.Entry.{Entry}
use Rattle.silo_address.proofs.Order.{silo_cmp_total, grain_cmp_total}
use Rattle.ring_range.specs.Range.{IsRange}
use Rattle.directory_rules.specs.declared.held.Held.{Held}
use Rattle.directory_rules.specs.declared.piece_state.PieceState.{PieceState}
use Rattle.directory_rules.specs.declared.piece_state.PieceState.TheVariants as state
use Rattle.directory_rules.specs.State.{Host, Table, Piece, World}
use Rattle.directory_rules.specs.Table.{entries_of}
use Rattle.directory_facts.specs.Own.{CountsOnce}
use Rattle.dump_rules.specs.Dump.{DumpHeld, Settled, dump_state, awaited_from, dump_held, dump_piece, dump_of}
use Rattle.dump_rules.specs.DumpShape.{node_silos, row_silos}
use Rattle.dump_rules.specs.RightShape as right
use Rattle.directory_headline.proofs.Facts.{IsPiece, ArePieces, WorldFacts}
use Rattle.dump_headline.proofs.Listed.{pairs_map}
use Rattle.dump_headline.proofs.Orders.{mapped_keys, sorted_once, sorted_in_order}

-- ---- pieces
settled_or_bare : (its : PieceState) (table : Table) → (¬ (its ≡ state.Settled) → table ≡ []) → (dump_state its ≡ Settled)
    ⊎ (entries_of table ≡ [])
settled_or_bare state.Settled table bare = inl refl
settled_or_bare (state.Awaiting from) table bare = inr (ap entries_of (bare (λ same. absurd (cc (same)))))
settled_or_bare state.Recovering table bare = inr (ap entries_of (bare (λ same. absurd (cc (same)))))

tells : (its : PieceState) → right.TellsFrom (dump_state its) (awaited_from its)
tells state.Settled = refl
tells (state.Awaiting from) = refl
tells state.Recovering = refl

grains_of : (table : Table) → All (λ e. e.0 ≡ e.1.grain) table → map (λ entry. entry.grain) (entries_of table) ≡ keys_of table
grains_of [] own = refl
grains_of (e ∷ es) own =
    λ i. sym (All-head (λ (x : Grain × Entry). x.0 ≡ x.1.grain) e es own) i ∷ grains_of es
    (All-tail (λ (x : Grain × Entry). x.0 ≡ x.1.grain) e es own) i

pub is_piece : (hash : Grain → ℕ) (piece : Piece) → IsPiece hash piece → right.IsPiece (dump_piece piece)
is_piece hash piece is = record {
  entries = settled_or_bare piece.state piece.entries is.empty;
  from = tells piece.state;
  in_order =
      subst (λ (grains : List Grain). IsSorted grain_cmp grains) (sym (grains_of piece.entries is.table.own_grain))
      (sorted_in_order grain_cmp grain_cmp_total (keys_of piece.entries) is.table.by_grain);
}

starts_of : (pieces : List (ℕ × Piece)) → All (λ e. e.0 ≡ e.1.range.start) pieces
    → map (λ piece. piece.range.start) (map (λ e. dump_piece e.1) pieces) ≡ keys_of pieces
starts_of [] under = refl
starts_of (e ∷ es) under =
    λ i. sym (All-head (λ (x : ℕ × Piece). x.0 ≡ x.1.range.start) e es under) i ∷ starts_of es
    (All-tail (λ (x : ℕ × Piece). x.0 ≡ x.1.range.start) e es under) i

pub pieces_in_order : (hash : Grain → ℕ) (pieces : List (ℕ × Piece)) → ArePieces hash pieces
    → IsSorted nat_cmp (map (λ piece. piece.range.start) (map (λ e. dump_piece e.1) pieces))
pieces_in_order hash pieces are =
    subst (λ (starts : List ℕ). IsSorted nat_cmp starts) (sym (starts_of pieces are.under_start))
    (sorted_in_order nat_cmp nat_cmp_total (keys_of pieces) are.rising)

pub are_pieces : (hash : Grain → ℕ) (pieces : List (ℕ × Piece)) → ArePieces hash pieces
    → All right.IsPiece (map (λ e. dump_piece e.1) pieces)
are_pieces hash pieces are =
    All-map right.IsPiece (λ (e : ℕ × Piece). dump_piece e.1) pieces
    (All-weaker (λ (e : ℕ × Piece). IsPiece hash e.1) (λ (e : ℕ × Piece). right.IsPiece (dump_piece e.1)) (λ e is. is_piece hash e.1 is)
    pieces are.each)

pub are_ranges : (hash : Grain → ℕ) (pieces : List (ℕ × Piece)) → ArePieces hash pieces
    → All (λ piece. IsRange piece.range) (map (λ e. dump_piece e.1) pieces)
are_ranges hash pieces are =
    All-map (λ piece. IsRange piece.range) (λ (e : ℕ × Piece). dump_piece e.1) pieces
    (All-weaker (λ (e : ℕ × Piece). IsPiece hash e.1) (λ (e : ℕ × Piece). IsRange e.1.range) (λ e is. is.range) pieces are.each)

-- ---- activations
keys_once : {X : Type 0} (es : List (Grain × X)) → AllPairs (λ e later. e.0 ≢ later.0) es → AllPairs (λ g later. g ≢ later) (keys_of es)
keys_once [] once = λ i j d lt below. absurd (omega (arith, below))
keys_once {X} (e ∷ es) once =
    AllPairs-cons (λ (g later : Grain). g ≢ later) e.0 (keys_of es)
    (All-map (λ (g : Grain). e.0 ≢ g) (λ (x : Grain × X). x.0) es (λ k d below. once 0 (suc k) d (omega arith) (omega (arith, below))))
    (keys_once es (λ i j d lt below. once (suc i) (suc j) d (omega (arith, lt)) (omega (arith, below))))

pub grains_once : (silo : Silo) (held : List (Grain × Held)) → AllPairs (λ e later. e.0 ≢ later.0) held
    → right.AreDistinct (map (λ x. x.grain) (map (λ e. dump_held silo e.0 e.1) held))
grains_once silo held once =
    subst (λ (grains : List Grain). right.AreDistinct grains)
    (sym (mapped_keys (λ (e : Grain × Held). dump_held silo e.0 e.1) (λ x. x.grain) (λ e. refl) held)) (keys_once held once)

pub holds_its_own : (silo : Silo) (held : List (Grain × Held))
    → All (λ x. x.activation.silo ≡ silo) (map (λ e. dump_held silo e.0 e.1) held)
holds_its_own silo held = All-map (λ x. x.activation.silo ≡ silo) (λ (e : Grain × Held). dump_held silo e.0 e.1) held (λ k d below. refl)

pub activations_once : (silo : Silo) (host : Host) → CountsOnce host
    → right.AreDistinct (map (λ x. x.activation) (map (λ e. dump_held silo e.0 e.1) host.held))
activations_once silo host once =
    pairs_map (λ a later. a ≢ later) (λ (x : DumpHeld). x.activation) (map (λ e. dump_held silo e.0 e.1) host.held)
    (pairs_map (λ (x later : DumpHeld). x.activation ≢ later.activation) (λ (e : Grain × Held). dump_held silo e.0 e.1) host.held
    (λ i j d lt below same. once i j d lt below (ap (λ (a : ActivationId). a.count) same)))

-- ---- silos of rows and nodes
pub rows_of : (f : World) → row_silos (dump_of f) ≡ keys_of f.views.rows
unfolding dump_of
rows_of f = mapped_keys _ (λ row. row.silo) (λ e. refl) f.views.rows

pub nodes_of : (f : World) → node_silos (dump_of f) ≡ keys_of f.nodes
unfolding dump_of
nodes_of f = mapped_keys _ (λ node. node.silo) (λ e. refl) f.nodes

module _ (hash : Grain → ℕ) (f : World) (facts : WorldFacts hash f) where
  pub rows_once : right.AreDistinct (row_silos (dump_of f))
  rows_once =
      subst (λ (silos : List Silo). right.AreDistinct silos) (sym (rows_of f))
      (sorted_once silo_cmp silo_cmp_total (keys_of f.views.rows) facts.peopled.whole.in_order)

  pub nodes_once : right.AreDistinct (node_silos (dump_of f))
  nodes_once =
      subst (λ (silos : List Silo). right.AreDistinct silos) (sym (nodes_of f))
      (sorted_once silo_cmp silo_cmp_total (keys_of f.nodes) facts.peopled.by_address)

  pub rows_in_order : IsSorted silo_cmp (row_silos (dump_of f))
  rows_in_order =
      subst (λ (silos : List Silo). IsSorted silo_cmp silos) (sym (rows_of f))
      (sorted_in_order silo_cmp silo_cmp_total (keys_of f.views.rows) facts.peopled.whole.in_order)

  pub nodes_in_order : IsSorted silo_cmp (node_silos (dump_of f))
  nodes_in_order =
      subst (λ (silos : List Silo). IsSorted silo_cmp silos) (sym (nodes_of f))
      (sorted_in_order silo_cmp silo_cmp_total (keys_of f.nodes) facts.peopled.by_address)

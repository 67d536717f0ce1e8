-- What the verdict over a dump says, in the directory's own words.
use Rattle.std.specs.Prelude.{◌≡◌, ◌≢◌, ◌⊎◌, IsTrue, false, List, [], ◌∷◌, ◌++◌, All, AllPairs, Contains, Option, Some, None}
use Rattle.std.specs.Ordering.{is_lt}
use Rattle.silo_address.specs.Silo.{Silo}
use Rattle.silo_address.specs.Grain.{Grain, grain_cmp}
use Rattle.silo_address.specs.declared.Entry.{Entry}
use Rattle.ring_range.specs.Range.{holds}
use Rattle.hash_ring.specs.Hash.{hash_grain}
use Rattle.hash_ring.specs.Ring.{sorted_ring}
use Rattle.dump_rules.specs.Dump.{DumpPiece, DumpNode, DumpValue}
use Rattle.dump_rules.specs.Verdict.{DumpFault, RingDiffers, WrongRange, TwoFirm, MissingFirm, Stranger, dump_view, dump_places, live_nodes, HasItsRanges, node_entries, firm_grains, held_entries, firm_entries, current_pieces, current_entries}

-- a node's ring is that of the view that its silo has seen, sorted anew
abbrev pub HasItsRing : DumpValue → DumpNode → Type 0
HasItsRing dump node = node.ring ≡ sorted_ring (dump_view dump node.seen) (dump_places dump)

-- the entry is hashed into the piece
abbrev pub IsHashedInto : DumpValue → DumpPiece → Entry → Type 0
IsHashedInto dump piece entry = IsTrue (holds piece.range (hash_grain dump.hashing entry.grain))

-- the pieces hold what the silo owns by its ring; entries lie in their pieces, one a grain
pub record HasRightPieces (dump : DumpValue) (node : DumpNode) : Type 0 where
  pub ranges : HasItsRanges node
  pub inside : All (λ piece. All (IsHashedInto dump piece) piece.entries) node.pieces
  pub single : AllPairs (λ entry later. entry.grain ≢ later.grain) (node_entries node)

-- the grain is firm on two of the nodes
abbrev pub IsFirmOnTwo : Grain → List DumpNode → Type 0
IsFirmOnTwo grain [] = ⊥
IsFirmOnTwo grain (node ∷ nodes) =
    (Contains (firm_grains node) grain × ((other : DumpNode) × Contains nodes other × Contains (firm_grains other) grain)) ⊎ IsFirmOnTwo grain nodes

-- the grain has a firm activation whose hash lies in a settled piece of a silo that has seen the current version, and which has no
-- entry there
abbrev pub IsMissing : DumpValue → Grain → Type 0
IsMissing dump grain =
    (entry : Entry) × Contains (firm_entries dump) entry × (entry.grain ≡ grain)
    × ((piece : DumpPiece) × Contains (current_pieces dump) piece × (IsHashedInto dump piece entry × ¬ Contains piece.entries entry))

-- such a piece has an entry of the grain that names an activation which no silo holds
abbrev pub IsStrange : DumpValue → Grain → Type 0
IsStrange dump grain = (entry : Entry) × Contains (current_entries dump) entry × (entry.grain ≡ grain) × ¬ Contains (held_entries dump) entry

-- no grain is so
abbrev pub NoGrain : (Grain → Type 0) → Type 0
NoGrain P = (grain : Grain) → ¬ P grain

-- the grain is so, and no lesser one is
pub record IsLeast (P : Grain → Type 0) (grain : Grain) : Type 0 where
  pub is : P grain
  pub least : (other : Grain) → P other → is_lt (grain_cmp other grain) ≡ false

-- the silo is that of the first node that isn't so
pub record IsFirstNot (P : DumpNode → Type 0) (nodes : List DumpNode) (silo : Silo) : Type 0 where
  pub before : List DumpNode
  pub node : DumpNode
  pub after : List DumpNode
  pub split : nodes ≡ before ++ node ∷ after
  pub all_before : All P before
  pub not_here : ¬ P node
  pub its : node.silo ≡ silo

-- all nodes have their rings; and they have their pieces too
abbrev pub AreRingsRight : DumpValue → Type 0
AreRingsRight dump = All (HasItsRing dump) (live_nodes dump)

abbrev pub ArePiecesRight : DumpValue → Type 0
ArePiecesRight dump = All (HasRightPieces dump) (live_nodes dump)

-- all is right
pub record IsRightDump (dump : DumpValue) : Type 0 where
  pub rings : AreRingsRight dump
  pub pieces : ArePiecesRight dump
  -- no grain is firm on two silos
  pub one_firm : NoGrain (λ grain. IsFirmOnTwo grain (live_nodes dump))
  -- each firm activation is entered where it has to be, and no other is
  pub entered : NoGrain (IsMissing dump)
  pub held : NoGrain (IsStrange dump)

-- what each verdict says: of the checks in this order the first that doesn't hold, with the least silo or grain of which it
-- doesn't
abbrev pub IsVerdict : DumpValue → Option DumpFault → Type 0
IsVerdict dump (Some (RingDiffers silo)) = IsFirstNot (HasItsRing dump) (live_nodes dump) silo
IsVerdict dump (Some (WrongRange silo)) = AreRingsRight dump × IsFirstNot (HasRightPieces dump) (live_nodes dump) silo
IsVerdict dump (Some (TwoFirm grain)) = AreRingsRight dump × ArePiecesRight dump × IsLeast (λ g. IsFirmOnTwo g (live_nodes dump)) grain
IsVerdict dump (Some (MissingFirm grain)) =
    AreRingsRight dump × ArePiecesRight dump × NoGrain (λ g. IsFirmOnTwo g (live_nodes dump)) × IsLeast (IsMissing dump) grain
IsVerdict dump (Some (Stranger grain)) =
    AreRingsRight dump × ArePiecesRight dump × NoGrain (λ g. IsFirmOnTwo g (live_nodes dump)) × NoGrain (IsMissing dump) × IsLeast (IsStrange dump) grain
IsVerdict dump None = IsRightDump dump

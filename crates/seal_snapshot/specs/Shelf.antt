-- A shelf: snapshots in the order in which they were sealed, which is by version, and at one version by where their ranges
-- begin.
use Rattle.std.specs.Prelude.{◌≡◌, ◌==◌, ◌&&◌, ◌||◌, nat_lt, ℕ, ◌<◌, Bool, true, List, [], ◌∷◌, All, ⊤, IfSome, find, length, slice_index_or, ◌-◌}
use Rattle.std.specs.List.{HoldsAt}
use Rattle.directory_rules.specs.State.{Snapshot}
use Rattle.silo_address.specs.Silo.{Silo}
use Rattle.ring_range.specs.Range.{Range}
use Rattle.directory_rules.specs.Snapshot.{ShelfAnswer as Answer, Hands_page, Has_none, Is_behind, digest_of, is_snapshot}
use Rattle.seal_snapshot.specs.declared.shelf_answer.ShelfAnswer.{ShelfAnswer}
use Rattle.seal_snapshot.specs.declared.shelf_answer.ShelfAnswer.TheVariants.{Page, Missing, Behind}

-- whether the snapshot is of an earlier version, or of this one with a range that begins before this start
abbrev pub is_before : (version start : ℕ) → Snapshot → Bool
is_before version start snapshot =
    nat_lt snapshot.version version || ((snapshot.version == version) && nat_lt snapshot.range.start start)

-- whether the one comes before the other
abbrev pub comes_before : Snapshot → Snapshot → Bool
comes_before one other = is_before other.version other.range.start one

-- each snapshot comes before all that stand behind it
abbrev pub AreInOrder : List Snapshot → Type 0
AreInOrder [] = ⊤
AreInOrder (snapshot ∷ behind) = All (λ other. comes_before snapshot other ≡ true) behind × AreInOrder behind

-- the last one in front comes before the first one behind
abbrev pub Meets : (front behind : List Snapshot) → Type 0
Meets front behind =
    0 < length front → 0 < length behind → (d : Snapshot) → comes_before (slice_index_or front (length front - 1) d) (slice_index_or behind 0 d) ≡ true

-- there is such a snapshot at this index
pub record IsAt (test : Snapshot → Bool) (shelf : List Snapshot) (index : ℕ) : Type 0 where
  pub within : index < length shelf
  pub passes : HoldsAt (λ snapshot. test snapshot ≡ true) shelf index

-- the digest is that of the silo's snapshot of that version and range, if the shelf has it
abbrev pub IsDigestFor : ℕ → Range → Silo → List Snapshot → (digest : List ℕ) → Type 0
IsDigestFor version range to shelf digest = IfSome (find (is_snapshot version range to) shelf) (λ snapshot. digest ≡ digest_of snapshot.entries)

-- a page that is handed over tells the digest of the asker's snapshot
abbrev pub TellsDigest : ℕ → Range → Silo → List Snapshot → ShelfAnswer → Type 0
TellsDigest version range asker shelf (Page page) = IsDigestFor version range asker shelf page.digest
TellsDigest version range asker shelf Missing = ⊤
TellsDigest version range asker shelf Behind = ⊤

-- the answer, as the rule has it
abbrev pub answer_of : ShelfAnswer → Answer
answer_of (Page page) = Hands_page page
answer_of Missing = Has_none
answer_of Behind = Is_behind

-- an answer that hands no page over
abbrev pub IsPageless : Answer → Type 0
IsPageless (Hands_page page) = ⊥
IsPageless Has_none = ⊤
IsPageless Is_behind = ⊤

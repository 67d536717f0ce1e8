-- Snapshots: the entries that a silo gives up when it sees a version, kept for the new owner until that has them.
use Rattle.std.specs.Prelude.{ℕ, ◌+◌, ◌*◌, ◌/◌, ◌==◌, ◌&&◌, not, nat_lt, Bool, if◌then◌else◌, List, ◌++◌, ◌∷◌, [], Option, Some, None, length, take, drop, find, filter, flat_map}
use Rattle.std.specs.List.{list_any}
use Rattle.sha2.specs.Sha256.{sha256}
use Rattle.silo_address.specs.Silo.{Silo, silo_eq}
use Rattle.silo_address.specs.Grain.{grain_text}
use Rattle.silo_address.specs.ActivationText.{activation_text}
use Rattle.silo_address.specs.declared.Entry.{Entry}
use Rattle.ring_range.specs.Range.{Range, range_eq}
use Rattle.directory_rules.specs.Settings.{page_size}
use Rattle.directory_rules.specs.State.{Page, Snapshot}

-- how many pages so many entries have: one where there are none, and else no more than hold them
abbrev pub page_count : ℕ → ℕ
page_count entries = if entries == 0 then 1 else (entries + 63) / page_size

-- the entries of a page
abbrev pub page_entries : ℕ → List Entry → List Entry
page_entries page entries = take page_size (drop (page * page_size) entries)

-- the line of an entry in the digest's text: the grain, a space, the activation, a line feed
abbrev pub digest_line : Entry → List ℕ
digest_line entry = grain_text entry.grain ++ (32 ∷ (activation_text entry.activation ++ (10 ∷ [])))

-- the digest of entries: the SHA-256 of their lines
abbrev pub digest_of : List Entry → List ℕ
digest_of entries = sha256 (flat_map digest_line entries)

-- the snapshot's page of that number
abbrev pub page_of : Snapshot → ℕ → Page
page_of snapshot page = record {
  version = snapshot.version;
  range = snapshot.range;
  page = page;
  pages = page_count (length snapshot.entries);
  digest = digest_of snapshot.entries;
  entries = page_entries page snapshot.entries;
}

-- whether it is the snapshot of that version and range for that silo
abbrev pub is_snapshot : ℕ → Range → Silo → Snapshot → Bool
is_snapshot version range to snapshot = (snapshot.version == version) && range_eq snapshot.range range && silo_eq snapshot.to to

-- what a shelf answers to an ask
pub data ShelfAnswer : Type 0 where
  Hands_page : Page → ShelfAnswer
  Has_none : ShelfAnswer
  Is_behind : ShelfAnswer

-- the page of that number, if there is the snapshot and it has so many
abbrev pub page_from : Option Snapshot → ℕ → ShelfAnswer
page_from None page = Has_none
page_from (Some snapshot) page = if nat_lt page (page_count (length snapshot.entries)) then Hands_page (page_of snapshot page) else Has_none

-- a page of the asker's snapshot of that version and range, if the shelf has it; behind where the version wasn't seen yet
abbrev pub shelf_answer : List Snapshot → (seen : ℕ) → (version : ℕ) → Range → (asker : Silo) → (page : ℕ) → ShelfAnswer
shelf_answer shelf seen version range asker page =
    if nat_lt seen version then Is_behind else page_from (find (is_snapshot version range asker) shelf) page

-- whether the shelf has the asker's snapshot of that version and range
abbrev pub has_snapshot : List Snapshot → ℕ → Range → Silo → Bool
has_snapshot shelf version range asker = list_any (is_snapshot version range asker) shelf

-- the shelf after the asker has its snapshot whole
abbrev pub shelf_without : List Snapshot → ℕ → Range → Silo → List Snapshot
shelf_without shelf version range asker = filter (λ s. not (is_snapshot version range asker s)) shelf

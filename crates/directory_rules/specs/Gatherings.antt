-- Gatherings: a new owner asks for the pages of a snapshot one after the other.
use Rattle.std.specs.Prelude.{ℕ, ◌+◌, ◌==◌, ◌&&◌, ◌||◌, not, nat_lt, nat_le, Bool, true, if◌then◌else◌, List, [], ◌++◌, Option, Some, None, length}
use Rattle.std.specs.Cmp.Lexicographic.{pointwise}
use Rattle.silo_address.specs.declared.Entry.{Entry}
use Rattle.ring_range.specs.Range.{Range, range_eq}
use Rattle.directory_rules.specs.Settings.{page_size}
use Rattle.directory_rules.specs.State.{Page, Gathering, Whole}
use Rattle.directory_rules.specs.Snapshot.{digest_of}

-- no page had yet
abbrev pub new_gathering : ℕ → Range → Gathering
new_gathering version range = record { version = version; range = range; next = 0; whole = None; entries = [] }

-- whether the page says of the whole what the first one said
abbrev pub agrees : Option Whole → Page → Bool
agrees None page = true
agrees (Some whole) page = (whole.pages == page.pages) && pointwise ◌==◌ whole.digest page.digest

-- whether so many entries may stand on that page: a full page, and on the last one at least one, unless it is the only one
abbrev pub is_entry_count : (page pages entries : ℕ) → Bool
is_entry_count page pages entries =
    if nat_lt (page + 1) pages then entries == page_size
    else (nat_le entries page_size && (nat_lt 0 entries || (pages == 1)))

-- whether the page is the next one, of the whole that the first one told
abbrev pub is_in_turn : Gathering → Page → Bool
is_in_turn gathering page =
    (page.page == gathering.next) && nat_lt page.page page.pages && agrees gathering.whole page && is_entry_count page.page page.pages (length page.entries)

-- what comes of a page: more are wanted, all entries are there, or it is refused by a number
pub data Gathered : Type 0 where
  Wants_page : Gathering → Gathered
  Has_all : List Entry → Gathered
  Refuses : (number : ℕ) → Gathering → Gathered

-- with the page's entries behind those had
abbrev pub with_page : Gathering → Page → Gathering
with_page gathering page = record gathering {
  next = gathering.next + 1;
  whole = Some (record { pages = page.pages; digest = page.digest });
  entries = gathering.entries ++ page.entries;
}

-- at the last page: all entries, if the digest is theirs; else nothing is left of them
abbrev pub completed : Gathering → Page → Gathered
completed gathering page =
    if pointwise ◌==◌ (digest_of (gathering.entries ++ page.entries)) page.digest
    then Has_all (gathering.entries ++ page.entries)
    else Refuses 701 (new_gathering gathering.version gathering.range)

-- a page is taken: 703 where it is of another version or range, then 702 where it isn't in its turn, then at the last page
-- 701 where the digest isn't that of all entries
abbrev pub gathered : Gathering → Page → Gathered
gathered gathering page =
    if not ((page.version == gathering.version) && range_eq page.range gathering.range) then Refuses 703 gathering
    else (if not (is_in_turn gathering page) then Refuses 702 gathering
    else (if nat_lt (page.page + 1) page.pages then Wants_page (with_page gathering page)
    else completed gathering page))

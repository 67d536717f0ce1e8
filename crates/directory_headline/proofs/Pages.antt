-- Pages: one is handed over, one is taken, and one empties what was gathered.
use Rattle.std.proofs.Common.{arith, ◌≡◌, ℕ, suc, ◌+◌, ◌-◌, ◌*◌, ◌<◌, List, [], ◌∷◌, ◌++◌, length, take, refl, sym, ap, subst, ◌∙◌, inl, inr}
use Rattle.std.specs.Prelude.{nat_lt, Bool, true, cond, All, Option, Some, None, find}
use Rattle.std.specs.Ordering.{nat_cmp}
use Rattle.std.specs.BTreeMap.{is_at}
use Rattle.std.proofs.lemmas.Bool.{le-leb}
use Rattle.std.proofs.lemmas.Map.Lookups.{exact_unsigned}
use Rattle.std.proofs.lemmas.List.Elements.{All-head, All-tail}
use Rattle.silo_address.specs.Silo.{Silo}
use Rattle.silo_address.specs.Grain.{Grain}
use Rattle.silo_address.specs.declared.Entry.{Entry}
use Rattle.ring_range.specs.Range.{circle, Range, IsRange, distance, holds}
use Rattle.directory_protocol.specs.Setting.{Setting}
use Rattle.directory_protocol.specs.Letters as letters
use Rattle.directory_protocol.specs.World as protocol
use Rattle.directory_protocol.specs.Safety.{SealedOnce}
use Rattle.directory_protocol.proofs.All.{hashes_are_sealed_once}
use Rattle.directory_protocol.proofs.Runs.{holds_where_reached}
use Rattle.directory_rules.specs.declared.effect.Effect.TheVariants as effect
use Rattle.directory_rules.specs.Settings.{page_size}
use Rattle.directory_rules.specs.State.{Piece, Snapshot, Page, Gathering, Whole, Letter, Ask_letter, Page_letter, Node, World}
use Rattle.directory_rules.specs.Snapshot.{Hands_page, Has_none, Is_behind, is_snapshot, page_count, page_entries, page_of, page_from, shelf_answer, digest_of}
use Rattle.directory_rules.specs.Gatherings.{Wants_page, Refuses, new_gathering, with_page, gathered}
use Rattle.directory_rules.specs.Sent.{letter_to, gathering_of}
use Rattle.directory_rules.specs.Step.{silently}
use Rattle.directory_rules.specs.Transfer.{answering, asking_on, with_gathering}
use Rattle.directory_rules.proofs.Cases.{on_bool}
use Rattle.directory_facts.proofs.Collected.{found_or, IsInTurn, GatheredSo, gathered_so}
use Rattle.directory_facts.proofs.Entries.{all_put, found_so}
use Rattle.directory_facts.proofs.Ways.{HasPiece, IsPageTaken}
use Rattle.directory_headline.specs.SiloState.{state_of}
use Rattle.directory_headline.specs.Shown.{IsShownNode, IsShownLetter, IsShownBody, IsShownSnapshot, IsShownPage, IsShownWhole, IsShownGathering, HasSealed, IsListOf}
use Rattle.directory_headline.proofs.Facts.{IsPiece}
use Rattle.directory_headline.proofs.SameTables.{one_list}
use Rattle.directory_facts.proofs.PagesTaken.{page_more}
use Rattle.directory_headline.proofs.NoActions.{answers_so}
use Rattle.directory_headline.proofs.Frame.{Here, Comes, Moves, stays, node_shown, node_facts, no_letters, one_letter}

-- ---- one snapshot of a version and range
holds_start : (range : Range) → 0 < range.size → holds range range.start ≡ true
holds_start range present =
    let none : distance range.start range.start ≡ 0 = start_far range.start in
    ap (λ n. nat_lt n range.size) none ∙ lt_from 0 range.size present
  where
    lt_from : (a b : ℕ) → a < b → nat_lt a b ≡ true
    lt_from a b less = grind arith

    start_far : (n : ℕ) → distance n n ≡ 0
    start_far n = ap (λ b. cond b (n - n) ((n + circle) - n)) (le-leb n n (omega arith)) ∙ omega arith

same_suc : (a b k : ℕ) → suc a ≡ k → suc b ≡ k → a ≡ b
same_suc a b k one other = omega arith

module _ (m : Setting) (w : protocol.World) (sealed_once : SealedOnce m w) (version : ℕ) (range : Range) (is_range : IsRange range)
    (present : 0 < range.size) where
  -- what was sealed for that version of that range has one list
  pub one_sealed : (one other : List Entry) → HasSealed m.hash w.snapshots version range one
      → HasSealed m.hash w.snapshots version range other → one ≡ other
  one_sealed one other x y =
      let held = holds_start range present in
      let below = is_range.start_below in
      let same : x.snapshot ≡ y.snapshot =
      sealed_once range.start x.snapshot y.snapshot x.was_sent y.was_sent (x.covers range.start below held)
      (y.covers range.start below held)
      (same_suc x.snapshot.sealed_at y.snapshot.sealed_at version x.for_version y.for_version) in
      one_list m.hash range x.snapshot.entries one other x.list
      (subst (λ (s : letters.Snapshot). IsListOf m.hash range s.entries other) (sym same) y.list)

-- ---- what was gathered, and the page that comes
-- the page is the next one of a list that was sealed: what was gathered are the pages before it
pub record IsNextPage (hash : Grain → ℕ) (sent : List letters.Snapshot) (gathering : Gathering) (page : Page) : Type 0 where
  pub all : List Entry
  pub sealed : HasSealed hash sent page.version page.range all
  pub pages : page.pages ≡ page_count (length all)
  pub digest : page.digest ≡ digest_of all
  pub had : gathering.entries ≡ take (gathering.next * page_size) all
  pub next : page.entries ≡ page_entries gathering.next all

module _ (m : Setting) (f : World) (w : protocol.World) (silo : Silo) (node : Node) (here : Here m f w silo node) where
  sealed_once : SealedOnce m w
  sealed_once = holds_where_reached SealedOnce hashes_are_sealed_once m w here.reached

  -- the piece that a node has of a range
  piece_spans : (version : ℕ) (range : Range) (piece : Piece) → HasPiece node version range piece → IsPiece m.hash piece
  piece_spans version range piece has =
      (found_so (λ e. IsPiece m.hash e.1) (is_at (nat_cmp range.start)) piece node.holding.pieces
      (node_facts m f w silo node here).pieces.each has.found).2

  -- ---- handing over
  snapshot_found : (test : Snapshot → Bool) (shelf : List Snapshot) (x : Snapshot) → All (IsShownSnapshot m.hash w.snapshots) shelf
      → find test shelf ≡ Some x → IsShownSnapshot m.hash w.snapshots x
  snapshot_found test [] x all found = absurd (cc (found))
  snapshot_found test (s ∷ ss) x all found =
      on_bool (λ b. cond b (Some s) (find test ss) ≡ Some x → IsShownSnapshot m.hash w.snapshots x) (test s)
      (λ t is. let same : s ≡ x = cc (is) in subst (IsShownSnapshot m.hash w.snapshots) same
      (All-head (IsShownSnapshot m.hash w.snapshots) s ss all))
      (λ u is. snapshot_found test ss x (All-tail (IsShownSnapshot m.hash w.snapshots) s ss all) is) found

  page_from_shown : (o : Option Snapshot) (number : ℕ) (page : Page) → ((x : Snapshot) → o ≡ Some x → IsShownSnapshot m.hash w.snapshots x)
      → page_from o number ≡ Hands_page page → IsShownPage m.hash w.snapshots page
  page_from_shown None number page each is = absurd (cc (is))
  page_from_shown (Some x) number page each is =
      on_bool (λ b. cond b (Hands_page (page_of x number)) Has_none ≡ Hands_page page → IsShownPage m.hash w.snapshots page)
      (nat_lt number (page_count (length x.entries)))
      (λ t it.
      let same : page_of x number ≡ page = cc (it) in
      subst (IsShownPage m.hash w.snapshots) same (record {
        all = x.entries;
        sealed = each x refl;
        pages = refl;
        below = t;
        digest = refl;
        entries = refl;
      }))
      (λ u it. absurd (cc (it))) is

  pub hands : (letter : Letter) (range : Range) (number : ℕ) (page : Page)
      → shelf_answer node.shelf node.view.version letter.version range letter.from number ≡ Hands_page page
      → Moves m w silo (answering letter node (Page_letter page) effect.Page)
  hands letter range number page is =
      let shelf = (node_shown m f w silo node here).shelf in
      answers_so m f w silo node here letter (Page_letter page) effect.Page
      (on_bool (λ b. cond b Is_behind (page_from (find (is_snapshot letter.version range letter.from) node.shelf) number) ≡ Hands_page page
      → IsShownPage m.hash w.snapshots page) (nat_lt node.view.version letter.version)
      (λ t it. absurd (cc (it)))
      (λ u it. page_from_shown (find (is_snapshot letter.version range letter.from) node.shelf) number page
      (λ x found. snapshot_found (is_snapshot letter.version range letter.from) node.shelf x shelf found) it)
      is)

  -- ---- taking
  module _ (letter : Letter) (page : Page) (taken : IsPageTaken node letter page) (comes : Comes m f w silo letter) where
    abbrev gathering : Gathering
    gathering = gathering_of node page.range

    pub gathering_shown : IsShownGathering m.hash w.snapshots gathering
    gathering_shown =
        found_or (IsShownGathering m.hash w.snapshots) (is_at (nat_cmp page.range.start)) (new_gathering node.view.version page.range)
        node.gatherings (node_shown m f w silo node here).gatherings
        (record { next = refl; entries = refl })

    pub page_shown : IsShownPage m.hash w.snapshots page
    page_shown = subst (IsShownBody m.hash w letter) taken.body comes.shown

    is_range : IsRange page.range
    is_range = subst IsRange taken.has.same (piece_spans letter.version page.range taken.piece taken.has).range

    present : 0 < page.range.size
    present = subst (λ (r : Range). 0 < r.size) taken.has.same (piece_spans letter.version page.range taken.piece taken.has).present

    -- what was gathered are the first pages of the page's list
    had_first : (whole : Option Whole) → IsShownWhole m.hash w.snapshots gathering whole → IsInTurn gathering page
        → gathering.entries ≡ take (gathering.next * page_size) page_shown.all
    had_first None is turn = let none = is.next in is.entries ∙ ap (λ n. take n page_shown.all) (nothing none)
      where
        nothing : gathering.next ≡ 0 → 0 ≡ gathering.next * page_size
        nothing none = omega (none, arith)
    had_first (Some whole) is turn =
        let sealed = is.sealed in
        let its : HasSealed m.hash w.snapshots page.version page.range is.all =
        subst (λ v. HasSealed m.hash w.snapshots v page.range is.all) (sym turn.version)
        (subst (λ r. HasSealed m.hash w.snapshots gathering.version r is.all) (sym turn.range) sealed) in
        is.entries ∙ ap (take (gathering.next * page_size))
        (one_sealed m w sealed_once page.version page.range is_range present is.all page_shown.all its page_shown.sealed)

    pub next_page : IsInTurn gathering page → IsNextPage m.hash w.snapshots gathering page
    next_page turn = record {
      all = page_shown.all;
      sealed = page_shown.sealed;
      pages = page_shown.pages;
      digest = page_shown.digest;
      had = had_first gathering.whole gathering_shown turn;
      next = page_shown.entries ∙ ap (λ n. page_entries n page_shown.all) turn.next;
    }

    -- with the page
    more_shown : IsInTurn gathering page → IsShownGathering m.hash w.snapshots (with_page gathering page)
    more_shown turn =
        let is = next_page turn in
        record {
          all = is.all;
          sealed =
              subst (λ v. HasSealed m.hash w.snapshots v gathering.range is.all) turn.version
              (subst (λ r. HasSealed m.hash w.snapshots page.version r is.all) turn.range is.sealed);
          pages = is.pages;
          digest = is.digest;
          entries =
              ap (λ l. l ++ page.entries) is.had ∙ ap (λ l. take (gathering.next * page_size) is.all ++ l) is.next
              ∙ page_more gathering.next is.all;
        }

    with_shown : (more : Gathering) → IsShownGathering m.hash w.snapshots more
        → IsShownNode m w (with_gathering node more) (state_of w silo)
    with_shown more is =
        let was = node_shown m f w silo node here in
        record {
          seen = was.seen;
          host = was.host;
          holding = was.holding;
          shelf = was.shelf;
          gatherings =
              all_put nat_cmp exact_unsigned (λ (e : ℕ × Gathering). IsShownGathering m.hash w.snapshots e.1) more.range.start more
              node.gatherings was.gatherings is;
          recoveries = was.recoveries;
        }

    pub gathers : (more : Gathering) → gathered gathering page ≡ Wants_page more
        → Moves m w silo (asking_on letter page.range (with_gathering node more))
    gathers more is =
        let so : GatheredSo gathering page (Wants_page more) = subst (GatheredSo gathering page) is (gathered_so gathering page) in
        let its = with_gathering node more in
        stays m w silo (asking_on letter page.range its)
        (with_shown more (subst (IsShownGathering m.hash w.snapshots) (sym so.1) (more_shown so.0)))
        (one_letter (IsShownLetter m.hash w) (letter_to letter.from its (Ask_letter page.range (gathering_of its page.range).next)) tt)

    pub drops : (left : Gathering) → gathered gathering page ≡ Refuses 701 left
        → Moves m w silo (silently (with_gathering node left) (effect.Refused 701))
    drops left is =
        let so : GatheredSo gathering page (Refuses 701 left) = subst (GatheredSo gathering page) is (gathered_so gathering page) in
        let anew : left ≡ new_gathering gathering.version gathering.range = elim so [ inl kept ↦ absurd (kept.0 refl) | inr anew ↦ anew ] in
        stays m w silo (silently (with_gathering node left) (effect.Refused 701))
        (with_shown left (subst (IsShownGathering m.hash w.snapshots) (sym anew) (record { next = refl; entries = refl })))
        (no_letters (IsShownLetter m.hash w))

-- What is gathered and reported, found again where it was put, and what a node sends then.
use Rattle.std.proofs.Common.{arith, ◌≡◌, ◌-◌, refl, sym, subst, ap, ◌∙◌, ℕ, List, [], ◌∷◌, ◌++◌}
use Rattle.std.specs.Prelude.{Bool, true, false, cond, ◌&&◌, ◌==◌, ◌+◌, All, Option, Some, None, Ok, Err, IsSomeAnd, length, slice_index_or}
use Rattle.std.specs.Option.{unwrap_or}
use Rattle.std.specs.Ordering.{is_eq, nat_cmp}
use Rattle.std.proofs.lemmas.List.{length-map}
use Rattle.std.proofs.lemmas.List.Elements.{All-head, All-tail}
use Rattle.std.specs.Map.{lookup}
use Rattle.std.specs.BTreeMap.{insert_entry, is_at}
use Rattle.std.proofs.lemmas.Cmp.{nat_cmp_total, tied_itself}
use Rattle.silo_address.specs.declared.Entry.{Entry}
use Rattle.ring_range.specs.Range.{Range}
use Rattle.ring_range.proofs.Same.{Decides-range}
use Rattle.texts.proofs.Entries.{lookup-insert_entry}
use Rattle.directory_rules.proofs.Cases.{on_bool}
use Rattle.directory_rules.specs.declared.Effect.TheVariants as effect
use Rattle.directory_rules.specs.declared.PieceState.{PieceState}
use Rattle.directory_rules.specs.State.{Gathering, Letter, Ask_letter, Done_letter, Query_letter, Node, Piece, Recovery, Page, Table}
use Rattle.directory_rules.specs.Gatherings.{gathered, new_gathering, with_page}
use Rattle.directory_rules.specs.Members.{members_of}
use Rattle.directory_rules.specs.Recovery.{new_recovery}
use Rattle.directory_rules.specs.Sent.{gathering_of, letter_to}
use Rattle.directory_rules.specs.Step.{Stepped, silently}
use Rattle.directory_rules.specs.Table.{is_before_first, rise_by_grain, table_of}
use Rattle.directory_rules.specs.Transfer.{answer_to, awaits, gathered_by, has_range, is_awaiting_from, is_page_awaited, missing, paged, piece_at, querying, turned_to_recovery, with_gathering, with_settled}
use Rattle.grain_partition.specs.Holdings.{HasPiece}
use Rattle.node_plans.specs.Plans.{recovering_by}
use Rattle.node_plans.specs.Sender.{queries_of}
use Rattle.seal_snapshot.specs.Progress.{progress_of}
use Rattle.seal_snapshot.specs.declared.progress.GatheringProgress.TheVariants.{Complete}
use Rattle.node_plans.proofs.Pages.{WantsMore, has_all, is_wrong}

-- what was put under a start is there
pub put_is_there : {X : Type 0} (start : ℕ) (value other : X) (es : List (ℕ × X))
    → unwrap_or (lookup (is_at (nat_cmp start)) (insert_entry nat_cmp es start value)) other ≡ value
put_is_there start value other es =
    ap (λ o. unwrap_or o other) (lookup-insert_entry nat_cmp_total start value start es
    ∙ ap (λ r. cond (is_eq r) (Some value) (lookup (is_at (nat_cmp start)) es)) (tied_itself nat_cmp_total start))

-- what is gathered for a range
pub gathering_put : (node : Node) (gathering : Gathering) → gathering_of (with_gathering node gathering) gathering.range ≡ gathering
gathering_put node gathering =
    put_is_there gathering.range.start gathering (new_gathering node.view.version gathering.range) node.gatherings

-- a page after which more are wanted: the next one is asked for
pub more_planned : (node : Node) (g : Gathering) (page : Page) (letter : Letter) → g ≡ gathering_of node page.range → WantsMore g page
    → gathered_by (gathered g page) letter page.range node
    ≡ record {
      node = with_gathering node (with_page g page);
      letters = letter_to letter.from node (Ask_letter page.range (page.page + 1)) ∷
          [];
      effect = effect.Gathering;
    }
more_planned node g page letter its more =
    let put : gathering_of (with_gathering node (with_page g page)) page.range ≡ with_page g page =
    ap (λ (r : Range). gathering_of (with_gathering node (with_page g page)) r) more.its_range ∙ gathering_put node (with_page g page) in
    ap (λ o. gathered_by o letter page.range node) more.is
    ∙ ap (λ (n : ℕ). record {
      node = with_gathering node (with_page g page);
      letters = letter_to letter.from node (Ask_letter page.range n)
          ∷ [];
      effect = effect.Gathering;
    })
    (ap (λ (k : Gathering). k.next) put ∙ ap (λ (n : ℕ). n + 1) (sym more.in_turn))

-- a piece that recovers from now on: all members are asked
pub missing_planned : (node : Node) (range : Range)
    → querying range (turned_to_recovery node range)
    ≡ record {
      node = recovering_by node (new_recovery node.view range);
      letters = queries_of node range (new_recovery node.view range);
      effect = effect.Recovering;
    }
missing_planned node range =
    ap (λ (r : Recovery). record {
      node = recovering_by node (new_recovery node.view range);
      letters = queries_of node range r;
      effect = effect.Recovering;
    })
    (put_is_there range.start (new_recovery node.view range) (new_recovery node.view range) node.recoveries)

first : (a b : Bool) → (a && b) ≡ true → a ≡ true
first true b is = refl
first false b is = cc

rest : (a b : Bool) → (a && b) ≡ true → b ≡ true
rest true b is = is
rest false b is = absurd (cc (is))

-- a piece of just that range, in whatever state
found_there : (test : PieceState → Bool) (range : Range) (pieces : List (ℕ × Piece)) (found : Option Piece)
    → lookup (is_at (nat_cmp range.start)) pieces ≡ found → has_range test range found ≡ true → HasPiece range pieces
found_there test range pieces None at is = absurd (cc (is))
found_there test range pieces (Some piece) at is =
    subst (λ o. IsSomeAnd o (λ p. p.range ≡ range)) (sym at) ((Decides-range piece.range range).0 (first _ _ is))

pub has_piece : (test : PieceState → Bool) (node : Node) (range : Range) → has_range test range (piece_at node range) ≡ true
    → HasPiece range node.holding.pieces
has_piece test node range is = found_there test range node.holding.pieces (piece_at node range) refl is

-- entries go on in the order of grains where the first one goes on behind the last one so far
goes_on : (x : Entry) (xs ys : List Entry) (d : Entry) → rise_by_grain (x ∷ xs) ≡ true
    → rise_by_grain ((x ∷ xs) ++ ys) ≡ (is_before_first (slice_index_or (x ∷ xs) (length xs) d) ys && rise_by_grain ys)
goes_on x [] ys d rises = refl
goes_on x (z ∷ zs) ys d rises = ap (λ b. b && rise_by_grain ((z ∷ zs) ++ ys)) (first _ _ rises) ∙ goes_on z zs ys d (rest _ _ rises)

pub goes_on_behind : (xs ys : List Entry) (d : Entry) → (length xs == 0) ≡ false → rise_by_grain xs ≡ true
    → rise_by_grain (xs ++ ys) ≡ (is_before_first (slice_index_or xs (length xs - 1) d) ys && rise_by_grain ys)
goes_on_behind [] ys d some rises = absurd (cc (some))
goes_on_behind (x ∷ xs) ys d some rises =
    let last : length xs ≡ length (x ∷ xs) - 1 = omega arith in
    goes_on x xs ys d rises ∙ ap (λ n. is_before_first (slice_index_or (x ∷ xs) n d) ys && rise_by_grain ys) last

-- what comes of a snapshot that isn't there, where it is awaited
pub missing_is : (node : Node) (letter : Letter) (range : Range) → awaits node letter.version range letter.from ≡ true
    → missing node letter range
    ≡ record {
      node = recovering_by node (new_recovery node.view range);
      letters = queries_of node range (new_recovery node.view range);
      effect = effect.Recovering;
    }
missing_is node letter range awaited =
    ap (λ b. cond b (querying range (turned_to_recovery node range)) (silently node effect.Ignored)) awaited ∙ missing_planned node range

pub missing_count : (node : Node) (letter : Letter) (range : Range) → awaits node letter.version range letter.from ≡ true
    → length (missing node letter range).letters ≡ length (members_of node.view)
missing_count node letter range awaited =
    ap (λ (s : Stepped). length s.letters) (missing_is node letter range awaited)
    ∙ length-map (members_of node.view) (λ silo. letter_to silo node (Query_letter range None))

-- what comes of the last page
pub installed : (node : Node) (g : Gathering) (page : Page) (letter : Letter) (entries : Table)
    → progress_of (gathered g page) ≡ Ok Complete → entries ≡ table_of (g.entries ++ page.entries)
    → record {
      node = with_settled node page.range entries;
      letters = answer_to letter node (Done_letter page.range) ∷ [];
      effect = effect.Installed;
    } ≡ gathered_by (gathered g page) letter page.range node
installed node g page letter entries complete is =
    ap (λ (t : Table). record {
      node = with_settled node page.range t;
      letters = answer_to letter node (Done_letter page.range) ∷ [];
      effect = effect.Installed;
    }) is
    ∙ ap (λ o. gathered_by o letter page.range node) (sym (has_all g page complete))

-- whatever is gathered rises
pub found_rises : (es : List (ℕ × Gathering)) (at : ℕ → Bool) (g : Gathering) → All (λ e. rise_by_grain e.1.entries ≡ true) es
    → lookup at es ≡ Some g → rise_by_grain g.entries ≡ true
found_rises [] at g all = λ found. absurd (cc (found))
found_rises (e ∷ es) at g all =
    on_bool (λ b. cond b (Some e.1) (lookup at es) ≡ Some g → rise_by_grain g.entries ≡ true) (at e.0)
    (λ t found.
    let same : e.1 ≡ g = cc (found) in
    subst (λ (k : Gathering). rise_by_grain k.entries ≡ true) same
    (All-head (λ (e : ℕ × Gathering). rise_by_grain e.1.entries ≡ true) e es all))
    (λ f found. found_rises es at g (All-tail (λ (e : ℕ × Gathering). rise_by_grain e.1.entries ≡ true) e es all) found)

-- what comes of a page that counts
pub paged_is : (node : Node) (letter : Letter) (page : Page) → is_page_awaited node letter page ≡ true
    → paged node letter page ≡ gathered_by (gathered (gathering_of node page.range) page) letter page.range node
paged_is node letter page awaited =
    ap (λ b. cond b (gathered_by (gathered (gathering_of node page.range) page) letter page.range node) (silently node effect.Ignored))
    awaited

-- and of one that doesn't
pub paged_ignored : (node : Node) (letter : Letter) (page : Page) → is_page_awaited node letter page ≡ false
    → paged node letter page ≡ silently node effect.Ignored
paged_ignored node letter page ignored =
    ap (λ b. cond b (gathered_by (gathered (gathering_of node page.range) page) letter page.range node) (silently node effect.Ignored))
    ignored

-- a page that counts is for a piece that is there, and its entries go on behind those gathered
pub record Counts (node : Node) (page : Page) : Type 0 where
  pub there : HasPiece page.range node.holding.pieces
  pub rises : rise_by_grain ((gathering_of node page.range).entries ++ page.entries) ≡ true

pub counts : (node : Node) (letter : Letter) (page : Page) → is_page_awaited node letter page ≡ true → Counts node page
counts node letter page awaited =
    let of_sender = first _ _ awaited in
    record {
      there = has_piece (is_awaiting_from letter.from) node page.range (rest _ _ (rest _ _ (first _ _ of_sender)));
      rises = rest _ _ of_sender;
    }

-- a last page of another digest: its pages are gathered anew
pub anew_planned : (node : Node) (page : Page) (letter : Letter) → progress_of (gathered (gathering_of node page.range) page) ≡ Err 701
    → record {
      node = with_gathering node (new_gathering (gathering_of node page.range).version page.range);
      letters = [];
      effect = effect.Refused 701;
    } ≡ gathered_by (gathered (gathering_of node page.range) page) letter page.range node
anew_planned node page letter refused =
    let wrong = is_wrong (gathering_of node page.range) page refused in
    ap (λ (r : Range). record {
      node = with_gathering node (new_gathering (gathering_of node page.range).version r);
      letters = [];
      effect = effect.Refused 701;
    }) wrong.its_range
    ∙ ap (λ o. gathered_by o letter page.range node) (sym wrong.is)

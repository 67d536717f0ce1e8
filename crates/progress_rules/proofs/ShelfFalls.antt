-- What the previous owner sends when an ask comes, and what its shelf has once the new owner has its snapshot.
use Rattle.std.proofs.Common.{arith, ◌≡◌, refl, sym, ap, ◌∙◌, ℕ, ◌≤◌, List, [], ◌∷◌, length}
use Rattle.std.specs.Prelude.{Bool, true, false, cond, not, ◌==◌, ◌&&◌, nat_lt, find, filter, Option, Some, None}
use Rattle.std.proofs.lemmas.Bool.{eqb-true}
use Rattle.texts.proofs.Decided.{both}
use Rattle.silo_address.specs.Silo.{Silo, silo_eq}
use Rattle.ring_range.specs.Range.{Range, range_eq}
use Rattle.ring_range.proofs.Same.{Decides-range}
use Rattle.hash_ring.specs.declared.Hashing.{Hashing}
use Rattle.directory_rules.specs.declared.effect.Effect.TheVariants as effect
use Rattle.directory_rules.specs.State.{Snapshot, Page, Letter, Ask_letter, Page_letter, Missing_letter, Done_letter, Behind_letter, Node}
use Rattle.directory_rules.specs.Snapshot.{ShelfAnswer, Hands_page, Has_none, Is_behind, shelf_answer, is_snapshot, has_snapshot, shelf_without, page_from, page_of, page_count}
use Rattle.directory_rules.specs.Step.{silently}
use Rattle.directory_rules.specs.Transfer.{asked_by, done}
use Rattle.directory_rules.specs.Laws.{requests_of}
use Rattle.directory_rules.proofs.Cases.{on_bool}
use Rattle.directory_facts.specs.Pieces.{HasPieces}
use Rattle.progress_rules.specs.Room.{pages_of, pages_shelved}
use Rattle.progress_rules.proofs.Sums.{le_same}
use Rattle.progress_rules.proofs.Waits.{is_one}
use Rattle.progress_rules.proofs.Falls.{Left, need, Falls, quietly, nothing, answers}

-- ---- shelves
-- what two snapshots are for
pub record IsFor (version : ℕ) (range : Range) (silo : Silo) (x : Snapshot) : Type 0 where
  pub version_is : x.version ≡ version
  pub range_is : x.range ≡ range
  pub silo_is : x.to ≡ silo

pub is_for : (version : ℕ) (range : Range) (silo : Silo) (x : Snapshot) → is_snapshot version range silo x ≡ true
    → IsFor version range silo x
is_for version range silo x is =
    let so = both ((x.version == version) && range_eq x.range range) (silo_eq x.to silo) is in
    let of = both (x.version == version) (range_eq x.range range) so.0 in
    record {
      version_is = eqb-true x.version version of.0;
      range_is = (Decides-range x.range range).0 of.1;
      silo_is = is_one x.to silo so.1;
    }

one_test : (version other : ℕ) (range its : Range) (silo to : Silo) (x y : Snapshot) → is_snapshot version range silo x ≡ true
    → is_snapshot other its to x ≡ true
    → is_snapshot version range silo y ≡ true → is_snapshot other its to y ≡ true
one_test version other range its silo to x y one two passes =
    let first = is_for version range silo x one in
    let second = is_for other its to x two in
    let versions = sym first.version_is ∙ second.version_is in
    let ranges = sym first.range_is ∙ second.range_is in
    let silos = sym first.silo_is ∙ second.silo_is in
    ap (λ v. is_snapshot v its to y) (sym versions) ∙ ap (λ (r : Range). is_snapshot version r to y) (sym ranges)
    ∙ ap (λ s. is_snapshot version range s y) (sym silos) ∙ passes

-- where all that pass go none is found
none_left : (p q : Snapshot → Bool) → ((y : Snapshot) → p y ≡ true → q y ≡ true) → (shelf : List Snapshot)
    → find p (filter (λ s. not (q s)) shelf) ≡ None
none_left p q so [] = refl
none_left p q so (x ∷ xs) =
    on_bool (λ b. q x ≡ b → find p (cond (not b) (x ∷ filter (λ s. not (q s)) xs) (filter (λ s. not (q s)) xs)) ≡ None) (q x)
    (λ t is. none_left p q so xs)
    (λ f stays. on_bool (λ b. p x ≡ b → cond b (Some x) (find p (filter (λ s. not (q s)) xs)) ≡ None) (p x)
    (λ t passes. let goes = so x passes in absurd (cc (goes, stays))) (λ g fails. none_left p q so xs) refl) refl

fewer_found : (p q : Snapshot → Bool) → ((x y : Snapshot) → p x ≡ true → q x ≡ true → p y ≡ true → q y ≡ true) → (shelf : List Snapshot)
    → pages_of (find p (filter (λ s. not (q s)) shelf)) ≤ pages_of (find p shelf)
fewer_found p q one [] = le_same 0
fewer_found p q one (x ∷ xs) =
    on_bool (λ b. q x ≡ b → pages_of (find p (cond (not b) (x ∷ filter (λ s. not (q s)) xs) (filter (λ s. not (q s)) xs))) ≤ pages_of
    (cond (p x) (Some x) (find p xs))) (q x)
    (λ t goes. on_bool (λ b. p x ≡ b → pages_of (find p (filter (λ s. not (q s)) xs)) ≤ pages_of (cond b (Some x) (find p xs))) (p x)
    (λ t passes. let none = ap pages_of (none_left p q (λ y. one x y passes goes) xs) in omega (arith, none))
    (λ f fails. fewer_found p q one xs) refl)
    (λ f stays. on_bool (λ b. pages_of (cond b (Some x) (find p (filter (λ s. not (q s)) xs))) ≤ pages_of (cond b (Some x) (find p xs)))
    (p x)
    (λ t. le_same (pages_of (Some x))) (λ g. fewer_found p q one xs)) refl

-- a page that was handed out is of a snapshot on the shelf
pub record IsHanded (o : Option Snapshot) (number : ℕ) (page : Page) : Type 0 where
  pub snapshot : Snapshot
  pub found : o ≡ Some snapshot
  pub is : page ≡ page_of snapshot number

pub handed : (behind : Bool) (o : Option Snapshot) (number : ℕ) (page : Page)
    → cond {A = ShelfAnswer} behind Is_behind (page_from o number) ≡ Hands_page page
    → IsHanded o number page
handed true o number page is = absurd (cc (is))
handed false None number page is = absurd (cc (is))
handed false (Some x) number page is =
    on_bool (λ b. cond {A = ShelfAnswer} b (Hands_page (page_of x number)) Has_none ≡ Hands_page page
    → IsHanded (Some x) number page) (nat_lt number (page_count (length x.entries)))
    (λ t it. record { snapshot = x; found = refl; is = same it }) (λ f not. absurd (cc (not))) is
  where
    same : Hands_page (page_of x number) ≡ Hands_page page → page ≡ page_of x number
    same it = sym (cc (it))

module _ (due : Silo → Range → ℕ) (left : Left) (hashing : Hashing) (node : Node) (has : HasPieces hashing node) (letter : Letter) where
  -- ---- the previous owner
  pub shelf_same : (silo : Silo) (version : ℕ) (range : Range)
      → pages_shelved (Some node) silo version range ≤ pages_shelved (Some node) silo version range
  shelf_same silo version range = le_same (pages_shelved (Some node) silo version range)

  pub ask_falls : (range : Range) (number : ℕ) (answer : ShelfAnswer)
      → shelf_answer node.shelf node.view.version letter.version range letter.from number ≡ answer
      → Falls due left node (Ask_letter range number) (asked_by answer letter range node)
  ask_falls range number (Hands_page page) is =
      answers due left node (Ask_letter range number) letter (Page_letter page) effect.Page (le_same 1) refl refl
  ask_falls range number Has_none is =
      answers due left node (Ask_letter range number) letter (Missing_letter range) effect.Missing (le_same 1) refl refl
  ask_falls range number Is_behind is =
      answers due left node (Ask_letter range number) letter (Behind_letter range) effect.Behind (le_same 1) refl refl

  pub done_falls : (range : Range) → Falls due left node (Done_letter range) (done node letter range)
  done_falls range =
      on_bool (λ b. Falls due left node (Done_letter range)
      (cond b (silently (record node { shelf = shelf_without node.shelf letter.version range letter.from }) effect.Deleted)
      (silently node effect.Ignored))) (has_snapshot node.shelf letter.version range letter.from)
      (λ t. quietly due left node (Done_letter range) (record node { shelf = shelf_without node.shelf letter.version range letter.from })
      effect.Deleted (le_same (need due left node))
      (le_same (length (requests_of node.host)))
      (λ silo version other. fewer_found (is_snapshot version other silo) (is_snapshot letter.version range letter.from)
      (λ x y. one_test version letter.version other range silo letter.from x y) node.shelf) refl refl)
      (λ f. nothing due left node (Done_letter range) effect.Ignored)

-- Where all have seen the current view: as many pages as a page says that comes, its giver's shelf has.
use Rattle.std.proofs.Common.{arith, ◌≡◌, refl, sym, ap, subst, ◌∙◌, ℕ, ◌≤◌, List, [], ◌∷◌, inl, inr, length}
use Rattle.std.specs.Prelude.{Bool, true, cond, ◌||◌, find, All, Some}
use Rattle.std.specs.List.{list_any}
use Rattle.std.proofs.lemmas.List.Elements.{All-head, All-tail}
use Rattle.silo_address.specs.declared.Entry.{Entry}
use Rattle.membership_view.specs.View.{ViewValue}
use Rattle.ring_range.specs.Range.{Range}
use Rattle.directory_rules.specs.State.{Snapshot, Page, Letter, Page_letter, Node, World}
use Rattle.directory_rules.specs.Snapshot.{page_count, is_snapshot, has_snapshot}
use Rattle.directory_rules.specs.Mail.{letter_of}
use Rattle.directory_rules.specs.Happens.{node_of}
use Rattle.directory_rules.proofs.Cases.{on_bool}
use Rattle.directory_facts.proofs.Reached.{found_node}
use Rattle.directory_headline.specs.Shown.{HasSealed, IsShownBody, IsShownPage, IsShownSnapshot}
use Rattle.directory_headline.proofs.Deliveries.{letter_shown}
use Rattle.directory_headline.proofs.Pages.{one_sealed}
use Rattle.progress_rules.specs.ComeBack.{HaveSeen}
use Rattle.progress_rules.specs.Gathers.{AwaitsFrom}
use Rattle.progress_rules.specs.Pages.{AwaitedAreLive}
use Rattle.progress_rules.specs.Room.{pages_of, pages_shelved}
use Rattle.progress_rules.proofs.Answered.{some_of}
use Rattle.progress_rules.proofs.FitGatherings.{all_facts}
use Rattle.progress_rules.proofs.TakesPage.{found_test}
use Rattle.progress_rules.proofs.Resting.{IsResting, rest_facts, rest_carried}
use Rattle.progress_rules.proofs.RoundOfPieces.{live_at_first}
use Rattle.progress_rules.proofs.Transfers.{seen, sealed_once, piece_is}
use Rattle.progress_rules.proofs.ShelfFalls.{is_for}
use Rattle.progress_rules.proofs.StandingLetters.{IsHanded, Stands, AllStand}
use Rattle.progress_rules.proofs.LettersStand.{in_mail, all_stand}

-- ---- what a shelf has
pub record HasFound (test : Snapshot → Bool) (shelf : List Snapshot) (P : Snapshot → Type 0) : Type 0 where
  pub snapshot : Snapshot
  pub found : find test shelf ≡ Some snapshot
  pub holds : P snapshot

found_any : (test : Snapshot → Bool) (P : Snapshot → Type 0) (shelf : List Snapshot) → All P shelf → list_any test shelf ≡ true
    → HasFound test shelf P
found_any test P [] all there = absurd (cc (there))
found_any test P (x ∷ xs) all there =
    on_bool (λ b. test x ≡ b → (b || list_any test xs) ≡ true → HasFound test (x ∷ xs) P) (test x)
    (λ t is some. record { snapshot = x; found = ap (λ b. cond b (Some x) (find test xs)) is; holds = All-head P x xs all })
    (λ f is some. let rest = found_any test P xs (All-tail P x xs all) some in
    record { snapshot = rest.snapshot; found = ap (λ b. cond b (Some x) (find test xs)) is ∙ rest.found; holds = rest.holds }) refl there

module _ (world : World) (r : IsResting world) where
  rest_stand : AllStand world
  rest_stand = subst AllStand (sym r.is) (all_stand r.settings r.are r.events r.named)

  rest_awaited : AwaitedAreLive world
  rest_awaited = subst AwaitedAreLive (sym r.is)
      (live_at_first r.settings r.events r.are r.named
      (subst HaveSeen r.is (λ silo node there. ap (λ (v : ViewValue). v.version) (r.seen silo node there))))

  module _ (number : ℕ) (letter : Letter) (found : letter_of world number ≡ Some letter) (page : Page)
      (body : letter.body ≡ Page_letter page) (node : Node)
      (its : node_of world letter.to ≡ Some node) (version : page.version ≡ node.view.version)
      (waits : AwaitsFrom node page.range letter.from) where
    by_silo : node.host.silo ≡ letter.to
    by_silo = (found_node all_facts world letter.to node (rest_facts world r) its).0.0.0.0.by_silo

    -- the shelf's snapshot is the one of which the page is
    as_many : (giver : Node) → node_of world letter.from ≡ Some giver → has_snapshot giver.shelf page.version page.range letter.to ≡ true
        → page.pages ≡ pages_shelved (Some giver) letter.to page.version page.range
    as_many giver theirs there =
        let c = rest_carried world r in
        let m = c.setting in
        let w = c.carried.world in
        let h = found_any (is_snapshot page.version page.range letter.to) (IsShownSnapshot m.hash w.snapshots) giver.shelf
        (c.carried.shown.live letter.from giver theirs).shelf there in
        let for_it = is_for page.version page.range letter.to h.snapshot (found_test (is_snapshot page.version page.range letter.to) giver.shelf h.snapshot h.found) in
        let sealed : HasSealed m.hash w.snapshots page.version page.range h.snapshot.entries =
        subst (λ v. HasSealed m.hash w.snapshots v page.range h.snapshot.entries) for_it.version_is
        (subst (λ (q : Range). HasSealed m.hash w.snapshots h.snapshot.version q h.snapshot.entries) for_it.range_is h.holds) in
        let shown : IsShownPage m.hash w.snapshots page = subst (IsShownBody m.hash w letter) body (letter_shown m world w number letter c.carried.shown found) in
        let is_piece = piece_is world r letter.to node its page.range letter.from waits in
        let one = one_sealed m w (sealed_once world r) page.version page.range is_piece.0 is_piece.1 h.snapshot.entries shown.all sealed shown.sealed in
        shown.pages ∙ ap (λ (l : List Entry). page_count (length l)) (sym one) ∙ ap pages_of (sym h.found)

    pub shelved_so : page.pages ≤ pages_shelved (node_of world letter.from) node.host.silo node.view.version page.range
    shelved_so =
        let giver = some_of (node_of world letter.from) (rest_awaited letter.to node its page.range letter.from waits) in
        let same = seen world r letter.from giver.0 giver.1 in
        let mine = seen world r letter.to node its in
        let handed : IsHanded world letter page = subst (Stands world letter) body (in_mail (λ l. Stands world l l.body) world number letter rest_stand found) in
        let shelf : pages_shelved (node_of world letter.from) node.host.silo node.view.version page.range ≡ pages_shelved (Some giver.0) letter.to page.version page.range =
        ap (λ o. pages_shelved o node.host.silo node.view.version page.range) giver.1
        ∙ ap (λ s. pages_shelved (Some giver.0) s node.view.version page.range) by_silo
        ∙ ap (λ v. pages_shelved (Some giver.0) letter.to v page.range) (sym version) in
        elim ((handed.node giver.0 giver.1).shelved (version ∙ mine ∙ sym same)) [
          | inl there ↦ let many = as_many giver.0 giver.1 there in omega (arith, many, shelf)
          | inr past ↦ absurd ((past.node node its).awaits_not version letter.from waits)
        ]

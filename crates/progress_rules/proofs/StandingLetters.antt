-- What letters of transfers say of a world, which stands as it goes on: a page is of a snapshot that its sender's shelf still has, unless
-- the silo that it is for awaits it no more, or the sender has seen a later version.
use Rattle.std.proofs.Common.{arith, ◌≡◌, refl, ap, ◌∙◌, ℕ, ◌<◌, ◌≤◌, List, ◌⊎◌, inl, inr}
use Rattle.std.specs.Prelude.{⊤, true, All, IsSome, Some}
use Rattle.std.proofs.lemmas.List.Elements.{All-weaker}
use Rattle.silo_address.specs.Silo.{Silo}
use Rattle.membership_view.specs.View.{ViewValue}
use Rattle.membership_view.specs.Views.{ViewsValue, status_at}
use Rattle.ring_range.specs.Range.{Range}
use Rattle.directory_rules.specs.State.{Page, Letter, Body, Page_letter, Done_letter, Node, World, Posted}
use Rattle.directory_rules.specs.Snapshot.{has_snapshot}
use Rattle.directory_rules.specs.Happens.{node_of}
use Rattle.progress_rules.specs.Gathers.{AwaitsFrom}
use Rattle.progress_rules.proofs.HandedPages.{IsPast}

-- ---- what a letter says of the world
abbrev pub Known : ViewsValue → Silo → Type 0
Known views silo = IsSome (status_at views views.version silo)

-- the silo has had the snapshot whole, or has seen a later version
pub record Past (world : World) (silo : Silo) (version : ℕ) (range : Range) : Type 0 where
  pub known : Known world.views silo
  pub node : (its : Node) → node_of world silo ≡ Some its → IsPast version range its

pub record IsHandedBy (world : World) (to : Silo) (page : Page) (node : Node) : Type 0 where
  pub reached : page.version ≤ node.view.version
  pub shelved : page.version ≡ node.view.version → (has_snapshot node.shelf page.version page.range to ≡ true)
      ⊎ Past world to page.version page.range

pub record IsHanded (world : World) (letter : Letter) (page : Page) : Type 0 where
  pub known : Known world.views letter.from
  pub node : (its : Node) → node_of world letter.from ≡ Some its → IsHandedBy world letter.to page its

abbrev pub Stands : World → Letter → Body → Type 0
Stands world letter (Done_letter range) = Past world letter.from letter.version range
Stands world letter (Page_letter page) = IsHanded world letter page
Stands world letter body = ⊤

abbrev pub AllStand : World → Type 0
AllStand world = All (λ e. Stands world e.1.letter e.1.letter.body) world.mail

-- ---- a world goes on
pub record Stays (world : World) (node later : Node) : Type 0 where
  pub view : later.view ≡ node.view
  pub awaits : (range : Range) (giver : Silo) → AwaitsFrom later range giver → AwaitsFrom node range giver
  pub shelf : (version : ℕ) (range : Range) (to : Silo) → has_snapshot node.shelf version range to ≡ true
      → (has_snapshot later.shelf version range to ≡ true) ⊎ Past world to version range

abbrev pub GoesFrom : World → (node later : Node) → Type 0
GoesFrom world node later = (node.view.version < later.view.version) ⊎ Stays world node later

pub record Onward (world after : World) : Type 0 where
  pub known : (silo : Silo) → Known world.views silo → Known after.views silo
  pub nodes : (silo : Silo) (later : Node) → Known world.views silo → node_of after silo ≡ Some later
      → (node : Node) × (node_of world silo ≡ Some node) × GoesFrom world node later

pub stays_same : (world : World) (node : Node) → GoesFrom world node node
stays_same world node = inr (record { view = refl; awaits = λ range giver waits. waits; shelf = λ version range to there. inl there })

module _ (world after : World) (o : Onward world after) where
  past_later : (version : ℕ) (range : Range) (node later : Node) → IsPast version range node → GoesFrom world node later
      → IsPast version range later
  past_later version range node later is (inl rises) = record {
    reached = let low = is.reached in omega (arith, low, rises);
    awaits_not = λ same giver waits. let low = is.reached in omega (arith, low, rises, same);
  }
  past_later version range node later is (inr stays) =
      let same = ap (λ (v : ViewValue). v.version) stays.view in
      record {
        reached = let low = is.reached in omega (arith, low, same);
        awaits_not = λ at giver waits. is.awaits_not (at ∙ same) giver
            (stays.awaits range giver waits);
      }

  past_on : (silo : Silo) (version : ℕ) (range : Range) → Past world silo version range → Past after silo version range
  past_on silo version range is = record {
    known = o.known silo is.known;
    node =
        λ later there. let from = o.nodes silo later is.known there in past_later version range from.0 later (is.node from.0 from.1) from.2;
  }

  handed_later : (to : Silo) (page : Page) (node later : Node) → IsHandedBy world to page node → GoesFrom world node later
      → IsHandedBy after to page later
  handed_later to page node later is (inl rises) = record {
    reached = let low = is.reached in omega (arith, low, rises);
    shelved = λ same. let low = is.reached in absurd (omega (arith, low, rises, same));
  }
  handed_later to page node later is (inr stays) =
      let same = ap (λ (v : ViewValue). v.version) stays.view in
      record {
        reached = let low = is.reached in omega (arith, low, same);
        shelved = λ at. elim (is.shelved (at ∙ same)) [
          | inl there ↦ elim (stays.shelf page.version page.range to there)
              [ inl still ↦ inl still | inr past ↦ inr (past_on to page.version page.range past) ]
          | inr past ↦ inr (past_on to page.version page.range past)
        ];
      }

  pub stands_on : (letter : Letter) (body : Body) → Stands world letter body → Stands after letter body
  stands_on letter (Done_letter range) is = past_on letter.from letter.version range is
  stands_on letter (Page_letter page) is = record {
    known = o.known letter.from is.known;
    node =
        λ later there. let from = o.nodes letter.from later is.known there in
        handed_later letter.to page from.0 later (is.node from.0 from.1) from.2;
  }
  stands_on letter body is = tt

  pub all_on : (mail : List (ℕ × Posted)) → All (λ e. Stands world e.1.letter e.1.letter.body) mail
      → All (λ e. Stands after e.1.letter e.1.letter.body) mail
  all_on mail =
      All-weaker (λ (e : ℕ × Posted). Stands world e.1.letter e.1.letter.body) (λ (e : ℕ × Posted). Stands after e.1.letter e.1.letter.body)
      (λ e is. stands_on e.1.letter e.1.letter.body is) mail

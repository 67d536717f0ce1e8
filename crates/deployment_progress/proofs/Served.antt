-- The last number that an owner served to a silo changes only by a request of the silo that comes.
use Rattle.std.proofs.Common.{arith, ◌≡◌, refl, sym, ap, ℕ, ◌⊎◌, inl, inr}
use Rattle.std.specs.Prelude.{Ok}
use Rattle.silo_address.specs.Silo.{Silo}
use Rattle.membership_view.specs.View.{ViewValue}
use Rattle.directory_rules.specs.declared.act.Request.{Request}
use Rattle.directory_rules.specs.Answer.{last_served}
use Rattle.directory_rules.specs.Input.{Input, Receives, step}
use Rattle.directory_rules.specs.State.{Letter, Request_letter, Node}
use Rattle.directory_rules.specs.Step.{Stepped}
use Rattle.directory_facts.proofs.EachStep.{by_way}
use Rattle.directory_facts.proofs.Emptied.{leaves_else}
use Rattle.directory_facts.proofs.Ways.{Ways}
use Rattle.progress_rules.proofs.Answered.{served_so}

-- the silo's request of that number comes
pub record IsOfRequest (input : Input) (silo : Silo) (number : ℕ) : Type 0 where
  pub letter : Letter
  pub request : Request
  pub is : input ≡ Receives letter
  pub body : letter.body ≡ Request_letter request
  pub sender : request.sender ≡ silo
  pub number_is : number ≡ request.number

module _ (node : Node) where
  abbrev Serves : Input → Stepped → Type 0
  Serves input stepped =
      stepped.node.view ≡ node.view → (silo : Silo) → (last_served silo stepped.node.holding.served ≡ last_served silo node.holding.served)
      ⊎ IsOfRequest input silo (last_served silo stepped.node.holding.served)

  ways : Ways node Serves
  ways = record {
    nothing = λ input its plain seen silo. inl refl;
    sees =
        λ before view places newer numbers seen. let version = ap (λ (v : ViewValue). v.version) seen in
        absurd (omega (arith, version, newer));
    wakes = λ grain may seen silo. inl refl;
    closes = λ grain held may seen silo. inl refl;
    cancels = λ grain held may seen silo. inl refl;
    offers = λ grain held to may active other seen silo. inl refl;
    uses_hint = λ grain activation hint seen silo. inl refl;
    finds = λ grain room numbers seen silo. inl refl;
    forgets = λ grain activation hint seen silo. inl refl;
    nudges = λ numbers seen silo. inl refl;
    nudges_grain = λ grain numbers seen silo. inl refl;
    nudges_ranges = λ seen silo. inl refl;
    answers = λ letter request body sender version seen silo.
        elim (served_so node.holding request silo) [
          | inl same ↦ inl same
          | inr mine ↦ inr
              (record { letter = letter; request = request; is = refl; body = body; sender = sym mine.0; number_is = mine.2 })
        ];
    confirms = λ letter number entry e is there seen silo. inl refl;
    yields = λ letter number entry e is there seen silo. inl refl;
    removes = λ letter number e is there seen silo. inl refl;
    misses = λ letter number e is there seen silo. inl refl;
    learns = λ letter number entry is there seen silo. inl refl;
    notes = λ letter number is there seen silo. inl refl;
    hands = λ letter range number page body is seen silo. inl refl;
    lacks = λ letter range number body is seen silo. inl refl;
    forgoes = λ letter range body there seen silo. inl refl;
    lags = λ letter range seen silo. inl refl;
    passed = λ letter range seen silo. inl refl;
    reports = λ letter range after body now seen silo. inl refl;
    gathers = λ letter page gathering taken is seen silo. inl refl;
    installs = λ letter page entries taken is seen silo. inl refl;
    drops = λ letter page left taken is seen silo. inl refl;
    turns = λ letter range piece body its awaits seen silo. inl refl;
    continues = λ letter report recovery taken is seen silo. inl refl;
    collects = λ letter report recovery taken is seen silo. inl refl;
    completes = λ letter report table taken is seen silo. inl refl;
    surveys = λ letter first others body now seen silo. inl refl;
    empties = λ letter ranges its body plain seen silo. inl (ap (last_served silo) (leaves_else letter node ranges).served);
    takes_over = λ letter entry body now may seen silo. inl refl;
  }

  pub serves : (input : Input) (stepped : Stepped) → step node input ≡ Ok stepped → Serves input stepped
  serves input stepped is = by_way node Serves ways input stepped is

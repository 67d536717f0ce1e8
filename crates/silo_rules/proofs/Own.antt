-- A step leaves a node its silo's, by the same settings.
use Rattle.std.proofs.Common.{◌≡◌, ap, refl}
use Rattle.std.specs.Prelude.{fold, Ok}
use Rattle.directory_rules.specs.State.{Host, Node}
use Rattle.directory_rules.specs.Step.{Stepped}
use Rattle.directory_rules.specs.Transfer.{told_nothing}
use Rattle.directory_rules.specs.Input.{Input, step}
use Rattle.directory_facts.proofs.Ways.{Ways}
use Rattle.directory_facts.proofs.EachStep.{by_way}
use Rattle.directory_facts.proofs.Emptied.{leaves_else}

-- the node after a step has the settings and the silo of the one before
pub record StaysOwn (node after : Node) : Type 0 where
  pub settings : after.settings ≡ node.settings
  pub silo : after.host.silo ≡ node.host.silo

module _ (node : Node) where
  abbrev Made : Input → Stepped → Type 0
  Made input stepped = StaysOwn node stepped.node

  stays : (its : Node) → its.settings ≡ node.settings → its.host.silo ≡ node.host.silo → StaysOwn node its
  stays its settings silo = record { settings = settings; silo = silo }

  ways : Ways node Made
  ways = record {
    nothing = λ input effect plain. stays _ refl refl;
    sees = λ before view brought newer numbers. stays _ refl refl;
    wakes = λ grain may. stays _ refl refl;
    closes = λ grain held may. stays _ refl refl;
    cancels = λ grain held may. stays _ refl refl;
    offers = λ grain held to may active other. stays _ refl refl;
    uses_hint = λ grain activation hint. stays _ refl refl;
    finds = λ grain room numbers. stays _ refl refl;
    forgets = λ grain activation hint. stays _ refl refl;
    nudges = λ numbers. stays _ refl refl;
    nudges_grain = λ grain numbers. stays _ refl refl;
    nudges_ranges = stays _ refl refl;
    answers = λ letter request body sender version. stays _ refl refl;
    confirms = λ letter number entry e is there. stays _ refl refl;
    yields = λ letter number entry e is there. stays _ refl refl;
    removes = λ letter number e is there. stays _ refl refl;
    misses = λ letter number e is there. stays _ refl refl;
    learns = λ letter number entry is there. stays _ refl refl;
    notes = λ letter number is there. stays _ refl refl;
    hands = λ letter range number page body is. stays _ refl refl;
    lacks = λ letter range number body is. stays _ refl refl;
    forgoes = λ letter range body there. stays _ refl refl;
    lags = λ letter range. stays _ refl refl;
    passed = λ letter range. stays _ refl refl;
    reports = λ letter range after body seen. stays _ refl refl;
    surveys = λ letter first others body seen. stays _ refl refl;
    gathers = λ letter page gathering taken is. stays _ refl refl;
    installs = λ letter page entries taken is. stays _ refl refl;
    drops = λ letter page gathering taken is. stays _ refl refl;
    turns = λ letter range piece body has awaits. stays _ refl refl;
    continues = λ letter report recovery taken is. stays _ refl refl;
    collects = λ letter report recovery taken is. stays _ refl refl;
    completes = λ letter report table taken is. stays _ refl refl;
    empties =
        λ letter ranges its body plain. let rest = leaves_else letter node ranges in
        stays (fold (told_nothing letter) node ranges) rest.settings (ap (λ (h : Host). h.silo) rest.host);
    takes_over = λ letter entry body seen may. stays _ refl refl;
  }

  pub stays_own : (input : Input) (stepped : Stepped) → step node input ≡ Ok stepped → StaysOwn node stepped.node
  stays_own input stepped is = by_way node Made ways input stepped is

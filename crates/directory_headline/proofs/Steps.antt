-- Every accepted step of a silo moves as it should: by the ways of a step, each of its own file.
use Rattle.silo_address.specs.Silo.{Silo}
use Rattle.directory_protocol.specs.Setting.{Setting}
use Rattle.directory_protocol.specs.World as protocol
use Rattle.directory_rules.specs.declared.effect.Effect.TheVariants as effect
use Rattle.directory_rules.specs.Cache.{in_front, learnt, without_pair}
use Rattle.directory_rules.specs.State.{Missing_letter, Behind_letter, Ahead_letter, Node, World}
use Rattle.directory_rules.specs.Step.{Stepped}
use Rattle.directory_rules.specs.Input.{Input}
use Rattle.directory_facts.proofs.Ways.{Ways}
use Rattle.directory_facts.proofs.EachStep.{by_way}
use Rattle.directory_headline.proofs.Frame.{Here, Brings, Moves}
use Rattle.directory_headline.proofs.Runs.{AllMove}
use Rattle.directory_headline.proofs.NoActions.{nothing, cache_changes, find_ends, answers_so, forgoes}
use Rattle.directory_headline.proofs.Finds.{finds}
use Rattle.directory_headline.proofs.Beginnings.{wakes, takes_over}
use Rattle.directory_headline.proofs.Closes.{closes, cancels, offers}
use Rattle.directory_headline.proofs.Replies.{confirms, yields, removes, misses}
use Rattle.directory_headline.proofs.Queries.{reports, surveys}
use Rattle.directory_headline.proofs.Requests.{answers}
use Rattle.directory_headline.proofs.Pages.{hands, gathers, drops}
use Rattle.directory_headline.proofs.LastPage.{installs}
use Rattle.directory_headline.proofs.MissingSnapshot.{turns}
use Rattle.directory_headline.proofs.Tellings.{continues, collects}
use Rattle.directory_headline.proofs.Stands.{stands}
use Rattle.directory_headline.proofs.Reports.{report_shown}
use Rattle.directory_headline.proofs.LastReport.{completes}
use Rattle.directory_headline.proofs.Empties.{empties}
use Rattle.directory_headline.proofs.Nudges.{nudges, nudges_grain, nudges_ranges}
use Rattle.directory_headline.proofs.SightSteps.{sees}

-- what is to be shown of a way
abbrev pub Shows : Setting → World → protocol.World → Silo → Input → Stepped → Type 0
Shows m f w silo input stepped = Brings m f w silo input → Moves m w silo stepped

ways : (m : Setting) (f : World) (w : protocol.World) (silo : Silo) (node : Node) → Here m f w silo node → Ways node (Shows m f w silo)
ways m f w silo node here = record {
  nothing = λ input effect plain brings. nothing m f w silo node here effect;
  sees = λ before view places newer numbers brings. sees m f w silo node here before view places newer brings;
  wakes = λ grain may brings. wakes m f w silo node here grain may;
  closes = λ grain held may brings. closes m f w silo node here grain held may;
  cancels = λ grain held may brings. cancels m f w silo node here grain held may;
  offers = λ grain held to may active other brings. offers m f w silo node here grain held may to;
  uses_hint =
      λ grain activation hint brings. cache_changes m f w silo node here (in_front node.cache grain activation)
      (effect.Cached (record { grain = grain; activation = activation }));
  finds = λ grain room numbers brings. finds m f w silo node here grain;
  forgets =
      λ grain activation hint brings. cache_changes m f w silo node here (without_pair node.cache grain activation) (effect.Forgot grain);
  nudges = λ numbers brings. nudges m f w silo node here;
  nudges_grain = λ grain numbers brings. nudges_grain m f w silo node here grain;
  nudges_ranges = λ brings. nudges_ranges m f w silo node here;
  answers = λ letter request body sender version brings. answers m f w silo node here letter request body brings;
  confirms = λ letter number entry e is there brings. confirms m f w silo node here letter number entry e is there brings;
  yields = λ letter number entry e is there brings. yields m f w silo node here letter number entry e is there brings;
  removes = λ letter number e is there brings. removes m f w silo node here letter number e is there brings;
  misses = λ letter number e is there brings. misses m f w silo node here letter number e is there brings;
  learns = λ letter number entry is there brings. find_ends m f w silo node here number (learnt node.cache entry) effect.Learnt;
  notes = λ letter number is there brings. find_ends m f w silo node here number node.cache effect.Noted;
  hands = λ letter range number page body is brings. hands m f w silo node here letter range number page is;
  lacks = λ letter range number body is brings. answers_so m f w silo node here letter (Missing_letter range) effect.Missing tt;
  forgoes = λ letter range body there brings. forgoes m f w silo node here letter range;
  lags = λ letter range brings. answers_so m f w silo node here letter (Behind_letter range) effect.Behind tt;
  passed = λ letter range brings. answers_so m f w silo node here letter (Ahead_letter range) effect.Ahead tt;
  reports = λ letter range after body seen brings. reports m f w silo node here letter range after;
  surveys = λ letter first others body seen brings. surveys m f w silo node here letter first others seen;
  gathers = λ letter page gathering taken is brings. gathers m f w silo node here letter page taken brings gathering is;
  installs = λ letter page entries taken is brings. installs m f w silo node here letter page taken brings entries is;
  drops = λ letter page gathering taken is brings. drops m f w silo node here letter page taken brings gathering is;
  turns = λ letter range piece body has awaits brings. turns m f w silo node here letter range piece has awaits;
  continues =
      λ letter report recovery taken is brings. continues m w silo node (stands m f w silo node here) letter report taken
      (report_shown m f w silo node letter report taken brings) recovery is;
  collects =
      λ letter report recovery taken is brings. collects m w silo node (stands m f w silo node here) letter report taken
      (report_shown m f w silo node letter report taken brings) recovery is;
  completes =
      λ letter report table taken is brings. completes m w silo node (stands m f w silo node here) letter report taken
      (report_shown m f w silo node letter report taken brings) table is;
  empties = λ letter ranges its body plain brings. empties m f w silo node here letter ranges its body brings;
  takes_over = λ letter entry body seen may brings. takes_over m f w silo node here letter entry body seen may brings;
}

-- so all steps move
pub all_move : AllMove
all_move m f w silo node here input stepped is brings = by_way node (Shows m f w silo) (ways m f w silo node here) input stepped is brings

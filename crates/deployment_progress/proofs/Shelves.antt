-- While a silo sees no version, snapshots only leave its shelf.
use Rattle.std.proofs.Common.{arith, ◌≡◌, refl, sym, ap, ◌∙◌, subst, ℕ, ◌≤◌, ◌+◌, List, [], ◌∷◌, length, inl, inr}
use Rattle.std.specs.Prelude.{not, All, Some, Ok}
use Rattle.std.proofs.lemmas.List.Elements.{All-nil, All-cons, All-head, All-filter, All-weaker}
use Rattle.std.specs.BTreeMap.{is_at}
use Rattle.silo_address.specs.Silo.{Silo, silo_cmp, silo_eq}
use Rattle.silo_address.proofs.Same.{Decides-silo}
use Rattle.membership_view.specs.View.{ViewValue}
use Rattle.directory_rules.specs.Input.{Input, step}
use Rattle.directory_rules.specs.State.{Node, Snapshot}
use Rattle.directory_rules.specs.Snapshot.{is_snapshot, page_count}
use Rattle.directory_rules.specs.Step.{Stepped}
use Rattle.directory_rules.proofs.Cases.{on_bool}
use Rattle.directory_facts.proofs.Entries.{found_so}
use Rattle.directory_facts.proofs.EachStep.{by_way}
use Rattle.directory_facts.proofs.Emptied.{leaves_else}
use Rattle.directory_facts.proofs.Ways.{Ways}
use Rattle.silo_rules.specs.SiloValue.{SiloValue}
use Rattle.deployment_headline.specs.Deployment.{Deployment, process_of}
use Rattle.deployment_headline.specs.Steps.{Step, IsStep, after, after_all}
use Rattle.deployment_progress.specs.Quiet.{DecidesNone}
use Rattle.deployment_progress.proofs.Rest.{node_at, process_with, IsAtRest}
use Rattle.deployment_progress.proofs.Quiet.{Moves, quiet_moves, view_stays, rests_on}
use Rattle.deployment_progress.proofs.Later.{IsQuiet, quiet_rest}

module _ (P : Snapshot → Type 0) (node : Node) where
  abbrev Keeps : Stepped → Type 0
  Keeps stepped = stepped.node.view ≡ node.view → All P node.shelf → All P stepped.node.shelf

  ways : Ways node (λ input stepped. Keeps stepped)
  ways = record {
    nothing = λ input its plain seen all. all;
    sees =
        λ before view places newer numbers seen all. let version = ap (λ (v : ViewValue). v.version) seen in
        absurd (omega (arith, version, newer));
    wakes = λ grain may seen all. all;
    closes = λ grain held may seen all. all;
    cancels = λ grain held may seen all. all;
    offers = λ grain held to may active other seen all. all;
    uses_hint = λ grain activation hint seen all. all;
    finds = λ grain room numbers seen all. all;
    forgets = λ grain activation hint seen all. all;
    nudges = λ numbers seen all. all;
    nudges_grain = λ grain numbers seen all. all;
    nudges_ranges = λ seen all. all;
    answers = λ letter request body sender version seen all. all;
    confirms = λ letter number entry e is there seen all. all;
    yields = λ letter number entry e is there seen all. all;
    removes = λ letter number e is there seen all. all;
    misses = λ letter number e is there seen all. all;
    learns = λ letter number entry is there seen all. all;
    notes = λ letter number is there seen all. all;
    hands = λ letter range number page body is seen all. all;
    lacks = λ letter range number body is seen all. all;
    forgoes = λ letter range body there seen all. All-filter (λ s. not (is_snapshot letter.version range letter.from s)) P node.shelf all;
    lags = λ letter range seen all. all;
    passed = λ letter range seen all. all;
    reports = λ letter range after body now seen all. all;
    gathers = λ letter page gathering taken is seen all. all;
    installs = λ letter page entries taken is seen all. all;
    drops = λ letter page left taken is seen all. all;
    turns = λ letter range piece body its awaits seen all. all;
    continues = λ letter report recovery taken is seen all. all;
    collects = λ letter report recovery taken is seen all. all;
    completes = λ letter report table taken is seen all. all;
    surveys = λ letter first others body now seen all. all;
    empties = λ letter ranges its body plain seen all. subst (λ (s : List Snapshot). All P s) (sym (leaves_else letter node ranges).shelf) all;
    takes_over = λ letter entry body now may seen all. all;
  }

  pub shelf_kept : (input : Input) (stepped : Stepped) → step node input ≡ Ok stepped → Keeps stepped
  shelf_kept input stepped is = by_way node (λ input stepped. Keeps stepped) ways input stepped is

-- each node's snapshots have no more pages
abbrev pub AreAtMost : (pages : ℕ) → Deployment → Type 0
AreAtMost pages d = (silo : Silo) (node : Node) → node_at d silo ≡ Some node → All (λ x. page_count (length x.entries) ≤ pages) node.shelf

pub step_at_most : (pages : ℕ) (d : Deployment) (r : IsAtRest d) (st : Step) (next : Deployment) → Moves d st next → AreAtMost pages d
    → AreAtMost pages next
step_at_most pages d r st next (inl stays) all silo node there = all silo node (sym (stays.nodes silo) ∙ there)
step_at_most pages d r st next (inr moved) all silo node there =
    on_bool (λ b. silo_eq silo moved.0 ≡ b → All (λ x. page_count (length x.entries) ≤ pages) node.shelf) (silo_eq silo moved.0)
    (λ t is.
    let its : node_at next moved.0 ≡ Some node = ap (λ q. node_at next q) (sym ((Decides-silo silo moved.0).0 is)) ∙ there in
    let put = moved.1.put in
    let same : moved.1.stepped.node ≡ node = cc (its, put) in
    subst (λ (n : Node). All (λ x. page_count (length x.entries) ≤ pages) n.shelf) same
    (shelf_kept (λ (x : Snapshot). page_count (length x.entries) ≤ pages) moved.1.node moved.1.input moved.1.stepped moved.1.is
    (view_stays d r st moved.1.node moved.0 moved.1.input moved.1.stepped moved.1.brought moved.1.is)
    (all moved.0 moved.1.node moved.1.there)))
    (λ f is. all silo node (sym (moved.1.beside silo (λ same. let it = (Decides-silo silo moved.0).1 same in cc (it, is))) ∙ there)) refl

pub still_at_most : (pages : ℕ) (d : Deployment) (r : IsAtRest d) (steps : List Step) → IsQuiet steps → AreAtMost pages d
    → AreAtMost pages (after_all d steps)
unfolding after_all
still_at_most pages d r [] q all = all
still_at_most pages d r (s ∷ steps) q all =
    let none = All-head DecidesNone s steps q.none in
    still_at_most pages (after d s) (rests_on d r s (All-head IsStep s steps q.named) none) steps (quiet_rest s steps q)
    (step_at_most pages d r s (after d s) (quiet_moves d r s none) all)

-- a shelf has no snapshot with more pages than all have together
pub together : List Snapshot → ℕ
together [] = 0
together (x ∷ xs) = page_count (length x.entries) + together xs

pub at_most : (xs : List Snapshot) → All (λ x. page_count (length x.entries) ≤ together xs) xs
unfolding together
at_most [] = All-nil (λ (x : Snapshot). page_count (length x.entries) ≤ 0)
at_most (y ∷ ys) =
    All-cons (λ (x : Snapshot). page_count (length x.entries) ≤ page_count (length y.entries) + together ys) y ys (omega arith)
    (All-weaker (λ (x : Snapshot). page_count (length x.entries) ≤ together ys)
    (λ (x : Snapshot). page_count (length x.entries) ≤ page_count (length y.entries) + together ys) (λ x less. omega (arith, less)) ys
    (at_most ys))

-- so there is a number that none has more pages than
all_together : List (Silo × SiloValue) → ℕ
all_together [] = 0
all_together (e ∷ es) = together e.1.node.shelf + all_together es

abbrev Within : ℕ → (Silo × SiloValue) → Type 0
Within pages e = All (λ x. page_count (length x.entries) ≤ pages) e.1.node.shelf

more_within : (pages more : ℕ) → pages ≤ more → (e : Silo × SiloValue) → Within pages e → Within more e
more_within pages more less e all =
    All-weaker (λ (x : Snapshot). page_count (length x.entries) ≤ pages) (λ (x : Snapshot). page_count (length x.entries) ≤ more)
    (λ x few. omega (arith, few, less)) e.1.node.shelf all

all_within : (es : List (Silo × SiloValue)) → All (Within (all_together es)) es
unfolding all_together
all_within [] = All-nil (Within 0)
all_within (e ∷ es) =
    All-cons (Within (together e.1.node.shelf + all_together es)) e es
    (more_within (together e.1.node.shelf) (together e.1.node.shelf + all_together es) (omega arith) e (at_most e.1.node.shelf))
    (All-weaker (Within (all_together es)) (Within (together e.1.node.shelf + all_together es))
    (more_within (all_together es) (together e.1.node.shelf + all_together es) (omega arith)) es (all_within es))

pub most_pages : (d : Deployment) → (pages : ℕ) × AreAtMost pages d
most_pages d = (
  all_together d.processes,
  λ silo node there.
      let its = process_with (process_of d silo) node there in
      subst (λ (n : Node). All (λ x. page_count (length x.entries) ≤ all_together d.processes) n.shelf) its.2
      (found_so (Within (all_together d.processes)) (is_at (silo_cmp silo)) its.0 d.processes (all_within d.processes) its.1).2,
)

-- The activations that a node holds differ by count: each that begins takes the next count of its silo.
use Rattle.std.proofs.Common.{arith, ◌≡◌, ℕ, ◌+◌, ◌<◌, List, [], ◌∷◌, refl, sym, subst}
use Rattle.std.specs.Prelude.{⊤, Bool, true, false, cond, find, map, All, Option, Some, None}
use Rattle.std.specs.List.{slice_index_or}
use Rattle.std.specs.Map.{set_value, remove_entry}
use Rattle.std.specs.BTreeMap.{is_at}
use Rattle.std.proofs.lemmas.List.Elements.{All-nil, All-head, All-tail, All-weaker, All-push, All-map}
use Rattle.silo_address.specs.Grain.{Grain, grain_cmp}
use Rattle.silo_address.specs.declared.ActivationId.{ActivationId}
use Rattle.silo_address.proofs.Order.{grain_cmp_exact}
use Rattle.directory_rules.specs.declared.held.Held.{Held}
use Rattle.directory_rules.specs.declared.held.Phase.TheVariants.{Firm}
use Rattle.directory_rules.specs.State.{Host, Node}
use Rattle.directory_rules.specs.Host.{held_of, next_held, next_closing, with_started, renewed_phase, held_renewed_about, asking_under}
use Rattle.directory_facts.specs.Own.{HoldsOnce, CountsOnce}
use Rattle.directory_facts.proofs.Entries.{same_key, all_set, all_removed, found_so}
use Rattle.directory_facts.proofs.Carried.{Facts, Keeps}
use Rattle.directory_facts.proofs.Ways.{Ways}
use Rattle.directory_facts.proofs.EachStep.{by_way}
use Rattle.directory_facts.proofs.Emptied.{leaves_else}

-- what holds of each activation's grain and count
abbrev pub Each : (Grain → ℕ → Type 0) → List (Grain × Held) → Type 0
Each P held = All (λ e. P e.0 e.1.count) held

-- no other grain's activation has the count
abbrev Alone : List (Grain × Held) → Grain → ℕ → Type 0
Alone held grain count = Each (λ g c. c ≡ count → g ≡ grain) held

-- counts are below the next one, and each is one grain's
pub record Counted (next : ℕ) (held : List (Grain × Held)) : Type 0 where
  pub below : Each (λ g c. c < next) held
  pub alone : Each (Alone held) held

abbrev CountedNode : Node → Type 0
CountedNode node = Counted node.host.next_count node.host.held

pub counts_once : (host : Host) → HoldsOnce host → Counted host.next_count host.held → CountsOnce host
counts_once host once is = λ i j d lt below same.
    once i j d lt below (is.alone j d below i d (omega (arith, lt, below)) same)

-- ---- activations that were there
-- whatever holds of all that were there holds of all that are
abbrev pub AreOf : List (Grain × Held) → List (Grain × Held) → Type 1
AreOf before now = (P : Grain → ℕ → Type 0) → Each P before → Each P now

still : (next : ℕ) (before now : List (Grain × Held)) → AreOf before now → Counted next before → Counted next now
still next before now are is = record {
  below = are (λ g c. c < next) is.below;
  alone =
      All-weaker (λ (e : Grain × Held). Alone before e.0 e.1.count) (λ (e : Grain × Held). Alone now e.0 e.1.count)
      (λ e alone. are (λ g c. c ≡ e.1.count → g ≡ e.0) alone) now (are (Alone before) is.alone);
}

-- one that is found by a test
find_so : (P : Grain × Held → Type 0) (test : Grain × Held → Bool) (es : List (Grain × Held)) (e : Grain × Held) → All P es
    → find test es ≡ Some e → P e
find_so P test [] e all found = absurd (cc (found))
find_so P test (x ∷ xs) e all found = by (test x) found (λ later. find_so P test xs e (All-tail P x xs all) later)
  where
    by : (b : Bool) → cond b (Some x) (find test xs) ≡ Some e → (find test xs ≡ Some e → P e) → P e
    by true here rest = let same : x ≡ e = cc (here) in subst P same (All-head P x xs all)
    by false there rest = rest there

-- another phase of an activation with that count
set_of : (grain : Grain) (its : Held) (held : List (Grain × Held)) → ((P : Grain → ℕ → Type 0) → Each P held → P grain its.count)
    → AreOf held (set_value (is_at (grain_cmp grain)) held its)
set_of grain its held there = λ P all.
    all_set (λ e. P e.0 e.1.count) (is_at (grain_cmp grain)) its held
    (λ key old at so. subst (λ g. P g its.count) (same_key grain_cmp grain_cmp_exact grain key at) (there P all)) all

-- each change of a host but a beginning
module _ (host : Host) where
  pub closed_are : (grain : Grain) (its : Held) → held_of host grain ≡ Some its
      → AreOf host.held (set_value (is_at (grain_cmp grain)) host.held (next_closing host its))
  closed_are grain its found =
      set_of grain (next_closing host its) host.held (λ P all.
      let there = found_so (λ (e : Grain × Held). P e.0 e.1.count) (is_at (grain_cmp grain)) its host.held all found in
      subst (λ g. P g its.count) (sym (same_key grain_cmp grain_cmp_exact grain there.0 there.1)) there.2)

  pub confirmed_are : (number : ℕ) (e : Grain × Held) → asking_under host number ≡ Some e
      → AreOf host.held (set_value (is_at (grain_cmp e.0)) host.held (record e.1 { phase = Firm; previous = None }))
  confirmed_are number e found =
      set_of e.0 (record e.1 { phase = Firm; previous = None }) host.held
      (λ P all. find_so (λ (x : Grain × Held). P x.0 x.1.count) _ host.held e all found)

  pub less_are : (grain : Grain) → AreOf host.held (remove_entry (is_at (grain_cmp grain)) host.held)
  less_are grain = λ P all. all_removed (λ (e : Grain × Held). P e.0 e.1.count) (is_at (grain_cmp grain)) host.held all

  pub renewed_are : AreOf host.held (map (λ e. (e.0, record e.1 { phase = renewed_phase host e.1.phase })) host.held)
  renewed_are =
      λ P all. All-map (λ (e : Grain × Held). P e.0 e.1.count)
      (λ (e : Grain × Held). (e.0, record e.1 { phase = renewed_phase host e.1.phase })) host.held all

  pub renewed_about_are : (grain : Grain) → AreOf host.held (map (λ e. (e.0, held_renewed_about grain host e.0 e.1)) host.held)
  renewed_about_are grain =
      λ P all. All-map (λ (e : Grain × Held). P e.0 e.1.count) (λ (e : Grain × Held). (e.0, held_renewed_about grain host e.0 e.1))
      host.held all

module _ (node : Node) (is : CountedNode node) where
  abbrev held : List (Grain × Held)
  held = node.host.held

  begun : (grain : Grain) (previous : Option ActivationId)
      → Counted (with_started node.host grain previous).next_count (with_started node.host grain previous).held
  begun grain previous =
      let next = node.host.next_count in
      let new = next_held node.host previous in
      record {
        below =
            All-push (λ (e : Grain × Held). e.1.count < next + 1) held (grain, new)
            (All-weaker (λ (e : Grain × Held). e.1.count < next) (λ (e : Grain × Held). e.1.count < next + 1) (λ e low. omega (arith, low))
            held is.below) (omega arith);
        alone =
            All-push (λ (e : Grain × Held). Alone (with_started node.host grain previous).held e.0 e.1.count) held (grain, new)
            (λ k d below. All-push (λ (x : Grain × Held). x.1.count ≡ (slice_index_or held k d).1.count → x.0 ≡ (slice_index_or held k d).0)
            held (grain, new)
            (is.alone k d below) (λ same. let low = is.below k d below in absurd (omega (arith, low, same))))
            (All-push (λ (x : Grain × Held). x.1.count ≡ next → x.0 ≡ grain) held (grain, new)
            (All-weaker (λ (e : Grain × Held). e.1.count < next) (λ (e : Grain × Held). e.1.count ≡ next → e.0 ≡ grain)
            (λ e low same. absurd (omega (arith, low, same))) held is.below) (λ same. refl));
      }

  of_same : (now : List (Grain × Held)) → AreOf held now → Counted node.host.next_count now
  of_same now are = still node.host.next_count held now are is

  ways : Ways node (λ input stepped. CountedNode stepped.node)
  ways = record {
    nothing = λ input effect plain. is;
    sees = λ before view places newer numbers. of_same _ (renewed_are node.host);
    wakes = λ grain may. begun grain None;
    closes = λ grain its may. of_same _ (closed_are node.host grain its may.found);
    cancels = λ grain its may. of_same _ (closed_are node.host grain its may.found);
    offers = λ grain its to may active other. of_same _ (closed_are node.host grain its may.found);
    uses_hint = λ grain activation hint. is;
    finds = λ grain room numbers. is;
    forgets = λ grain activation hint. is;
    nudges = λ numbers. of_same _ (renewed_are node.host);
    nudges_grain = λ grain numbers. of_same _ (renewed_about_are node.host grain);
    nudges_ranges = is;
    answers = λ letter request body sender version. is;
    confirms = λ letter number entry e of_it there. of_same _ (confirmed_are node.host number e there);
    yields = λ letter number entry e of_it there. of_same _ (less_are node.host e.0);
    removes = λ letter number e of_it there. of_same _ (less_are node.host e.0);
    misses = λ letter number e of_it there. of_same _ (less_are node.host e.0);
    learns = λ letter number entry of_it there. is;
    notes = λ letter number of_it there. is;
    hands = λ letter range number page body so. is;
    lacks = λ letter range number body so. is;
    forgoes = λ letter range body there. is;
    lags = λ letter range. is;
    passed = λ letter range. is;
    reports = λ letter range after body seen. is;
    gathers = λ letter page gathering taken so. is;
    installs = λ letter page entries taken so. is;
    drops = λ letter page gathering taken so. is;
    turns = λ letter range piece body has awaits. is;
    continues = λ letter report recovery taken so. is;
    collects = λ letter report recovery taken so. is;
    completes = λ letter report table taken so. is;
    surveys = λ letter first others body seen. is;
    empties =
        λ letter ranges its body plain. subst (λ (h : Host). Counted h.next_count h.held) (sym (leaves_else letter node ranges).host) is;
    takes_over = λ letter entry body seen may. begun entry.grain (Some entry.activation);
  }

abbrev pub counted_facts : Facts
counted_facts = record {
  asked = λ settings. ⊤;
  named = λ event. ⊤;
  shared = λ settings views places. ⊤;
  node = λ settings views places silo node. CountedNode node;
  letter = λ settings letter. ⊤;
}

pub counted_keep : Keeps counted_facts
counted_keep = record {
  first = λ settings asked. tt;
  joining = λ settings views next places added silo given named shared viewed placed. (
    record { shared = tt; nodes = λ other node is. is },
    record { below = All-nil (λ (e : Grain × Held). e.1.count < 1); alone = All-nil (λ (e : Grain × Held). Alone [] e.0 e.1.count) },
  );
  going = λ settings views next places change goes shared is. record { shared = tt; nodes = λ silo node counted. counted };
  stepping = λ settings views places silo node input stepped before is.
      record {
        node = by_way node (λ its result. CountedNode result.node) (ways node before.node) input stepped is;
        letters = λ k d below.
            tt;
      };
}

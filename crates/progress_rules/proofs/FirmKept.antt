-- No step makes an activation firm but by a reply that registers it: what holds of the grains of all that is firm still does.
use Rattle.std.proofs.Common.{◌≡◌, refl, sym, subst, ℕ, List, [], ◌∷◌, ◌++◌}
use Rattle.std.specs.Prelude.{true, cond, All, map, Option, Some, None, Ok}
use Rattle.std.specs.Map.{set_value}
use Rattle.std.specs.BTreeMap.{is_at}
use Rattle.std.proofs.lemmas.List.Elements.{All-nil, All-cons, All-append, All-map, All-weaker}
use Rattle.silo_address.specs.Grain.{Grain, grain_cmp, grain_eq}
use Rattle.silo_address.specs.declared.ActivationId.{ActivationId}
use Rattle.silo_address.specs.declared.Entry.{Entry}
use Rattle.silo_address.proofs.Order.{grain_cmp_exact}
use Rattle.directory_rules.specs.declared.held.Held.{Held}
use Rattle.directory_rules.specs.declared.held.Phase.{Phase}
use Rattle.directory_rules.specs.declared.held.Phase.TheVariants as phase
use Rattle.directory_rules.specs.declared.reply.Reply.TheVariants as reply
use Rattle.directory_rules.specs.State.{Host, Letter, Node}
use Rattle.directory_rules.specs.Host.{is_firm, asking_under, next_held, next_closing, renewed_phase, phase_renewed_about, held_renewed_about}
use Rattle.directory_rules.specs.Input.{Input, Receives, step}
use Rattle.directory_rules.specs.Step.{Stepped}
use Rattle.directory_rules.proofs.Cases.{on_bool}
use Rattle.directory_facts.proofs.EachStep.{by_way}
use Rattle.directory_facts.proofs.Emptied.{leaves_else}
use Rattle.directory_facts.proofs.Entries.{same_key, all_removed, all_set}
use Rattle.directory_facts.proofs.Ways.{IsReply, Ways}

-- a phase that is firm under a new number was firm
renewed_firm : (host : Host) (its : Phase) → is_firm (renewed_phase host its) ≡ true → is_firm its ≡ true
renewed_firm host (phase.Asking number) is = absurd (cc (is))
renewed_firm host phase.Firm is = refl
renewed_firm host (phase.Closing number) is = absurd (cc (is))

about_firm : (grain : Grain) (host : Host) (its : Phase) → is_firm (phase_renewed_about grain host its) ≡ true → is_firm its ≡ true
about_firm grain host (phase.Asking number) is = absurd (cc (is))
about_firm grain host phase.Firm is = refl
about_firm grain host (phase.Closing number) is = absurd (cc (is))

-- what holds of the grain of each that is firm
abbrev pub FirmSo : (Grain → Type 0) → List (Grain × Held) → Type 0
FirmSo Q held = All (λ e. is_firm e.1.phase ≡ true → Q e.0) held

-- the input is a reply that registers the activation
pub record Registers (node : Node) (input : Input) (grain : Grain) : Type 0 where
  pub letter : Letter
  pub is : input ≡ Receives letter
  pub number : ℕ
  pub entry : Entry
  pub counts : IsReply node letter number (reply.Registered entry)
  pub e : Grain × Held
  pub asks : asking_under node.host number ≡ Some e
  pub about : e.0 ≡ grain

module _ (Q : Grain → Type 0) (node : Node) where
  abbrev Is : (Grain × Held) → Type 0
  Is e = is_firm e.1.phase ≡ true → Q e.0

  abbrev Keeps : Input → Stepped → Type 0
  Keeps input stepped =
      FirmSo Q node.host.held → ((grain : Grain) → Registers node input grain → Q grain) → FirmSo Q stepped.node.host.held

  started : (grain : Grain) (previous : Option ActivationId) → FirmSo Q node.host.held
      → FirmSo Q (node.host.held ++ (grain, next_held node.host previous) ∷ [])
  started grain previous all =
      All-append Is node.host.held ((grain, next_held node.host previous) ∷ []) all
      (All-cons Is (grain, next_held node.host previous) [] (λ firm. absurd (cc (firm))) (All-nil Is))

  closes : (grain : Grain) (held : Held) → FirmSo Q node.host.held
      → FirmSo Q (set_value (is_at (grain_cmp grain)) node.host.held (next_closing node.host held))
  closes grain held all =
      all_set Is (is_at (grain_cmp grain)) (next_closing node.host held) node.host.held (λ key old at was firm. absurd (cc (firm))) all

  renews : FirmSo Q node.host.held
      → FirmSo Q (map (λ e. (e.0, record e.1 { phase = renewed_phase node.host e.1.phase })) node.host.held)
  renews all =
      All-map Is (λ (e : Grain × Held). (e.0, record e.1 { phase = renewed_phase node.host e.1.phase })) node.host.held
      (All-weaker Is (λ (e : Grain × Held). is_firm (renewed_phase node.host e.1.phase) ≡ true → Q e.0)
      (λ e so firm. so (renewed_firm node.host e.1.phase firm)) node.host.held all)

  renews_about : (grain : Grain) → FirmSo Q node.host.held
      → FirmSo Q (map (λ e. (e.0, held_renewed_about grain node.host e.0 e.1)) node.host.held)
  renews_about grain all =
      All-map Is (λ (e : Grain × Held). (e.0, held_renewed_about grain node.host e.0 e.1)) node.host.held
      (All-weaker Is (λ (e : Grain × Held). is_firm (held_renewed_about grain node.host e.0 e.1).phase ≡ true → Q e.0)
      (λ e so. on_bool (λ b. is_firm (cond b (phase_renewed_about grain node.host e.1.phase) e.1.phase) ≡ true → Q e.0) (grain_eq e.0 grain)
      (λ t firm. so (about_firm grain node.host e.1.phase firm)) (λ f firm. so firm)) node.host.held all)

  ways : Ways node Keeps
  ways = record {
    nothing = λ input its plain all new. all;
    sees = λ before view places newer numbers all new. renews all;
    wakes = λ grain may all new. started grain None all;
    closes = λ grain held may all new. closes grain held all;
    cancels = λ grain held may all new. closes grain held all;
    offers = λ grain held to may active other all new. closes grain held all;
    uses_hint = λ grain activation hint all new. all;
    finds = λ grain room numbers all new. all;
    forgets = λ grain activation hint all new. all;
    nudges = λ numbers all new. renews all;
    nudges_grain = λ grain numbers all new. renews_about grain all;
    nudges_ranges = λ all new. all;
    answers = λ letter request body sender version all new. all;
    confirms = λ letter number entry e is there all new.
        all_set Is (is_at (grain_cmp e.0)) (record e.1 { phase = phase.Firm; previous = None }) node.host.held
        (λ key old at was firm. subst Q (same_key grain_cmp grain_cmp_exact e.0 key at)
        (new e.0 (record { letter = letter; is = refl; number = number; entry = entry; counts = is; e = e; asks = there; about = refl }))) all;
    yields = λ letter number entry e is there all new. all_removed Is (is_at (grain_cmp e.0)) node.host.held all;
    removes = λ letter number e is there all new. all_removed Is (is_at (grain_cmp e.0)) node.host.held all;
    misses = λ letter number e is there all new. all_removed Is (is_at (grain_cmp e.0)) node.host.held all;
    learns = λ letter number entry is there all new. all;
    notes = λ letter number is there all new. all;
    hands = λ letter range number page body is all new. all;
    lacks = λ letter range number body is all new. all;
    forgoes = λ letter range body there all new. all;
    lags = λ letter range all new. all;
    passed = λ letter range all new. all;
    reports = λ letter range after body now all new. all;
    gathers = λ letter page gathering taken is all new. all;
    installs = λ letter page entries taken is all new. all;
    drops = λ letter page gathering taken is all new. all;
    turns = λ letter range piece body its awaits all new. all;
    continues = λ letter report recovery taken is all new. all;
    collects = λ letter report recovery taken is all new. all;
    completes = λ letter report table taken is all new. all;
    surveys = λ letter first others body now all new. all;
    empties = λ letter ranges its body plain all new.
        subst (λ (h : Host). FirmSo Q h.held) (sym (leaves_else letter node ranges).host) all;
    takes_over = λ letter entry body now may all new. started entry.grain (Some entry.activation) all;
  }

  pub firm_kept : (input : Input) (stepped : Stepped) → step node input ≡ Ok stepped → Keeps input stepped
  firm_kept input stepped is = by_way node Keeps ways input stepped is

-- What is outstanding asks the same under new numbers, and its acts tell what is asked.
use Rattle.std.proofs.Common.{◌≡◌, refl, sym, ap, ◌∙◌, ℕ, List, [], ◌∷◌, cond, map, Option, Some, None, option_and_then}
use Rattle.std.specs.List.{AllByRecursion, cons_option}
use Rattle.std.specs.Option.{option_map}
use Rattle.std.specs.List.Sorted.{IsStrictlySortedBy}
use Rattle.std.specs.Ordering.{nat_cmp}
use Rattle.std.specs.Map.{lookup, keys_of}
use Rattle.std.specs.BTreeMap.{is_at}
use Rattle.std.proofs.lemmas.Map.Keys.{sorted_tail}
use Rattle.std.proofs.lemmas.Option.{same_Some}
use Rattle.texts.proofs.Orderings.{at_itself}
use Rattle.silo_address.specs.Silo.{Silo}
use Rattle.silo_address.specs.Grain.{Grain, grain_cmp}
use Rattle.directory_rules.specs.declared.Act.{Act}
use Rattle.directory_rules.specs.declared.Held.{Held}
use Rattle.directory_rules.specs.declared.Phase.{Phase}
use Rattle.directory_rules.specs.declared.Phase.TheVariants.{Asking, Firm, Closing}
use Rattle.directory_rules.specs.State.{Host}
use Rattle.directory_rules.specs.Host.{act_in, new_host, outstanding, renewed_phase}
use Rattle.host_activations.specs.declared.asked.OutstandingRequest.{OutstandingRequest}
use Rattle.host_activations.specs.declared.asked.OutstandingRequest.TheVariants.{Activation, Find}
use Rattle.host_activations.specs.Acts.{act_for, acts_in}
use Rattle.host_activations.specs.Asked.{asked_under}
use Rattle.host_activations.specs.IsHost.{AreHeld}
use Rattle.host_activations.specs.Numbers.{number_in}
use Rattle.host_activations.specs.Renewal.{asked_by}
use Rattle.host_activations.proofs.Entries.{lookup-map}
use Rattle.host_activations.proofs.Fields.{meant}
use Rattle.host_activations.proofs.Found.{all_map}
use Rattle.host_activations.proofs.OutstandingActs.{acts_are}
use Rattle.host_activations.proofs.Ranks.{found_behind}

-- each is what is found under its number
pub each_asked : (es : List (ℕ × OutstandingRequest)) → IsStrictlySortedBy nat_cmp (keys_of es)
    → AllByRecursion (λ e. asked_under e.0 es ≡ Some e.1) es
each_asked [] sorted = tt
each_asked (e ∷ es) sorted = (
  ap (λ b. cond b (Some e.1) (asked_under e.0 es)) (at_itself e.0),
  all_map (λ x. asked_under x.0 es ≡ Some x.1) (λ x. asked_under x.0 (e ∷ es) ≡ Some x.1) es
      (λ x found. found_behind e es x.0 x.1 sorted found)
      (each_asked es (sorted_tail nat_cmp e.0 (keys_of es) sorted)),
)

-- ---- An activation under a new number asks the same.
abbrev asks_in : Phase → Silo → Grain → Held → Option Act
asks_in phase silo grain held = option_map (λ e. e.1) (act_in phase (new_host silo) grain held)

same_in : (host : Host) (silo : Silo) (g : Grain) (phase : Phase) (h : Held)
    → asks_in (renewed_phase host phase) silo g (record h { phase = renewed_phase host phase }) ≡ asks_in phase silo g h
same_in host silo g (Asking k) h = refl
same_in host silo g Firm h = refl
same_in host silo g (Closing k) h = refl

pub same_act : (host : Host) (silo : Silo) (held : List (Grain × Held)) (asked : OutstandingRequest)
    → act_for silo (map (λ e. (e.0, record e.1 { phase = renewed_phase host e.1.phase })) held) asked ≡ act_for silo held asked
same_act host silo held (Find g) = refl
same_act host silo held (Activation g) =
    ap (λ o. option_and_then (λ (h : Held). asks_in h.phase silo g h) o)
    (lookup-map (λ (h : Held). record h { phase = renewed_phase host h.phase }) (is_at (grain_cmp g)) held)
    ∙ by (lookup (is_at (grain_cmp g)) held)
  where
    by : (o : Option Held) → option_and_then (λ h. asks_in h.phase silo g h)
        (option_map (λ (h : Held). record h { phase = renewed_phase host h.phase }) o) ≡ option_and_then (λ h. asks_in h.phase silo g h) o
    by None = refl
    by (Some h) = same_in host silo g h.phase h

-- ---- The acts tell what is asked.
of_phase : (phase : Phase) (silo : Silo) (g : Grain) (h : Held) (n : ℕ) → number_in phase ≡ Some n
    → option_map asked_by (asks_in phase silo g h) ≡ Some (Activation g)
of_phase (Asking k) silo g h n has = refl
of_phase Firm silo g h n has = cc
of_phase (Closing k) silo g h n has = refl

of_all : (silo : Silo) (held : List (Grain × Held)) (es : List (ℕ × OutstandingRequest))
    → AllByRecursion (λ e. option_map asked_by (act_for silo held e.1) ≡ Some e.1) es
    → map (λ e. (e.0, asked_by e.1)) (acts_in silo held es) ≡ es
of_all silo held [] all = refl
of_all silo held (e ∷ es) all = by (act_for silo held e.1) all.0 (of_all silo held es all.1)
  where
    tells_is : (act : Act) → Some (asked_by act) ≡ Some e.1 → asked_by act ≡ e.1
    tells_is act tells = same_Some (asked_by act) e.1 tells

    by : (o : Option Act) → option_map asked_by o ≡ Some e.1 → map (λ x. (x.0, asked_by x.1)) (acts_in silo held es) ≡ es
        → map (λ x. (x.0, asked_by x.1)) (cons_option (option_map (λ act. (e.0, act)) o) (acts_in silo held es)) ≡ e ∷ es
    by None none later = cc
    by (Some act) tells later = λ i. (e.0, tells_is act tells i) ∷ later i

pub asked_again : (silo : Silo) (next count : ℕ) (held : List (Grain × Held)) (out : List (ℕ × OutstandingRequest)) → AreHeld next held out
    → map (λ e. (e.0, asked_by e.1)) (outstanding (meant silo next count held out)) ≡ out
asked_again silo next count held out are =
    ap (λ acts. map (λ e. (e.0, asked_by e.1)) acts) (sym (acts_are silo next count held out are))
    ∙ of_all silo held out
    (all_map (λ e. asked_under e.0 out ≡ Some e.1) (λ e. option_map asked_by (act_for silo held e.1) ≡ Some e.1) out
    (λ e found. tells e.0 e.1 found) (each_asked out are.in_order))
  where
    tells : (n : ℕ) (asked : OutstandingRequest) → asked_under n out ≡ Some asked
        → option_map asked_by (act_for silo held asked) ≡ Some asked
    tells n (Find g) is = refl
    tells n (Activation g) is = by (lookup (is_at (grain_cmp g)) held) (are.asked.only g n is)
      where
        by : (o : Option Held) → option_and_then (λ h. number_in h.phase) o ≡ Some n
            → option_map asked_by (option_and_then (λ h. asks_in h.phase silo g h) o) ≡ Some (Activation g)
        by None has = cc
        by (Some h) has = of_phase h.phase silo g h n has

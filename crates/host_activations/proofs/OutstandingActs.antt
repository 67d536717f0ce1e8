-- The rule's outstanding requests are what is outstanding by number, each as its act.
use Rattle.std.proofs.Common.{◌≡◌, refl, sym, ap, subst, ◌∙◌, ℕ, List, [], ◌∷◌, length, cond, Bool, true, false, Option, Some, None, option_and_then, is_some}
use Rattle.std.specs.List.{AllByRecursion, filter_map, cons_option, list_any}
use Rattle.std.specs.Option.{option_map}
use Rattle.std.specs.List.Sorted.{IsStrictlySortedBy}
use Rattle.std.specs.Map.{lookup, keys_of}
use Rattle.std.specs.BTreeMap.{is_at}
use Rattle.std.specs.Ordering.{nat_cmp}
use Rattle.std.proofs.lemmas.Cmp.{nat_cmp_total}
use Rattle.std.proofs.lemmas.Option.{same_Some}
use Rattle.std.proofs.lemmas.Map.Lookups.{exact_unsigned}
use Rattle.std.proofs.lemmas.Map.Entries.{length-keys_of}
use Rattle.std.proofs.lemmas.Map.Made.{is_some-lookup}
use Rattle.texts.proofs.Orderings.{at_itself}
use Rattle.silo_address.specs.Silo.{Silo}
use Rattle.silo_address.specs.Grain.{Grain, grain_cmp}
use Rattle.texts.proofs.Entries.{lookup-picked, sorted-picked}
use Rattle.membership_view.proofs.Found.{same_entries, all_from_found}
use Rattle.directory_rules.specs.declared.Act.{Act}
use Rattle.directory_rules.specs.declared.Act.TheVariants as act
use Rattle.directory_rules.specs.declared.Held.{Held}
use Rattle.directory_rules.specs.declared.Phase.{Phase}
use Rattle.directory_rules.specs.declared.Phase.TheVariants.{Asking, Firm, Closing}
use Rattle.directory_rules.specs.State.{Host}
use Rattle.directory_rules.specs.Host.{act_in, find_acts, held_acts, new_host, outstanding}
use Rattle.host_activations.proofs.Grains.{on_grain}
use Rattle.host_activations.specs.declared.asked.OutstandingRequest.{OutstandingRequest}
use Rattle.host_activations.specs.declared.asked.OutstandingRequest.TheVariants.{Activation, Find}
use Rattle.host_activations.specs.Numbers.{number_in}
use Rattle.host_activations.specs.Asked.{asked_under, find_in, finds_in}
use Rattle.directory_rules.specs.Host.{entry_on}
use Rattle.host_activations.specs.Acts.{act_for, acts_in}
use Rattle.host_activations.specs.IsHost.{AreHeld}
use Rattle.host_activations.proofs.Numbers.{on_number}
use Rattle.host_activations.proofs.Agreement.{same_activation, no_find, nothing}
use Rattle.host_activations.proofs.Entries.{keys-map, lookup-map}
use Rattle.host_activations.proofs.Found.{IsFoundIn, all_map, each_found}
use Rattle.host_activations.proofs.Finds.{find_under, finds_sorted}
use Rattle.host_activations.proofs.Fields.{meant}
use Rattle.host_activations.proofs.PutAll.{at, put_none, put_some, sorted_put_all, all_given, keys-picked}

-- what an activation asks in the phase
abbrev act_in_phase : Phase → Silo → Grain → Held → Option Act
act_in_phase phase silo grain held = option_map (λ e. e.1) (act_in phase (new_host silo) grain held)

-- an act that an activation has stands under the number of its phase
numbered : (phase : Phase) (host : Host) (grain : Grain) (held : Held) (x : ℕ × Act) → act_in phase host grain held ≡ Some x
    → number_in phase ≡ Some x.0
numbered (Asking number) host grain held x is = ap (λ o. option_map (λ (y : ℕ × Act). y.0) o) is
numbered Firm host grain held x is = cc
numbered (Closing number) host grain held x is = ap (λ o. option_map (λ (y : ℕ × Act). y.0) o) is

-- and a phase that has a number has an act
record HasAct (phase : Phase) (n : ℕ) (host : Host) (grain : Grain) (held : Held) : Type 0 where
  act : Act
  stands : act_in phase host grain held ≡ Some (n, act)
  asks : act_in_phase phase host.silo grain held ≡ Some act

has_act : (phase : Phase) (n : ℕ) (host : Host) (grain : Grain) (held : Held) → number_in phase ≡ Some n → HasAct phase n host grain held
has_act (Asking number) n host grain held is =
    let what : Act = act.Register (entry_on host.silo grain held) held.previous in
    record { act = what; stands = ap (λ (k : ℕ). Some (k, what)) (same_Some number n is); asks = refl }
has_act Firm n host grain held is = cc
has_act (Closing number) n host grain held is =
    let what : Act = act.Deregister (entry_on host.silo grain held) in
    record { act = what; stands = ap (λ (k : ℕ). Some (k, what)) (same_Some number n is); asks = refl }

-- the one activation that has an act under the number
one_act : (f : Grain × Held → Option (ℕ × Act)) (n : ℕ) (a : Act) (g : Grain) (h : Held) (es : List (Grain × Held))
    → AllByRecursion (λ e. is_at (nat_cmp n) e.0 ≡ true → e.1 ≡ a) (filter_map f es)
    → lookup (is_at (grain_cmp g)) es ≡ Some h → f (g, h) ≡ Some (n, a) → at n (filter_map f es) ≡ Some a
one_act f n a g h [] only there is = cc
one_act f n a g h (e ∷ es) only there is =
    on_grain (λ b. cond b (Some e.1) (lookup (is_at (grain_cmp g)) es) ≡ Some h → at n (cons_option (f e) (filter_map f es)) ≡ Some a) g e.0
    (λ same it. let here : e ≡ (g, h) = (λ i. (sym same i, same_Some e.1 h it i)) in
    ap (λ o. at n (cons_option o (filter_map f es))) (ap f here ∙ is) ∙ ap (λ b. cond b (Some a) (at n (filter_map f es))) (at_itself n))
    (λ other it. by (f e) only (λ rest. one_act f n a g h es rest it is)) there
  where
    by : (o : Option (ℕ × Act)) → AllByRecursion (λ e. is_at (nat_cmp n) e.0 ≡ true → e.1 ≡ a) (cons_option o (filter_map f es))
        → (AllByRecursion (λ e. is_at (nat_cmp n) e.0 ≡ true → e.1 ≡ a) (filter_map f es) → at n (filter_map f es) ≡ Some a)
        → at n (cons_option o (filter_map f es)) ≡ Some a
    by None only later = later only
    by (Some x) only later = head (is_at (nat_cmp n) x.0) only.0
      where
        head : (b : Bool) → (b ≡ true → x.1 ≡ a) → cond b (Some x.1) (at n (filter_map f es)) ≡ Some a
        head true same = ap (λ (y : Act). Some y) (same refl)
        head false same = later only.1

module _ (silo : Silo) (next count : ℕ) (held : List (Grain × Held)) (out : List (ℕ × OutstandingRequest))
    (are : AreHeld next held out) where
  abbrev host : Host
  host = meant silo next count held out

  stands : (e : Grain × Held) → IsFoundIn held e → (x : ℕ × Act) → act_in e.1.phase host e.0 e.1 ≡ Some x
      → asked_under x.0 out ≡ Some (Activation e.0)
  stands e found x is =
      are.asked.there e.0 x.0 (ap (λ o. option_and_then (λ (h : Held). number_in h.phase) o) found ∙ numbered e.1.phase host e.0 e.1 x is)

  -- no activation has the number: the finds have it, if anything does
  of_finds : (n : ℕ) → ((g : Grain) → asked_under n out ≡ Some (Activation g) → ⊥)
      → at n (outstanding host) ≡ option_map (λ g. act.Find g) (option_and_then find_in (asked_under n out))
  of_finds n never =
      put_none n (find_acts host) (held_acts host)
      (all_given (λ x. is_at (nat_cmp n) x.0 ≡ false) (λ e. act_in e.1.phase host e.0 e.1) held
      (all_map (IsFoundIn held) (λ e. (x : ℕ × Act) → act_in e.1.phase host e.0 e.1 ≡ Some x → is_at (nat_cmp n) x.0 ≡ false) held
      (λ e found x is. on_number (λ b. b ≡ false) n x.0
      (λ same. absurd (never e.0 (ap (λ (k : ℕ). asked_under k out) same ∙ stands e found x is))) (λ other. refl))
      (each_found held are.apart)))
      ∙ lookup-map (λ (g : Grain). act.Find g) (is_at (nat_cmp n)) (finds_in out)
      ∙ ap (λ o. option_map (λ g. act.Find g) o) (find_under out are.in_order n)

  of_activation : (n : ℕ) (g : Grain) → asked_under n out ≡ Some (Activation g) → (o : Option Held) → lookup (is_at (grain_cmp g)) held ≡ o
      → at n (outstanding host) ≡ option_and_then (λ h. act_in_phase h.phase silo g h) o
  of_activation n g is None none =
      nothing n (sym (ap (λ o. option_and_then (λ (x : Held). number_in x.phase) o) none) ∙ are.asked.only g n is)
  of_activation n g is (Some h) there =
      by (has_act h.phase n host g h (sym (ap (λ o. option_and_then (λ (x : Held). number_in x.phase) o) there) ∙ are.asked.only g n is))
    where
      by : HasAct h.phase n host g h → at n (outstanding host) ≡ act_in_phase h.phase silo g h
      by has =
          put_some n has.act (find_acts host) (held_acts host) only
          (one_act (λ e. act_in e.1.phase host e.0 e.1) n has.act g h held only there has.stands)
          ∙ sym has.asks
        where
          same_one : (e : Grain × Held) → IsFoundIn held e → asked_under n out ≡ Some (Activation e.0) → e ≡ (g, h)
          same_one e found at_n =
              let grain : e.0 ≡ g = same_activation e.0 g (sym at_n ∙ is) in
              let what : e.1 ≡ h = same_Some e.1 h (sym found ∙ ap (λ (x : Grain). lookup (is_at (grain_cmp x)) held) grain ∙ there) in
              λ i. (grain i, what i)

          of_one : (e : Grain × Held) → e ≡ (g, h) → (x : ℕ × Act) → act_in e.1.phase host e.0 e.1 ≡ Some x → x.1 ≡ has.act
          of_one e same x made =
              sym (ap (λ (y : ℕ × Act). y.1) (same_Some (n, has.act) x
              (sym has.stands ∙ sym (ap (λ (y : Grain × Held). act_in y.1.phase host y.0 y.1) same) ∙ made)))

          only : AllByRecursion (λ x. is_at (nat_cmp n) x.0 ≡ true → x.1 ≡ has.act) (held_acts host)
          only =
              all_given (λ x. is_at (nat_cmp n) x.0 ≡ true → x.1 ≡ has.act) (λ e. act_in e.1.phase host e.0 e.1) held
              (all_map (IsFoundIn held) (λ e. (x : ℕ × Act) → act_in e.1.phase host e.0 e.1 ≡ Some x → is_at (nat_cmp n) x.0 ≡ true
              → x.1 ≡ has.act) held
              (λ e found x made. on_number (λ b. b ≡ true → x.1 ≡ has.act) n x.0
              (λ same _. of_one e (same_one e found (ap (λ (k : ℕ). asked_under k out) same ∙ stands e found x made)) x made)
              (λ other h. cc))
              (each_found held are.apart))

  -- what the number has outstanding
  act_under : (n : ℕ) → at n (outstanding host) ≡ option_and_then (λ asked. act_for silo held asked) (asked_under n out)
  act_under n = by (asked_under n out) refl
    where
      by : (o : Option OutstandingRequest) → asked_under n out ≡ o
          → at n (outstanding host) ≡ option_and_then (λ asked. act_for silo held asked) o
      by None is =
          of_finds n (λ g h. nothing (Activation g) (sym is ∙ h)) ∙ ap (λ o. option_map (λ g. act.Find g) (option_and_then find_in o)) is
      by (Some (Activation g)) is = of_activation n g is (lookup (is_at (grain_cmp g)) held) refl
      by (Some (Find g)) is =
          of_finds n (λ q h. no_find g q (sym is ∙ h)) ∙ ap (λ o. option_map (λ g. act.Find g) (option_and_then find_in o)) is

  pub acts_are : acts_in silo held out ≡ outstanding host
  acts_are =
      same_entries nat_cmp_total exact_unsigned (acts_in silo held out) (outstanding host)
      (sorted-picked nat_cmp_total (λ asked. act_for silo held asked) out are.in_order)
      (sorted_put_all (find_acts host) (held_acts host)
      (subst (λ ks. IsStrictlySortedBy nat_cmp ks) (sym (keys-map (λ (g : Grain). act.Find g) (finds_in out)))
      (finds_sorted out are.in_order)))
      (λ n. lookup-picked nat_cmp_total (λ asked. act_for silo held asked) n out are.in_order ∙ sym (act_under n))

  -- each has an act
  pub some_act : (n : ℕ) (asked : OutstandingRequest) → asked_under n out ≡ Some asked → is_some (act_for silo held asked) ≡ true
  some_act n (Find g) is = refl
  some_act n (Activation g) is = by (lookup (is_at (grain_cmp g)) held) (are.asked.only g n is)
    where
      of_phase : (phase : Phase) (h : Held) → number_in phase ≡ Some n → is_some (act_in_phase phase silo g h) ≡ true
      of_phase (Asking k) h has = refl
      of_phase Firm h has = cc
      of_phase (Closing k) h has = refl

      by : (o : Option Held) → option_and_then (λ h. number_in h.phase) o ≡ Some n
          → is_some (option_and_then (λ h. act_in_phase h.phase silo g h) o) ≡ true
      by None has = cc
      by (Some h) has = of_phase h.phase h has

  pub keys_are : keys_of (outstanding host) ≡ keys_of out
  keys_are =
      ap keys_of (sym acts_are)
      ∙ keys-picked (λ asked. act_for silo held asked) out
      (all_from_found nat_cmp_total (λ n asked. is_some (act_for silo held asked)) out are.in_order
      (λ n asked there. some_act n asked there))

  pub as_many : length (outstanding host) ≡ length out
  as_many = sym (length-keys_of (outstanding host)) ∙ ap (λ (ks : List ℕ). length ks) keys_are ∙ length-keys_of out

  pub outstanding_is : (n : ℕ) → is_some (asked_under n out) ≡ is_some (at n (outstanding host))
  outstanding_is n =
      is_some-lookup (is_at (nat_cmp n)) out ∙ ap (λ ks. list_any (is_at (nat_cmp n)) ks) (sym keys_are)
      ∙ sym (is_some-lookup (is_at (nat_cmp n)) (outstanding host))

-- After a renewal about one grain the new fields keep what every host keeps, and mean the rule's host.
use Rattle.std.proofs.Common.{arith, ◌≡◌, refl, sym, ap, subst, ◌∙◌, ℕ, List, [], ◌∷◌, ◌++◌, ◌+◌, ◌^◌, ◌≤◌, cond, Bool, true, false, not, filter, length, map, Option, Some, None, is_some, option_and_then}
use Rattle.std.specs.Prelude.{count_by, nat_lt}
use Rattle.std.specs.List.{AllByRecursion, IsDistinct, cons_option, enumerate_from, filter_map}
use Rattle.std.specs.List.Sorted.{IsStrictlySortedBy}
use Rattle.std.specs.Option.{option_map}
use Rattle.std.specs.Ordering.{nat_cmp}
use Rattle.std.specs.Map.{lookup, keys_of, values_of}
use Rattle.std.specs.BTreeMap.{is_at}
use Rattle.std.proofs.lemmas.Cmp.{nat_cmp_total}
use Rattle.std.proofs.lemmas.List.Elements.{filter_map-append}
use Rattle.std.proofs.lemmas.Map.Entries.{length-keys_of}
use Rattle.std.proofs.lemmas.Option.{same_Some}
use Rattle.membership_view.proofs.Found.{all_from_found}
use Rattle.silo_address.specs.Silo.{Silo}
use Rattle.silo_address.specs.Grain.{Grain, grain_cmp, grain_eq}
use Rattle.silo_address.proofs.Same.{Decides-grain}
use Rattle.directory_rules.specs.declared.Act.{Act}
use Rattle.directory_rules.specs.declared.Act.TheVariants as act
use Rattle.directory_rules.specs.declared.Held.{Held}
use Rattle.directory_rules.specs.declared.Phase.{Phase}
use Rattle.directory_rules.specs.declared.Phase.TheVariants.{Asking, Firm, Closing}
use Rattle.directory_rules.specs.State.{Host}
use Rattle.directory_rules.specs.Host.{act_in, grain_of, held_renewed_about, new_host, new_number_about, outstanding, phase_renewed_about, renewed_about, requests_about}
use Rattle.host_activations.specs.declared.asked.OutstandingRequest.{OutstandingRequest}
use Rattle.host_activations.specs.declared.asked.OutstandingRequest.TheVariants.{Activation, Find}
use Rattle.host_activations.specs.declared.host.Host.TheInside.{Inside}
use Rattle.host_activations.specs.Acts.{act_for, acts_in}
use Rattle.host_activations.specs.Asked.{AreAsked, asked_under, find_in, finds_in}
use Rattle.host_activations.specs.HostModel.{IsWhole, host_of}
use Rattle.host_activations.specs.IsHost.{AreHeld, IsHost}
use Rattle.host_activations.specs.Numbers.{number_in, number_of, phase_under}
use Rattle.host_activations.specs.Outstanding.{about_grain, about_others, grain_asked}
use Rattle.host_activations.specs.Renewal.{is_request_of, with_numbers}
use Rattle.host_activations.proofs.AboutGrain.{is_about}
use Rattle.host_activations.proofs.MovedAbout as moved
use Rattle.host_activations.proofs.MovedAbout.{all_passed}
use Rattle.host_activations.proofs.Agreement.{nothing}
use Rattle.host_activations.proofs.AskedAgain.{each_asked}
use Rattle.host_activations.proofs.Fields.{made, meant}
use Rattle.host_activations.proofs.Found.{IsFoundIn, all_map, each_found}
use Rattle.host_activations.proofs.Grains.{either, on_grain, on_test}
use Rattle.host_activations.proofs.NewNumbers.{after, after_asking, after_resting, each_after, untouched}
use Rattle.host_activations.proofs.OutstandingActs.{acts_are, some_act}
use Rattle.host_activations.proofs.PutAll.{keys-picked}
use Rattle.host_activations.proofs.Ranks.{Ranks, below, finds-enumerate_from, rank_back, rank_found, ranks_from}
use Rattle.host_activations.proofs.Renewals.{all_high, below_keys, map_same, of_grain}

-- ---- Acts about a grain.
tells_grain : (act : Act) (g : Grain) (made : Act) → Some made ≡ Some act → grain_of made ≡ g → grain_of act ≡ g
tells_grain act g made is its = ap grain_of (sym (same_Some made act is)) ∙ its

act_about : (silo : Silo) (held : List (Grain × Held)) (asked : OutstandingRequest) (a : Act) → act_for silo held asked ≡ Some a
    → grain_of a ≡ grain_asked asked
act_about silo held (Find q) a is = tells_grain a q (act.Find q) is refl
act_about silo held (Activation q) a is = by (lookup (is_at (grain_cmp q)) held) is
  where
    of_phase : (phase : Phase) (h : Held) → option_map (λ e. e.1) (act_in phase (new_host silo) q h) ≡ Some a → grain_of a ≡ q
    of_phase (Asking k) h it = tells_grain a q _ it refl
    of_phase Firm h it = cc
    of_phase (Closing k) h it = tells_grain a q _ it refl

    by : (o : Option Held) → option_and_then (λ h. option_map (λ e. e.1) (act_in h.phase (new_host silo) q h)) o ≡ Some a → grain_of a ≡ q
    by None it = cc
    by (Some h) it = of_phase h.phase h it

module _ (g : Grain) (silo : Silo) (held : List (Grain × Held)) where
  abbrev passed : List (ℕ × Act) → List (ℕ × Act)
  passed acts = filter (λ e. grain_eq (grain_of e.1) g) acts

  pub acts_passed : (es : List (ℕ × OutstandingRequest))
      → filter (λ e. grain_eq (grain_of e.1) g) (acts_in silo held es) ≡ acts_in silo held (about_grain g es)
  acts_passed [] = refl
  acts_passed (e ∷ es) = by (act_for silo held e.1) refl (acts_passed es)
    where
      by : (o : Option Act) → act_for silo held e.1 ≡ o → passed (acts_in silo held es) ≡ acts_in silo held (about_grain g es)
          → passed (cons_option (option_map (λ a. (e.0, a)) o) (acts_in silo held es)) ≡ acts_in silo held
          (cond (is_about g e.1) (e ∷ about_grain g es) (about_grain g es))
      by None is later = kept (is_about g e.1)
        where
          kept : (b : Bool) → passed (acts_in silo held es) ≡ acts_in silo held (cond b (e ∷ about_grain g es) (about_grain g es))
          kept true = later ∙ sym (ap (λ o. cons_option (option_map (λ a. (e.0, a)) o) (acts_in silo held (about_grain g es))) is)
          kept false = later
      by (Some a) is later =
          ap (λ q. cond (grain_eq q g) ((e.0, a) ∷ passed (acts_in silo held es)) (passed (acts_in silo held es)))
          (act_about silo held e.1 a is) ∙ kept (is_about g e.1)
        where
          kept : (b : Bool) → cond b ((e.0, a) ∷ passed (acts_in silo held es)) (passed (acts_in silo held es)) ≡ acts_in silo held
              (cond b (e ∷ about_grain g es) (about_grain g es))
          kept true =
              ap (λ l. (e.0, a) ∷ l) later ∙ sym (ap (λ o. cons_option (option_map (λ x. (e.0, x)) o)
              (acts_in silo held (about_grain g es))) is)
          kept false = later

-- the activations, each changed by its grain
module _ (f : Grain → Held → Held) where
  abbrev by_grain : List (Grain × Held) → List (Grain × Held)
  by_grain es = map (λ e. (e.0, f e.0 e.1)) es

  lookup_by_grain : (q : Grain) (es : List (Grain × Held))
      → lookup (is_at (grain_cmp q)) (by_grain es) ≡ option_map (f q) (lookup (is_at (grain_cmp q)) es)
  lookup_by_grain q [] = refl
  lookup_by_grain q (e ∷ es) =
      on_grain (λ b. cond b (Some (f e.0 e.1)) (lookup (is_at (grain_cmp q)) (by_grain es)) ≡ option_map (f q)
      (cond b (Some e.1) (lookup (is_at (grain_cmp q)) es))) q e.0
      (λ same. ap (λ (x : Grain). Some (f x e.1)) (sym same)) (λ other. lookup_by_grain q es)

  keys_by_grain : (es : List (Grain × Held)) → keys_of (by_grain es) ≡ keys_of es
  keys_by_grain [] = refl
  keys_by_grain (e ∷ es) = ap (λ l. e.0 ∷ l) (keys_by_grain es)

-- ---- Phases.
number_about : (g : Grain) (host : Host) (phase : Phase)
    → number_in (phase_renewed_about g host phase) ≡ option_map (new_number_about g host) (number_in phase)
number_about g host (Asking k) = refl
number_about g host Firm = refl
number_about g host (Closing k) = refl

rests_about : (g : Grain) (host : Host) (phase : Phase) → number_in phase ≡ None → phase ≡ phase_renewed_about g host phase
rests_about g host (Asking k) none = cc
rests_about g host Firm none = refl
rests_about g host (Closing k) none = cc

asks_about : (g : Grain) (host : Host) (phase : Phase) (k : ℕ) → number_in phase ≡ Some k
    → phase_under (new_number_about g host k) phase ≡ phase_renewed_about g host phase
asks_about g host (Asking j) k is = ap (λ (n : ℕ). Asking (new_number_about g host n)) (sym (same_Some j k is))
asks_about g host Firm k is = cc
asks_about g host (Closing j) k is = ap (λ (n : ℕ). Closing (new_number_about g host n)) (sym (same_Some j k is))

abbrev asks_in : Phase → Silo → Grain → Held → Option Act
asks_in phase silo grain held = option_map (λ e. e.1) (act_in phase (new_host silo) grain held)

same_in : (g : Grain) (host : Host) (silo : Silo) (q : Grain) (phase : Phase) (h : Held)
    → asks_in (phase_renewed_about g host phase) silo q (record h { phase = phase_renewed_about g host phase }) ≡ asks_in phase silo q h
same_in g host silo q (Asking k) h = refl
same_in g host silo q Firm h = refl
same_in g host silo q (Closing k) h = refl

same_held : (g : Grain) (host : Host) (silo : Silo) (q : Grain) (h : Held)
    → asks_in (held_renewed_about g host q h).phase silo q (held_renewed_about g host q h) ≡ asks_in h.phase silo q h
same_held g host silo q h = by (grain_eq q g)
  where
    by : (b : Bool) → asks_in (cond b (phase_renewed_about g host h.phase) h.phase) silo q
        (record h { phase = cond b (phase_renewed_about g host h.phase) h.phase }) ≡ asks_in h.phase silo q h
    by true = same_in g host silo q h.phase h
    by false = refl

same_act : (g : Grain) (host : Host) (silo : Silo) (held : List (Grain × Held)) (asked : OutstandingRequest)
    → act_for silo (map (λ e. (e.0, held_renewed_about g host e.0 e.1)) held) asked ≡ act_for silo held asked
same_act g host silo held (Find q) = refl
same_act g host silo held (Activation q) =
    ap (λ o. option_and_then (λ (h : Held). asks_in h.phase silo q h) o) (lookup_by_grain (held_renewed_about g host) q held)
    ∙ by (lookup (is_at (grain_cmp q)) held)
  where
    by : (o : Option Held) → option_and_then (λ h. asks_in h.phase silo q h) (option_map (held_renewed_about g host q) o) ≡ option_and_then
        (λ h. asks_in h.phase silo q h) o
    by None = refl
    by (Some h) = same_held g host silo q h

-- ---- Finds.
finds_passed : (p : Grain → Bool) (es : List (ℕ × OutstandingRequest))
    → finds_in (filter (λ e. p (grain_asked e.1)) es) ≡ filter (λ e. p e.1) (finds_in es)
finds_passed p [] = refl
finds_passed p (e ∷ es) = by e.1 refl (finds_passed p es)
  where
    by : (asked : OutstandingRequest) → e.1 ≡ asked → finds_in (filter (λ x. p (grain_asked x.1)) es) ≡ filter (λ x. p x.1) (finds_in es)
        → finds_in (cond (p (grain_asked e.1)) (e ∷ filter (λ x. p (grain_asked x.1)) es) (filter (λ x. p (grain_asked x.1)) es))
        ≡ filter (λ x. p x.1) (cons_option (option_map (λ q. (e.0, q)) (find_in e.1)) (finds_in es))
    by (Activation q) is later =
        none (p (grain_asked e.1)) ∙ sym (ap (λ a. filter (λ x. p x.1) (cons_option (option_map (λ q. (e.0, q)) (find_in a)) (finds_in es)))
        is)
      where
        none : (b : Bool) → finds_in (cond b (e ∷ filter (λ x. p (grain_asked x.1)) es) (filter (λ x. p (grain_asked x.1)) es)) ≡ filter
            (λ x. p x.1) (finds_in es)
        none true =
            ap (λ a. cons_option (option_map (λ q. (e.0, q)) (find_in a)) (finds_in (filter (λ x. p (grain_asked x.1)) es))) is ∙ later
        none false = later
    by (Find q) is later =
        ap (λ a. finds_in (cond (p (grain_asked a)) ((e.0, a) ∷ filter (λ x. p (grain_asked x.1)) es)
        (filter (λ x. p (grain_asked x.1)) es))) is
        ∙ one (p q)
        ∙ sym (ap (λ a. filter (λ x. p x.1) (cons_option (option_map (λ y. (e.0, y)) (find_in a)) (finds_in es))) is)
      where
        one : (b : Bool) → finds_in (cond b ((e.0, Find q) ∷ filter (λ x. p (grain_asked x.1)) es) (filter (λ x. p (grain_asked x.1)) es))
            ≡ cond b ((e.0, q) ∷ filter (λ x. p x.1) (finds_in es)) (filter (λ x. p x.1) (finds_in es))
        one true = ap (λ l. (e.0, q) ∷ l) later
        one false = later

-- ---- A host whose requests about one grain have their new numbers.
module _ (h : Inside) (is : IsWhole h) (g : Grain) where
  abbrev out : List (ℕ × OutstandingRequest)
  out = h.outstanding.entries

  -- those about the grain, the others, and all under their numbers then
  abbrev pub mine : List (ℕ × OutstandingRequest)
  mine = about_grain g out

  abbrev pub others : List (ℕ × OutstandingRequest)
  others = about_others g out

  abbrev pub numbered : List (ℕ × OutstandingRequest)
  numbered = enumerate_from h.next_number (values_of mine)

  abbrev pub now : List (ℕ × OutstandingRequest)
  now = others ++ numbered

  abbrev new : ℕ → ℕ
  new = new_number_about g (host_of h)

  abbrev pub held_now : List (Grain × Held)
  held_now = map (λ e. (e.0, held_renewed_about g (host_of h) e.0 e.1)) h.held.entries

  mine_sorted : IsStrictlySortedBy nat_cmp (keys_of mine)
  mine_sorted = moved.mine_sorted out is.are_held.in_order g h.next_number is.are_held.below

  of_mine : (n : ℕ) (asked : OutstandingRequest) → asked_under n mine ≡ Some asked
      → (asked_under n out ≡ Some asked) × (is_about g asked ≡ true)
  of_mine = moved.of_mine out is.are_held.in_order g h.next_number is.are_held.below

  of_others : (n : ℕ) (asked : OutstandingRequest) → asked_under n others ≡ Some asked
      → (asked_under n out ≡ Some asked) × (is_about g asked ≡ false)
  of_others = moved.of_others out is.are_held.in_order g h.next_number is.are_held.below

  in_mine : (n : ℕ) (asked : OutstandingRequest) → asked_under n out ≡ Some asked → is_about g asked ≡ true
      → asked_under n mine ≡ Some asked
  in_mine = moved.in_mine out is.are_held.in_order g h.next_number is.are_held.below

  in_others : (n : ℕ) (asked : OutstandingRequest) → asked_under n out ≡ Some asked → is_about g asked ≡ false
      → asked_under n others ≡ Some asked
  in_others = moved.in_others out is.are_held.in_order g h.next_number is.are_held.below

  found_now : (n : ℕ) → asked_under n now ≡ either (asked_under n others) (asked_under n numbered)
  found_now = moved.found_now out is.are_held.in_order g h.next_number is.are_held.below

  no_other : (n : ℕ) → h.next_number ≤ n → asked_under n others ≡ None
  no_other = moved.no_other out is.are_held.in_order g h.next_number is.are_held.below

  -- ---- Their acts.
  acts_about : requests_about g (host_of h) ≡ acts_in h.silo h.held.entries mine
  acts_about =
      ap (λ l. filter (λ e. grain_eq (grain_of e.1) g) l)
      (sym (acts_are h.silo h.next_number h.held.next_count h.held.entries out is.are_held))
      ∙ acts_passed g h.silo h.held.entries out

  keys_about : keys_of (requests_about g (host_of h)) ≡ keys_of mine
  keys_about =
      ap keys_of acts_about
      ∙ keys-picked (λ asked. act_for h.silo h.held.entries asked) mine
      (all_from_found nat_cmp_total (λ n asked. is_some (act_for h.silo h.held.entries asked)) mine mine_sorted
      (λ n asked there. some_act h.silo h.next_number h.held.next_count h.held.entries out is.are_held n asked (of_mine n asked there).0))

  pub many : length (requests_about g (host_of h)) ≡ length mine
  many = sym (length-keys_of (requests_about g (host_of h))) ∙ ap (λ (ks : List ℕ). length ks) keys_about ∙ length-keys_of mine

  counts : (k : ℕ) → new k ≡ h.next_number + below k mine
  counts k =
      ap (λ (n : ℕ). h.next_number + n)
      (below_keys k (requests_about g (host_of h)) ∙ ap (λ ks. count_by (λ j. nat_lt j k) ks) keys_about ∙ sym (below_keys k mine))

  ranks : Ranks new h.next_number mine
  ranks = ranks_from new 0 h.next_number mine mine_sorted (all_high (keys_of mine)) (λ k high. counts k)

  -- ---- The activations.
  only_under : (q : Grain) (k : ℕ) → number_of q h.held.entries ≡ Some k → AllByRecursion (λ e. is_request_of q e.1 ≡ true → e.0 ≡ k) mine
  only_under q k has =
      all_map (λ e. asked_under e.0 mine ≡ Some e.1) (λ e. is_request_of q e.1 ≡ true → e.0 ≡ k) mine
      (λ e found request. same_Some e.0 k (sym (is.are_held.asked.only q e.0
      ((of_mine e.0 e.1 found).0 ∙ ap (λ (a : OutstandingRequest). Some a) (of_grain q e.1 request))) ∙ has))
      (each_asked mine mine_sorted)

  no_request : (q : Grain) → grain_eq q g ≡ false → AllByRecursion (λ e. is_request_of q e.1 ≡ false) mine
  no_request q never =
      all_map (λ e. is_about g e.1 ≡ true) (λ e. is_request_of q e.1 ≡ false) mine (λ e about. by e.1 about)
      (all_passed (λ e. is_about g e.1) out)
    where
      by : (asked : OutstandingRequest) → is_about g asked ≡ true → is_request_of q asked ≡ false
      by (Activation its) about =
          on_grain (λ b. b ≡ false) its q
          (λ same. let ever : true ≡ false = sym ((Decides-grain q g).1 (sym same ∙ (Decides-grain its g).0 about)) ∙ never in cc)
          (λ other. refl)
      by (Find its) about = refl

  one_after : (e : Grain × Held) → IsFoundIn h.held.entries e → after numbered e.0 e.1 ≡ held_renewed_about g (host_of h) e.0 e.1
  one_after e found =
      on_test (λ b. after numbered e.0 e.1 ≡ record e.1 { phase = cond b (phase_renewed_about g (host_of h) e.1.phase) e.1.phase })
      (grain_eq e.0 g)
      (λ ever. of_its ever (number_in e.1.phase) refl)
      (λ never. untouched e.0 e.1 h.next_number mine (no_request e.0 never))
    where
      of_its : grain_eq e.0 g ≡ true → (o : Option ℕ) → number_in e.1.phase ≡ o
          → after numbered e.0 e.1 ≡ record e.1 { phase = phase_renewed_about g (host_of h) e.1.phase }
      of_its ever None none =
          after_resting numbered e.0 e.1 none ∙ ap (λ (p : Phase). record e.1 { phase = p }) (rests_about g (host_of h) e.1.phase none)
      of_its ever (Some k) has =
          let number : number_of e.0 h.held.entries ≡ Some k = ap (λ o. option_and_then (λ (x : Held). number_in x.phase) o) found ∙ has in
          after_asking new e.0 e.1 k h.next_number mine mine_sorted ranks (only_under e.0 k number)
          (in_mine k (Activation e.0) (is.are_held.asked.there e.0 k number) ever)
          ∙ ap (λ (p : Phase). record e.1 { phase = p }) (asks_about g (host_of h) e.1.phase k has)

  pub held_is : with_numbers numbered h.held.entries ≡ held_now
  held_is =
      each_after numbered h.held.entries
      ∙ map_same (λ e. (e.0, after numbered e.0 e.1)) (λ e. (e.0, held_renewed_about g (host_of h) e.0 e.1)) h.held.entries
      (all_map (IsFoundIn h.held.entries) (λ e. (e.0, after numbered e.0 e.1) ≡ (e.0, held_renewed_about g (host_of h) e.0 e.1))
      h.held.entries (λ e found. ap (λ (x : Held). (e.0, x)) (one_after e found))
      (each_found h.held.entries is.are_held.apart))

  number_now : (q : Grain) → number_of q held_now ≡ cond (grain_eq q g) (option_map new (number_of q h.held.entries))
      (number_of q h.held.entries)
  number_now q =
      ap (λ o. option_and_then (λ (x : Held). number_in x.phase) o) (lookup_by_grain (held_renewed_about g (host_of h)) q h.held.entries)
      ∙ by (lookup (is_at (grain_cmp q)) h.held.entries)
    where
      none : (b : Bool) → None ≡ cond b (option_map new None) None
      none true = refl
      none false = refl

      some : (b : Bool) (x : Held) → number_in (cond b (phase_renewed_about g (host_of h) x.phase) x.phase) ≡ cond b
          (option_map new (number_in x.phase)) (number_in x.phase)
      some true x = number_about g (host_of h) x.phase
      some false x = refl

      by : (o : Option Held) → option_and_then (λ x. number_in x.phase) (option_map (held_renewed_about g (host_of h) q) o)
          ≡ cond (grain_eq q g) (option_map new (option_and_then (λ x. number_in x.phase) o)) (option_and_then (λ x. number_in x.phase) o)
      by None = none (grain_eq q g)
      by (Some x) = some (grain_eq q g) x

  -- ---- What is outstanding.
  asked_now : AreAsked held_now now
  asked_now = record {
    there = λ q n is_n.
        on_test (λ b. cond b (option_map new (number_of q h.held.entries)) (number_of q h.held.entries) ≡ Some n
        → asked_under n now ≡ Some (Activation q)) (grain_eq q g)
        (λ ever e. of_its q n ever (number_of q h.held.entries) refl e)
        (λ never e. found_now n ∙ ap (λ o. either o (asked_under n numbered))
        (in_others n (Activation q) (is.are_held.asked.there q n e) never))
        (sym (number_now q) ∙ is_n);
    only = λ q n found. only_by q n (asked_under n others) refl (sym (found_now n) ∙ found);
  } where
    of_its : (q : Grain) (n : ℕ) → grain_eq q g ≡ true → (o : Option ℕ) → number_of q h.held.entries ≡ o → option_map new o ≡ Some n
        → asked_under n now ≡ Some (Activation q)
    of_its q n ever None none e = nothing n e
    of_its q n ever (Some k) has e =
        let ranked = rank_found new h.next_number mine k (Activation q) ranks (in_mine k (Activation q) (is.are_held.asked.there q k has) ever) in
        let same : new k ≡ n = same_Some (new k) n e in
        found_now n
        ∙ ap (λ o. either o (asked_under n numbered)) (no_other n (let low = ranked.low in omega (low, same, arith)))
        ∙ ap (λ (m : ℕ). asked_under m numbered) (sym same) ∙ ranked.found

    only_by : (q : Grain) (n : ℕ) (o : Option OutstandingRequest) → asked_under n others ≡ o
        → either o (asked_under n numbered) ≡ Some (Activation q) → number_of q held_now ≡ Some n
    only_by q n None none found =
        let back = rank_back new h.next_number mine n (Activation q) mine_sorted ranks found in
        let there = of_mine back.0 (Activation q) back.1 in
        number_now q
        ∙ ap (λ b. cond b (option_map new (number_of q h.held.entries)) (number_of q h.held.entries)) there.1
        ∙ ap (option_map new) (is.are_held.asked.only q back.0 there.0) ∙ ap (λ (k : ℕ). Some k) back.2
    only_by q n (Some asked) at found =
        let there = of_others n (Activation q) (at ∙ found) in
        number_now q
        ∙ ap (λ b. cond b (option_map new (number_of q h.held.entries)) (number_of q h.held.entries)) there.1
        ∙ is.are_held.asked.only q n there.0

  are_now : AreHeld (h.next_number + length mine) held_now now
  are_now = record {
    apart = subst (IsDistinct grain_eq) (sym (keys_by_grain (held_renewed_about g (host_of h)) h.held.entries)) is.are_held.apart;
    in_order = moved.now_sorted out is.are_held.in_order g h.next_number is.are_held.below;
    asked = asked_now;
    below = moved.below_now out is.are_held.in_order g h.next_number is.are_held.below;
  }

  finds_now : finds_in now ≡ filter (λ e. not (grain_eq e.1 g)) (finds_in out) ++ map (λ e. (new e.0, e.1))
      (filter (λ e. grain_eq e.1 g) (finds_in out))
  finds_now =
      filter_map-append (λ e. option_map (λ q. (e.0, q)) (find_in e.1)) others numbered
      ∙ (λ i. finds_passed (λ q. not (grain_eq q g)) out i ++ finds-enumerate_from new h.next_number mine ranks i)
      ∙ ap (λ l. filter (λ e. not (grain_eq e.1 g)) (finds_in out) ++ map (λ e. (new e.0, e.1)) l) (finds_passed (λ q. grain_eq q g) out)

  module _ (host : Host) (means : host_of h ≡ host) where
    pub count_is : length mine ≡ length (requests_about g host)
    count_is = sym many ∙ ap (λ (x : Host). length (requests_about g x)) means

    pub enough : host.next_number + length (requests_about g host) ≤ 2 ^ 60 + 1 → h.next_number + length mine ≤ 2 ^ 60 + 1
    enough left =
        let here : h.next_number + length (requests_about g (host_of h)) ≤ 2 ^ 60 + 1 = subst (λ (x : Host). x.next_number + length (requests_about g x) ≤ 2 ^ 60 + 1) (sym means) left in
        let all = many in omega (here, all, arith)

    module _ (held_new : List (Grain × Held)) (out_new : List (ℕ × OutstandingRequest)) (count : ℕ) (held_made : held_new ≡ held_now)
        (out_made : out_new ≡ now) (counted : count ≡ length mine) where
      pub renewed_means : meant h.silo (h.next_number + count) h.held.next_count held_new out_new ≡ renewed_about g host
      renewed_means =
          (λ i. made h.silo (h.next_number + (counted ∙ sym many) i) h.held.next_count (held_made i) ((ap finds_in out_made ∙ finds_now) i))
          ∙ ap (renewed_about g) means

      pub renewed_is : host.next_number + length (requests_about g host) ≤ 2 ^ 60 + 1 → IsHost (h.next_number + count) held_new out_new
      renewed_is left = record {
        number =
            let above = is.number.above in let within = enough left in
            record { above = omega (above, arith); within = omega (within, counted, arith) };
        are_held = subst (λ (n : ℕ). AreHeld (h.next_number + n) held_new out_new) (sym counted)
            (subst (λ l. AreHeld (h.next_number + length mine) l out_new) (sym held_made)
            (subst (λ l. AreHeld (h.next_number + length mine) held_now l) (sym out_made) are_now));
      }

    -- the requests under the new numbers are those of the renewed host about the grain
    pub requests_are : acts_in h.silo h.held.entries numbered ≡ requests_about g (renewed_about g host)
    requests_are =
        (λ i. filter_map (λ e. option_map (λ a. (e.0, a)) (sym (same_act g (host_of h) h.silo h.held.entries e.1) i)) numbered)
        ∙ ap (λ l. acts_in h.silo held_now l) (sym (moved.mine_now out is.are_held.in_order g h.next_number is.are_held.below))
        ∙ sym (acts_passed g h.silo held_now now)
        ∙ ap (λ l. filter (λ e. grain_eq (grain_of e.1) g) l)
        (acts_are h.silo (h.next_number + length mine) h.held.next_count held_now now are_now)
        ∙ ap (requests_about g) (renewed_means held_now now (length mine) refl refl refl)

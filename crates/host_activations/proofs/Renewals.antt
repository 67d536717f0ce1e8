-- After a renewal the new fields keep what every host keeps, and mean the rule's renewed host.
use Rattle.std.proofs.Common.{arith, ◌≡◌, refl, sym, ap, subst, ◌∙◌, ℕ, List, [], ◌∷◌, ◌+◌, ◌^◌, ◌≤◌, ◌<◌, cond, length, map, true, Option, Some, None, option_and_then}
use Rattle.std.specs.Prelude.{nat_lt, count_by}
use Rattle.std.specs.List.{AllByRecursion, IsDistinct, enumerate_from, filter_map}
use Rattle.std.specs.Option.{option_map}
use Rattle.std.specs.Map.{lookup, keys_of, values_of}
use Rattle.std.specs.BTreeMap.{is_at}
use Rattle.std.proofs.lemmas.Option.{same_Some}
use Rattle.std.proofs.lemmas.List.Sums.{sum_by-cons}
use Rattle.texts.proofs.Orderings.{Equal-from}
use Rattle.silo_address.specs.Grain.{Grain, grain_cmp, grain_eq}
use Rattle.silo_address.proofs.Order.{grain_cmp_exact}
use Rattle.directory_rules.specs.declared.Held.{Held}
use Rattle.directory_rules.specs.declared.Phase.{Phase}
use Rattle.directory_rules.specs.declared.Phase.TheVariants.{Asking, Firm, Closing}
use Rattle.directory_rules.specs.State.{Host}
use Rattle.directory_rules.specs.Host.{new_number, outstanding, renewed, renewed_phase}
use Rattle.host_activations.specs.declared.asked.OutstandingRequest.{OutstandingRequest}
use Rattle.host_activations.specs.declared.asked.OutstandingRequest.TheVariants.{Activation, Find}
use Rattle.host_activations.specs.declared.host.Host.TheInside.{Inside}
use Rattle.host_activations.specs.Numbers.{number_in, number_of, phase_under}
use Rattle.host_activations.specs.Asked.{asked_under, finds_in, AreAsked}
use Rattle.host_activations.specs.IsHost.{AreHeld, IsHost}
use Rattle.host_activations.specs.HostModel.{IsWhole, host_of}
use Rattle.host_activations.specs.Acts.{acts_in}
use Rattle.host_activations.specs.Renewal.{asked_by, is_request_of, renewal_of, with_numbers}
use Rattle.host_activations.proofs.Agreement.{nothing}
use Rattle.host_activations.proofs.Entries.{keys-map, lookup-map}
use Rattle.host_activations.proofs.Found.{IsFoundIn, all_map, each_found}
use Rattle.host_activations.proofs.OutstandingActs.{acts_are, keys_are, as_many}
use Rattle.host_activations.proofs.AskedAgain.{asked_again, each_asked, same_act}
use Rattle.host_activations.proofs.Fields.{made, meant}
use Rattle.host_activations.proofs.Ranks.{Ranks, below, ranks_from, rank_found, rank_back, sorted-enumerate_from, finds-enumerate_from}
use Rattle.host_activations.proofs.NewNumbers.{after, after_asking, after_resting, each_after}

pub below_keys : {X : Type 0} (k : ℕ) (es : List (ℕ × X)) → below k es ≡ count_by (λ j. nat_lt j k) (keys_of es)
below_keys k [] = refl
below_keys k (e ∷ es) =
    let here = sum_by-cons (λ x. cond (nat_lt x.0 k) 1 0) e es in
    let there = sum_by-cons (λ (j : ℕ). cond (nat_lt j k) 1 0) e.0 (keys_of es) in
    let later = below_keys k es in omega (here, there, later, arith)

pub all_high : (ks : List ℕ) → AllByRecursion (λ k. 0 ≤ k) ks
all_high [] = tt
all_high (k ∷ ks) = (omega arith, all_high ks)

pub map_same : {A B : Type 0} (f g : A → B) (xs : List A) → AllByRecursion (λ x. f x ≡ g x) xs → map f xs ≡ map g xs
map_same f g [] same = refl
map_same f g (x ∷ xs) same = λ i. same.0 i ∷ map_same f g xs same.1 i

number_renewed : (host : Host) (phase : Phase) → number_in (renewed_phase host phase) ≡ option_map (new_number host) (number_in phase)
number_renewed host (Asking k) = refl
number_renewed host Firm = refl
number_renewed host (Closing k) = refl

rests : (host : Host) (phase : Phase) → number_in phase ≡ None → phase ≡ renewed_phase host phase
rests host (Asking k) none = cc
rests host Firm none = refl
rests host (Closing k) none = cc

asks : (host : Host) (phase : Phase) (k : ℕ) → number_in phase ≡ Some k → phase_under (new_number host k) phase ≡ renewed_phase host phase
asks host (Asking j) k is = ap (λ (n : ℕ). Asking (new_number host n)) (sym (same_Some j k is))
asks host Firm k is = refl
asks host (Closing j) k is = ap (λ (n : ℕ). Closing (new_number host n)) (sym (same_Some j k is))

pub of_grain : (q : Grain) (asked : OutstandingRequest) → is_request_of q asked ≡ true → asked ≡ Activation q
of_grain q (Activation g) is = ap (λ (x : Grain). Activation x) (grain_cmp_exact g q (Equal-from (grain_cmp g q) is))
of_grain q (Find g) is = cc

module _ (h : Inside) (is : IsWhole h) where
  abbrev out : List (ℕ × OutstandingRequest)
  out = h.outstanding.entries

  -- the new number of each
  abbrev new : ℕ → ℕ
  new = new_number (host_of h)

  abbrev renewed_held : Held → Held
  renewed_held held = record held { phase = renewed_phase (host_of h) held.phase }

  -- what is outstanding, and the activations, after it
  abbrev pub now : List (ℕ × OutstandingRequest)
  now = enumerate_from h.next_number (values_of out)

  abbrev pub held_now : List (Grain × Held)
  held_now = map (λ e. (e.0, renewed_held e.1)) h.held.entries

  counts : (k : ℕ) → new k ≡ h.next_number + below k out
  counts k =
      ap (λ (n : ℕ). h.next_number + n)
      (below_keys k (outstanding (host_of h))
      ∙ ap (λ ks. count_by (λ j. nat_lt j k) ks) (keys_are h.silo h.next_number h.held.next_count h.held.entries out is.are_held)
      ∙ sym (below_keys k out))

  ranks : Ranks new h.next_number out
  ranks = ranks_from new 0 h.next_number out is.are_held.in_order (all_high (keys_of out)) (λ k high. counts k)

  many : length (outstanding (host_of h)) ≡ length out
  many = as_many h.silo h.next_number h.held.next_count h.held.entries out is.are_held

  -- ---- The activations.
  only_under : (q : Grain) (k : ℕ) → number_of q h.held.entries ≡ Some k → AllByRecursion (λ e. is_request_of q e.1 ≡ true → e.0 ≡ k) out
  only_under q k has =
      all_map (λ e. asked_under e.0 out ≡ Some e.1) (λ e. is_request_of q e.1 ≡ true → e.0 ≡ k) out
      (λ e found request. same_Some e.0 k (sym (is.are_held.asked.only q e.0
      (found ∙ ap (λ (a : OutstandingRequest). Some a) (of_grain q e.1 request))) ∙ has))
      (each_asked out is.are_held.in_order)

  one_after : (e : Grain × Held) → IsFoundIn h.held.entries e → after now e.0 e.1 ≡ renewed_held e.1
  one_after e found = by (number_in e.1.phase) refl
    where
      by : (o : Option ℕ) → number_in e.1.phase ≡ o → after now e.0 e.1 ≡ renewed_held e.1
      by None none = after_resting now e.0 e.1 none ∙ ap (λ (p : Phase). record e.1 { phase = p }) (rests (host_of h) e.1.phase none)
      by (Some k) has =
          let number : number_of e.0 h.held.entries ≡ Some k = ap (λ o. option_and_then (λ (x : Held). number_in x.phase) o) found ∙ has in
          after_asking new e.0 e.1 k h.next_number out is.are_held.in_order ranks (only_under e.0 k number)
          (is.are_held.asked.there e.0 k number)
          ∙ ap (λ (p : Phase). record e.1 { phase = p }) (asks (host_of h) e.1.phase k has)

  pub held_is : with_numbers now h.held.entries ≡ held_now
  held_is =
      each_after now h.held.entries
      ∙ map_same (λ e. (e.0, after now e.0 e.1)) (λ e. (e.0, renewed_held e.1)) h.held.entries
      (all_map (IsFoundIn h.held.entries) (λ e. (e.0, after now e.0 e.1) ≡ (e.0, renewed_held e.1)) h.held.entries
      (λ e found. ap (λ (x : Held). (e.0, x)) (one_after e found))
      (each_found h.held.entries is.are_held.apart))

  number_now : (q : Grain) → number_of q held_now ≡ option_map new (number_of q h.held.entries)
  number_now q =
      ap (λ o. option_and_then (λ (x : Held). number_in x.phase) o) (lookup-map renewed_held (is_at (grain_cmp q)) h.held.entries)
      ∙ by (lookup (is_at (grain_cmp q)) h.held.entries)
    where
      by : (o : Option Held) → option_and_then (λ x. number_in x.phase) (option_map renewed_held o) ≡ option_map new
          (option_and_then (λ x. number_in x.phase) o)
      by None = refl
      by (Some x) = number_renewed (host_of h) x.phase

  -- ---- What is outstanding.
  asked_now : AreAsked held_now now
  asked_now = record {
    there = λ q n is_n. there_by q n (number_of q h.held.entries) refl (sym (number_now q) ∙ is_n);
    only = λ q n found.
        let back = rank_back new h.next_number out n (Activation q) is.are_held.in_order ranks found in
        number_now q ∙ ap (option_map new) (is.are_held.asked.only q back.0 back.1) ∙ ap (λ (k : ℕ). Some k) back.2;
  } where
    there_by : (q : Grain) (n : ℕ) (o : Option ℕ) → number_of q h.held.entries ≡ o → option_map new o ≡ Some n
        → asked_under n now ≡ Some (Activation q)
    there_by q n None none is_n = nothing n is_n
    there_by q n (Some k) has is_n =
        let ranked = rank_found new h.next_number out k (Activation q) ranks (is.are_held.asked.there q k has) in
        ap (λ (m : ℕ). asked_under m now) (sym (same_Some (new k) n is_n)) ∙ ranked.found

  below_now : (n : ℕ) (asked : OutstandingRequest) → asked_under n now ≡ Some asked → n < h.next_number + length out
  below_now n asked found =
      let back = rank_back new h.next_number out n asked is.are_held.in_order ranks found in
      let ranked = rank_found new h.next_number out back.0 asked ranks back.1 in
      let high = ranked.high in let same = back.2 in omega (high, same, arith)

  are_now : AreHeld (h.next_number + length out) held_now now
  are_now = record {
    apart = subst (IsDistinct grain_eq) (sym (keys-map renewed_held h.held.entries)) is.are_held.apart;
    in_order = sorted-enumerate_from h.next_number (values_of out);
    asked = asked_now;
    below = below_now;
  }

  finds_now : finds_in now ≡ map (λ e. (new e.0, e.1)) (finds_in out)
  finds_now = finds-enumerate_from new h.next_number out ranks

  module _ (host : Host) (means : host_of h ≡ host) where
    module _ (held_new : List (Grain × Held)) (out_new : List (ℕ × OutstandingRequest)) (count : ℕ) (held_made : held_new ≡ held_now)
        (out_made : out_new ≡ now) (counted : count ≡ length out) where
      pub renewed_means : meant h.silo (h.next_number + count) h.held.next_count held_new out_new ≡ renewed host
      renewed_means =
          (λ i. made h.silo (h.next_number + (counted ∙ sym many) i) h.held.next_count (held_made i) ((ap finds_in out_made ∙ finds_now) i))
          ∙ ap renewed means

    -- what a renewal makes is what is outstanding then
    pub renewal_is : renewal_of host ≡ now
    renewal_is =
        ap (λ (x : Host). map (λ e. (e.0, asked_by e.1)) (outstanding x)) (sym (renewed_means held_now now (length out) refl refl refl))
        ∙ asked_again h.silo (h.next_number + length out) h.held.next_count held_now now are_now

    -- and its requests ask what those before do
    pub requests_are : acts_in h.silo h.held.entries now ≡ outstanding (renewed host)
    requests_are =
        (λ i. filter_map (λ e. option_map (λ act. (e.0, act)) (sym (same_act (host_of h) h.silo h.held.entries e.1) i)) now)
        ∙ acts_are h.silo (h.next_number + length out) h.held.next_count held_now now are_now
        ∙ ap outstanding (renewed_means held_now now (length out) refl refl refl)

    module _ (left : host.next_number + length (outstanding host) ≤ 2 ^ 60 + 1) where
      -- there are enough numbers
      pub enough : h.next_number + length out ≤ 2 ^ 60 + 1
      enough =
          let left_here : h.next_number + length (outstanding (host_of h)) ≤ 2 ^ 60 + 1 = subst (λ (x : Host). x.next_number + length (outstanding x) ≤ 2 ^ 60 + 1) (sym means) left in
          let all = many in omega (left_here, all, arith)

      pub renewed_is : (held_new : List (Grain × Held)) (out_new : List (ℕ × OutstandingRequest)) (count : ℕ) → held_new ≡ held_now
          → out_new ≡ now → count ≡ length out → IsHost (h.next_number + count) held_new out_new
      renewed_is held_new out_new count held_made out_made counted = record {
        number = let above = is.number.above in record { above = omega (above, arith); within = omega (enough, counted, arith) };
        are_held = subst (λ (n : ℕ). AreHeld (h.next_number + n) held_new out_new) (sym counted)
            (subst (λ l. AreHeld (h.next_number + length out) l out_new) (sym held_made)
            (subst (λ l. AreHeld (h.next_number + length out) held_now l) (sym out_made) are_now));
      }

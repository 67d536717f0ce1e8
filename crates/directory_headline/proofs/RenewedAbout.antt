-- The requests about one grain get new numbers: of activations it is that of the grain alone, if that has one.
use Rattle.std.proofs.Common.{arith, ◌≡◌, ℕ, ◌+◌, ◌<◌, List, [], ◌∷◌, refl, sym, ap, ◌∙◌}
use Rattle.std.specs.Prelude.{Bool, true, false, cond, if◌then◌else◌, nat_lt, filter, Some, length}
use Rattle.std.specs.Map.{keys_of, lookup}
use Rattle.std.specs.BTreeMap.{is_at}
use Rattle.std.proofs.lemmas.Bool.{ltb-true, ltb-false}
use Rattle.silo_address.specs.Grain.{Grain, grain_cmp, grain_eq}
use Rattle.silo_address.proofs.Order.{grain_cmp_exact}
use Rattle.silo_address.proofs.Same.{Decides-grain}
use Rattle.directory_rules.specs.declared.held.Held.{Held}
use Rattle.directory_rules.specs.declared.held.Phase.{Phase}
use Rattle.directory_rules.specs.declared.held.Phase.TheVariants.{Asking, Firm, Closing}
use Rattle.directory_rules.specs.State.{Host}
use Rattle.directory_rules.specs.Host.{requests_about, new_number_about, phase_renewed_about, renewed_about}
use Rattle.directory_rules.specs.Laws.{AreNumbered}
use Rattle.directory_rules.proofs.Cases.{on_bool}
use Rattle.directory_rules.proofs.RequestNumbers.{times_append, numbers}
use Rattle.directory_rules.proofs.GrainRenewal.{new_below}
use Rattle.directory_facts.proofs.Entries.{same_key}
use Rattle.directory_headline.proofs.NewNumbers.{gets, phase_anew, IsRenewal, alike}
use Rattle.directory_headline.proofs.Distinct.{once, many_more, many_found}

-- what is found of a grain that passes a test is found among those that pass
found_among : (passes : Grain → Bool) (grain : Grain) (es : List (Grain × Held)) → passes grain ≡ true
    → lookup (is_at (grain_cmp grain)) (filter (λ e. passes e.0) es) ≡ lookup (is_at (grain_cmp grain)) es
found_among passes grain [] mine = refl
found_among passes grain (e ∷ es) mine =
    let later = found_among passes grain es mine in
    on_bool (λ b. passes e.0 ≡ b → lookup (is_at (grain_cmp grain)) (cond b (e ∷ filter (λ x. passes x.0) es) (filter (λ x. passes x.0) es))
    ≡ cond (is_at (grain_cmp grain) e.0) (Some e.1) (lookup (is_at (grain_cmp grain)) es)) (passes e.0)
    (λ t is. ap (cond (is_at (grain_cmp grain) e.0) (Some e.1)) later)
    (λ f is. later ∙ on_bool (λ b. is_at (grain_cmp grain) e.0 ≡ b
    → lookup (is_at (grain_cmp grain)) es ≡ cond b (Some e.1) (lookup (is_at (grain_cmp grain)) es)) (is_at (grain_cmp grain) e.0)
    (λ u at. let same = sym mine ∙ ap passes (same_key grain_cmp grain_cmp_exact grain e.0 at) ∙ is in absurd (cc (same))) (λ u at. refl)
    refl) refl

gets_both : (passes : Bool) (new : ℕ → ℕ) (n : ℕ) (phase : Phase) → gets passes new n phase ≡ true
    → (passes ≡ true) × (gets true new n phase ≡ true)
gets_both true new n phase got = (refl, got)
gets_both false new n (Asking k) got = absurd (cc (got))
gets_both false new n Firm got = absurd (cc (got))
gets_both false new n (Closing k) got = absurd (cc (got))

module _ (grain : Grain) (host : Host) where
  abbrev new : ℕ → ℕ
  new number = new_number_about grain host number

  abbrev end : ℕ
  end = host.next_number + length (requests_about grain host)

  phase_about : (its : Bool) (phase : Phase) → (if its then phase_renewed_about grain host phase else phase) ≡ phase_anew its new phase
  phase_about true (Asking k) = refl
  phase_about true Firm = refl
  phase_about true (Closing k) = refl
  phase_about false (Asking k) = refl
  phase_about false Firm = refl
  phase_about false (Closing k) = refl

  -- a number that its activation gets is below the new next one
  below : AreNumbered host → (n : ℕ) (r : Grain) (held : Held) → lookup (is_at (grain_cmp r)) host.held ≡ Some held
      → gets (grain_eq r grain) new n held.phase ≡ true → n < end
  below numbered n r held found got =
      let both = gets_both (grain_eq r grain) new n held.phase got in
      let about = filter (λ e. grain_eq e.0 grain) host.held in
      let some = many_found new n r held about (found_among (λ q. grain_eq q grain) r host.held both.0 ∙ found) both.1 in
      let more = many_more new n (numbers about) (keys_of (filter (λ e. grain_eq e.1 grain) host.finds)) in
      on_bool (λ b. nat_lt n end ≡ b → n < end) (nat_lt n end) (λ t is. ltb-true n end is)
      (λ f is. let none = new_below grain host (λ k. let few = once host numbered k in let both_are = times_append k (numbers host.held) (keys_of host.finds) in omega (few, both_are, arith)) n (ltb-false n end is) in
      absurd (omega (none, some, more, arith))) refl

  pub grain_renewed : AreNumbered host → IsRenewal host (λ r. grain_eq r grain) (new_number_about grain host)
      (length (requests_about grain host)) (renewed_about grain host)
  grain_renewed numbered = record {
    from = λ k. omega arith;
    below = below numbered;
    apart = λ n g r x y found there got too.
        (Decides-grain r grain).0 (gets_both (grain_eq r grain) new n y.phase too).0
        ∙ sym ((Decides-grain g grain).0 (gets_both (grain_eq g grain) new n x.phase got).0);
    next_number = refl;
    next_count = refl;
    held =
        alike (λ r phase. if grain_eq r grain then phase_renewed_about grain host phase else phase)
        (λ r phase. phase_anew (grain_eq r grain) new phase) (λ r phase. phase_about (grain_eq r grain) phase) host.held;
  }

-- A host goes on holding one activation a grain, whatever it does.
use Rattle.std.proofs.Common.{◌≡◌, ◌≢◌, refl, sym, ap, subst, ℕ, List, [], ◌∷◌, ◌++◌, map, arith}
use Rattle.std.specs.Prelude.{⊤, Bool, false, cond, All, AllPairs, Some, None, fold}
use Rattle.std.specs.List.{filter_map, cons_option}
use Rattle.std.specs.Ordering.{nat_cmp, is_eq}
use Rattle.std.specs.Map.{lookup, keys_of, set_value, remove_entry}
use Rattle.std.specs.BTreeMap.{is_at, insert_entry}
use Rattle.std.proofs.lemmas.List.Elements.{All-nil, All-cons, All-head, All-tail, All-append, All-filter}
use Rattle.std.proofs.lemmas.List.Kept.{AllPairs-cons}
use Rattle.std.proofs.lemmas.Cmp.{tied_itself}
use Rattle.std.proofs.lemmas.Map.{keys-set_value}
use Rattle.std.proofs.lemmas.Map.Lookups.{exact_unsigned}
use Rattle.silo_address.specs.Silo.{Silo}
use Rattle.silo_address.specs.Grain.{Grain, grain_cmp, grain_eq}
use Rattle.silo_address.proofs.Order.{grain_cmp_total}
use Rattle.directory_rules.specs.declared.act.Act.{Act}
use Rattle.directory_rules.specs.declared.act.Act.TheVariants.{Find}
use Rattle.directory_rules.specs.declared.held.Held.{Held}
use Rattle.directory_rules.specs.declared.held.Phase.{Phase}
use Rattle.directory_rules.specs.declared.held.Phase.TheVariants.{Asking, Firm, Closing}
use Rattle.directory_rules.specs.State.{Host}
use Rattle.directory_rules.specs.Host.{outstanding, requests_about, grain_of, held_acts, find_acts, act_in, renewed, renewed_phase, renewed_about, held_renewed_about}
use Rattle.directory_rules.proofs.Cases.{on_bool}
use Rattle.directory_facts.specs.Own.{NamesOwn}
use Rattle.directory_facts.proofs.Entries.{all_put}

-- no key stands twice
abbrev pub Once : {K : Type 0} → List K → Type 0
Once [] = ⊤
Once (k ∷ ks) = All (λ later. k ≢ later) ks × Once ks

pub once_held : (held : List (Grain × Held)) → Once (keys_of held) → AllPairs (λ e later. e.0 ≢ later.0) held
once_held [] once = λ i j d less below. absurd (omega arith)
once_held (e ∷ es) once = AllPairs-cons (λ a later. a.0 ≢ later.0) e es (apart e.0 es once.0) (once_held es once.1)
  where
    apart : (grain : Grain) (es : List (Grain × Held)) → All (λ later. grain ≢ later) (keys_of es) → All (λ later. grain ≢ later.0) es
    apart grain [] all = All-nil (λ later. grain ≢ later.0)
    apart grain (x ∷ xs) all =
        All-cons (λ later. grain ≢ later.0) x xs (All-head (λ later. grain ≢ later) x.0 (keys_of xs) all)
        (apart grain xs (All-tail (λ later. grain ≢ later) x.0 (keys_of xs) all))

once_pushed : {K : Type 0} (key : K) (ks : List K) → Once ks → All (λ k. k ≢ key) ks → Once (ks ++ key ∷ [])
once_pushed key [] once new = (All-nil (λ later. key ≢ later), tt)
once_pushed key (k ∷ ks) once new = (
  All-append (λ later. k ≢ later) ks (key ∷ []) once.0
      (All-cons (λ later. k ≢ later) key [] (All-head (λ x. x ≢ key) k ks new) (All-nil (λ later. k ≢ later))),
  once_pushed key ks once.1 (All-tail (λ x. x ≢ key) k ks new),
)

keys_pushed : {K X : Type 0} (es : List (K × X)) (e : K × X) → keys_of (es ++ e ∷ []) ≡ keys_of es ++ e.0 ∷ []
keys_pushed [] e = refl
keys_pushed (x ∷ xs) e = ap (λ ks. x.0 ∷ ks) (keys_pushed xs e)

-- what isn't found stands nowhere
not_among : (grain : Grain) (held : List (Grain × Held)) → lookup (is_at (grain_cmp grain)) held ≡ None
    → All (λ k. k ≢ grain) (keys_of held)
not_among grain [] none = All-nil (λ k. k ≢ grain)
not_among grain (e ∷ es) none =
    on_bool (λ b. is_at (grain_cmp grain) e.0 ≡ b → cond b (Some e.1) (lookup (is_at (grain_cmp grain)) es) ≡ None
    → All (λ k. k ≢ grain) (e.0 ∷ keys_of es)) (is_at (grain_cmp grain) e.0)
    (λ t at found. absurd (cc (found)))
    (λ f at found. All-cons (λ k. k ≢ grain) e.0 (keys_of es) (λ same. apart e.0 same at) (not_among grain es found))
    refl none where
      apart : (k : Grain) → k ≡ grain → is_at (grain_cmp grain) k ≡ false → ⊥
      apart k same at =
          let it = ap is_eq (tied_itself grain_cmp_total grain) in let there = subst (λ g. is_at (grain_cmp grain) g ≡ false) same at in
          cc (it, there)

pub once_started : (held : List (Grain × Held)) (grain : Grain) (its : Held) → Once (keys_of held)
    → lookup (is_at (grain_cmp grain)) held ≡ None → Once (keys_of (held ++ (grain, its) ∷ []))
once_started held grain its once free =
    subst Once (sym (keys_pushed held (grain, its))) (once_pushed grain (keys_of held) once (not_among grain held free))

pub once_set : (held : List (Grain × Held)) (test : Grain → Bool) (its : Held) → Once (keys_of held)
    → Once (keys_of (set_value test held its))
once_set held test its once = subst Once (sym (keys-set_value test held its)) once

all_less : {X : Type 0} (P : Grain → Type 0) (test : Grain → Bool) (es : List (Grain × X)) → All P (keys_of es)
    → All P (keys_of (remove_entry test es))
all_less P test [] all = all
all_less P test (e ∷ es) all =
    on_bool (λ b. All P (keys_of (cond b es (e ∷ remove_entry test es)))) (test e.0) (λ t. All-tail P e.0 (keys_of es) all)
    (λ f. All-cons P e.0 (keys_of (remove_entry test es)) (All-head P e.0 (keys_of es) all)
    (all_less P test es (All-tail P e.0 (keys_of es) all)))

pub once_less : (held : List (Grain × Held)) (test : Grain → Bool) → Once (keys_of held) → Once (keys_of (remove_entry test held))
once_less [] test once = once
once_less (e ∷ es) test once =
    on_bool (λ b. Once (keys_of (cond b es (e ∷ remove_entry test es)))) (test e.0) (λ t. once.1)
    (λ f. (all_less (λ later. e.0 ≢ later) test es once.0, once_less es test once.1))

keys_renewed : (host : Host) (held : List (Grain × Held))
    → keys_of (map (λ e. (e.0, record e.1 { phase = renewed_phase host e.1.phase })) held) ≡ keys_of held
keys_renewed host [] = refl
keys_renewed host (e ∷ es) = ap (λ ks. e.0 ∷ ks) (keys_renewed host es)

pub once_renewed : (host : Host) → Once (keys_of host.held) → Once (keys_of (renewed host).held)
once_renewed host once = subst Once (sym (keys_renewed host host.held)) once

keys_renewed_about : (grain : Grain) (host : Host) (held : List (Grain × Held))
    → keys_of (map (λ e. (e.0, held_renewed_about grain host e.0 e.1)) held) ≡ keys_of held
keys_renewed_about grain host [] = refl
keys_renewed_about grain host (e ∷ es) = ap (λ ks. e.0 ∷ ks) (keys_renewed_about grain host es)

pub once_renewed_about : (grain : Grain) (host : Host) → Once (keys_of host.held) → Once (keys_of (renewed_about grain host).held)
once_renewed_about grain host once = subst Once (sym (keys_renewed_about grain host host.held)) once

-- ---- what is outstanding is the host's own
act_own : (phase : Phase) (host : Host) (grain : Grain) (held : Held) → (acts : List (ℕ × Act)) → All (λ e. NamesOwn host.silo e.1) acts
    → All (λ e. NamesOwn host.silo e.1) (cons_option (act_in phase host grain held) acts)
act_own (Asking number) host grain held acts all = All-cons (λ e. NamesOwn host.silo e.1) _ acts refl all
act_own Firm host grain held acts all = all
act_own (Closing number) host grain held acts all = All-cons (λ e. NamesOwn host.silo e.1) _ acts refl all

held_own : (host : Host) (held : List (Grain × Held))
    → All (λ e. NamesOwn host.silo e.1) (filter_map (λ e. act_in e.1.phase host e.0 e.1) held)
held_own host [] = All-nil (λ e. NamesOwn host.silo e.1)
held_own host (e ∷ es) = act_own e.1.phase host e.0 e.1 (filter_map (λ x. act_in x.1.phase host x.0 x.1) es) (held_own host es)

finds_own : (silo : Silo) (finds : List (ℕ × Grain)) → All {X = ℕ × Act} (λ e. NamesOwn silo e.1) (map (λ e. (e.0, Find e.1)) finds)
finds_own silo [] = All-nil (λ e. NamesOwn silo e.1)
finds_own silo (e ∷ es) = All-cons (λ x. NamesOwn silo x.1) (e.0, Find e.1) (map (λ x. (x.0, Find x.1)) es) tt (finds_own silo es)

put_own : (silo : Silo) (more acts : List (ℕ × Act)) → All (λ e. NamesOwn silo e.1) more → All (λ e. NamesOwn silo e.1) acts
    → All (λ e. NamesOwn silo e.1) (fold (λ all e. insert_entry nat_cmp all e.0 e.1) acts more)
put_own silo [] acts more all = all
put_own silo (e ∷ es) acts more all =
    put_own silo es (insert_entry nat_cmp acts e.0 e.1) (All-tail (λ x. NamesOwn silo x.1) e es more)
    (all_put nat_cmp exact_unsigned (λ x. NamesOwn silo x.1) e.0 e.1 acts all (All-head (λ x. NamesOwn silo x.1) e es more))

pub outstanding_own : (host : Host) → All (λ e. NamesOwn host.silo e.1) (outstanding host)
outstanding_own host = put_own host.silo (held_acts host) (find_acts host) (held_own host host.held) (finds_own host.silo host.finds)

pub requests_about_own : (grain : Grain) (host : Host) → All (λ e. NamesOwn host.silo e.1) (requests_about grain host)
requests_about_own grain host =
    All-filter (λ (e : ℕ × Act). grain_eq (grain_of e.1) grain) (λ (e : ℕ × Act). NamesOwn host.silo e.1) (outstanding host)
    (outstanding_own host)

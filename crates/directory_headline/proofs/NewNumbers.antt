-- What a renewal is: some requests of a silo get new numbers, one number after the other.
use Rattle.std.proofs.Common.{arith, ◌≡◌, ◌≢◌, ℕ, suc, ◌+◌, ◌<◌, ◌≤◌, List, [], ◌∷◌, map, refl, sym, ap, subst, ◌∙◌}
use Rattle.std.specs.Prelude.{⊤, Bool, true, false, cond, ◌==◌, ◌&&◌, nat_lt, All, AllPairs, Option, Some, None, find}
use Rattle.std.specs.Option.{option_map}
use Rattle.std.specs.Ordering.{is_eq}
use Rattle.std.specs.Map.{lookup}
use Rattle.std.specs.BTreeMap.{is_at}
use Rattle.std.proofs.lemmas.Bool.{eqb-true, eqb-false, eq-eqb, lt-ltb, le-ltb, ltb-true, ltb-false}
use Rattle.std.proofs.lemmas.Cmp.{tied_itself}
use Rattle.std.proofs.lemmas.List.Elements.{All-nil, All-cons}
use Rattle.silo_address.specs.Silo.{Silo}
use Rattle.silo_address.specs.Grain.{Grain, grain_cmp}
use Rattle.silo_address.specs.declared.ActivationId.{ActivationId}
use Rattle.silo_address.proofs.Order.{grain_cmp_total, grain_cmp_exact, apart_in_order}
use Rattle.directory_protocol.specs.Letters as letters
use Rattle.directory_protocol.specs.Letters.{Sent}
use Rattle.directory_rules.specs.declared.held.Held.{Held}
use Rattle.directory_rules.specs.declared.held.Phase.{Phase}
use Rattle.directory_rules.specs.declared.held.Phase.TheVariants.{Asking, Firm, Closing}
use Rattle.directory_rules.specs.State.{Host}
use Rattle.directory_rules.specs.Host.{held_of}
use Rattle.directory_rules.proofs.Cases.{on_bool}
use Rattle.directory_facts.proofs.Entries.{found_so, same_key}

-- ---- what a renewal is: some grains' requests get new numbers
-- the phase, its request under the new number if it is one of these
abbrev pub phase_anew : Bool → (ℕ → ℕ) → Phase → Phase
phase_anew passes new (Asking k) = Asking (cond passes (new k) k)
phase_anew passes new Firm = Firm
phase_anew passes new (Closing k) = Closing (cond passes (new k) k)

-- the activation of an entry, in another phase
abbrev pub made_by : (Grain → Phase → Phase) → Grain × Held → Grain × Held
made_by phase_of e = (e.0, record e.1 { phase = phase_of e.0 e.1.phase })

-- whether the phase's request is the one that gets this number
abbrev pub gets : Bool → (ℕ → ℕ) → (number : ℕ) → Phase → Bool
gets passes new number (Asking k) = passes && (new k == number)
gets passes new number Firm = false
gets passes new number (Closing k) = passes && (new k == number)

-- the activations of these grains have their requests under new numbers, each its own, out of so many from the next one on
pub record IsRenewal (host : Host) (passes : Grain → Bool) (new : ℕ → ℕ) (count : ℕ) (made : Host) : Type 0 where
  pub from : (k : ℕ) → host.next_number ≤ new k
  pub below : (n : ℕ) (grain : Grain) (held : Held) → held_of host grain ≡ Some held → gets (passes grain) new n held.phase ≡ true
      → n < host.next_number + count
  pub apart : (n : ℕ) (g r : Grain) (x y : Held) → held_of host g ≡ Some x → held_of host r ≡ Some y → gets (passes g) new n x.phase ≡ true
      → gets (passes r) new n y.phase ≡ true → r ≡ g
  pub next_number : made.next_number ≡ host.next_number + count
  pub next_count : made.next_count ≡ host.next_count
  pub held : made.held ≡ map (made_by (λ grain phase. phase_anew (passes grain) new phase)) host.held

-- the request of an activation of the silo, of a version that it has seen, under a number
abbrev pub request_by : letters.Purpose → (version number : ℕ) → Silo → Grain → (count : ℕ) → (previous : Option ActivationId)
    → letters.Request
request_by purpose version number silo grain count previous =
    record { purpose = purpose; version = version; number = number; sender = silo; grain = grain; count = count; previous = previous }

-- the phase's request was sent, of that version
abbrev pub IsSent : Phase → (version : ℕ) → Silo → Grain → Held → List letters.Request → Type 0
IsSent (Asking k) version silo grain held sent = Sent (request_by letters.Register version k silo grain held.count held.previous) sent
IsSent Firm version silo grain held sent = ⊤
IsSent (Closing k) version silo grain held sent = Sent (request_by letters.Deregister version k silo grain held.count None) sent

-- ---- numbers
-- the number that a request has once the new numbers below this one were taken
abbrev pub number_by : Bool → (ℕ → ℕ) → (low : ℕ) → ℕ → ℕ
number_by passes new low k = cond (passes && nat_lt (new k) low) (new k) k

pub its_number : (b : Bool) (n low : ℕ) → b && (n == low) ≡ true → (b ≡ true) × (n ≡ low)
its_number true n low is = (refl, eqb-true n low is)
its_number false n low is = absurd (cc (is))

pub past : (b : Bool) (n low : ℕ) → b && (n == low) ≡ false → b ≡ true → n < low + 1 → n < low
past true n low other mine below = let apart = eqb-false n low other in omega (apart, below, arith)
past false n low other mine below = absurd (cc (mine))

pub number_past : (b : Bool) (n low k : ℕ) → b && (n == low) ≡ false → cond (b && nat_lt n (low + 1)) n k ≡ cond (b && nat_lt n low) n k
number_past true n low k other =
    on_bool (λ b. nat_lt n low ≡ b → cond (nat_lt n (low + 1)) n k ≡ cond b n k) (nat_lt n low)
    (λ t is. let below = ltb-true n low is in ap (λ b. cond b n k) (lt-ltb n (low + 1) (omega (below, arith))))
    (λ f is. let from = ltb-false n low is in let apart = eqb-false n low other in
    ap (λ b. cond b n k) (le-ltb n (low + 1) (omega (from, apart, arith)))) refl
number_past false n low k other = refl

pub number_here : (b : Bool) (n low k : ℕ) → b && (n == low) ≡ true → cond (b && nat_lt n (low + 1)) n k ≡ low
number_here true n low k same = let its = eqb-true n low same in ap (λ b. cond b n k) (lt-ltb n (low + 1) (omega (its, arith))) ∙ its
number_here false n low k same = absurd (cc (same))

pub number_before : (b : Bool) (n low k : ℕ) → low ≤ n → cond (b && nat_lt n low) n k ≡ k
number_before true n low k from = ap (λ b. cond b n k) (le-ltb n low from)
number_before false n low k from = refl

pub number_after : (b : Bool) (n end k : ℕ) → (b && (n == n) ≡ true → n < end) → cond (b && nat_lt n end) n k ≡ cond b n k
number_after true n end k below = ap (λ b. cond b n k) (lt-ltb n end (below (eq-eqb n n refl)))
number_after false n end k below = refl

-- ---- entries
-- where nothing passes a test of entries, nothing that is found does
none_pass : (test : Grain × Held → Bool) (es : List (Grain × Held)) → find test es ≡ None → All (λ e. test e ≡ false) es
none_pass test [] none = All-nil (λ e. test e ≡ false)
none_pass test (e ∷ es) none =
    on_bool (λ b. test e ≡ b → cond b (Some e) (find test es) ≡ None → All (λ x. test x ≡ false) (e ∷ es)) (test e)
    (λ t is its. absurd (cc (its))) (λ f is its. All-cons (λ x. test x ≡ false) e es is (none_pass test es its)) refl none

pub none_taken : (test : Grain × Held → Bool) (grain : Grain) (held : Held) (es : List (Grain × Held)) → find test es ≡ None
    → lookup (is_at (grain_cmp grain)) es ≡ Some held → test (grain, held) ≡ false
none_taken test grain held es none there =
    let so = found_so (λ e. test e ≡ false) (is_at (grain_cmp grain)) held es (none_pass test es none) there in
    subst (λ g. test (g, held) ≡ false) (sym (same_key grain_cmp grain_cmp_exact grain so.0 so.1)) so.2

-- where no key stands twice, what holds of all that is found holds of each entry
pub all_found : {X : Type 0} (P : Grain × X → Type 0) (es : List (Grain × X)) → AllPairs (λ e later. e.0 ≢ later.0) es
    → ((grain : Grain) (x : X) → lookup (is_at (grain_cmp grain)) es ≡ Some x → P (grain, x)) → All P es
all_found P [] once so = All-nil P
all_found {X} P (e ∷ es) once so =
    All-cons P e es (so e.0 e.1 (ap (λ b. cond b (Some e.1) (lookup (is_at (grain_cmp e.0)) es))
    (ap is_eq (tied_itself grain_cmp_total e.0))))
    (all_found P es (λ i j d lt below. once (suc i) (suc j) d (omega (arith, lt)) (omega (arith, below))) (λ grain x found.
    let there = found_so (λ (y : Grain × X). e.0 ≢ y.0) (is_at (grain_cmp grain)) x es (λ i d below. once 0 (suc i) d (omega arith) (omega (arith, below))) found in
    let other : grain ≢ e.0 = λ same. there.2 (sym same ∙ same_key grain_cmp grain_cmp_exact grain there.0 there.1) in
    so grain x (ap (λ b. cond b (Some e.1) (lookup (is_at (grain_cmp grain)) es)) (apart_in_order grain_cmp grain_cmp_exact grain e.0 other)
    ∙ found)))

-- what is made of an entry is found under its key
pub found_made : (make : Grain → Held → Held) (grain : Grain) (es : List (Grain × Held))
    → lookup (is_at (grain_cmp grain)) (map (λ e. (e.0, make e.0 e.1)) es) ≡ option_map (make grain) (lookup (is_at (grain_cmp grain)) es)
found_made make grain [] = refl
found_made make grain (e ∷ es) =
    on_bool (λ b. is_at (grain_cmp grain) e.0 ≡ b → cond b (Some (make e.0 e.1))
    (lookup (is_at (grain_cmp grain)) (map (λ x. (x.0, make x.0 x.1)) es)) ≡ option_map (make grain)
    (cond b (Some e.1) (lookup (is_at (grain_cmp grain)) es)))
    (is_at (grain_cmp grain) e.0)
    (λ t at. ap (λ g. Some (make g e.1)) (sym (same_key grain_cmp grain_cmp_exact grain e.0 at))) (λ f at. found_made make grain es) refl

-- two ways to give new numbers that are alike
pub alike : (one other : Grain → Phase → Phase) → ((grain : Grain) (phase : Phase) → one grain phase ≡ other grain phase)
    → (es : List (Grain × Held)) → map (made_by one) es ≡ map (made_by other) es
alike one other same [] = refl
alike one other same (e ∷ es) =
    ap (λ (p : Phase). let its : Grain × Held = (e.0, record e.1 { phase = p }) in its ∷ map (made_by one) es) (same e.0 e.1.phase)
    ∙ ap (λ xs. made_by other e ∷ xs) (alike one other same es)

-- The steps keep the rule.
use Rattle.std.proofs.Common.{◌≡◌, ℕ, zero, suc, List, [], ◌∷◌, ◌++◌, Option, Some, None, refl, sym, ap, ◌∙◌, subst, append_assoc, append-nil, ⊎_elim}
use Rattle.std.specs.Prelude.{IfSome, slice_set}
use Rattle.std.specs.List.{All}
use Rattle.std.proofs.lemmas.List.Elements.{All-nil, All-cons, All-head, All-tail, All-set, All-push, All-weaker}
use mathlib.Core.Option.{some, some-injective, some-ne-none}
use lib.ListN.{get_elem?}
use Rattle.atomic_table.proofs.Lists.{at_set}
use Rattle.crossbeam_utils.specs.Register.{Admits, Turns, TurnsAt, Forks, Merges}
use Rattle.hash_ring.specs.Ring.{RingValue}
use Rattle.published_rings.specs.Shown.{EditionValue, Publication, ShownValue, all_of, edition_after, publication_of, showing}
use Rattle.published_rings.specs.Rule.{Begins, IsEnd, Keeps, Looks, Opens, Adds}
use Rattle.published_rings.specs.declared.rule.Known.{Known}

-- what holds of all holds of the one at a place
all_at : {X : Type 0} (P : X → Type 0) (xs : List X) (i : ℕ) (x : X) → All P xs → get_elem? xs i ≡ some x → P x
all_at P [] i x all at = absurd (some-ne-none x (sym at))
all_at P (y ∷ ys) zero x all at = subst P (some-injective y x at) (All-head P y ys all)
all_at P (y ∷ ys) (suc i) x all at = all_at P ys i x (All-tail P y ys all) at

begins_itself : (all : List RingValue) → Begins all all
begins_itself all = ([], sym (append-nil all))

begins_longer : (seen all : List RingValue) (ring : RingValue) → Begins seen all → Begins seen (all ++ ring ∷ [])
begins_longer seen all ring b = (b.0 ++ ring ∷ [], ap (λ l. l ++ ring ∷ []) b.1 ∙ append_assoc seen b.0 (ring ∷ []))

pub begins_then : (first second third : List RingValue) → Begins first second → Begins second third → Begins first third
begins_then first second third one other = (one.0 ++ other.0, other.1 ∙ (ap (λ l. l ++ other.0) one.1 ∙ append_assoc first one.0 other.0))

-- ---- ends
abbrev pub newcomer : Known
newcomer = record { of = None; seen = [] }

new_end : (shown : ShownValue) → IsEnd shown newcomer
new_end shown = record { named = tt; begins = (all_of shown.edition, refl) }

-- who knows which publication it is of knows the one that is shown
stays_of : (own : Option Publication) (of its : Publication) → IfSome own (λ known. known ≡ of) → own ≡ Some its
    → ◌≡◌ {A = Option Publication} (Some of) (Some its)
stays_of None of its named is = absurd (cc is)
stays_of (Some known) of its named is = ap Some (sym named) ∙ is

-- ---- what keeps the rule
pub opens : (first : ShownValue) → Keeps first (newcomer ∷ [])
opens first = All-cons (IsEnd first) newcomer [] (new_end first) (All-nil (IsEnd first))

pub admits : Admits Keeps newcomer
admits x views h = All-push (IsEnd x) views newcomer h (new_end x)

pub looks : (seat : ℕ) (known : Known) → Turns Keeps seat known (λ x. x) Looks
looks seat known x views h at =
    let its = all_at (IsEnd x) views seat known h at in
    let now : Known = record { of = Some (publication_of x); seen = all_of x.edition } in (
      now,
      All-set (IsEnd x) views seat now (record { named = refl; begins = begins_itself (all_of x.edition) }) h,
      record { of = refl; all = refl; begins = its.begins; stays = λ of is. stays_of known.of (publication_of x) of its.named is },
    )

-- the first edition is shown as it is
pub opens_so : (seat : ℕ) (known : Known) (x : ShownValue) → TurnsAt Keeps seat known x x Opens
opens_so seat known x views h at =
    let its = all_at (IsEnd x) views seat known h at in
    let now : Known = record known { of = Some (publication_of x) } in
    (now, All-set (IsEnd x) views seat now (record { named = refl; begins = its.begins }) h, refl)

-- an end of the publication that shows one edition more
end_after : (x : ShownValue) (edition : EditionValue) → edition ≡ edition_after x.edition edition.ring → (known : Known) → IsEnd x known
    → IsEnd (showing x edition) known
end_after x edition follows known end =
    let y : ShownValue = showing x (edition_after x.edition edition.ring) in
    subst (λ (e : EditionValue). IsEnd (showing x e) known) (sym follows)
    (record { named = end.named; begins = begins_longer known.seen (all_of x.edition) edition.ring end.begins })

pub adds : (seat : ℕ) (known : Known) (x : ShownValue) (edition : EditionValue) → edition ≡ edition_after x.edition edition.ring
    → TurnsAt Keeps seat known x (showing x edition) Adds
adds seat known x edition follows views h at =
    let y = showing x edition in
    let all : All (IsEnd y) views = All-weaker (IsEnd x) (IsEnd y) (end_after x edition follows) views h in
    (known, All-set (IsEnd y) views seat known (all_at (IsEnd y) views seat known all at) all, refl)

-- an end tells what it knows, and knows it still
pub tells : (seat : ℕ) (known : Known) → Forks Keeps seat known known known
tells seat known x views h at =
    let its = all_at (IsEnd x) views seat known h at in
    All-push (IsEnd x) (slice_set views seat known) known (All-set (IsEnd x) views seat known its h) its

-- an end knows what it was told
pub hears : (seat : ℕ) (known : Known) (other : ℕ) (told : Known) → Merges Keeps seat known other told told newcomer
hears seat known other told x views h at apart there =
    let its : IsEnd x told = ⊎_elim (λ same. absurd (apart same.0)) (λ found. all_at (IsEnd x) views other told h found.1) (at_set views seat other told told there) in
    All-set (IsEnd x) (slice_set views seat told) other newcomer (new_end x) (All-set (IsEnd x) views seat told its h)

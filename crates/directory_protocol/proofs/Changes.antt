-- What a changed function is: the lemmas by which each clause is split into the changed place and all others.
use Rattle.std.proofs.Common.{◌≡◌, ◌≢◌, ◌⊎◌, ◌&&◌, Bool, true, false, cond, List, ◌∷◌, inl, inr, sym, refl, ap, ◌∙◌, subst, true≢false}
use Rattle.silo_address.specs.Silo.{Silo, silo_eq}
use Rattle.silo_address.specs.Grain.{Grain, grain_eq}
use Rattle.silo_address.proofs.Same.{Decides-silo, Decides-grain}
use Rattle.directory_protocol.specs.Change.{put, put_grain, put_at}
use Rattle.directory_protocol.specs.Letters.{Sent}

-- ---- tests

pub on_bool : (P : Bool → Type 0) (b : Bool) → (b ≡ true → P true) → (b ≡ false → P false) → P b
on_bool P true here there = here refl
on_bool P false here there = there refl

-- a test that passes or fails
pub bool_cases : (b : Bool) → (b ≡ true) ⊎ (b ≡ false)
bool_cases true = inl refl
bool_cases false = inr refl

pub not_both : {A : Type 0} {b : Bool} → b ≡ true → b ≡ false → A
not_both p q = absurd (true≢false (sym p ∙ q))

pub silo_cases : (q s : Silo) → (q ≡ s) ⊎ (q ≢ s)
silo_cases q s =
    elim (bool_cases (silo_eq q s)) [
      | inl t ↦ inl ((Decides-silo q s).0 t)
      | inr t ↦ inr (λ e. not_both ((Decides-silo q s).1 e) t)
    ]

pub grain_cases : (r g : Grain) → (r ≡ g) ⊎ (r ≢ g)
grain_cases r g =
    elim (bool_cases (grain_eq r g)) [
      | inl t ↦ inl ((Decides-grain r g).0 t)
      | inr t ↦ inr (λ e. not_both ((Decides-grain r g).1 e) t)
    ]

-- ---- at a silo

pub put_all :
    {X : Type 0} (P : Silo → X → Type 0) (s : Silo) (x : X) (f : Silo → X) → P s x → ((q : Silo) → q ≢ s → P q (f q)) → (q : Silo)
    → P q (put s x f q)
unfolding put
put_all P s x f here there q =
    on_bool (λ b. P q (cond b x (f q))) (silo_eq q s) (λ t. subst (λ k. P k x) (sym ((Decides-silo q s).0 t)) here)
    (λ t. there q (λ e. not_both ((Decides-silo q s).1 e) t))

pub put_same : {X : Type 0} (s : Silo) (x : X) (f : Silo → X) → put s x f s ≡ x
unfolding put
put_same s x f = ap (λ b. cond b x (f s)) ((Decides-silo s s).1 refl)

pub put_other : {X : Type 0} (s : Silo) (x : X) (f : Silo → X) (q : Silo) → q ≢ s → put s x f q ≡ f q
put_other s x f = put_all (λ q y. q ≢ s → y ≡ f q) s x f (λ n. absurd (n refl)) (λ q n m. refl)

-- ---- at a grain

pub put_grain_all :
    {X : Type 0} (P : Grain → X → Type 0) (g : Grain) (x : X) (f : Grain → X) → P g x → ((r : Grain) → r ≢ g → P r (f r))
    → (r : Grain) → P r (put_grain g x f r)
unfolding put_grain
put_grain_all P g x f here there r =
    on_bool (λ b. P r (cond b x (f r))) (grain_eq r g) (λ t. subst (λ k. P k x) (sym ((Decides-grain r g).0 t)) here)
    (λ t. there r (λ e. not_both ((Decides-grain r g).1 e) t))

pub put_grain_same : {X : Type 0} (g : Grain) (x : X) (f : Grain → X) → put_grain g x f g ≡ x
unfolding put_grain
put_grain_same g x f = ap (λ b. cond b x (f g)) ((Decides-grain g g).1 refl)

pub put_grain_other : {X : Type 0} (g : Grain) (x : X) (f : Grain → X) (r : Grain) → r ≢ g → put_grain g x f r ≡ f r
put_grain_other g x f = put_grain_all (λ r y. r ≢ g → y ≡ f r) g x f (λ n. absurd (n refl)) (λ r n m. refl)

-- ---- at a silo and a grain

both :
    (P : Bool → Type 0) (b c : Bool) → (b ≡ true → c ≡ true → P true) → (b ≡ false → P false) → (b ≡ true → c ≡ false → P false)
    → P (b && c)
both P true true here left right = here refl refl
both P true false here left right = right refl refl
both P false true here left right = left refl
both P false false here left right = left refl

pub put_at_all :
    {X : Type 0} (P : Silo → Grain → X → Type 0) (s : Silo) (g : Grain) (x : X) (f : Silo → Grain → X) → P s g x
    → ((q : Silo) (r : Grain) → (q ≡ s → r ≢ g) → P q r (f q r)) → (q : Silo) (r : Grain) → P q r (put_at s g x f q r)
unfolding put_at
put_at_all P s g x f here there q r =
    both (λ b. P q r (cond b x (f q r))) (silo_eq q s) (grain_eq r g)
    (λ t u. subst (λ k. P k r x) (sym ((Decides-silo q s).0 t)) (subst (λ k. P s k x) (sym ((Decides-grain r g).0 u)) here))
    (λ t. there q r (λ e d. not_both ((Decides-silo q s).1 e) t))
    (λ t u. there q r (λ e d. not_both ((Decides-grain r g).1 d) u))

pub put_at_same : {X : Type 0} (s : Silo) (g : Grain) (x : X) (f : Silo → Grain → X) → put_at s g x f s g ≡ x
unfolding put_at
put_at_same s g x f =
    ap (λ b. cond (b && grain_eq g g) x (f s g)) ((Decides-silo s s).1 refl)
    ∙ ap (λ b. cond (true && b) x (f s g)) ((Decides-grain g g).1 refl)

pub put_at_other :
    {X : Type 0} (s : Silo) (g : Grain) (x : X) (f : Silo → Grain → X) (q : Silo) (r : Grain) → (q ≡ s → r ≢ g)
    → put_at s g x f q r ≡ f q r
put_at_other s g x f = put_at_all (λ q r y. (q ≡ s → r ≢ g) → y ≡ f q r) s g x f (λ n. absurd (n refl refl)) (λ q r n m. refl)

-- ---- letters

pub sent_all : {X : Type 0} (P : X → Type 0) (y : X) (ys : List X) → P y → ((x : X) → Sent x ys → P x) → (x : X) → Sent x (y ∷ ys) → P x
sent_all P y ys new old x q = elim q [ inl e ↦ subst P (sym e) new | inr d ↦ old x d ]

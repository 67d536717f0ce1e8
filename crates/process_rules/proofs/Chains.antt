-- Readings one after another: what each gives, and that all were read where something is given.
use Rattle.std.proofs.Common.{◌≡◌, ℕ, Result, Ok, Err, refl, ap, sym, ◌∙◌, subst}
use Rattle.std.specs.Prelude.{IfOk}
use Rattle.std.specs.Result.{result_unwrap_or}
use Rattle.script_rules.specs.Script.{◌>>=◌}

pub ok_is : {A : Type 0} {a b : A} → ◌≡◌ {A = Result A ℕ} (Ok a) (Ok b) → a ≡ b
ok_is {A = A} {a = a} same = ap (λ (r : Result A ℕ). result_unwrap_or r a) same

-- a reading gives what was said, or nothing
abbrev pub IsSaid : {A : Type 0} → Result A ℕ → A → Type 0
IsSaid read told = IfOk read (λ given. given ≡ told)

pub is_said : {A : Type 0} (read : Result A ℕ) (told : A) → read ≡ Ok told → IsSaid read told
is_said {A = A} read told is = subst (λ (r : Result A ℕ). IsSaid r told) (sym is) refl

pub one_said : {A X : Type 0} (make : A → X) (x : Result A ℕ) (a : A) → IsSaid x a → IsSaid (x >>= λ p. Ok (make p)) (make a)
one_said make (Ok p) a first = ap make first
one_said make (Err fault) a first = tt

module _ {A B X : Type 0} (make : A → B → X) where
  pub two_again : (x : Result A ℕ) (y : Result B ℕ) (a : A) (b : B) → x ≡ Ok a → y ≡ Ok b
      → (x >>= λ p. y >>= λ q. Ok (make p q)) ≡ Ok (make a b)
  two_again x y a b first second = ap (λ o. o >>= λ p. y >>= λ q. Ok (make p q)) first ∙ ap (λ o. o >>= λ q. Ok (make a q)) second

  pub two_said : (x : Result A ℕ) (y : Result B ℕ) (a : A) (b : B) → IsSaid x a → IsSaid y b
      → IsSaid (x >>= λ p. y >>= λ q. Ok (make p q)) (make a b)
  two_said (Ok p) y a b first second = subst (λ m. IsSaid (y >>= λ q. Ok (make p q)) (make m b)) first (one_said (make p) y b second)
  two_said (Err fault) y a b first second = tt

  pub two_gave : (x : Result A ℕ) (y : Result B ℕ) (z : X) → (x >>= λ p. y >>= λ q. Ok (make p q)) ≡ Ok z
      → (a : A) × (b : B) × (x ≡ Ok a) × (y ≡ Ok b) × (make a b ≡ z)
  two_gave (Ok a) (Ok b) z is = (a, b, refl, refl, ok_is is)
  two_gave (Ok a) (Err fault) z is = cc is
  two_gave (Err fault) y z is = cc is

module _ {A B C X : Type 0} (make : A → B → C → X) where
  pub three_again : (x : Result A ℕ) (y : Result B ℕ) (z : Result C ℕ) (a : A) (b : B) (c : C) → x ≡ Ok a → y ≡ Ok b → z ≡ Ok c
      → (x >>= λ p. y >>= λ q. z >>= λ r. Ok (make p q r)) ≡ Ok (make a b c)
  three_again x y z a b c first second third =
      ap (λ o. o >>= λ p. y >>= λ q. z >>= λ r. Ok (make p q r)) first ∙ two_again (make a) y z b c second third

  pub three_said : (x : Result A ℕ) (y : Result B ℕ) (z : Result C ℕ) (a : A) (b : B) (c : C) → IsSaid x a → IsSaid y b → IsSaid z c
      → IsSaid (x >>= λ p. y >>= λ q. z >>= λ r. Ok (make p q r)) (make a b c)
  three_said (Ok p) y z a b c first second third =
      subst (λ m. IsSaid (y >>= λ q. z >>= λ r. Ok (make p q r)) (make m b c)) first (two_said (make p) y z b c second third)
  three_said (Err fault) y z a b c first second third = tt

  pub three_gave : (x : Result A ℕ) (y : Result B ℕ) (z : Result C ℕ) (w : X) → (x >>= λ p. y >>= λ q. z >>= λ r. Ok (make p q r)) ≡ Ok w
      → (a : A) × (b : B) × (c : C) × (x ≡ Ok a) × (y ≡ Ok b) × (z ≡ Ok c) × (make a b c ≡ w)
  three_gave (Ok a) y z w is = let rest = two_gave (make a) y z w is in (a, rest.0, rest.1, refl, rest.2, rest.3, rest.4)
  three_gave (Err fault) y z w is = cc is

module _ {A B C D X : Type 0} (make : A → B → C → D → X) where
  pub four_again : (x : Result A ℕ) (y : Result B ℕ) (z : Result C ℕ) (w : Result D ℕ) (a : A) (b : B) (c : C) (d : D) → x ≡ Ok a → y ≡ Ok b
      → z ≡ Ok c → w ≡ Ok d
      → (x >>= λ p. y >>= λ q. z >>= λ r. w >>= λ s. Ok (make p q r s)) ≡ Ok (make a b c d)
  four_again x y z w a b c d first second third fourth =
      ap (λ o. o >>= λ p. y >>= λ q. z >>= λ r. w >>= λ s. Ok (make p q r s)) first ∙ three_again (make a) y z w b c d second third fourth

  pub four_said : (x : Result A ℕ) (y : Result B ℕ) (z : Result C ℕ) (w : Result D ℕ) (a : A) (b : B) (c : C) (d : D) → IsSaid x a
      → IsSaid y b → IsSaid z c → IsSaid w d
      → IsSaid (x >>= λ p. y >>= λ q. z >>= λ r. w >>= λ s. Ok (make p q r s)) (make a b c d)
  four_said (Ok p) y z w a b c d first second third fourth =
      subst (λ m. IsSaid (y >>= λ q. z >>= λ r. w >>= λ s. Ok (make p q r s)) (make m b c d)) first
      (three_said (make p) y z w b c d second third fourth)
  four_said (Err fault) y z w a b c d first second third fourth = tt

  pub four_gave : (x : Result A ℕ) (y : Result B ℕ) (z : Result C ℕ) (w : Result D ℕ) (v : X)
      → (x >>= λ p. y >>= λ q. z >>= λ r. w >>= λ s. Ok (make p q r s)) ≡ Ok v
      → (a : A) × (b : B) × (c : C) × (d : D) × (x ≡ Ok a) × (y ≡ Ok b) × (z ≡ Ok c) × (w ≡ Ok d) × (make a b c d ≡ v)
  four_gave (Ok a) y z w v is =
      let rest = three_gave (make a) y z w v is in (a, rest.0, rest.1, rest.2, refl, rest.3, rest.4, rest.5, rest.6)
  four_gave (Err fault) y z w v is = cc is

module _ {A B C D E X : Type 0} (make : A → B → C → D → E → X) where
  pub five_again : (x : Result A ℕ) (y : Result B ℕ) (z : Result C ℕ) (w : Result D ℕ) (v : Result E ℕ) (a : A) (b : B) (c : C) (d : D) (e : E)
      → x ≡ Ok a → y ≡ Ok b → z ≡ Ok c → w ≡ Ok d → v ≡ Ok e
      → (x >>= λ p. y >>= λ q. z >>= λ r. w >>= λ s. v >>= λ t. Ok (make p q r s t)) ≡ Ok (make a b c d e)
  five_again x y z w v a b c d e first second third fourth fifth =
      ap (λ i. i >>= λ p. y >>= λ q. z >>= λ r. w >>= λ s. v >>= λ t. Ok (make p q r s t)) first
      ∙ four_again (make a) y z w v b c d e second third fourth fifth

  pub five_said : (x : Result A ℕ) (y : Result B ℕ) (z : Result C ℕ) (w : Result D ℕ) (v : Result E ℕ) (a : A) (b : B) (c : C) (d : D) (e : E)
      → IsSaid x a → IsSaid y b → IsSaid z c → IsSaid w d → IsSaid v e
      → IsSaid (x >>= λ p. y >>= λ q. z >>= λ r. w >>= λ s. v >>= λ t. Ok (make p q r s t)) (make a b c d e)
  five_said (Ok p) y z w v a b c d e first second third fourth fifth =
      subst (λ m. IsSaid (y >>= λ q. z >>= λ r. w >>= λ s. v >>= λ t. Ok (make p q r s t)) (make m b c d e)) first
      (four_said (make p) y z w v b c d e second third fourth fifth)
  five_said (Err fault) y z w v a b c d e first second third fourth fifth = tt

  pub five_gave : (x : Result A ℕ) (y : Result B ℕ) (z : Result C ℕ) (w : Result D ℕ) (v : Result E ℕ) (i : X)
      → (x >>= λ p. y >>= λ q. z >>= λ r. w >>= λ s. v >>= λ t. Ok (make p q r s t)) ≡ Ok i
      → (a : A) × (b : B) × (c : C) × (d : D) × (e : E) × (x ≡ Ok a) × (y ≡ Ok b) × (z ≡ Ok c) × (w ≡ Ok d) × (v ≡ Ok e) ×
      (make a b c d e ≡ i)
  five_gave (Ok a) y z w v i is =
      let rest = four_gave (make a) y z w v i is in
      (a, rest.0, rest.1, rest.2, rest.3, refl, rest.4, rest.5, rest.6, rest.7, rest.8)
  five_gave (Err fault) y z w v i is = cc is

module _ {A B C D E F X : Type 0} (make : A → B → C → D → E → F → X) where
  pub six_again : (x : Result A ℕ) (y : Result B ℕ) (z : Result C ℕ) (w : Result D ℕ) (v : Result E ℕ) (u : Result F ℕ) (a : A) (b : B)
      (c : C) (d : D) (e : E) (f : F)
      → x ≡ Ok a → y ≡ Ok b → z ≡ Ok c → w ≡ Ok d → v ≡ Ok e → u ≡ Ok f
      → (x >>= λ p. y >>= λ q. z >>= λ r. w >>= λ s. v >>= λ t. u >>= λ o. Ok (make p q r s t o)) ≡ Ok (make a b c d e f)
  six_again x y z w v u a b c d e f first second third fourth fifth sixth =
      ap (λ i. i >>= λ p. y >>= λ q. z >>= λ r. w >>= λ s. v >>= λ t. u >>= λ o. Ok (make p q r s t o)) first
      ∙ ap (λ i. i >>= λ q. z >>= λ r. w >>= λ s. v >>= λ t. u >>= λ o. Ok (make a q r s t o)) second
      ∙ four_again (make a b) z w v u c d e f third fourth fifth sixth

  pub six_said : (x : Result A ℕ) (y : Result B ℕ) (z : Result C ℕ) (w : Result D ℕ) (v : Result E ℕ) (u : Result F ℕ) (a : A) (b : B)
      (c : C) (d : D) (e : E) (f : F)
      → IsSaid x a → IsSaid y b → IsSaid z c → IsSaid w d → IsSaid v e → IsSaid u f
      → IsSaid (x >>= λ p. y >>= λ q. z >>= λ r. w >>= λ s. v >>= λ t. u >>= λ o. Ok (make p q r s t o)) (make a b c d e f)
  six_said (Ok p) (Ok q) z w v u a b c d e f first second third fourth fifth sixth =
      subst (λ m. IsSaid (z >>= λ r. w >>= λ s. v >>= λ t. u >>= λ o. Ok (make p q r s t o)) (make m b c d e f)) first
      (subst (λ n. IsSaid (z >>= λ r. w >>= λ s. v >>= λ t. u >>= λ o. Ok (make p q r s t o)) (make p n c d e f)) second
      (four_said (make p q) z w v u c d e f third fourth fifth sixth))
  six_said (Ok p) (Err fault) z w v u a b c d e f first second third fourth fifth sixth = tt
  six_said (Err fault) y z w v u a b c d e f first second third fourth fifth sixth = tt

  pub six_gave : (x : Result A ℕ) (y : Result B ℕ) (z : Result C ℕ) (w : Result D ℕ) (v : Result E ℕ) (u : Result F ℕ) (i : X)
      → (x >>= λ p. y >>= λ q. z >>= λ r. w >>= λ s. v >>= λ t. u >>= λ o. Ok (make p q r s t o)) ≡ Ok i
      → (a : A) × (b : B) × (c : C) × (d : D) × (e : E) × (f : F) × (x ≡ Ok a) × (y ≡ Ok b) × (z ≡ Ok c) × (w ≡ Ok d) × (v ≡ Ok e) ×
      (u ≡ Ok f) × (make a b c d e f ≡ i)
  six_gave (Ok a) (Ok b) z w v u i is =
      let rest = four_gave (make a b) z w v u i is in
      (a, b, rest.0, rest.1, rest.2, rest.3, refl, refl, rest.4, rest.5, rest.6, rest.7, rest.8)
  six_gave (Ok a) (Err fault) z w v u i is = cc is
  six_gave (Err fault) y z w v u i is = cc is

-- The least fresh letter to a silo is in the mail, under its number, and is to that silo.
use Rattle.std.proofs.Common.{arith, ◌≡◌, refl, ap, subst, ◌∙◌, ℕ, List, [], ◌∷◌, ◌<◌}
use Rattle.std.specs.Prelude.{◌&&◌, Bool, true, false, cond, find, Option, Some, None, option_map, unwrap_or}
use Rattle.std.specs.Ordering.{nat_cmp}
use Rattle.std.specs.Map.{lookup}
use Rattle.std.specs.BTreeMap.{is_at}
use Rattle.std.proofs.lemmas.Bool.Decides.{nat_tests}
use Rattle.texts.proofs.Orderings.{Equal-from}
use Rattle.silo_address.specs.Silo.{Silo, silo_cmp}
use Rattle.silo_address.proofs.Order.{silo_cmp_exact}
use Rattle.directory_rules.specs.Laws.{RiseBetween}
use Rattle.directory_rules.specs.State.{Letter, Posted, World}
use Rattle.directory_rules.specs.Mail.{letter_of}
use Rattle.directory_rules.proofs.Cases.{on_bool}

abbrev Mail : Type 0
Mail = List (ℕ × Posted)

-- whether the letter is fresh and to the silo
abbrev is_to : Silo → Posted → Bool
is_to silo posted = posted.fresh && is_at (silo_cmp posted.letter.to) silo

abbrev first_to : Silo → Mail → Option (ℕ × Posted)
first_to silo mail = find (λ e. is_to silo e.1) mail

both : (a b : Bool) → (a && b) ≡ true → b ≡ true
both true b is = is
both false b is = absurd (cc (is))

above : (silo : Silo) (low high : ℕ) (mail : Mail) (e : ℕ × Posted) → RiseBetween low high mail → first_to silo mail ≡ Some e → low < e.0
above silo low high [] e rise found = absurd (let no : None ≡ Some e = found in cc)
above silo low high (x ∷ mail) e rise found =
    on_bool (λ b. cond b (Some x) (first_to silo mail) ≡ Some e → low < e.0) (is_to silo x.1)
    (λ here found. let same : x.0 ≡ e.0 = ap (λ (o : Option (ℕ × Posted)). (unwrap_or o e).0) found in let first = rise.0 in
    omega (arith, same, first))
    (λ later found. let rest = above silo x.0 high mail e rise.1 found in let first = rise.0 in omega (arith, rest, first))
    found

at_itself : (number : ℕ) → is_at (nat_cmp number) number ≡ true
at_itself number = grind (arith, nat_tests)

at_lower : (number lower : ℕ) → lower < number → is_at (nat_cmp number) lower ≡ false
at_lower number lower lt = grind (arith, nat_tests)

record IsFirst (silo : Silo) (mail : Mail) (e : ℕ × Posted) : Type 0 where
  found : lookup (is_at (nat_cmp e.0)) mail ≡ Some e.1
  its : e.1.letter.to ≡ silo

first_so : (silo : Silo) (low high : ℕ) (mail : Mail) (e : ℕ × Posted) → RiseBetween low high mail → first_to silo mail ≡ Some e
    → IsFirst silo mail e
first_so silo low high [] e rise found = absurd (let no : None ≡ Some e = found in cc)
first_so silo low high (x ∷ mail) e rise found =
    on_bool (λ b. is_to silo x.1 ≡ b → cond b (Some x) (first_to silo mail) ≡ Some e → IsFirst silo (x ∷ mail) e) (is_to silo x.1)
    (λ here tested found.
    let same : x ≡ e = ap (λ (o : Option (ℕ × Posted)). unwrap_or o e) found in
    subst (λ (y : ℕ × Posted). IsFirst silo (x ∷ mail) y) same (record {
      found = ap (λ b. cond b (Some x.1) (lookup (is_at (nat_cmp x.0)) mail)) (at_itself x.0);
      its =
          silo_cmp_exact x.1.letter.to silo (Equal-from (silo_cmp x.1.letter.to silo)
          (both x.1.fresh (is_at (silo_cmp x.1.letter.to) silo) tested));
    }))
    (λ later tested found.
    let rest = first_so silo x.0 high mail e rise.1 found in
    record {
      found =
          ap (λ b. cond b (Some x.1) (lookup (is_at (nat_cmp e.0)) mail)) (at_lower e.0 x.0 (above silo x.0 high mail e rise.1 found))
          ∙ rest.found;
      its = rest.its;
    })
    refl found

-- there is such a letter, and it is to the silo
pub record IsMailedTo (world : World) (silo : Silo) (number : ℕ) : Type 0 where
  pub letter : Letter
  pub mailed : letter_of world number ≡ Some letter
  pub its : letter.to ≡ silo

pub mailed_to : (world : World) (silo : Silo) (number high : ℕ) → RiseBetween 0 high world.mail
    → option_map (λ (e : ℕ × Posted). e.0) (first_to silo world.mail) ≡ Some number → IsMailedTo world silo number
mailed_to world silo number high rise is = by (first_to silo world.mail) refl is
  where
    by : (found : Option (ℕ × Posted)) → first_to silo world.mail ≡ found → option_map (λ (e : ℕ × Posted). e.0) found ≡ Some number
        → IsMailedTo world silo number
    by None found is = absurd (let no : None ≡ Some number = is in cc)
    by (Some e) found is =
        let first = first_so silo 0 high world.mail e rise found in
        let same : e.0 ≡ number = ap (λ (o : Option ℕ). unwrap_or o number) is in
        subst (λ (n : ℕ). IsMailedTo world silo n) same
        (record {
          letter = e.1.letter;
          mailed = ap (λ (o : Option Posted). option_map (λ (p : Posted). p.letter) o) first.found;
          its = first.its;
        })

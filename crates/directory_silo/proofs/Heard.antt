-- A change of the next version, as it is heard: what it makes, or its refusal.
use Rattle.std.proofs.Common.{arith, ◌≡◌, ℕ, ◌+◌, ◌<◌, ap, ◌∙◌, Bool, true, false, cond}
use Rattle.std.specs.Prelude.{◌==◌, nat_le, not, IsSomeAnd, Option, Some, None, Result, Ok, Err}
use Rattle.std.proofs.lemmas.Bool.Decides.{nat_tests}
use Rattle.directory_rules.specs.Settings.{Settings}
use Rattle.directory_rules.specs.Membership.{Change, Membership, changed, replaced_by}
use Rattle.directory_node.specs.Follows.{RefusesBy}
use Rattle.silo_rules.specs.Told.{IsNever, heard_by, news_of, told, told_again}

module _ (settings : Settings) (m : Membership) (version : ℕ) (change : Change) (newer : m.views.version < version)
    (next : (version == m.views.version + 1) ≡ true) where
  not_known : nat_le version m.views.version ≡ false
  not_known = grind (arith, nat_tests)

  heard_next : (o : Result Membership ℕ) → changed settings m change ≡ o
      → told settings m version change ≡ heard_by o (replaced_by m change)
  heard_next o is =
      ap (λ (b : Bool). cond b (told_again m version change)
      (cond (not (version == m.views.version + 1)) (Err 206) (heard_by (changed settings m change) (replaced_by m change)))) not_known
      ∙ ap (λ (b : Bool). cond (not b) (Err 206) (heard_by (changed settings m change) (replaced_by m change))) next
      ∙ ap (λ (o : Result Membership ℕ). heard_by o (replaced_by m change)) is

  -- it is made
  pub made_next : (made : Membership) → changed settings m change ≡ Ok made
      → told settings m version change ≡ Ok (record { membership = made; news = news_of (replaced_by m change) })
  made_next made is = heard_next (Ok made) is

  -- or refused by its number
  pub refused_next : (number : Option ℕ) → IsSomeAnd number (λ n. changed settings m change ≡ Err n)
      → RefusesBy IsNever number (told settings m version change)
  refused_next None is = absurd is
  refused_next (Some number) is = heard_next (Err number) is

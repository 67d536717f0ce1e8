-- A letter that was lost is in no mail again.
use Rattle.std.proofs.Common.{arith, ◌≡◌, refl, sym, ap, subst, ◌∙◌, ℕ, List, [], ◌∷◌, ◌++◌, ◌+◌, ◌<◌, ◌≤◌}
use Rattle.std.specs.Prelude.{Bool, true, false, cond, map, is_some, nat_lt, Option, Some, None, Result, Ok, Err}
use Rattle.std.specs.Option.{option_map}
use Rattle.std.specs.Ordering.{nat_cmp}
use Rattle.std.specs.List.{enumerate_from}
use Rattle.std.specs.Map.{lookup, set_value, remove_entry}
use Rattle.std.specs.BTreeMap.{is_at}
use Rattle.std.proofs.lemmas.Map.Lookups.{exact_unsigned}
use Rattle.texts.proofs.Orderings.{Equal-from}
use Rattle.directory_rules.specs.Settings.{Settings}
use Rattle.directory_rules.specs.State.{Letter, Posted, World, Accepted}
use Rattle.directory_rules.specs.Event.{Event, Lose}
use Rattle.directory_rules.specs.declared.outcome.Happening.TheVariants.{Lost}
use Rattle.directory_rules.specs.Mail.{letter_of, with_lost, fresh_letter, numbered}
use Rattle.directory_rules.specs.Happens as rule
use Rattle.directory_rules.specs.Run.{run, run_from_start}
use Rattle.directory_rules.specs.Laws.{RiseBetween, IsMail}
use Rattle.directory_rules.proofs.Cases.{on_bool}
use Rattle.directory_rules.proofs.Kept.{Keeps, run_keeps}
use Rattle.directory_rules.proofs.Mails.{mail_there}

-- the number was sent, and is in the mail no more
pub record IsGone (number : ℕ) (mail : List (ℕ × Posted)) (sent : ℕ) : Type 0 where
  pub was_sent : number ≤ sent
  pub gone : lookup (is_at (nat_cmp number)) mail ≡ None

-- another number isn't this one
apart : (number other : ℕ) → number < other → is_at (nat_cmp number) other ≡ false
apart number other below = by_test (is_at (nat_cmp number) other) refl where
  by_test : (b : Bool) → is_at (nat_cmp number) other ≡ b → is_at (nat_cmp number) other ≡ false
  by_test false is = is
  by_test true is = absurd (omega (below, exact_unsigned number other (Equal-from (nat_cmp number other) is), arith))

none_above : (number low high : ℕ) (mail : List (ℕ × Posted)) → number ≤ low → RiseBetween low high mail
    → lookup (is_at (nat_cmp number)) mail ≡ None
none_above number low high [] le rise = refl
none_above number low high (e ∷ es) le rise =
    ap (λ b. cond b (Some e.1) (lookup (is_at (nat_cmp number)) es)) (apart number e.0 (omega (le, rise.0, arith)))
    ∙ none_above number e.0 high es (omega (le, rise.0, arith)) rise.1

none_numbered : (number sent : ℕ) (letters : List Letter) → number ≤ sent
    → lookup (is_at (nat_cmp number)) (map (λ e. (e.0, fresh_letter e.1)) (enumerate_from (sent + 1) letters)) ≡ None
none_numbered number sent [] le = refl
none_numbered number sent (letter ∷ letters) le =
    ap (λ b. cond b (Some (fresh_letter letter)) (lookup (is_at (nat_cmp number))
    (map (λ e. (e.0, fresh_letter e.1)) (enumerate_from (sent + 1 + 1) letters)))) (apart number (sent + 1) (omega (le, arith)))
    ∙ none_numbered number (sent + 1) letters (omega (le, arith))

none_append : (test : ℕ → Bool) (xs ys : List (ℕ × Posted)) → lookup test xs ≡ None → lookup test ys ≡ None → lookup test (xs ++ ys) ≡ None
none_append test [] ys first then = then
none_append test (e ∷ es) ys first then =
    on_bool (λ b. cond b (Some e.1) (lookup test es) ≡ None → cond b (Some e.1) (lookup test (es ++ ys)) ≡ None) (test e.0)
    (λ t some. absurd (cc (some))) (λ f none. none_append test es ys none then) first

none_set : (test at : ℕ → Bool) (mail : List (ℕ × Posted)) (posted : Posted) → lookup test mail ≡ None
    → lookup test (set_value at mail posted) ≡ None
none_set test at [] posted none = refl
none_set test at (e ∷ es) posted none =
    on_bool (λ b. lookup test (cond b ((e.0, posted) ∷ es) (e ∷ set_value at es posted)) ≡ None) (at e.0)
    (λ t. on_bool (λ b. cond b (Some e.1) (lookup test es) ≡ None → cond b (Some posted) (lookup test es) ≡ None) (test e.0)
    (λ u some. absurd (cc (some))) (λ u rest. rest) none)
    (λ f. on_bool (λ b. cond b (Some e.1) (lookup test es) ≡ None → cond b (Some e.1) (lookup test (set_value at es posted)) ≡ None)
    (test e.0) (λ u some. absurd (cc (some))) (λ u rest. none_set test at es posted rest) none)

none_remove : (test at : ℕ → Bool) (mail : List (ℕ × Posted)) → lookup test mail ≡ None → lookup test (remove_entry at mail) ≡ None
none_remove test at [] none = refl
none_remove test at (e ∷ es) none = on_bool (λ b. lookup test (cond b es (e ∷ remove_entry at es)) ≡ None) (at e.0)
    (λ t. on_bool (λ b. cond b (Some e.1) (lookup test es) ≡ None → lookup test es ≡ None) (test e.0) (λ u some. absurd (cc (some)))
    (λ u rest. rest) none)
    (λ f. on_bool (λ b. cond b (Some e.1) (lookup test es) ≡ None → cond b (Some e.1) (lookup test (remove_entry at es)) ≡ None) (test e.0)
    (λ u some. absurd (cc (some))) (λ u rest. none_remove test at es rest) none)

gone_keeps : (number : ℕ) → Keeps (λ settings mail sent. IsGone number mail sent)
gone_keeps number = record {
  sending =
      λ world letters room is. record {
        was_sent = omega (is.was_sent, arith);
        gone = none_append (is_at (nat_cmp number)) world.mail
            (numbered world letters) is.gone (none_numbered number world.sent letters is.was_sent);
      };
  delivering =
      λ settings mail sent other posted is. record {
        was_sent = is.was_sent;
        gone = none_set (is_at (nat_cmp number))
            (is_at (nat_cmp other)) mail posted is.gone;
      };
  losing =
      λ settings mail sent other is. record {
        was_sent = is.was_sent;
        gone = none_remove (is_at (nat_cmp number)) (is_at (nat_cmp other))
            mail is.gone;
      };
}

-- a letter that is in the mail was sent, and after its loss is there no more
taken_out : (number low high : ℕ) (mail : List (ℕ × Posted)) → RiseBetween low high mail
    → lookup (is_at (nat_cmp number)) (remove_entry (is_at (nat_cmp number)) mail) ≡ None
taken_out number low high [] rise = refl
taken_out number low high (e ∷ es) rise =
    on_bool (λ b. is_at (nat_cmp number) e.0 ≡ b → lookup (is_at (nat_cmp number))
    (cond b es (e ∷ remove_entry (is_at (nat_cmp number)) es)) ≡ None) (is_at (nat_cmp number) e.0)
    (λ t at. none_above number e.0 high es (omega (exact_unsigned number e.0 (Equal-from (nat_cmp number e.0) at), arith)) rise.1)
    (λ f at. ap (λ b. cond b (Some e.1) (lookup (is_at (nat_cmp number)) (remove_entry (is_at (nat_cmp number)) es))) at
    ∙ taken_out number e.0 high es rise.1)
    refl

high_above : (low high : ℕ) (mail : List (ℕ × Posted)) → RiseBetween low high mail → low ≤ high
high_above low high [] rise = rise
high_above low high (e ∷ es) rise = let rest = high_above e.0 high es rise.1 in omega (rest, rise.0, arith)

found_sent : (number low high : ℕ) (mail : List (ℕ × Posted)) (posted : Posted) → RiseBetween low high mail
    → lookup (is_at (nat_cmp number)) mail ≡ Some posted → number ≤ high
found_sent number low high [] posted rise found = absurd (cc (found))
found_sent number low high (e ∷ es) posted rise found =
    on_bool (λ b. is_at (nat_cmp number) e.0 ≡ b → cond b (Some e.1) (lookup (is_at (nat_cmp number)) es) ≡ Some posted → number ≤ high)
    (is_at (nat_cmp number) e.0)
    (λ t at some. let up = high_above e.0 high es rise.1 in
    omega (exact_unsigned number e.0 (Equal-from (nat_cmp number e.0) at), up, arith))
    (λ f at rest. found_sent number e.0 high es posted rise.1 rest)
    refl found

some_sent : (number : ℕ) (mail : List (ℕ × Posted)) (sent : ℕ) (found : Option Posted) → RiseBetween 0 sent mail
    → lookup (is_at (nat_cmp number)) mail ≡ found → is_some (option_map (λ posted. posted.letter) found) ≡ true → number ≤ sent
some_sent number mail sent None rise is some = absurd (cc (some))
some_sent number mail sent (Some posted) rise is some = found_sent number 0 sent mail posted rise is

gone_from : (number : ℕ) (world : World) → IsMail world.settings world.mail world.sent → is_some (letter_of world number) ≡ true
    → IsGone number (rule.counted (with_lost world number)).mail (rule.counted (with_lost world number)).sent
gone_from number world mail there = record {
  was_sent = some_sent number world.mail world.sent (lookup (is_at (nat_cmp number)) world.mail) mail.rising refl there;
  gone = taken_out number 0 world.sent world.mail mail.rising;
}

lost_by : (there room : Bool) (number : ℕ) (lost accepted : Accepted)
    → cond {A = Result Accepted ℕ} room (cond there (Ok lost) (Err 905)) (Err 908) ≡ Ok accepted → (there ≡ true) × (accepted ≡ lost)
lost_by true true number lost accepted is = (refl, cc (is))
lost_by false true number lost accepted is = absurd (cc (is))
lost_by there false number lost accepted is = absurd (cc (is))

lost_now : (world : World) (number : ℕ) (accepted : Accepted) → IsMail world.settings world.mail world.sent
    → rule.happens world (Lose number) ≡ Ok accepted → IsGone number accepted.world.mail accepted.world.sent
unfolding rule.happens
lost_now world number accepted mail is =
    let by = lost_by (is_some (letter_of world number)) (nat_lt world.accepted world.settings.events) number (rule.tells (with_lost world number) (Lost number)) accepted is in
    subst (λ a. IsGone number a.world.mail a.world.sent) (sym by.1) (gone_from number world mail by.0)

pub lost_after : (settings : Settings) (before after : List Event) (number : ℕ) (accepted : Accepted)
    → rule.happens (run_from_start settings before).world (Lose number) ≡ Ok accepted
    → letter_of (run accepted.world after).world number ≡ None
lost_after settings before after number accepted is =
    ap (option_map (λ (posted : Posted). posted.letter))
    (run_keeps (λ here mail sent. IsGone number mail sent) (gone_keeps number) accepted.world after
    (lost_now (run_from_start settings before).world number accepted (mail_there settings before) is)).gone

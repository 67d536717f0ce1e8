-- The mail's numbers rise.
use Rattle.std.proofs.Common.{arith, ◌≡◌, refl, subst, ℕ, suc, List, [], ◌∷◌, ◌++◌, length, ◌+◌, ◌≤◌}
use Rattle.std.specs.Prelude.{true, cond, map}
use Rattle.std.proofs.lemmas.Bool.{leb-true}
use Rattle.std.specs.Ordering.{nat_cmp}
use Rattle.std.specs.List.{enumerate_from}
use Rattle.std.specs.Map.{set_value, remove_entry}
use Rattle.std.specs.BTreeMap.{is_at}
use Rattle.directory_rules.specs.Settings.{Settings}
use Rattle.directory_rules.specs.State.{Letter, Posted, World}
use Rattle.directory_rules.specs.Event.{Event}
use Rattle.directory_rules.specs.World.{first_world}
use Rattle.directory_rules.specs.Mail.{fresh_letter, numbered, has_room_for}
use Rattle.directory_rules.specs.Run.{run_from_start}
use Rattle.directory_rules.specs.Laws.{RiseBetween, IsMail}
use Rattle.directory_rules.proofs.Cases.{on_bool}
use Rattle.directory_rules.proofs.Kept.{Keeps, run_keeps}

pub rise_lower : (low between high : ℕ) (mail : List (ℕ × Posted)) → low ≤ between → RiseBetween between high mail
    → RiseBetween low high mail
rise_lower low between high [] le rise = omega (le, rise, arith)
rise_lower low between high (e ∷ es) le rise = (omega (le, rise.0, arith), rise.1)

rise_append : (low between high : ℕ) (xs ys : List (ℕ × Posted)) → RiseBetween low between xs → RiseBetween between high ys
    → RiseBetween low high (xs ++ ys)
rise_append low between high [] ys first then = rise_lower low between high ys first then
rise_append low between high (e ∷ es) ys first then = (first.0, rise_append e.0 between high es ys first.1 then)

rise_numbered : (sent : ℕ) (letters : List Letter)
    → RiseBetween sent (sent + length letters) (map (λ e. (e.0, fresh_letter e.1)) (enumerate_from (sent + 1) letters))
rise_numbered sent [] = omega arith
rise_numbered sent (letter ∷ letters) = (
  omega arith,
  subst (λ high. RiseBetween (sent + 1) high (map (λ e. (e.0, fresh_letter e.1)) (enumerate_from (sent + 1 + 1) letters)))
      (shift sent (length letters)) (rise_numbered (sent + 1) letters),
) where
  shift : (a n : ℕ) → a + 1 + n ≡ a + suc n
  shift a n = omega arith

rise_set : (low high number : ℕ) (mail : List (ℕ × Posted)) (posted : Posted) → RiseBetween low high mail
    → RiseBetween low high (set_value (is_at (nat_cmp number)) mail posted)
rise_set low high number [] posted rise = rise
rise_set low high number (e ∷ es) posted rise =
    on_bool (λ b. RiseBetween low high (cond b ((e.0, posted) ∷ es) (e ∷ set_value (is_at (nat_cmp number)) es posted)))
    (is_at (nat_cmp number) e.0)
    (λ t. rise) (λ f. (rise.0, rise_set e.0 high number es posted rise.1))

rise_remove : (low high number : ℕ) (mail : List (ℕ × Posted)) → RiseBetween low high mail
    → RiseBetween low high (remove_entry (is_at (nat_cmp number)) mail)
rise_remove low high number [] rise = rise
rise_remove low high number (e ∷ es) rise =
    on_bool (λ b. RiseBetween low high (cond b es (e ∷ remove_entry (is_at (nat_cmp number)) es))) (is_at (nat_cmp number) e.0)
    (λ t. rise_lower low e.0 high es (omega (rise.0, arith)) rise.1) (λ f. (rise.0, rise_remove e.0 high number es rise.1))

rise_length : (low high : ℕ) (mail : List (ℕ × Posted)) → RiseBetween low high mail → length mail + low ≤ high
rise_length low high [] rise = omega (rise, arith)
rise_length low high (e ∷ es) rise = let rest = rise_length e.0 high es rise.1 in omega (rest, rise.0, arith)

mail_of : (settings : Settings) (mail : List (ℕ × Posted)) (sent : ℕ) → RiseBetween 0 sent mail → sent ≤ settings.letters
    → IsMail settings mail sent
mail_of settings mail sent rise limited =
    let many = rise_length 0 sent mail rise in record { rising = rise; many = omega (many, arith); limited = limited }

room_bounds : (world : World) (letters : List Letter) → has_room_for world letters ≡ true → world.sent ≤ world.settings.letters
    → world.sent + length letters ≤ world.settings.letters
room_bounds world [] room limited = omega (limited, arith)
room_bounds world (letter ∷ letters) room limited = leb-true (world.sent + length (letter ∷ letters)) world.settings.letters room

pub mail_keeps : Keeps IsMail
mail_keeps = record {
  sending =
      λ world letters room is. mail_of world.settings _ _
      (rise_append 0 world.sent (world.sent + length letters) world.mail (numbered world letters) is.rising
      (rise_numbered world.sent letters)) (room_bounds world letters room is.limited);
  delivering = λ settings mail sent number posted is. mail_of settings _ _ (rise_set 0 sent number mail posted is.rising) is.limited;
  losing = λ settings mail sent number is. mail_of settings _ _ (rise_remove 0 sent number mail is.rising) is.limited;
}

-- the settings stay
settings_keep : (settings : Settings) → Keeps (λ here mail sent. here ≡ settings)
settings_keep settings = record {
  sending = λ world letters room is. is;
  delivering = λ here mail sent number posted is. is;
  losing = λ here mail sent number is. is;
}

pub settings_after : (settings : Settings) (events : List Event) → (run_from_start settings events).world.settings ≡ settings
settings_after settings events = run_keeps (λ here mail sent. here ≡ settings) (settings_keep settings) (first_world settings) events refl

pub mail_there : (settings : Settings) (events : List Event)
    → IsMail (run_from_start settings events).world.settings (run_from_start settings events).world.mail
    (run_from_start settings events).world.sent
mail_there settings events =
    run_keeps IsMail mail_keeps (first_world settings) events (record { rising = omega arith; many = omega arith; limited = omega arith })

pub mail_after : (settings : Settings) (events : List Event)
    → IsMail settings (run_from_start settings events).world.mail (run_from_start settings events).world.sent
mail_after settings events =
    subst (λ here. IsMail here (run_from_start settings events).world.mail (run_from_start settings events).world.sent)
    (settings_after settings events) (mail_there settings events)

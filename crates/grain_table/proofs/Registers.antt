-- A register's reply doesn't depend on the rest of the table.
use Rattle.std.proofs.Common.{◌≡◌, refl, Bool, true, false, if◌then◌else◌, Option, Some, None}
use Rattle.silo_address.specs.Activation.{activation_eq}
use Rattle.silo_address.specs.declared.ActivationId.{ActivationId}
use Rattle.silo_address.specs.declared.Entry.{Entry}
use Rattle.directory_rules.specs.declared.reply.Reply.TheVariants.{Registered, Taken}
use Rattle.directory_rules.specs.State.{Table}
use Rattle.directory_rules.specs.Table.{with_entry}
use Rattle.directory_rules.specs.Answer.{Turned, is_previous, registered_over}

abbrev made : (same before : Bool) → Entry → Entry → Table → Turned
made same before entry there table =
    if same then record { reply = Registered entry; table = table }
    else (if before then record { reply = Registered entry; table = with_entry table entry }
    else record { reply = Taken there; table = table })

pub registered_reply : (there : Option Entry) (entry : Entry) (previous : Option ActivationId) (one other : Table)
    → (registered_over there entry previous one).reply ≡ (registered_over there entry previous other).reply
registered_reply None entry previous one other = refl
registered_reply (Some there) entry previous one other = by (activation_eq there.activation entry.activation) (is_previous previous there)
  where
    by : (same before : Bool) → (made same before entry there one).reply ≡ (made same before entry there other).reply
    by true before = refl
    by false true = refl
    by false false = refl

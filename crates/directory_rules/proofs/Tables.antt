-- What is found in a table after a change.
use Rattle.std.proofs.Common.{◌≡◌, ◌≢◌, refl, sym, ap, ◌∙◌, List, [], ◌∷◌}
use Rattle.std.specs.Prelude.{Bool, true, false, cond, Option, Some, None}
use Rattle.std.specs.Map.{lookup, remove_entry}
use Rattle.std.specs.BTreeMap.{is_at}
use Rattle.texts.proofs.Orderings.{Equal-from}
use Rattle.texts.proofs.Entries.{lookup-insert_entry}
use Rattle.silo_address.specs.Grain.{Grain, grain_cmp}
use Rattle.silo_address.specs.declared.ActivationId.{ActivationId}
use Rattle.silo_address.specs.declared.Entry.{Entry}
use Rattle.silo_address.specs.Activation.{activation_eq}
use Rattle.silo_address.proofs.Order.{grain_cmp_total, grain_cmp_exact, apart_in_order}
use Rattle.directory_rules.specs.declared.act.Act.{Act}
use Rattle.directory_rules.specs.declared.act.Act.TheVariants.{Register, Deregister, Find}
use Rattle.directory_rules.specs.declared.reply.Reply.{Reply}
use Rattle.directory_rules.specs.declared.reply.Reply.TheVariants.{Registered, Taken, Removed, Absent}
use Rattle.directory_rules.specs.State.{Table}
use Rattle.directory_rules.specs.Table.{entry_at, with_entry, without_grain}
use Rattle.directory_rules.specs.Answer.{Turned, turned, registered_over, deregistered_from, is_previous}
use Rattle.directory_rules.specs.Host.{grain_of}
use Rattle.directory_rules.proofs.Cases.{on_bool}

-- a key that doesn't pass a test is found in what is left as before
pub lookup-remove_other : {K X : Type 0} (test other : K → Bool) → ((k : K) → test k ≡ true → other k ≡ false) → (es : List (K × X))
    → lookup other (remove_entry test es) ≡ lookup other es
lookup-remove_other test other apart [] = refl
lookup-remove_other test other apart (e ∷ es) =
    on_bool (λ b. lookup other (cond b es (e ∷ remove_entry test es)) ≡ cond (other e.0) (Some e.1) (lookup other es)) (test e.0)
    (λ t. ap (λ b. cond b (Some e.1) (lookup other es)) (sym (apart e.0 t)))
    (λ f. ap (λ r. cond (other e.0) (Some e.1) r) (lookup-remove_other test other apart es))

pub other_than_put : (table : Table) (entry : Entry) (grain : Grain) → grain ≢ entry.grain
    → entry_at grain (with_entry table entry) ≡ entry_at grain table
other_than_put table entry grain apart =
    lookup-insert_entry grain_cmp_total entry.grain entry grain table
    ∙ ap (λ b. cond b (Some entry) (entry_at grain table)) (apart_in_order grain_cmp grain_cmp_exact grain entry.grain apart)

pub other_than_taken : (table : Table) (taken grain : Grain) → grain ≢ taken
    → entry_at grain (without_grain taken table) ≡ entry_at grain table
other_than_taken table taken grain apart =
    lookup-remove_other (is_at (grain_cmp taken)) (is_at (grain_cmp grain))
    (λ k at. apart_in_order grain_cmp grain_cmp_exact grain k
    (λ same. apart (same ∙ sym (grain_cmp_exact taken k (Equal-from (grain_cmp taken k) at))))) table

abbrev turn : Reply → Table → Turned
turn reply table = record { reply = reply; table = table }

-- a turn that leaves the grain's entry as it was
abbrev Leaves : Grain → Table → Turned → Type 0
Leaves grain table turned = entry_at grain turned.table ≡ entry_at grain table

registered_leaves : (there : Option Entry) (entry : Entry) (previous : Option ActivationId) (table : Table) (grain : Grain)
    → grain ≢ entry.grain → Leaves grain table (registered_over there entry previous table)
registered_leaves None entry previous table grain apart = other_than_put table entry grain apart
registered_leaves (Some there) entry previous table grain apart =
    on_bool (λ b. Leaves grain table (cond b (turn (Registered entry) table)
    (cond (is_previous previous there) (turn (Registered entry) (with_entry table entry)) (turn (Taken there) table))))
    (activation_eq there.activation entry.activation)
    (λ t. refl)
    (λ f. on_bool (λ b. Leaves grain table (cond b (turn (Registered entry) (with_entry table entry)) (turn (Taken there) table)))
    (is_previous previous there) (λ t. other_than_put table entry grain apart) (λ g. refl))

deregistered_leaves : (there : Option Entry) (entry : Entry) (table : Table) (grain : Grain) → grain ≢ entry.grain
    → Leaves grain table (deregistered_from there entry table)
deregistered_leaves None entry table grain apart = refl
deregistered_leaves (Some there) entry table grain apart =
    on_bool (λ b. Leaves grain table (cond b (turn Removed (without_grain entry.grain table)) (turn Absent table)))
    (activation_eq there.activation entry.activation)
    (λ t. other_than_taken table entry.grain grain apart) (λ f. refl)

pub turned_leaves : (act : Act) (table : Table) (grain : Grain) → grain ≢ grain_of act → Leaves grain table (turned act table)
turned_leaves (Register entry previous) table grain apart = registered_leaves (entry_at entry.grain table) entry previous table grain apart
turned_leaves (Deregister entry) table grain apart = deregistered_leaves (entry_at entry.grain table) entry table grain apart
turned_leaves (Find other) table grain apart = refl

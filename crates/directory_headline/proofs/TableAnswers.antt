-- What a table answers is what the protocol answers, by the grain's entry before and after.
use Rattle.std.proofs.Common.{◌≡◌, ◌≢◌, ◌⊎◌, ℕ, List, inl, inr, refl, sym, ap, ◌∙◌}
use Rattle.std.specs.Prelude.{true, false, cond, Option, Some, None}
use Rattle.std.specs.List.Sorted.{IsStrictlySortedBy}
use Rattle.std.specs.Map.{keys_of}
use Rattle.silo_address.specs.Grain.{grain_cmp}
use Rattle.silo_address.specs.declared.ActivationId.{ActivationId}
use Rattle.silo_address.specs.declared.Entry.{Entry}
use Rattle.silo_address.specs.Activation.{activation_eq}
use Rattle.silo_address.proofs.Order.{grain_cmp_total, grain_cmp_exact}
use Rattle.silo_address.proofs.Same.{Decides-activation}
use Rattle.directory_protocol.specs.Letters as letters
use Rattle.directory_protocol.specs.Letters.{Sent}
use Rattle.directory_protocol.specs.Actions.{IsAnswered}
use Rattle.directory_protocol.proofs.Changes.{not_both}
use Rattle.directory_rules.specs.declared.reply.Reply.{Reply}
use Rattle.directory_rules.specs.declared.reply.Reply.TheVariants as reply
use Rattle.directory_rules.specs.State.{Table, Letter}
use Rattle.directory_rules.specs.Table.{entry_at, with_entry, without_grain}
use Rattle.directory_rules.specs.Answer.{Turned, registered_over, deregistered_from, is_previous}
use Rattle.directory_rules.proofs.Cases.{on_bool}
use Rattle.directory_rules.proofs.Removed.{lookup_removed}
use Rattle.directory_headline.specs.Shown.{activation_in, reply_as, IsShownReply}
use Rattle.directory_facts.proofs.Lookups.{found_put}

-- the table's turn at a request about an entry, as the protocol has it
pub record IsTurn (purpose : letters.Purpose) (entry : Entry) (previous : Option ActivationId) (table : Table) (turn : Turned) : Type
    0 where
  pub answer : letters.Answer
  pub answered : IsAnswered purpose entry.activation previous (activation_in (entry_at entry.grain table)) answer
      (activation_in (entry_at entry.grain turn.table))
  pub shown : (sent : List letters.Reply) (letter : Letter) (number : ℕ) → Sent (reply_as letter number answer) sent
      → IsShownReply sent letter number turn.reply

abbrev turned : Reply → Table → Turned
turned its table = record { reply = its; table = table }

-- tests of activations
named_same : (a b : ActivationId) → activation_eq a b ≡ true → ◌≡◌ {A = Option ActivationId} (Some a) (Some b)
named_same a b is = ap Some ((Decides-activation a b).0 is)

named_other : (a b : ActivationId) → activation_eq a b ≡ false → ◌≢◌ {A = Option ActivationId} (Some a) (Some b)
named_other a b is some = let same : a ≡ b = cc (some) in not_both ((Decides-activation a b).1 same) is

was_previous : (previous : Option ActivationId) (there : Entry) → is_previous previous there ≡ true → Some there.activation ≡ previous
was_previous None there is = absurd (cc (is))
was_previous (Some p) there is = named_same there.activation p is

not_previous : (previous : Option ActivationId) (there : Entry) → is_previous previous there ≡ false → Some there.activation ≢ previous
not_previous None there is some = absurd (cc (some))
not_previous (Some p) there is some = named_other there.activation p is some

entered : (table : Table) (entry : Entry) → activation_in (entry_at entry.grain (with_entry table entry)) ≡ Some entry.activation
entered table entry = ap activation_in (found_put grain_cmp grain_cmp_total grain_cmp_exact entry.grain entry table)

-- ---- registrations
module _ (entry : Entry) (previous : Option ActivationId) (table : Table) where
  abbrev Registers : Turned → Type 0
  Registers turn = IsTurn letters.Register entry previous table turn

  entry_put : (activation_in (entry_at entry.grain table) ≡ None) ⊎ (activation_in (entry_at entry.grain table) ≡ Some entry.activation)
      ⊎ (activation_in (entry_at entry.grain table) ≡ previous)
      → Registers (turned (reply.Registered entry) (with_entry table entry))
  entry_put before =
      record { answer = letters.Registered; answered = inl (refl, entered table entry, before); shown = λ sent letter number is. is }

  entry_stays : activation_in (entry_at entry.grain table) ≡ Some entry.activation → Registers (turned (reply.Registered entry) table)
  entry_stays before =
      record { answer = letters.Registered; answered = inl (refl, before, inr (inl before)); shown = λ sent letter number is. is }

  other_stays : (there : Entry) → activation_in (entry_at entry.grain table) ≡ Some there.activation
      → Some there.activation ≢ Some entry.activation → Some there.activation ≢ previous
      → Registers (turned (reply.Taken there) table)
  other_stays there before not_it not_previous = record {
    answer = letters.Taken;
    answered =
        inr (
          refl,
          refl,
          (λ none. absurd (cc (before, none))),
          (λ same. not_it (sym before ∙ same)),
          (λ same. not_previous (sym before ∙ same)),
        );
    shown = λ sent letter number is. is;
  }

  registers_over : (there : Option Entry) → entry_at entry.grain table ≡ there → Registers (registered_over there entry previous table)
  registers_over None is = entry_put (inl (ap activation_in is))
  registers_over (Some there) is =
      let before = ap activation_in is in
      on_bool (λ b. activation_eq there.activation entry.activation ≡ b
      → Registers (cond b (turned (reply.Registered entry) table)
      (cond (is_previous previous there) (turned (reply.Registered entry) (with_entry table entry)) (turned (reply.Taken there) table))))
      (activation_eq there.activation entry.activation)
      (λ t same. entry_stays (before ∙ named_same there.activation entry.activation same))
      (λ f other.
      on_bool (λ b. is_previous previous there ≡ b → Registers
      (cond b (turned (reply.Registered entry) (with_entry table entry)) (turned (reply.Taken there) table)))
      (is_previous previous there)
      (λ t was. entry_put (inr (inr (before ∙ was_previous previous there was))))
      (λ g not. other_stays there before (named_other there.activation entry.activation other) (not_previous previous there not))
      refl)
      refl

  pub registers : Registers (registered_over (entry_at entry.grain table) entry previous table)
  registers = registers_over (entry_at entry.grain table) refl

-- ---- deregistrations
module _ (entry : Entry) (table : Table) (rising : IsStrictlySortedBy grain_cmp (keys_of table)) where
  abbrev Deregisters : Turned → Type 0
  Deregisters turn = IsTurn letters.Deregister entry None table turn

  absent : activation_in (entry_at entry.grain table) ≢ Some entry.activation → Deregisters (turned reply.Absent table)
  absent not_it = record { answer = letters.Removed; answered = (refl, inr (not_it, refl)); shown = λ sent letter number is. is }

  deregisters_from : (there : Option Entry) → entry_at entry.grain table ≡ there → Deregisters (deregistered_from there entry table)
  deregisters_from None is = absent (λ some. let none = ap activation_in is in absurd (cc (some)))
  deregisters_from (Some there) is =
      let before = ap activation_in is in
      on_bool (λ b. activation_eq there.activation entry.activation ≡ b
      → Deregisters (cond b (turned reply.Removed (without_grain entry.grain table)) (turned reply.Absent table)))
      (activation_eq there.activation entry.activation)
      (λ t same. record {
        answer = letters.Removed;
        answered = (
          refl,
          inl (
            before ∙ named_same there.activation entry.activation same,
            ap activation_in
                (lookup_removed grain_cmp grain_cmp_total entry.grain table rising),
          ),
        );
        shown = λ sent letter number is. is;
      })
      (λ f other. absent (λ some. named_other there.activation entry.activation other (sym before ∙ some)))
      refl

  pub deregisters : Deregisters (deregistered_from (entry_at entry.grain table) entry table)
  deregisters = deregisters_from (entry_at entry.grain table) refl

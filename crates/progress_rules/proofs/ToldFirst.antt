-- So it is where all have seen the current view, of what was held there.
use Rattle.std.proofs.Common.{◌≡◌, refl, sym, ap, subst, ℕ, ◌≤◌, List, [], ◌∷◌}
use Rattle.std.specs.Prelude.{true, cond, is_some, All, Option, Some}
use Rattle.std.specs.List.{slice_index_or}
use Rattle.std.specs.Map.{lookup}
use Rattle.std.specs.BTreeMap.{is_at}
use Rattle.std.proofs.lemmas.List.Elements.{All-nil, All-cons, All-weaker}
use Rattle.silo_address.specs.Silo.{Silo}
use Rattle.silo_address.specs.Grain.{Grain, grain_cmp}
use Rattle.silo_address.proofs.Order.{grain_cmp_total}
use Rattle.hash_ring.specs.Hash.{hash_grain}
use Rattle.directory_rules.specs.declared.held.Held.{Held}
use Rattle.directory_rules.specs.Happens.{node_of}
use Rattle.directory_rules.specs.Input.{Input, Receives}
use Rattle.directory_rules.specs.Mail.{letter_of}
use Rattle.directory_rules.specs.State.{Letter, Node, World}
use Rattle.directory_rules.proofs.Cases.{on_bool}
use Rattle.directory_facts.proofs.Lookups.{lookup_first}
use Rattle.progress_rules.specs.Room.{all_held}
use Rattle.progress_rules.proofs.AreTold.{base_of, AreTold, leaves_fewer}
use Rattle.progress_rules.proofs.FirmKept.{Registers}
use Rattle.progress_rules.proofs.FullReports.{are_full}
use Rattle.progress_rules.proofs.Open.{IsUnserved}
use Rattle.progress_rules.proofs.Passed.{Has}
use Rattle.progress_rules.proofs.Resting.{IsResting, rest_carried}
use Rattle.progress_rules.proofs.Unserved.{unregistered, reported_held}

all_have : (es : List (Grain × Held)) → All (λ e. Has es e.0) es
all_have [] = All-nil (λ (e : Grain × Held). Has [] e.0)
all_have (x ∷ xs) =
    All-cons (λ (e : Grain × Held). Has (x ∷ xs) e.0) x xs
    (ap (λ (o : Option Held). is_some o) (lookup_first grain_cmp grain_cmp_total x.0 x.1 xs))
    (All-weaker (λ (e : Grain × Held). Has xs e.0) (λ (e : Grain × Held). Has (x ∷ xs) e.0)
    (λ e there. on_bool (λ b. is_some (cond b (Some x.1) (lookup (is_at (grain_cmp e.0)) xs)) ≡ true) (is_at (grain_cmp e.0) x.0)
    (λ t. refl) (λ f. there)) xs (all_have xs))

module _ (world : World) (r : IsResting world) where
  -- the letter was sent, to a silo that is live or not
  abbrev pub WasSent : Letter → Type 0
  WasSent letter = (number : ℕ) × (letter_of world number ≡ Some letter)

  pub sizes_above : 1 ≤ world.settings.report_size
  sizes_above = (rest_carried world r).facts.settings.report_above

  pub told_first : AreTold (base_of world) world.views.version (node_of world) WasSent
  told_first = record {
    firm = λ silo node there k d below firm u.
        let e = slice_index_or node.host.held k d in
        subst (λ (o : Option Node). Has (all_held o) e.0) (sym there) (all_have node.host.held k d below);
    reports = λ letter report sent due.
        let h = reported_held world r sent.0 letter report sent.1 due.body due.version_is letter.to due.own due.there due.waits due.rises due.lie in
        leaves_fewer (base_of world) sizes_above report (are_full world r sent.0 letter report sent.1 due.body due.not_last) due.rises h.lie h.each
        (h.grain due.not_last) (h.more due.not_last) (h.inside due.not_last) (h.behind due.not_last);
  }

  -- nothing registers in a range that isn't settled
  pub never_registers : (silo : Silo) (node : Node) → node_of world silo ≡ Some node → (input : Input)
      → ((letter : Letter) → input ≡ Receives letter → (number : ℕ) × (letter_of world number ≡ Some letter) × (letter.to ≡ silo))
      → (grain : Grain) → Registers node input grain → IsUnserved (node_of world) (hash_grain world.settings.hashing grain) → ⊥
  never_registers silo node there input brought grain reg u =
      let at = brought reg.letter reg.is in
      unregistered world r silo node there at.0 reg.letter at.1 at.2 reg.number reg.entry reg.e reg.counts.body reg.counts.seen reg.asks
      (subst (λ g. IsUnserved (node_of world) (hash_grain world.settings.hashing g)) (sym reg.about) u)

-- A query is answered by a report, and a survey by a letter of its empty ranges and a report on each other one.
use Rattle.std.proofs.Common.{arith, ◌≡◌, ℕ, zero, suc, inl, refl, sym, ap, subst, ◌∙◌}
use Rattle.std.specs.Prelude.{◌||◌, not, nat_le, All, Bool, true, false, List, [], ◌∷◌, length, take, filter, Option, None}
use Rattle.std.specs.Option.{option_map}
use Rattle.std.proofs.lemmas.Bool.{eqb-true, le-leb}
use Rattle.std.proofs.lemmas.List.{nil_from_length}
use Rattle.std.proofs.lemmas.List.Elements.{All-append, All-map, All-weaker, filter_passes}
use Rattle.texts.proofs.Decided.{both}
use Rattle.silo_address.specs.Silo.{Silo}
use Rattle.silo_address.specs.Grain.{Grain}
use Rattle.silo_address.specs.declared.Entry.{Entry}
use Rattle.ring_range.specs.Range.{Range, holds}
use Rattle.hash_ring.specs.Hash.{hash_grain}
use Rattle.directory_protocol.specs.Setting.{Setting}
use Rattle.directory_protocol.specs.World as protocol
use Rattle.directory_protocol.specs.Actions.{Tell}
use Rattle.directory_protocol.specs.Effects.{after, reported}
use Rattle.directory_rules.specs.declared.effect.Effect.TheVariants as effect
use Rattle.directory_rules.specs.Table.{entry_at, table_of}
use Rattle.directory_rules.specs.Standing.{stands_behind, last_grain}
use Rattle.directory_rules.specs.Host.{firm_behind}
use Rattle.directory_rules.specs.State.{Report, Letter, Body, Report_letter, Empty_letter, Node, World}
use Rattle.directory_rules.specs.Step.{Stepped}
use Rattle.directory_rules.specs.Transfer.{answering, answer_to, report_with, report_of, has_nothing, nothing_in, empty_letters, tellings}
use Rattle.directory_headline.specs.SiloState.{state_of}
use Rattle.directory_headline.specs.Shown.{HasMore, IsShownNode, IsShownLetter, IsShownReport, IsShownEmpty, tells_of}
use Rattle.directory_headline.proofs.Actors.{leaves_after}
use Rattle.directory_headline.proofs.MoreLetters.{node_still}
use Rattle.directory_headline.proofs.FirmEntries.{firm_reported, more_firm}
use Rattle.directory_headline.proofs.Frame.{Here, Moves, acts, alive, node_shown, node_facts, host_is, hash_is, seen_is, no_letters, one_letter}

none_taken : (size : ℕ) → ◌≡◌ {A = List Entry} (take size []) []
none_taken zero = refl
none_taken (suc size) = refl

module _ (m : Setting) (f : World) (w : protocol.World) (silo : Silo) (node : Node) (here : Here m f w silo node) where
  firm : (range : Range) (after : Option Grain) (grain : Grain) → holds range (m.hash grain) ≡ true
      → tells_of m.hash (report_of node range after) grain ≡ true
      → protocol.firm_count (w.held silo grain) ≡ option_map (λ (e : Entry). e.activation.count)
      (entry_at grain (table_of (report_of node range after).entries))
  firm range after grain lies tells =
      let hash = hash_grain node.settings.hashing in
      let same : m.hash ≡ hash = hash_is m f w silo node here in
      let told : tells_of hash (report_of node range after) grain ≡ true =
      ap (λ h. tells_of h (report_of node range after) grain) (sym same) ∙ tells in
      let report = report_of node range after in
      let so = both (stands_behind hash (range ∷ []) after grain)
      (report.last || not (stands_behind hash (range ∷ []) (last_grain after report.entries) grain)) told in
      ap protocol.firm_count ((node_shown m f w silo node here).host.held grain)
      ∙ firm_reported node.settings.hashing node.host range node.settings.report_size after grain (node_facts m f w silo node here).own.once
      (ap (λ h. holds range (h grain)) (sym same) ∙ lies) so.0 so.1

  more : (range : Range) (after : Option Grain) → (report_of node range after).last ≡ false
      → HasMore m.hash (reported w silo) (report_of node range after)
  more range after not =
      let same : m.hash ≡ hash_grain node.settings.hashing = hash_is m f w silo node here in
      let next = more_firm node.settings.hashing node.host range node.settings.report_size after (node_facts m f w silo node here).own.once not in
      subst (λ (h : Grain → ℕ). HasMore h (reported w silo) (report_of node range after)) (sym same) (record {
        grain = next.0.grain;
        count = next.1.1.0;
        inside = next.1.0;
        behind = next.2;
        firm = ap protocol.firm_count ((node_shown m f w silo node here).host.held next.0.grain) ∙ next.1.1.1;
      })

  -- the world in which the silo has told all
  abbrev told : protocol.World
  told = after m w (Tell silo)

  still : IsShownNode m told node (state_of told silo)
  still = node_still m w told (leaves_after m w (Tell silo) silo refl).grows node (state_of w silo) (node_shown m f w silo node here)

  report_shown : (range : Range) (from : Option Grain) → IsShownReport m.hash told.reports (report_of node range from)
  report_shown range from = record {
    told = reported w silo;
    was_sent = inl refl;
    version = seen_is m f w silo node here;
    sender = sym (host_is m f w silo node here);
    firm = firm range from;
    more = more range from;
  }

  pub reports : (letter : Letter) (range : Range) (after : Option Grain) → Moves m w silo
      (answering letter node (Report_letter (report_of node range after)) effect.Report)
  reports letter range from =
      acts m w silo (answering letter node (Report_letter (report_of node range from)) effect.Report) (Tell silo)
      (alive m f w silo node here) refl still
      (one_letter (IsShownLetter m.hash told) (answer_to letter node (Report_letter (report_of node range from))) (report_shown range from))

  -- ---- several ranges
  abbrev with_these : Range → (version : ℕ) → List Entry → (last : Bool) → Report
  with_these range version entries last =
      record { version = version; range = range; silo = node.host.silo; after = None; entries = entries; last = last }

  -- where nothing is firm, that is what is reported
  nothing_is : (letter : Letter) (body : Body) (range : Range) → letter.version ≡ node.view.version → has_nothing node range ≡ true
      → report_of node range None ≡ nothing_in (answer_to letter node body) range
  nothing_is letter body range seen none =
      let size = node.settings.report_size in
      let its = firm_behind node.settings.hashing node.host range None in
      ap (report_with node range None) (nil_from_length its (eqb-true (length its) 0 none))
      ∙ ap (λ es. with_these range node.view.version es (nat_le 0 size)) (none_taken size)
      ∙ ap (with_these range node.view.version []) (le-leb 0 size (omega arith))
      ∙ ap (λ version. with_these range version [] true) (sym seen)

  empties_shown : (letter : Letter) → letter.version ≡ node.view.version → (ranges : List Range)
      → All (λ range. has_nothing node range ≡ true) ranges → All (IsShownLetter m.hash told) (empty_letters letter node ranges)
  empties_shown letter seen [] all = no_letters (IsShownLetter m.hash told)
  empties_shown letter seen (first ∷ others) all =
      let body = Empty_letter (first ∷ others) in
      let answer = answer_to letter node body in
      one_letter (IsShownLetter m.hash told) answer
      (All-weaker (λ range. has_nothing node range ≡ true) (IsShownEmpty m.hash told.reports answer)
      (λ range none. subst (IsShownReport m.hash told.reports) (nothing_is letter body range seen none) (report_shown range None))
      (first ∷ others) all)

  pub surveys : (letter : Letter) (first : Range) (others : List Range) → letter.version ≡ node.view.version → Moves m w silo
      (record { node = node; letters = tellings letter node (first ∷ others); effect = effect.Report })
  surveys letter first others seen =
      let ranges = first ∷ others in
      let answer : Stepped = record { node = node; letters = tellings letter node ranges; effect = effect.Report } in
      acts m w silo answer (Tell silo) (alive m f w silo node here) refl still
      (All-append (IsShownLetter m.hash told) (empty_letters letter node (filter (has_nothing node) ranges)) _
      (empties_shown letter seen (filter (has_nothing node) ranges) (filter_passes (has_nothing node) ranges))
      (All-map (IsShownLetter m.hash told) (λ range. answer_to letter node (Report_letter (report_of node range None)))
      (filter (λ range. not (has_nothing node range)) ranges) (λ k d below. report_shown _ None)))

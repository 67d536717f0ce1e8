-- The last report completes a recovery: the piece is settled with what all members told.
use Rattle.std.proofs.Common.{◌≡◌, List, [], ◌∷◌, refl, sym, ap, subst, ◌∙◌}
use Rattle.std.specs.Prelude.{◌||◌, not, nat_lt, Bool, true, false, Option, Some, None}
use Rattle.texts.proofs.Decided.{both}
use Rattle.silo_address.specs.Silo.{Silo}
use Rattle.silo_address.specs.Grain.{Grain}
use Rattle.silo_address.specs.declared.ActivationId.{ActivationId}
use Rattle.silo_address.specs.declared.Entry.{Entry}
use Rattle.ring_range.specs.Range.{circle, holds}
use Rattle.directory_protocol.specs.Setting.{Setting}
use Rattle.directory_protocol.specs.Letters as letters
use Rattle.directory_protocol.specs.World as protocol
use Rattle.directory_protocol.specs.Actions.{Recover, MayRecover}
use Rattle.directory_rules.specs.declared.effect.Effect.TheVariants as effect
use Rattle.directory_rules.specs.State.{Table, Report, Recovery, Letter, Node}
use Rattle.directory_rules.specs.Table.{entry_at}
use Rattle.directory_rules.specs.Standing.{stands_behind}
use Rattle.directory_rules.specs.Recovery.{Has_union, is_among, told_by, with_last, recovered}
use Rattle.directory_rules.specs.Sight.{is_settled}
use Rattle.directory_rules.specs.Sent.{recovery_of}
use Rattle.directory_rules.specs.Step.{silently}
use Rattle.directory_rules.specs.Transfer.{with_settled}
use Rattle.directory_facts.proofs.Ways.{IsReportTaken}
use Rattle.directory_facts.proofs.Collected.{TakenSo, taken_so}
use Rattle.directory_headline.specs.Shown.{IsShownLetter, IsShownReport, IsShownRecovery, HasTold, activation_in}
use Rattle.directory_headline.proofs.SettledPiece.{settling, settled_world, may_settle, node_settled}
use Rattle.directory_headline.proofs.Tellings.{last_shown}
use Rattle.directory_headline.proofs.Stands.{Stands}
use Rattle.directory_headline.proofs.Frame.{Moves, acts, no_letters}

some_entry : (o : Option Entry) (a : ActivationId) → activation_in o ≡ Some a → (e : Entry) × (o ≡ Some e) × (e.activation ≡ a)
some_entry None a is = absurd (cc (is))
some_entry (Some e) a is = (e, refl, cc (is))

module _ (m : Setting) (sent : List letters.Report) (recovery : Recovery) (shown : IsShownRecovery m sent recovery)
    (nobody : recovery.awaiting ≡ []) (other : letters.Report) where
  -- each member has told of each grain
  reported : (silo : Silo) (grain : Grain) → m.member recovery.version silo ≡ true → HasTold m.hash sent recovery silo grain
  reported silo grain member =
      shown.members silo grain member
      (ap (λ silos. not (is_among silo silos)
      || not (stands_behind m.hash (recovery.range ∷ []) (told_by silo recovery) grain)) nobody)

  -- by what each member told of it; what others told doesn't matter
  told_if : (silo : Silo) (grain : Grain) (b : Bool) → m.member recovery.version silo ≡ b → letters.Report
  told_if silo grain true is = (reported silo grain is).told
  told_if silo grain false is = other

  pub told : Silo → Grain → letters.Report
  told silo grain = told_if silo grain (m.member recovery.version silo) refl

  told_so : (P : letters.Report → Type 0) (silo : Silo) (grain : Grain)
      → ((is : m.member recovery.version silo ≡ true) → P (reported silo grain is).told)
      → (b : Bool) (is : m.member recovery.version silo ≡ b) → b ≡ true → P (told_if silo grain b is)
  unfolding told_if
  told_so P silo grain so true is which = so is
  told_so P silo grain so false is which = absurd (cc (which))

  pub told_is : (P : letters.Report → Type 0) (silo : Silo) (grain : Grain) → m.member recovery.version silo ≡ true
      → ((had : HasTold m.hash sent recovery silo grain) → P had.told) → P (told silo grain)
  unfolding told
  told_is P silo grain member so = told_so P silo grain (λ is. so (reported silo grain is)) (m.member recovery.version silo) refl member

module _ (m : Setting) (w : protocol.World) (silo : Silo) (node : Node) (stands : Stands m w silo node) (letter : Letter) (report : Report)
    (taken : IsReportTaken node letter report) (is_shown : IsShownReport m.hash w.reports report) where
  pub completes : (table : Table) → recovered (recovery_of node report.range) report ≡ Has_union table
      → Moves m w silo (silently (with_settled node report.range table) effect.Complete)
  completes table is =
      let before = recovery_of node report.range in
      let so : TakenSo before report (Has_union table) = subst (TakenSo before report) is (taken_so before report) in
      let all : Recovery = with_last before report in
      let shown : IsShownRecovery m w.reports all = last_shown m w silo node stands letter report taken is_shown so.0 so.1 in
      let union : table ≡ all.gathered = so.3 in
      let tell = told m w.reports all shown so.2 is_shown.told in
      let range = report.range in
      let same_range : range ≡ all.range = so.0.range in
      let version : w.seen silo ≡ all.version = stands.shown.seen ∙ sym taken.has.seen ∙ sym taken.version ∙ so.0.version in
      let waits : is_settled taken.piece.state ≡ false = ap is_settled taken.recovers in
      let entries = λ (grain : Grain). activation_in (entry_at grain table) in
      let says = λ (grain : Grain) (held : holds range (m.hash grain) ≡ true). refl in
      let x = settling m w silo node stands letter.version range taken.piece taken.has waits entries table says in
      let member = λ (r : Silo) (is : m.member (w.seen silo) r ≡ true). ap (λ v. m.member v r) (sym version) ∙ is in
      let found = λ (grain : Grain) (e : Entry) (at : entry_at grain table ≡ Some e). ap (entry_at grain) (sym union) ∙ at in
      let may : MayRecover m w x tell = record {
        settles = may_settle m w silo node stands letter.version range taken.piece taken.has waits entries table says;
        sent = λ r g is. told_is m w.reports all shown so.2 _ (λ t. letters.Sent t w.reports) r g (member r is) (λ had. had.was_sent);
        same_version =
            λ r g is. told_is m w.reports all shown so.2 _ (λ t. t.version ≡ w.seen silo) r g (member r is)
            (λ had. had.version ∙ sym version);
        own_report = λ r g is. told_is m w.reports all shown so.2 _ (λ t. t.sender ≡ r) r g (member r is) (λ had. had.sender);
        from_member = λ grain a part is.
            let e = some_entry (entry_at grain table) a is in
            ap (λ v. m.member v a.silo) version ∙ ap (λ (b : ActivationId). m.member all.version b.silo) (sym e.2)
            ∙ (shown.gathered grain e.0 (found grain e.0 e.1)).on_member;
        from_report = λ grain a part is.
            let e = some_entry (entry_at grain table) a is in
            let on : m.member all.version a.silo ≡ true = ap (λ (b : ActivationId). m.member all.version b.silo) (sym e.2) ∙ (shown.gathered grain e.0 (found grain e.0 e.1)).on_member in
            told_is m w.reports all shown so.2 _ (λ t. t.firm grain ≡ Some a.count) a.silo grain on
            (λ had. had.from_it e.0 (found grain e.0 e.1) (ap (λ (b : ActivationId). b.silo) e.2)
            ∙ ap (λ (b : ActivationId). Some b.count) e.2);
        complete = λ grain r count part is firm.
            let lies = (both (holds range (m.hash grain)) (nat_lt (m.hash grain) circle) part).0 in
            let there : (e : Entry) × (entry_at grain all.gathered ≡ Some e) =
            told_is m w.reports all shown so.2 _ (λ t. t.firm grain ≡ Some count → (e : Entry) × (entry_at grain all.gathered ≡ Some e)) r grain
            (member r is)
            (λ had its. had.complete count (ap (λ s. holds s (m.hash grain)) (sym same_range) ∙ lies) its) firm in
            (there.0.activation, ap activation_in (ap (entry_at grain) union ∙ there.1));
      } in
      let later = settled_world m w silo node stands letter.version range taken.piece taken.has waits entries table says in
      acts m w silo (silently (with_settled node range table) effect.Complete) (Recover x tell) may refl
      (node_settled m w silo node stands letter.version range taken.piece taken.has waits entries table says)
      (no_letters (IsShownLetter m.hash later))

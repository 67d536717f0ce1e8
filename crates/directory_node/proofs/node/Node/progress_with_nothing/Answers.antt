use Rattle.std.proofs.Common.{◌≡◌, refl, sym, subst, ap, ◌∙◌, false, true}
use Rattle.directory_rules.specs.State.{Report}
use Rattle.directory_rules.specs.Recovery.{recovered}
use Rattle.directory_rules.specs.Sent.{recovery_of}
use Rattle.directory_rules.specs.Transfer.{has_range, is_recovering, is_taken, is_whole, nothing_in, piece_at, recovers}
use Rattle.range_recovery.specs.Progress.{Refuses, nothing_of, progress_of}
use Rattle.directory_node.proofs.ManyRanges.{makes_nothing, makes_refusal, makes_taken, makes_whole, recovering}
use Rattle.directory_node.proofs.node.Node.progress_with_nothing.Goals as goal

pub returns-then-not-recovers-clause-whole : goal.returns-then-not-recovers-clause-whole
returns-then-not-recovers-clause-whole c =
    let not : recovers c.args.self.now c.args.letter.now.version c.args.range ≡ false = cc (c.recovers.ensures, c.if-not-recovers.true, c.version.ensures) in
    makes_nothing c.args.self.now c.args.letter.now c.args.range is_whole not

pub returns-then-not-recovers-clause-taken : goal.returns-then-not-recovers-clause-taken
returns-then-not-recovers-clause-taken c =
    let not : recovers c.args.self.now c.args.letter.now.version c.args.range ≡ false = cc (c.recovers.ensures, c.if-not-recovers.true, c.version.ensures) in
    makes_nothing c.args.self.now c.args.letter.now c.args.range is_taken not

pub progress_with-requires : goal.progress_with-requires
progress_with-requires c =
    let node = c.args.self.now in
    let is : recovers node c.args.letter.now.version c.args.range ≡ true = cc (c.recovers.ensures, c.if-not-recovers.false, c.version.ensures) in
    record {
      recovers =
          ap (λ (r : Report). has_range is_recovering r.range (piece_at node r.range)) c.of_nothing-report.ensures
          ∙ recovering node c.args.letter.now c.args.range is;
    }

pub returns-in-Ok-clause-whole : goal.returns-in-Ok-clause-whole
returns-in-Ok-clause-whole c =
    let node = c.args.self.now in
    let range = c.args.range in
    let is : recovers node c.args.letter.now.version range ≡ true = cc (c.recovers.ensures, c.if-not-recovers.false, c.version.ensures) in
    let report : c.of_nothing-report.result ≡ nothing_in c.args.letter.now range = c.of_nothing-report.ensures ∙ (λ i. nothing_of (c.version-2.ensures i) range (c.from.ensures i)) in
    makes_whole node c.args.letter.now range is c.in-Ok.progress
    (sym (ap (λ (r : Report). progress_of (recovered (recovery_of node r.range) r)) report) ∙ c.in-Ok.ensures.judged)

pub returns-in-Ok-clause-taken : goal.returns-in-Ok-clause-taken
returns-in-Ok-clause-taken c =
    let node = c.args.self.now in
    let range = c.args.range in
    let is : recovers node c.args.letter.now.version range ≡ true = cc (c.recovers.ensures, c.if-not-recovers.false, c.version.ensures) in
    let report : c.of_nothing-report.result ≡ nothing_in c.args.letter.now range = c.of_nothing-report.ensures ∙ (λ i. nothing_of (c.version-2.ensures i) range (c.from.ensures i)) in
    makes_taken node c.args.letter.now range is c.in-Ok.progress
    (sym (ap (λ (r : Report). progress_of (recovered (recovery_of node r.range) r)) report) ∙ c.in-Ok.ensures.judged)

pub returns-clause-whole : goal.returns-clause-whole
returns-clause-whole c =
    let node = c.args.self.now in
    let range = c.args.range in
    let is : recovers node c.args.letter.now.version range ≡ true = cc (c.recovers.ensures, c.if-not-recovers.false, c.version.ensures) in
    let report : c.of_nothing-report.result ≡ nothing_in c.args.letter.now range = c.of_nothing-report.ensures ∙ (λ i. nothing_of (c.version-2.ensures i) range (c.from.ensures i)) in
    makes_refusal node c.args.letter.now range is_whole (λ number. refl) is c.in-Err.field-0
    (subst (λ (r : Report). Refuses (recovery_of node r.range) r c.in-Err.field-0) report c.in-Err.ensures.refused)

pub returns-clause-taken : goal.returns-clause-taken
returns-clause-taken c =
    let node = c.args.self.now in
    let range = c.args.range in
    let is : recovers node c.args.letter.now.version range ≡ true = cc (c.recovers.ensures, c.if-not-recovers.false, c.version.ensures) in
    let report : c.of_nothing-report.result ≡ nothing_in c.args.letter.now range = c.of_nothing-report.ensures ∙ (λ i. nothing_of (c.version-2.ensures i) range (c.from.ensures i)) in
    makes_refusal node c.args.letter.now range is_taken (λ number. refl) is c.in-Err.field-0
    (subst (λ (r : Report). Refuses (recovery_of node r.range) r c.in-Err.field-0) report c.in-Err.ensures.refused)

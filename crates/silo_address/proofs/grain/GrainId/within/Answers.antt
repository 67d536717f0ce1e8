use Rattle.std.proofs.Common.{arith, refl, sym}
use Rattle.std.proofs.lemmas.Grind.{common_steps}
use Rattle.std.proofs.lemmas.Bool.Decides.{not_from_Decides}
use Rattle.silo_address.proofs.GrainCases.{within_unseen}
use Rattle.silo_address.proofs.GrainStored.{IsStored, cut_within, short_sides, stored_holds, stored_within}
use Rattle.silo_address.proofs.grain.GrainId.within.Goals as goal

pub returns-then-not-are_visible : goal.returns-then-not-are_visible
returns-then-not-are_visible c =
    let short = short_sides _ c.args.text.now c.requires.is_cut c.requires.kind_len c.if-kind_len-gt-MOST_KIND.false c.if-key_len-gt-MOST_KEY.false in
    sym (within_unseen c.args.text.now short (not_from_Decides _ c.are_visible.ensures c.if-not-are_visible.true))

is_stored : (c : goal.After-padded) → IsStored c.args.kind_len c.args.text.now c.padded.result
is_stored c =
    let within = cut_within c.args.text.now c.requires.is_cut in
    record {
      cut = c.requires.is_cut;
      kind = c.requires.kind_len;
      kind_within = omega (arith, c.requires.kind_len);
      short =
          short_sides _ c.args.text.now c.requires.is_cut c.requires.kind_len c.if-kind_len-gt-MOST_KIND.false
          c.if-key_len-gt-MOST_KEY.false;
      visible = c.if-not-are_visible.ensures.0 refl;
      array = c.padded.ensures;
    }

pub invariant_of-result : goal.invariant_of-result
invariant_of-result c = stored_holds _ _ _ (is_stored c)

pub returns : goal.returns
returns c = stored_within _ _ _ (is_stored c)

pub returns-then-kind_len-gt-MOST_KIND : goal.returns-then-kind_len-gt-MOST_KIND
returns-then-kind_len-gt-MOST_KIND c = grind (arith, common_steps)

use Rattle.std.proofs.Common.{sym, ◌∙◌, ap, arith, rules}
use Rattle.host_activations.specs.UnderWay.{under_way_in}
use Rattle.host_activations.proofs.Changes.{written_are, written_told}
use Rattle.host_activations.proofs.Hashes.{written_hashes}
use Rattle.host_activations.proofs.Indexed.{written_by_hash}
use Rattle.host_activations.proofs.PhaseCounts.{changed_counts, changed_fit, counted_asking, counted_closing, unwritten_is}
use Rattle.host_activations.proofs.activations.Activations.set.Goals as goal

pub without-requires : goal.without-requires
without-requires c = record {
  asking =
      counted_asking c.self.inside.map c.write.new.map c.args.grain.now c.args.phase c.args.previous c.in-Some.ensures.written c.in-Some.was
      c.in-Some.ensures.was c.self.inside.under_way c.self.invariant.under_way;
  closing =
      counted_closing c.self.inside.map c.write.new.map c.args.grain.now c.args.phase c.args.previous c.in-Some.ensures.written
      c.in-Some.was c.in-Some.ensures.was c.self.inside.under_way c.self.invariant.under_way;
}

pub with-self-inside-requires : goal.with-self-inside-requires
with-self-inside-requires c =
    let both = changed_fit c.self.inside.map c.write.new.map c.args.grain.now c.args.phase c.args.previous c.in-Some.ensures.written c.in-Some.was c.in-Some.ensures.was c.self.inside.under_way c.self.invariant.under_way
    c.without.result c.without.ensures c.len-len.result (omega (arith, c.len-len.ensures)) (search rules) in
    record { asking = both.0; closing = both.1 }

pub invariant_of-self : goal.invariant_of-self
invariant_of-self c = record {
  begun =
      written_are c.self.inside.next_count c.self.inside.map c.self.invariant.begun c.args.grain.now c.args.phase c.args.previous
      c.write.new.map c.in-Some.ensures.written;
  under_way = c.with-self-inside.ensures
      ∙ changed_counts c.self.inside.map c.write.new.map c.args.grain.now c.args.phase c.args.previous c.in-Some.ensures.written
      c.in-Some.was c.in-Some.ensures.was c.self.inside.under_way c.self.invariant.under_way
      c.without.result c.without.ensures;
  are_hashes =
      written_hashes c.self.inside.hashing c.self.inside.map c.self.inside.hashes.items c.self.invariant.are_hashes c.args.grain.now
      c.args.phase c.args.previous c.write.new.map c.in-Some.ensures.written;
  by_hash =
      written_by_hash c.self.inside.hashing c.self.inside.map c.self.inside.by_hash.entries c.self.invariant.by_hash c.args.grain.now
      c.args.phase c.args.previous c.write.new.map c.in-Some.ensures.written;
}

pub invariant_of-self-in_default : goal.invariant_of-self-in_default
invariant_of-self-in_default c = record {
  begun =
      written_are c.self.inside.next_count c.self.inside.map c.self.invariant.begun c.args.grain.now c.args.phase c.args.previous
      c.write.new.map c.in_default.ensures.written;
  under_way = c.self.invariant.under_way
      ∙ ap under_way_in (sym (unwritten_is c.self.inside.map c.write.new.map c.args.grain.now c.args.phase c.args.previous
      c.in_default.ensures.written c.in_default.ensures.was));
  are_hashes =
      written_hashes c.self.inside.hashing c.self.inside.map c.self.inside.hashes.items c.self.invariant.are_hashes c.args.grain.now
      c.args.phase c.args.previous c.write.new.map c.in_default.ensures.written;
  by_hash =
      written_by_hash c.self.inside.hashing c.self.inside.map c.self.inside.by_hash.entries c.self.invariant.by_hash c.args.grain.now
      c.args.phase c.args.previous c.write.new.map c.in_default.ensures.written;
}

pub returns-in-Some : goal.returns-in-Some
returns-in-Some c =
    written_told c.self.inside.next_count c.self.inside.map c.self.invariant.begun c.args.grain.now c.args.phase c.args.previous
    c.write.new.map c.in-Some.ensures.written
    c.args.self.now c.self.view_is

pub returns-in_default : goal.returns-in_default
returns-in_default c =
    written_told c.self.inside.next_count c.self.inside.map c.self.invariant.begun c.args.grain.now c.args.phase c.args.previous
    c.write.new.map c.in_default.ensures.written
    c.args.self.now c.self.view_is

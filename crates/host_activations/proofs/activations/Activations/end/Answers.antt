use Rattle.host_activations.proofs.Changes.{ended_are, ended_value}
use Rattle.host_activations.proofs.PhaseCounts.{gone_asking, gone_closing, gone_counts, none_gone_counts}
use Rattle.host_activations.proofs.activations.Activations.end.Goals as goal

pub take_out-requires : goal.take_out-requires
take_out-requires c = record { hashes = c.self.invariant.are_hashes; by_hash = c.self.invariant.by_hash }

pub without-self-inside-requires : goal.without-self-inside-requires
without-self-inside-requires c = record {
  asking =
      gone_asking c.self.inside.map c.take_out.new.map c.in-Some.was c.in-Some.ensures.one c.self.inside.under_way
      c.self.invariant.under_way;
  closing =
      gone_closing c.self.inside.map c.take_out.new.map c.in-Some.was c.in-Some.ensures.one c.self.inside.under_way
      c.self.invariant.under_way;
}

pub invariant_of-self : goal.invariant_of-self
invariant_of-self c = record {
  begun =
      ended_are c.self.inside.next_count c.self.inside.map c.self.invariant.begun c.args.grain.now c.take_out.new.map c.in-Some.ensures.gone
      c.in-Some.ensures.apart;
  under_way =
      gone_counts c.self.inside.map c.take_out.new.map c.in-Some.was c.in-Some.ensures.one c.self.inside.under_way
      c.self.invariant.under_way c.without-self-inside.result c.without-self-inside.ensures;
  are_hashes = c.in-Some.ensures.hashes;
  by_hash = c.in-Some.ensures.by_hash;
}

pub invariant_of-self-in_default : goal.invariant_of-self-in_default
invariant_of-self-in_default c = record {
  begun =
      ended_are c.self.inside.next_count c.self.inside.map c.self.invariant.begun c.args.grain.now c.take_out.new.map
      c.in_default.ensures.gone c.in_default.ensures.apart;
  under_way =
      none_gone_counts c.self.inside.map c.take_out.new.map c.in_default.ensures.one c.self.inside.under_way c.self.invariant.under_way;
  are_hashes = c.in_default.ensures.hashes;
  by_hash = c.in_default.ensures.by_hash;
}

pub returns-in-Some : goal.returns-in-Some
returns-in-Some c =
    ended_value c.self.inside.next_count c.self.inside.map c.self.invariant.begun c.args.grain.now c.take_out.new.map c.in-Some.ensures.gone
    c.in-Some.ensures.apart
    c.args.self.now c.self.view_is

pub returns-in_default : goal.returns-in_default
returns-in_default c =
    ended_value c.self.inside.next_count c.self.inside.map c.self.invariant.begun c.args.grain.now c.take_out.new.map
    c.in_default.ensures.gone c.in_default.ensures.apart
    c.args.self.now c.self.view_is

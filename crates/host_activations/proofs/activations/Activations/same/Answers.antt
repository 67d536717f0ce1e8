use Rattle.host_activations.proofs.SameHeld.{same_value}
use Rattle.host_activations.proofs.activations.Activations.same.Goals as goal

pub returns-then-self-other : goal.returns-then-self-other
returns-then-self-other c =
    same_value c.self.inside.next_count c.other.inside.next_count c.self.inside.map c.other.inside.map c.self.invariant.begun
    c.other.invariant.begun c.if-self-other.true
    c.args.self.now c.args.other.now c.self.view_is c.other.view_is c.same_map.result c.same_map.ensures

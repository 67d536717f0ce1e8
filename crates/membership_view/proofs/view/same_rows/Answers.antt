use Rattle.std.proofs.lemmas.Slice.Eq.{slice_eq-Decides}
use Rattle.membership_view.proofs.Same.{Decides-shown}
use Rattle.membership_view.proofs.view.same_rows.Goals as goal

pub returns : goal.returns
returns c = slice_eq-Decides Decides-shown c.args.one.now c.args.other.now c.eq.result c.eq.ensures

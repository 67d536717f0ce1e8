-- Where no node fails a test, all of them pass it.
use Rattle.std.proofs.Common.{◌≡◌, Bool, true, false, cond, not, find, List, [], ◌∷◌, refl, Option, Some, None, option_map}
use Rattle.std.specs.Prelude.{◌&&◌}
use Rattle.std.specs.List.{list_all}
use Rattle.dump_rules.specs.Dump.{DumpNode}
use Rattle.dump_rules.specs.Verdict.{first_failing}

pub none_failing : (test : DumpNode → Bool) (nodes : List DumpNode) → first_failing test nodes ≡ None → list_all test nodes ≡ true
none_failing test [] none = refl
none_failing test (node ∷ nodes) none = by (test node) (find (λ n. not (test n)) nodes) (list_all test nodes) none (none_failing test nodes)
  where
    by : (t : Bool) (rest : Option DumpNode) (all : Bool) → option_map (λ (n : DumpNode). n.silo) (cond (not t) (Some node) rest) ≡ None
        → (option_map (λ (n : DumpNode). n.silo) rest ≡ None → all ≡ true) → (t && all) ≡ true
    by true rest all is later = later is
    by false rest all is later = absurd (cc)

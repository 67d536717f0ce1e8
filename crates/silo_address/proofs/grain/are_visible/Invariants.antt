use Rattle.std.proofs.Common.{take}
use Rattle.std.specs.Prelude.{◌↔◌, All, IsTrue}
use Rattle.silo_address.specs.Grain.{IsVisible}
use Rattle.silo_address.proofs.grain.are_visible.Given as goal

abbrev pub invariant-loop-byte : goal.invariant-loop-byte
invariant-loop-byte l = IsTrue l.all ↔ All IsVisible (take l.byte-index l.text)

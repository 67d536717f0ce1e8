use Rattle.std.proofs.Common.{refl, sym}
use Rattle.std.proofs.lemmas.Bool.Decides.{not_from_Decides}
use Rattle.silo_address.specs.WordsModel.{words_view}
use Rattle.silo_address.proofs.SiloCases.{read_silo_other, read_silo_outside}
use Rattle.silo_address.proofs.SiloLaws.{read_silo_none}
use Rattle.silo_address.proofs.silo.fault_of.Goals as goal

pub returns-then-are_numerals : goal.returns-then-are_numerals
returns-then-are_numerals c =
    sym (read_silo_outside c.args.text.now (words_view c.in-Some.words) (sym c.in-Some.ensures) (c.if-are_numerals.ensures.0 refl)
    c.requires)

pub returns-else-are_numerals : goal.returns-else-are_numerals
returns-else-are_numerals c =
    sym (read_silo_other c.args.text.now (words_view c.in-Some.words) (sym c.in-Some.ensures)
    (not_from_Decides _ c.are_numerals.ensures c.if-are_numerals.false))

pub returns-in-None : goal.returns-in-None
returns-in-None c = sym (read_silo_none c.args.text.now (sym c.in-None.ensures))

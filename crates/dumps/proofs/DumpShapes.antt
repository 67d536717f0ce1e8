-- The rules of shape, from tests of their parts.
use Rattle.std.proofs.Common.{◌≡◌, Bool, true, List, ◌∙◌, ap}
use Rattle.std.specs.Prelude.{◌&&◌}
use Rattle.std.specs.BTreeMap.{is_at}
use Rattle.std.specs.List.{list_all}
use Rattle.silo_address.specs.Silo.{Silo, silo_cmp, silo_eq}
use Rattle.dump_rules.specs.Dump.{DumpRow, DumpValue}
use Rattle.dump_rules.specs.DumpShape.{are_distinct_by, are_in_order, row_silos, node_silos, has_joined, has_places, is_row_of, is_node_of, has_shape}
use Rattle.dumps.proofs.Tests.{two, two_pairs}
use Rattle.dumps.proofs.Ties.{distinct_silos}
use Rattle.dumps.proofs.NodeShapes.{both}

pub row_is : (dump : DumpValue) (row : DumpRow) (j p : Bool) → j ≡ has_joined dump row → p ≡ has_places dump row
    → (j && (p && true)) ≡ is_row_of dump row
row_is dump row j p a b = two j p ∙ both _ _ _ _ a b

pub shape_is : (dump : DumpValue) (rows nodes : List Silo) (a b c d e f : Bool) → rows ≡ row_silos dump → nodes ≡ node_silos dump
    → a ≡ are_distinct_by (λ one. is_at (silo_cmp one)) rows → b ≡ are_distinct_by (λ one. is_at (silo_cmp one)) nodes
    → c ≡ are_in_order silo_cmp rows → d ≡ are_in_order silo_cmp nodes
    → e ≡ list_all (is_row_of dump) dump.rows → f ≡ list_all (is_node_of dump) dump.nodes
    → (a && (b && (c && (d && (e && (f && true)))))) ≡ has_shape dump
shape_is dump rows nodes a b c d e f its_rows its_nodes p q r s t u =
    two_pairs a b c d e f
    ∙ both _ _ _ _ (both _ _ _ _ (both _ _ _ _
    (both _ _ _ _ (p ∙ (distinct_silos rows ∙ ap (are_distinct_by silo_eq) its_rows))
    (q ∙ (distinct_silos nodes ∙ ap (are_distinct_by silo_eq) its_nodes)))
    (both _ _ _ _ (r ∙ ap (are_in_order silo_cmp) its_rows) (s ∙ ap (are_in_order silo_cmp) its_nodes))) t) u

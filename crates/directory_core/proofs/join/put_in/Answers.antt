use Rattle.std.proofs.Common.{◌∙◌, ap, List, Option}
use Rattle.std.specs.Map.{remove_entry}
use Rattle.std.specs.BTreeMap.{is_at}
use Rattle.texts.proofs.Entries.{remove-insert_entry}
use Rattle.silo_address.specs.Silo.{Silo, silo_cmp}
use Rattle.silo_address.proofs.Order.{silo_cmp_total}
use Rattle.membership_view.specs.Changes.{occupant}
use Rattle.directory_rules.specs.State.{Node}
use Rattle.directory_core.specs.Changes.{nodes_without}
use Rattle.directory_core.proofs.Kept.{no_node, nodes_put}
use Rattle.directory_core.proofs.join.put_in.Goals as goal

pub returns-in-Err-clause-nodes_unchanged : goal.returns-in-Err-clause-nodes_unchanged
returns-in-Err-clause-nodes_unchanged c =
    c.remove_node.ensures
    ∙ ap (λ (l : List (Silo × Node)). remove_entry (is_at (silo_cmp c.args.silo)) l) c.in_ok-put_new_node.ensures.put
    ∙ remove-insert_entry silo_cmp_total c.args.silo _ c.args.nodes.now.entries
    (no_node c.args.membership.now.views c.args.nodes.now.entries c.args.silo c.requires.peopled c.requires.joins)

pub returns-in-Ok-clause-nodes : goal.returns-in-Ok-clause-nodes
returns-in-Ok-clause-nodes c =
    c.remove_replaced.ensures
    ∙ ap (λ (o : Option Silo). nodes_without o c.put_new_node.new.nodes.entries) c.in-Ok.ensures.replaced
    ∙ ap (λ (l : List (Silo × Node)). nodes_without (occupant c.args.silo c.args.membership.now.views.rows) l)
    c.in_ok-put_new_node.ensures.put
    ∙ nodes_put c.args.membership.now.views c.args.nodes.now.entries c.args.silo _ c.requires.peopled c.requires.joins

use Rattle.std.proofs.Common.{rules, ◌≡◌, ◌∙◌, length}
use Rattle.silo_address.specs.Silo.{silo_cmp}
use Rattle.silo_address.proofs.Order.{silo_cmp_total}
use Rattle.directory_rules.specs.State.{Node}
use Rattle.directory_node.specs.Plans.{changed}
use Rattle.letter_mail.proofs.TakenBack.{undone}
use Rattle.directory_core.proofs.Entries.{put_at}
use Rattle.directory_core.proofs.post.carry_out_at.Goals as goal

pub returns-in-Ok-clause-made : goal.returns-in-Ok-clause-made
returns-in-Ok-clause-made c = λ node found.
    (c.get_mut.follows.holds c.carry_out.new.self).0
    ∙ put_at silo_cmp silo_cmp_total c.args.silo.now c.args.nodes.now.entries c.get_mut.ensures.ordered c.in-Some.node.now node
    c.carry_out.new.self
    (λ (n : Node). changed c.args.change n) c.in-Some.ensures.value found c.in-Ok.ensures.made

pub returns-in-Err-clause-mail_unchanged : goal.returns-in-Err-clause-mail_unchanged
returns-in-Err-clause-mail_unchanged c =
    let count_is : c.len-count.result ≡ length c.args.letters.items = search rules in
    undone c.args.mail.now c.post.new.self c.take_back.new.self c.args.letters.items c.len-count.result c.numbered.ensures count_is
    c.in_ok-post.ensures.posted c.take_back.ensures

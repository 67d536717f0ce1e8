use Rattle.std.proofs.Common.{◌≡◌, sym, ◌∙◌, ap, []}
use Rattle.directory_rules.specs.declared.act.Request.{Request}
use Rattle.directory_rules.specs.Answer.{registered_over, turned}
use Rattle.directory_rules.specs.Host.{grain_of}
use Rattle.directory_rules.specs.Table.{entry_at}
use Rattle.grain_table.specs.declared.hashed_grain.HashedGrain.{HashedGrain}
use Rattle.grain_table.proofs.Registers.{registered_reply}
use Rattle.grain_table.proofs.table.Table.reply_to.Goals as goal

pub returns-in-Register : goal.returns-in-Register
returns-in-Register c =
    let is : c.args.request.now.act ≡ _ = ap (λ (r : Request). r.act) (sym c.request.ensures) ∙ c.in-Register.is in
    let grain : c.key.result.grain ≡ c.in-Register.entry.grain = ap (λ (k : HashedGrain). k.grain) c.key.ensures.value ∙ ap grain_of is in
    c.register_reply.ensures
    ∙ registered_reply c.at-there.result c.in-Register.entry c.in-Register.previous [] c.args.self.now.entries
    ∙ ap (λ there. (registered_over there c.in-Register.entry c.in-Register.previous c.args.self.now.entries).reply)
    (c.at-there.ensures ∙ ap (λ grain. entry_at grain c.args.self.now.entries) grain)
    ∙ ap (λ act. (turned act c.args.self.now.entries).reply) (sym is)

use Rattle.std.proofs.Common.{◌≡◌, sym, subst, ap, ◌∙◌, ℕ}
use Rattle.std.specs.Prelude.{All, true}
use Rattle.std.specs.Option.{unwrap_or}
use Rattle.std.specs.Map.{lookup}
use Rattle.std.specs.BTreeMap.{insert_entry, is_at}
use Rattle.std.specs.Ordering.{nat_cmp}
use Rattle.directory_rules.specs.State.{Gathering, Node}
use Rattle.directory_rules.specs.Gatherings.{gathered, new_gathering, with_page}
use Rattle.directory_rules.specs.Table.{rise_by_grain}
use Rattle.seal_snapshot.specs.Progress.{progress_of}
use Rattle.node_plans.specs.Plans.{GoesOn}
use Rattle.node_plans.proofs.Values.{all_put}
use Rattle.directory_node.proofs.node.Node.gather.Goals as goal

pub gather_among-requires : goal.gather_among-requires
gather_among-requires c =
    let page = c.args.page.now in
    let goes = subst (λ (n : Node). GoesOn n page) (sym c.self.view_is) c.requires.goes_on in
    record {
      more =
          ap (λ (v : ℕ). progress_of (gathered (unwrap_or (lookup (is_at (nat_cmp page.range.start)) c.self.inside.gatherings.entries)
          (new_gathering v page.range)) page)) c.version-version.ensures
          ∙ goes.more;
    }

-- what is gathered rises with the page
pub invariant_of-self-2 : goal.invariant_of-self-2
invariant_of-self-2 c =
    let page = c.args.page.now in
    let old = c.self.inside.gatherings.entries in
    let goes = subst (λ (n : Node). GoesOn n page) (sym c.self.view_is) c.requires.goes_on in
    let put = c.in_ok-gather_among.ensures.made
    ∙ ap (λ (v : ℕ). insert_entry nat_cmp old page.range.start
    (with_page (unwrap_or (lookup (is_at (nat_cmp page.range.start)) old) (new_gathering v page.range)) page)) c.version-version.ensures in
    record {
      cached = c.self.invariant.cached;
      recovers = c.self.invariant.recovers;
      rising = subst (λ l. All (λ e. rise_by_grain e.1.entries ≡ true) l) (sym put)
          (all_put (λ (g : Gathering). rise_by_grain g.entries ≡ true) page.range.start _ old goes.rises c.self.invariant.rising);
      shelved = c.self.invariant.shelved;
    }

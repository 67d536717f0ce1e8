-- A silo's node crosses, shared as it is, and so does a plan of its step.
use mathlib.Core.List.{[], ◌∷◌}
use denote.Builtin.{u8, u64}
use Rattle.silo_workers.proofs.Parts.{Crosses, All, fields, structure, modelled, variants, array, byte, number32, number64, truth}
use Rattle.silo_workers.proofs.Holders.{heap_field_crosses, optional, boxed, listed, counted, mapped}
use Rattle.silo_workers.proofs.Names.{silo_crosses, grain_crosses, activation_crosses, activation_field_crosses, entry_field_crosses, range_crosses}
use Rattle.silo_workers.proofs.Members.{settings_cross, view_crosses, ring_crosses}
use Rattle.silo_workers.proofs.Tables.{table_crosses, recovery_crosses, report_crosses, snapshot_crosses, page_crosses, shelf_crosses, gathering_crosses, by_silo_crosses, holding_crosses}
use Rattle.silo_workers.proofs.Hosts.{host_crosses, renewal_crosses, cache_crosses}
use Rattle.silo_workers.proofs.Letters.{hashed_crosses, letter_crosses, effect_crosses}
use Rattle.silo_address.specs.contracts.grain.GrainId as grain
use Rattle.silo_address.specs.contracts.entry.Entry as entry
use Rattle.silo_address.specs.contracts.activation.ActivationId as activation
use Rattle.ring_range.specs.contracts.range.RingRange as range
use Rattle.hash_ring.specs.contracts.ring.Ring as ring
use Rattle.seal_snapshot.specs.contracts.snapshot.Snapshot as snapshot
use Rattle.grain_partition.specs.contracts.by_silo.ArcsBySilo as by_silo
use Rattle.lookup_cache.specs.contracts.cache.Cache as cache
use Rattle.directory_letters.specs.contracts.letter.Letter as letter
use Rattle.node_plans.specs.contracts.transition.Transition as transition
use Rattle.node_plans.specs.contracts.transition.Transition.TheInside as transition_inside
use Rattle.node_plans.specs.contracts.plan.Sight as sight
use Rattle.node_plans.specs.contracts.plan.Change as change
use Rattle.node_plans.specs.contracts.plan.Plan as plan
use Rattle.directory_node.specs.contracts.node.Node as node
use Rattle.directory_node.specs.contracts.node.Node.TheInside as node_inside
use Rattle.directory_node.specs.contracts.shared.SharedNode as shared
use Rattle.directory_node.specs.contracts.shared.SharedNode.TheInside as shared_inside

node_crosses : Crosses node.the_row
node_crosses =
    modelled node_inside.the_type _ _ _ _ (
      heap_field_crosses,
      (
        settings_cross,
        (
          view_crosses,
          (
            counted ring.the_row ring_crosses,
            (
              holding_crosses,
              (
                shelf_crosses,
                (
                  search (mapped, number32, gathering_crosses),
                  (search (mapped, number32, recovery_crosses), (host_crosses, (optional cache.the_row cache_crosses, tt))),
                ),
              ),
            ),
          ),
        ),
      ),
    )

pub shared_crosses : Crosses shared.the_row
shared_crosses = modelled shared_inside.the_type _ _ _ _ (heap_field_crosses, (counted node.the_row node_crosses, tt))

pub transition_crosses : Crosses transition.the_row
transition_crosses =
    modelled transition_inside.the_type _ _ _ _ (counted ring.the_row ring_crosses, (counted by_silo.the_row by_silo_crosses, tt))

sight_crosses : Crosses sight.the_row
sight_crosses =
    structure sight.the_type (fields sight.the_type (
      truth,
      (
        view_crosses,
        (
          transition_crosses,
          (
            listed snapshot.the_row snapshot_crosses,
            (search (mapped, number32, gathering_crosses), (search (mapped, number32, recovery_crosses), (renewal_crosses, tt))),
          ),
        ),
      ),
    ))

change_crosses : Crosses (change.the_field).row
change_crosses =
    let grain : All (grain.the_row ∷ []) = (grain_crosses, tt) in
    let number : All (u64 ∷ []) = (number64, tt) in
    let numbered : All (u64 ∷ (entry.the_field).row ∷ []) = (number64, (entry_field_crosses, tt)) in
    variants change.the_type (
      tt,
      (
        (boxed sight.the_row sight_crosses, tt),
        (
          (renewal_crosses, tt),
          (
            grain,
            (
              (grain_crosses, (optional activation.the_row activation_crosses, tt)),
              (
                grain,
                (
                  grain,
                  (
                    (hashed_crosses, tt),
                    (
                      number,
                      (
                        numbered,
                        (
                          number,
                          (
                            number,
                            (
                              numbered,
                              (
                                grain,
                                (
                                  (grain_crosses, (activation_field_crosses, tt)),
                                  (
                                    (number64, (range_crosses, (silo_crosses, tt))),
                                    (
                                      (number64, (range_crosses, (silo_crosses, (array u8 32 byte, tt)))),
                                      (
                                        (page_crosses, tt),
                                        (
                                          (range_crosses, tt),
                                          (
                                            (range_crosses, (table_crosses, tt)),
                                            (
                                              (recovery_crosses, tt),
                                              (
                                                (report_crosses, tt),
                                                ((silo_crosses, (number64, (listed range.the_row range_crosses, tt))), tt),
                                              ),
                                            ),
                                          ),
                                        ),
                                      ),
                                    ),
                                  ),
                                ),
                              ),
                            ),
                          ),
                        ),
                      ),
                    ),
                  ),
                ),
              ),
            ),
          ),
        ),
      ),
    )

pub plan_crosses : Crosses (plan.the_field).row
plan_crosses = fields plan.the_type (listed letter.the_row letter_crosses, (effect_crosses, (change_crosses, tt)))

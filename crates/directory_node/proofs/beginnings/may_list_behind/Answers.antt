use Rattle.std.proofs.Common.{◌≤◌, ◌<◌, sym, ap, ◌∙◌, length, arith}
use Rattle.hash_ring.specs.declared.Hashing.{Hashing}
use Rattle.hash_ring.specs.Numbers.{ring_error_number}
use Rattle.directory_rules.specs.ListedModel.{listed_of}
use Rattle.directory_node.specs.MembershipModel.{count_refused_by}
use Rattle.directory_node.proofs.ListedSilos.{some_weaker}
use Rattle.directory_node.proofs.ListedRows.{barred_by_endpoint, barred_by_places, barred_by_room, barred_by_version, listed_then}
use Rattle.directory_node.proofs.beginnings.may_list_behind.Goals as goal
use Rattle.directory_node.proofs.beginnings.may_list_behind.Goals.{then-version-eq0-via-then-version-eq0, then-version-eq0-via-else-version-eq0+then-is_endpoint_listed}

pub returns-then-version-eq0-clause-refused : goal.returns-then-version-eq0-clause-refused
returns-then-version-eq0-clause-refused c = elim c.then-version-eq0.branch [
  | then-version-eq0-via-then-version-eq0 w ↦
      barred_by_version c.args.settings.now c.args.version c.args.front.now c.args.one.now c.requires w.if-version-eq0.true
  | then-version-eq0-via-else-version-eq0+then-is_endpoint_listed w ↦
      barred_by_endpoint c.args.settings.now c.args.version c.args.front.now c.args.one.now c.requires
      (sym w.is_endpoint_listed.ensures ∙ w.if-is_endpoint_listed.true)
]

pub returns-then-silos-front-clause-refused : goal.returns-then-silos-front-clause-refused
returns-then-silos-front-clause-refused c =
    let full : c.args.settings.now.silos ≤ length c.args.front.now = omega arith in
    barred_by_room c.args.settings.now c.args.version c.args.front.now c.args.one.now c.requires c.if-version-eq0.false
    (sym c.is_endpoint_listed.ensures ∙ c.if-is_endpoint_listed.false) full

pub returns-in-Ok-clause-lists : goal.returns-in-Ok-clause-lists
returns-in-Ok-clause-lists c =
    let one = c.args.one.now in
    let room : length c.args.front.now < c.args.settings.now.silos = omega arith in
    listed_then c.args.settings.now c.args.version c.args.front.now one c.requires c.if-version-eq0.false
    (sym c.is_endpoint_listed.ensures ∙ c.if-is_endpoint_listed.false) room
    (ap (λ (h : Hashing). count_refused_by one.status c.args.settings.now h (length (listed_of one).places)) (sym c.hashing.ensures)
    ∙ c.in-Ok.ensures.fit)

pub returns-in-Err-clause-refused : goal.returns-in-Err-clause-refused
returns-in-Err-clause-refused c =
    let one = c.args.one.now in
    let number = ring_error_number c.in-Err.refusal in
    let room : length c.args.front.now < c.args.settings.now.silos = omega arith in
    barred_by_places c.args.settings.now c.args.version c.args.front.now one c.requires c.if-version-eq0.false
    (sym c.is_endpoint_listed.ensures ∙ c.if-is_endpoint_listed.false) room number
    (some_weaker number _ _
    (λ n refused. ap (λ (h : Hashing). count_refused_by one.status c.args.settings.now h (length (listed_of one).places)) (sym c.hashing.ensures)
    ∙ refused) c.in-Err.ensures.refused)

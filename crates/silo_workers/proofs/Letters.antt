-- Letters, and what steps and events tell, cross.
use mathlib.Core.List.{[], ◌∷◌}
use Rattle.silo_workers.proofs.Parts.{Crosses, All, choice, fields, modelled, variants, number16, number32, number64}
use Rattle.silo_workers.proofs.Holders.{optional, listed}
use Rattle.silo_workers.proofs.Names.{silo_crosses, grain_crosses, activation_crosses, entry_field_crosses, range_crosses}
use Rattle.silo_workers.proofs.Members.{hashing_crosses}
use Rattle.silo_workers.proofs.Tables.{page_crosses, report_crosses}
use Rattle.silo_address.specs.contracts.grain.GrainId as grain
use Rattle.silo_address.specs.contracts.entry.Entry as entry
use Rattle.ring_range.specs.contracts.range.RingRange as range
use Rattle.silo_address.specs.contracts.activation.ActivationId as activation
use Rattle.directory_rules.specs.contracts.act.Act as act
use Rattle.directory_rules.specs.contracts.act.Request as request
use Rattle.directory_rules.specs.contracts.reply.Why as why
use Rattle.directory_rules.specs.contracts.reply.Reply as reply
use Rattle.directory_rules.specs.contracts.effect.Effect as effect
use Rattle.directory_rules.specs.contracts.letter_kind.LetterKind as kind
use Rattle.hash_ring.specs.contracts.hashing.Hashing as hashing
use Rattle.grain_table.specs.contracts.hashed_request.HashedRequest as hashed
use Rattle.grain_table.specs.contracts.hashed_request.HashedRequest.TheInside as hashed_inside
use Rattle.directory_letters.specs.contracts.letter.Body as body
use Rattle.directory_letters.specs.contracts.letter.Letter as letter
use Rattle.directory_letters.specs.contracts.letter.Letter.TheInside as letter_inside

act_crosses : Crosses (act.the_field).row
act_crosses =
    let previous = optional activation.the_row activation_crosses in
    variants act.the_type ((entry_field_crosses, (previous, tt)), ((entry_field_crosses, tt), ((grain_crosses, tt), tt)))

request_crosses : Crosses (request.the_field).row
request_crosses = fields request.the_type (silo_crosses, (number64, (number64, (number32, (act_crosses, tt)))))

pub hashed_crosses : Crosses hashed.the_row
hashed_crosses =
    modelled hashed_inside.the_type _ _ _ _ (request_crosses, (optional hashing.the_row (choice hashing.the_type hashing_crosses), tt))

pub why_crosses : Crosses (why.the_field).row
why_crosses = variants why.the_type ((number64, tt), (tt, ((number64, tt), (tt, tt))))

reply_crosses : Crosses (reply.the_field).row
reply_crosses =
    let entry : All ((entry.the_field).row ∷ []) = (entry_field_crosses, tt) in
    variants reply.the_type (entry, (entry, (tt, (tt, (entry, (tt, ((why_crosses, tt), tt)))))))

body_crosses : Crosses (body.the_field).row
body_crosses =
    let ranges = listed range.the_row range_crosses in
    let range : All (range.the_row ∷ []) = (range_crosses, tt) in
    let after = optional grain.the_row grain_crosses in
    variants body.the_type (
      (hashed_crosses, tt),
      (
        (number64, (reply_crosses, tt)),
        (
          (range_crosses, (number64, tt)),
          (
            (page_crosses, tt),
            (
              range,
              (
                range,
                (
                  (range_crosses, (after, tt)),
                  ((report_crosses, tt), ((ranges, tt), ((ranges, tt), (range, (range, ((entry_field_crosses, tt), tt)))))),
                ),
              ),
            ),
          ),
        ),
      ),
    )

pub letter_crosses : Crosses letter.the_row
letter_crosses = modelled letter_inside.the_type _ _ _ _ (silo_crosses, (silo_crosses, (number64, (body_crosses, tt))))

pub effect_crosses : Crosses (effect.the_field).row
effect_crosses = search (entry_field_crosses, silo_crosses, grain_crosses, why_crosses, variants, number16) depth 60 parts 0 fits 5000

pub kind_crosses : Crosses (kind.the_field).row
kind_crosses = search variants depth 40 parts 0 fits 5000

use Rattle.std.proofs.Common.{◌<◌, ◌≤◌, ◌+◌, ap, sym, ◌∙◌, length, take, drop, arith}
use Rattle.std.specs.List.{position_or_len}
use Rattle.silo_address.specs.ActivationText.{activation_of, is_exclamation_mark}
use Rattle.texts.specs.Numeral.{read_number}
use Rattle.silo_address.specs.ReadSilo.{read_silo}
use Rattle.silo_address.proofs.ActivationLaws.{activation_clauses, read_activation-cut, read_activation-whole}
use Rattle.texts.proofs.Cuts.{rest_from}
use Rattle.silo_address.proofs.activation.ActivationId.parse.Goals as goal

pub returns-then-end-text : goal.returns-then-end-text
returns-then-end-text c =
    let text = c.args.text.now in
    let end = c.first_position-end.ensures.first in
    let inside : position_or_len is_exclamation_mark text < length text = omega arith in
    let reads = c.from_parts.ensures
    ∙ ap (λ bytes. activation_of (read_silo (take c.first_position-end.result text)) (read_number 18446744073709551615 bytes))
    (rest_from text (c.first_position-end.result + 1))
    ∙ ap (λ n. activation_of (read_silo (take n text)) (read_number 18446744073709551615 (drop (n + 1) text))) end
    ∙ sym (read_activation-cut text inside) in
    let all = activation_clauses text _ reads in
    record { reads = reads; found = all.found; shape = all.shape; only = all.only }

pub returns-else-end-text : goal.returns-else-end-text
returns-else-end-text c =
    let text = c.args.text.now in
    let end = c.first_position-end.ensures.first in
    let whole : length text ≤ position_or_len is_exclamation_mark text = omega arith in
    let reads = sym (read_activation-whole text whole) in
    let all = activation_clauses text _ reads in
    record { reads = reads; found = all.found; shape = all.shape; only = all.only }

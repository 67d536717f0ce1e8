use Rattle.std.proofs.Common.{ap, ◌∙◌, ◌++◌, ◌∷◌, arith, drop, slice_index}
use Rattle.std.specs.Fmt.{decimal}
use Rattle.silo_address.specs.Marks.{at_sign, colon, dot}
use Rattle.script_lines.proofs.Texts.{silo_put, short_byte, short_generation, short_port}
use Rattle.script_lines.proofs.marked.put_silo.Goals as goal

pub put_number-start-requires-clause-room : goal.put_number-start-requires-clause-room
put_number-start-requires-clause-room c =
    let silo = c.args.silo.now in
    let is = c.in_range.ensures in
    let generation = short_generation c.from.result silo is (c.from.ensures ∙ c.generation.ensures) in
    omega arith

pub put_number-start-requires-2-clause-room : goal.put_number-start-requires-2-clause-room
put_number-start-requires-2-clause-room c =
    let silo = c.args.silo.now in
    let is = c.in_range.ensures in
    let generation = short_generation c.from.result silo is (c.from.ensures ∙ c.generation.ensures) in
    let port = short_port c.from-2.result silo is (c.from-2.ensures ∙ c.port.ensures) in
    omega arith

pub put_number-start-requires-3-clause-room : goal.put_number-start-requires-3-clause-room
put_number-start-requires-3-clause-room c =
    let silo = c.args.silo.now in
    let is = c.in_range.ensures in
    let generation = short_generation c.from.result silo is (c.from.ensures ∙ c.generation.ensures) in
    let port = short_port c.from-2.result silo is (c.from-2.ensures ∙ c.port.ensures) in
    let fourth = short_byte c.from-3.result 3 silo is (c.from-3.ensures ∙ ap (λ ip. slice_index ip 3) c.ip.ensures) in
    omega arith

pub put_number-start-requires-4-clause-room : goal.put_number-start-requires-4-clause-room
put_number-start-requires-4-clause-room c =
    let silo = c.args.silo.now in
    let is = c.in_range.ensures in
    let generation = short_generation c.from.result silo is (c.from.ensures ∙ c.generation.ensures) in
    let port = short_port c.from-2.result silo is (c.from-2.ensures ∙ c.port.ensures) in
    let fourth = short_byte c.from-3.result 3 silo is (c.from-3.ensures ∙ ap (λ ip. slice_index ip 3) c.ip.ensures) in
    let third = short_byte c.from-4.result 2 silo is (c.from-4.ensures ∙ ap (λ ip. slice_index ip 2) c.ip.ensures) in
    omega arith

pub put_number-start-requires-5-clause-room : goal.put_number-start-requires-5-clause-room
put_number-start-requires-5-clause-room c =
    let silo = c.args.silo.now in
    let is = c.in_range.ensures in
    let generation = short_generation c.from.result silo is (c.from.ensures ∙ c.generation.ensures) in
    let port = short_port c.from-2.result silo is (c.from-2.ensures ∙ c.port.ensures) in
    let fourth = short_byte c.from-3.result 3 silo is (c.from-3.ensures ∙ ap (λ ip. slice_index ip 3) c.ip.ensures) in
    let third = short_byte c.from-4.result 2 silo is (c.from-4.ensures ∙ ap (λ ip. slice_index ip 2) c.ip.ensures) in
    let second = short_byte c.from-5.result 1 silo is (c.from-5.ensures ∙ ap (λ ip. slice_index ip 1) c.ip.ensures) in
    omega arith

pub put_number-requires-clause-room : goal.put_number-requires-clause-room
put_number-requires-clause-room c =
    let silo = c.args.silo.now in
    let is = c.in_range.ensures in
    let generation = short_generation c.from.result silo is (c.from.ensures ∙ c.generation.ensures) in
    let port = short_port c.from-2.result silo is (c.from-2.ensures ∙ c.port.ensures) in
    let fourth = short_byte c.from-3.result 3 silo is (c.from-3.ensures ∙ ap (λ ip. slice_index ip 3) c.ip.ensures) in
    let third = short_byte c.from-4.result 2 silo is (c.from-4.ensures ∙ ap (λ ip. slice_index ip 2) c.ip.ensures) in
    let second = short_byte c.from-5.result 1 silo is (c.from-5.ensures ∙ ap (λ ip. slice_index ip 1) c.ip.ensures) in
    let first = short_byte c.from-6.result 0 silo is (c.from-6.ensures ∙ ap (λ ip. slice_index ip 0) c.ip.ensures) in
    omega arith

pub returns-clause-put : goal.returns-clause-put
returns-clause-put c =
    silo_put c.args.silo.now c.args.mark (drop c.args.end c.args.bytes.now) _ _ _ _ _ _
    (c.put_number-start.ensures.put
    ∙ ap (λ n. decimal n ++ c.args.mark ∷ drop c.args.end c.args.bytes.now) (c.from.ensures ∙ c.generation.ensures))
    (c.put_number-start-2.ensures.put
    ∙ ap (λ n. decimal n ++ at_sign ∷ drop c.put_number-start.result c.put_number-start.new.bytes) (c.from-2.ensures ∙ c.port.ensures))
    (c.put_number-start-3.ensures.put
    ∙ ap (λ n. decimal n ++ colon ∷ drop c.put_number-start-2.result c.put_number-start-2.new.bytes)
    (c.from-3.ensures ∙ ap (λ ip. slice_index ip 3) c.ip.ensures))
    (c.put_number-start-4.ensures.put
    ∙ ap (λ n. decimal n ++ dot ∷ drop c.put_number-start-3.result c.put_number-start-3.new.bytes)
    (c.from-4.ensures ∙ ap (λ ip. slice_index ip 2) c.ip.ensures))
    (c.put_number-start-5.ensures.put
    ∙ ap (λ n. decimal n ++ dot ∷ drop c.put_number-start-4.result c.put_number-start-4.new.bytes)
    (c.from-5.ensures ∙ ap (λ ip. slice_index ip 1) c.ip.ensures))
    (c.put_number.ensures.put
    ∙ ap (λ n. decimal n ++ dot ∷ drop c.put_number-start-5.result c.put_number-start-5.new.bytes)
    (c.from-6.ensures ∙ ap (λ ip. slice_index ip 0) c.ip.ensures))

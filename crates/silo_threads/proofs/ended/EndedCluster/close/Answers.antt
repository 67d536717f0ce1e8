use Rattle.std.proofs.Common.{◌≡◌, OnErr, Result, Ok, Err, rules}
use Rattle.silo_threads.proofs.ended.EndedCluster.close.Goals as goal

refused : {T E P : Type 0} (result : Result T E) → P → OnErr result P
refused (Ok value) holds = tt
refused (Err error) holds = holds

pub returns-in_err-compare-clause-declined : goal.returns-in_err-compare-clause-declined
returns-in_err-compare-clause-declined g c =
    let board : c.journal.result.now ≡ c.args.self.board.journal = search rules in
    let receipts : c.deref_mut.result.now ≡ c.args.self.receipts.items = search rules in
    refused c.from_residual.result (rw (board, receipts) at c.in_err-compare.ensures.declined)

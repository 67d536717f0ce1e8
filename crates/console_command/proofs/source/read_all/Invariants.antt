use Rattle.std.proofs.Common.{◌≡◌, ◌≤◌, ◌-◌, vec_len}
use Rattle.std.specs.Io.KnownBytes.{Consumes}
use Rattle.console_command.proofs.Chunks.{ReadSoFar}
use Rattle.console_command.proofs.source.read_all.Given as goal

abbrev pub invariant-chunks : goal.invariant-chunks
invariant-chunks g l = record {
  consumes : Consumes (g.R.Source.remaining l.fn.reader) (g.R.Source.remaining l.reader) l.bytes.items;
  fits : vec_len l.bytes ≤ 268435456;
  room : vec_len l.chunk ≡ 65536;
  calls : ReadSoFar g.R.Source.reads l.fn.reader l.reader;
}

abbrev pub decreases-chunks : goal.decreases-chunks
decreases-chunks g l = 268435456 - vec_len l.bytes

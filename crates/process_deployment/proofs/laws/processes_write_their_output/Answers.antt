use Rattle.process_deployment.proofs.Outputs.{processes_write_their_output}
use Rattle.process_deployment.proofs.laws.processes_write_their_output.Goals as goal

pub returns : goal.returns
returns c = processes_write_their_output

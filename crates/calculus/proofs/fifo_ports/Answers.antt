use Rattle.calculus.proofs.Ports.{port_enters, port_serves}
use Rattle.calculus.proofs.fifo_ports.Goals as goal

pub returns : goal.returns
returns c = record { enters = port_enters; serves = port_serves }

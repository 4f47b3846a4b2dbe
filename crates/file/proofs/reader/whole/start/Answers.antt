use Rattle.std.proofs.Common.{arith}
use Rattle.file.proofs.Exact.{encoded_read}
use Rattle.file.proofs.reader.whole.start.Goals as goal

pub returns : goal.returns
returns c =
    let r = c.new.ensures in
    record { bytes = r.bytes; start = r.start; sole = λ d h. encoded_read c.args.bytes.now d (λ i. omega (arith, c.type_inv.bytes i)) h }

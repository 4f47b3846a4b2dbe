use Rattle.std.proofs.Common.{arith, rules}
use Rattle.std.proofs.lemmas.List.{drop-drop}
use Rattle.std.proofs.lemmas.Slice.{drop-put_mid, take-put_mid}
use Rattle.file.specs.Writers.{done, left}
use Rattle.file.proofs.encoder.writer.Writer.put.Goals as goal

pub returns : goal.returns
unfolding done left
returns c = record {
  after = record {
    owner = search rules;
    more = grind (arith, drop-drop, take-put_mid, drop-put_mid);
    rest = grind (arith, drop-drop, take-put_mid, drop-put_mid);
  };
}

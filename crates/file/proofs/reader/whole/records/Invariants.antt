use Rattle.std.proofs.Common.{◌≡◌, ◌-◌}
use Rattle.file.specs.Reads.{read_from}
use Rattle.file.proofs.reader.whole.records.Given as goal

abbrev pub invariant-loop-turn : goal.invariant-loop-turn
invariant-loop-turn l =
    let start = l.initial.reader in
    let bytes = start.bytes.now in
    (l.reader.bytes.now ≡ bytes) × (read_from (l.most - l._turn) l.reader.filling.draft l.reader.at bytes ≡ read_from l.most start.filling.draft start.at bytes)

use Rattle.std.proofs.Common.{◌≡◌, ◌≤◌, ◌∷◌, length, refl, sym, ap, ◌∙◌, add-one, arith}
use Rattle.file.specs.Kinds.{row_kind}
use Rattle.file.specs.Writers.{left}
use Rattle.file.specs.Writes.{cell_bytes, records, row_record}
use Rattle.file.proofs.Writing.{length_records, room_left, wrote_more}
use Rattle.file.proofs.encoder.record.RowRecord.put.Goals as goal

pub put_number-requires : goal.put_number-requires
put_number-requires c =
    let l = c.loop-cell in
    let front = wrote_more c.put_letter.ensures.after c.put.ensures.after _ refl in
    let room : 32 ≤ length (left c.put.new.self) = room_left front 32 (omega arith) in
    room_left l.invariant 4 (omega (arith, room, length_records (cell_bytes c.args.self.now) 4 (λ k. refl) l.cell-index))

pub loop-cell-preserved : goal.loop-cell-preserved
loop-cell-preserved c =
    let l = c.loop-cell in
    wrote_more l.invariant c.put_number.ensures.after _ (sym (ap (records (cell_bytes c.args.self.now)) (add-one l.cell-index)))

pub returns-clause-after : goal.returns-clause-after
returns-clause-after c =
    let l = c.loop-cell in
    let row = c.args.self.now in
    let front = wrote_more c.put_letter.ensures.after c.put.ensures.after _ refl in
    let all : l.cell-index ≡ 8 = omega arith in
    wrote_more front l.invariant (row_record c.args.number row) (ap (λ n. row_kind ∷ c.args.number ∷ records (cell_bytes row) n) all)

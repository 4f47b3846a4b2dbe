use Rattle.std.proofs.Common.{◌+◌, ◌*◌, ◌++◌, ap, subst, All, arith, rules}
use Rattle.file.specs.Counts.{HasCells, HasPath, flows, rows}
use Rattle.file.specs.Writes.{encoded, end_record, flow_bytes, front, records, row_bytes}
use Rattle.file.proofs.Returning.{read_encoded}
use Rattle.file.proofs.Writing.{parts, room_left, wrote_more}
use Rattle.file.proofs.encoder.put_file.Goals as goal

pub put_all-requires-clause-room : goal.put_all-requires-clause-room
put_all-requires-clause-room c =
    let d = c.args.draft.now in
    let p = parts d c.split_at.ensures.front c.split_at-2.ensures.front c.split_at-3.ensures.front (search rules) (search rules) (search rules) in
    omega (arith, p.of_ports.size)

pub put_all-requires-2-clause-room : goal.put_all-requires-2-clause-room
put_all-requires-2-clause-room c =
    let d = c.args.draft.now in
    let p = parts d c.split_at.ensures.front c.split_at-2.ensures.front c.split_at-3.ensures.front (search rules) (search rules) (search rules) in
    room_left c.put_all.ensures.after _ (omega (arith, p.of_ports.size, p.of_flows.size))

pub put_all-requires-3-clause-room : goal.put_all-requires-3-clause-room
put_all-requires-3-clause-room c =
    let d = c.args.draft.now in
    let p = parts d c.split_at.ensures.front c.split_at-2.ensures.front c.split_at-3.ensures.front (search rules) (search rules) (search rules) in
    let left = room_left c.put_all.ensures.after (27 * flows d + 34 * rows d) (omega (arith, p.of_ports.size)) in
    room_left c.put_all-2.ensures.after _ (omega (arith, left, p.of_flows.size, p.of_rows.size))

pub put_end-requires : goal.put_end-requires
put_end-requires c =
    let d = c.args.draft.now in
    let p = parts d c.split_at.ensures.front c.split_at-2.ensures.front c.split_at-3.ensures.front (search rules) (search rules) (search rules) in
    let left = room_left c.put_all.ensures.after (27 * flows d + 34 * rows d + 5) (omega (arith, p.of_ports.size)) in
    let less = room_left c.put_all-2.ensures.after (34 * rows d + 5) (omega (arith, left, p.of_flows.size)) in
    room_left c.put_all-3.ensures.after 5 (omega (arith, less, p.of_rows.size))

pub returns-clause-after : goal.returns-clause-after
returns-clause-after c =
    let d = c.args.draft.now in
    let p = parts d c.split_at.ensures.front c.split_at-2.ensures.front c.split_at-3.ensures.front (search rules) (search rules) (search rules) in
    let F = records (flow_bytes d) (flows d) ++ records (row_bytes d) (rows d) in
    let flows_rows = wrote_more c.put_all-2.ensures.after c.put_all-3.ensures.after F (let f = p.of_flows.same in let r = p.of_rows.same in cc) in
    let all = wrote_more c.put_all.ensures.after flows_rows (front d) (let q = p.of_ports.same in cc) in
    wrote_more all c.put_end.ensures.after (encoded d) (ap (λ n. front d ++ end_record n) (omega arith))

pub returns-clause-back : goal.returns-clause-back
returns-clause-back c =
    let d = c.args.draft.now in
    let paths = subst (All HasPath) c.split_at-2.ensures.front c.put_all-2.ensures.full in
    let cells = subst (All HasCells) c.split_at-3.ensures.front c.put_all-3.ensures.full in
    read_encoded d c.requires.few (search rules) (search rules) (search rules) paths cells

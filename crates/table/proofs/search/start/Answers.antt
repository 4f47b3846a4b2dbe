use Rattle.std.proofs.Common.{◌++◌, drop, refl, arith}
use Rattle.std.proofs.lemmas.List.{get_or-replicate, length-append, length-drop}
use Rattle.draft.specs.Plans.{flow_at, no_row}
use Rattle.table.specs.Rounds.{start_row, zero_row}
use Rattle.table.proofs.Places.{front_filled}
use Rattle.table.proofs.Tables.{table_all}
use Rattle.table.proofs.search.start.Goals as goal

pub returns : goal.returns
returns c =
    let P = c.args.plan.now in
    let n = P.parts.size.flows in
    let front = c.loop-f.used in
    let zs = c.empty.result.rows in
    table_all P.parts (λ g. start_row (flow_at P.parts g)) (record { rows = front ++ drop n zs }) n (omega (arith, length-append front (drop n zs), length-drop n zs, P.few.1)) refl
    (front_filled (λ g. start_row (flow_at P.parts g)) (λ _. zero_row) no_row front zs n 64 c.loop-f.invariant.0 (λ k l. c.loop-f.invariant.1 k (omega arith)) (λ k l. rw c.empty.ensures (get_or-replicate 64 k zero_row no_row l)))

use Rattle.std.proofs.Common.{◌≡◌, ℕ, ◌+◌, ◌<◌, Bool, ◌&&◌, ltb, ◌++◌, drop, length, Result, sym, refl, ap, ◌∙◌, add-one, arith}
use Rattle.std.proofs.lemmas.Result.{err_from_is_err_and}
use Rattle.std.proofs.lemmas.List.{length-append, length-drop, length-set}
use Rattle.std.proofs.lemmas.Bool.{cond-false, cond-true, le-ltb, lt-ltb}
use Rattle.draft.specs.Plans.{flow_at, hops, no_row, row_at}
use Rattle.draft.specs.declared.flow.Flow.{Flow}
use Rattle.draft.specs.declared.table.Row.{Row}
use Rattle.draft.specs.declared.table.Table.{Table}
use Rattle.table.specs.Loads.{load_in, load_of}
use Rattle.table.specs.Rounds.{climb_in, gives, made_by, made_row, same_row, still_by}
use Rattle.table.specs.declared.fault.TableFault.{TableFault}
use Rattle.table.proofs.Places.{fill_more, front_filled}
use Rattle.table.proofs.Tables.{gives_err, gives_ok, table_over, used_row}
use Rattle.table.proofs.Turns.{rows_at, rows_more}
use Rattle.table.proofs.rounds.make_rows.Goals as goal

pub returns-in_err-still-clause-answer : goal.returns-in_err-still-clause-answer
returns-in_err-still-clause-answer c =
    let P = c.args.plan.now.parts in
    let t : Table = record { rows = c.args.rows.now } in
    let gs = c.args.gaps.now.slots in
    let f = c.loop-f.f in
    let w = flow_at P f in
    let p = err_from_is_err_and c.from_residual.result c.from_residual.ensures.1 in
    let here = c.loop-f.invariant.1 f (omega arith) ∙ cond-false (ltb f f) (made_row w gs) (row_at t f) (le-ltb f f (omega arith)) in
    let e = rw (c.route_of.ensures.number, c.route_of.ensures.flow, here) at c.in_err-still.ensures.answer in
    rw (p.1, p.2)
    (ap (λ (r : Result (Unit {0}) TableFault). gives r (still_by P gs t P.size.flows))
    (rows_at (λ f. climb_in f (flow_at P f) gs) P.size.flows f c.in_err-still.field-0.0 (omega arith) c.loop-f.invariant.2
    (gives_err (climb_in f w gs) (same_row w gs (row_at t f) (hops w)) c.in_err-still.field-0.0 e)))

pub loop-f-preserved : goal.loop-f-preserved
loop-f-preserved c =
    let P = c.args.plan.now.parts in
    let t : Table = record { rows = c.args.rows.now } in
    let gs = c.args.gaps.now.slots in
    let f = c.loop-f.f in
    let xs = c.loop-f.used in
    let x = c.make_row.new.row in
    let within : f < 64 = omega arith in
    let same = λ (w : Flow). same_row w gs (row_at t f) (hops w) in
    let row = λ (w : Flow). gives (climb_in f w gs) (same w) in
    let before = c.loop-f.invariant.1 f (omega arith) ∙ cond-false (ltb f f) (made_row (flow_at P f) gs) (row_at t f) (le-ltb f f (omega arith)) in
    let e = gives_ok (climb_in f (flow_at P f) gs) (same (flow_at P f)) c.in_ok-still.field-0 (rw (c.route_of.ensures.number, c.route_of.ensures.flow, before) at c.in_ok-still.ensures.answer) in
    let made : x ≡ made_row (flow_at P f) gs = c.in_ok-still.ensures.after refl ∙ ap (λ (w : Flow). made_row w gs) c.route_of.ensures.flow in
    let i : f < length xs = omega arith in
    let added : Flow → Row → ℕ → ℕ = λ w r p. load_in w r p (hops w) in
    let used : made_row (flow_at P f) gs ≡ row_at (made_by P gs) f = sym (used_row P (λ f. made_row (flow_at P f) gs) f within (omega arith)) in (
      length-set xs f x ∙ c.loop-f.invariant.0,
      λ g lt. fill_more (λ g. made_row (flow_at P g) gs) (row_at t) xs f x no_row i made (λ a l. c.loop-f.invariant.1 a (omega arith)) g (omega arith),
      rows_more (λ f. climb_in f (flow_at P f) gs) f c.loop-f.invariant.2 e.0,
      rw (add-one f) (ap (λ (b : Bool). b && c.in_ok-still.field-0) c.loop-f.invariant.3 ∙ ap (λ (b : Bool). still_by P gs t f && b) e.1),
      λ p lt.
          rw (add-one f)
          (c.in_ok-still.ensures.loads refl p lt
          ∙ ap (λ (n : ℕ). n + added c.route_of.result.flow.now (made_row c.route_of.result.flow.now gs) p) (c.loop-f.invariant.4 p lt)
          ∙ ap (λ (w : Flow). load_of P (made_by P gs) p f + added w (made_row w gs) p) c.route_of.ensures.flow
          ∙ ap (λ (r : Row). load_of P (made_by P gs) p f + added (flow_at P f) r p) used),
      λ p lt. omega (arith, c.in_ok-still.ensures.most refl p lt, c.loop-f.invariant.5 p lt),
    )

pub returns-clause-after : goal.returns-clause-after
returns-clause-after c =
    let P = c.args.plan.now in
    let n = P.parts.size.flows in
    let t : Table = record { rows = c.args.rows.now } in
    let front = c.loop-f.used in
    let row = λ (f : ℕ). made_row (flow_at P.parts f) c.args.gaps.now.slots in
    let long : length (front ++ drop n t.rows) ≡ 64 = omega (arith, length-append front (drop n t.rows), length-drop n t.rows, c.requires.shape.rows, P.few.1) in
    λ _. table_over P.parts row t (record { rows = front ++ drop n t.rows }) n c.requires.shape long refl
    (front_filled row (row_at t) no_row front t.rows n 64 c.loop-f.invariant.0
    (λ k l. c.loop-f.invariant.1 k l ∙ cond-true (ltb k c.loop-f.f) (row k) (row_at t k) (lt-ltb k c.loop-f.f (omega arith)))
    (λ k _. refl))

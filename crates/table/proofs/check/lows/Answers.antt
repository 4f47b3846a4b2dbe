use Rattle.std.proofs.Common.{◌≡◌, ℕ, ◌+◌, ◌*◌, get_or, take, ap, ◌∙◌, add-one, arith}
use Rattle.std.proofs.lemmas.Bool.{le-leb, lt-leb}
use Rattle.std.proofs.lemmas.List.{get_or-take, length-take}
use Rattle.draft.specs.Plans.{flow_at, hops, no_row, row_at}
use Rattle.draft.specs.declared.flow.Flow.{Flow}
use Rattle.draft.specs.declared.table.Row.{Row}
use Rattle.table.specs.Checks.{lows_in, reaches}
use Rattle.table.specs.Paths.{need_after, need_by}
use Rattle.table.specs.declared.fault.TableFault.TheVariants.{Low}
use Rattle.table.proofs.Turns.{rows_at, rows_more, tests_all, tests_at, tests_more}
use Rattle.table.proofs.check.lows.Goals as goal

pub loop-k-preserved : goal.loop-k-preserved
loop-k-preserved c =
    let w = c.route_of-route.result.flow.now in
    let gs = c.args.gaps.now.slots in
    let t = c.args.table.now in
    let f = c.search.f in
    let r = row_at t f in
    let k = c.loop-k.k in
    let here = get_or (take c.args.plan.now.parts.size.flows t.rows) f no_row in
    let e : c.from-cell.result ≡ get_or r.cells k 0 =
    c.from-cell.ensures ∙ get_or-take c.hops.result here.cells k 0 (omega (arith, length-take c.hops.result here.cells))
    ∙ ap (λ (r : Row). get_or r.cells k 0) (get_or-take c.args.plan.now.parts.size.flows t.rows f no_row (omega arith)) in (
      c.loop-k.invariant.0,
      rw (add-one k) (c.need_after-need.ensures ∙ ap (λ (n : ℕ). need_after w gs n k) e),
      tests_more (reaches w gs r) (λ k. Low (f * 8 + k)) k c.loop-k.invariant.2 (le-leb (need_by w gs r k) (get_or r.cells k 0) (omega (arith, e))),
    )

pub search-preserved : goal.search-preserved
search-preserved c =
    let P = c.args.plan.now.parts in
    let t = c.args.table.now in
    let w = c.route_of-route.result.flow.now in
    let gs = c.args.gaps.now.slots in
    let f = c.search.f in (
      c.loop-k.invariant.0,
      rows_more (λ f. lows_in f (flow_at P f) gs (row_at t f)) f c.search.invariant.1
          (tests_all (reaches w gs (row_at t f)) (λ k. Low (f * 8 + k)) (hops w) c.loop-k.k (omega arith) c.loop-k.invariant.2
          ∙ ap (λ (w : Flow). lows_in f w gs (row_at t f)) c.route_of-route.ensures.flow),
    )

pub returns-then-cell-need : goal.returns-then-cell-need
returns-then-cell-need c =
    let P = c.args.plan.now.parts in
    let t = c.args.table.now in
    let w = c.route_of-route.result.flow.now in
    let gs = c.args.gaps.now.slots in
    let f = c.search.f in
    let k = c.loop-k.k in
    let r = row_at t f in
    let here = get_or (take P.size.flows t.rows) f no_row in
    let e : c.from-cell.result ≡ get_or r.cells k 0 =
    c.from-cell.ensures ∙ get_or-take c.hops.result here.cells k 0 (omega (arith, length-take c.hops.result here.cells))
    ∙ ap (λ (r : Row). get_or r.cells k 0) (get_or-take P.size.flows t.rows f no_row (omega arith)) in
    rw (c.place.ensures, c.route_of-route.ensures.number)
    (rows_at (λ f. lows_in f (flow_at P f) gs (row_at t f)) P.size.flows f (Low (f * 8 + k)) (omega arith) c.search.invariant.1
    (tests_at (reaches w gs r) (λ k. Low (f * 8 + k)) (hops w) k (omega arith) c.loop-k.invariant.2
    (lt-leb (need_by w gs r k) (get_or r.cells k 0) (omega (arith, e)))
    ∙ ap (λ (w : Flow). lows_in f w gs r) c.route_of-route.ensures.flow))

use Rattle.std.proofs.Common.{ℕ, ◌+◌, ◌*◌, ◌/◌, ◌<◌, get_or, arith}
use Rattle.std.proofs.lemmas.Bool.{le-leb, lt-leb}
use Rattle.std.proofs.lemmas.List.{get_or-take}
use Rattle.draft.specs.Plans.{no_port, port_at}
use Rattle.plan.proofs.Keeps.{kept_of}
use Rattle.plan.specs.Limits.{rates_through}
use Rattle.table.specs.Checks.{line_fits}
use Rattle.table.specs.declared.fault.TableFault.TheVariants.{Crowded}
use Rattle.table.proofs.Turns.{tests_at, tests_more}
use Rattle.table.proofs.crowds.lines.Goals as goal

pub nonzero_div-held : goal.nonzero_div-held
nonzero_div-held c =
    let P = c.args.plan.now in
    let p = c.loop-p.p in
    let h : p < P.parts.size.ports = omega arith in
    let e = rw (get_or-take P.parts.size.ports P.parts.ports p no_port h) at c.from.ensures in
    omega (arith, ((kept_of P.parts P.kept).ports p h).shortest_least)

pub returns-then-held-from-gt-MOST_WAITING : goal.returns-then-held-from-gt-MOST_WAITING
returns-then-held-from-gt-MOST_WAITING c =
    let P = c.args.plan.now.parts in
    let r = c.args.figures.now in
    let p = c.loop-p.p in
    let h : p < P.size.ports = omega arith in
    let q = get_or-take P.size.ports P.ports p no_port h in
    let held = λ (p : ℕ). get_or r.loads.bits p 0 + rates_through P p * get_or r.delays.slots p 0 in
    tests_at (λ p. line_fits (port_at P p) (held p)) Crowded P.size.ports p h c.loop-p.invariant
    (lt-leb (held p / (port_at P p).shortest) 32 (rw (c.backlog-held.ensures, c.from.ensures, q) at c.if-held-from-gt-MOST_WAITING.true))

pub loop-p-preserved : goal.loop-p-preserved
loop-p-preserved c =
    let P = c.args.plan.now.parts in
    let r = c.args.figures.now in
    let p = c.loop-p.p in
    let q = get_or-take P.size.ports P.ports p no_port (omega arith) in
    let held = λ (p : ℕ). get_or r.loads.bits p 0 + rates_through P p * get_or r.delays.slots p 0 in
    tests_more (λ p. line_fits (port_at P p) (held p)) Crowded p c.loop-p.invariant
    (le-leb (held p / (port_at P p).shortest) 32 (rw (c.backlog-held.ensures, c.from.ensures, q) at c.if-held-from-gt-MOST_WAITING.false))

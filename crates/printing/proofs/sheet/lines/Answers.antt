use Rattle.std.proofs.Common.{◌≡◌, ℕ, ◌<◌, [], ◌∷◌, ◌++◌, get_or, codes, subst, refl, arith, rules, length-append}
use Rattle.std.proofs.lemmas.List.{get_or-take}
use Rattle.table.specs.Figures.{port_figures}
use Rattle.table.specs.Loads.{backlog, delay}
use Rattle.table.specs.Paths.{flow_delay}
use Rattle.printing.specs.Lines.{line}
use Rattle.printing.specs.Prints.{Printed}
use Rattle.printing.specs.Sheets.{flow_line, kit_line, lines_of, port_line}
use Rattle.printing.proofs.Pastes.{FirstLines, printed_then, first_lines_more}
use Rattle.printing.proofs.Widths.{flow_width, kit_width}
use Rattle.printing.proofs.sheet.lines.Goals as goal

pub loop-p-preserved : goal.loop-p-preserved
loop-p-preserved c =
    let Q = c.args.quote.now in
    let P = Q.plan.parts in
    let figures = c.figures-figures.result in
    let p = c.loop-p.p in
    let x = port_figures figures p in
    let below : p < P.size.ports = omega arith in
    let within : p < 32 = omega (arith, Q.plan.few.0) in
    let d : x.delay ≡ delay P Q.table p = c.figures-figures.ensures.delays p within in
    let b : x.backlog ≡ backlog P Q.table p = c.figures-figures.ensures.backlogs p within in
    let e = get_or-take P.size.ports figures.ports p (record { delay = 0; backlog = 0 }) below in
    first_lines_more c.line.new.out c.loop-p.out c.port_line.new.out (port_line P Q.table) 50 p _ (line (codes "PORT") (p ∷ x.delay ∷ x.backlog ∷ [])) refl (cc)
    (rw e at c.port_line.ensures.short) c.loop-p.invariant (rw e at c.port_line.ensures.after)

pub loop-f-preserved : goal.loop-f-preserved
loop-f-preserved c =
    let Q = c.args.quote.now in
    let f = c.loop-f.f in
    let D = get_or c.figures-figures.result.flows f 0 in
    let below : f < Q.plan.parts.size.flows = omega arith in
    let within : f < 64 = omega (arith, Q.plan.few.1) in
    let d : D ≡ flow_delay Q.plan.parts Q.table f = c.figures-figures.ensures.flows f within in
    let e = get_or-take Q.plan.parts.size.flows c.figures-figures.result.flows f 0 below in
    first_lines_more c.loop-p.out c.loop-f.out c.line-in-loop-f.new.out (flow_line Q.plan.parts Q.table) 29 f _ (line (codes "FLOW") (f ∷ D ∷ [])) refl (cc)
    (flow_width f D (omega arith) (omega (arith, e))) c.loop-f.invariant (rw e at c.line-in-loop-f.ensures)

pub returns : goal.returns
returns c =
    let Q = c.args.quote.now in
    let P = Q.plan.parts in
    let q = c.args.out.now in
    let kit = kit_line P Q.rounds in
    let ports = lines_of (port_line P Q.table) P.size.ports in
    let flows = lines_of (flow_line P Q.table) P.size.flows in
    let Ports : ℕ → Type 0 = λ n. FirstLines c.line.new.out (port_line P Q.table) 50 n c.loop-p.out in
    let Flows : ℕ → Type 0 = λ n. FirstLines c.loop-p.out (flow_line P Q.table) 29 n c.loop-f.out in
    let first : Printed q kit c.line.new.out = search rules in
    let each : c.loop-p.p ≡ P.size.ports = omega arith in
    let port_lines = subst Ports each c.loop-p.invariant in
    let all : c.loop-f.f ≡ P.size.flows = omega arith in
    let flow_lines = subst Flows all c.loop-f.invariant in
    record {
      after = printed_then q c.loop-p.out c.loop-f.out (kit ++ ports) flows (printed_then q c.line.new.out c.loop-p.out kit ports first port_lines.printed) flow_lines.printed;
      short = omega (arith, length-append (kit ++ ports) flows, length-append kit ports, kit_width P.size.ports P.size.flows Q.rounds (omega (arith, Q.plan.few.0)) (omega (arith, Q.plan.few.1)) (omega (arith, c.from.ensures)), port_lines.short, flow_lines.short, Q.plan.few.0, Q.plan.few.1);
    }

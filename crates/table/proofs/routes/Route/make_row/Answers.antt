use Rattle.std.proofs.Common.{◌≡◌, ℕ, ◌+◌, ◌*◌, ◌<◌, ◌≤◌, true, false, cond, eqb, leb, length, get_or, Ok, Result, sym, ap, ◌∙◌, add-one, arith}
use Rattle.std.proofs.lemmas.List.{length-set}
use Rattle.std.proofs.lemmas.Bool.{cond_both, le-leb, lt-leb}
use Rattle.std.proofs.lemmas.Bool.Decides.{Decides-eqb, same_from_decides}
use Rattle.std.proofs.lemmas.Slice.Eq.{slice_eq-Decides}
use Rattle.draft.specs.Plans.{hop_port, hops}
use Rattle.table.specs.Paths.{need_after}
use Rattle.table.specs.Loads.{load_in}
use Rattle.table.specs.Rounds.{gives, made, made_row, same_row}
use Rattle.table.specs.declared.fault.TableFault.{TableFault}
use Rattle.table.specs.declared.fault.TableFault.TheVariants.{Climbs}
use Rattle.table.proofs.Places.{fill_more}
use Rattle.table.proofs.Tables.{row_over, same_cells, used_cell}
use Rattle.table.proofs.Turns.{tests_all, tests_at, tests_more}
use Rattle.table.proofs.routes.Route.make_row.Goals as goal

pub returns-then-need-from-clause-answer : goal.returns-then-need-from-clause-answer
returns-then-need-from-clause-answer c =
    let w = c.args.self.now.flow.now in
    let gs = c.args.gaps.now.slots in
    let k = c.loop-k.k in
    let high : leb (made w gs k) 1000000000 ≡ false = lt-leb (made w gs k) 1000000000 (omega arith) in
    rw c.place.ensures
    (ap (λ (r : Result (Unit {0}) TableFault). gives r (same_row w gs c.args.row.now (hops w)))
    (tests_at (λ k. leb (made w gs k) 1000000000) (λ k. Climbs (c.args.self.now.number * 8 + k)) (hops w) k (omega arith) c.loop-k.invariant.3 high))

pub loop-k-preserved : goal.loop-k-preserved
loop-k-preserved c =
    let w = c.args.self.now.flow.now in
    let gs = c.args.gaps.now.slots in
    let k = c.loop-k.k in
    let xs = c.loop-k.row.cells in
    let x = c.loop-k.need in
    let i : k < length xs = omega (arith, c.args.self.now.routed.hops_most) in
    let within : leb (made w gs k) 1000000000 ≡ true = le-leb (made w gs k) 1000000000 (omega (arith, c.loop-k.invariant.2)) in
    let h = hop_port w k in
    let more : (p : ℕ) → p < 32 → get_or c.add.new.self.bits p 0 ≡ get_or c.loop-k.sums.bits p 0 + cond (eqb h p) x 0 = λ p lt. rw c.from-in-loop-k.ensures at (c.add.ensures p lt) in
    let cell : x ≡ get_or (made_row w gs).cells k 0 = c.loop-k.invariant.2 ∙ sym (used_cell w (made w gs) k c.args.self.now.routed.hops_most (omega arith)) in (
      length-set xs k x ∙ c.loop-k.invariant.0,
      λ j lt. fill_more (made w gs) (λ j. get_or c.args.row.now.cells j 0) xs k x 0 i c.loop-k.invariant.2 (λ a b. c.loop-k.invariant.1 a (omega arith)) j (omega arith),
      rw (add-one k) (c.need_after-need.ensures ∙ ap (λ (n : ℕ). need_after w gs n k) c.loop-k.invariant.2),
      tests_more (λ k. leb (made w gs k) 1000000000) (λ k. Climbs (c.args.self.now.number * 8 + k)) k c.loop-k.invariant.3 within,
      λ p lt.
          rw (add-one k)
          (more p lt ∙ ap (λ (n : ℕ). n + cond (eqb h p) x 0) (c.loop-k.invariant.4 p lt)
          ∙ ap (λ (n : ℕ). get_or c.args.sums.now.bits p 0 + load_in w (made_row w gs) p k + cond (eqb h p) n 0) cell ∙ (omega arith)),
      λ p lt.
          let low : x ≤ 4294967295 = omega (arith, c.if-need-from.false) in
          let b : cond (eqb h p) x 0 ≤ 4294967295 = cond_both (eqb h p) x 0 (λ n. n ≤ 4294967295) (λ _. low) (λ _. omega arith) in
          omega (arith, more p lt, c.loop-k.invariant.5 p lt),
    )

pub returns-clause-answer : goal.returns-clause-answer
returns-clause-answer c =
    let w = c.args.self.now.flow.now in
    let gs = c.args.gaps.now.slots in
    let old = c.args.row.now in
    let k = c.loop-k.k in
    let e : k ≡ hops w = omega arith in
    ap Ok (same_from_decides c.eq.result (same_row w gs old (hops w)) (slice_eq-Decides Decides-eqb c.loop-k.row.cells old.cells c.eq.result c.eq.ensures) (same_cells w gs old c.loop-k.row k c.args.self.now.routed.hops_most c.requires.tidy.0 c.loop-k.invariant.0 e c.loop-k.invariant.1))
    ∙ ap (λ (r : Result (Unit {0}) TableFault). gives r (same_row w gs old (hops w)))
    (tests_all (λ k. leb (made w gs k) 1000000000) (λ k. Climbs (c.args.self.now.number * 8 + k)) (hops w) k e c.loop-k.invariant.3)

pub returns-clause-after : goal.returns-clause-after
returns-clause-after c =
    let w = c.args.self.now.flow.now in
    λ _. row_over w (made w c.args.gaps.now.slots) c.args.row.now c.loop-k.row c.loop-k.k c.requires.tidy c.loop-k.invariant.0 (omega arith) c.loop-k.invariant.1

use Rattle.std.proofs.Common.{◌≡◌, ℕ, ◌+◌, ◌-◌, List, get_or, Ok, Err, sym, refl, ap, ◌∙◌, subst, arith}
use Rattle.std.proofs.lemmas.Result.{err_from_is_err_and}
use Rattle.draft.specs.Plans.{flow_at}
use Rattle.draft.specs.declared.table.Table.{Table}
use Rattle.plan.specs.declared.plan.Plan.{Plan}
use Rattle.table.specs.Leasts.{Sought}
use Rattle.table.specs.Loads.{load}
use Rattle.table.specs.Rounds.{Found, Made, Shaped, find, least_from, made, made_by, rounds_told, start}
use Rattle.table.proofs.Finds.{round_climbs, round_made, turn_climbs, turn_goes, turn_last, turn_out}
use Rattle.table.proofs.Leasts.{find_shows}
use Rattle.table.proofs.Rows.{gaps_past}
use Rattle.table.proofs.Tables.{shaped_by}
use Rattle.table.proofs.search.find.Goals as goal

-- what is told of the rounds where they end
ended : (plan : Plan) (n : ℕ) (r : Found) → r ≡ find plan.parts n
    → (r.table ≡ (find plan.parts n).table) × (rounds_told r ≡ rounds_told (find plan.parts n)) × Sought plan.parts r.table (rounds_told r)
ended plan n r e = (
  ap (λ (r : Found). r.table) e,
  ap rounds_told e,
  subst (λ (r : Found). Sought plan.parts r.table (rounds_told r)) (sym e) (find_shows plan.parts plan.kept n),
)

pub loop-done-init : goal.loop-done-init
loop-done-init c =
    let P = c.args.plan.now in
    let n = c.args.allowed in (
      ap (λ (t : Table). least_from P.parts (n - 0) 0 t) c.requires ∙ ap (λ (m : ℕ). least_from P.parts m 0 (start P.parts)) (omega arith),
      c.reckon.ensures.gaps,
      subst (Shaped P.parts) (sym c.requires) (shaped_by P.parts (λ f _. (flow_at P.parts f).burst) P.few.1),
    )

pub returns-in_err-round : goal.returns-in_err-round
returns-in_err-round c =
    let P = c.args.plan.now in
    let d = c.loop-done.done in
    let t = c.loop-done.table in
    let x = c.in_err-round.field-0.0 in
    let p = err_from_is_err_and c.from_residual.result c.from_residual.ensures.1 in
    let climbs = round_climbs P.parts t c.loop-done.gaps.slots x c.loop-done.invariant.1 c.in_err-round.ensures.answer in
    let e = ended P c.args.allowed (record { table = c.round.new.made; rounds = d; answer = Err x })
    (ap (λ (t : Table). record { table = t; rounds = d; answer = Err x }) c.in_err-round.ensures.after
    ∙ turn_climbs P.parts c.args.allowed d t c.loop-done-test.true x climbs ∙ c.loop-done.invariant.0) in
    rw (p.1, p.2) (record { table = e.0; answer = e.1; sought = e.2 })

pub returns-then-branch : goal.returns-then-branch
returns-then-branch c =
    let P = c.args.plan.now in
    let d = c.loop-done.done in
    let t = c.loop-done.table in
    let gs = c.loop-done.gaps.slots in
    let b = c.in_ok-round.field-0 in
    let m : Made = record { table = made_by P.parts gs; still = b } in
    let e = ended P c.args.allowed (record { table = c.round.new.made; rounds = d + 1; answer = Ok tt })
    (ap (λ (t : Table). record { table = t; rounds = d + 1; answer = Ok tt }) c.in_ok-round.ensures.after
    ∙ turn_last P.parts c.args.allowed d t c.loop-done-test.true m (round_made P.parts t gs b c.loop-done.invariant.1 c.in_ok-round.ensures.answer) c.if-branch.true
    ∙ c.loop-done.invariant.0) in
    record { table = e.0; answer = e.1; sought = e.2 }

pub set_gaps-requires : goal.set_gaps-requires
set_gaps-requires c = λ p past lt. ap (λ (gs : List ℕ). get_or gs p 0) c.loop-done.invariant.1 ∙ gaps_past c.args.plan.now.parts c.loop-done.table p past lt

pub loop-done-preserved : goal.loop-done-preserved
loop-done-preserved c =
    let P = c.args.plan.now in
    let d = c.loop-done.done in
    let t = c.loop-done.table in
    let gs = c.loop-done.gaps.slots in
    let n = c.args.allowed in
    let b = c.in_ok-round.field-0 in
    let m : Made = record { table = made_by P.parts gs; still = b } in
    let after : c.round.new.made ≡ made_by P.parts gs = c.in_ok-round.ensures.after in (
      ap (λ (t : Table). least_from P.parts (n - (d + 1)) (d + 1) t) after
          ∙ turn_goes P.parts n d t c.loop-done-test.true m (round_made P.parts t gs b c.loop-done.invariant.1 c.in_ok-round.ensures.answer) c.if-branch.false
          ∙ c.loop-done.invariant.0,
      c.set_gaps.ensures c.round.new.made (λ p lt. c.in_ok-round.ensures.loads refl p lt ∙ ap (λ (t : Table). load P.parts t p) (sym after)),
      subst (Shaped P.parts) (sym after) (shaped_by P.parts (λ f. made (flow_at P.parts f) gs) P.few.1),
    )

pub returns : goal.returns
returns c =
    let P = c.args.plan.now in
    let e = ended P c.args.allowed _ (turn_out P.parts c.args.allowed c.loop-done.done c.loop-done.table (omega arith) ∙ c.loop-done.invariant.0) in
    record { table = e.0; answer = e.1; sought = e.2 }

use Rattle.std.proofs.Common.{sym, ◌∙◌}
use Rattle.std.proofs.lemmas.Bool.{cond-false, cond-true, eq-eqb, ne_eqb}
use Rattle.printing.proofs.sheet.quote_by.Goals as goal

pub returns-then-planned-eq0 : goal.returns-then-planned-eq0
returns-then-planned-eq0 c =
    c.least_of.ensures ∙ sym (cond-true _ _ _ (eq-eqb c.args.planned.proposal.rows 0 c.if-planned-eq0.true))

pub returns-else-planned-eq0 : goal.returns-else-planned-eq0
returns-else-planned-eq0 c =
    c.quote.ensures.answer ∙ sym (cond-false _ _ _ (ne_eqb c.args.planned.proposal.rows 0 c.if-planned-eq0.false))

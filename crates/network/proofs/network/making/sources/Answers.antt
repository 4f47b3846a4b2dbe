use Rattle.std.proofs.Common.{◌≡◌, ◌+◌, ◌<◌, ◌≢◌, length, get_or, refl, ap, ap₂, ◌∙◌, add-one, arith, length-set, below_more}
use Rattle.std.proofs.Math.Seq.{map-set_same}
use Rattle.std.proofs.lemmas.List.{get_or-set_other, get_or-set_same}
use Rattle.draft.specs.Masks.{regulators}
use Rattle.draft.specs.Plans.{flow_at}
use Rattle.draft.specs.declared.flow.Flow.{Flow}
use Rattle.network.specs.Sources.{no_source}
use Rattle.network.specs.declared.source.Source.{Source}
use Rattle.network.proofs.network.making.sources.Goals as goal

pub loop-f-preserved : goal.loop-f-preserved
loop-f-preserved c =
    let P = c.args.plan.now.parts in
    let f = c.loop-f.f in
    let xs = c.loop-f.found in
    let s : Source = record { level = (get_or xs f no_source).level; first = c.loop-f.n } in
    let inn : f < length xs = omega (arith, c.flows-flow-items.ensures.long, c.loop-f-test.true, c.loop-f.invariant.2) in
    let count : c.count.result ≡ regulators (flow_at P f).mask =
    c.count.ensures.value ∙ ap (λ (w : Flow). regulators w.mask) (c.flows-flow-items.ensures.each f c.loop-f-test.true) in (
      rw (add-one f) (ap₂ (λ a b. a + b) c.loop-f.invariant.0 count),
      omega (arith, c.loop-f.invariant.1, c.count.ensures.few),
      length-set xs f s ∙ c.loop-f.invariant.2,
      map-set_same (λ (v : Source). v.level) xs f s no_source refl ∙ c.loop-f.invariant.3,
      below_more _ _ (λ g h. let ne : g ≢ f = omega arith in ap (λ (v : Source). v.first) (get_or-set_other xs f g s no_source ne) ∙ c.loop-f.invariant.4 g h)
          (ap (λ (v : Source). v.first) (get_or-set_same xs f s no_source inn) ∙ c.loop-f.invariant.0),
    )

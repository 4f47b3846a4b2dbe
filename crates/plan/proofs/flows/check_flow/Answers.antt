use Rattle.std.proofs.Common.{◌≡◌, ℕ, suc, ◌+◌, true, ◌&&◌, ltb, leb, length, sym, ap, ◌∙◌, subst, add-one, arith, rules}
use Rattle.draft.specs.Masks.{regulators}
use Rattle.draft.specs.declared.flow.Flow.{Flow}
use Rattle.draft.specs.Plans.{flow_at, hops, no_flow}
use Rattle.refusal.specs.Firsts.{all_below}
use Rattle.std.proofs.lemmas.Bool.{and_from, and_parts, leb-true, lt-ltb}
use Rattle.plan.specs.Checks.{bucket_fits, frame_fits, mask_fits, path_fits}
use Rattle.plan.specs.Limits.{regulators_of}
use Rattle.plan.specs.declared.fault.PlanFault.TheVariants.{Bucket, Frames, Mask, Path}
use Rattle.plan.proofs.Keeps.{passes, thens}
use Rattle.plan.proofs.flows.check_flow.Goals as goal

pub returns : goal.returns
returns c =
    let P = c.args.parts.now in
    let f = c.args.f in
    let w = flow_at P f in
    let is : c.in-Some.field-0.now ≡ w = c.in-Some.ensures.lookup.3.1 no_flow in
    let few : length P.flows ≡ 64 = search rules in
    let n = c.args.before + c.count.result in
    let e : n ≡ regulators_of P (suc f) = omega (arith, c.requires.0, c.count.ensures.value ∙ ap (λ (v : Flow). regulators v.mask) is) in
    let bucket : bucket_fits w ≡ true = subst (λ (v : Flow). bucket_fits v ≡ true) is (sym c.if-not-bucket_fits.ensures) in
    let path : path_fits P.size.ports w ≡ true = subst (λ (v : Flow). path_fits P.size.ports v ≡ true) is (sym c.if-not-path_fits.ensures) in
    let frames : all_below (frame_fits P w) (hops w) ≡ true = subst (λ (v : Flow). all_below (frame_fits P v) (hops v) ≡ true) is (sym c.if-not-frames_fit.ensures) in
    let m : mask_fits w && leb n 32 ≡ true = subst (λ (v : Flow). mask_fits v && leb n 32 ≡ true) is (sym c.if-not-regulators_fit.ensures) in (
      thens _ _ (passes (ltb f 64 && bucket_fits w) (Bucket f) (and_from (ltb f 64) (bucket_fits w) (lt-ltb f 64 (omega (arith, c.in-Some.ensures.lookup.3.0, few))) bucket))
          (thens _ _ (passes (path_fits P.size.ports w) (Path f) path)
          (thens _ _ (passes (all_below (frame_fits P w) (hops w)) (Frames f) frames)
          (passes (mask_fits w && leb (regulators_of P (suc f)) 32) (Mask f) (subst (λ (i : ℕ). mask_fits w && leb i 32 ≡ true) e m)))),
      rw add-one e,
      leb-true n 32 (and_parts (mask_fits w) (leb n 32) m).1,
    )

-- Crowded ports and regulators, by figures reckoned before.
use Rattle.std.proofs.Common.{◌≡◌, ℕ, ◌+◌, ◌*◌, ◌/◌, ◌%◌, ◌^◌, ◌<◌, ◌≤◌, true, false, cond, eqb, leb, List, get_or, Ok, Result, sym, refl, ap, ◌∙◌, arith}
use native.Mathlib.Nat.{zero-div}
use Rattle.std.proofs.lemmas.Bool.{cond_both, cond-false}
use Rattle.refusal.proofs.Orders.{first_refusal_from}
use Rattle.refusal.specs.Firsts.{and_then}
use Rattle.draft.specs.Masks.{bit, regulated}
use Rattle.draft.specs.Plans.{hops, port_at}
use Rattle.draft.specs.declared.flow.Flow.{Flow}
use Rattle.draft.specs.declared.parts.Parts.{Parts}
use Rattle.draft.specs.declared.table.Table.{Table}
use Rattle.plan.specs.Limits.{rates_through}
use Rattle.table.specs.Checks.{crowds_answer, line_fits, lines_answer, lines_by, regulator_fits, regulators_by, regulators_in, unless}
use Rattle.table.specs.Loads.{backlog, delays}
use Rattle.table.specs.Paths.{stretch_by}
use Rattle.table.specs.Reckons.{Loaded, Reckons}
use Rattle.table.specs.declared.fault.TableFault.{TableFault}
use Rattle.table.specs.declared.fault.TableFault.TheVariants.{Crowded}
use Rattle.table.specs.declared.loads.Reckoned.{Reckoned}
use Rattle.table.proofs.Exact.{passes}
use Rattle.table.proofs.Rows.{backlog_at}
use Rattle.table.proofs.Turns.{same_refusal}

unregulated : (w : Flow) → w.mask.bits ≡ 0 → (k : ℕ) → regulated w.mask k ≡ false
unregulated w e k =
    let z : bit w.mask.bits k ≡ 0 = ap (λ (n : ℕ). n / 2 ^ k % 2) e ∙ ap (λ (n : ℕ). n % 2) (zero-div (2 ^ k)) in
    ap (λ (n : ℕ). cond (leb 8 k) false (eqb n 1)) z ∙ cond_both (leb 8 k) false false (λ b. b ≡ false) (λ _. refl) (λ _. refl)

-- a flow without regulators crowds none
pub regulators_none : (f : ℕ) (w : Flow) (ds : List ℕ) → w.mask.bits ≡ 0 → Ok tt ≡ regulators_in f w ds
regulators_none f w ds e =
    sym (first_refusal_from (λ k. unless (regulator_fits w (stretch_by w ds k) k) (Crowded (32 + (f * 8 + k)))) (hops w) (λ k _.
    passes (regulator_fits w (stretch_by w ds k) k) (Crowded (32 + (f * 8 + k))) (cond-false (regulated w.mask k) _ true (unregulated w e k))))

module _ (P : Parts) (few : P.size.ports ≤ 32) (t : Table) where
  lines_from : (bs ds : List ℕ) → Loaded P t bs → ds ≡ delays P t → lines_by P bs ds ≡ lines_answer P t
  lines_from bs ds l q =
      same_refusal (λ p. unless (line_fits (port_at P p) (get_or bs p 0 + rates_through P p * get_or ds p 0)) (Crowded p)) (λ p. unless (line_fits (port_at P p) (backlog P t p)) (Crowded p)) P.size.ports (λ p lp.
      let within : p < 32 = omega arith in
      ap (λ (b : ℕ). unless (line_fits (port_at P p) b) (Crowded p)) (backlog_at P t bs ds l q p within lp))

  -- what is crowded by the figures of a table is crowded by the table
  pub crowds_from : (r : Reckoned) → Reckons P t r → and_then (lines_by P r.loads.bits r.delays.slots) (regulators_by P r.delays.slots) ≡ crowds_answer P t
  crowds_from r k =
      ap (λ (a : Result (Unit {0}) TableFault). and_then a (regulators_by P r.delays.slots)) (lines_from r.loads.bits r.delays.slots k.loads k.delays)
      ∙ ap (λ (ds : List ℕ). and_then (lines_answer P t) (regulators_by P ds)) k.delays

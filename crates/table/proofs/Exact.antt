-- No fault of a table is found exactly where it is accepted.
use Rattle.std.proofs.Common.{◌≡◌, ℕ, ◌+◌, ◌*◌, ◌/◌, ◌<◌, ◌≤◌, Bool, true, false, ltb, leb, is_ok, Ok, Err, Result, sym, refl, ap, ◌∙◌, ⊎_elim, arith}
use Rattle.std.proofs.lemmas.Bool.{cases_lt, cond_both, cond-false, cond-true, eq-eqb, eqb-true, le-leb, le-ltb, leb-true, lt-ltb}
use Rattle.refusal.proofs.Orders.{first_refusal_each, first_refusal_from, then_ok}
use Rattle.refusal.specs.Firsts.{and_then}
use Rattle.draft.specs.Masks.{regulated}
use Rattle.draft.specs.Plans.{cell, flow_at, hops, port_at, row_at}
use Rattle.draft.specs.declared.parts.Parts.{Parts}
use Rattle.draft.specs.declared.table.Table.{Table}
use Rattle.plan.specs.Checks.{faultless}
use Rattle.table.specs.Accepts.{Accepted, Judged}
use Rattle.table.specs.Checks.{accepts, cell_fits, cells_answer, cells_in, crowds_answer, line_fits, lines_answer, lows_answer, lows_in, reaches, regulator_fits, regulators_answer, regulators_in, table_answer, unless}
use Rattle.table.specs.Loads.{backlog, delays, gaps}
use Rattle.table.specs.Paths.{need, stretch, stretch_by}
use Rattle.table.specs.declared.fault.TableFault.{TableFault}
use Rattle.table.specs.declared.fault.TableFault.TheVariants.{Cell, Crowded, Low}
use Rattle.table.proofs.Figures.{routed_of}

pub passed : (b : Bool) (e : TableFault) → unless b e ≡ Ok tt → b ≡ true
passed true e h = refl
passed false e h = absurd (let z : ◌≡◌ {A = ℕ} 0 1 = cc in omega arith)

pub passes : (b : Bool) (e : TableFault) → b ≡ true → unless b e ≡ Ok tt
passes b e h = cond-true b (Ok tt) (Err e) h

pub ok_from : (r : Result (Unit {0}) TableFault) → is_ok r ≡ true → r ≡ Ok tt
ok_from (Ok tt) h = refl
ok_from (Err e) h = absurd (let z : ◌≡◌ {A = ℕ} 0 1 = cc in omega arith)

pub thens : (a b : Result (Unit {0}) TableFault) → a ≡ Ok tt → b ≡ Ok tt → and_then a b ≡ Ok tt
thens a b h k = ap (λ r. and_then r b) h ∙ k

module _ (P : Parts) (K : faultless P ≡ true) (t : Table) where
  cell_passed : cells_answer P t ≡ Ok tt → (f : ℕ) → f < P.size.flows → (k : ℕ) → k < 8 → cell_fits (flow_at P f) (row_at t f) k ≡ true
  cell_passed e f lf k lk =
      let w = flow_at P f in
      let r = row_at t f in
      passed (cell_fits w r k) (Cell (f * 8 + k))
      (first_refusal_each (λ k. unless (cell_fits w r k) (Cell (f * 8 + k))) 8 (first_refusal_each (λ f. cells_in f (flow_at P f) (row_at t f)) P.size.flows e f lf) k lk)

  -- a fault in none of the three parts, so the table is accepted
  pub accepted_of : table_answer P t ≡ Ok tt → Accepted P t
  accepted_of e =
      let nf = P.size.flows in
      let a = then_ok (cells_answer P t) (and_then (lows_answer P t) (crowds_answer P t)) e in
      let b = then_ok (lows_answer P t) (crowds_answer P t) a.1 in
      let d = then_ok (lines_answer P t) (regulators_answer P t) b.1 in
      record {
        reached = λ f lf k lk.
            let w = flow_at P f in
            let r = row_at t f in
            leb-true (need P t f k) (cell t f k)
            (passed (reaches w (gaps P t) r k) (Low (f * 8 + k))
            (first_refusal_each (λ k. unless (reaches w (gaps P t) r k) (Low (f * 8 + k))) (hops w) (first_refusal_each (λ f. lows_in f (flow_at P f) (gaps P t) (row_at t f)) nf b.0 f lf) k lk));
        within = λ f lf k lk.
            let l8 : k < 8 = omega (arith, (routed_of P K f lf).hops_most) in
            leb-true (cell t f k) 1000000000 (sym (cond-true (ltb k (hops (flow_at P f))) _ _ (lt-ltb k (hops (flow_at P f)) lk)) ∙ cell_passed a.0 f lf k l8);
        unused = λ f lf k lk l8. eqb-true (cell t f k) 0 (sym (cond-false (ltb k (hops (flow_at P f))) _ _ (le-ltb k (hops (flow_at P f)) lk)) ∙ cell_passed a.0 f lf k l8);
        lines = λ p lp.
            leb-true (backlog P t p / (port_at P p).shortest) 32
            (passed (line_fits (port_at P p) (backlog P t p)) (Crowded p) (first_refusal_each (λ p. unless (line_fits (port_at P p) (backlog P t p)) (Crowded p)) P.size.ports d.0 p lp));
        regulators = λ f lf k lk on.
            let w = flow_at P f in
            let ds = delays P t in
            leb-true ((w.burst + w.rate * stretch P t f k) / w.shortest) 16
            (sym (cond-true (regulated w.mask k) _ _ on)
            ∙ passed (regulator_fits w (stretch_by w ds k) k) (Crowded (32 + (f * 8 + k)))
            (first_refusal_each (λ k. unless (regulator_fits w (stretch_by w ds k) k) (Crowded (32 + (f * 8 + k)))) (hops w) (first_refusal_each (λ f. regulators_in f (flow_at P f) (delays P t)) nf d.1 f lf) k lk));
      }

  -- an accepted table's cells fit and reach their needs
  pub cells_of : ((f : ℕ) → f < P.size.flows → (k : ℕ) → k < hops (flow_at P f) → cell t f k ≤ 1000000000)
      → ((f : ℕ) → f < P.size.flows → (k : ℕ) → hops (flow_at P f) ≤ k → k < 8 → cell t f k ≡ 0) → cells_answer P t ≡ Ok tt
  cells_of within unused =
      first_refusal_from (λ f. cells_in f (flow_at P f) (row_at t f)) P.size.flows (λ f lf.
      let w = flow_at P f in
      let r = row_at t f in
      first_refusal_from (λ k. unless (cell_fits w r k) (Cell (f * 8 + k))) 8 (λ k lk. passes (cell_fits w r k) (Cell (f * 8 + k)) (⊎_elim
      (λ h. cond-true (ltb k (hops w)) _ _ (lt-ltb k (hops w) h) ∙ le-leb (cell t f k) 1000000000 (within f lf k h))
      (λ h. cond-false (ltb k (hops w)) _ _ (le-ltb k (hops w) h) ∙ eq-eqb (cell t f k) 0 (unused f lf k h lk))
      (cases_lt k (hops w)))))

  pub lows_of : ((f : ℕ) → f < P.size.flows → (k : ℕ) → k < hops (flow_at P f) → need P t f k ≤ cell t f k) → lows_answer P t ≡ Ok tt
  lows_of reached =
      first_refusal_from (λ f. lows_in f (flow_at P f) (gaps P t) (row_at t f)) P.size.flows (λ f lf.
      let w = flow_at P f in
      let r = row_at t f in
      first_refusal_from (λ k. unless (reaches w (gaps P t) r k) (Low (f * 8 + k))) (hops w) (λ k lk.
      passes (reaches w (gaps P t) r k) (Low (f * 8 + k)) (le-leb (need P t f k) (cell t f k) (reached f lf k lk))))

  pub crowds_of : ((p : ℕ) → p < P.size.ports → backlog P t p / (port_at P p).shortest ≤ 32)
      → ((f : ℕ) → f < P.size.flows → (k : ℕ) → k < hops (flow_at P f) → regulated (flow_at P f).mask k ≡ true → ((flow_at P f).burst + (flow_at P f).rate * stretch P t f k) / (flow_at P f).shortest ≤ 16)
      → crowds_answer P t ≡ Ok tt
  crowds_of lines regulators =
      thens (lines_answer P t) (regulators_answer P t)
      (first_refusal_from (λ p. unless (line_fits (port_at P p) (backlog P t p)) (Crowded p)) P.size.ports (λ p lp.
      passes (line_fits (port_at P p) (backlog P t p)) (Crowded p) (le-leb (backlog P t p / (port_at P p).shortest) 32 (lines p lp))))
      (first_refusal_from (λ f. regulators_in f (flow_at P f) (delays P t)) P.size.flows (λ f lf.
      let w = flow_at P f in
      let ds = delays P t in
      first_refusal_from (λ k. unless (regulator_fits w (stretch_by w ds k) k) (Crowded (32 + (f * 8 + k)))) (hops w) (λ k lk.
      passes (regulator_fits w (stretch_by w ds k) k) (Crowded (32 + (f * 8 + k)))
      (cond_both (regulated w.mask k) (leb ((w.burst + w.rate * stretch_by w ds k) / w.shortest) 16) true (λ b. b ≡ true)
      (λ on. le-leb ((w.burst + w.rate * stretch_by w ds k) / w.shortest) 16 (regulators f lf k lk on)) (λ _. refl)))))

  pub answer_of : Accepted P t → table_answer P t ≡ Ok tt
  answer_of a =
      thens (cells_answer P t) (and_then (lows_answer P t) (crowds_answer P t)) (cells_of a.within a.unused)
      (thens (lows_answer P t) (crowds_answer P t) (lows_of a.reached) (crowds_of a.lines a.regulators))

  pub judged : (r : Result (Unit {0}) TableFault) → r ≡ table_answer P t → Judged P t r
  judged (Ok tt) e = accepted_of (sym e)
  judged (Err x) e = λ a. let q = answer_of a in absurd (let z : ◌≡◌ {A = ℕ} 0 1 = cc in omega arith)

-- what every quote holds
pub accepted_from : (P : Parts) → faultless P ≡ true → (t : Table) → accepts P t ≡ true → Accepted P t
accepted_from P K t e = accepted_of P K t (ok_from (table_answer P t) e)

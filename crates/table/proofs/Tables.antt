-- Tables and answers made row by row.
use Rattle.std.proofs.Common.{◌≡◌, ℕ, ◌<◌, ◌≤◌, cond, eqb, ltb, Decides, sym, List, ◌++◌, length, get_or, take, drop, replicate, Ok, Err, Result, refl, ap, ◌∙◌, ⊎_elim, arith}
use Rattle.std.proofs.lemmas.List.FromFn.{fill_by_all, get_or-map-range_with_len, length-map-range_with_len}
use Rattle.std.proofs.lemmas.List.{ext_get_or, get_or-replicate, length-append, length-drop, length-replicate, length-take}
use Rattle.std.proofs.lemmas.Bool.{cases_lt, cond-false, cond-true, eq-eqb, eqb-true, le-ltb, lt-ltb}
use Rattle.refusal.proofs.Orders.{all_below_each, all_below_from}
use Rattle.draft.specs.Plans.{flow_at, hops, no_row, row_at}
use Rattle.draft.specs.declared.flow.Flow.{Flow}
use Rattle.draft.specs.declared.parts.Parts.{Parts}
use Rattle.draft.specs.declared.table.Row.{Row}
use Rattle.draft.specs.declared.table.Table.{Table}
use Rattle.plan.proofs.Sums.{zeros}
use Rattle.table.specs.Rounds.{Shaped, Tidy, gives, made, row_by, same_row, table_by, zero_row}
use Rattle.table.specs.declared.fault.TableFault.{TableFault}
use Rattle.table.proofs.Places.{front_filled}

-- a table whose rows below n are as g says, and the others 0
pub table_all : (P : Parts) (g : ℕ → Row) (t : Table) (n : ℕ) → length t.rows ≡ 64 → n ≡ P.size.flows
    → ((f : ℕ) → f < 64 → row_at t f ≡ cond (ltb f n) (g f) zero_row) → t ≡ table_by P g
unfolding table_by
table_all P g t n l e h =
    ap (λ (rs : List Row). record { rows = rs })
    (fill_by_all (λ f. cond (ltb f P.size.flows) (g f) zero_row) t.rows 64 no_row l (λ f lt. h f lt ∙ ap (λ (m : ℕ). cond (ltb f m) (g f) zero_row) e))

pub row_of_table : (P : Parts) (g : ℕ → Row) (f : ℕ) → f < 64 → row_at (table_by P g) f ≡ cond (ltb f P.size.flows) (g f) zero_row
unfolding table_by
row_of_table P g f h = get_or-map-range_with_len (λ f. cond (ltb f P.size.flows) (g f) zero_row) 0 64 f f no_row h (omega arith)

pub cell_of_row : (w : Flow) (g : ℕ → ℕ) (k : ℕ) → k < 8 → get_or (row_by w g).cells k 0 ≡ cond (ltb k (hops w)) (g k) 0
unfolding row_by
cell_of_row w g k h = get_or-map-range_with_len (λ k. cond (ltb k (hops w)) (g k) 0) 0 8 k k 0 h (omega arith)

-- what was given was not refused
pub gives_ok : {X : Type 0} (r : Result (Unit {0}) TableFault) (x y : X) → Ok y ≡ gives r x → (Ok tt ≡ r) × (y ≡ x)
gives_ok (Ok tt) x y e = (refl, cc)
gives_ok (Err a) x y e = absurd (let z : ◌≡◌ {A = ℕ} 0 1 = cc in omega arith)

pub gives_err : {X : Type 0} (r : Result (Unit {0}) TableFault) (x : X) (a : TableFault) → Err a ≡ gives r x → Err a ≡ r
gives_err (Ok tt) x a e = absurd (let z : ◌≡◌ {A = ℕ} 0 1 = cc in omega arith)
gives_err (Err b) x a e = cc

row_long : (w : Flow) (g : ℕ → ℕ) → length (row_by w g).cells ≡ 8
unfolding row_by
row_long w g = length-map-range_with_len (λ k. cond (ltb k (hops w)) (g k) 0) 0 8

-- a row whose cells below n are as g says, and the others 0
pub row_all : (w : Flow) (g : ℕ → ℕ) (r : Row) (n : ℕ) → length r.cells ≡ 8 → n ≡ hops w
    → ((k : ℕ) → k < 8 → get_or r.cells k 0 ≡ cond (ltb k n) (g k) 0) → r ≡ row_by w g
unfolding row_by
row_all w g r n l e h =
    ap (λ (cs : List ℕ). record { cells = cs })
    (fill_by_all (λ k. cond (ltb k (hops w)) (g k) 0) r.cells 8 0 l (λ k lt. h k lt ∙ ap (λ (m : ℕ). cond (ltb k m) (g k) 0) e))

pub used_cell : (w : Flow) (g : ℕ → ℕ) (k : ℕ) → hops w ≤ 8 → k < hops w → get_or (row_by w g).cells k 0 ≡ g k
used_cell w g k few h = cell_of_row w g k (omega arith) ∙ cond-true (ltb k (hops w)) (g k) 0 (lt-ltb k (hops w) h)

-- a row whose cells below n were written over one that was 0 past the path
pub row_over : (w : Flow) (g : ℕ → ℕ) (o r : Row) (n : ℕ) → Tidy w o → length r.cells ≡ 8 → n ≡ hops w
    → ((k : ℕ) → k < 8 → get_or r.cells k 0 ≡ cond (ltb k n) (g k) (get_or o.cells k 0)) → r ≡ row_by w g
row_over w g o r n t l e h =
    row_all w g r n l e (λ k lt. h k lt ∙ ⊎_elim
    (λ b. rw (lt-ltb k n b))
    (λ b. rw (le-ltb k n b) (t.1 k (omega arith) lt))
    (cases_lt k n))

-- rows whose used cells agree are the same
pub row_same : (w : Flow) (g h : ℕ → ℕ) → ((k : ℕ) → k < hops w → g k ≡ h k) → row_by w g ≡ row_by w h
row_same w g h e =
    row_all w h (row_by w g) (hops w) (row_long w g) refl (λ k lt. cell_of_row w g k lt ∙ ⊎_elim
    (λ l. ap (λ (x : ℕ). cond (ltb k (hops w)) x 0) (e k l))
    (λ l. rw (le-ltb k (hops w) l))
    (cases_lt k (hops w)))

table_long : (P : Parts) (g : ℕ → Row) → length (table_by P g).rows ≡ 64
unfolding table_by
table_long P g = length-map-range_with_len (λ f. cond (ltb f P.size.flows) (g f) zero_row) 0 64

pub used_row : (P : Parts) (g : ℕ → Row) (f : ℕ) → f < 64 → f < P.size.flows → row_at (table_by P g) f ≡ g f
used_row P g f l h = row_of_table P g f l ∙ cond-true (ltb f P.size.flows) (g f) zero_row (lt-ltb f P.size.flows h)

-- a table whose rows below n were written over one that was 0 past the flows
pub table_over : (P : Parts) (g : ℕ → Row) (o t : Table) (n : ℕ) → Shaped P o → length t.rows ≡ 64 → n ≡ P.size.flows
    → ((f : ℕ) → f < 64 → row_at t f ≡ cond (ltb f n) (g f) (row_at o f)) → t ≡ table_by P g
table_over P g o t n s l e h =
    table_all P g t n l e (λ f lt. h f lt ∙ ⊎_elim
    (λ b. rw (lt-ltb f n b))
    (λ b. rw (le-ltb f n b) (s.rest f (omega arith) lt))
    (cases_lt f n))

-- tables whose rows agree are the same
pub table_same : (P : Parts) (g h : ℕ → Row) → ((f : ℕ) → f < P.size.flows → g f ≡ h f) → table_by P g ≡ table_by P h
table_same P g h e =
    table_all P h (table_by P g) P.size.flows (table_long P g) refl (λ f lt. row_of_table P g f lt ∙ ⊎_elim
    (λ l. ap (λ (r : Row). cond (ltb f P.size.flows) r zero_row) (e f l))
    (λ l. rw (le-ltb f P.size.flows l))
    (cases_lt f P.size.flows))

-- a table made row by row has its shape
pub shaped_by : (P : Parts) (g : ℕ → ℕ → ℕ) → P.size.flows ≤ 64 → Shaped P (table_by P (λ f. row_by (flow_at P f) (g f)))
shaped_by P g few =
    let rows = λ (f : ℕ). row_by (flow_at P f) (g f) in
    record {
      rows = table_long P rows;
      used = λ f lf.
          let e : row_at (table_by P rows) f ≡ rows f = row_of_table P rows f (omega arith) ∙ cond-true (ltb f P.size.flows) (rows f) zero_row (lt-ltb f P.size.flows lf) in (
            ap (λ (r : Row). length r.cells) e ∙ row_long (flow_at P f) (g f),
            λ k lk l8.
                ap (λ (r : Row). get_or r.cells k 0) e ∙ cell_of_row (flow_at P f) (g f) k l8
                ∙ cond-false (ltb k (hops (flow_at P f))) (g f k) 0 (le-ltb k (hops (flow_at P f)) lk),
          );
      rest = λ f lf l. row_of_table P rows f l ∙ cond-false (ltb f P.size.flows) (rows f) zero_row (le-ltb f P.size.flows lf);
    }

-- a row of zeros of which the first n cells were filled
pub row_filled : (w : Flow) (b n : ℕ) (front : List ℕ) → n ≡ hops w → hops w ≤ 8 → front ≡ replicate (length (take n zero_row.cells)) b
    → record { cells = front ++ drop n zero_row.cells } ≡ row_by w (λ _. b)
row_filled w b n front e few q =
    let zs = zero_row.cells in
    let m : length (take n zs) ≡ n = omega (arith, length-take n zs) in
    let long : length front ≡ n = ap length q ∙ length-replicate (length (take n zs)) b ∙ m in
    row_all w (λ _. b) (record { cells = front ++ drop n zs }) n (omega (arith, length-append front (drop n zs), length-drop n zs)) e
    (front_filled (λ _. b) (λ _. 0) 0 front zs n 8 long (λ k l. rw q (get_or-replicate (length (take n zs)) k b 0 (omega arith))) (λ k _. zeros 8 k))

-- the cells of a row made over another are the same exactly where a round says so
pub same_cells : (w : Flow) (gs : List ℕ) (o r : Row) (n : ℕ) → hops w ≤ 8 → length o.cells ≡ 8 → length r.cells ≡ 8 → n ≡ hops w
    → ((k : ℕ) → k < 8 → get_or r.cells k 0 ≡ cond (ltb k n) (made w gs k) (get_or o.cells k 0)) → Decides (same_row w gs o (hops w)) (r.cells ≡ o.cells)
same_cells w gs o r n few lo lr e h = (
  λ s. ext_get_or 0 r.cells o.cells (omega arith) (λ k lt.
      let l8 : k < 8 = omega arith in
      h k l8 ∙ ⊎_elim
      (λ l.
      let same = eqb-true (made w gs k) (get_or o.cells k 0) (all_below_each (λ k. eqb (made w gs k) (get_or o.cells k 0)) (hops w) s k (omega arith)) in
      cond-true (ltb k n) (made w gs k) (get_or o.cells k 0) (lt-ltb k n l) ∙ same)
      (λ l. cond-false (ltb k n) (made w gs k) (get_or o.cells k 0) (le-ltb k n l))
      (cases_lt k n)),
  λ q. all_below_from (λ k. eqb (made w gs k) (get_or o.cells k 0)) (hops w) (λ k l.
      let l8 : k < 8 = omega arith in
      eq-eqb (made w gs k) (get_or o.cells k 0)
      (sym (cond-true (ltb k n) (made w gs k) (get_or o.cells k 0) (lt-ltb k n (omega arith))) ∙ sym (h k l8) ∙ ap (λ (cs : List ℕ). get_or cs k 0) q)),
)

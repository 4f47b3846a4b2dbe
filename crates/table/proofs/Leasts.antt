-- Why the table that a round leaves unchanged is the least, and why there is none where a need climbs past the limit.
use Rattle.std.proofs.Common.{◌≡◌, ℕ, zero, suc, ◌+◌, ◌-◌, ◌*◌, ◌<◌, ◌≤◌, true, false, cond, eqb, leb, List, get_or, is_ok, Ok, Err, sym, refl, ap, ◌∙◌, subst, le_trans, mul-le-mul_left, add-one, arith}
use native.Mathlib.Decide.{ℕ_discrete}
use Rattle.std.proofs.lemmas.Bool.{both_ways, eq-eqb, eqb-true, le-leb, le-ltb, leb-true, lt-ltb}
use Rattle.refusal.proofs.Orders.{all_below_each, all_below_from, first_refusal_each, first_refusal_from}
use Rattle.refusal.specs.Firsts.{and_then}
use Rattle.draft.specs.Masks.{regulated}
use Rattle.draft.specs.Plans.{cell, flow_at, hop_port, hops, port_at, row_at}
use Rattle.draft.specs.declared.parts.Parts.{Parts}
use Rattle.draft.specs.declared.table.Table.{Table}
use Rattle.plan.proofs.Keeps.{kept_of}
use Rattle.plan.specs.Checks.{faultless}
use Rattle.table.specs.Accepts.{Accepted, Below, Cells, Hopeless}
use Rattle.table.specs.Checks.{accepts, cells_answer, crowds_answer, lows_answer, table_answer, unless}
use Rattle.table.specs.Leasts.{Excluded, LeastFound, Settled, Sought, after}
use Rattle.table.specs.Loads.{gaps}
use Rattle.table.specs.Paths.{need}
use Rattle.table.specs.Rounds.{Found, climb, climb_in, find, gives, least_from, made, made_by, made_row, row_by, rounds_told, same_row, settle, start, still_by, table_by}
use Rattle.table.specs.declared.fault.TableFault.{TableFault}
use Rattle.table.specs.declared.fault.TableFault.TheVariants.{Cell, Climbs, Crowded, Low, Rounds, Rows, Scratch}
use Rattle.table.proofs.Exact.{accepted_of, cells_of, crowds_of, lows_of, passed, passes, thens}
use Rattle.table.proofs.Figures.{flows_few, routed_of}
use Rattle.table.proofs.Rises.{frames_rise, gaps_rise, held_rises}
use Rattle.table.proofs.Tables.{cell_of_row, row_of_table, row_same, table_same}

module _ (P : Parts) (K : faultless P ≡ true) where
  -- used cells of a table made row by row
  used_cell : (g : ℕ → ℕ → ℕ) (f : ℕ) → f < P.size.flows → (k : ℕ) → k < hops (flow_at P f) → cell (table_by P (λ f. row_by (flow_at P f) (g f))) f k ≡ g f k
  used_cell g f lf k lk =
      let w = flow_at P f in
      let l8 : k < 8 = omega (arith, (routed_of P K f lf).hops_most) in
      rw (row_of_table P (λ f. row_by (flow_at P f) (g f)) f (flows_few P K f lf), lt-ltb f P.size.flows lf, cell_of_row w (g f) k l8, lt-ltb k (hops w) lk)

  pub unused_cell : (g : ℕ → ℕ → ℕ) (f : ℕ) → f < P.size.flows → (k : ℕ) → hops (flow_at P f) ≤ k → k < 8 → cell (table_by P (λ f. row_by (flow_at P f) (g f))) f k ≡ 0
  unused_cell g f lf k lk l8 =
      let w = flow_at P f in
      rw (row_of_table P (λ f. row_by (flow_at P f) (g f)) f (flows_few P K f lf), lt-ltb f P.size.flows lf, cell_of_row w (g f) k l8, le-ltb k (hops w) lk)

  pub start_cell : (f : ℕ) → f < P.size.flows → (k : ℕ) → k < hops (flow_at P f) → cell (start P) f k ≡ (flow_at P f).burst
  start_cell f lf k lk = used_cell (λ f _. (flow_at P f).burst) f lf k lk

  pub made_cell : (gs : List ℕ) (f : ℕ) → f < P.size.flows → (k : ℕ) → k < hops (flow_at P f) → cell (made_by P gs) f k ≡ made (flow_at P f) gs k
  made_cell gs f lf k lk = used_cell (λ f. made (flow_at P f) gs) f lf k lk

  module _ (t : Table) (ok : Cells P (λ f k. need P t f k ≤ cell t f k)) where
    -- cells that grow by gaps no larger than the table's stay below it
    pub made_below : (gs : List ℕ) → ((p : ℕ) → p < 32 → get_or gs p 0 ≤ get_or (gaps P t) p 0) → (f : ℕ) → f < P.size.flows → (k : ℕ) → k < hops (flow_at P f) → made (flow_at P f) gs k ≤ cell t f k
    made_below gs g f lf zero lk = ok f lf 0 lk
    made_below gs g f lf (suc k) lk =
        let w = flow_at P f in
        let a = made_below gs g f lf k (omega arith) in
        let o = ok f lf (suc k) lk in
        let m : w.rate * get_or gs (hop_port w k) 0 ≤ w.rate * get_or (gaps P t) (hop_port w k) 0 = mul-le-mul_left w.rate (g (hop_port w k) ((routed_of P K f lf).crossed k (omega arith))) in
        elim (regulated w.mask (k + 1)) as (λ v. cond v w.burst (cell t f k + w.rate * get_or (gaps P t) (hop_port w k) 0) ≤ cell t f (suc k) → cond v w.burst (made w gs k + w.rate * get_or gs (hop_port w k) 0) ≤ cell t f (suc k))
        [ true ↦ λ h. h | false ↦ λ h. omega arith ] o

    burst_below : (f : ℕ) → f < P.size.flows → (k : ℕ) → k < hops (flow_at P f) → (flow_at P f).burst ≤ cell t f k
    burst_below f lf zero lk = ok f lf 0 lk
    burst_below f lf (suc k) lk =
        let w = flow_at P f in
        let a = burst_below f lf k (omega arith) in
        elim (regulated w.mask (k + 1)) as (λ v. cond v w.burst (cell t f k + w.rate * get_or (gaps P t) (hop_port w k) 0) ≤ cell t f (suc k) → w.burst ≤ cell t f (suc k))
        [ true ↦ λ h. h | false ↦ λ h. omega arith ] (ok f lf (suc k) lk)

    pub start_below : Below P (start P) t
    start_below f lf k lk = rw (start_cell f lf k lk) (burst_below f lf k lk)

    pub round_below : (u : Table) → Below P u t → Below P (made_by P (gaps P u)) t
    round_below u h f lf k lk = rw (made_cell (gaps P u) f lf k lk) (made_below (gaps P u) (gaps_rise P u t h) f lf k lk)

  -- a table that a round leaves as it is reaches its needs
  fixed_cell : (u : Table) → u ≡ made_by P (gaps P u) → (f : ℕ) → f < P.size.flows → (k : ℕ) → k < hops (flow_at P f) → cell u f k ≡ made (flow_at P f) (gaps P u) k
  fixed_cell u e f lf k lk = ap (λ (x : Table). cell x f k) e ∙ made_cell (gaps P u) f lf k lk

  pub fixed_reaches : (u : Table) → u ≡ made_by P (gaps P u) → Cells P (λ f k. need P u f k ≤ cell u f k)
  fixed_reaches u e f lf zero lk = omega (arith, fixed_cell u e f lf 0 lk)
  fixed_reaches u e f lf (suc k) lk = rw (fixed_cell u e f lf (suc k) lk, fixed_cell u e f lf k (omega arith)) (omega arith)

  -- no need passes the limit in a round that gives a table
  pub climb_within : (gs : List ℕ) → climb P gs ≡ Ok tt → (f : ℕ) → f < P.size.flows → (k : ℕ) → k < hops (flow_at P f) → made (flow_at P f) gs k ≤ 1000000000
  climb_within gs e f lf k lk =
      let w = flow_at P f in
      leb-true (made w gs k) 1000000000
      (passed (leb (made w gs k) 1000000000) (Climbs (f * 8 + k))
      (first_refusal_each (λ k. unless (leb (made w gs k) 1000000000) (Climbs (f * 8 + k))) (hops w) (first_refusal_each (λ f. climb_in f (flow_at P f) gs) P.size.flows e f lf) k lk))

  -- an accepted table keeps every need of a round from below it within the limit
  pub climb_free : (u t : Table) → Accepted P t → Below P u t → climb P (gaps P u) ≡ Ok tt
  climb_free u t a h =
      first_refusal_from (λ f. climb_in f (flow_at P f) (gaps P u)) P.size.flows (λ f lf.
      let w = flow_at P f in
      first_refusal_from (λ k. unless (leb (made w (gaps P u) k) 1000000000) (Climbs (f * 8 + k))) (hops w) (λ k lk.
      passes (leb (made w (gaps P u) k) 1000000000) (Climbs (f * 8 + k))
      (le-leb (made w (gaps P u) k) 1000000000 (le_trans (made_below t a.reached (gaps P u) (gaps_rise P u t h) f lf k lk) (a.within f lf k lk)))))

  -- the table after each round is made row by row
  cells_after : (d f k : ℕ) → ℕ
  cells_after zero f k = (flow_at P f).burst
  cells_after (suc d) f k = made (flow_at P f) (gaps P (after P d)) k

  shape_after : (d : ℕ) → after P d ≡ table_by P (λ f. row_by (flow_at P f) (cells_after d f))
  unfolding cells_after
  shape_after zero = refl
  shape_after (suc d) = refl

  -- a round says that nothing changed exactly where it made the same table
  still_same : (d : ℕ) → still_by P (gaps P (after P d)) (after P d) P.size.flows ≡ true → after P (suc d) ≡ after P d
  still_same d e =
      let gs = gaps P (after P d) in
      table_same P (λ f. made_row (flow_at P f) gs) (λ f. row_by (flow_at P f) (cells_after d f)) (λ f lf.
      let w = flow_at P f in
      let same = all_below_each (λ f. same_row (flow_at P f) gs (row_at (after P d) f) (hops (flow_at P f))) P.size.flows e f lf in
      row_same w (made w gs) (cells_after d f) (λ k lk.
      eqb-true (made w gs k) (cell (after P d) f k) (all_below_each (λ k. eqb (made w gs k) (cell (after P d) f k)) (hops w) same k lk)
      ∙ ap (λ (t : Table). cell t f k) (shape_after d) ∙ used_cell (cells_after d) f lf k lk)) ∙ sym (shape_after d)

  same_still : (d : ℕ) → after P (suc d) ≡ after P d → still_by P (gaps P (after P d)) (after P d) P.size.flows ≡ true
  same_still d e =
      let gs = gaps P (after P d) in
      all_below_from (λ f. same_row (flow_at P f) gs (row_at (after P d) f) (hops (flow_at P f))) P.size.flows (λ f lf.
      all_below_from (λ k. eqb (made (flow_at P f) gs k) (cell (after P d) f k)) (hops (flow_at P f)) (λ k lk.
      eq-eqb (made (flow_at P f) gs k) (cell (after P d) f k) (sym (made_cell gs f lf k lk) ∙ ap (λ (t : Table). cell t f k) e)))

  excluded : Hopeless P → (e : TableFault) → Excluded P e
  excluded h (Climbs place) = h
  excluded h (Crowded place) = h
  excluded h (Rows rows) = tt
  excluded h (Low place) = tt
  excluded h (Cell place) = tt
  excluded h Rounds = tt
  excluded h Scratch = tt

  abbrev FoundShows : Found → Type 0
  FoundShows r = Sought P r.table (rounds_told r)

  settled : (d : ℕ) → ((t : Table) → Accepted P t → Below P (after P d) t) → ((m : ℕ) → m < d → after P (suc m) ≡ after P m → ⊥) → climb P (gaps P (after P d)) ≡ Ok tt
      → still_by P (gaps P (after P d)) (after P d) P.size.flows ≡ true → Settled P (after P (suc d)) (d + 1)
  settled d low first c s =
      let same = still_same d s in
      let e : d + 1 ≡ suc d = add-one d in
      let back : d + 1 - 1 ≡ d = omega arith in
      record {
        reached = fixed_reaches (after P (suc d)) (ap (λ (u : Table). made_by P (gaps P u)) (sym same));
        within = λ f lf k lk. rw (made_cell (gaps P (after P d)) f lf k lk) (climb_within (gaps P (after P d)) c f lf k lk);
        unused = λ f lf k lk l8. unused_cell (λ f. made (flow_at P f) (gaps P (after P d))) f lf k lk l8;
        below = λ t a. round_below t a.reached (after P d) (low t a);
        made = ap (after P) (sym e);
        rounds = record {
          made = omega arith;
          still = ap (after P) e ∙ same ∙ ap (after P) (sym back);
          first = λ m l. first m (omega arith);
        };
      }

  -- what the rounds show, from the d-th on
  pub rounds_show : (n d : ℕ) → ((t : Table) → Accepted P t → Below P (after P d) t) → ((m : ℕ) → m < d → after P (suc m) ≡ after P m → ⊥) → FoundShows (least_from P n d (after P d))
  rounds_show zero d low first = tt
  rounds_show (suc n) d low first =
      let gs = gaps P (after P d) in
      elim (climb P gs) as (λ r. climb P gs ≡ r → FoundShows (settle (gives r (record { table = made_by P gs; still = still_by P gs (after P d) P.size.flows })) (after P d) d (least_from P n (d + 1)))) [
        | Err e ↦ λ q. excluded (λ t a. let z = climb_free (after P d) t a (low t a) in absurd (let y : ◌≡◌ {A = ℕ} 0 1 = cc in omega arith)) e
        | Ok tt ↦ λ q. elim (still_by P gs (after P d) P.size.flows) as (λ b. still_by P gs (after P d) P.size.flows ≡ b → FoundShows (cond b (record { table = made_by P gs; rounds = d + 1; answer = Ok tt }) (least_from P n (d + 1) (made_by P gs)))) [
          | true ↦ λ s. settled d low first q s
          | false ↦ λ s.
              let e : d + 1 ≡ suc d = add-one d in
              let more : (m : ℕ) → m < suc d → after P (suc m) ≡ after P m → ⊥ = λ m l same. elim (ℕ_discrete m d) [
                | yes z ↦ both_ways (still_by P gs (after P d) P.size.flows) s (same_still d (subst (λ (i : ℕ). after P (suc i) ≡ after P i) z same))
                | no z ↦ first m (omega arith) same
              ] in
              subst (λ (i : ℕ). FoundShows (least_from P n i (made_by P gs))) (sym e) (rounds_show n (suc d) (λ t a. round_below t a.reached (after P d) (low t a)) more)
        ] refl
      ] refl

  pub find_shows : (n : ℕ) → FoundShows (find P n)
  find_shows n = rounds_show n 0 (λ t a. start_below t a.reached) (λ m l. absurd (omega arith))

  -- lines and regulators that the least table crowds are crowded by every table above it
  crowds_free : (u t : Table) → Accepted P t → Below P u t → crowds_answer P u ≡ Ok tt
  crowds_free u t a h =
      crowds_of P K u
      (λ p lp. le_trans (frames_rise P u t h p (port_at P p).shortest (omega (arith, ((kept_of P K).ports p lp).shortest_least))) (a.lines p lp))
      (λ f lf k lk on. le_trans (held_rises P u t h (flow_at P f) (routed_of P K f lf) k (omega arith)) (a.regulators f lf k lk on))

  -- a settled table that is crowded shows that there is no least one
  pub settled_crowded : (t : Table) (n : ℕ) (x : TableFault) → Settled P t n → Err x ≡ crowds_answer P t → Excluded P x
  settled_crowded t n x s q = excluded (λ o a. let z = crowds_free t o a (s.below o a) in absurd (let y : ◌≡◌ {A = ℕ} 0 1 = cc in omega arith)) x

  -- and one that is not is the least
  pub settled_least : (t : Table) (n : ℕ) → Settled P t n → Ok tt ≡ crowds_answer P t → LeastFound P t n × (accepts P t ≡ true)
  settled_least t n s q =
      let free : table_answer P t ≡ Ok tt = thens (cells_answer P t) (and_then (lows_answer P t) (crowds_answer P t)) (cells_of P K t s.within s.unused) (thens (lows_answer P t) (crowds_answer P t) (lows_of P K t s.reached) (sym q)) in
      (record { least = record { accepted = accepted_of P K t free; below = s.below }; made = s.made; rounds = s.rounds }, ap is_ok free)

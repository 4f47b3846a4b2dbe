-- One turn of the search for the least table.
use Rattle.std.proofs.Common.{◌≡◌, ℕ, suc, ◌+◌, ◌-◌, ◌<◌, Bool, true, false, cond, List, Ok, Err, Result, sym, ap, ◌∙◌, arith}
use Rattle.draft.specs.declared.parts.Parts.{Parts}
use Rattle.draft.specs.declared.table.Table.{Table}
use Rattle.table.specs.Loads.{gaps}
use Rattle.table.specs.Rounds.{Made, climb, gives, least_from, made_by, round, round_by, settle, still_by}
use Rattle.table.specs.declared.fault.TableFault.{TableFault}
use Rattle.table.specs.declared.fault.TableFault.TheVariants.{Rounds}
use Rattle.table.proofs.Tables.{gives_err, gives_ok}

-- what a round by the table's own gaps tells is what the round makes
pub round_made : (P : Parts) (t : Table) (gs : List ℕ) (b : Bool) → gs ≡ gaps P t → Ok b ≡ gives (climb P gs) (still_by P gs t P.size.flows)
    → Ok (record { table = made_by P gs; still = b }) ≡ round P t
round_made P t gs b e q =
    let g = gives_ok (climb P gs) (still_by P gs t P.size.flows) b q in
    ap (λ (b : Bool). Ok (record { table = made_by P gs; still = b })) g.1
    ∙ ap (λ (r : Result (Unit {0}) TableFault). gives r (record { table = made_by P gs; still = still_by P gs t P.size.flows })) g.0
    ∙ ap (λ (gs : List ℕ). round_by P gs t) e

pub round_climbs : (P : Parts) (t : Table) (gs : List ℕ) (x : TableFault) → gs ≡ gaps P t → Err x ≡ gives (climb P gs) (still_by P gs t P.size.flows) → Err x ≡ round P t
round_climbs P t gs x e q =
    ap (λ (r : Result (Unit {0}) TableFault). gives r (record { table = made_by P gs; still = still_by P gs t P.size.flows })) (gives_err (climb P gs) (still_by P gs t P.size.flows) x q)
    ∙ ap (λ (gs : List ℕ). round_by P gs t) e

module _ (P : Parts) (n d : ℕ) (t : Table) (h : d < n) where
  turn : least_from P (n - d) d t ≡ settle (round P t) t d (least_from P (n - (d + 1)) (d + 1))
  turn = let q : n - d ≡ suc (n - (d + 1)) = omega arith in ap (λ (m : ℕ). least_from P m d t) q

  met : (r : Result Made TableFault) → r ≡ round P t → settle r t d (least_from P (n - (d + 1)) (d + 1)) ≡ least_from P (n - d) d t
  met r e = ap (λ (x : Result Made TableFault). settle x t d (least_from P (n - (d + 1)) (d + 1))) e ∙ sym turn

  -- a need passes the limit
  pub turn_climbs : (e : TableFault) → Err e ≡ round P t → record { table = t; rounds = d; answer = Err e } ≡ least_from P (n - d) d t
  turn_climbs e q = met (Err e) q

  made : (m : Made) → Ok m ≡ round P t → (b : Bool) → m.still ≡ b
      → cond b (record { table = m.table; rounds = d + 1; answer = Ok tt }) (least_from P (n - (d + 1)) (d + 1) m.table) ≡ least_from P (n - d) d t
  made m q b s =
      ap (λ (b : Bool). cond b (record { table = m.table; rounds = d + 1; answer = Ok tt }) (least_from P (n - (d + 1)) (d + 1) m.table)) (sym s) ∙ met (Ok m) q

  -- nothing changes
  pub turn_last : (m : Made) → Ok m ≡ round P t → m.still ≡ true → record { table = m.table; rounds = d + 1; answer = Ok tt } ≡ least_from P (n - d) d t
  turn_last m q s = made m q true s

  pub turn_goes : (m : Made) → Ok m ≡ round P t → m.still ≡ false → least_from P (n - (d + 1)) (d + 1) m.table ≡ least_from P (n - d) d t
  turn_goes m q s = made m q false s

-- no round is left
pub turn_out : (P : Parts) (n d : ℕ) (t : Table) → d ≡ n → record { table = t; rounds = n; answer = Err Rounds } ≡ least_from P (n - d) d t
turn_out P n d t h =
    let q : 0 ≡ n - d = omega arith in
    ap (λ (m : ℕ). record { table = t; rounds = m; answer = Err Rounds }) (sym h) ∙ ap (λ (m : ℕ). least_from P m d t) q

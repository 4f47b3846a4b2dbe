-- Delays and gaps of ports, place by place.
use Rattle.std.proofs.Common.{◌≡◌, ℕ, ◌+◌, ◌-◌, ◌*◌, ◌<◌, ◌≤◌, Bool, true, false, cond, ltb, List, length, get_or, sym, refl, ap, ◌∙◌, ⊎_elim, le-mul_of_pos_right, arith}
use Rattle.std.proofs.lemmas.List.FromFn.{get_or-map-range_with_len, length-map-range_with_len}
use Rattle.std.proofs.lemmas.List.{get_or_past}
use Rattle.std.proofs.lemmas.Bool.{cases_lt, cond-false, cond-true, le-ltb, lt-ltb}
use Rattle.rounding.proofs.Ceilings.{up_least}
use Rattle.rounding.specs.Quotients.{up}
use Rattle.draft.specs.Plans.{port_at}
use Rattle.draft.specs.declared.parts.Parts.{Parts}
use Rattle.draft.specs.declared.table.Table.{Table}
use Rattle.plan.proofs.Keeps.{kept_of}
use Rattle.plan.specs.Checks.{faultless}
use Rattle.plan.specs.Limits.{rates_through}
use Rattle.table.specs.Bounds.{most_delay, most_load}
use Rattle.table.specs.Loads.{backlog, delay, delay_by, delays, gap, gaps, load}
use Rattle.table.specs.Reckons.{Loaded}

pub delays_long : (P : Parts) (t : Table) → length (delays P t) ≡ 32
unfolding delays
delays_long P t = length-map-range_with_len (delay P t) 0 32

pub delays_at : (P : Parts) (t : Table) (p : ℕ) → p < 32 → get_or (delays P t) p 0 ≡ delay P t p
unfolding delays
delays_at P t p h = get_or-map-range_with_len (delay P t) 0 32 p p 0 h (omega arith)

pub gaps_at : (P : Parts) (t : Table) (p : ℕ) → p < 32 → get_or (gaps P t) p 0 ≡ gap P t p
unfolding gaps
gaps_at P t p h = get_or-map-range_with_len (gap P t) 0 32 p p 0 h (omega arith)

-- no gap past the plan's ports
pub gaps_past : (P : Parts) (t : Table) (p : ℕ) → P.size.ports ≤ p → p < 32 → get_or (gaps P t) p 0 ≡ 0
gaps_past P t p past h =
    let e : delay P t p ≡ 0 = cond-false (ltb p P.size.ports) (delay_by (port_at P p) (load P t p)) 0 (le-ltb p P.size.ports past) in
    gaps_at P t p h ∙ (omega arith)

pub up_few : (a b : ℕ) → 1 ≤ b → up a b ≤ a
up_few a b h = up_least a b a h (le-mul_of_pos_right a h)

-- D of a port by B, no more than the fullest table makes it
pub delay_few : (P : Parts) → faultless P ≡ true → (p b : ℕ) → p < P.size.ports → b ≤ most_load → delay_by (port_at P p) b ≤ most_delay
delay_few P e p b h few =
    let q = (kept_of P e).ports p h in
    omega (arith, q.latency_most, up_few b (port_at P p).rate q.rate_least)

-- D - m by B, and 0 past the plan's ports
pub gap_from : (P : Parts) (t : Table) (n p b : ℕ) → n ≡ P.size.ports → b ≡ load P t p
    → cond (ltb p n) (delay_by (port_at P p) b - (port_at P p).stay) 0 ≡ gap P t p
gap_from P t n p b e q =
    ap (λ (m : ℕ). cond (ltb p m) (delay_by (port_at P p) b - (port_at P p).stay) 0) e
    ∙ ap (λ (b : ℕ). cond (ltb p P.size.ports) (delay_by (port_at P p) b - (port_at P p).stay) 0) q
    ∙ both (ltb p P.size.ports) (delay_by (port_at P p) (load P t p)) (port_at P p).stay
  where
    both : (b : Bool) (d s : ℕ) → cond b (d - s) 0 ≡ cond b d 0 - s
    both true d s = refl
    both false d s = omega arith

-- B + r × D by what was reckoned, and 0 past the plan's ports
pub backlog_by : (P : Parts) (t : Table) (bs ds : List ℕ) → Loaded P t bs → ds ≡ delays P t → (p : ℕ) → p < 32
    → cond (ltb p P.size.ports) (get_or bs p 0 + rates_through P p * get_or ds p 0) 0 ≡ backlog P t p
backlog_by P t bs ds l e p lt =
    ap (λ (b : ℕ). cond (ltb p P.size.ports) (b + rates_through P p * get_or ds p 0) 0) (l p lt)
    ∙ ap (λ (d : ℕ). cond (ltb p P.size.ports) (load P t p + rates_through P p * d) 0) (ap (λ (ds : List ℕ). get_or ds p 0) e ∙ delays_at P t p lt)

-- the same of a port of the plan
pub backlog_at : (P : Parts) (t : Table) (bs ds : List ℕ) → Loaded P t bs → ds ≡ delays P t → (p : ℕ) → p < 32 → p < P.size.ports
    → get_or bs p 0 + rates_through P p * get_or ds p 0 ≡ backlog P t p
backlog_at P t bs ds l e p lt h =
    sym (cond-true (ltb p P.size.ports) (get_or bs p 0 + rates_through P p * get_or ds p 0) 0 (lt-ltb p P.size.ports h)) ∙ backlog_by P t bs ds l e p lt

-- D of a port, by its load
pub delay_at : (P : Parts) (t : Table) (b p : ℕ) → p < P.size.ports → b ≡ load P t p → delay_by (port_at P p) b ≡ delay P t p
delay_at P t b p h l =
    ap (delay_by (port_at P p)) l ∙ sym (cond-true (ltb p P.size.ports) (delay_by (port_at P p) (load P t p)) 0 (lt-ltb p P.size.ports h))

-- B + r × D of a port, by its load and its D
pub backlog_is : (P : Parts) (t : Table) (b d p : ℕ) → p < P.size.ports → b ≡ load P t p → d ≡ delay_by (port_at P p) b → b + rates_through P p * d ≡ backlog P t p
backlog_is P t b d p h l e =
    ap (λ n. b + rates_through P p * n) (e ∙ delay_at P t b p h l) ∙ ap (λ n. n + rates_through P p * delay P t p) l
    ∙ sym (cond-true (ltb p P.size.ports) (load P t p + rates_through P p * delay P t p) 0 (lt-ltb p P.size.ports h))

-- D of any number, by the list of them
pub delays_all : (P : Parts) (t : Table) → P.size.ports ≤ 32 → (p : ℕ) → get_or (delays P t) p 0 ≡ delay P t p
delays_all P t few p = ⊎_elim
    (λ h. delays_at P t p h)
    (λ h. get_or_past (delays P t) p 0 (omega (arith, delays_long P t)) ∙ sym (cond-false (ltb p P.size.ports) (delay_by (port_at P p) (load P t p)) 0 (le-ltb p P.size.ports (omega arith))))
    (cases_lt p 32)

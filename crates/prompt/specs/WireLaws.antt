-- What put, take and a new port make of a wire, and that it is ready in time.
use Rattle.std.proofs.Common.{◌≡◌, ℕ, ◌+◌, ◌*◌, ◌<◌, ◌≤◌, true, false, ◌&&◌, leb, List, [], ◌∷◌, ◌++◌, drop, ◌==◌, refl, subst, ⊎_elim, mul-le-mul, arith}
use Rattle.std.proofs.lemmas.Bool.{and_from, and_parts, both_ways, cases_lt, le-leb, leb-true}
use Rattle.std.proofs.lemmas.Bool.Decides.{nat_tests}
use Rattle.draft.specs.declared.port.Port.{Port}
use Rattle.plan.specs.Checks.{port_fits}
use Rattle.plan.specs.Limits.{PortKept}
use Rattle.rounding.specs.Quotients.{up}
use Rattle.service.specs.Entries.{entered, finish_after}
use Rattle.service.specs.declared.frame.Frame.{Frame}
use Rattle.cabinet.specs.Fresh.{fresh_port}
use Rattle.cabinet.specs.Model.{PortModel, cut}
use Rattle.cabinet.specs.Puts.{lined}
use Rattle.cabinet.specs.Takes.{InTime}
use Rattle.cabinet.specs.Wells.{WellPort}
use Rattle.ports.specs.Kinds.{Leads}
use Rattle.prompt.specs.Paces.{own_finish_push, own_finish_rises, pace_kept, pace_through, through_push}
use Rattle.prompt.specs.Wires.{kept, own_after, own_finish, own_of, wire_fits, passed, sent_on, through, suits}
use Rattle.prompt.specs.declared.wire.Wire.{Wire}

-- what is kept, part by part
abbrev Kept : Wire → PortModel → Type 0
Kept w q =
    (wire_fits q.figures w.speed w.latency ≡ true)
    × (through w.speed w.latency w.sent q.line ≡ true)
    × (own_of w q * q.figures.rate ≤ q.finish * w.speed)
    × (own_of w q ≤ 10000000000000000 + q.finish)

parts : (w : Wire) (q : PortModel) → kept w q ≡ true → Kept w q
parts w q e =
    let near = leb (own_of w q) (10000000000000000 + q.finish) in
    let pace = leb (own_of w q * q.figures.rate) (q.finish * w.speed) in
    let a = and_parts (wire_fits q.figures w.speed w.latency) (through w.speed w.latency w.sent q.line && (pace && near)) e in
    let b = and_parts (through w.speed w.latency w.sent q.line) (pace && near) a.1 in
    let d = and_parts pace near b.1 in
    (a.0, b.0, leb-true (own_of w q * q.figures.rate) (q.finish * w.speed) d.0, leb-true (own_of w q) (10000000000000000 + q.finish) d.1)

whole : (w : Wire) (q : PortModel) → Kept w q → kept w q ≡ true
whole w q o =
    let near = leb (own_of w q) (10000000000000000 + q.finish) in
    let pace = leb (own_of w q * q.figures.rate) (q.finish * w.speed) in
    and_from (wire_fits q.figures w.speed w.latency) (through w.speed w.latency w.sent q.line && (pace && near)) o.0
    (and_from (through w.speed w.latency w.sent q.line) (pace && near) o.1
    (and_from pace near (le-leb (own_of w q * q.figures.rate) (q.finish * w.speed) o.2) (le-leb (own_of w q) (10000000000000000 + q.finish) o.3)))

fits_parts : (q : Port) (c u : ℕ) → wire_fits q c u ≡ true → (q.rate ≤ c) × (c ≤ 10000) × (u ≤ q.latency)
fits_parts q c u e =
    let a = and_parts (leb q.rate c && leb c 10000) (leb u q.latency) e in
    let b = and_parts (leb q.rate c) (leb c 10000) a.0 in
    (leb-true q.rate c b.0, leb-true c 10000 b.1, leb-true u q.latency a.1)

-- a frame that enters the port enters the wire
kept_put : (w : Wire) (q : PortModel) (slot : ℕ) (x : Frame) → PortKept q.figures → slot ≤ 1000000000000 → Kept w q → Kept w (lined slot q x)
kept_put w q slot x k s o =
    let f = fits_parts q.figures w.speed w.latency o.0 in
    let c = w.speed in
    let own = own_finish c w.sent q.line in
    let y = entered q.figures slot q.finish x in
    let finish = finish_after q.figures slot q.finish x.len in
    let more : own_finish c w.sent (q.line ++ y ∷ []) ≡ own_after c own y = own_finish_push c w.sent q.line y in
    let pace : own_after c own y * q.figures.rate ≤ finish * c = pace_kept own q.finish q.figures.rate c slot x.len f.0 o.2 in
    let by : up (own_after c own y) c ≤ up finish q.figures.rate = pace_through (own_after c own y) finish q.figures.rate c k.rate_least (omega (arith, k.rate_least, f.0)) pace in
    let far : slot * c ≤ 1000000000000 * 10000 = mul-le-mul s f.1 in (
      o.0,
      through_push c w.latency w.sent q.line y o.1 (omega (arith, by, f.2)),
      rw more pace,
      rw more (omega (arith, far, o.3)),
    )

-- the first frame of a line is through by its due slot, and counted within the own finish
kept_first : (w : Wire) (q : PortModel) (x : Frame) (xs : List Frame) → q.line ≡ x ∷ xs → Kept w q → (up (own_after w.speed w.sent x) w.speed + w.latency ≤ x.due) × (own_after w.speed w.sent x ≤ 10000000000000000 + q.finish)
kept_first w q x xs e o =
    let t = subst (λ (l : List Frame). through w.speed w.latency w.sent l ≡ true) e o.1 in
    let a = and_parts (leb (up (own_after w.speed w.sent x) w.speed + w.latency) x.due) (through w.speed w.latency (own_after w.speed w.sent x) xs) t in
    let r = subst (λ (l : List Frame). own_finish w.speed w.sent l ≤ 10000000000000000 + q.finish) e o.3 in
    (leb-true (up (own_after w.speed w.sent x) w.speed + w.latency) x.due a.0, omega (arith, r, own_finish_rises w.speed (own_after w.speed w.sent x) xs))

-- handed over, it is counted as sent
kept_cut : (w : Wire) (q : PortModel) (x : Frame) → q.line ≡ x ∷ drop 1 q.line → Kept w q → Kept (sent_on w x) (cut 1 q)
kept_cut w q x e o =
    let t = subst (λ (l : List Frame). through w.speed w.latency w.sent l ≡ true) e o.1 in (
      o.0,
      (and_parts (leb (up (own_after w.speed w.sent x) w.speed + w.latency) x.due) (through w.speed w.latency (own_after w.speed w.sent x) (drop 1 q.line)) t).1,
      subst (λ (l : List Frame). own_finish w.speed w.sent l * q.figures.rate ≤ q.finish * w.speed) e o.2,
      subst (λ (l : List Frame). own_finish w.speed w.sent l ≤ 10000000000000000 + q.finish) e o.3,
    )

-- sent, a frame has stayed; not sent, it is due later
passed_stayed : (w : Wire) (slot stay : ℕ) (x : Frame) → passed w slot stay x ≡ true → x.entry + stay ≤ slot
passed_stayed w slot stay x h =
    leb-true (x.entry + stay) slot (and_parts (leb (up (own_after w.speed w.sent x) w.speed + w.latency) slot) (leb (x.entry + stay) slot) h).1

unpassed_later : (w : Wire) (slot stay : ℕ) (x : Frame) → up (own_after w.speed w.sent x) w.speed + w.latency ≤ x.due → x.entry + stay ≤ x.due → passed w slot stay x ≡ false → slot < x.due
unpassed_later w slot stay x a b h = ⊎_elim
    (λ (l : slot < x.due). l)
    (λ (l : x.due ≤ slot).
    let done = up (own_after w.speed w.sent x) w.speed + w.latency in
    absurd (both_ways (passed w slot stay x) h (and_from (leb done slot) (leb (x.entry + stay) slot) (le-leb done slot (omega arith)) (le-leb (x.entry + stay) slot (omega arith)))))
    (cases_lt slot x.due)

-- a fresh port
pub wire_starts : (w : Wire) (q : Port) → port_fits q ≡ true → suits q w ≡ true → kept w (fresh_port q) ≡ true
wire_starts w q p f =
    let a = and_parts (wire_fits q w.speed w.latency) (w.sent == 0) f in
    let z : w.sent ≡ 0 = grind (arith, nat_tests, a.1) in
    whole w (fresh_port q) (a.0, refl, rw z (omega arith), rw z (omega arith))

-- a frame put
pub wire_put : (w : Wire) (q : PortModel) (slot : ℕ) (x : Frame) → WellPort q → slot ≤ 1000000000000 → kept w q ≡ true → kept w (lined slot q x) ≡ true
wire_put w q slot x o s e = whole w (lined slot q x) (kept_put w q slot x o.figures s (parts w q e))

-- a frame handed over
pub wire_handed : (w : Wire) (q : PortModel) (x : Frame) → Leads (kept w) q x → kept (sent_on w x) (cut 1 q) ≡ true
wire_handed w q x l = whole (sent_on w x) (cut 1 q) (kept_cut w q x l.first (parts w q l.kept))

-- what is counted of the first frame of a line is small
pub wire_small : (w : Wire) (q : PortModel) (x : Frame) → Leads (kept w) q x → own_after w.speed w.sent x ≤ 30000000000000000
wire_small w q x l = omega (arith, (kept_first w q x (drop 1 q.line) l.first (parts w q l.kept)).1, l.well.finish_most)

-- and its line is not late
pub wire_early : (w : Wire) (q : PortModel) → WellPort q → kept w q ≡ true → w.latency ≤ 100000
wire_early w q o e = omega (arith, (fits_parts q.figures w.speed w.latency (parts w q e).0).2, o.figures.latency_most)

pub wire_in_time : (w : Wire) (q : PortModel) (slot : ℕ) (x : Frame) → Leads (kept w) q x → InTime slot q x (passed w slot q.figures.stay x)
wire_in_time w q slot x l =
    record {
      stayed = passed_stayed w slot q.figures.stay x;
      later = unpassed_later w slot q.figures.stay x (kept_first w q x (drop 1 q.line) l.first (parts w q l.kept)).0 l.stays;
    }

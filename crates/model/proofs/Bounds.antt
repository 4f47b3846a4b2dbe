-- What every run of the calculus gives in the network's words: lines, finishes and regulators stay within their limits.
use Rattle.std.proofs.Common.{◌≡◌, ℕ, suc, ◌+◌, ◌-◌, ◌*◌, ◌/◌, ◌<◌, ◌≤◌, Bool, true, false, cond, ◌&&◌, ltb, leb, List, [], ◌∷◌, map, length, get_or, sym, refl, ap, ◌∙◌, subst, arith}
use native.Mathlib.Decide.{dec_lt}
use Rattle.std.proofs.ByRecursion.{All-get_or, All-map, All-weaker}
use Rattle.std.proofs.lemmas.List.{get_or_past, length-map}
use Rattle.std.proofs.lemmas.Bool.Decides.{nat_tests}
use Rattle.std.specs.List.{AllByRecursion}
use Rattle.draft.specs.Plans.{flow_at, port_at}
use Rattle.draft.specs.declared.parts.Parts.{Parts}
use Rattle.draft.specs.declared.table.Table.{Table}
use Rattle.plan.specs.Limits.{Kept}
use Rattle.table.specs.Accepts.{Accepted}
use Rattle.table.specs.Loads.{backlog, delay, load}
use Rattle.table.specs.Paths.{stretch}
use Rattle.calculus.proofs.Hops.{counts}
use Rattle.calculus.proofs.Invariants.{Inv, Lined, Loose, Seen}
use Rattle.calculus.proofs.Laws.{every_run, run_inv}
use Rattle.calculus.proofs.Orders.{all_both}
use Rattle.calculus.proofs.Ports.{port_serves}
use Rattle.calculus.proofs.Sums.{hit_in, total_le}
use Rattle.calculus.proofs.Visits.{only_same, visit_at}
use Rattle.calculus.proofs.Ways.{base_le, base_regulated}
use Rattle.calculus.specs.Laws.{Lawful}
use Rattle.calculus.specs.Systems.{Everywhere, Leg, Port, Reaches, System, Traced, World, arrived, base, came, crossing, empty, entry, idle, line_at, only, reach, sum_of, visit}
use Rattle.calculus.specs.Windows.{Conforms, affine, total}
use Rattle.model.proofs.Cells.{dec_both}
use Rattle.model.proofs.Picks.{loose_at, loose_no, loose_yes}
use Rattle.model.proofs.Plans.{fine, gated_known, hops_known, real_flow, users, users_real}
use Rattle.model.proofs.Soundness.{curve_of, curves_backlog, reaches, sound, system_of}
use Rattle.model.specs.Networks.{gated, hops_of}

-- a frame's length lies within its flow's
abbrev pub in_size : Parts → ℕ → ℕ → Bool
in_size P f n = ltb f P.size.flows && (leb (flow_at P f).shortest n && leb n (flow_at P f).longest)

pub record Size (P : Parts) (f n : ℕ) : Type 0 where
  pub known : f < P.size.flows
  pub low : (flow_at P f).shortest ≤ n
  pub high : n ≤ (flow_at P f).longest

pub size_tells : (P : Parts) (f n : ℕ) → in_size P f n ≡ true → Size P f n
size_tells P f n e = record { known = grind (arith, nat_tests); low = grind (arith, nat_tests); high = grind (arith, nat_tests) }

odd : Parts → ℕ → ℕ → ℕ → ℕ
odd P f a n = cond (in_size P f n) 0 1

odd_none : (P : Parts) (f a n : ℕ) → in_size P f n ≡ true → odd P f a n ≡ 0
unfolding odd
odd_none P f a n e = ap (λ (b : Bool). cond b 0 1) e

odd_tells : (P : Parts) (f a n : ℕ) → odd P f a n ≡ 0 → Size P f n
unfolding odd
odd_tells P f a n e = size_tells P f n (go (in_size P f n) e)
  where
    go : (b : Bool) → ◌≡◌ {A = ℕ} (cond b 0 1) 0 → b ≡ true
    go true q = refl
    go false q = absurd (omega arith)

total_none : {X : Type 0} (g : X → ℕ) (xs : List X) → total g xs ≡ 0 → AllByRecursion (λ x. g x ≡ 0) xs
total_none g [] h = tt
total_none g (x ∷ xs) h = (omega arith, total_none g xs (omega arith))

none_total : {X : Type 0} (g : X → ℕ) (xs : List X) → AllByRecursion (λ x. g x ≡ 0) xs → total g xs ≡ 0
none_total g [] h = refl
none_total g (x ∷ xs) h = omega (arith, h.0, none_total g xs h.1)

at_line : (A : Traced → Type 0) (ports : List Port) → AllByRecursion (λ (q : Port). AllByRecursion A q.line) ports → (p : ℕ) → AllByRecursion A (line_at ports p)
at_line A ports h p =
    elim (dec_lt p (length ports)) [
      | yes l ↦ All-get_or (λ (q : Port). AllByRecursion A q.line) ports p idle l h
      | no l ↦ subst (λ (q : Port). AllByRecursion A q.line) (sym (get_or_past ports p idle (omega arith))) tt
    ]

-- what holds of all that was taken in holds of all that is there
pub all_sized : (P : Parts) (S : System) (w : World) → Inv S w → AllByRecursion (λ y. in_size P y.flow y.len ≡ true) w.taken
    → Everywhere (λ y. Size P y.flow y.len) w.ports w.loose
all_sized P S w inv h = (
  All-weaker _ _ (λ y e. odd_tells P y.flow y.name y.len e) w.loose (total_none _ w.loose (omega (arith, zero_all))),
  at_line _ w.ports (All-weaker _ _ (λ q e. All-weaker _ _ (λ y e. odd_tells P y.flow y.name y.len e) q.line
      (total_none (λ y. odd P y.flow y.name y.len) q.line e)) w.ports (total_none _ w.ports (omega (arith, zero_all)))),
)
  where
    zero_all : sum_of w.ports w.loose (λ y. odd P y.flow y.name y.len) ≡ 0
    zero_all = inv.kept (odd P) ∙ none_total _ w.taken (All-weaker _ _ (λ y e. odd_none P y.flow y.name y.len e) w.taken h)

-- frames of at least l bits, by their number
few : (l Q b : ℕ) (xs : List Traced) → 0 < l → AllByRecursion (λ x. l ≤ x.len) xs → total (λ x. x.len) xs ≤ Q → Q / l ≤ b → length xs ≤ b
few l Q b xs pos h q e =
    omega (
      arith,
      e,
      length-map xs Traced.len,
      total_lens xs,
      counts (map Traced.len xs) l Q pos (All-map (λ n. l ≤ n) Traced.len xs h) (omega (arith, total_lens xs)),
    )
  where
    total_lens : (xs : List Traced) → total (λ n. n) (map Traced.len xs) ≡ total (λ x. x.len) xs
    total_lens [] = refl
    total_lens (x ∷ xs) = ap (λ n. x.len + n) (total_lens xs)

module _ (P : Parts) (t : Table) (kept : Kept P) (ok : Accepted P t) (w : World) (run : Reaches (system_of P t) (empty (system_of P t)) w) where
  law : Lawful (system_of P t) w
  law = every_run (system_of P t) (sound P t kept ok) w run

  inv : Inv (system_of P t) w
  inv = run_inv (system_of P t) (sound P t kept ok) w run

  module _ (prompt : (p : ℕ) → AllByRecursion (λ x. w.now ≤ x.due) (line_at w.ports p)) where
    pub near : (p : ℕ) → AllByRecursion (λ x. w.now ≤ entry x + delay P t p) (line_at w.ports p)
    near p = all_both _ _ _ (λ x a b. omega (arith, a, b.served (length x.past - 1) (omega (arith, b.some)))) (line_at w.ports p) (prompt p) (inv.lines p)

    pub line_bits : (p : ℕ) → p < P.size.ports → total (λ x. x.len) (line_at w.ports p) ≤ backlog P t p
    line_bits p h = omega (arith, law.holds p (delay P t p) (near p), curves_backlog P t kept ok p h)

    pub line_few : (p : ℕ) → p < P.size.ports → AllByRecursion (λ y. in_size P y.flow y.len ≡ true) w.taken → length (line_at w.ports p) ≤ 32
    line_few p h s = few (port_at P p).shortest (backlog P t p) 32 (line_at w.ports p) (omega (arith, (kept.ports p h).shortest_least))
        (all_both _ _ _ long (line_at w.ports p) (inv.lines p) ((all_sized P (system_of P t) w inv s).1 p)) (line_bits p h) (ok.lines p h)
      where
        long : (x : Traced) → Lined (system_of P t) w.now p x → Size P x.flow x.len → (port_at P p).shortest ≤ x.len
        long x a b = subst (λ r. (port_at P r).shortest ≤ x.len) (a.here (length x.past - 1) (omega (arith, a.some)))
            (omega (arith, (fine P kept x.flow b.known).long (length x.past - 1) (omega (arith, a.some, a.along)), b.low))

  pub finish_low : (p : ℕ) → p < P.size.ports → (get_or w.ports p idle).finish ≤ w.now * (port_at P p).rate + load P t p
  finish_low p h =
      (port_serves (port_at P p).rate 0 (load P t p) (get_or w.ports p idle).finish w.now (arrived (system_of P t) w p)
      (kept.ports p h).rate_least arrivals (inv.busy p h)).0
    where
      arrivals : Conforms (arrived (system_of P t) w p) (affine (load P t p) (port_at P p).rate)
      arrivals u n =
          omega (
            arith,
            (sound P t kept ok).shared p n h,
            total_le (λ c. came w c u (u + n)) (λ c. curve_of P t c.flow c.hop n) (users P p)
                (All-weaker _ _ (λ c l. law.conforms c.flow c.hop l u n) (users P p) (users_real P p)),
          )

  -- the frames that wait before the hop k + 1
  pub held_bits : (f k : ℕ) → suc k < hops_of P f
      → total (λ x. x.len) (loose_at f (suc k) w.loose) ≤ (flow_at P f).burst + (flow_at P f).rate * stretch P t f (suc k)
  held_bits f k h =
      omega (
        arith,
        go w.loose inv.held inv.seen.0,
        (inv.buckets f j (base_regulated S (sound P t kept ok).first f k)).conforms (w.now - X) X,
        ap (λ n. (flow_at P f).rate * n) (reaches P t kept ok f k h),
      )
    where
      S : System
      S = system_of P t

      X : ℕ
      X = reach (system_of P t) f k

      j : ℕ
      j = base (system_of P t) f k

      c : Leg
      c = record { flow = f; hop = j }

      one : (x : Traced) → Loose (system_of P t) w.now x → Seen w.now x.past → x.flow ≡ f → length x.past ≡ suc k
          → x.len ≤ crossing c (w.now - X) (w.now - X + X) x
      one x a b e q = omega (
        arith,
        subst (λ g. only f g (visit j (w.now - X) (w.now - X + X) x.past x.len) ≡ visit j (w.now - X) (w.now - X + X) x.past x.len)
            (sym e) (only_same f (visit j (w.now - X) (w.now - X + X) x.past x.len)),
        visit_at j (w.now - X) (w.now - X + X) x.len x.past (omega (arith, base_le (system_of P t) f k)),
        hit_in (w.now - X) (w.now - X + X) (get_or x.past j 0) x.len (omega (arith, far)) (omega (arith, b j (omega (arith, base_le (system_of P t) f k)))),
      )
        where
          far : w.now ≤ get_or x.past j 0 + X
          far = subst (λ g. w.now ≤ get_or x.past (base (system_of P t) g k) 0 + reach (system_of P t) g k) e
              (a.ready k (omega arith) (subst (λ g. k + 1 < hops_of P g) (sym e) (omega arith))).far

      go : (xs : List Traced) → AllByRecursion (Loose (system_of P t) w.now) xs → AllByRecursion (λ x. Seen w.now x.past) xs
          → total (λ x. x.len) (loose_at f (suc k) xs) ≤ total (crossing c (w.now - X) (w.now - X + X)) xs
      go [] a b = omega arith
      go (x ∷ xs) a b =
          elim (dec_both x.flow f (length x.past) (suc k)) [
            | yes e ↦ omega (
              arith,
              ap (total (λ (x : Traced). x.len)) (loose_yes f (suc k) x xs e.0 e.1),
              one x a.0 b.0 e.0 e.1,
              go xs a.1 b.1,
            )
            | no e ↦ omega (arith, ap (total (λ (x : Traced). x.len)) (loose_no f (suc k) x xs (λ p q. e (p, q))), go xs a.1 b.1)
          ]

  pub held_few : (f k : ℕ) → suc k < hops_of P f → gated P f (suc k) ≡ true → AllByRecursion (λ y. in_size P y.flow y.len ≡ true) w.taken
      → length (loose_at f (suc k) w.loose) ≤ 16
  held_few f k h g s = few (flow_at P f).shortest ((flow_at P f).burst + (flow_at P f).rate * stretch P t f (suc k)) 16 (loose_at f (suc k) w.loose)
      (omega (arith, (fine P kept f (real_flow P f (suc k) h)).figures.shortest_least))
      (go w.loose (all_sized P (system_of P t) w inv s).0) (held_bits f k h)
      (ok.regulators f (real_flow P f (suc k) h) (suc k) (omega (arith, hops_known P f (real_flow P f (suc k) h)))
      (sym (gated_known P f (suc k) (real_flow P f (suc k) h)) ∙ g))
    where
      go : (xs : List Traced) → AllByRecursion (λ y. Size P y.flow y.len) xs → AllByRecursion (λ x. (flow_at P f).shortest ≤ x.len) (loose_at f (suc k) xs)
      go [] a = tt
      go (x ∷ xs) a =
          elim (dec_both x.flow f (length x.past) (suc k)) [
            | yes e ↦ subst (AllByRecursion (λ x. (flow_at P f).shortest ≤ x.len)) (sym (loose_yes f (suc k) x xs e.0 e.1))
                (subst (λ g. (flow_at P g).shortest ≤ x.len) e.0 a.0.low, go xs a.1)
            | no e ↦ subst (AllByRecursion (λ x. (flow_at P f).shortest ≤ x.len)) (sym (loose_no f (suc k) x xs (λ p q. e (p, q)))) (go xs a.1)
          ]

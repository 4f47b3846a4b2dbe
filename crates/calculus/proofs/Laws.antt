-- What the invariant gives of every run.
use Rattle.std.proofs.Common.{◌≡◌, ℕ, zero, suc, ◌+◌, ◌-◌, ◌<◌, ◌≤◌, Bool, true, false, cond, List, [], ◌∷◌, length, get_or, replicate, sym, refl, ap, ◌∙◌, subst, add-one, arith}
use native.Mathlib.Decide.{dec_le}
use lib.ListN.{length-replicate}
use Rattle.std.proofs.ByRecursion.{All-weaker}
use Rattle.std.specs.List.{AllByRecursion}
use Rattle.calculus.proofs.Buckets.{bucket_starts}
use Rattle.calculus.proofs.Entering.{conform}
use Rattle.calculus.proofs.Hops.{holds}
use Rattle.calculus.proofs.Invariants.{Inv, Lined, Loose, Same, Seen, Ways}
use Rattle.calculus.proofs.Lines.{idle_at, idle_sum, line_sum, sum_swap, total_in}
use Rattle.calculus.proofs.Orders.{all_both}
use Rattle.calculus.proofs.Steps.{step_inv}
use Rattle.calculus.proofs.Sums.{hit_in, total_le}
use Rattle.calculus.proofs.Visits.{only_same, visit_at}
use Rattle.calculus.proofs.Ways.{base_le}
use Rattle.calculus.specs.Laws.{EveryRun, Lawful, Out, Pairs}
use Rattle.calculus.specs.Systems.{In, Port, Reaches, Sound, System, Traced, World, arrived, base, came, crossing, empty, entry, idle, leg, line_at, path, span, visit}
use Rattle.calculus.specs.Windows.{Conforms, total}

-- the stays since the last regulated hop are part of those since the first
path_base : (S : System) (f k : ℕ) → path S f (base S f k) + span S f k ≡ path S f k
path_base S f zero = refl
path_base S f (suc k) = go (path_base S f k) (S.regulated f (suc k))
  where
    go : path S f (base S f k) + span S f k ≡ path S f k → (b : Bool)
        → path S f (cond b (suc k) (base S f k)) + cond b 0 (span S f k + S.stay (S.route f k) + 1) ≡ path S f (suc k)
    go ih true = omega arith
    go ih false = omega arith

timely_to : (S : System) (f : ℕ) (past : List ℕ) → Ways S f past → (n k : ℕ) → k ≤ n → k < length past → get_or past k 0 ≤ get_or past 0 0 + path S f k
timely_to S f past ways zero k le h = let e : k ≡ 0 = omega arith in rw e (omega arith)
timely_to S f past ways (suc n) k le h = go (dec_le k n)
    (λ l. timely_to S f past ways n k l h)
    (λ l. timely_to S f past ways n (base S f n) (base_le S f n) l)
  where
    go : Dec (k ≤ n) → (k ≤ n → get_or past k 0 ≤ get_or past 0 0 + path S f k)
        → (base S f n < length past → get_or past (base S f n) 0 ≤ get_or past 0 0 + path S f (base S f n)) → get_or past k 0 ≤ get_or past 0 0 + path S f k
    go (yes l) below at_base = below l
    go (no l) below at_base = let e : k ≡ suc n =
        omega arith in rw e (omega (arith, path_base S f n, at_base (omega (arith, base_le S f n)), rw (add-one n) at (ways n (omega arith)).far))

timely : (S : System) (f : ℕ) (past : List ℕ) → Ways S f past → (k : ℕ) → k < length past → get_or past k 0 ≤ get_or past 0 0 + path S f k
timely S f past ways k h = timely_to S f past ways k k (omega arith) h

lawful : (S : System) → Sound S → (st : World) → Inv S st → Lawful S st
lawful S sound st inv =
    record {
      conforms = λ f k h. conforms k f h;
      timely = (
        All-weaker _ _ (λ x w. timely S x.flow x.past w) st.loose inv.ways.0,
        λ p. All-weaker _ _ (λ x w. timely S x.flow x.past w) (line_at st.ports p) (inv.ways.1 p),
      );
      waiting = λ p. All-weaker _ _ (λ x h. omega (arith, h.waits, h.served (length x.past - 1) (omega (arith, h.some))))
          (line_at st.ports p) (inv.lines p);
      held = all_both _ _ _ held' st.loose inv.ways.0 inv.held;
      holds = held_bits;
      kept = inv.kept;
      order = order' st.loose inv.order.queued inv.held;
    }
  where
    conforms : (k f : ℕ) → k < S.hops f → Conforms (came st (leg f k)) (S.curve f k)
    conforms = conform S sound st.ports st.loose inv.ways (λ f k g. (inv.buckets f k g).conforms)

    held' : (x : Traced) → Ways S x.flow x.past → Loose S st.now x → length x.past < S.hops x.flow
        → st.now ≤ get_or x.past 0 0 + path S x.flow (length x.past)
    held' x w l room = last (length x.past - 1) (omega (arith, l.some))
      where
        last : (k : ℕ) → suc k ≡ length x.past → st.now ≤ get_or x.past 0 0 + path S x.flow (length x.past)
        last k e = rw (← e) (omega (
          arith,
          path_base S x.flow k,
          timely S x.flow x.past w (base S x.flow k) (omega (arith, base_le S x.flow k)),
          (l.ready k (omega arith) (omega arith)).far,
        ))

    order' : (xs : List Traced) → Pairs Same xs → AllByRecursion (Loose S st.now) xs → Pairs (λ x y. x.flow ≡ y.flow → Out S x → Out S y → x.name < y.name) xs
    order' [] a b = tt
    order' (x ∷ xs) a b = (All-weaker _ _ (λ y h e p q. (h e (p ∙ ap S.hops e ∙ sym q)).named) xs a.0, order' xs a.1 b.1)

    each : (p d : ℕ) (x : Traced) → Lined S st.now p x → Seen st.now x.past → st.now ≤ entry x + d
        → x.len ≤ total (λ c. crossing c (st.now - d) (st.now - d + d) x) (S.users p)
    each p d x ins seen h =
        omega (
          arith,
          total_in (λ c. crossing c (st.now - d) (st.now - d + d) x) (leg x.flow (length x.past - 1)) (S.users p)
              (subst (λ r. In (leg x.flow (length x.past - 1)) (S.users r)) (ins.here (length x.past - 1) (omega (arith, ins.some)))
              (sound.used x.flow (length x.past - 1) (omega (arith, ins.some, ins.along)))),
          only_same x.flow (visit (length x.past - 1) (st.now - d) (st.now - d + d) x.past x.len),
          visit_at (length x.past - 1) (st.now - d) (st.now - d + d) x.len x.past (omega (arith, ins.some)),
          hit_in (st.now - d) (st.now - d + d) (entry x) x.len (omega arith) (omega (arith, seen (length x.past - 1) (omega (arith, ins.some)))),
        )

    all_each : (p d : ℕ) (xs : List Traced) → AllByRecursion (Lined S st.now p) xs → AllByRecursion (λ x. Seen st.now x.past) xs
        → AllByRecursion (λ x. st.now ≤ entry x + d) xs → AllByRecursion (λ x. x.len ≤ total (λ c. crossing c (st.now - d) (st.now - d + d) x) (S.users p)) xs
    all_each p d [] a b c = tt
    all_each p d (x ∷ xs) a b c = (each p d x a.0 b.0 c.0, all_each p d xs a.1 b.1 c.1)

    held_bits : (p d : ℕ) → AllByRecursion (λ x. st.now ≤ entry x + d) (line_at st.ports p)
        → total (λ x. x.len) (line_at st.ports p) ≤ total (λ c. S.curve c.flow c.hop d) (S.users p)
    held_bits p d h =
        holds (λ n. total (λ c. S.curve c.flow c.hop n) (S.users p)) d st.now (total (λ x. x.len) (line_at st.ports p)) (arrived S st p)
        (omega (
          arith,
          total_le (λ x. x.len) (λ x. total (λ c. crossing c (st.now - d) (st.now - d + d) x) (S.users p)) (line_at st.ports p)
              (all_each p d (line_at st.ports p) (inv.lines p) (inv.seen.1 p) h),
          line_sum (λ x. total (λ c. crossing c (st.now - d) (st.now - d + d) x) (S.users p)) st.ports st.loose p,
          sum_swap (λ c x. crossing c (st.now - d) (st.now - d + d) x) st.ports st.loose (S.users p),
        ))
        (λ u n. total_le (λ c. came st c u (u + n)) (λ c. S.curve c.flow c.hop n) (S.users p)
        (All-weaker _ _ (λ c r. conforms c.hop c.flow r u n) (S.users p) (sound.real p)))

start_inv : (S : System) → Inv S (empty S)
start_inv S = record {
  size = length-replicate S.count idle;
  ways = (tt, none _);
  seen = (tt, none _);
  lines = λ p. none (Lined S 0 p) p;
  held = tt;
  buckets = λ f k g. bucket_starts (S.cap f) (S.pace f) 0 (came (empty S) (leg f k)) (λ u v. omega (arith, idle_sum (crossing (leg f k) u v) S.count));
  busy = λ p h. (0, omega arith, omega (arith, ap Port.finish (idle_at S.count p)));
  order = record { cross = (tt, none _); lined = λ p. subst (λ (y : Port). Pairs Same y.line) (sym (idle_at S.count p)) tt; queued = tt };
  kept = λ g. omega (arith, idle_sum (λ x. g x.flow x.name x.len) S.count);
  known = λ f n h. (tt, none _);
}
  where
    none : (Q : Traced → Type 0) (p : ℕ) → AllByRecursion Q (line_at (replicate S.count idle) p)
    none Q p = subst (λ (y : Port). AllByRecursion Q y.line) (sym (idle_at S.count p)) tt

pub run_inv : (S : System) → Sound S → (st : World) → Reaches S (empty S) st → Inv S st
run_inv S sound st Reaches.here = start_inv S
run_inv S sound st (Reaches.then {v = s} r step) = step_inv S sound s st step (run_inv S sound s r)

pub every_run : EveryRun
every_run S sound st r = lawful S sound st (run_inv S sound st r)

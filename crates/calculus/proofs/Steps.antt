-- Each step keeps the invariant.
use Rattle.std.proofs.Common.{◌≡◌, ℕ, ◌+◌, ◌-◌, ◌*◌, ◌<◌, ◌≤◌, Bool, true, false, List, [], ◌∷◌, ◌++◌, length, get_or, sym, ap, ◌∙◌, subst, arith}
use native.Mathlib.Decide.{ℕ_discrete}
use Rattle.std.proofs.ByRecursion.{All-push, All-weaker}
use Rattle.std.proofs.lemmas.List.{get_or-set_other, get_or-set_same, length-set}
use Rattle.std.specs.List.{AllByRecursion}
use Rattle.calculus.proofs.Buckets.{bucket_rises, bucket_same}
use Rattle.calculus.proofs.Entering.{Base, entering}
use Rattle.calculus.proofs.Hops.{bucket_waits}
use Rattle.calculus.proofs.Invariants.{Ahead, Cross, Inv, Lined, Loose, Ordered, Same, Seen, Way, Ways}
use Rattle.calculus.proofs.Lines.{all_popped, any_sum, at_port, every_sum, first_of, pop_sum, sum_zero}
use Rattle.calculus.proofs.Orders.{all_both, all_but, all_mid, free_ahead, free_behind, leave_order, without}
use Rattle.calculus.proofs.Ports.{busier}
use Rattle.calculus.proofs.Sums.{hit_in, total_below, total_push}
use Rattle.calculus.proofs.Visits.{only_le, only_other, only_same, only_zero, visit_at, visit_back, visit_early, visit_le, visit_none, visit_now}
use Rattle.calculus.proofs.Ways.{First, all_from_splits, base_le, base_regulated, find_first, mid_sum, spanned, ways_push}
use Rattle.calculus.specs.Laws.{Pairs}
use Rattle.calculus.specs.Ports.{Busy}
use Rattle.calculus.specs.Systems.{Apart, Blocked, Everywhere, Leg, Port, Sound, Step, System, Traced, World, arrived, bare, base, came, crossing, departed, entry, idle, joined, leg, line_at, popped, reach, sum_of, taken_in, ticked, visit}
use Rattle.calculus.specs.Windows.{Until, total}

-- a frame leaves a line with all that held of it
module _ (S : System) (sound : Sound S) (st : World) (inv : Inv S st) where
  accept_step : (f name len : ℕ) → 0 < S.hops f → len ≤ st.level f 0 → AllByRecursion (λ y. y.flow ≡ f → y.name < name) st.taken
      → Inv S (taken_in S st (bare f name len))
  accept_step f name len has free later = entering S sound st.now st.ports st.loose st.level (st.taken ++ x ∷ []) x base' kept known
    where
      x : Traced
      x = bare f name len

      none : (c : Leg) (u v : ℕ) → crossing c u v x ≡ 0
      none c u v = only_zero c.flow f _ (visit_none c.hop u v len [] (omega arith))

      young : Everywhere (λ y. y.flow ≡ f → y.name < name) st.ports st.loose
      young = inv.known f name later

      after : (y : Traced) → (y.flow ≡ f → y.name < name) → y.flow ≡ f → Ahead y x
      after y h e = record { named = h e; there = λ j l. absurd (omega arith); sooner = λ j l. absurd (omega arith) }

      base' : Base S st.now st.ports st.loose st.level x
      base' = record {
        size = inv.size;
        ways = inv.ways;
        seen = inv.seen;
        lines = inv.lines;
        held = inv.held;
        buckets = λ g k q. bucket_same (S.cap g) (S.pace g) st.now (st.level g k) (came st (leg g k))
            (λ u v. came st (leg g k) u v + crossing (leg g k) u v x) (λ u v. omega (arith, none (leg g k) u v)) (inv.buckets g k q);
        busy = λ p h. busier (S.rate p) (get_or st.ports p idle).finish st.now (S.users p) (came st)
            (λ c u v. came st c u v + crossing c u v x) (λ c u. omega arith) (inv.busy p h);
        order = inv.order;
        ahead = (
          All-weaker _ _ (λ y h e l. absurd (omega (arith, h.some))) st.loose inv.held,
          λ p. All-weaker _ _ (λ y h e l. absurd (omega (arith, h.some))) (line_at st.ports p) (inv.lines p),
        );
        behind = (All-weaker _ _ (λ y h e l. after y h e) st.loose young.0, λ p. All-weaker _ _ (λ y h e l. after y h e) (line_at st.ports p) (young.1 p));
        onward = λ k h. absurd (omega arith);
        before = λ k h. absurd (omega arith);
        room = has;
        bits = λ _. free;
      }

      kept : (g : ℕ → ℕ → ℕ → ℕ) → sum_of st.ports st.loose (λ y. g y.flow y.name y.len) + g f name len ≡ total
          (λ y. g y.flow y.name y.len) (st.taken ++ x ∷ [])
      kept g = omega (arith, inv.kept g, total_push (λ (y : Traced). g y.flow y.name y.len) st.taken x)

      known : (g n : ℕ) → AllByRecursion (λ y. y.flow ≡ g → y.name < n) (st.taken ++ x ∷ [])
          → Everywhere (λ y. y.flow ≡ g → y.name < n) st.ports st.loose × (f ≡ g → name < n)
      known g n h = (inv.known g n (front st.taken h), all_mid (λ y. y.flow ≡ g → y.name < n) st.taken x [] h)
        where
          front : (xs : List Traced) → AllByRecursion (λ y. y.flow ≡ g → y.name < n) (xs ++ x ∷ []) → AllByRecursion (λ y. y.flow ≡ g → y.name < n) xs
          front [] h = tt
          front (y ∷ ys) h = (h.0, front ys h.1)

  module _ (p : ℕ) (x : Traced) (rest : List Traced) (e : line_at st.ports p ≡ x ∷ rest) where
    whole : (g : Traced → ℕ) → sum_of (popped p rest st.ports) (st.loose ++ x ∷ []) g ≡ sum_of st.ports st.loose g
    whole g = omega (arith, pop_sum p x rest st.ports st.loose g e, total_push g st.loose x)

    finish_same : (r : ℕ) → (get_or (popped p rest st.ports) r idle).finish ≡ (get_or st.ports r idle).finish
    finish_same r =
        elim (ℕ_discrete r p) [
          | yes q ↦ ap (λ z. (get_or (popped p rest st.ports) z idle).finish) q
              ∙ ap Port.finish (get_or-set_same st.ports p _ idle (at_port st.ports p x rest e))
              ∙ ap (λ z. (get_or st.ports z idle).finish) (sym q)
          | no q ↦ ap Port.finish (get_or-set_other st.ports p r _ idle q)
        ]

    of : (Q : Traced → Type 0) → Everywhere Q st.ports st.loose → Everywhere Q (popped p rest st.ports) (st.loose ++ x ∷ [])
    of Q h = (All-push Q st.loose x h.0 (first_of (λ _. Q) st.ports h.1 p x rest e).0, all_popped (λ _. Q) st.ports h.1 p x rest e)

    ins : Lined S st.now p x
    ins = (first_of (Lined S st.now) st.ports inv.lines p x rest e).0

    ways_x : Ways S x.flow x.past
    ways_x = (first_of (λ _ y. Ways S y.flow y.past) st.ports inv.ways.1 p x rest e).0

    leave_step : entry x + S.least p + 1 ≤ st.now → Inv S (departed st p x rest)
    leave_step stayed = record {
      size = length-set st.ports p _ ∙ inv.size;
      ways = of (λ y. Ways S y.flow y.past) inv.ways;
      seen = of (λ y. Seen st.now y.past) inv.seen;
      lines = all_popped (Lined S st.now) st.ports inv.lines p x rest e;
      held = All-push (Loose S st.now) st.loose x inv.held (record { some = ins.some; along = ins.along; ready = ready });
      buckets = λ f k g. bucket_same (S.cap f) (S.pace f) st.now (st.level f k) (came st (leg f k)) (came (departed st p x rest) (leg f k))
          (λ u v. sym (whole (crossing (leg f k) u v))) (inv.buckets f k g);
      busy = λ r h. subst (λ F. Busy (S.rate r) F st.now (arrived S (departed st p x rest) r)) (sym (finish_same r))
          (busier (S.rate r) (get_or st.ports r idle).finish st.now (S.users r) (came st) (came (departed st p x rest))
          (λ c u. omega (arith, whole (crossing c u st.now))) (inv.busy r h));
      order = leave_order S st.now st.ports st.loose p x rest e inv.lines inv.order;
      kept = λ g. whole (λ y. g y.flow y.name y.len) ∙ inv.kept g;
      known = λ f n h. of (λ y. y.flow ≡ f → y.name < n) (inv.known f n h);
    }
      where
        ready : (k : ℕ) → k + 1 ≡ length x.past → k + 1 < S.hops x.flow
            → Way S x.flow k (get_or x.past (base S x.flow k) 0) (get_or x.past k 0) st.now
        ready k q room = record {
          low = subst (λ r. get_or x.past k 0 + S.least r + 1 ≤ st.now) (sym (ins.here k q))
              (subst (λ j. get_or x.past j 0 + S.least p + 1 ≤ st.now) last stayed);
          high = λ _. subst (λ r. st.now ≤ get_or x.past k 0 + S.stay r + 1) (sym (ins.here k q)) near;
          far = omega (
            arith,
            subst (λ r. st.now ≤ get_or x.past k 0 + S.stay r + 1) (sym (ins.here k q)) near,
            spanned S x.flow x.past ways_x k (omega arith),
          );
        }
          where
            last : length x.past - 1 ≡ k
            last = omega arith

            near : st.now ≤ get_or x.past k 0 + S.stay p + 1
            near = omega (arith, ins.waits, ins.served k q)

  join_step : (us : List Traced) (x : Traced) (vs : List Traced) → st.loose ≡ us ++ x ∷ vs → AllByRecursion (Apart x) us → length x.past < S.hops x.flow →
      (S.regulated x.flow (length x.past) ≡ true → x.len ≤ st.level x.flow (length x.past)) → Inv S (joined S st us x vs)
  join_step us x vs e apart room free = entering S sound st.now st.ports (us ++ vs) st.level st.taken x base' kept known
    where
      order' : Ordered st.ports (us ++ x ∷ vs)
      order' = subst (Ordered st.ports) e inv.order

      all : (Q : Traced → Type 0) → AllByRecursion Q st.loose → AllByRecursion Q (us ++ x ∷ vs)
      all Q h = subst (AllByRecursion Q) e h

      sums : (g : Traced → ℕ) → sum_of st.ports (us ++ vs) g + g x ≡ sum_of st.ports st.loose g
      sums g = omega (arith, mid_sum st.ports st.loose us x vs g e)

      ready : Loose S st.now x
      ready = all_mid (Loose S st.now) us x vs (all (Loose S st.now) inv.held)

      base' : Base S st.now st.ports (us ++ vs) st.level x
      base' = record {
        size = inv.size;
        ways = (all_but (λ y. Ways S y.flow y.past) us x vs (all (λ y. Ways S y.flow y.past) inv.ways.0), inv.ways.1);
        seen = (all_but (λ y. Seen st.now y.past) us x vs (all (λ y. Seen st.now y.past) inv.seen.0), inv.seen.1);
        lines = inv.lines;
        held = all_but (Loose S st.now) us x vs (all (Loose S st.now) inv.held);
        buckets = λ f k g. bucket_same (S.cap f) (S.pace f) st.now (st.level f k) (came st (leg f k))
            (λ u v. sum_of st.ports (us ++ vs) (crossing (leg f k) u v) + crossing (leg f k) u v x) (λ u v. sym (sums (crossing (leg f k) u v)))
            (inv.buckets f k g);
        busy = λ p h. busier (S.rate p) (get_or st.ports p idle).finish st.now (S.users p) (came st)
            (λ c u v. sum_of st.ports (us ++ vs) (crossing c u v) + crossing c u v x) (λ c u. omega (arith, sums (crossing c u st.now)))
            (inv.busy p h);
        order = without st.ports us x vs order';
        ahead = free_ahead st.ports us x vs apart order';
        behind = free_behind st.ports us x vs order';
        onward = ways_push S x.flow st.now x.past
            (all_mid (λ y. Ways S y.flow y.past) us x vs (all (λ y. Ways S y.flow y.past) inv.ways.0))
            (λ k q. ready.ready k q (omega (arith, room)));
        before = all_mid (λ y. Seen st.now y.past) us x vs (all (λ y. Seen st.now y.past) inv.seen.0);
        room = room;
        bits = free;
      }

      kept : (g : ℕ → ℕ → ℕ → ℕ) → sum_of st.ports (us ++ vs) (λ y. g y.flow y.name y.len) + g x.flow x.name x.len ≡ total
          (λ y. g y.flow y.name y.len) st.taken
      kept g = sums (λ y. g y.flow y.name y.len) ∙ inv.kept g

      known : (g n : ℕ) → AllByRecursion (λ y. y.flow ≡ g → y.name < n) st.taken
          → Everywhere (λ y. y.flow ≡ g → y.name < n) st.ports (us ++ vs) × (x.flow ≡ g → x.name < n)
      known g n h = let k : AllByRecursion (λ y. y.flow ≡ g → y.name < n) (us ++ x ∷ vs) = all (λ y. y.flow ≡ g → y.name < n) (inv.known g n h).0 in
          ((all_but (λ y. y.flow ≡ g → y.name < n) us x vs k, (inv.known g n h).1), all_mid (λ y. y.flow ≡ g → y.name < n) us x vs k)

  -- the first of its flow before a regulated hop, held back by its bucket: it has not been under way for too long
  held_back : (us : List Traced) (x : Traced) (vs : List Traced) → st.loose ≡ us ++ x ∷ vs → (k : ℕ) → k + 1 ≡ length x.past
      → S.regulated x.flow (k + 1) ≡ true → st.level x.flow (k + 1) < x.len →
      st.now < get_or x.past (base S x.flow k) 0 + reach S x.flow k
  held_back us x vs e k q g short =
      bucket_waits (S.cap f) (S.pace f) st.now (st.level f (k + 1)) X x.len t (came st (leg f (k + 1))) (came st (leg f j))
      (λ u n. (inv.buckets f j (base_regulated S sound.first f k)).conforms u n) own behind none (inv.buckets f (k + 1) g) short
    where
      f : ℕ
      f = x.flow

      j : ℕ
      j = base S x.flow k

      X : ℕ
      X = reach S x.flow k

      t : ℕ
      t = get_or x.past (base S x.flow k) 0

      j_le : j ≤ k
      j_le = base_le S x.flow k

      sums : (g : Traced → ℕ) → sum_of st.ports st.loose g ≡ sum_of st.ports (us ++ vs) g + g x
      sums g = mid_sum st.ports st.loose us x vs g e

      mine : (u : ℕ) (v : ℕ) → u ≤ t → t ≤ v → crossing (leg f j) u v x ≡ x.len
      mine u v a b = only_same f _ ∙ visit_at j u v x.len x.past (omega (arith, j_le)) ∙ hit_in u v t x.len a b

      own : x.len ≤ came st (leg f j) t (t + 0)
      own = omega (arith, sums (crossing (leg f j) t (t + 0)), mine t (t + 0) (omega arith) (omega arith))

      -- each other frame of the flow that has entered the hop came before
      before : (y : Traced) → Ways S y.flow y.past → (f ≡ y.flow → 2 * length x.past + 1 < 2 * length y.past + 1 → Ahead y x)
          → f ≡ y.flow → k + 1 < length y.past → (get_or y.past (k + 1) 0 ≤ get_or y.past j 0 + X) × (get_or y.past j 0 ≤ t)
      before y w a s l = ((subst (λ h. Ways S h y.past) (sym s) w k l).far, (a s (omega arith)).sooner j (omega (arith, j_le)))

      rows : Everywhere (λ y. (Ways S y.flow y.past) × (f ≡ y.flow → 2 * length x.past + 1 < 2 * length y.past + 1 → Ahead y x)) st.ports st.loose
      rows = (
        all_both _ _ _ (λ y a b. (a, λ s l. b (sym s) l)) st.loose inv.ways.0
            (All-weaker _ (λ y. Cross 1 1 y x) (λ y h. all_mid (Cross 1 1 y) us x vs (subst (AllByRecursion (Cross 1 1 y)) e h.0)) st.loose
            inv.order.cross.0),
        λ p. all_both _ _ _ (λ y a b. (a, λ s l. b (sym s) (omega arith))) (line_at st.ports p) (inv.ways.1 p)
            (All-weaker _ (λ y. Cross 0 1 y x) (λ y h. all_mid (Cross 0 1 y) us x vs (subst (AllByRecursion (Cross 0 1 y)) e h.0)) (line_at st.ports p)
            (inv.order.cross.1 p)),
      )

      rows' : (A : Traced → Type 0) → ((y : Traced)
          → (Ways S y.flow y.past) × (f ≡ y.flow → 2 * length x.past + 1 < 2 * length y.past + 1 → Ahead y x) → A y)
          → Everywhere A st.ports (us ++ vs)
      rows' A h = (all_but A us x vs (subst (AllByRecursion A) e (All-weaker _ _ h st.loose rows.0)), λ p. All-weaker _ _ h (line_at st.ports p) (rows.1 p))

      behind : (u : ℕ) → u - X ≤ t → came st (leg f (k + 1)) u st.now + x.len ≤ came st (leg f j) (u - X) t
      behind u h =
          omega (
            arith,
            sums (crossing (leg f (k + 1)) u st.now),
            sums (crossing (leg f j) (u - X) t),
            mine (u - X) t h (omega arith),
            only_zero f f _ (visit_none (k + 1) u st.now x.len x.past (omega arith)),
            every_sum (crossing (leg f (k + 1)) u st.now) (crossing (leg f j) (u - X) t) st.ports (us ++ vs)
                (rows' _ (λ y r. only_le f y.flow _ _
                (λ s. visit_back j (k + 1) u st.now X t y.len y.past (omega (arith, j_le)) (before y r.0 r.1 s)))),
          )

      none : (u : ℕ) → t + X < u → came st (leg f (k + 1)) u st.now ≡ 0
      none u h =
          omega (
            arith,
            sum_zero st.ports st.loose,
            every_sum (crossing (leg f (k + 1)) u st.now) (λ _. 0) st.ports st.loose
                (All-weaker _ _ early st.loose rows.0, λ p. All-weaker _ _ early (line_at st.ports p) (rows.1 p)),
          )
        where
          early : (y : Traced) → (Ways S y.flow y.past) × (f ≡ y.flow → 2 * length x.past + 1 < 2 * length y.past + 1 → Ahead y x)
              → crossing (leg f (k + 1)) u st.now y ≤ 0
          early y r =
              elim (ℕ_discrete f y.flow) [
                | yes s ↦ omega (
                  arith,
                  only_zero f y.flow _
                      (visit_early (k + 1) u st.now y.len y.past (λ l. omega (arith, before y r.0 r.1 s l))),
                )
                | no s ↦ omega (arith, only_other f y.flow (visit (k + 1) u st.now y.past y.len) s)
              ]

  tick_step : ((p : ℕ) → AllByRecursion (λ x. st.now ≤ x.due) (line_at st.ports p)) → Blocked S st → Inv S (ticked S st)
  tick_step served blocked = record {
    size = inv.size;
    ways = inv.ways;
    seen = (All-weaker _ _ later st.loose inv.seen.0, λ p. All-weaker _ _ later (line_at st.ports p) (inv.seen.1 p));
    lines = λ p. all_both _ _ _ (λ x a b. record { some = b.some; along = b.along; here = b.here; waits = omega arith; served = b.served })
        (line_at st.ports p) (served p) (inv.lines p);
    held = all_from_splits (Loose S (st.now + 1)) st.loose held';
    buckets = λ f k g. bucket_rises (S.cap f) (S.pace f) st.now (st.level f k) (came st (leg f k)) (til (leg f k)) (inv.buckets f k g);
    busy = λ p h. on p (inv.busy p h);
    order = inv.order;
    kept = inv.kept;
    known = inv.known;
  }
    where
      later : (x : Traced) → Seen st.now x.past → Seen (st.now + 1) x.past
      later x h k l = omega (arith, h k l)

      til : (c : Leg) → Until st.now (came st c)
      til c = record {
        ends = λ u v. every_sum (crossing c u v) (crossing c u st.now) st.ports st.loose
            (All-weaker _ _ (one u v) st.loose inv.seen.0, λ p. All-weaker _ _ (one u v) (line_at st.ports p) (inv.seen.1 p));
        next = wider;
        none = λ v. omega (
          arith,
          sum_zero st.ports st.loose,
          every_sum (crossing c (st.now + 1) v) (λ _. 0) st.ports st.loose
              (All-weaker _ _ (zero_at v) st.loose inv.seen.0, λ p. All-weaker _ _ (zero_at v) (line_at st.ports p) (inv.seen.1 p)),
        );
      }
        where
          one : (u v : ℕ) (y : Traced) → Seen st.now y.past → crossing c u v y ≤ crossing c u st.now y
          one u v y h = only_le c.flow y.flow _ _ (λ _. visit_now c.hop u v st.now y.len y.past h)

          zero_at : (v : ℕ) (y : Traced) → Seen st.now y.past → crossing c (st.now + 1) v y ≤ 0
          zero_at v y h = omega (arith, only_zero c.flow y.flow _ (visit_early c.hop (st.now + 1) v y.len y.past (λ l. omega (arith, h c.hop l))))

          wider : (u : ℕ) → came st c u st.now ≤ came st c u (st.now + 1)
          wider u = any_sum (crossing c u st.now) (crossing c u (st.now + 1)) st.ports st.loose
              (λ x. only_le c.flow x.flow _ _
              (λ _. visit_le c.hop u st.now u (st.now + 1) x.len x.past (omega arith) (omega arith)))

      on : (p : ℕ) → Busy (S.rate p) (get_or st.ports p idle).finish st.now (arrived S st p)
          → Busy (S.rate p) (get_or st.ports p idle).finish (st.now + 1) (arrived S st p)
      on p (u, le, f) = (
        u,
        omega arith,
        omega
            (arith, f, total_below (λ c. came st c u st.now) (λ c. came st c u (st.now + 1)) (S.users p) (λ c. (til c).next u)),
      )

      held' : (us : List Traced) (x : Traced) (vs : List Traced) → st.loose ≡ us ++ x ∷ vs → Loose S (st.now + 1) x
      held' us x vs e = record { some = old.some; along = old.along; ready = ready }
        where
          old : Loose S st.now x
          old = all_mid (Loose S st.now) us x vs (subst (AllByRecursion (Loose S st.now)) e inv.held)

          first : First (us ++ x ∷ vs) x
          first = find_first us x vs (subst (Pairs Same) e inv.order.queued)

          ready : (k : ℕ) → k + 1 ≡ length x.past → k + 1 < S.hops x.flow
              → Way S x.flow k (get_or x.past (base S x.flow k) 0) (get_or x.past k 0) (st.now + 1)
          ready k q room = record {
            low = omega (arith, (old.ready k q room).low);
            high = λ g. absurd (clash (sym regulated ∙ g));
            far = omega (arith, held_back first.us first.e first.vs (e ∙ first.split) k (q ∙ sym first.hop) regulated' short', sooner');
          }
            where
              clash : ◌≡◌ {A = Bool} true false → ⊥
              clash z = let n : ◌≡◌ {A = ℕ} 0 1 = cc in omega arith

              regulated : S.regulated x.flow (k + 1) ≡ true
              regulated = subst (λ n. S.regulated x.flow n ≡ true) (sym q) (blocked us x vs e (omega arith)).0

              regulated' : S.regulated first.e.flow (k + 1) ≡ true
              regulated' = subst (λ f. S.regulated f (k + 1) ≡ true) (sym first.flow) regulated

              short' : st.level first.e.flow (k + 1) < first.e.len
              short' = subst (λ n. st.level first.e.flow n < first.e.len) (first.hop ∙ sym q)
                  ((blocked first.us first.e first.vs (e ∙ first.split)
                  (subst (λ f. length first.e.past < S.hops f) (sym first.flow) (omega (arith, first.hop)))).1 first.apart)

              sooner' : get_or first.e.past (base S first.e.flow k) 0 + reach S first.e.flow k ≤ get_or x.past
                  (base S x.flow k) 0 + reach S x.flow k
              sooner' = subst (λ f. get_or first.e.past (base S f k) 0 + reach S f k ≤ get_or x.past (base S x.flow k) 0 + reach S x.flow k)
                  (sym first.flow) (omega (arith, first.sooner (base S x.flow k) (omega (arith, base_le S x.flow k))))

pub step_inv : (S : System) → Sound S → (s t : World) → Step S s t → Inv S s → Inv S t
step_inv S sound s t (Step.accepts f name len has free later) inv = accept_step S sound s inv f name len has free later
step_inv S sound s t (Step.leaves p x rest e stayed) inv = leave_step S sound s inv p x rest e stayed
step_inv S sound s t (Step.joins us x vs e apart room free) inv = join_step S sound s inv us x vs e apart room free
step_inv S sound s t (Step.ticks served blocked) inv = tick_step S sound s inv served blocked

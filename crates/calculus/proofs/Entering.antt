-- A frame enters the port of its next hop.
use Rattle.std.proofs.Common.{◌≡◌, ℕ, zero, suc, ◌+◌, ◌-◌, ◌*◌, ◌<◌, ◌≤◌, Bool, true, false, List, [], ◌∷◌, ◌++◌, length, get_or, sym, refl, ap, ◌∙◌, subst, le_of_mul-le-mul_right, add-one, arith}
use native.Mathlib.Decide.{ℕ_discrete}
use Rattle.std.proofs.ByRecursion.{All-weaker}
use Rattle.std.proofs.lemmas.List.{get_or_push, get_or-set_other, get_or-set_same, length_push, length-set}
use Rattle.std.specs.List.{AllByRecursion}
use Rattle.rounding.proofs.Ceilings.{up_covers}
use Rattle.rounding.specs.Quotients.{up}
use Rattle.calculus.proofs.Buckets.{bucket_passes, bucket_same}
use Rattle.calculus.proofs.Hops.{widens}
use Rattle.calculus.proofs.Invariants.{Ahead, Each, Inv, Lined, Loose, Ordered, Seen, Way, Ways}
use Rattle.calculus.proofs.Lines.{all_enter, any_sum, enter_sum, every_sum, total_more}
use Rattle.calculus.proofs.Orders.{enter_order}
use Rattle.calculus.proofs.Ports.{busier, port_enters, port_serves}
use Rattle.calculus.proofs.Sums.{hit_in, total_le}
use Rattle.calculus.proofs.Visits.{only_le, only_same, only_zero, seen_push, visit_grows, visit_le, visit_new, visit_none, visit_now, visit_step}
use Rattle.calculus.proofs.Ways.{crossing_other, paid_here, paid_other}
use Rattle.calculus.specs.Buckets.{Bucket}
use Rattle.calculus.specs.Hops.{Later, Widening}
use Rattle.calculus.specs.Ports.{Busy, finish_of}
use Rattle.calculus.specs.Systems.{Everywhere, Leg, Port, Sound, System, Traced, base, crossing, enter, idle, leg, line_at, paid, port_with, sum_of, visit, with_entry}
use Rattle.calculus.specs.Windows.{Conforms, affine, hit, total}

-- at each hop a flow conforms to its curve: by its bucket where it is regulated, elsewhere since a stay widens the curve of the hop before
pub conform : (S : System) → Sound S → (ports : List Port) (loose : List Traced) → Everywhere (λ x. Ways S x.flow x.past) ports loose
    → ((f k : ℕ) → S.regulated f k ≡ true → Conforms (λ u v. sum_of ports loose (crossing (leg f k) u v)) (affine (S.cap f) (S.pace f)))
    → (k f : ℕ) → k < S.hops f → Conforms (λ u v. sum_of ports loose (crossing (leg f k) u v)) (S.curve f k)
conform S sound ports loose ways buckets zero f lt = λ u n. omega (arith, buckets f 0 (sound.first f) u n, sound.shaped f 0 n (sound.first f))
conform S sound ports loose ways buckets (suc k) f lt = go (conform S sound ports loose ways buckets k f (omega arith)) (S.regulated f (suc k)) refl
  where
    W : ℕ → ℕ → ℕ → ℕ
    W k u v = sum_of ports loose (crossing (leg f k) u v)

    D : ℕ
    D = S.stay (S.route f k)

    m : ℕ
    m = S.least (S.route f k)

    step : S.regulated f (suc k) ≡ false → (u v : ℕ) (x : Traced) → Ways S x.flow x.past
        → crossing (leg f (suc k)) u v x ≤ crossing (leg f k) (u - (D + 1)) (v - (m + 1)) x
    step free u v x w =
        only_le f x.flow _ _ (λ e. rw (← (add-one k)) (visit_step k u v x.len m D x.past (λ h.
        let w' : Way S f k (get_or x.past (base S f k) 0) (get_or x.past k 0) (get_or x.past (k + 1) 0) = subst (λ g. Ways S g x.past) (sym e) w k h in
        (w'.low, w'.high (rw (add-one k) free)))))

    later : S.regulated f (suc k) ≡ false → Later m D (W k) (W (suc k))
    later free u v =
        every_sum (crossing (leg f (suc k)) u v) (crossing (leg f k) (u - (D + 1)) (v - (m + 1))) ports loose
        (All-weaker _ _ (step free u v) loose ways.0, λ p. All-weaker _ _ (step free u v) (line_at ports p) (ways.1 p))

    wide : Widening (W k)
    wide u v v' le =
        any_sum (crossing (leg f k) u v) (crossing (leg f k) u v') ports loose
        (λ x. only_le f x.flow _ _ (λ _. visit_le k u v u v' x.len x.past (omega arith) le))

    go : Conforms (W k) (S.curve f k) → (b : Bool) → S.regulated f (suc k) ≡ b → Conforms (W (suc k)) (S.curve f (suc k))
    go ih true e u n = omega (arith, buckets f (suc k) e u n, sound.shaped f (suc k) n e)
    go ih false e u n =
        omega (
          arith,
          widens (S.curve f k) m D (W k) (W (suc k)) (sound.ordered (S.route f k) (sound.placed f k (omega arith))) wide (later e) ih u n,
          rw (add-one k) at (sound.grows f k n (omega arith) (rw (add-one k) e)),
        )

-- so all that comes into a port stays below its burst and its rate
pub loaded : (S : System) → Sound S → (ports : List Port) (loose : List Traced) → Everywhere (λ x. Ways S x.flow x.past) ports loose
    → ((f k : ℕ) → S.regulated f k ≡ true → Conforms (λ u v. sum_of ports loose (crossing (leg f k) u v)) (affine (S.cap f) (S.pace f)))
    → (p : ℕ) → p < S.count → Conforms (λ u v. total (λ c. sum_of ports loose (crossing c u v)) (S.users p)) (affine (S.burst p) (S.rate p))
loaded S sound ports loose ways buckets p lt u n =
    omega (
      arith,
      sound.shared p n lt,
      total_le (λ c. sum_of ports loose (crossing c u (u + n))) (λ c. S.curve c.flow c.hop n) (S.users p)
          (All-weaker _ _ (λ c h. conform S sound ports loose ways buckets c.hop c.flow h u n) (S.users p) (sound.real p)),
    )

-- all but the frame x, which is about to enter the port of its next hop
pub record Base (S : System) (now : ℕ) (ports : List Port) (loose : List Traced) (level : ℕ → ℕ → ℕ) (x : Traced) : Type 0 where
  pub size : length ports ≡ S.count
  pub ways : Everywhere (λ y. Ways S y.flow y.past) ports loose
  pub seen : Everywhere (λ y. Seen now y.past) ports loose
  pub lines : (p : ℕ) → AllByRecursion (Lined S now p) (line_at ports p)
  pub held : AllByRecursion (Loose S now) loose
  pub buckets : (f k : ℕ) → S.regulated f k ≡ true
      → Bucket (S.cap f) (S.pace f) now (level f k) (λ u v. sum_of ports loose (crossing (leg f k) u v) + crossing (leg f k) u v x)
  pub busy : (p : ℕ) → p < S.count → Busy (S.rate p) (get_or ports p idle).finish now
      (λ u v. total (λ c. sum_of ports loose (crossing c u v) + crossing c u v x) (S.users p))
  pub order : Ordered ports loose
  pub ahead : Each (λ t y. x.flow ≡ y.flow → 2 * length y.past + t < 2 * length x.past + 2 → Ahead x y) ports loose
  pub behind : Each (λ t y. y.flow ≡ x.flow → 2 * length x.past + 1 < 2 * length y.past + t → Ahead y x) ports loose
  pub onward : Ways S x.flow (x.past ++ now ∷ [])
  pub before : Seen now x.past
  pub room : length x.past < S.hops x.flow
  pub bits : S.regulated x.flow (length x.past) ≡ true → x.len ≤ level x.flow (length x.past)

module _ (S : System) (sound : Sound S) (now : ℕ) (ports : List Port) (loose : List Traced) (level : ℕ → ℕ → ℕ) (taken : List Traced) (x : Traced)
    (b : Base S now ports loose level x) where
  q : ℕ
  q = S.route x.flow (length x.past)

  new : Traced
  new = with_entry S q now (get_or ports q idle).finish x

  ports' : List Port
  ports' = enter S q now x ports

  fits : q < length ports
  unfolding q
  fits = omega (arith, b.size, sound.placed x.flow (length x.past) b.room)

  inn : q < S.count
  unfolding q
  inn = sound.placed x.flow (length x.past) b.room

  ways' : Everywhere (λ y. Ways S y.flow y.past) ports' loose
  unfolding q ports' new
  ways' = (b.ways.0, all_enter (λ _ y. Ways S y.flow y.past) ports b.ways.1 S q now x fits b.onward)

  more : (c : Leg) (u v : ℕ) → sum_of ports' loose (crossing c u v) ≡ sum_of ports loose (crossing c u v) + crossing c u v new
  unfolding q ports' new
  more c u v = enter_sum S q now x ports loose (crossing c u v) fits

  each : (c : Leg) (u v : ℕ) → sum_of ports loose (crossing c u v) + crossing c u v x ≤ sum_of ports' loose (crossing c u v)
  unfolding new
  each c u v = omega (arith, more c u v, only_le c.flow x.flow _ _ (λ _. visit_grows c.hop u v x.len now x.past))

  here : (u v : ℕ) → sum_of ports' loose (crossing (leg x.flow (length x.past)) u v) ≡ sum_of ports loose
      (crossing (leg x.flow (length x.past)) u v) + crossing (leg x.flow (length x.past)) u v x + hit u v now x.len
  unfolding new
  here u v =
      omega (
        arith,
        more (leg x.flow (length x.past)) u v,
        only_zero x.flow x.flow _ (visit_none (length x.past) u v x.len x.past (omega arith)),
        only_same x.flow (visit (length x.past) u v (x.past ++ now ∷ []) x.len),
        visit_new (length x.past) u v x.len now x.past refl,
      )

  away : (c : Leg) → (c.flow ≡ x.flow → c.hop ≡ length x.past → ⊥) → (u v : ℕ)
      → sum_of ports loose (crossing c u v) + crossing c u v x ≡ sum_of ports' loose (crossing c u v)
  unfolding new
  away c n u v = omega (arith, more c u v, crossing_other S q now (get_or ports q idle).finish x c u v n)

  ends : (c : Leg) (u v : ℕ) → sum_of ports loose (crossing c u v) + crossing c u v x ≤ sum_of ports loose (crossing c u now) + crossing c u now x
  ends c u v = omega (
    arith,
    every_sum (crossing c u v) (crossing c u now) ports loose
        (All-weaker _ _ one loose b.seen.0, λ p. All-weaker _ _ one (line_at ports p) (b.seen.1 p)),
    one x b.before,
  )
    where
      one : (y : Traced) → Seen now y.past → crossing c u v y ≤ crossing c u now y
      one y h = only_le c.flow y.flow _ _ (λ _. visit_now c.hop u v now y.len y.past h)

  buckets' : (f k : ℕ) → S.regulated f k ≡ true → Bucket (S.cap f) (S.pace f) now (paid S x level f k) (λ u v. sum_of ports' loose (crossing (leg f k) u v))
  buckets' f k g = go (ℕ_discrete f x.flow) (ℕ_discrete k (length x.past))
    where
      other : (f ≡ x.flow → k ≡ length x.past → ⊥) → Bucket (S.cap f) (S.pace f) now (paid S x level f k) (λ u v. sum_of ports' loose (crossing (leg f k) u v))
      other n = subst (λ l. Bucket (S.cap f) (S.pace f) now l (λ u v. sum_of ports' loose (crossing (leg f k) u v)))
          (sym (paid_other S x level f k n)) (bucket_same _ _ _ _ (λ u v. sum_of ports loose (crossing (leg f k) u v) + crossing (leg f k) u v x)
          (λ u v. sum_of ports' loose (crossing (leg f k) u v)) (away (leg f k) n) (b.buckets f k g))

      own : S.regulated x.flow (length x.past) ≡ true
          → Bucket (S.cap x.flow) (S.pace x.flow) now (paid S x level x.flow (length x.past))
          (λ u v. sum_of ports' loose (crossing (leg x.flow (length x.past)) u v))
      own g = subst (λ l. Bucket (S.cap x.flow) (S.pace x.flow) now l
          (λ u v. sum_of ports' loose (crossing (leg x.flow (length x.past)) u v))) (sym (paid_here S x level g))
          (bucket_passes (S.cap x.flow) (S.pace x.flow) now (level x.flow (length x.past)) x.len
          (λ u v. sum_of ports loose (crossing (leg x.flow (length x.past)) u v) + crossing (leg x.flow (length x.past)) u v x)
          (λ u v. sum_of ports' loose (crossing (leg x.flow (length x.past)) u v)) (b.bits g)
          (ends (leg x.flow (length x.past))) here (b.buckets x.flow (length x.past) g))

      go : Dec (f ≡ x.flow) → Dec (k ≡ length x.past)
          → Bucket (S.cap f) (S.pace f) now (paid S x level f k) (λ u v. sum_of ports' loose (crossing (leg f k) u v))
      go (no n) _ = other (λ e _. n e)
      go (yes e) (no n) = other (λ _ e. n e)
      go (yes e) (yes e') =
          subst (λ k. Bucket (S.cap f) (S.pace f) now (paid S x level f k) (λ u v. sum_of ports' loose (crossing (leg f k) u v))) (sym e')
          (subst (λ f. Bucket (S.cap f) (S.pace f) now (paid S x level f (length x.past))
          (λ u v. sum_of ports' loose (crossing (leg f (length x.past)) u v))) (sym e)
          (own (subst (λ f. S.regulated f (length x.past) ≡ true) e (subst (λ k. S.regulated f k ≡ true) e' g))))

  M : ℕ → ℕ → ℕ → ℕ
  M p u v = total (λ c. sum_of ports' loose (crossing c u v)) (S.users p)

  busy_here : Busy (S.rate q) (finish_of (S.rate q) (get_or ports q idle).finish now x.len) now (M q)
  unfolding q M
  busy_here =
      port_enters (S.rate q) (get_or ports q idle).finish now x.len
      (λ u v. total (λ c. sum_of ports loose (crossing c u v) + crossing c u v x) (S.users q)) (M q)
      (λ u h. total_more (λ c. sum_of ports loose (crossing c u now) + crossing c u now x) (λ c. sum_of ports' loose (crossing c u now))
      (leg x.flow (length x.past)) (S.users q) x.len (λ c. each c u now)
      (omega (arith, here u now, hit_in u now now x.len h (omega arith))) (sound.used x.flow (length x.past) b.room))
      (b.busy q (sound.placed x.flow (length x.past) b.room))

  busy' : (p : ℕ) → p < S.count → Busy (S.rate p) (get_or ports' p idle).finish now (M p)
  unfolding ports' M
  busy' p h =
      elim (ℕ_discrete p q) [
        | yes e ↦ subst (λ r. Busy (S.rate r) (get_or ports' r idle).finish now (M r)) (sym e)
            (subst (λ (y : Port). Busy (S.rate q) y.finish now (M q))
            (sym (get_or-set_same ports q (port_with S q now x (get_or ports q idle)) idle fits)) busy_here)
        | no e ↦ subst (λ (y : Port). Busy (S.rate p) y.finish now (M p)) (sym (get_or-set_other ports q p (port_with S q now x (get_or ports q idle)) idle e))
            (busier (S.rate p) (get_or ports p idle).finish now (S.users p) (λ c u v. sum_of ports loose (crossing c u v) + crossing c u v x)
            (λ c u v. sum_of ports' loose (crossing c u v)) (λ c u. each c u now) (b.busy p h))
      ]

  soon : up (finish_of (S.rate q) (get_or ports q idle).finish now x.len) (S.rate q) + S.latency q ≤ now + S.stay q
  unfolding M q ports'
  soon = omega (
    arith,
    sound.covers q inn,
    (port_serves (S.rate q) (S.latency q) (S.burst q) (finish_of (S.rate q) (get_or ports q idle).finish now x.len) now (M q)
        (sound.fed q inn) (loaded S sound ports' loose ways' (λ f k g. (buckets' f k g).conforms) q inn) busy_here).1,
  )

  lined_new : Lined S now q new
  unfolding new q
  lined_new = record {
    some = omega (arith, length_push x.past now);
    along = omega (arith, length_push x.past now, b.room);
    here = λ k e. ap (S.route x.flow) (omega (arith, length_push x.past now));
    waits = omega (
      arith,
      le_of_mul-le-mul_right {m = now} {n = up F (S.rate q)} {k = S.rate q}
          (omega (arith, up_covers F (S.rate q) (sound.fed q inn))) (sound.fed q inn),
    );
    served = λ k e. omega (arith, soon, get_or_push x.past now 0 k (omega (arith, length_push x.past now)));
  }
    where
      F : ℕ
      F = finish_of (S.rate q) (get_or ports q idle).finish now x.len

  pub entering : ((g : ℕ → ℕ → ℕ → ℕ) → sum_of ports loose (λ y. g y.flow y.name y.len) + g x.flow x.name x.len ≡ total
      (λ y. g y.flow y.name y.len) taken) →
      ((f n : ℕ) → AllByRecursion (λ y. y.flow ≡ f → y.name < n) taken → Everywhere (λ y. y.flow ≡ f → y.name < n) ports loose × (x.flow ≡ f → x.name < n)) →
      Inv S (record { now = now; ports = enter S (S.route x.flow (length x.past)) now x ports; loose = loose; level = paid S x level; taken = taken })
  unfolding ports' q new M
  entering kept known = record {
    size = length-set ports q _ ∙ b.size;
    ways = ways';
    seen = (b.seen.0, all_enter (λ _ y. Seen now y.past) ports b.seen.1 S q now x fits (seen_push now x.past b.before));
    lines = all_enter (Lined S now) ports b.lines S q now x fits lined_new;
    held = b.held;
    buckets = buckets';
    busy = busy';
    order = enter_order S now ports loose q x fits b.seen b.ahead b.behind b.order;
    kept = λ g. enter_sum S q now x ports loose (λ y. g y.flow y.name y.len) fits ∙ kept g;
    known = λ f n h. ((known f n h).0.0, all_enter (λ _ y. y.flow ≡ f → y.name < n) ports (known f n h).0.1 S q now x fits (known f n h).1);
  }

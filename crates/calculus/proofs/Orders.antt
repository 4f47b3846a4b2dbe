-- The order of the frames of a flow, as one of them moves on.
use Rattle.std.proofs.Common.{◌≡◌, ℕ, ◌+◌, ◌-◌, ◌*◌, ◌<◌, List, [], ◌∷◌, ◌++◌, length, get_or, sym, ap, ◌∙◌, subst, arith}
use native.Mathlib.Decide.{dec_lt, ℕ_discrete}
use Rattle.std.proofs.ByRecursion.{All-push, All-weaker}
use Rattle.std.proofs.lemmas.List.{get_or_append_left, get_or_push, length_push}
use Rattle.std.specs.List.{AllByRecursion}
use Rattle.calculus.proofs.Invariants.{Ahead, Cross, Each, Lined, Ordered, Same, Seen}
use Rattle.calculus.proofs.Lines.{all_enter, all_popped, at_port, first_of, line_other, line_same}
use Rattle.calculus.specs.Laws.{Pairs}
use Rattle.calculus.specs.Systems.{Apart, Everywhere, Port, System, Traced, enter, idle, line_at, popped, with_entry}

pub all_both : {X : Type 0} (A B C : X → Type 0) → ((x : X) → A x → B x → C x) → (xs : List X) → AllByRecursion A xs → AllByRecursion B xs → AllByRecursion C xs
all_both A B C f [] a b = tt
all_both A B C f (x ∷ xs) a b = (f x a.0 b.0, all_both A B C f xs a.1 b.1)

pub all_but : {X : Type 0} (A : X → Type 0) (us : List X) (x : X) (vs : List X) → AllByRecursion A (us ++ x ∷ vs) → AllByRecursion A (us ++ vs)
all_but A [] x vs h = h.1
all_but A (u ∷ us) x vs h = (h.0, all_but A us x vs h.1)

pub all_mid : {X : Type 0} (A : X → Type 0) (us : List X) (x : X) (vs : List X) → AllByRecursion A (us ++ x ∷ vs) → A x
all_mid A [] x vs h = h.0
all_mid A (u ∷ us) x vs h = all_mid A us x vs h.1

pub pairs_but : (R : Traced → Traced → Type 0) (us : List Traced) (x : Traced) (vs : List Traced) → Pairs R (us ++ x ∷ vs) → Pairs R (us ++ vs)
pairs_but R [] x vs h = h.1
pairs_but R (u ∷ us) x vs h = (all_but (R u) us x vs h.0, pairs_but R us x vs h.1)

pub pairs_push : (R : Traced → Traced → Type 0) (xs : List Traced) (y : Traced) → Pairs R xs → AllByRecursion (λ x. R x y) xs → Pairs R (xs ++ y ∷ [])
pairs_push R [] y h k = (tt, tt)
pairs_push R (x ∷ xs) y h k = (All-push (R x) xs y h.0 k.0, pairs_push R xs y h.1 k.1)

-- of a list, what stands apart from x in front of it, and in order behind it
pub around : (x : Traced) (us vs : List Traced) → AllByRecursion (Apart x) us → Pairs Same (us ++ x ∷ vs) → AllByRecursion (Same x) (us ++ vs)
around x [] vs a h = h.0
around x (u ∷ us) vs a h = ((λ e l. absurd (a.0 e l)), around x us vs a.1 h.1)

-- the first of a line becomes loose
pub leave_order : (S : System) (now : ℕ) (ports : List Port) (loose : List Traced) (p : ℕ) (x : Traced) (rest : List Traced) → line_at ports p ≡ x ∷ rest →
    ((r : ℕ) → AllByRecursion (Lined S now r) (line_at ports r)) → Ordered ports loose → Ordered (popped p rest ports) (loose ++ x ∷ [])
leave_order S now ports loose p x rest e lines o = record {
  cross = (
    All-push (λ y. Each (λ t z. Cross 1 t y z) ports' loose') loose x (all_both _ _ _ (λ y a b. with_x 1 y a b) loose o.cross.0 to_x_loose) self,
    all_popped (λ _ y. Each (λ t z. Cross 0 t y z) ports' loose') ports
        (λ r. all_both _ _ _ (λ y a b. with_x 0 y a b) (line_at ports r) (o.cross.1 r) (to_x_lines r)) p x rest e,
  );
  lined = lined';
  queued = pairs_push Same loose x o.queued (All-weaker _ _ (λ y h q l. h q (omega arith)) loose old_loose);
}
  where
    ports' : List Port
    ports' = popped p rest ports

    loose' : List Traced
    loose' = loose ++ x ∷ []

    ins : Lined S now p x
    ins = (first_of (Lined S now) ports lines p x rest e).0

    -- y against x, as it was
    old_loose : AllByRecursion (λ y. Cross 1 0 y x) loose
    old_loose = All-weaker _ _ (λ y h. (subst (AllByRecursion (Cross 1 0 y)) e (h.1 p)).0) loose o.cross.0

    to_x_loose : AllByRecursion (λ y. Cross 1 1 y x) loose
    to_x_loose = All-weaker _ _ (λ y h q l. h q (omega arith)) loose old_loose

    to_x_lines : (r : ℕ) → AllByRecursion (λ y. Cross 0 1 y x) (line_at ports r)
    to_x_lines r = All-weaker _ _ (λ y h q l. (subst (AllByRecursion (Cross 0 0 y)) e (h.1 p)).0 q (omega arith)) (line_at ports r) (o.cross.1 r)

    with_x : (s : ℕ) (y : Traced) → Each (λ t z. Cross s t y z) ports loose → Cross s 1 y x → Each (λ t z. Cross s t y z) ports' loose'
    with_x s y h k = (All-push (Cross s 1 y) loose x h.0 k, all_popped (λ _ z. Cross s 0 y z) ports h.1 p x rest e)

    x_row : Each (λ t z. Cross 0 t x z) ports loose
    x_row = (first_of (λ _ y. Each (λ t z. Cross 0 t y z) ports loose) ports o.cross.1 p x rest e).0

    -- x against what is left in a line
    x_lines : (r : ℕ) → AllByRecursion (λ z. Cross 1 0 x z) (line_at ports' r)
    x_lines r =
        elim (ℕ_discrete r p) [
          | yes q ↦ subst (λ r. AllByRecursion (λ z. Cross 1 0 x z) (line_at ports' r)) (sym q)
              (subst (AllByRecursion (λ z. Cross 1 0 x z)) (sym (line_same ports p _ (at_port ports p x rest e))) behind)
          | no q ↦ subst (AllByRecursion (λ z. Cross 1 0 x z)) (sym (line_other ports p r _ q)) (all_both _ _ _ (elsewhere q) (line_at ports r) (lines r) (x_row.1 r))
        ]
      where
        behind : AllByRecursion (λ z. Cross 1 0 x z) rest
        behind = all_both (Same x) (Cross 0 0 x) _
            (λ z a b q l. elim (dec_lt (length z.past) (length x.past)) [ yes lt ↦ b q (omega arith) | no ge ↦ a q (omega arith) ]) rest
            (subst (Pairs Same) e (o.lined p)).0 (subst (AllByRecursion (Cross 0 0 x)) e (x_row.1 p)).1

        elsewhere : (r ≡ p → ⊥) → (z : Traced) → Lined S now r z → Cross 0 0 x z → Cross 1 0 x z
        elsewhere away z a b q l =
            elim (dec_lt (length z.past) (length x.past)) [
              | yes lt ↦ b q (omega arith)
              | no ge ↦ absurd (away (sym (a.here (length z.past - 1) (omega (arith, a.some)))
                  ∙ ap (λ f. S.route f (length z.past - 1)) (sym q) ∙ ins.here (length z.past - 1) (omega (arith, a.some, ins.some))))
            ]

    self : Each (λ t z. Cross 1 t x z) ports' loose'
    self = (All-push (Cross 1 1 x) loose x (All-weaker _ _ (λ z h q l. h q (omega arith)) loose x_row.0) (λ q l. absurd (omega arith)), x_lines)

    lined' : (r : ℕ) → Pairs Same (line_at ports' r)
    lined' r =
        elim (ℕ_discrete r p) [
          | yes q ↦ subst (λ r. Pairs Same (line_at ports' r)) (sym q)
              (subst (Pairs Same) (sym (line_same ports p _ (at_port ports p x rest e))) (subst (Pairs Same) e (o.lined p)).1)
          | no q ↦ subst (Pairs Same) (sym (line_other ports p r _ q)) (o.lined r)
        ]

module _ (S : System) (q now F : ℕ) (x : Traced) where
  ahead_new : (y : Traced) → Ahead x y → Ahead (with_entry S q now F x) y
  ahead_new y a = record {
    named = a.named;
    there = λ j h. omega (arith, length_push x.past now, a.there j h);
    sooner = λ j h. rw (get_or_append_left x.past (now ∷ []) 0 j (a.there j h)) (a.sooner j h);
  }

  ahead_of_new : (y : Traced) → Seen now y.past → length x.past < length y.past → Ahead y x → Ahead y (with_entry S q now F x)
  ahead_of_new y seen farther a = record {
    named = a.named;
    there = λ j h. omega (arith, length_push x.past now);
    sooner = λ j h. elim (dec_lt j (length x.past)) [
      | yes l ↦ rw (get_or_append_left x.past (now ∷ []) 0 j l) (a.sooner j l)
      | no l ↦ rw (get_or_push x.past now 0 j (omega (arith, length_push x.past now))) (seen j (omega (arith, length_push x.past now)))
    ];
  }

-- a frame enters a line
pub enter_order : (S : System) (now : ℕ) (ports : List Port) (loose : List Traced) (q : ℕ) (x : Traced) → q < length ports
    → Everywhere (λ y. Seen now y.past) ports loose →
    Each (λ t y. x.flow ≡ y.flow → 2 * length y.past + t < 2 * length x.past + 2 → Ahead x y) ports loose →
    Each (λ t y. y.flow ≡ x.flow → 2 * length x.past + 1 < 2 * length y.past + t → Ahead y x) ports loose →
    Ordered ports loose → Ordered (enter S q now x ports) loose
enter_order S now ports loose q x fits seen ahead behind o = record {
  cross = (
    all_both _ _ _ (λ y a b. with_new 1 y a b) loose o.cross.0 to_loose,
    all_enter (λ _ y. Each (λ t z. Cross 0 t y z) ports' loose) ports
        (λ r. all_both _ _ _ (λ y a b. with_new 0 y a b) (line_at ports r) (o.cross.1 r) (to_lines r)) S q now x fits self,
  );
  lined = lined';
  queued = o.queued;
}
  where
    F : ℕ
    F = (get_or ports q idle).finish

    new : Traced
    new = with_entry S q now F x

    ports' : List Port
    ports' = enter S q now x ports

    more : length new.past ≡ length x.past + 1
    more = length_push x.past now

    to_loose : AllByRecursion (λ y. Cross 1 0 y new) loose
    to_loose = all_both _ _ _ (λ y a b e l. ahead_of_new S q now F x y a (omega (arith, more)) (b e (omega (arith, more)))) loose seen.0 behind.0

    to_lines : (r : ℕ) → AllByRecursion (λ y. Cross 0 0 y new) (line_at ports r)
    to_lines r = all_both _ _ _ (λ y a b e l. ahead_of_new S q now F x y a (omega (arith, more)) (b e (omega (arith, more)))) (line_at ports r)
        (seen.1 r) (behind.1 r)

    with_new : (s : ℕ) (y : Traced) → Each (λ t z. Cross s t y z) ports loose → Cross s 0 y new → Each (λ t z. Cross s t y z) ports' loose
    with_new s y h k = (h.0, all_enter (λ _ z. Cross s 0 y z) ports h.1 S q now x fits k)

    self : Each (λ t z. Cross 0 t new z) ports' loose
    self = (
      All-weaker _ _ (λ z h e l. ahead_new S q now F x z (h e (omega (arith, more)))) loose ahead.0,
      all_enter (λ _ z. Cross 0 0 new z) ports
          (λ r. All-weaker _ _ (λ z h e l. ahead_new S q now F x z (h e (omega (arith, more)))) (line_at ports r) (ahead.1 r)) S q now x fits
          (λ e l. absurd (omega arith)),
    )

    lined' : (r : ℕ) → Pairs Same (line_at ports' r)
    lined' r =
        elim (ℕ_discrete r q) [
          | yes e ↦ subst (λ r. Pairs Same (line_at ports' r)) (sym e)
              (subst (Pairs Same) (sym (line_same ports q _ fits)) (pairs_push Same (line_at ports q) new (o.lined q)
              (all_both _ _ _ (λ y a b e l. ahead_of_new S q now F x y a (omega (arith, more)) (b e (omega (arith, more)))) (line_at ports q)
              (seen.1 q) (behind.1 q))))
          | no e ↦ subst (Pairs Same) (sym (line_other ports q r _ e)) (o.lined r)
        ]

-- one of the loose frames, the first of its flow at its hop, is taken away
pub without : (ports : List Port) (us : List Traced) (x : Traced) (vs : List Traced) → Ordered ports (us ++ x ∷ vs) → Ordered ports (us ++ vs)
without ports us x vs o = record {
  cross = (
    all_but _ us x vs (All-weaker _ (λ y. Each (λ t z. Cross 1 t y z) ports (us ++ vs)) (λ y h. (all_but _ us x vs h.0, h.1)) (us ++ x ∷ vs) o.cross.0),
    λ r. All-weaker _ _ (λ y h. (all_but _ us x vs h.0, h.1)) (line_at ports r) (o.cross.1 r),
  );
  lined = o.lined;
  queued = pairs_but Same us x vs o.queued;
}

pub free_ahead : (ports : List Port) (us : List Traced) (x : Traced) (vs : List Traced) → AllByRecursion (Apart x) us → Ordered ports (us ++ x ∷ vs) →
    Each (λ t y. x.flow ≡ y.flow → 2 * length y.past + t < 2 * length x.past + 2 → Ahead x y) ports (us ++ vs)
free_ahead ports us x vs apart o = (
  all_both (Same x) (Cross 1 1 x) _ (λ y a b e l. elim
      (dec_lt (length y.past) (length x.past)) [ yes lt ↦ b e (omega arith) | no ge ↦ a e (omega arith) ]) (us ++ vs)
      (around x us vs apart o.queued) (all_but _ us x vs row.0),
  λ r. All-weaker _ _ (λ y b e l. b e (omega arith)) (line_at ports r) (row.1 r),
)
  where
    row : Each (λ t z. Cross 1 t x z) ports (us ++ x ∷ vs)
    row = all_mid _ us x vs o.cross.0

pub free_behind : (ports : List Port) (us : List Traced) (x : Traced) (vs : List Traced) → Ordered ports (us ++ x ∷ vs) →
    Each (λ t y. y.flow ≡ x.flow → 2 * length x.past + 1 < 2 * length y.past + t → Ahead y x) ports (us ++ vs)
free_behind ports us x vs o = (
  all_but _ us x vs (All-weaker _ (λ y. y.flow ≡ x.flow → 2 * length x.past + 1 < 2 * length y.past + 1 → Ahead y x)
      (λ y h. all_mid (Cross 1 1 y) us x vs h.0) (us ++ x ∷ vs) o.cross.0),
  λ r. All-weaker _ _ (λ y h e l. all_mid (Cross 0 1 y) us x vs h.0 e (omega arith)) (line_at ports r) (o.cross.1 r),
)

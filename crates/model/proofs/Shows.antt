-- A state of the network shows a world of the calculus, which a run of the calculus reaches.
use Rattle.std.proofs.Common.{◌≡◌, ℕ, zero, suc, ◌+◌, ◌-◌, ◌*◌, ◌<◌, ◌≤◌, max, true, ◌&&◌, ltb, leb, List, [], ◌∷◌, ◌++◌, map, length, get_or, sym, ap, ◌∙◌, subst, ap₂, mul-le-mul, le_of_mul-le-mul_right, arith}
use native.Mathlib.Decide.{ℕ_discrete}
use Rattle.std.proofs.ByRecursion.{All-map}
use Rattle.std.proofs.lemmas.List.{get_or_append_left, get_or_push, get_or-set_other, get_or-set_same, length-map, length_push, map-append}
use Rattle.std.proofs.lemmas.Bool.Decides.{nat_tests}
use Rattle.std.specs.List.{AllByRecursion}
use Rattle.rounding.proofs.Ceilings.{up_covers}
use Rattle.rounding.specs.Quotients.{up}
use Rattle.draft.specs.Plans.{port_at}
use Rattle.draft.specs.declared.parts.Parts.{Parts}
use Rattle.draft.specs.declared.table.Table.{Table}
use Rattle.plan.specs.Limits.{Kept}
use Rattle.table.specs.Accepts.{Accepted}
use Rattle.service.specs.declared.frame.Frame.{Frame}
use Rattle.calculus.proofs.Invariants.{Inv}
use Rattle.calculus.proofs.Laws.{run_inv}
use Rattle.calculus.proofs.Lines.{all_enter, line_other, line_same}
use Rattle.calculus.proofs.Orders.{all_mid}
use Rattle.calculus.proofs.Ways.{paid_here, paid_other}
use Rattle.calculus.specs.Ports.{finish_of}
use Rattle.calculus.specs.Systems.{Apart, Port, Reaches, Step, Traced, World, empty, enter, idle, joined, line_at, paid, with_entry}
use Rattle.model.proofs.Bounds.{Size, all_sized, finish_low, in_size, line_few}
use Rattle.model.proofs.Cells.{dec_both, with_at_other, with_at_same}
use Rattle.model.proofs.Picks.{Found, Uncons, erase, find, loose_at, uncons}
use Rattle.model.proofs.Plans.{fine}
use Rattle.model.proofs.Soundness.{bucketed, load_few, sound, system_of}
use Rattle.model.specs.Networks.{State, finish_with, gated, hops_of, lets_in, levelled, next, placed, route, stamped}
use Rattle.model.specs.Runs.{at_hop}

pub record Shows (P : Parts) (t : Table) (st : State) (pending : ℕ → ℕ → List Frame) (w : World) : Type 0 where
  pub run : Reaches (system_of P t) (empty (system_of P t)) w
  pub slot : w.now ≡ st.slot
  pub soon : st.slot ≤ 1000000000000
  pub finish : (p : ℕ) → (get_or w.ports p idle).finish ≡ st.finish p
  pub line : (p : ℕ) → map erase (line_at w.ports p) ≡ st.line p
  pub level : (f k : ℕ) → levelled P f k ≡ true → w.level f k ≡ st.level f k
  pub loose : (f k : ℕ) → suc k < hops_of P f → map erase (loose_at f (suc k) w.loose) ≡ pending f (suc k)
  pub sized : AllByRecursion (λ y. in_size P y.flow y.len ≡ true) w.taken
  pub prompt : (p : ℕ) → AllByRecursion (λ x. w.now ≤ x.due) (line_at w.ports p)

-- before a hop stand the frames at its regulator, and behind them those of the tray that come to it
abbrev pub pend : (ℕ → ℕ → List Frame) → List Frame → ℕ → ℕ → List Frame
pend waiting ts f zero = waiting f zero
pend waiting ts f (suc k) = waiting f (suc k) ++ at_hop f k ts

-- a frame enters a port: both sides
module _ (P : Parts) (t : Table) (st : State) (w : World) (slot : w.now ≡ st.slot) (finishes : (p : ℕ) → (get_or w.ports p idle).finish ≡ st.finish p)
    (lines : (p : ℕ) → map erase (line_at w.ports p) ≡ st.line p) (y : Traced) (o e d : ℕ) (org : get_or (y.past ++ w.now ∷ []) 0 0 ≡ o)
    (inn : route P y.flow (length y.past) < length w.ports) where
  abbrev q : ℕ
  q = route P y.flow (length y.past)

  abbrev x : Frame
  x = record { flow = y.flow; hop = length y.past; len = y.len; origin = o; entry = e; due = d }

  new_finish : finish_of (port_at P q).rate (get_or w.ports q idle).finish w.now y.len ≡ finish_with P st q y.len
  new_finish = λ i. max (finishes q i) (slot i * (port_at P q).rate) + y.len

  same_new : erase (with_entry (system_of P t) q w.now (get_or w.ports q idle).finish y) ≡ stamped P st x
  same_new = λ i. record {
    flow = y.flow;
    hop = hop_eq i;
    len = y.len;
    origin = org i;
    entry = entry_eq i;
    due =
        up (new_finish i) (port_at P q).rate + (port_at P q).latency;
  }
    where
      hop_eq : length (y.past ++ w.now ∷ []) - 1 ≡ length y.past
      hop_eq = omega (arith, length_push y.past w.now)

      entry_eq : get_or (y.past ++ w.now ∷ []) (length (y.past ++ w.now ∷ []) - 1) 0 ≡ st.slot
      entry_eq = get_or_push y.past w.now 0 (length (y.past ++ w.now ∷ []) - 1) (sym hop_eq) ∙ slot

  pub enter_finish : (p : ℕ) → (get_or (enter (system_of P t) q w.now y w.ports) p idle).finish ≡ (placed P st x).finish p
  enter_finish p =
      elim (ℕ_discrete p q) [
        | yes z ↦ subst (λ r. (get_or (enter (system_of P t) q w.now y w.ports) r idle).finish ≡ (placed P st x).finish r) (sym z)
            (ap Port.finish (get_or-set_same w.ports q _ idle inn) ∙ new_finish ∙ sym (with_at_same q (finish_with P st q y.len) st.finish))
        | no z ↦ ap Port.finish (get_or-set_other w.ports q p _ idle z) ∙ finishes p ∙ sym (with_at_other q (finish_with P st q y.len) st.finish p z)
      ]

  pub enter_line : (p : ℕ) → map erase (line_at (enter (system_of P t) q w.now y w.ports) p) ≡ (placed P st x).line p
  enter_line p =
      elim (ℕ_discrete p q) [
        | yes z ↦ subst (λ r. map erase (line_at (enter (system_of P t) q w.now y w.ports) r) ≡ (placed P st x).line r) (sym z)
            (ap (map erase) (line_same w.ports q _ inn) ∙ map-append erase (line_at w.ports q) _ ∙ ap₂ (λ a b. a ++ b ∷ []) (lines q) same_new
            ∙ sym (with_at_same q (st.line q ++ stamped P st x ∷ []) st.line))
        | no z ↦ ap (map erase) (line_other w.ports q p _ z) ∙ lines p ∙ sym (with_at_other q (st.line q ++ stamped P st x ∷ []) st.line p z)
      ]

  pub enter_prompt : 0 < (port_at P q).rate → ((p : ℕ) → AllByRecursion (λ x. w.now ≤ x.due) (line_at w.ports p)) → (p : ℕ)
      → AllByRecursion (λ x. w.now ≤ x.due) (line_at (enter (system_of P t) q w.now y w.ports) p)
  enter_prompt pos h = all_enter (λ _ x. w.now ≤ x.due) w.ports h (system_of P t) q w.now y inn
      (omega (
        arith,
        le_of_mul-le-mul_right {m = w.now} {n = up F (port_at P q).rate} {k = (port_at P q).rate}
            (omega (arith, up_covers F (port_at P q).rate pos)) pos,
      ))
    where
      F : ℕ
      F = finish_of (port_at P q).rate (get_or w.ports q idle).finish w.now y.len

abbrev pub with_level : State → (ℕ → ℕ → ℕ) → (ℕ → ℕ → List Frame) → State
with_level st level waiting = record { slot = st.slot; finish = st.finish; line = st.line; level = level; waiting = waiting }

lets_yes : (p c n F l s : ℕ) → p < c → l ≤ s → s ≤ 100000 → n < 32 → F ≤ 20000000000000000
    → (ltb p c && ((leb l s && leb s 100000) && (ltb n 32 && leb F 20000000000000000))) ≡ true
lets_yes p c n F l s z a b c' d = grind (arith, nat_tests)

module _ (P : Parts) (t : Table) (kept : Kept P) (ok : Accepted P t) where
  pub inv_of : (st : State) (pending : ℕ → ℕ → List Frame) (w : World) → Shows P t st pending w → Inv (system_of P t) w
  inv_of st pending w sh = run_inv (system_of P t) (sound P t kept ok) w sh.run

  enter_one : (st : State) (pending : ℕ → ℕ → List Frame) (w : World) → Shows P t st pending w → (us : List Traced) (y : Traced) (vs : List Traced)
      → w.loose ≡ us ++ y ∷ vs → AllByRecursion (Apart y) us → (k : ℕ) → length y.past ≡ suc k → suc k < hops_of P y.flow →
      (level' : ℕ → ℕ → ℕ) (waiting' pending' : ℕ → ℕ → List Frame) →
      (gated P y.flow (suc k) ≡ true → y.len ≤ st.level y.flow (suc k)) →
      (gated P y.flow (suc k) ≡ true → level' y.flow (suc k) ≡ st.level y.flow (suc k) - y.len) →
      ((g j : ℕ) → (g ≡ y.flow → j ≡ suc k → ⊥) → level' g j ≡ st.level g j) →
      ((g j : ℕ) → suc j < hops_of P g → map erase (loose_at g (suc j) (us ++ vs)) ≡ pending' g (suc j)) →
      Shows P t (placed P (with_level st level' waiting') (next (erase y))) pending' (joined (system_of P t) w us y vs)
  enter_one st pending w sh us y vs e apart k made room level' waiting' pending' has pays same left =
      subst (λ n. Shows P t (placed P (with_level st level' waiting')
      (record {
        flow = y.flow;
        hop = n;
        len = y.len;
        origin = get_or y.past 0 0;
        entry = get_or y.past (length y.past - 1) 0;
        due =
            y.due;
      })) pending' (joined (system_of P t) w us y vs)) hop_eq
      (record {
        run = Reaches.then sh.run (Step.joins us y vs e apart room'
            (λ g. subst (λ n. y.len ≤ w.level y.flow n) (sym made)
            (subst (λ n. y.len ≤ n) (sym (sh.level y.flow (suc k) (regulates g))) (has (regulates g)))));
        slot = sh.slot;
        soon = sh.soon;
        finish = enter_finish P t (with_level st level' waiting') w sh.slot sh.finish sh.line y (get_or y.past 0 0)
            (get_or y.past (length y.past - 1) 0) y.due org inn;
        line = enter_line P t (with_level st level' waiting') w sh.slot sh.finish sh.line y (get_or y.past 0 0)
            (get_or y.past (length y.past - 1) 0) y.due org inn;
        level = levels;
        loose = left;
        sized = sh.sized;
        prompt = enter_prompt P t (with_level st level' waiting') w sh.slot sh.finish sh.line y (get_or y.past 0 0) 0 0 org inn
            (kept.ports _ inp).rate_least sh.prompt;
      })
    where
      hop_eq : length y.past ≡ suc (length y.past - 1)
      hop_eq = omega arith

      room' : length y.past < hops_of P y.flow
      room' = omega arith

      inp : route P y.flow (length y.past) < P.size.ports
      inp = (sound P t kept ok).placed y.flow (length y.past) room'

      inn : route P y.flow (length y.past) < length w.ports
      inn = omega (arith, inp, (inv_of st pending w sh).size)

      org : get_or (y.past ++ w.now ∷ []) 0 0 ≡ get_or y.past 0 0
      org = get_or_append_left y.past (w.now ∷ []) 0 0 (omega arith)

      regulates : bucketed P y.flow (length y.past) ≡ true → gated P y.flow (suc k) ≡ true
      regulates g = subst (λ n. bucketed P y.flow n ≡ true) made g

      levels : (g j : ℕ) → levelled P g j ≡ true → paid (system_of P t) y w.level g j ≡ level' g j
      levels g j gt =
          elim (dec_both g y.flow j (length y.past)) [
            | yes z ↦ ap₂ (paid (system_of P t) y w.level) z.0 z.1
                ∙ paid_here (system_of P t) y w.level (subst (λ n. bucketed P y.flow n ≡ true) (sym made) (here z))
                ∙ ap (λ n. w.level y.flow n - y.len) made
                ∙ ap (λ n. n - y.len) (sh.level y.flow (suc k) (here z)) ∙ sym (pays (here z)) ∙ sym (ap₂ level' z.0 (z.1 ∙ made))
            | no z ↦ paid_other (system_of P t) y w.level g j (λ a b. z (a, b)) ∙ sh.level g j gt ∙ sym (same g j (λ a b. z (a, b ∙ sym made)))
          ]
        where
          here : (g ≡ y.flow) × (j ≡ length y.past) → gated P y.flow (suc k) ≡ true
          here z = subst (λ n. levelled P y.flow n ≡ true) (z.1 ∙ made) (subst (λ h. levelled P h j ≡ true) z.0 gt)

  -- the first frame before a hop enters it
  pub enters : (st : State) (pending : ℕ → ℕ → List Frame) (w : World) → Shows P t st pending w
      → (f k : ℕ) (x : Frame) (rest : List Frame) (level' : ℕ → ℕ → ℕ) (waiting' pending' : ℕ → ℕ → List Frame) →
      suc k < hops_of P f → pending f (suc k) ≡ x ∷ rest →
      (gated P f (suc k) ≡ true → x.len ≤ st.level f (suc k)) → (gated P f (suc k) ≡ true → level' f (suc k) ≡ st.level f (suc k) - x.len) →
      ((g j : ℕ) → (g ≡ f → j ≡ suc k → ⊥) → level' g j ≡ st.level g j) →
      pending' f (suc k) ≡ rest → ((g j : ℕ) → (g ≡ f → j ≡ suc k → ⊥) → pending' g j ≡ pending g j) →
      (w' : World) × Shows P t (placed P (with_level st level' waiting') (next x)) pending' w'
  enters st pending w sh f k x rest level' waiting' pending' room e has pays same left others =
      go (uncons (loose_at f (suc k) w.loose) x rest (sh.loose f k room ∙ e))
    where
      go : Uncons (loose_at f (suc k) w.loose) x rest → (w' : World) × Shows P t (placed P (with_level st level' waiting') (next x)) pending' w'
      go u = (
        joined (system_of P t) w r.us u.head r.vs,
        subst (λ z. Shows P t (placed P (with_level st level' waiting') (next z)) pending' (joined (system_of P t) w r.us u.head r.vs)) u.first
            (enter_one st pending w sh r.us u.head r.vs r.split r.apart k r.made
            (subst (λ g. suc k < hops_of P g) (sym fl) room) level' waiting' pending'
            (λ g. subst (λ g. u.head.len ≤ st.level g (suc k)) (sym fl)
            (subst (λ n. n ≤ st.level f (suc k)) (sym len) (has (subst (λ g. gated P g (suc k) ≡ true) fl g))))
            (λ g. subst (λ h. level' h (suc k) ≡ st.level h (suc k) - u.head.len) (sym fl)
            (subst (λ n. level' f (suc k) ≡ st.level f (suc k) - n) (sym len) (pays (subst (λ g. gated P g (suc k) ≡ true) fl g))))
            (λ g j h. same g j (λ a b. h (a ∙ sym fl) b))
            loose'),
      )
        where
          r : Found f (suc k) w.loose u.head u.tail
          r = find f (suc k) w.loose u.head u.tail u.whole

          fl : u.head.flow ≡ f
          fl = r.flow

          len : u.head.len ≡ x.len
          len = ap Frame.len u.first

          loose' : (g j : ℕ) → suc j < hops_of P g → map erase (loose_at g (suc j) (r.us ++ r.vs)) ≡ pending' g (suc j)
          loose' g j h =
              elim (dec_both g f (suc j) (suc k)) [
                | yes z ↦ ap₂ (λ a b. map erase (loose_at a b (r.us ++ r.vs))) z.0 z.1 ∙ ap (map erase) r.left ∙ u.rest ∙ sym left
                    ∙ sym (ap₂ pending' z.0 z.1)
                | no z ↦ ap (map erase) (r.others g (suc j) (λ a b. z (a, b))) ∙ sh.loose g j h ∙ sym (others g (suc j) (λ a b. z (a, b)))
              ]

  -- and the port lets it in
  pub let_in : (st : State) (pending : ℕ → ℕ → List Frame) (w : World) (x : Frame) → Shows P t (placed P st x) pending w
      → x.hop < hops_of P x.flow → lets_in P st (route P x.flow x.hop) x.len ≡ true
  let_in st pending w x sh room =
      lets_yes q P.size.ports (length (st.line q)) (finish_with P st q x.len) (port_at P q).shortest x.len inn
      (omega (arith, (fine P kept x.flow size.known).long x.hop room, size.low))
      (omega (arith, size.high, (fine P kept x.flow size.known).figures.longest_most))
      (omega (
        arith,
        line_few P t kept ok w sh.run sh.prompt q inn sh.sized,
        length-map (line_at w.ports q) erase,
        ap length there,
        length_push (st.line q) (stamped P st x),
      ))
      (omega (
        arith,
        finish_low P t kept ok w sh.run q inn,
        sh.finish q,
        with_at_same q (finish_with P st q x.len) st.finish,
        load_few P t kept ok q,
        (kept.ports q inn).rate_most,
        sh.slot,
        sh.soon,
        mul-le-mul {n₁ = w.now} {m₁ = (port_at P q).rate} {n₂ = 1000000000000} {m₂ = 10000} (omega (arith, sh.slot, sh.soon)) (kept.ports q inn).rate_most,
      ))
    where
      q : ℕ
      q = route P x.flow x.hop

      inn : route P x.flow x.hop < P.size.ports
      inn = (sound P t kept ok).placed x.flow x.hop room

      there : map erase (line_at w.ports q) ≡ st.line q ++ stamped P st x ∷ []
      there = sh.line q ∙ with_at_same q (st.line q ++ stamped P st x ∷ []) st.line

      size : Size P x.flow x.len
      size = all_mid (λ y. Size P y.flow y.len) (st.line q) (stamped P st x) [] (subst (AllByRecursion (λ y. Size P y.flow y.len)) there
          (All-map (λ y. Size P y.flow y.len) erase (line_at w.ports q)
          ((all_sized P (system_of P t) w (run_inv (system_of P t) (sound P t kept ok) w sh.run) sh.sized).1 q)))

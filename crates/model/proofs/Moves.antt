-- The start, an offer, and the turn of a slot with what the ports hand over, each as steps of the calculus.
use Rattle.std.proofs.Common.{◌≡◌, ℕ, zero, suc, ◌+◌, ◌-◌, ◌<◌, ◌≤◌, min, Bool, true, cond, List, [], ◌∷◌, ◌++◌, map, length, get_or, sym, refl, ap, ◌∙◌, subst, ap₂, append_assoc, append-nil, arith}
use native.Mathlib.Decide.{dec_lt, ℕ_discrete}
use Rattle.std.proofs.lemmas.List.Elements.{filter-append}
use Rattle.std.proofs.ByRecursion.{All-push, All-weaker}
use Rattle.std.proofs.lemmas.List.{get_or_past, get_or-set_other, get_or-set_same, length-set, map-append}
use Rattle.std.proofs.lemmas.Bool.{lt-ltb}
use Rattle.std.proofs.lemmas.Bool.Decides.{nat_tests}
use Rattle.std.specs.List.{AllByRecursion}
use Rattle.draft.specs.Plans.{flow_at, port_at}
use Rattle.draft.specs.declared.parts.Parts.{Parts}
use Rattle.draft.specs.declared.table.Table.{Table}
use Rattle.plan.specs.Limits.{Kept}
use Rattle.table.specs.Accepts.{Accepted}
use Rattle.table.specs.Loads.{delay}
use Rattle.service.specs.declared.frame.Frame.{Frame}
use Rattle.calculus.proofs.Handing.{hands_over, run_after}
use Rattle.calculus.proofs.Invariants.{Loose}
use Rattle.calculus.proofs.Laws.{run_inv}
use Rattle.calculus.proofs.Lines.{idle_at, line_other, line_same}
use Rattle.calculus.proofs.Orders.{all_mid}
use Rattle.calculus.proofs.Ways.{paid_here, paid_other}
use Rattle.calculus.specs.Systems.{Apart, Blocked, Port, Reaches, Step, Traced, World, bare, empty, entry, idle, line_at, paid, popped, taken_in, ticked}
use Rattle.calculus.specs.Windows.{total}
use Rattle.model.proofs.Bounds.{in_size}
use Rattle.model.proofs.Cells.{dec_both, with_cell_other, with_cell_same}
use Rattle.model.proofs.Picks.{Split, all_back, all_unmap, among, erase, loose_at, loose_erase, nil_cons, same_head, some_there, splits}
use Rattle.model.proofs.Plans.{fine}
use Rattle.model.proofs.Shows.{Shows, enter_finish, enter_line, enter_prompt, inv_of, pend}
use Rattle.model.proofs.Soundness.{bucketed, sound, system_of}
use Rattle.model.specs.Networks.{Handed, State, fresh, gated, gather, hops_of, levelled, offered, offers, risen, route, spend, tray, with_cell}
use Rattle.model.specs.Runs.{at_hop, told}

-- a regulator whose level does not cover its first frame
abbrev pub Stuck : Parts → State → ℕ → ℕ → List Frame → Type 0
Stuck P st f k [] = Unit {0}
Stuck P st f k (x ∷ xs) = (gated P f k ≡ true) × (st.level f k < x.len)

abbrev pub Settled : Parts → State → Type 0
Settled P st = (f k : ℕ) → suc k < hops_of P f → Stuck P st f (suc k) (st.waiting f (suc k))

no_front : (xs ys : List Frame) → ◌≡◌ {A = List Frame} [] (xs ++ ys) → ys ≡ []
no_front [] ys e = sym e
no_front (x ∷ xs) ys e = nil_cons x (xs ++ ys) e

name_for : List Traced → ℕ
name_for xs = total (λ y. y.name + 1) xs

names_below : (f : ℕ) (b : ℕ) (xs : List Traced) → name_for xs ≤ b → AllByRecursion (λ y. y.flow ≡ f → y.name < b) xs
unfolding name_for
names_below f b [] h = tt
names_below f b (x ∷ xs) h = ((λ e. omega arith), names_below f b xs (omega arith))

pub record Told (P : Parts) (st : State) (f n : ℕ) : Type 0 where
  pub known : f < P.size.flows
  pub low : (flow_at P f).shortest ≤ n
  pub high : n ≤ (flow_at P f).longest
  pub covered : n ≤ st.level f 0

pub offer_tells : (P : Parts) (st : State) (f n : ℕ) → offers P st f n ≡ true → Told P st f n
offer_tells P st f n e = record { known = grind (arith, nat_tests); low = grind (arith, nat_tests); high = grind (arith, nat_tests); covered = grind (arith, nat_tests) }

size_yes : (P : Parts) (f n : ℕ) → f < P.size.flows → (flow_at P f).shortest ≤ n → n ≤ (flow_at P f).longest → in_size P f n ≡ true
size_yes P f n a b c = grind (arith, nat_tests)

module _ (P : Parts) (t : Table) (kept : Kept P) (ok : Accepted P t) where
  pub start_shows : Shows P t (fresh P) (pend (λ f k. []) []) (empty (system_of P t))
  start_shows = record {
    run = Reaches.here;
    slot = refl;
    soon = omega arith;
    finish = λ p. ap Port.finish (idle_at P.size.ports p);
    line = λ p. ap (λ (q : Port). map erase q.line) (idle_at P.size.ports p);
    level = λ f k g. sym (ap (λ (b : Bool). cond b (flow_at P f).burst 0) g);
    loose = λ f k h. refl;
    sized = tt;
    prompt = λ p. subst (λ (q : Port). AllByRecursion (λ x. 0 ≤ x.due) q.line) (sym (idle_at P.size.ports p)) tt;
  }

  pub offer_shows : (st : State) (w : World) → Shows P t st (pend st.waiting []) w → (f n : ℕ) → Told P st f n
      → (w' : World) × Shows P t (offered P st f n) (pend st.waiting []) w'
  offer_shows st w sh f n told = (
    taken_in (system_of P t) w y,
    record {
      run = Reaches.then sh.run (Step.accepts f (name_for w.taken) n (fine P kept f told.known).some
          (subst (λ l. n ≤ l) (sym (sh.level f 0 (lt-ltb f P.size.flows told.known))) told.covered)
          (names_below f (name_for w.taken) w.taken (omega arith)));
      slot = sh.slot;
      soon = sh.soon;
      finish = enter_finish P t (spend f 0 n st) w sh.slot sh.finish sh.line y st.slot 0 0 sh.slot inn;
      line = enter_line P t (spend f 0 n st) w sh.slot sh.finish sh.line y st.slot 0 0 sh.slot inn;
      level = levels;
      loose = sh.loose;
      sized = All-push (λ y. in_size P y.flow y.len ≡ true) w.taken y sh.sized (size_yes P f n told.known told.low told.high);
      prompt = enter_prompt P t (spend f 0 n st) w sh.slot sh.finish sh.line y st.slot 0 0 sh.slot inn (kept.ports _ inp).rate_least sh.prompt;
    },
  )
    where
      y : Traced
      y = bare f (name_for w.taken) n

      inp : route P f 0 < P.size.ports
      inp = (sound P t kept ok).placed f 0 (fine P kept f told.known).some

      inn : route P f 0 < length w.ports
      inn = omega (arith, inp, (inv_of P t kept ok st (pend st.waiting []) w sh).size)

      levels : (g j : ℕ) → levelled P g j ≡ true → paid (system_of P t) y w.level g j ≡ with_cell f 0 (st.level f 0 - n) st.level g j
      levels g j gt =
          elim (dec_both g f j 0) [
            | yes z ↦ ap₂ (paid (system_of P t) y w.level) z.0 z.1 ∙ paid_here (system_of P t) y w.level refl
                ∙ ap (λ l. l - n) (sh.level f 0 (lt-ltb f P.size.flows told.known)) ∙ sym (with_cell_same f 0 (st.level f 0 - n) st.level)
                ∙ sym (ap₂ (with_cell f 0 (st.level f 0 - n) st.level) z.0 z.1)
            | no z ↦ paid_other (system_of P t) y w.level g j (λ a b. z (a, b)) ∙ sh.level g j gt
                ∙ sym (with_cell_other f 0 (st.level f 0 - n) st.level g j (λ a b. z (a, b)))
          ]

  -- a slot may end: what is loose is out or held back
  blocked : (st : State) (w : World) → Shows P t st (pend st.waiting []) w → Settled P st → Blocked (system_of P t) w
  blocked st w sh settled us x vs e room = go (st.waiting x.flow (suc k)) refl (settled x.flow k (omega (arith, made)))
    where
      k : ℕ
      k = length x.past - 1

      some : 0 < length x.past
      some = (all_mid (Loose (system_of P t) w.now) us x vs
          (subst (AllByRecursion (Loose (system_of P t) w.now)) e (inv_of P t kept ok st (pend st.waiting []) w sh).held)).some

      made : length x.past ≡ suc k
      made = omega (arith, some)

      shown : map erase (loose_at x.flow (suc k) (us ++ x ∷ vs)) ≡ st.waiting x.flow (suc k)
      shown = ap (λ l. map erase (loose_at x.flow (suc k) l)) (sym e) ∙ sh.loose x.flow k (omega (arith, made)) ∙ append-nil (st.waiting x.flow (suc k))

      go : (ws : List Frame) → st.waiting x.flow (suc k) ≡ ws → Stuck P st x.flow (suc k) ws
          → (bucketed P x.flow (length x.past) ≡ true) × (AllByRecursion (Apart x) us → w.level x.flow (length x.past) < x.len)
      go [] q s = absurd (some_there us x vs
          (none (loose_at x.flow (length x.past) (us ++ x ∷ vs)) (ap (λ n. map erase (loose_at x.flow n (us ++ x ∷ vs))) made ∙ shown ∙ q)))
        where
          none : (xs : List Traced) → map erase xs ≡ [] → xs ≡ []
          none [] z = refl
          none (y ∷ ys) z = nil_cons (erase y) (map erase ys) (sym z)
      go (y ∷ ys) q s = (
        subst (λ n. bucketed P x.flow n ≡ true) (sym made) s.0,
        λ apart. subst (λ n. w.level x.flow n < x.len) (sym made)
            (omega (
              arith,
              s.1,
              sh.level x.flow (suc k) s.0,
              ap Frame.len (same_head (erase x) y _ ys (ap (map erase) (sym (among us x vs x.flow (suc k) refl made apart)) ∙ shown ∙ q)),
            )),
      )

  -- the ports below n have handed over their fronts
  record Handing (w : World) (n : ℕ) (taken rest : ℕ → List Frame) : Type 0 where
    web : World
    run : Reaches (system_of P t) w web
    now : web.now ≡ w.now
    level : (f k : ℕ) → web.level f k ≡ w.level f k
    same : web.taken ≡ w.taken
    finishes : (p : ℕ) → (get_or web.ports p idle).finish ≡ (get_or w.ports p idle).finish
    fronts : (p : ℕ) → p < n → map erase (line_at web.ports p) ≡ rest p
    backs : (p : ℕ) → n ≤ p → line_at web.ports p ≡ line_at w.ports p
    size : length web.ports ≡ length w.ports
    extra : List Traced
    loose : web.loose ≡ w.loose ++ extra
    extras : map erase extra ≡ gather n taken

  handing : (w : World) (s : ℕ) (taken rest : ℕ → List Frame) → w.now ≡ s + 1 → ((p : ℕ) → map erase (line_at w.ports p) ≡ taken p ++ rest p)
      → ((p : ℕ) → AllByRecursion (λ x. x.entry + (port_at P p).stay ≤ s) (taken p)) →
      (n : ℕ) → n ≤ length w.ports → Handing w n taken rest
  handing w s taken rest nw lines stay zero h =
      record {
        web = w;
        run = Reaches.here;
        now = refl;
        level = λ f k. refl;
        same = refl;
        finishes = λ p. refl;
        fronts = λ p l. absurd (omega arith);
        backs = λ p l. refl;
        size = refl;
        extra = [];
        loose = sym (append-nil w.loose);
        extras = refl;
      }
  handing w s taken rest nw lines stay (suc n) h = more (handing w s taken rest nw lines stay n (omega arith))
    where
      more : Handing w n taken rest → Handing w (suc n) taken rest
      more r = from (splits (line_at r.web.ports n) (taken n) (rest n) (ap (map erase) (r.backs n (omega arith)) ∙ lines n))
        where
          inn : n < length r.web.ports
          inn = omega (arith, r.size)

          from : Split (line_at r.web.ports n) (taken n) (rest n) → Handing w (suc n) taken rest
          from d = record {
            web = record {
              now = r.web.now;
              ports = popped n d.back r.web.ports;
              loose = r.web.loose ++ d.front;
              level = r.web.level;
              taken = r.web.taken;
            };
            run = run_after (system_of P t) w r.web _ r.run (hands_over (system_of P t) r.web n d.front d.back d.whole stays);
            now = r.now;
            level = r.level;
            same = r.same;
            finishes = λ p. elim (ℕ_discrete p n) [
              | yes e ↦ ap (λ i. (get_or (popped n d.back r.web.ports) i idle).finish) e
                  ∙ ap Port.finish (get_or-set_same r.web.ports n _ idle inn) ∙ ap (λ i. (get_or r.web.ports i idle).finish) (sym e)
                  ∙ r.finishes p
              | no e ↦ ap Port.finish (get_or-set_other r.web.ports n p _ idle e) ∙ r.finishes p
            ];
            fronts = λ p l. elim (ℕ_discrete p n) [
              | yes e ↦ ap (λ i. map erase (line_at (popped n d.back r.web.ports) i)) e ∙ ap (map erase) (line_same r.web.ports n _ inn)
                  ∙ d.backs ∙ ap rest (sym e)
              | no e ↦ ap (map erase) (line_other r.web.ports n p _ e) ∙ r.fronts p (omega arith)
            ];
            backs = λ p l. line_other r.web.ports n p _ (λ e. omega arith) ∙ r.backs p (omega arith);
            size = length-set r.web.ports n _ ∙ r.size;
            extra = r.extra ++ d.front;
            loose = ap (λ l. l ++ d.front) r.loose ∙ append_assoc w.loose r.extra d.front;
            extras = map-append erase r.extra d.front ∙ ap₂ (λ a b. a ++ b) r.extras d.fronts;
          }
            where
              stays : AllByRecursion (λ x. entry x + min (port_at P n).stay (delay P t n) + 1 ≤ r.web.now) d.front
              stays = All-weaker _ _ (λ x a. omega (arith, a, r.now, nw)) d.front
                  (all_unmap (λ x. x.entry + (port_at P n).stay ≤ s) erase d.front
                  (subst (AllByRecursion (λ x. x.entry + (port_at P n).stay ≤ s)) (sym d.fronts) (stay n)))

  pub turn : (st : State) (w : World) → Shows P t st (pend st.waiting []) w → Settled P st → (taken rest : ℕ → List Frame)
      → st.slot < 1000000000000 → Handed P st taken rest →
      (w' : World) × Shows P t (risen P rest st) (pend st.waiting (tray P taken)) w'
  turn st w sh settled taken rest before hd = (
    r.web,
    record {
      run = run';
      slot = r.now ∙ ap (λ n. n + 1) sh.slot;
      soon = omega arith;
      finish = λ p. r.finishes p ∙ sh.finish p;
      line = lines;
      level = λ f k g. r.level f k ∙ ap (λ l. min (flow_at P f).burst (l + (flow_at P f).rate)) (sh.level f k g)
          ∙ sym (ap (λ (b : Bool). cond b (min (flow_at P f).burst (st.level f k + (flow_at P f).rate)) (st.level f k)) g);
      loose = λ f k h. ap (λ l. map erase (loose_at f (suc k) l)) r.loose ∙ ap (map erase) (filter-append _ w.loose r.extra)
          ∙ map-append erase (loose_at f (suc k) w.loose) (loose_at f (suc k) r.extra)
          ∙ ap₂ (λ a b. a ++ b) (sh.loose f k h ∙ append-nil (st.waiting f (suc k))) (loose_erase f k r.extra old ∙ ap (at_hop f k) (trays r.extras));
      sized = subst (AllByRecursion (λ y. in_size P y.flow y.len ≡ true)) (sym r.same) sh.sized;
      prompt = λ p. All-weaker _ _ (λ x a. omega (arith, a, r.now, sh.slot)) (line_at r.web.ports p)
          (all_unmap (λ x. st.slot < x.due) erase (line_at r.web.ports p)
          (subst (AllByRecursion (λ x. st.slot < x.due)) (sym (lines p)) (hd.kept p)));
    },
  )
    where
      w₁ : World
      w₁ = ticked (system_of P t) w

      size : length w.ports ≡ P.size.ports
      size = (inv_of P t kept ok st (pend st.waiting []) w sh).size

      r : Handing w₁ (length w.ports) taken rest
      r = handing w₁ st.slot taken rest (ap (λ n. n + 1) sh.slot) (λ p. sh.line p ∙ hd.split p) hd.stayed (length w.ports) (omega arith)

      trays : map erase r.extra ≡ gather (length w.ports) taken → map erase r.extra ≡ gather P.size.ports taken
      trays e = e ∙ ap (λ n. gather n taken) size

      run' : Reaches (system_of P t) (empty (system_of P t)) r.web
      run' = run_after (system_of P t) (empty (system_of P t)) w₁ r.web (Reaches.then sh.run (Step.ticks sh.prompt (blocked st w sh settled))) r.run

      old : AllByRecursion (λ x. 0 < length x.past) r.extra
      old = all_back _ w.loose r.extra
          (subst (AllByRecursion (λ x. 0 < length x.past)) r.loose
          (All-weaker _ _ (λ x a. a.some) r.web.loose (run_inv (system_of P t) (sound P t kept ok) r.web run').held))

      lines : (p : ℕ) → map erase (line_at r.web.ports p) ≡ rest p
      lines p =
          elim (dec_lt p (length w.ports)) [
            | yes l ↦ r.fronts p l
            | no l ↦ ap (map erase) (r.backs p (omega arith)) ∙ gone (omega arith)
                ∙ sym (no_front (taken p) (rest p) (sym (gone (omega arith)) ∙ sh.line p ∙ hd.split p))
          ]
        where
          gone : length w.ports ≤ p → map erase (line_at w.ports p) ≡ []
          gone l = ap (λ (q : Port). map erase q.line) (get_or_past w.ports p idle l)

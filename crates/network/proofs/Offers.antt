-- An offer, once the flow's own tests have passed: the port's word is the network's.
use Rattle.std.proofs.Common.{◌≡◌, ℕ, zero, suc, ◌-◌, ◌<◌, ◌≤◌, min, Bool, true, false, cond, ◌&&◌, ltb, leb, List, length, get_or, set, is_ok, Ok, Err, Result, sym, refl, ap, ◌∙◌, arith}
use native.Mathlib.Decide.{ℕ_discrete}
use Rattle.std.proofs.lemmas.List.{get_or-set_other, get_or-set_same}
use Rattle.std.proofs.lemmas.Bool.{and_from, cond-true, le-leb, lt-ltb, ltb-true}
use Rattle.refusal.specs.Firsts.{and_then}
use Rattle.draft.specs.Plans.{flow_at, port_at}
use Rattle.draft.specs.declared.parts.Parts.{Parts}
use Rattle.draft.specs.declared.port.Port.{Port}
use Rattle.service.specs.Entries.{finish_after, finish_fits, has_room, length_fits}
use Rattle.service.specs.declared.frame.Frame.{Frame}
use Rattle.cabinet.specs.Faults as cabinets
use Rattle.cabinet.specs.Model.{Model, port_in, with_port}
use Rattle.cabinet.specs.Puts.{line_answer, lined, put_after, put_answer}
use Rattle.cabinet.specs.declared.fault.CabinetFault.{CabinetFault}
use Rattle.regulator.specs.declared.regulator.Regulator.{Regulator}
use Rattle.model.proofs.Cells.{with_cell_other, with_cell_same}
use Rattle.model.specs.Networks.{finish_with, new_frame, offered, placed, route, with_cell}
use Rattle.network.specs.Faults.{unless}
use Rattle.network.specs.Offers.{entry_answer, offer_after, offer_answer, turned_away}
use Rattle.network.specs.Views.{Net, level_in, seen, state_in}
use Rattle.network.specs.declared.fault.NetworkFault.{NetworkFault}
use Rattle.network.specs.declared.fault.NetworkFault.TheVariants.{Closed, Full, Finish, Length, Level, NoFlow}
use Rattle.network.proofs.Puts.{figures_seen, put_fits, put_shows, seen_kept}

-- the cabinet's answer in the network's words
abbrev pub entry_by : ℕ → Result (Unit {0}) CabinetFault → Result (Unit {0}) NetworkFault
entry_by f (Ok u) = Ok u
entry_by f (Err e) = Err (turned_away f e)

pub entry_is : (P : Parts) (m : Model) (ls : List ℕ) (rs : List Regulator) (f n : ℕ)
    → entry_by f (put_answer m (route P f 0) (new_frame (state_in P m ls rs) f n)) ≡ entry_answer (seen P m) (state_in P m ls rs) f n
entry_is P m ls rs f n = go (ltb p (length m.ports)) refl
  where
    p : ℕ
    p = route P f 0

    tests : (a b c : Bool) → entry_by f (and_then
        (cabinets.unless a (Rattle.cabinet.specs.declared.fault.CabinetFault.TheVariants.Length (route P f 0)))
        (and_then (cabinets.unless b (Rattle.cabinet.specs.declared.fault.CabinetFault.TheVariants.Full (route P f 0)))
        (cabinets.unless c (Rattle.cabinet.specs.declared.fault.CabinetFault.TheVariants.Finish (route P f 0)))))
        ≡ and_then (unless a Closed) (and_then (unless b (Full f)) (unless c (Finish (route P f 0))))
    tests true true true = refl
    tests true true false = refl
    tests true false c = refl
    tests false b c = refl

    go : (b : Bool) → ltb (route P f 0) (length m.ports) ≡ b
        → entry_by f (and_then (cabinets.unless b (Rattle.cabinet.specs.declared.fault.CabinetFault.TheVariants.NoPort (route P f 0)))
        (line_answer m.slot (route P f 0) (port_in m (route P f 0)) (new_frame (state_in P m ls rs) f n)))
        ≡ and_then (unless (b && length_fits (port_at (seen P m) (route P f 0)) n) Closed)
        (and_then (unless (has_room (length (port_in m (route P f 0)).line)) (Full f))
        (unless (finish_fits (finish_with (seen P m) (state_in P m ls rs) (route P f 0) n)) (Finish (route P f 0))))
    go false e = refl
    go true e =
        tests (length_fits (port_in m (route P f 0)).figures n) (has_room (length (port_in m (route P f 0)).line))
        (finish_fits (finish_after (port_in m (route P f 0)).figures m.slot (port_in m (route P f 0)).finish n))
        ∙ ap (λ (q : Port). and_then (unless (length_fits q n) Closed)
        (and_then (unless (has_room (length (port_in m (route P f 0)).line)) (Full f))
        (unless (finish_fits (finish_after q m.slot (port_in m (route P f 0)).finish n)) (Finish (route P f 0)))))
        (sym (figures_seen P m (route P f 0) (ltb-true (route P f 0) (length m.ports) e)))

-- the level of flow f falls by n
pub level_spent : (P : Parts) (ls : List ℕ) (rs : List Regulator) (f n : ℕ) → f < P.size.flows → f < length ls → n ≤ min (flow_at P f).burst (get_or ls f 0)
    → level_in P (set ls f (min (get_or ls f 0) (flow_at P f).burst - n)) rs ≡ with_cell f 0 (level_in P ls rs f 0 - n) (level_in P ls rs)
level_spent P ls rs f n known inn le = λ i g k. each g k i
  where
    b : ℕ
    b = (flow_at P f).burst

    here : level_in P (set ls f (min (get_or ls f 0) (flow_at P f).burst - n)) rs f 0 ≡ level_in P ls rs f 0 - n
    here =
        cond-true (ltb f P.size.flows) _ 0 (lt-ltb f P.size.flows known) ∙ ap (min (flow_at P f).burst) (get_or-set_same ls f _ 0 inn) ∙ omega arith
        ∙ ap (λ l. l - n) (sym (cond-true (ltb f P.size.flows) (min (flow_at P f).burst (get_or ls f 0)) 0 (lt-ltb f P.size.flows known)))

    each : (g k : ℕ) → level_in P (set ls f (min (get_or ls f 0) (flow_at P f).burst - n)) rs g k ≡ with_cell f 0 (level_in P ls rs f 0 - n) (level_in P ls rs) g k
    each g (suc k) = sym (with_cell_other f 0 (level_in P ls rs f 0 - n) (level_in P ls rs) g (suc k) (λ _ z. omega arith))
    each g zero = elim (ℕ_discrete g f) [
      | yes e ↦ ap (λ g. level_in P (set ls f (min (get_or ls f 0) (flow_at P f).burst - n)) rs g 0) e ∙ here
          ∙ sym (with_cell_same f 0 (level_in P ls rs f 0 - n) (level_in P ls rs))
          ∙ ap (λ g. with_cell f 0 (level_in P ls rs f 0 - n) (level_in P ls rs) g 0) (sym e)
      | no e ↦ ap (λ l. cond (ltb g P.size.flows) (min (flow_at P g).burst l) 0) (get_or-set_other ls f g _ 0 e)
          ∙ sym (with_cell_other f 0 (level_in P ls rs f 0 - n) (level_in P ls rs) g 0 (λ z _. e z))
    ]

-- what the flow's own tests leave to the port
tests_passed : (N : Net) (f n : ℕ) → N.is_open ≡ true → f < N.parts.size.flows → (flow_at N.parts f).shortest ≤ n
    → n ≤ (flow_at N.parts f).longest → n ≤ N.state.level f 0
    → offer_answer N f n ≡ entry_answer N.parts N.state f n
tests_passed N f n a b c d e =
    λ i. and_then (unless (a i) Closed)
    (and_then (unless (lt-ltb f N.parts.size.flows b i) (NoFlow f))
    (and_then (unless (and_from (leb (flow_at N.parts f).shortest n) (leb n (flow_at N.parts f).longest)
    (le-leb (flow_at N.parts f).shortest n c) (le-leb n (flow_at N.parts f).longest d) i) (Length f))
    (and_then (unless (le-leb n (N.state.level f 0) e i) (Level f)) (entry_answer N.parts N.state f n))))

module _ (P : Parts) (m m' : Model) (ls : List ℕ) (rs : List Regulator) (f n level : ℕ) (x : Frame) (made : x ≡ new_frame (state_in P m ls rs) f n)
    (after : m' ≡ put_after m (route P f 0) x)
    (known : f < P.size.flows) (short : (flow_at P f).shortest ≤ n) (long : n ≤ (flow_at P f).longest)
    (is : level ≡ min (get_or ls f 0) (flow_at P f).burst) (covers : n ≤ level) (o : Bool) (opened : o ≡ true) where
  abbrev before : Net
  before = record { is_open = o; parts = seen P m; state = state_in P m ls rs }

  level_is : level_in P ls rs f 0 ≡ level
  level_is = cond-true (ltb f P.size.flows) (min (flow_at P f).burst (get_or ls f 0)) 0 (lt-ltb f P.size.flows known) ∙ omega arith

  answer_is : offer_answer before f n ≡ entry_by f (put_answer m (route P f 0) x)
  answer_is =
      tests_passed before f n opened known short long (omega (arith, level_is)) ∙ sym (entry_is P m ls rs f n)
      ∙ ap (λ (y : Frame). entry_by f (put_answer m (route P f 0) y)) (sym made)

  -- the cabinet turns the frame away
  pub offer_refused : (e : CabinetFault) → Err e ≡ put_answer m (route P f 0) x
      → (Err (turned_away f e) ≡ offer_answer before f n) × (record { is_open = o; parts = seen P m'; state = state_in P m' ls rs } ≡ offer_after before f n)
  offer_refused e q = (
    ap (entry_by f) q ∙ sym answer_is,
    ap (λ (v : Model). record { is_open = o; parts = seen P v; state = state_in P v ls rs })
        (after ∙ ap (λ (r : Result (Unit {0}) CabinetFault). cond (is_ok r)
        (with_port m (route P f 0) (lined m.slot (port_in m (route P f 0)) x)) m) (sym q))
        ∙ ap (λ (r : Result (Unit {0}) NetworkFault). cond (is_ok r)
        (record { is_open = o; parts = seen P m; state = offered (seen P m) (state_in P m ls rs) f n }) before) (ap (entry_by f) q ∙ sym answer_is),
  )

  -- the frame has entered
  pub offer_accepted : f < length ls → Ok tt ≡ put_answer m (route P f 0) x
      → (Ok tt ≡ offer_answer before f n) × (record { is_open = o; parts = seen P m'; state = state_in P m' (set ls f (level - n)) rs } ≡ offer_after before f n)
  offer_accepted inn q = (
    ap (entry_by f) q ∙ sym answer_is,
    whole ∙ ap (λ (r : Result (Unit {0}) NetworkFault). cond (is_ok r)
        (record { is_open = o; parts = seen P m; state = offered (seen P m) (state_in P m ls rs) f n }) before) (ap (entry_by f) q ∙ sym answer_is),
  )
    where
      y : Frame
      y = new_frame (state_in P m ls rs) f n

      fits : route P f 0 < length m.ports
      fits = put_fits m (route P f 0) x q

      model_is : m' ≡ with_port m (route P f 0) (lined m.slot (port_in m (route P f 0)) (new_frame (state_in P m ls rs) f n))
      model_is =
          after ∙ ap (λ (r : Result (Unit {0}) CabinetFault). cond (is_ok r) (with_port m (route P f 0) (lined m.slot (port_in m (route P f 0)) x)) m) (sym q)
          ∙ ap (λ (y : Frame). with_port m (route P f 0) (lined m.slot (port_in m (route P f 0)) y)) made

      parts_is : seen P m' ≡ seen P m
      parts_is = ap (seen P) model_is ∙ seen_kept P m (route P f 0) _ refl

      levels_is : level_in P (set ls f (level - n)) rs ≡ with_cell f 0 (level_in P ls rs f 0 - n) (level_in P ls rs)
      levels_is = ap (λ l. level_in P (set ls f (l - n)) rs) is ∙ level_spent P ls rs f n known inn (omega arith)

      state_is : state_in P m' (set ls f (level - n)) rs ≡ offered (seen P m) (state_in P m ls rs) f n
      state_is =
          ap (λ (v : Model). state_in P v (set ls f (level - n)) rs) model_is ∙ put_shows P m (set ls f (level - n)) rs (new_frame (state_in P m ls rs) f n) fits
          ∙ ap (λ (h : ℕ → ℕ → ℕ). record {
            slot = m.slot;
            finish = (placed (seen P m) (state_in P m ls rs) (new_frame (state_in P m ls rs) f n)).finish;
            line = (placed (seen P m) (state_in P m ls rs) (new_frame (state_in P m ls rs) f n)).line;
            level = h;
            waiting = (state_in P m ls rs).waiting;
          }) levels_is

      whole : ◌≡◌ {A = Net} (record { is_open = o; parts = seen P m'; state = state_in P m' (set ls f (level - n)) rs })
          (record { is_open = o; parts = seen P m; state = offered (seen P m) (state_in P m ls rs) f n })
      whole = λ i. record { is_open = o; parts = parts_is i; state = state_is i }

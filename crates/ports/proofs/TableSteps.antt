-- A table of rows as a model: its ports one by one, a row changed, a row added.
use Rattle.std.proofs.Common.{◌≡◌, ℕ, zero, suc, ◌+◌, ◌<◌, ◌≤◌, Bool, true, false, cond, leb, List, [], ◌∷◌, map, length, get_or, take, set, is_ok, Some, None, Option, Result, slice_get, option_map, sym, refl, ap, ◌∙◌, subst, ⊎_elim, arith}
use native.Mathlib.Decide.{ℕ_discrete}
use Rattle.std.proofs.lemmas.List.{get_or_past, get_or-set_other, get_or-set_same, get_or-take, length-map, length-take, map-append, map-set, set-get_or, take_more_set}
use Rattle.std.proofs.lemmas.Option.{slice_get-get_or, slice_get-map, slice_get_past}
use Rattle.std.proofs.lemmas.Bool.{cases_lt, le-leb, lt-ltb}
use Rattle.std.specs.Borrow.{Bor}
use Rattle.std.specs.Slice.{IsItemAt}
use Rattle.draft.specs.declared.port.Port.{Port}
use Rattle.plan.specs.Checks.{port_fits}
use Rattle.service.specs.Entries.{due_by}
use Rattle.service.specs.declared.frame.Frame.{Frame}
use Rattle.cabinet.specs.Fresh.{fresh_port}
use Rattle.cabinet.specs.Model.{Model, PortModel, cut, frame_in, port_in, vacant, with_port}
use Rattle.cabinet.specs.Puts.{line_answer, lined, put_after, put_answer}
use Rattle.cabinet.specs.Takes.{Timely, passes, take_after}
use Rattle.cabinet.specs.declared.fault.CabinetFault.{CabinetFault}
use Rattle.ports.specs.Adds.{add_after, may_add}
use Rattle.ports.specs.Kinds.{first_stays, own_after, word}
use Rattle.ports.specs.Lanes.{Sound, blank_lane, left_by}
use Rattle.ports.specs.Rows.{Each, FilledRow, FitsRow, KeptBy, RisesRow, Whole, blank_row, row_port}
use Rattle.ports.specs.Tables.{RowAt, changed_at, owns, owns_added, owns_after, table_model, word_at}
use Rattle.ports.specs.declared.kind.Kind as Kind
use Rattle.ports.specs.declared.row.Row.{Row}
use Rattle.ports.specs.declared.table.Table.{Table}
use Rattle.cabinet.proofs.Decisions.{timely_none}
use Rattle.cabinet.specs.Advances.{has_due}
use Rattle.ports.proofs.RowSteps.{first_owes, first_stayed}
use Rattle.ports.proofs.Additions.{added_parts}
use Rattle.ports.specs.Laws.{port_is, ports_long, some, whole_at}

-- a row that keeps the rule, in the place of another
each_set : {X : Type 0} (P : X → Type 0) (n : ℕ) (xs : List X) (p : ℕ) (v : X) → p < length xs → Each P n xs → P v → Each P n (set xs p v)
each_set P n xs p v l e h k lt d = elim (ℕ_discrete k p) [
  | yes q ↦ rw q (rw (get_or-set_same xs p v d l) h)
  | no q ↦ rw (get_or-set_other xs p k v d q) (e k lt d)
]

-- one row more
each_more : {X : Type 0} (P : X → Type 0) (n : ℕ) (xs : List X) (v : X) → n < length xs → Each P n xs → P v → Each P (n + 1) (set xs n v)
each_more P n xs v l e h k lt d = elim (ℕ_discrete k n) [
  | yes q ↦ rw q (rw (get_or-set_same xs n v d l) h)
  | no q ↦ rw (get_or-set_other xs n k v d q) (e k (omega arith) d)
]

-- what a table keeps of its rows
pub record Kept {K : Type 0} (keeps : K → PortModel → Bool) (n : ℕ) (rows : List (Row K)) : Type 0 where
  pub figures : Each FitsRow n rows
  pub filled : Each FilledRow n rows
  pub rises : Each RisesRow n rows
  pub kept : Each (KeptBy keeps) n rows

take_set : {X : Type 0} (n : ℕ) (xs : List X) (i : ℕ) (x : X) → take n (set xs i x) ≡ set (take n xs) i x
take_set zero [] i x = refl
take_set zero (y ∷ xs) zero x = refl
take_set zero (y ∷ xs) (suc i) x = refl
take_set (suc n) [] i x = refl
take_set (suc n) (y ∷ xs) zero x = refl
take_set {X = X} (suc n) (y ∷ xs) (suc i) x = ap (λ (l : List X). y ∷ l) (take_set n xs i x)

-- an element changed in its place
set_changed : {X : Type 0} (f : X → X) (xs : List X) (p : ℕ) (x y : X) → slice_get xs p ≡ Some x → y ≡ f x → set xs p y ≡ changed_at f p xs
set_changed f [] p x y e q = refl
set_changed f (z ∷ xs) zero x y e q = let i : z ≡ x = cc in rw (q, i)
set_changed {X = X} f (z ∷ xs) (suc p) x y e q = ap (λ (l : List X). z ∷ l) (set_changed f xs p x y e q)

-- nothing changes
changed_none : {X : Type 0} (p : ℕ) (xs : List X) → changed_at (λ x. x) p xs ≡ xs
changed_none p [] = refl
changed_none zero (x ∷ xs) = refl
changed_none {X = X} (suc p) (x ∷ xs) = ap (λ (l : List X). x ∷ l) (changed_none p xs)

changed_past : {X : Type 0} (f : X → X) (p : ℕ) (xs : List X) → slice_get xs p ≡ None → changed_at f p xs ≡ xs
changed_past f p [] e = refl
changed_past f zero (x ∷ xs) e = absurd (let z : ◌≡◌ {A = ℕ} 0 1 = cc in omega arith)
changed_past {X = X} f (suc p) (x ∷ xs) e = ap (λ (l : List X). x ∷ l) (changed_past f p xs e)

-- a port put in its own place changes nothing
pub port_same : (m : Model) (p : ℕ) → with_port m p (port_in m p) ≡ m
port_same m p = ap (λ (l : List PortModel). record { slot = m.slot; ports = l }) (set-get_or m.ports p vacant)

changed : (m : Model) (p : ℕ) (q v : PortModel) (b : Bool) → v ≡ cond b q (port_in m p) → with_port m p v ≡ cond b (with_port m p q) m
changed m p q v true e = ap (with_port m p) e
changed m p q v false e = ap (with_port m p) e ∙ port_same m p

-- a blank row of figures within their limits keeps what every row keeps
blank_sound : (q : Port) → port_fits q ≡ true → Sound (blank_lane q)
blank_sound q e = record { figures = e; filled = (omega arith, omega arith, omega arith, refl); rises = le-leb 0 (due_by q 0) (omega arith) }

module _ {K : Type 0} {g : Kind.Ghosts K} (t : Table K g) where
  pub rows_long : length (take t.count t.rows) ≡ t.count
  rows_long = simp length-take (omega arith)

  pub port_past : (p : ℕ) → t.count ≤ p → port_in (table_model t) p ≡ vacant
  port_past p h = get_or_past (table_model t).ports p vacant (rw (ports_long t) h)

  pub own_past : (p : ℕ) → t.count ≤ p → slice_get (owns t) p ≡ None
  own_past p h = slice_get_past (owns t) p (rw (length-map (take t.count t.rows) (λ w. w.own)) (simp length-take (omega arith)))

  pub own_is : (p : ℕ) (d : Row K) → p < t.count → slice_get (owns t) p ≡ Some (get_or t.rows p d).own
  own_is p d h =
      let l : p < length (take t.count t.rows) = simp length-take (omega arith) in
      slice_get-map (λ w. w.own) (take t.count t.rows) p
      ∙ ap (option_map (λ w. w.own)) (slice_get-get_or (take t.count t.rows) p d l ∙ ap Some (get_or-take t.count t.rows p d h))

  -- the rows with another one
  pub kept_set : (p : ℕ) (v : Row K) → p < t.count → Whole g.keeps v → Kept g.keeps t.count (set t.rows p v)
  kept_set p v h w =
      let l : p < length t.rows = omega arith in
      record {
        figures = each_set FitsRow t.count t.rows p v l t.figures w.sound.figures;
        filled = each_set FilledRow t.count t.rows p v l t.filled w.sound.filled;
        rises = each_set RisesRow t.count t.rows p v l t.rises w.sound.rises;
        kept = each_set (KeptBy g.keeps) t.count t.rows p v l t.kept w.kept;
      }

  kept_more : (v : Row K) → t.count < 8 → Whole g.keeps v → Kept g.keeps (t.count + 1) (set t.rows t.count v)
  kept_more v h w =
      let l : t.count < length t.rows = omega arith in
      record {
        figures = each_more FitsRow t.count t.rows v l t.figures w.sound.figures;
        filled = each_more FilledRow t.count t.rows v l t.filled w.sound.filled;
        rises = each_more RisesRow t.count t.rows v l t.rises w.sound.rises;
        kept = each_more (KeptBy g.keeps) t.count t.rows v l t.kept w.kept;
      }

  -- one row changed is one port changed, and its neighbours are as they were
  pub row_changed : (p : ℕ) (v : Row K) → ◌≡◌ {A = Model} (record { slot = t.slot; ports = map row_port (take t.count (set t.rows p v)) }) (with_port (table_model t) p (row_port v))
  row_changed p v =
      ap (λ (l : List PortModel). record { slot = t.slot; ports = l })
      (ap (map row_port) (take_set t.count t.rows p v) ∙ map-set row_port (take t.count t.rows) p v)

  -- and what is kept for it changes with it
  pub own_changed : (f : K → K) (p : ℕ) (v d : Row K) → p < t.count → v.own ≡ f (get_or t.rows p d).own → map (λ w. w.own) (take t.count (set t.rows p v)) ≡ changed_at f p (owns t)
  own_changed f p v d h e =
      ap (map (λ w. w.own)) (take_set t.count t.rows p v)
      ∙ map-set (λ w. w.own) (take t.count t.rows) p v
      ∙ set_changed f (owns t) p (get_or t.rows p d).own v.own (own_is p d h) e

-- what a row answers and becomes, the table answers and becomes
module _ {K : Type 0} {g : Kind.Ghosts K} (t : Table K g) (p : ℕ) (d : Row K) (h : p < t.count) where
  at_row : port_in (table_model t) p ≡ row_port (get_or t.rows p d)
  at_row = port_is t p d h

  pub put_said : (x : Frame) (r : Result (Unit {0}) CabinetFault) → r ≡ line_answer t.slot p (row_port (get_or t.rows p d)) x → r ≡ put_answer (table_model t) p x
  put_said x r e =
      let l : p < length (table_model t).ports = rw (ports_long t) h in
      rw (lt-ltb p (length (table_model t).ports) l) (rw at_row e)

  pub put_left : (v : Row K) (x : Frame) (r : Result (Unit {0}) CabinetFault) → r ≡ line_answer t.slot p (row_port (get_or t.rows p d)) x
      → row_port v ≡ cond (is_ok r) (lined t.slot (row_port (get_or t.rows p d)) x) (row_port (get_or t.rows p d))
      → ◌≡◌ {A = Model} (record { slot = t.slot; ports = map row_port (take t.count (set t.rows p v)) }) (put_after (table_model t) p x)
  put_left v x r e k =
      row_changed t p v ∙ (rw (← put_said x r e) (changed (table_model t) p (lined t.slot (port_in (table_model t) p) x) (row_port v) (is_ok r) (rw at_row k)))

  pub take_said : (r : Option Frame) → r ≡ frame_in (row_port (get_or t.rows p d)).line 0 → r ≡ frame_in (port_in (table_model t) p).line 0
  take_said r e = rw at_row e

  pub take_own : (v : Row K) (r : Option Frame) → v.own ≡ own_after g.handed r (get_or t.rows p d).own → map (λ w. w.own) (take t.count (set t.rows p v)) ≡ owns_after g.handed p r (owns t)
  take_own v r e = own_changed t (own_after g.handed r) p v d h e

  pub put_own : (v : Row K) → v.own ≡ (get_or t.rows p d).own → map (λ w. w.own) (take t.count (set t.rows p v)) ≡ owns t
  put_own v e = own_changed t (λ k. k) p v d h e ∙ changed_none p (owns t)

  pub take_left : (v : Row K) (r : Option Frame) → row_port v ≡ left_by r (row_port (get_or t.rows p d))
      → ◌≡◌ {A = Model} (record { slot = t.slot; ports = map row_port (take t.count (set t.rows p v)) }) (take_after (table_model t) p r)
  take_left v None e = row_changed t p v ∙ (ap (with_port (table_model t) p) (e ∙ sym at_row) ∙ port_same (table_model t) p)
  take_left v (Some x) e = row_changed t p v ∙ ap (with_port (table_model t) p) (e ∙ ap (cut 1) (sym at_row))

-- a port that may be added, with what is kept for it
module _ {K : Type 0} {g : Kind.Ghosts K} (t : Table K g) (q : Port) (k : K) (e : may_add (table_model t) q (g.fits q k) ≡ true) where
  pub add_room : t.count < 8
  add_room = omega (arith, (added_parts (table_model t) q (g.fits q k) e).2, ports_long t)

  pub add_kept : g.keeps k (fresh_port q) ≡ true → Kept g.keeps (t.count + 1) (set t.rows t.count (blank_row q k))
  add_kept f =
      kept_more t (blank_row q k) add_room (record { sound = blank_sound q (added_parts (table_model t) q (g.fits q k) e).1; kept = f })

  pub add_left : ◌≡◌ {A = Model} (record { slot = t.slot; ports = map row_port (take (t.count + 1) (set t.rows t.count (blank_row q k))) }) (add_after (table_model t) q (g.fits q k))
  add_left =
      let l : t.count < length t.rows = omega (arith, add_room) in
      rw e
      (ap (λ (ps : List PortModel). record { slot = t.slot; ports = ps })
      (ap (map row_port) (take_more_set t.rows t.count (blank_row q k) l) ∙ map-append row_port (take t.count t.rows) (blank_row q k ∷ [])))

  pub add_own : map (λ w. w.own) (take (t.count + 1) (set t.rows t.count (blank_row q k))) ≡ owns_added (may_add (table_model t) q (g.fits q k)) (owns t) k
  add_own =
      let l : t.count < length t.rows = omega (arith, add_room) in
      rw e
      (ap (map (λ w. w.own)) (take_more_set t.rows t.count (blank_row q k) l) ∙ map-append (λ w. w.own) (take t.count t.rows) (blank_row q k ∷ []))

-- where none is handed over nothing changes
pub none_own : {K : Type 0} (handed : K → Frame → K) (p : ℕ) (ks : List K) → ks ≡ owns_after handed p None ks
none_own handed p ks = sym (changed_none p ks)

-- of no port nothing changes
pub past_own : {K : Type 0} {g : Kind.Ghosts K} (t : Table K g) (p : ℕ) (r : Option Frame) → t.count ≤ p → owns t ≡ owns_after g.handed p r (owns t)
past_own {g = g} t p r h = sym (changed_past (own_after g.handed r) p (owns t) (own_past t p h))

-- what the row of a port tells of the table
module _ {K : Type 0} {g : Kind.Ghosts K} (t : Table K g) (p : ℕ) where
  pub row_at : (r : Option (Bor (Row K))) → IsItemAt (take t.count t.rows) p r → RowAt t p r
  row_at None h =
      let l : length (take t.count t.rows) ≤ p = h.3 in
      let k : t.count ≤ p = omega (arith, rows_long t) in (k, port_past t p k, own_past t p k)
  row_at (Some w) h =
      let l : p < length (take t.count t.rows) = h.3.0 in
      let k : p < t.count = omega (arith, rows_long t) in
      let e : w.now ≡ get_or t.rows p w.now = h.1 ∙ get_or-take t.count t.rows p w.now k in
      (k, port_is t p w.now k ∙ ap row_port (sym e), subst (Whole g.keeps) (sym e) (whole_at t p w.now k), own_is t p w.now k ∙ ap (λ (v : Row K). Some v.own) (sym e))

  -- what is told of the row, or of none where there is no port, is told of the port
  pub by_row : {X : Type 0} (f : PortModel → X) (v : X) (r : Option (Bor (Row K))) → RowAt t p r → (r ≡ None → v ≡ f vacant)
      → ((w : Bor (Row K)) → r ≡ Some w → Whole g.keeps w.now → v ≡ f (row_port w.now)) → v ≡ f (port_in (table_model t) p)
  by_row f v None a none one = none refl ∙ ap f (sym a.1)
  by_row f v (Some w) a none one = one w refl a.2 ∙ ap f (sym a.1)

  -- so is what the kind says of its first frame
  pub by_word : (v : Bool) (r : Option (Bor (Row K))) → RowAt t p r → (r ≡ None → v ≡ false)
      → ((w : Bor (Row K)) → r ≡ Some w → Whole g.keeps w.now → (v ≡ word g.ready t.slot (row_port w.now) w.now.own) × Timely t.slot (row_port w.now) v)
      → (v ≡ word_at g.ready (table_model t) (owns t) p) × Timely t.slot (port_in (table_model t) p) v
  by_word v None a none one = rw (a.1, a.2, none refl) (refl, timely_none t.slot vacant refl)
  by_word v (Some w) a none one = rw (a.1, a.3) (one w refl a.2)

  -- the first frame tells whether any is due, and is not due before its least stay
  pub first_tells : (has_due t.slot (port_in (table_model t) p).line ≡ passes (λ x. leb x.due t.slot) (frame_in (port_in (table_model t) p).line 0))
      × first_stays (port_in (table_model t) p) (frame_in (port_in (table_model t) p).line 0)
  first_tells = ⊎_elim
      (λ (h : p < t.count).
      let d : Row K = some t.rows p (omega arith) in
      let w = get_or t.rows p d in
      rw (port_is t p d h) (first_owes g.keeps w (whole_at t p d h) t.slot, first_stayed g.keeps w (whole_at t p d h)))
      (λ (h : t.count ≤ p). rw (port_past t p h) (refl, tt))
      (cases_lt p t.count)

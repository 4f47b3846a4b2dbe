-- Bytes written one after another, and records of one length in a row.
use Rattle.std.proofs.Common.{◌≡◌, ℕ, zero, suc, ◌+◌, ◌*◌, ◌<◌, ◌≤◌, List, [], ◌∷◌, ◌++◌, length, get_or, take, drop, sym, refl, ap, ◌∙◌, add-one, arith, length-drop}
use Rattle.std.proofs.lemmas.List.{append_assoc, append-nil, drop-drop, length-append, length-take-le, take-append-drop, take_more}
use Rattle.draft.specs.Plans.{no_flow, no_port, no_row}
use Rattle.draft.specs.declared.draft.Draft.{Draft}
use Rattle.draft.specs.declared.flow.Flow.{Flow}
use Rattle.draft.specs.declared.port.Port.{Port}
use Rattle.draft.specs.declared.table.Row.{Row}
use Rattle.file.specs.Counts.{flows, ports, rows}
use Rattle.file.specs.Writers.{Wrote, done, in_order, left}
use Rattle.file.specs.Writes.{encoded, encoded_size, flow_bytes, flow_record, port_bytes, port_record, records, row_bytes, row_record}
use Rattle.file.specs.declared.encoder.writer.Writer.{Writer}

-- what a place holds, by what is written and what is left
pub whole_place : (w : Writer) → w.place.now ≡ done w ++ left w
unfolding done left
whole_place w = sym (take-append-drop w.at w.place.now)

-- bytes, and then more
pub wrote_more : {a b c : Writer} {s t : List ℕ} → Wrote a s b → Wrote b t c → (u : List ℕ) → s ++ t ≡ u → Wrote a u c
wrote_more {a = a} {s = s} {t = t} o p u e =
    record {
      owner = p.owner ∙ o.owner;
      more = p.more ∙ (ap (λ l. l ++ t) o.more ∙ (append_assoc (done a) s t ∙ ap (λ l. done a ++ l) e));
      rest = p.rest ∙ (ap (drop (length t)) o.rest ∙ (drop-drop (length t) (length s) (left a) ∙ ap (λ n. drop n (left a)) (sym (length-append s t) ∙ ap length e)));
    }

-- how much may still be written
pub room_left : {a b : Writer} {s : List ℕ} → Wrote a s b → (n : ℕ) → length s + n ≤ length (left a) → n ≤ length (left b)
room_left {a = a} {s = s} o n h = rw o.rest (simp length-drop (omega arith))

in_order_append : {X : Type 0} (f : ℕ → X → List ℕ) (n : ℕ) (xs ys : List X) → in_order f n (xs ++ ys) ≡ in_order f n xs ++ in_order f (n + length xs) ys
in_order_append f n [] ys = ap (λ k. in_order f k ys) (omega arith)
in_order_append f n (x ∷ xs) ys =
    let e : n + 1 + length xs ≡ n + length (x ∷ xs) = omega arith in
    ap (λ s. f n x ++ s) (in_order_append f (n + 1) xs ys ∙ ap (λ k. in_order f (n + 1) xs ++ in_order f k ys) e)
    ∙ sym (append_assoc (f n x) (in_order f (n + 1) xs) (in_order f (n + length (x ∷ xs)) ys))

-- one record more
pub in_order_more : {X : Type 0} (f : ℕ → X → List ℕ) (xs : List X) (n : ℕ) (d : X) → n < length xs → in_order f 0 (take (n + 1) xs) ≡ in_order f 0 (take n xs) ++ f n (get_or xs n d)
in_order_more f xs n d h =
    let x = get_or xs n d in
    ap (in_order f 0) (take_more xs n d h)
    ∙ (in_order_append f 0 (take n xs) (x ∷ [])
    ∙ ap (λ s. in_order f 0 (take n xs) ++ s) (append-nil (f (0 + length (take n xs)) x) ∙ ap (λ k. f k x) (omega (arith, length-take-le n xs (omega arith)))))

pub in_order_room : {X : Type 0} (f : ℕ → X → List ℕ) (xs : List X) (n : ℕ) (d : X) → n < length xs → length (in_order f 0 (take n xs)) + length (f n (get_or xs n d)) ≤ length (in_order f 0 xs)
in_order_room f xs n d h =
    let front = take (n + 1) xs in
    let behind = drop (n + 1) xs in
    let all = ap length (ap (in_order f 0) (sym (take-append-drop (n + 1) xs)) ∙ in_order_append f 0 front behind) ∙ length-append (in_order f 0 front) (in_order f (0 + length front) behind) in
    let more = ap length (in_order_more f xs n d h) ∙ length-append (in_order f 0 (take n xs)) (f n (get_or xs n d)) in
    omega (arith, all, more)

pub length_records : (r : ℕ → List ℕ) (w : ℕ) → ((k : ℕ) → length (r k) ≡ w) → (n : ℕ) → length (records r n) ≡ w * n
length_records r w h zero = omega arith
length_records r w h (suc n) = length-append (records r n) (r n) ∙ omega (arith, length_records r w h n, h n)

-- the same records by their numbers
in_order_records : {X : Type 0} (f : ℕ → X → List ℕ) (xs : List X) (z : X) (n : ℕ) → n ≤ length xs → in_order f 0 (take n xs) ≡ records (λ k. f k (get_or xs k z)) n
in_order_records f xs z zero h = refl
in_order_records f xs z (suc n) h =
    sym (ap (λ m. in_order f 0 (take m xs)) (add-one n))
    ∙ (in_order_more f xs n z (omega arith) ∙ ap (λ s. s ++ f n (get_or xs n z)) (in_order_records f xs z n (omega arith)))

-- the first records of a list, of one length each: what they are by their numbers, and how many bytes
pub record Part (written : List ℕ) (r : ℕ → List ℕ) (w n : ℕ) : Type 0 where
  pub same : written ≡ records r n
  pub size : length written ≡ w * n

part : {X : Type 0} (f : ℕ → X → List ℕ) (w : ℕ) → ((k : ℕ) (x : X) → length (f k x) ≡ w) → (xs ys : List X) (z : X) (n : ℕ) → ys ≡ take n xs → n ≤ length xs
    → Part (in_order f 0 ys) (λ k. f k (get_or xs k z)) w n
part f w each xs ys z n e h =
    let r = λ (k : ℕ). f k (get_or xs k z) in
    let same = ap (in_order f 0) e ∙ in_order_records f xs z n h in
    record { same = same; size = ap length same ∙ length_records r w (λ k. each k (get_or xs k z)) n }

-- a draft's ports, flows and rows
pub record Parts (d : Draft) (ps : List Port) (fs : List Flow) (rs : List Row) : Type 0 where
  pub of_ports : Part (in_order (λ k. port_record) 0 ps) (port_bytes d) 17 (ports d)
  pub of_flows : Part (in_order (λ k. flow_record) 0 fs) (flow_bytes d) 27 (flows d)
  pub of_rows : Part (in_order row_record 0 rs) (row_bytes d) 34 (rows d)

pub parts : (d : Draft) {ps : List Port} {fs : List Flow} {rs : List Row} → ps ≡ take (ports d) d.parts.ports → fs ≡ take (flows d) d.parts.flows → rs ≡ take (rows d) d.proposal.table.rows
    → ports d ≤ length d.parts.ports → flows d ≤ length d.parts.flows → rows d ≤ length d.proposal.table.rows → Parts d ps fs rs
parts d {ps = ps} {fs = fs} {rs = rs} p f r hp hf hr =
    record {
      of_ports = part (λ k. port_record) 17 (λ k x. refl) d.parts.ports ps no_port (ports d) p hp;
      of_flows = part (λ k. flow_record) 27 (λ k x. refl) d.parts.flows fs no_flow (flows d) f hf;
      of_rows = part row_record 34 (λ k x. refl) d.proposal.table.rows rs no_row (rows d) r hr;
    }

pub length_encoded : (d : Draft) → length (encoded d) ≡ encoded_size d
length_encoded d =
    let p = length_records (port_bytes d) 17 (λ k. refl) (ports d) in
    let f = length_records (flow_bytes d) 27 (λ k. refl) (flows d) in
    let r = length_records (row_bytes d) 34 (λ k. refl) (rows d) in
    simp length-append (omega (arith, p, f, r))

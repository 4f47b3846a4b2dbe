-- A file that reads is the file of what it says.
use Rattle.std.proofs.Common.{◌≡◌, ℕ, zero, suc, ◌+◌, ◌*◌, ◌/◌, ◌%◌, ◌<◌, ◌≤◌, cond, ltb, ◌≢◌, List, [], ◌∷◌, ◌++◌, length, get_or, drop, set, Ok, Err, Result, sym, refl, ap, ◌∙◌, subst, add-one, arith}
use native.Mathlib.Decide.{ℕ_discrete}
use Rattle.std.proofs.lemmas.List.{append_assoc, append-nil, drop_all, get_or-drop, get_or-set_other, get_or-set_same, length-set}
use Rattle.std.proofs.lemmas.Bool.Decides.{nat_tests}
use Rattle.draft.specs.Plans.{empty_draft, no_flow, no_port, no_row}
use Rattle.draft.specs.declared.draft.Draft.{Draft}
use Rattle.draft.specs.declared.flow.Flow.{Flow}
use Rattle.draft.specs.declared.port.Port.{Port}
use Rattle.draft.specs.declared.table.Row.{Row}
use Rattle.file.specs.Counts.{flows, ports, rows}
use Rattle.file.specs.Additions.{with_flow, with_port, with_row}
use Rattle.file.specs.Kinds.{end_kind, flow_kind, kind_of, port_kind, row_kind}
use Rattle.file.specs.Reads.{end_answer, flow_answer, kind_answer, kind_draft, kind_size, port_answer, read, row_answer, then_read}
use Rattle.file.specs.Records.{flow_of, number_at, port_of, row_flow, row_of}
use Rattle.file.specs.Writes.{bytes_of, encoded, end_record, flow_bytes, flow_record, front, port_bytes, port_record, records, row_bytes, row_record}
use Rattle.file.specs.declared.fault.FileFault.{FileFault}
use Rattle.file.specs.declared.fault.FileFault.TheVariants.{Cut}
use Rattle.file.proofs.Returning.{listed, read_from_reads, reads}

-- every number is a byte
abbrev pub Bytes : List ℕ → Type 0
Bytes xs = (i : ℕ) → get_or xs i 0 < 256

bytes_drop : (xs : List ℕ) (n : ℕ) → Bytes xs → Bytes (drop n xs)
bytes_drop xs n h i = omega (arith, get_or-drop n xs i 0, h (n + i))

-- the first n elements, then the others
listed_front : (xs : List ℕ) (n : ℕ) → n ≤ length xs → listed (λ k. get_or xs k 0) n ++ drop n xs ≡ xs
unfolding listed
listed_front [] zero h = refl
listed_front [] (suc n) h = absurd (omega arith)
listed_front (x ∷ xs) zero h = refl
listed_front (x ∷ xs) (suc n) h = ap (λ ys. x ∷ ys) (listed_front xs n (omega arith))

-- the bytes of the number that four bytes give
bytes_number : (a b c d : ℕ) → a < 256 → b < 256 → c < 256 → d < 256 → bytes_of (((a * 256 + b) * 256 + c) * 256 + d) ≡ a ∷ b ∷ c ∷ d ∷ []
bytes_number a b c d ha hb hc hd =
    let n = ((a * 256 + b) * 256 + c) * 256 + d in
    let e₀ : n / 16777216 ≡ a = omega arith in
    let e₁ : n / 65536 % 256 ≡ b = omega arith in
    let e₂ : n / 256 % 256 ≡ c = omega arith in
    let e₃ : n % 256 ≡ d = omega arith in
    cc

bytes_at : (xs : List ℕ) → Bytes xs → (i : ℕ) → bytes_of (number_at xs i) ≡ get_or xs i 0 ∷ get_or xs (i + 1) 0 ∷ get_or xs (i + 2) 0 ∷ get_or xs (i + 3) 0 ∷ []
bytes_at xs h i = bytes_number (get_or xs i 0) (get_or xs (i + 1) 0) (get_or xs (i + 2) 0) (get_or xs (i + 3) 0) (h i) (h (i + 1)) (h (i + 2)) (h (i + 3))

-- the same in front of more
bytes_then : (xs : List ℕ) → Bytes xs → (i : ℕ) {s t : List ℕ} → s ≡ t → bytes_of (number_at xs i) ++ s ≡ get_or xs i 0 ∷ get_or xs (i + 1) 0 ∷ get_or xs (i + 2) 0 ∷ get_or xs (i + 3) 0 ∷ t
bytes_then xs h i {s = s} e =
    ap (λ l. l ++ s) (bytes_at xs h i) ∙ ap (λ l. get_or xs i 0 ∷ get_or xs (i + 1) 0 ∷ get_or xs (i + 2) 0 ∷ get_or xs (i + 3) 0 ∷ l) e

-- the record of what a body says is the body again
port_record_of : (xs : List ℕ) → Bytes xs → 16 ≤ length xs → port_record (port_of xs) ++ drop 16 xs ≡ port_kind ∷ xs
unfolding listed
port_record_of xs b h =
    let e : drop 1 (port_record (port_of xs)) ≡ listed (λ k. get_or xs k 0) 16 =
    bytes_then xs b 0 (bytes_then xs b 4 (bytes_then xs b 8 (bytes_then xs b 12 refl))) in
    ap (λ s. port_kind ∷ (s ++ drop 16 xs)) e ∙ ap (λ s. port_kind ∷ s) (listed_front xs 16 h)

flow_record_of : (xs : List ℕ) → Bytes xs → 26 ≤ length xs → flow_record (flow_of xs) ++ drop 26 xs ≡ flow_kind ∷ xs
unfolding listed
flow_record_of xs b h =
    let e : drop 1 (flow_record (flow_of xs)) ≡ listed (λ k. get_or xs k 0) 26 =
    bytes_then xs b 0 (bytes_then xs b 4 (bytes_then xs b 8 (bytes_then xs b 12 refl))) in
    ap (λ s. flow_kind ∷ (s ++ drop 26 xs)) e ∙ ap (λ s. flow_kind ∷ s) (listed_front xs 26 h)

row_record_of : (f : ℕ) (xs : List ℕ) → Bytes xs → 33 ≤ length xs → get_or xs 0 0 ≡ f → row_record f (row_of xs) ++ drop 33 xs ≡ row_kind ∷ xs
unfolding listed
row_record_of f xs b h l =
    let e : drop 1 (row_record (get_or xs 0 0) (row_of xs)) ≡ listed (λ k. get_or xs k 0) 33 =
    ap (λ s. get_or xs 0 0 ∷ s) (bytes_then xs b 1 (bytes_then xs b 5 (bytes_then xs b 9 (bytes_then xs b 13 (bytes_then xs b 17 (bytes_then xs b 21 (bytes_then xs b 25 (bytes_then xs b 29 refl)))))))) in
    ap (λ k. row_record k (row_of xs) ++ drop 33 xs) (sym l) ∙ (ap (λ s. row_kind ∷ (s ++ drop 33 xs)) e ∙ ap (λ s. row_kind ∷ s) (listed_front xs 33 h))

end_record_of : (n : ℕ) (xs : List ℕ) → Bytes xs → length xs ≡ 4 → number_at xs 0 ≡ n → end_record n ≡ end_kind ∷ xs
unfolding listed
end_record_of n xs b h e =
    let r : bytes_of (number_at xs 0) ≡ listed (λ k. get_or xs k 0) 4 = bytes_at xs b 0 in
    let front = listed (λ k. get_or xs k 0) 4 in
    ap end_record (sym e)
    ∙ (ap (λ s. end_kind ∷ s) (r ∙ (sym (append-nil front) ∙ ap (λ s. front ++ s) (sym (drop_all 4 xs (omega arith)))))
    ∙ ap (λ s. end_kind ∷ s) (listed_front xs 4 (omega arith)))

records_same : (r s : ℕ → List ℕ) (n : ℕ) → ((k : ℕ) → k < n → r k ≡ s k) → records r n ≡ records s n
records_same r s zero h = refl
records_same r s (suc n) h =
    ap (λ x. x ++ r n) (records_same r s n (λ k l. h k (omega arith))) ∙ ap (λ x. records s n ++ x) (h n (omega arith))

-- the records of a list with one more element written at its place
records_set : {X : Type 0} (g : ℕ → X → List ℕ) (xs : List X) (n : ℕ) (x z : X) → n < length xs → records (λ k. g k (get_or (set xs n x) k z)) (n + 1) ≡ records (λ k. g k (get_or xs k z)) n ++ g n x
records_set g xs n x z h =
    let r = λ (k : ℕ). g k (get_or (set xs n x) k z) in
    let below : records r n ≡ records (λ k. g k (get_or xs k z)) n = records_same r (λ k. g k (get_or xs k z)) n (λ k l. let ne : k ≢ n = omega arith in ap (g k) (get_or-set_other xs n k x z ne)) in
    ap (records r) (add-one n)
    ∙ (ap (λ s. s ++ r n) below ∙ ap (λ y. records (λ k. g k (get_or xs k z)) n ++ g n y) (get_or-set_same xs n x z h))

-- the array of each kind has its full length
pub record Roomy (d : Draft) : Type 0 where
  pub for_ports : length d.parts.ports ≡ 32
  pub for_flows : length d.parts.flows ≡ 64
  pub for_rows : length d.proposal.table.rows ≡ 64

-- one more record stands at the end of the front
front_with_port : (d : Draft) (q : Port) → ports d < length d.parts.ports → flows d ≡ 0 → rows d ≡ 0 → front (with_port d q) ≡ front d ++ port_record q
front_with_port d q h f r =
    let P = records (port_bytes d) (ports d) in
    let no_more : (e : Draft) → records (flow_bytes e) (flows d) ++ records (row_bytes e) (rows d) ≡ [] = λ e. ap (λ n. records (flow_bytes e) n ++ records (row_bytes e) (rows d)) f ∙ ap (records (row_bytes e)) r in
    ap (λ s. records (port_bytes (with_port d q)) (ports d + 1) ++ s) (no_more (with_port d q))
    ∙ (append-nil (records (port_bytes (with_port d q)) (ports d + 1))
    ∙ (records_set (λ k x. port_record x) d.parts.ports (ports d) q no_port h
    ∙ ap (λ s. s ++ port_record q) (sym (ap (λ s. P ++ s) (no_more d) ∙ append-nil P))))

front_with_flow : (d : Draft) (w : Flow) → flows d < length d.parts.flows → rows d ≡ 0 → front (with_flow d w) ≡ front d ++ flow_record w
front_with_flow d w h r =
    let P = records (port_bytes d) (ports d) in
    let F = records (flow_bytes d) (flows d) in
    let no_more : (e : Draft) (s : List ℕ) → s ++ records (row_bytes e) (rows d) ≡ s = λ e s. ap (λ n. s ++ records (row_bytes e) n) r ∙ append-nil s in
    ap (λ s. P ++ s) (no_more (with_flow d w) (records (flow_bytes (with_flow d w)) (flows d + 1)) ∙ records_set (λ k x. flow_record x) d.parts.flows (flows d) w no_flow h)
    ∙ (sym (append_assoc P F (flow_record w)) ∙ ap (λ s. (P ++ s) ++ flow_record w) (sym (no_more d F)))

front_with_row : (d : Draft) (x : Row) → rows d < length d.proposal.table.rows → front (with_row d x) ≡ front d ++ row_record (rows d) x
front_with_row d x h =
    let P = records (port_bytes d) (ports d) in
    let F = records (flow_bytes d) (flows d) in
    let R = records (row_bytes d) (rows d) in
    ap (λ s. P ++ (F ++ s)) (records_set (λ k y. row_record k y) d.proposal.table.rows (rows d) x no_row h)
    ∙ simp append_assoc

-- what k records more make of a file, if they end it
abbrev Ends : ℕ → Draft → Type 0
Ends k e = (d : Draft) (at : ℕ) (rest : List ℕ) → Roomy d → Bytes rest → reads k d at rest ≡ Ok e → front d ++ rest ≡ encoded e

-- a record r that takes a draft to the next, and the rest behind it
behind : (k : ℕ) (e d next : Draft) (at : ℕ) (r rest whole : List ℕ) → Ends k e → Roomy next → Bytes rest → r ++ rest ≡ whole → front next ≡ front d ++ r → reads k next at rest ≡ Ok e → front d ++ whole ≡ encoded e
behind k e d next at r rest whole ends room b hw hf h =
    ap (λ s. front d ++ s) (sym hw)
    ∙ (sym (append_assoc (front d) r rest) ∙ (ap (λ s. s ++ rest) (sym hf) ∙ ends next at rest room b h))

-- a record that is not refused has kept its kind's rules, and what follows is read
port_kept : (d after e : Draft) (at : ℕ) (body : List ℕ) (next : Result Draft FileFault) → then_read (cond (ltb (length body) 16) (Err (Cut at)) (port_answer d at)) after next ≡ Ok e
    → (16 ≤ length body) × (flows d ≡ 0) × (rows d ≡ 0) × (ports d < 32) × (next ≡ Ok e)
port_kept d after e at body next h = grind (arith, nat_tests)

flow_kept : (d after e : Draft) (at : ℕ) (body : List ℕ) (next : Result Draft FileFault) → then_read (cond (ltb (length body) 26) (Err (Cut at)) (flow_answer d at)) after next ≡ Ok e
    → (26 ≤ length body) × (rows d ≡ 0) × (flows d < 64) × (next ≡ Ok e)
flow_kept d after e at body next h = grind (arith, nat_tests)

row_kept : (d after e : Draft) (at : ℕ) (body : List ℕ) (next : Result Draft FileFault) → then_read (cond (ltb (length body) 33) (Err (Cut at)) (row_answer d at (row_flow body))) after next ≡ Ok e
    → (33 ≤ length body) × (row_flow body ≡ rows d) × (rows d < 64) × (next ≡ Ok e)
row_kept d after e at body next h = grind (arith, nat_tests)

end_kept : (d e : Draft) (at : ℕ) (body : List ℕ) (next : Result Draft FileFault) → then_read (cond (ltb (length body) 4) (Err (Cut at)) (end_answer d at body)) d next ≡ Ok e
    → (number_at body 0 ≡ ports d + flows d + rows d) × (length body ≡ 4) × (d ≡ e)
end_kept d e at body next h = grind (arith, nat_tests)

-- one record, by its kind
ends_port : (k : ℕ) (e : Draft) → Ends k e → (d : Draft) (at : ℕ) (body : List ℕ) → Roomy d → Bytes body → reads (suc k) d at (port_kind ∷ body) ≡ Ok e → front d ++ (port_kind ∷ body) ≡ encoded e
ends_port k e ends d at body room b h =
    let q = port_of body in
    let s = port_kept d (with_port d q) e at body (reads k (with_port d q) (at + 17) (drop 16 body)) h in
    behind k e d (with_port d q) (at + 17) (port_record q) (drop 16 body) (port_kind ∷ body) ends
    (record { for_ports = length-set d.parts.ports (ports d) q ∙ room.for_ports; for_flows = room.for_flows; for_rows = room.for_rows })
    (bytes_drop body 16 b) (port_record_of body b s.0) (front_with_port d q (omega (arith, room.for_ports, s.3)) s.1 s.2) s.4

ends_flow : (k : ℕ) (e : Draft) → Ends k e → (d : Draft) (at : ℕ) (body : List ℕ) → Roomy d → Bytes body → reads (suc k) d at (flow_kind ∷ body) ≡ Ok e → front d ++ (flow_kind ∷ body) ≡ encoded e
ends_flow k e ends d at body room b h =
    let w = flow_of body in
    let s = flow_kept d (with_flow d w) e at body (reads k (with_flow d w) (at + 27) (drop 26 body)) h in
    behind k e d (with_flow d w) (at + 27) (flow_record w) (drop 26 body) (flow_kind ∷ body) ends
    (record { for_ports = room.for_ports; for_flows = length-set d.parts.flows (flows d) w ∙ room.for_flows; for_rows = room.for_rows })
    (bytes_drop body 26 b) (flow_record_of body b s.0) (front_with_flow d w (omega (arith, room.for_flows, s.2)) s.1) s.3

ends_row : (k : ℕ) (e : Draft) → Ends k e → (d : Draft) (at : ℕ) (body : List ℕ) → Roomy d → Bytes body → reads (suc k) d at (row_kind ∷ body) ≡ Ok e → front d ++ (row_kind ∷ body) ≡ encoded e
ends_row k e ends d at body room b h =
    let r = row_of body in
    let s = row_kept d (with_row d r) e at body (reads k (with_row d r) (at + 34) (drop 33 body)) h in
    behind k e d (with_row d r) (at + 34) (row_record (rows d) r) (drop 33 body) (row_kind ∷ body) ends
    (record { for_ports = room.for_ports; for_flows = room.for_flows; for_rows = length-set d.proposal.table.rows (rows d) r ∙ room.for_rows })
    (bytes_drop body 33 b) (row_record_of (rows d) body b s.0 s.1) (front_with_row d r (omega (arith, room.for_rows, s.2))) s.3

ends_end : (k : ℕ) (e d : Draft) (at : ℕ) (body : List ℕ) → Bytes body → reads (suc k) d at (end_kind ∷ body) ≡ Ok e → front d ++ (end_kind ∷ body) ≡ encoded e
ends_end k e d at body b h =
    let s = end_kept d e at body (reads k d (at + 5) (drop 4 body)) h in
    ap (λ l. front d ++ l) (sym (end_record_of (ports d + flows d + rows d) body b s.1 s.0)) ∙ ap encoded s.2

-- a byte that is no letter
no_kind : (byte : ℕ) → (byte ≡ port_kind → ⊥) → (byte ≡ flow_kind → ⊥) → (byte ≡ row_kind → ⊥) → (byte ≡ end_kind → ⊥) → kind_of byte ≡ Err (record { 0 = byte })
no_kind byte p f b e = grind (arith, nat_tests)

ends_none : (k : ℕ) (e d : Draft) (at byte : ℕ) (body : List ℕ) → kind_of byte ≡ Err (record { 0 = byte }) → reads (suc k) d at (byte ∷ body) ≡ Ok e → ⊥
ends_none k e d at byte body n h =
    let r = sym (ap (λ o. then_read (kind_answer d at o body) (kind_draft d o body) (reads k (kind_draft d o body) (at + kind_size o) (drop (kind_size o) (byte ∷ body)))) n) ∙ h in
    cc

ends_record : (k : ℕ) (e : Draft) → Ends k e → (d : Draft) (at kind : ℕ) (body : List ℕ) → Roomy d → Bytes body → reads (suc k) d at (kind ∷ body) ≡ Ok e → front d ++ (kind ∷ body) ≡ encoded e
ends_record k e ends d at kind body room b =
    let Goal : ℕ → Type 0 = λ n. reads (suc k) d at (n ∷ body) ≡ Ok e → front d ++ (n ∷ body) ≡ encoded e in
    elim (ℕ_discrete kind port_kind) [
      | yes p ↦ subst Goal (sym p) (ends_port k e ends d at body room b)
      | no np ↦ elim (ℕ_discrete kind flow_kind) [
        | yes p ↦ subst Goal (sym p) (ends_flow k e ends d at body room b)
        | no nf ↦ elim (ℕ_discrete kind row_kind) [
          | yes p ↦ subst Goal (sym p) (ends_row k e ends d at body room b)
          | no nb ↦ elim (ℕ_discrete kind end_kind) [
            | yes p ↦ subst Goal (sym p) (ends_end k e d at body b)
            | no ne ↦ λ h. absurd (ends_none k e d at kind body (no_kind kind np nf nb ne) h)
          ]
        ]
      ]
    ]

ends_all : (k : ℕ) (e : Draft) → Ends k e
ends_all zero e d at rest room b h = absurd cc
ends_all (suc k) e d at [] room b h = absurd cc
ends_all (suc k) e d at (kind ∷ body) room b h = ends_record k e (ends_all k e) d at kind body room (λ i. b (suc i)) h

-- the whole file, from its first record
pub encoded_read : (bytes : List ℕ) (d : Draft) → Bytes bytes → read bytes ≡ Ok d → bytes ≡ encoded d
encoded_read bytes d b h =
    ends_all (length bytes) d empty_draft 0 bytes (record { for_ports = refl; for_flows = refl; for_rows = refl }) b (sym (read_from_reads (length bytes) empty_draft 0 bytes) ∙ h)

-- The file of a draft reads back: a reader that leaves behind what it has read, and one step of it for each kind of record.
use Rattle.std.proofs.Common.{◌≡◌, ℕ, zero, suc, ◌+◌, ◌*◌, ◌/◌, ◌%◌, ◌<◌, ◌≤◌, ltb, List, [], ◌∷◌, ◌++◌, length, get_or, take, drop, set, replicate, All, Ok, Err, Result, sym, refl, ap, ◌∙◌, subst, add-one, arith}
use Rattle.std.proofs.lemmas.List.{append_assoc, drop-drop, drop_more, get_or-take, length-take-le, set_at, take_more}
use Rattle.std.proofs.lemmas.Bool.{cond-false, le-ltb}
use Rattle.std.proofs.lemmas.Bool.Decides.{nat_tests}
use Rattle.draft.specs.Plans.{blank_flow, blank_row, empty_draft, flow_at, no_flow, no_port, no_proposal, no_row, port_at, row_at}
use Rattle.draft.specs.declared.draft.Draft.{Draft}
use Rattle.draft.specs.declared.flow.Flow.{Flow}
use Rattle.draft.specs.declared.port.Port.{Port}
use Rattle.draft.specs.declared.table.Row.{Row}
use Rattle.file.specs.Counts.{Few, HasCells, HasPath, flows, ports, rows}
use Rattle.file.specs.Additions.{with_flow, with_port, with_row}
use Rattle.file.specs.Reads.{end_answer, flow_answer, port_answer, read, read_from, record_answer, record_draft, record_size, row_answer, then_read}
use Rattle.file.specs.Records.{flow_of, port_of, row_of}
use Rattle.file.specs.Returns.{cut_to, fronted, tidied}
use Rattle.file.specs.Writes.{bytes_of, encoded, end_record, flow_bytes, flow_record, port_bytes, port_record, records, row_bytes, row_record}
use Rattle.file.proofs.Writing.{length_encoded}
use Rattle.file.specs.declared.fault.FileFault.{FileFault}
use Rattle.file.specs.declared.fault.FileFault.TheVariants.{Cut}
use Rattle.file.specs.declared.reader.Progress.TheVariants.{Done, More}

-- the records of what is left of a file
abbrev pub reads : ℕ → Draft → ℕ → List ℕ → Result Draft FileFault
reads zero d at rest = Err (Cut at)
reads (suc n) d at rest =
    then_read (record_answer d at rest) (record_draft d rest) (reads n (record_draft d rest) (at + record_size rest) (drop (record_size rest) rest))

pub read_from_reads : (n : ℕ) (d : Draft) (at : ℕ) (bytes : List ℕ) → read_from n d at bytes ≡ reads n d at (drop at bytes)
read_from_reads zero d at bytes = refl
read_from_reads (suc n) d at bytes =
    let rest = drop at bytes in
    let e = record_draft d rest in
    let next = at + record_size rest in
    ap (then_read (record_answer d at rest) e) (read_from_reads n e next bytes ∙ ap (reads n e next) (sym (drop-drop (record_size rest) at bytes)))

-- four bytes give their number again
number_bytes : (n : ℕ) → ((n / 16777216 * 256 + n / 65536 % 256) * 256 + n / 256 % 256) * 256 + n % 256 ≡ n
number_bytes n = omega arith

port_of_record : (q : Port) (rest : List ℕ) → port_of (drop 1 (port_record q) ++ rest) ≡ q
port_of_record q rest = simp number_bytes

-- a list, element by element
unfoldable pub listed : (ℕ → ℕ) → ℕ → List ℕ
listed f zero = []
listed f (suc n) = f 0 ∷ listed (λ k. f (suc k)) n

listed_all : (xs : List ℕ) → listed (λ k. get_or xs k 0) (length xs) ≡ xs
unfolding listed
listed_all [] = refl
listed_all (x ∷ xs) = ap (λ ys. x ∷ ys) (listed_all xs)

pub listed_8 : (xs : List ℕ) → length xs ≡ 8 → get_or xs 0 0 ∷ get_or xs 1 0 ∷ get_or xs 2 0 ∷ get_or xs 3 0 ∷ get_or xs 4 0 ∷ get_or xs 5 0 ∷ get_or xs 6 0 ∷ get_or xs 7 0 ∷ [] ≡ xs
unfolding listed
listed_8 xs h = ap (listed (λ k. get_or xs k 0)) (sym h) ∙ listed_all xs

flow_of_record : (w : Flow) (rest : List ℕ) → length w.path.ports ≡ 8 → flow_of (drop 1 (flow_record w) ++ rest) ≡ w
flow_of_record w rest h = simp (number_bytes, listed_8 w.path.ports h)

row_of_record : (f : ℕ) (r : Row) (rest : List ℕ) → length r.cells ≡ 8 → row_of (drop 1 (row_record f r) ++ rest) ≡ r
row_of_record f r rest h = simp (number_bytes, listed_8 r.cells h)

port_more : (d : Draft) (at : ℕ) → flows d ≡ 0 → rows d ≡ 0 → ports d < 32 → port_answer d at ≡ Ok More
port_more d at f r p = grind (arith, nat_tests)

flow_more : (d : Draft) (at : ℕ) → rows d ≡ 0 → flows d < 64 → flow_answer d at ≡ Ok More
flow_more d at r f = grind (arith, nat_tests)

row_more : (d : Draft) (at n : ℕ) → n ≡ rows d → rows d < 64 → row_answer d at n ≡ Ok More
row_more d at n e r = grind (arith, nat_tests)

-- a record in front of the rest: it is taken, and the reader stands behind it
reads_port : (k : ℕ) (d : Draft) (at : ℕ) (q : Port) (rest : List ℕ) → flows d ≡ 0 → rows d ≡ 0 → ports d < 32 → reads (suc k) d at (port_record q ++ rest) ≡ reads k (with_port d q) (at + 17) rest
reads_port k d at q rest f r p =
    let body = drop 1 (port_record q) ++ rest in
    let answer : record_answer d at (port_record q ++ rest) ≡ Ok More =
    cond-false (ltb (length body) 16) _ _ (le-ltb (length body) 16 (omega arith)) ∙ port_more d at f r p in
    ap (λ a. then_read a (with_port d (port_of body)) (reads k (with_port d (port_of body)) (at + 17) rest)) answer
    ∙ ap (λ x. reads k (with_port d x) (at + 17) rest) (port_of_record q rest)

reads_flow : (k : ℕ) (d : Draft) (at : ℕ) (w : Flow) (rest : List ℕ) → rows d ≡ 0 → flows d < 64 → length w.path.ports ≡ 8 → reads (suc k) d at (flow_record w ++ rest) ≡ reads k (with_flow d w) (at + 27) rest
reads_flow k d at w rest r f n =
    let body = drop 1 (flow_record w) ++ rest in
    let answer : record_answer d at (flow_record w ++ rest) ≡ Ok More =
    cond-false (ltb (length body) 26) _ _ (le-ltb (length body) 26 (omega arith)) ∙ flow_more d at r f in
    ap (λ a. then_read a (with_flow d (flow_of body)) (reads k (with_flow d (flow_of body)) (at + 27) rest)) answer
    ∙ ap (λ x. reads k (with_flow d x) (at + 27) rest) (flow_of_record w rest n)

reads_row : (k : ℕ) (d : Draft) (at f : ℕ) (r : Row) (rest : List ℕ) → f ≡ rows d → rows d < 64 → length r.cells ≡ 8 → reads (suc k) d at (row_record f r ++ rest) ≡ reads k (with_row d r) (at + 34) rest
reads_row k d at f r rest e l n =
    let body = drop 1 (row_record f r) ++ rest in
    let answer : record_answer d at (row_record f r ++ rest) ≡ Ok More =
    cond-false (ltb (length body) 33) _ _ (le-ltb (length body) 33 (omega arith)) ∙ row_more d at f e l in
    ap (λ a. then_read a (with_row d (row_of body)) (reads k (with_row d (row_of body)) (at + 34) rest)) answer
    ∙ ap (λ x. reads k (with_row d x) (at + 34) rest) (row_of_record f r rest n)

end_done : (d : Draft) (at n : ℕ) → n ≡ ports d + flows d + rows d → end_answer d at (bytes_of n) ≡ Ok Done
end_done d at n e =
    let same : ((n / 16777216 * 256 + n / 65536 % 256) * 256 + n / 256 % 256) * 256 + n % 256 ≡ ports d + flows d + rows d = number_bytes n ∙ e in
    grind (arith, nat_tests)

reads_end : (k : ℕ) (d : Draft) (at n : ℕ) → n ≡ ports d + flows d + rows d → reads (suc k) d at (end_record n) ≡ Ok d
reads_end k d at n e = ap (λ a. then_read a d (reads k d (at + 5) [])) (end_done d at n e)

-- records of w bytes each, where the n-th takes the draft S n to S (n + 1)
reads_records : (r : ℕ → List ℕ) (w : ℕ) (S : ℕ → Draft) (m at : ℕ)
    → ((n : ℕ) → n < m → (k i : ℕ) (rest : List ℕ) → reads (suc k) (S n) i (r n ++ rest) ≡ reads k (S (suc n)) (i + w) rest)
    → (n : ℕ) → n ≤ m → (k : ℕ) (rest : List ℕ) → reads (n + k) (S 0) at (records r n ++ rest) ≡ reads k (S n) (at + w * n) rest
reads_records r w S m at step zero h k rest =
    let e : zero + k ≡ k = omega arith in
    let a : at ≡ at + w * zero = omega arith in
    ap (λ i. reads i (S 0) at rest) e ∙ ap (λ i. reads k (S 0) i rest) a
reads_records r w S m at step (suc n) h k rest =
    let e : suc n + k ≡ n + suc k = omega arith in
    let a : at + w * n + w ≡ at + w * suc n = omega arith in
    ap (reads (suc n + k) (S 0) at) (append_assoc (records r n) (r n) rest)
    ∙ (ap (λ i. reads i (S 0) at (records r n ++ (r n ++ rest))) e
    ∙ (reads_records r w S m at step n (omega arith) (suc k) (r n ++ rest)
    ∙ (step n (omega arith) k (at + w * n) rest ∙ ap (λ i. reads k (S (suc n)) i rest) a)))

-- one more from the front
fronted_more : {X : Type 0} (xs blanks : List X) (n : ℕ) (z : X) → n < length xs → n < length blanks → set (fronted n xs blanks) n (get_or xs n z) ≡ fronted (suc n) xs blanks
fronted_more xs blanks n z h l =
    let x = get_or xs n z in
    let front : length (take n xs) ≡ n = length-take-le n xs (omega arith) in
    ap (λ s. set (take n xs ++ s) n x) (drop_more blanks n z l)
    ∙ (set_at (take n xs) (get_or blanks n z) (drop (n + 1) blanks) x n front
    ∙ (sym (append_assoc (take n xs) (x ∷ []) (drop (n + 1) blanks))
    ∙ (ap (λ s. s ++ drop (n + 1) blanks) (sym (take_more xs n z h)) ∙ ap (λ m. fronted m xs blanks) (add-one n))))

-- a draft cut off, with one port, flow or row more
with_port_cut : (d : Draft) (i : ℕ) → i < length d.parts.ports → i < 32 → with_port (cut_to i 0 0 d) (port_at d.parts i) ≡ cut_to (suc i) 0 0 d
with_port_cut d i h l =
    let cut : List Port → ℕ → Draft = λ xs n. record { parts = record { ports = xs; flows = replicate 64 blank_flow; size = record { ports = n; flows = 0 } }; proposal = no_proposal } in
    ap (λ xs. cut xs (i + 1)) (fronted_more d.parts.ports (replicate 32 no_port) i no_port h l)
    ∙ ap (cut (fronted (suc i) d.parts.ports (replicate 32 no_port))) (add-one i)

with_flow_cut : (d : Draft) (i j : ℕ) → j < length d.parts.flows → j < 64 → with_flow (cut_to i j 0 d) (flow_at d.parts j) ≡ cut_to i (suc j) 0 d
with_flow_cut d i j h l =
    let P = fronted i d.parts.ports (replicate 32 no_port) in
    let cut : List Flow → ℕ → Draft = λ xs n. record { parts = record { ports = P; flows = xs; size = record { ports = i; flows = n } }; proposal = no_proposal } in
    ap (λ xs. cut xs (j + 1)) (fronted_more d.parts.flows (replicate 64 blank_flow) j no_flow h l)
    ∙ ap (cut (fronted (suc j) d.parts.flows (replicate 64 blank_flow))) (add-one j)

with_row_cut : (d : Draft) (i j k : ℕ) → k < length d.proposal.table.rows → k < 64 → with_row (cut_to i j k d) (row_at d.proposal.table k) ≡ cut_to i j (suc k) d
with_row_cut d i j k h l =
    let cut : List Row → ℕ → Draft = λ xs n. record { parts = (cut_to i j 0 d).parts; proposal = record { table = record { rows = xs }; rows = n } } in
    ap (λ xs. cut xs (k + 1)) (fronted_more d.proposal.table.rows (replicate 64 blank_row) k no_row h l)
    ∙ ap (cut (fronted (suc k) d.proposal.table.rows (replicate 64 blank_row))) (add-one k)

taken : {X : Type 0} (P : X → Type 0) (xs : List X) (n : ℕ) → All P (take n xs) → n ≤ length xs → (i : ℕ) (z : X) → i < n → P (get_or xs i z)
taken P xs n all h i z l = subst P (get_or-take n xs i z l) (all i z (omega (arith, length-take-le n xs h)))

-- the file of a draft says what the draft says
pub read_encoded : (d : Draft) → Few d → ports d ≤ length d.parts.ports → flows d ≤ length d.parts.flows → rows d ≤ length d.proposal.table.rows
    → All HasPath (take (flows d) d.parts.flows) → All HasCells (take (rows d) d.proposal.table.rows) → read (encoded d) ≡ Ok (tidied d)
read_encoded d few hp hf hr paths cells =
    let P = ports d in
    let F = flows d in
    let R = rows d in
    let E = end_record (P + F + R) in
    let Rs = records (row_bytes d) R ++ E in
    let Fs = records (flow_bytes d) F ++ Rs in
    let n = 16 * P + 26 * F + 33 * R + 4 in
    let size : length (encoded d) ≡ P + (F + (R + suc n)) = omega (arith, length_encoded d) in
    let by_ports = reads_records (port_bytes d) 17 (λ i. cut_to i 0 0 d) P 0 (λ i h k at rest. reads_port k (cut_to i 0 0 d) at (port_at d.parts i) rest refl refl (omega (arith, few.0)) ∙ ap (λ e. reads k e (at + 17) rest) (with_port_cut d i (omega (arith, hp)) (omega (arith, few.0)))) P (omega arith) in
    let by_flows = reads_records (flow_bytes d) 27 (λ j. cut_to P j 0 d) F (0 + 17 * P) (λ j h k at rest. reads_flow k (cut_to P j 0 d) at (flow_at d.parts j) rest refl (omega (arith, few.1)) (taken HasPath d.parts.flows F paths hf j no_flow h) ∙ ap (λ e. reads k e (at + 27) rest) (with_flow_cut d P j (omega (arith, hf)) (omega (arith, few.1)))) F (omega arith) in
    let by_rows = reads_records (row_bytes d) 34 (λ r. cut_to P F r d) R (0 + 17 * P + 27 * F) (λ r h k at rest. reads_row k (cut_to P F r d) at r (row_at d.proposal.table r) rest refl (omega (arith, few.2)) (taken HasCells d.proposal.table.rows R cells hr r no_row h) ∙ ap (λ e. reads k e (at + 34) rest) (with_row_cut d P F r (omega (arith, hr)) (omega (arith, few.2)))) R (omega arith) in
    let apart : encoded d ≡ records (port_bytes d) P ++ Fs = simp append_assoc in
    read_from_reads (length (encoded d)) empty_draft 0 (encoded d)
    ∙ (ap (λ k. reads k empty_draft 0 (encoded d)) size
    ∙ (ap (reads (P + (F + (R + suc n))) empty_draft 0) apart
    ∙ (by_ports (F + (R + suc n)) Fs ∙ (by_flows (R + suc n) Rs ∙ (by_rows (suc n) E ∙ reads_end n (tidied d) (0 + 17 * P + 27 * F + 34 * R) (P + F + R) refl)))))

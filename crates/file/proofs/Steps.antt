-- The records of a file, one at a time.
use Rattle.std.proofs.Common.{◌≡◌, ℕ, suc, ◌+◌, ◌-◌, ◌<◌, List, drop, ap, arith}
use Rattle.draft.specs.declared.draft.Draft.{Draft}
use Rattle.file.specs.Reads.{read_from, record_answer, record_draft, record_size, then_read}

-- the records that are left after some turns of so many, the next one first
pub read_left : (most turns : ℕ) (d : Draft) (at : ℕ) (xs : List ℕ) → turns < most
    → read_from (most - turns) d at xs
    ≡ then_read (record_answer d at (drop at xs)) (record_draft d (drop at xs)) (read_from (most - (turns + 1)) (record_draft d (drop at xs)) (at + record_size (drop at xs)) xs)
read_left most turns d at xs h =
    let e : most - turns ≡ suc (most - (turns + 1)) = omega arith in
    ap (λ n. read_from n d at xs) e

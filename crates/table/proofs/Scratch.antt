-- A table laid out in the scratch.
use Rattle.std.proofs.Common.{◌≡◌, ℕ, ◌+◌, ◌-◌, ◌/◌, ◌%◌, ◌<◌, ◌≤◌, cond, ltb, List, ◌++◌, length, get_or, drop, ◌∙◌, arith}
use native.Mathlib.Decide.{dec_lt}
use Rattle.std.proofs.lemmas.List.FromFn.{get_or-map-range_with_len, length-map-range_with_len}
use Rattle.std.proofs.lemmas.List.{ext_get_or, get_or_append_left, get_or-append_right, get_or-drop, length-append, length-drop}
use Rattle.std.proofs.lemmas.Bool.{le-ltb, lt-ltb}
use Rattle.draft.specs.Plans.{cell}
use Rattle.draft.specs.declared.table.Table.{Table}
use Rattle.table.specs.Quotes.{flat}

flat_long : (t : Table) → length (flat t) ≡ 512
unfolding flat
flat_long t = length-map-range_with_len (λ i. cell t (i / 8) (i % 8)) 0 512

flat_at : (t : Table) (j : ℕ) → j < 512 → get_or (flat t) j 0 ≡ cell t (j / 8) (j % 8)
unfolding flat
flat_at t j h = get_or-map-range_with_len (λ i. cell t (i / 8) (i % 8)) 0 512 j j 0 h (omega arith)

pub laid_all : (t : Table) (was xs : List ℕ) (i : ℕ) → length xs ≡ length was → 512 ≤ length was → i ≡ 512
    → ((j : ℕ) → j < length xs → get_or xs j 0 ≡ cond (ltb j i) (cell t (j / 8) (j % 8)) (get_or was j 0)) → xs ≡ flat t ++ drop 512 was
laid_all t was xs i e h q inv =
    ext_get_or 0 xs (flat t ++ drop 512 was) (simp (length-append, length-drop) (omega (arith, flat_long t))) (λ j lt. inv j lt ∙ elim (dec_lt j 512) [
      | yes a ↦
          (let b : j < length (flat t) = omega (arith, flat_long t) in
          let c : j < i = omega arith in
          rw (lt-ltb j i c, get_or_append_left (flat t) (drop 512 was) 0 j b, flat_at t j a))
      | no a ↦
          (let b : 512 ≤ j = omega arith in
          let c : i ≤ j = omega arith in
          let k : 512 + (j - 512) ≡ j = omega arith in
          rw (le-ltb j i c, get_or-append_right (flat t) (drop 512 was) 512 j 0 (flat_long t) b, get_or-drop 512 was (j - 512) 0, k))
    ])

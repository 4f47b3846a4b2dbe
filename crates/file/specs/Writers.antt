-- Bytes written into a lent place one behind the other.
use Rattle.std.specs.Prelude.{◌≡◌, ℕ, List, ◌++◌, length, take, drop}
use Rattle.std.specs.List.{enumerate_from, flat_map}
use Rattle.file.specs.declared.encoder.writer.Writer.{Writer}

-- what a writer has written, and what the place holds behind it
unfoldable pub done : Writer → List ℕ
done w = take w.at w.place.now

unfoldable pub left : Writer → List ℕ
left w = drop w.at w.place.now

-- more bytes stand behind what was written, in the same place, and the rest is as it was
pub record Wrote (old : Writer) (bytes : List ℕ) (new : Writer) : Type 0 where
  pub owner : new.place.ghost_name ≡ old.place.ghost_name
  pub more : done new ≡ done old ++ bytes
  pub rest : left new ≡ drop (length bytes) (left old)

-- some records one behind the other, each told its number, from n on
abbrev pub in_order : {X : Type 0} → (ℕ → X → List ℕ) → ℕ → List X → List ℕ
in_order f n xs = flat_map (λ p. f p.0 p.1) (enumerate_from n xs)

-- The lines of a sheet: a word, and numbers in decimal, each after a blank.
use Rattle.std.specs.Prelude.{ℕ, List, [], ◌∷◌, ◌++◌, decimal}
use Rattle.std.specs.List.{flat_map}

-- a number after a blank
abbrev pub field : ℕ → List ℕ
field n = 32 ∷ decimal n

-- a word, its numbers, and the byte that ends a line
abbrev pub line : List ℕ → List ℕ → List ℕ
line word ns = word ++ flat_map field ns ++ 10 ∷ []

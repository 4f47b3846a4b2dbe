-- How wide numbers and lines are.
use Rattle.std.proofs.Common.{◌≡◌, ℕ, ◌+◌, ◌<◌, ◌≤◌, ◌^◌, List, [], ◌∷◌, ◌++◌, length, decimal, codes, arith, lit<, length-append}
use Rattle.std.specs.List.{flat_map, sum_by}
use Rattle.std.proofs.lemmas.Fmt.{length-decimal-le}
use Rattle.std.proofs.lemmas.List.Concat.{length-flat_map}
use Rattle.printing.specs.Lines.{field, line}

-- a number of 64 bits has at most 20 digits
pub wide : (n : ℕ) → n < 2 ^ 64 → length (decimal n) ≤ 20
wide n h = length-decimal-le 20 n (lit< tt) (omega arith) (omega arith)

-- a number below 100 has at most 2
pub narrow : (n : ℕ) → n < 100 → length (decimal n) ≤ 2
narrow n h = length-decimal-le 2 n (lit< tt) (omega arith) (omega arith)

-- the word, the fields and the byte that ends the line
pub length_line : (w ns : List ℕ) → length (line w ns) ≡ length w + sum_by (λ n. length (field n)) ns + 1
length_line w ns =
    omega (arith, length-append (w ++ flat_map field ns) (10 ∷ []), length-append w (flat_map field ns), length-flat_map field ns)

-- the widest line of each word
pub kit_width : (a b c : ℕ) → a < 100 → b < 100 → c < 2 ^ 64 → length (line (codes "KIT") (a ∷ b ∷ c ∷ [])) ≤ 31
kit_width a b c x y z = omega (arith, length_line (codes "KIT") (a ∷ b ∷ c ∷ []), narrow a x, narrow b y, wide c z)

pub port_width : (p a b : ℕ) → p < 100 → a < 2 ^ 64 → b < 2 ^ 64 → length (line (codes "PORT") (p ∷ a ∷ b ∷ [])) ≤ 50
port_width p a b x y z = omega (arith, length_line (codes "PORT") (p ∷ a ∷ b ∷ []), narrow p x, wide a y, wide b z)

pub flow_width : (f a : ℕ) → f < 100 → a < 2 ^ 64 → length (line (codes "FLOW") (f ∷ a ∷ [])) ≤ 29
flow_width f a x y = omega (arith, length_line (codes "FLOW") (f ∷ a ∷ []), narrow f x, wide a y)

pub no_width : (a b c : ℕ) → a < 2 ^ 64 → b < 2 ^ 64 → c < 2 ^ 64 → length (line (codes "NO") (a ∷ b ∷ c ∷ [])) ≤ 66
no_width a b c x y z = omega (arith, length_line (codes "NO") (a ∷ b ∷ c ∷ []), wide a x, wide b y, wide c z)

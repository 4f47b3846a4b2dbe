-- A refusal by its number and place.
use Rattle.std.specs.Prelude.{ℕ, ◌/◌, List, ◌++◌, codes, decimal}
use Rattle.refusal.specs.declared.Refusal.{Refusal}

-- the layer is the number's tens
abbrev pub refused : ℕ → ℕ → Refusal
refused number place = record { layer = number / 10; number = number; place = place }

-- a refusal in words: its layer, number and place
abbrev pub shown : Refusal → List ℕ
shown r = decimal r.layer ++ (codes " " ++ (decimal r.number ++ (codes " " ++ decimal r.place)))

-- What a regulator holds: a level and a line of at most 16 frames.
use Rattle.std.specs.Prelude.{ℕ, ◌+◌, ◌-◌, min, Bool, cond, List, [], ◌∷◌, ◌++◌, length, take, replicate, Some, None, Option, nat_le, nat_lt}
use Rattle.service.specs.Entries.{no_frame}
use Rattle.service.specs.declared.frame.Frame.{Frame}
use Rattle.regulator.specs.declared.regulator.Regulator.{Regulator}

pub record Held : Type 0 where
  pub level : ℕ
  pub line : List Frame

abbrev pub held : Regulator → Held
held r = record { level = r.level; line = take (min r.waiting 16) r.frames }

-- what stands where there is no regulator
abbrev pub no_regulator : Regulator
no_regulator = record { level = 0; frames = []; waiting = 0 }

-- empty, and full whatever its burst
abbrev pub fresh_regulator : Regulator
fresh_regulator = record { level = 4294967295; frames = replicate 16 no_frame; waiting = 0 }

-- a frame joins where fewer than 16 wait
abbrev pub join_answer : Held → Bool
join_answer h = nat_lt (length h.line) 16

abbrev pub join_after : Held → Frame → Held
join_after h x = cond (join_answer h) (record { level = h.level; line = h.line ++ x ∷ [] }) h

-- the first frame, where this level covers it
abbrev pub first_covered : ℕ → List Frame → Option Frame
first_covered level [] = None
first_covered level (x ∷ xs) = cond (nat_le x.len level) (Some x) None

-- and what is then left; or what there was, whose level is h
abbrev pub without_first : ℕ → ℕ → List Frame → Held
without_first h level [] = record { level = h; line = [] }
without_first h level (x ∷ xs) =
    cond (nat_le x.len level) (record { level = level - x.len; line = xs }) (record { level = h; line = x ∷ xs })

-- a level above the burst counts as the burst
abbrev pub out_answer : ℕ → Held → Option Frame
out_answer burst h = first_covered (min h.level burst) h.line

abbrev pub out_after : ℕ → Held → Held
out_after burst h = without_first h.level (min h.level burst) h.line

-- the level rises by the rate, at most to the burst
abbrev pub rise_after : Held → ℕ → ℕ → Held
rise_after h rate burst = record { level = min burst (h.level + rate); line = h.line }

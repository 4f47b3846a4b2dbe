-- What the questions about regulators answer.
use Rattle.std.specs.Prelude.{◌≡◌, ℕ, ◌<◌, true, false, cond, List, Some, None, Option, nat_lt}
use Rattle.draft.specs.Plans.{no_port, port_at}
use Rattle.draft.specs.declared.parts.Parts.{Parts}
use Rattle.draft.specs.declared.port.Port.{Port}
use denote.Ref.{Bor}
use Rattle.regulator.specs.declared.regulator.Regulator.{Regulator}
use Rattle.service.specs.declared.frame.Frame.{Frame}
use Rattle.model.specs.Networks.{gated}
use Rattle.network.specs.Views.{Net, number, regulator_in}

-- a port's figures, and 0 for what is no port
abbrev pub port_figures : Net → ℕ → Port
port_figures N p = cond (nat_lt p N.parts.size.ports) (port_at N.parts p) no_port

-- the level of the regulator before hop k of flow f, and 0 where there is none
abbrev pub regulator_level : Net → ℕ → ℕ → ℕ
regulator_level N f k = cond (gated N.parts f k) (N.state.level f k) 0

-- the frames that wait at it
abbrev pub regulator_line : Net → ℕ → ℕ → List Frame
regulator_line N f k = N.state.waiting f k

-- the number of a regulator; or none, where there is no regulator
abbrev pub NumberOf : Parts → ℕ → ℕ → Option ℕ → Type 0
NumberOf P f k None = gated P f k ≡ false
NumberOf P f k (Some n) = (gated P f k ≡ true) × (n ≡ number P f k) × (n < 32) × (f < P.size.flows)

-- the regulator of that number, as it stands among them; or none
abbrev pub RegulatorOf : Parts → List Regulator → ℕ → ℕ → Option (Bor Regulator) → Type 0
RegulatorOf P rs f k None = gated P f k ≡ false
RegulatorOf P rs f k (Some r) = (gated P f k ≡ true) × (r.now ≡ regulator_in P rs f k) × (f < P.size.flows)

-- What an accepted table promises of every run.
use Rattle.std.specs.Prelude.{◌≡◌, ℕ, ◌+◌, ◌<◌, ◌≤◌, List, ◌∷◌, ◌++◌, map}
use Rattle.std.specs.List.{AllByRecursion}
use Rattle.draft.specs.declared.parts.Parts.{Parts}
use Rattle.draft.specs.declared.table.Table.{Table}
use Rattle.plan.specs.Limits.{Kept}
use Rattle.table.specs.Accepts.{Accepted}
use Rattle.table.specs.Loads.{backlog, delay}
use Rattle.table.specs.Paths.{flow_delay}
use Rattle.calculus.specs.Windows.{total}
use Rattle.model.specs.Networks.{Handed, State, owed, route, spare}
use Rattle.model.specs.Runs.{Event, Run, Sent, accepted, asked, delivered, ended, inside, refused, sent, told, unended}

-- every frame of a tray has stayed at its port for at most the quoted delay, and no slot end has lost a frame
abbrev pub Timely : Parts → Table → Event → Type 0
Timely P t (accepted f n s) = Unit {0}
Timely P t (refused f n) = Unit {0}
Timely P t (ended s frames lost) = AllByRecursion (λ x. s ≤ x.entry + delay P t (route P x.flow x.hop)) frames × (lost ≡ 0)
Timely P t unended = Unit {0}
Timely P t asked = Unit {0}

pub record Promise (P : Parts) (t : Table) (es : List Event) (st : State) : Type 0 where
  -- no frame stays at a port, or has stayed, beyond that port's quoted delay; and none was lost
  pub stays : (p : ℕ) → p < P.size.ports → AllByRecursion (λ x. st.slot ≤ x.entry + delay P t p) (st.line p)
  pub stayed : AllByRecursion (Timely P t) es
  -- no port holds more than its quoted backlog
  pub backlogs : (p : ℕ) → p < P.size.ports → total (λ x. x.len) (st.line p) ≤ backlog P t p
  -- a frame is delivered, in its place among its flow's, once the slot end in its origin slot + the quoted delay is carried out
  pub delivers : (f : ℕ) → f < P.size.flows → (before : List Sent) (x : Sent) (after : List Sent) → sent f es ≡ before ++ x ∷ after
      → x.origin + flow_delay P t f < st.slot → (more : List Sent) × (delivered P f es ≡ before ++ x ∷ more)
  -- the frames accepted are those delivered and then those inside: none lost, doubled or overtaken
  pub order : (f : ℕ) → f < P.size.flows → sent f es ≡ delivered P f es ++ map told (inside P st f)

-- for every plan, circles included, every accepted table of it, and every list of calls
abbrev pub Promised : Type 0
Promised = (P : Parts) → Kept P → (t : Table) → Accepted P t → (es : List Event) (st : State) → Run P es st → Promise P t es st

-- and in every state that a run comes to a slot can end: the ports may hand over just what is due
abbrev pub NeverStuck : Type 0
NeverStuck =
    (P : Parts) → Kept P → (t : Table) → Accepted P t → (es : List Event) (st : State) → Run P es st
    → Handed P st (λ p. owed st.slot (st.line p)) (λ p. spare st.slot (st.line p))

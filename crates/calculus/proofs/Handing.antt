-- A front of a line leaves at once.
use Rattle.std.proofs.Common.{◌≡◌, ℕ, ◌+◌, ◌<◌, ◌≤◌, List, [], ◌∷◌, ◌++◌, length, set, sym, ap, ◌∙◌, subst, ap₂, append_assoc, append-nil}
use Rattle.std.proofs.lemmas.List.{get_or-set_same, set-get_or, set-set}
use Rattle.std.specs.List.{AllByRecursion}
use Rattle.calculus.proofs.Lines.{at_port, line_same}
use Rattle.calculus.specs.Systems.{Port, Reaches, Step, System, Traced, World, departed, entry, idle, line_at, popped}

pub run_after : (S : System) (s t u : World) → Reaches S s t → Reaches S t u → Reaches S s u
run_after S s t u r Reaches.here = r
run_after S s t u r (Reaches.then {v = v} q step) = Reaches.then (run_after S s t v r q) step

-- the state with other ports and other loose frames
abbrev pub with_ports : World → List Port → List Traced → World
with_ports st ports loose = record { now = st.now; ports = ports; loose = loose; level = st.level; taken = st.taken }

pub hands_over : (S : System) (st : World) (p : ℕ) (xs rest : List Traced) → line_at st.ports p ≡ xs ++ rest → AllByRecursion (λ x. entry x + S.least p + 1 ≤ st.now) xs
    → Reaches S st (with_ports st (popped p rest st.ports) (st.loose ++ xs))
hands_over S st p [] rest e h = subst (λ (s : World). Reaches S st s) (ap₂ (with_ports st) same (sym (append-nil st.loose))) Reaches.here
  where
    same : st.ports ≡ popped p rest st.ports
    same = sym (set-get_or st.ports p idle) ∙ ap (λ l. popped p l st.ports) e
hands_over S st p (x ∷ xs) rest e h =
    subst (λ (s : World). Reaches S st s) (ap₂ (with_ports st) twice (append_assoc st.loose (x ∷ []) xs))
    (run_after S st (departed st p x (xs ++ rest)) _ (Reaches.then Reaches.here (Step.leaves p x (xs ++ rest) e h.0))
    (hands_over S (departed st p x (xs ++ rest)) p xs rest (line_same st.ports p _ inn) h.1))
  where
    inn : p < length st.ports
    inn = at_port st.ports p x (xs ++ rest) e

    twice : popped p rest (popped p (xs ++ rest) st.ports) ≡ popped p rest st.ports
    twice = set-set st.ports p _ _ ∙ ap (λ F. set st.ports p (record { finish = F; line = rest })) (ap Port.finish (get_or-set_same st.ports p _ idle inn))

-- What is to be shown of each decision of a step: the view makes one move, with the event of the answer. Assumes nothing.
use Prim.Native.Nat.{ℕ, ◌+◌, ◌-◌}
use mathlib.Core.Path.{◌≡◌, ap, ◌∙◌}
use native.Mathlib.Omega.{arith}
use Rattle.promise.specs.Names.{Decision, Ending, Entry, Held, Message, Run, Step}
use Rattle.run.specs.Steps.{slot_at, put_back}
use Rattle.promise.specs.Events.{nothing, ending, ending_in, answer_event}
use Rattle.promise.proofs.View.{Move}
use Rattle.promise.proofs.SimView.{view, QuorumIn, by_nothing}

abbrev pub Moves : Run → Step → Decision → Type 0
Moves run s d =
    Move (QuorumIn run.plan) (view run) (view (put_back run d).run) (answer_event run s (put_back run d).run (put_back run d).answer)

-- a refusal, whatever it says
pub refused_stays : (run : Run) → Move (QuorumIn run.plan) (view run) (view run) nothing
refused_stays run = by_nothing (QuorumIn run.plan) run

-- the event of a part that ended, by the reply in the slot
pub ending_event : (run : Run) (j : ℕ) (m : Message) → (slot_at run j).held ≡ Held.Reply m → (how : Ending) (e : Entry)
    → ending_in how (slot_at run (j + 1 - 1)).held e ≡ ending how m e
ending_event run j m at_j how e =
    ap (λ (i : ℕ). ending_in how (slot_at run i).held e) (omega arith) ∙ ap (λ (h : Held). ending_in how h e) at_j

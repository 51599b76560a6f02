-- The rehearsal as a machine that is fed bytes and says bytes: its state, one byte, several, and the input's end. No clause is its
-- own: it says what Rehearsal.antt says.
use Rattle.std.specs.Prelude.{ℕ, ◌+◌, ◌≤◌, Bool, true, false, cond, List, [], ◌∷◌, ◌++◌, ◌≡◌, eqb, leb, ltb, length, take, replicate}
use Rattle.transcript.specs.Names.{Err, None, Ok, Option, Phase, Planned, Rehearsal, Row, Run, Some}
use mathlib.Core.Path.{refl}
use Rattle.run.specs.Start.{start_of}
use Rattle.text.specs.Ends.{unended, breaks}
use Rattle.text.specs.Rows.{most_bytes, row_of, is_header}
use Rattle.print.specs.Put.{Wrote}
use Rattle.print.specs.Rows.{plan_text, refusal_text, no_header_text, head_text, room}
use Rattle.transcript.specs.Phases.{sound_in}
use Rattle.transcript.specs.Rehearsal.{answer_text, run_after}

-- the bytes that are kept of a row: the longest row, and a CR
abbrev pub most_line : ℕ
most_line = most_bytes + 1

-- the bytes of a row so far: at most `most_line`, or more than that
pub data Held : Type 0 where
  Line : List ℕ → Held
  Over : Held

pub record Mach : Type 0 where
  pub held : Held
  pub phase : Phase
  pub row : ℕ
  pub run : Run

-- ---- a row

-- a row at its LF
abbrev pub short : Held → Held
short (Line l) = Line (unended l)
short Over = Over

-- a row that is at hand, or one that is too long
abbrev pub pick_held : Option (List ℕ) → Held
pick_held (Some l) = Line l
pick_held None = Over

abbrev pub row_in : Held → Option Row
row_in (Line l) = row_of l
row_in Over = None

abbrev pub head_in : Held → Bool
head_in (Line l) = is_header l
head_in Over = false

abbrev pub start_phase : Planned → Phase
start_phase (Err w) = Phase.Ended
start_phase (Ok p) = Phase.Running

abbrev pub plan_phase : Option Row → Phase
plan_phase None = Phase.Ended
plan_phase (Some (Row.Plan n k r b)) = start_phase (start_of n k r b).planned
plan_phase (Some (Row.Step s)) = Phase.Ended

abbrev pub plan_run : Run → Option Row → Run
plan_run run None = run
plan_run run (Some (Row.Plan n k r b)) = (start_of n k r b).run
plan_run run (Some (Row.Step s)) = run

abbrev pub plan_say : ℕ → Option Row → List ℕ
plan_say row None = refusal_text row
plan_say row (Some (Row.Plan n k r b)) = plan_text row (start_of n k r b).planned
plan_say row (Some (Row.Step s)) = refusal_text row

-- after a row: the phase, the number of the next row, the run, and what is said
unfoldable pub next_phase : Phase → Held → Phase
next_phase Phase.Header h = cond (head_in h) Phase.Planning Phase.Ended
next_phase Phase.Planning h = plan_phase (row_in h)
next_phase Phase.Running h = Phase.Running
next_phase Phase.Ended h = Phase.Ended

unfoldable pub next_row : Phase → ℕ → ℕ
next_row Phase.Header n = n
next_row Phase.Planning n = n + 1
next_row Phase.Running n = n + 1
next_row Phase.Ended n = n

unfoldable pub next_run : Phase → Run → Held → Run
next_run Phase.Header run h = run
next_run Phase.Planning run h = plan_run run (row_in h)
next_run Phase.Running run h = run_after run (row_in h)
next_run Phase.Ended run h = run

unfoldable pub say_line : Phase → ℕ → Run → Held → List ℕ
say_line Phase.Header n run h = head_text ++ cond (head_in h) [] no_header_text
say_line Phase.Planning n run h = plan_say n (row_in h)
say_line Phase.Running n run h = answer_text n run (row_in h)
say_line Phase.Ended n run h = []

-- ---- bytes

unfoldable pub push : Held → ℕ → Held
push (Line l) b = cond (ltb (length l) most_line) (Line (l ++ (b ∷ []))) Over
push Over b = Over

-- the state after the row that is held is answered
unfoldable pub answered : Mach → Mach
answered m = record { held = Line []; phase = next_phase m.phase m.held; row = next_row m.phase m.row; run = next_run m.phase m.run m.held }

-- the state after a row that ends in LF
unfoldable pub ended : Mach → Mach
ended m = answered (record m { held = short m.held })

-- one byte
unfoldable pub step_m : Mach → ℕ → Mach
step_m m b = cond (eqb b 10) (ended m) (record { held = push m.held b; phase = m.phase; row = m.row; run = m.run })

unfoldable pub say_m : Mach → ℕ → List ℕ
say_m m b = cond (eqb b 10) (say_line m.phase m.row m.run (short m.held)) []

-- several
unfoldable pub run_m : Mach → List ℕ → Mach
run_m m [] = m
run_m m (b ∷ l) = run_m (step_m m b) l

unfoldable pub say_all : Mach → List ℕ → List ℕ
say_all m [] = []
say_all m (b ∷ l) = say_m m b ++ say_all (step_m m b) l

-- the input's end: a row that has no LF, or an input with no byte
unfoldable pub end_by : Phase → ℕ → Run → Held → List ℕ
end_by Phase.Header n run h = say_line Phase.Header n run h
end_by Phase.Planning n run (Line []) = []
end_by Phase.Planning n run (Line (b ∷ l)) = say_line Phase.Planning n run (Line (b ∷ l))
end_by Phase.Planning n run Over = say_line Phase.Planning n run Over
end_by Phase.Running n run (Line []) = []
end_by Phase.Running n run (Line (b ∷ l)) = say_line Phase.Running n run (Line (b ∷ l))
end_by Phase.Running n run Over = say_line Phase.Running n run Over
end_by Phase.Ended n run h = []

abbrev pub end_text : Mach → List ℕ
end_text m = end_by m.phase m.row m.run m.held

-- what is said of the rest of an input
unfoldable pub text_from : Mach → List ℕ → List ℕ
text_from m [] = end_text m
text_from m (b ∷ l) = say_m m b ++ text_from (step_m m b) l

-- the run is none that is used: a plan row makes its own
abbrev pub start : Mach
start = record { held = Line []; phase = Phase.Header; row = 1; run = (start_of 2 0 0 0).run }

-- an input in parts, and what is said part by part and at the end
abbrev pub joined : List (List ℕ) → List ℕ
joined [] = []
joined (c ∷ cs) = c ++ joined cs

abbrev pub said_by : Mach → List (List ℕ) → List ℕ
said_by m [] = end_text m
said_by m (c ∷ cs) = say_all m c ++ said_by (run_m m c) cs

-- ---- what the code keeps

-- one byte more than `most_line` stands for all lengths above it
unfoldable pub held_of : ℕ → List ℕ → Held
held_of n line = cond (leb n most_line) (Line (take n line)) Over

abbrev pub mach_of : Rehearsal → Mach
mach_of r = record { held = held_of r.len r.line; phase = r.phase; row = r.row; run = r.run }

abbrev pub fresh : Rehearsal
fresh = record { line = replicate most_line 0; len = 0; phase = Phase.Header; row = 1; run = (start_of 2 0 0 0).run; sound = refl }

-- where a step row begins
abbrev pub at_row : ℕ → Run → Mach
at_row n run = record { held = Line []; phase = Phase.Running; row = n; run = run }

-- the bytes held of a row have no LF
abbrev pub held_breaks : Held → ℕ
held_breaks (Line l) = breaks l
held_breaks Over = 0

-- what every state has that is fed from the start
abbrev pub Whole : Mach → Type 0
Whole m = (sound_in m.phase m.run ≡ true) × (held_breaks m.held ≡ 0)

abbrev pub at_step : Phase → ℕ → Bool
at_step Phase.Header len = false
at_step Phase.Planning len = false
at_step Phase.Running len = eqb len 0
at_step Phase.Ended len = false

-- whether anything is said of what follows
abbrev pub goes_on : Phase → Bool
goes_on Phase.Header = true
goes_on Phase.Planning = true
goes_on Phase.Running = true
goes_on Phase.Ended = false

-- a row h is answered in phase p, by the rehearsal r, which is then r': the buffer, d before, is e after, and its text ends at `end`
abbrev pub Acted : Phase → Held → Rehearsal → Rehearsal → List ℕ → ℕ → List ℕ → ℕ → Type 0
Acted p h r r' d at e end =
    (r'.phase ≡ next_phase p h)
    × (r'.row ≡ next_row p r.row)
    × (r'.run ≡ next_run p r.run h)
    × Wrote d at (say_line p r.row r.run h) e end
    × (end ≤ at + room)

-- The rehearsal, from all bytes of the input to all bytes of the output: clauses S16 and S17 of docs/SCOPE.md. A row is the list
-- of its bytes.
use Rattle.std.specs.Prelude.{ℕ, ◌+◌, cond, List, [], ◌∷◌, ◌++◌, eqb}
use Rattle.transcript.specs.Names.{Err, None, Ok, Option, Planned, Row, Run, Some}
use Rattle.run.specs.Start.{start_of}
use Rattle.run.specs.Steps.{step_of}
use Rattle.text.specs.Ends.{unended}
use Rattle.text.specs.Rows.{row_of, is_header}
use Rattle.print.specs.Rows.{step_text, plan_text, refusal_text, no_header_text, head_text}

-- S16.2: what stands behind the last LF is a row as it is, where it has a byte
abbrev pub last_row : List ℕ → List (List ℕ)
last_row [] = []
last_row (b ∷ l) = (b ∷ l) ∷ []

-- S16.1, S16.2: the rows of l, where p is what stands in front of l in its first row; LF is the byte 10, and nothing else ends a row
unfoldable pub rows_from : List ℕ → List ℕ → List (List ℕ)
rows_from p [] = last_row p
rows_from p (b ∷ l) = cond (eqb b 10) (unended p ∷ rows_from [] l) (rows_from (p ++ (b ∷ [])) l)

-- S16.9: a step is taken; S16.10: a row of another form, and a second plan, is answered 2
abbrev pub answer_text : ℕ → Run → Option Row → List ℕ
answer_text n run None = refusal_text n
answer_text n run (Some (Row.Plan a b c d)) = refusal_text n
answer_text n run (Some (Row.Step s)) = step_text n (step_of run s).answer

-- S16.9: the step changes the run; S16.10: a row of another form changes nothing
abbrev pub run_after : Run → Option Row → Run
run_after run None = run
run_after run (Some (Row.Plan a b c d)) = run
run_after run (Some (Row.Step s)) = (step_of run s).run

-- S17.2: every row has its number, one that is answered 2 as well
unfoldable pub steps_text : ℕ → Run → List (List ℕ) → List ℕ
steps_text n run [] = []
steps_text n run (l ∷ ls) = answer_text n run (row_of l) ++ steps_text (n + 1) (run_after run (row_of l)) ls

-- S16.8: after a refused plan nothing follows
abbrev pub after_plan : Planned → Run → List (List ℕ) → List ℕ
after_plan (Err w) run ls = []
after_plan (Ok p) run ls = steps_text 2 run ls

-- S16.8: the plan; a row of another form is answered 2, which is a refused plan
abbrev pub plan_row_text : Option Row → List (List ℕ) → List ℕ
plan_row_text None ls = refusal_text 1
plan_row_text (Some (Row.Plan n k r b)) ls =
    plan_text 1 (start_of n k r b).planned ++ after_plan (start_of n k r b).planned (start_of n k r b).run ls
plan_row_text (Some (Row.Step s)) ls = refusal_text 1

-- S17.10: nothing of nothing
abbrev pub after_header : List (List ℕ) → List ℕ
after_header [] = []
after_header (l ∷ ls) = plan_row_text (row_of l) ls

-- S16.7: the header row, or S12.13, S17.11: answer 13
abbrev pub rows_text : List (List ℕ) → List ℕ
rows_text [] = head_text ++ no_header_text
rows_text (l ∷ ls) = head_text ++ cond (is_header l) (after_header ls) no_header_text

-- S17.1: all that is written of all that is read
unfoldable pub transcript : List ℕ → List ℕ
transcript l = rows_text (rows_from [] l)

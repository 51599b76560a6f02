-- The machine says the transcript, however its input is cut into parts.
use Prim.Native.Nat.{ℕ, ◌+◌}
use native.Mathlib.Omega.{arith}
use mathlib.Core.Bool.{Bool, true, false, cond}
use mathlib.Core.List.{List, [], ◌∷◌, ◌++◌, append_assoc, append-nil}
use mathlib.Core.Path.{◌≡◌, refl, sym, ◌∙◌, ap}
use lib.ListN.{length}
use lib.Dec.{eqb, leb}
use Rattle.transcript.specs.Names.{Err, None, Ok, Option, Phase, Planned, Row, Run, Some}
use Rattle.run.specs.Start.{start_of}
use Rattle.text.specs.Words.{header}
use Rattle.text.specs.Rows.{row_of, is_header}
use Rattle.text.proofs.BytesLaws.{same_lengths}
use Rattle.print.specs.Rows.{plan_text, refusal_text, no_header_text, head_text}
use Rattle.transcript.specs.Machine.{answered, Held, Line, Over, Mach, short, row_in, head_in, plan_say, plan_phase, plan_run, start_phase, next_phase, next_row, next_run, say_line, push, ended, step_m, say_m, run_m, say_all, end_by, text_from, start, joined, said_by, most_line}
use Rattle.transcript.proofs.HeldLaws.{holds, hold_push, row_lf, row_end, head_lf, head_end}
use Rattle.text.specs.Ends.{unended}
use Rattle.transcript.specs.Rehearsal.{last_row, rows_from, answer_text, run_after, steps_text, after_plan, plan_row_text, after_header, rows_text, transcript}

-- ---- an input in parts

text_append : (m : Mach) (l k : List ℕ) → text_from m (l ++ k) ≡ say_all m l ++ text_from (run_m m l) k
unfolding run_m say_all text_from
text_append m [] k = refl
text_append m (x ∷ l) k = rw (text_append (step_m m x) l k, append_assoc)

parts_from : (m : Mach) (cs : List (List ℕ)) → said_by m cs ≡ text_from m (joined cs)
unfolding text_from
parts_from m [] = refl
parts_from m (c ∷ cs) = rw (parts_from (run_m m c) cs, text_append) refl

-- ---- the input's end

-- at the input's end a row of at least one byte is said as any other
end_some : (p : Phase) (n : ℕ) (run : Run) (b : ℕ) (l : List ℕ) → end_by p n run (holds (b ∷ l)) ≡ say_line p n run (holds (b ∷ l))
unfolding end_by say_line
end_some p n run b l = go p (leb (length (b ∷ l)) most_line)
  where
    go : (q : Phase) (t : Bool) → end_by q n run (cond t (Line (b ∷ l)) Over) ≡ say_line q n run (cond t (Line (b ∷ l)) Over)
    go Phase.Header t = refl
    go Phase.Planning true = refl
    go Phase.Planning false = refl
    go Phase.Running true = refl
    go Phase.Running false = refl
    go Phase.Ended t = refl

-- ---- the text, by the phase

abbrev mach : Held → Phase → ℕ → Run → Mach
mach h p n run = record { held = h; phase = p; row = n; run = run }

-- by a byte: what is so of either way
pick : {A B : Type 0} (f : B → A) (t : Bool) (x y : A) (u v : B) → x ≡ f u → y ≡ f v → cond t x y ≡ f (cond t u v)
pick f true x y u v e h = e
pick f false x y u v e h = h

-- one byte more: the text of the rest is that of the row that it ends, or that of a longer row
text_byte : (p : List ℕ) (q : Phase) (n : ℕ) (run : Run) (b : ℕ) (l : List ℕ)
    → text_from (mach (holds p) q n run) (b ∷ l)
    ≡ cond (eqb b 10)
    (say_line q n run (short (holds p)) ++ text_from (mach (Line []) (next_phase q (short (holds p))) (next_row q n) (next_run q run (short (holds p)))) l)
    (text_from (mach (holds (p ++ (b ∷ []))) q n run) l)
unfolding text_from say_m step_m ended answered
text_byte p q n run b l = go (eqb b 10)
  where
    go : (t : Bool)
        → cond t (say_line q n run (short (holds p))) [] ++ text_from
        (cond t (mach (Line []) (next_phase q (short (holds p))) (next_row q n) (next_run q run (short (holds p)))) (mach (push (holds p) b) q n run))
        l
        ≡ cond t
        (say_line q n run (short (holds p)) ++ text_from (mach (Line []) (next_phase q (short (holds p))) (next_row q n) (next_run q run (short (holds p)))) l)
        (text_from (mach (holds (p ++ (b ∷ []))) q n run) l)
    go true = refl
    go false = ap (λ (x : Held). text_from (mach x q n run) l) (hold_push p b)

text_ended : (h : Held) (n : ℕ) (run : Run) (l : List ℕ) → text_from (mach h Phase.Ended n run) l ≡ []
unfolding text_from end_by say_m step_m ended answered say_line next_phase next_row next_run
text_ended h n run [] = refl
text_ended h n run (b ∷ l) = go (eqb b 10) (text_ended (Line []) n run l) (text_ended (push h b) n run l)
  where
    go : (t : Bool) → text_from (mach (Line []) Phase.Ended n run) l ≡ [] → text_from (mach (push h b) Phase.Ended n run) l ≡ []
        → cond t [] [] ++ text_from (cond t (mach (Line []) Phase.Ended n run) (mach (push h b) Phase.Ended n run)) l ≡ []
    go true i j = i
    go false i j = j

-- ---- steps

running_nothing : (n : ℕ) (run : Run) → text_from (mach (holds []) Phase.Running n run) [] ≡ steps_text n run []
unfolding text_from end_by steps_text
running_nothing n run = refl

running_last : (n : ℕ) (run : Run) (b : ℕ) (q : List ℕ)
    → text_from (mach (holds (b ∷ q)) Phase.Running n run) [] ≡ steps_text n run ((b ∷ q) ∷ [])
unfolding text_from say_line steps_text
running_last n run b q = rw (end_some Phase.Running n run b q, row_end (b ∷ q), append-nil) refl

running_row : (p : List ℕ) (n : ℕ) (run : Run) (l : List ℕ)
    → say_line Phase.Running n run (short (holds p)) ++ text_from
    (mach (Line []) (next_phase Phase.Running (short (holds p))) (next_row Phase.Running n) (next_run Phase.Running run (short (holds p)))) l
    ≡ answer_text n run (row_of (unended p)) ++ text_from (mach (Line []) Phase.Running (n + 1) (run_after run (row_of (unended p)))) l
unfolding say_line next_phase next_row next_run
running_row p n run l = rw (row_lf p) refl

steps_row : (n : ℕ) (run : Run) (l : List ℕ) (ls : List (List ℕ))
    → steps_text n run (l ∷ ls) ≡ answer_text n run (row_of l) ++ steps_text (n + 1) (run_after run (row_of l)) ls
unfolding steps_text
steps_row n run l ls = refl

running_end : (n : ℕ) (run : Run) (q : List ℕ) → text_from (mach (holds q) Phase.Running n run) [] ≡ steps_text n run (last_row q)
running_end n run [] = running_nothing n run
running_end n run (b ∷ q) = running_last n run b q

text_running : (p : List ℕ) (n : ℕ) (run : Run) (l : List ℕ)
    → text_from (mach (holds p) Phase.Running n run) l ≡ steps_text n run (rows_from p l)
unfolding rows_from
text_running p n run [] = running_end n run p
text_running p n run (b ∷ l) =
    text_byte p Phase.Running n run b l
    ∙ pick (steps_text n run) (eqb b 10) _ _ _ _
    (running_row p n run l ∙ rw (text_running [] (n + 1) (run_after run (row_of (unended p))) l) (sym (steps_row n run (unended p) (rows_from [] l))))
    (text_running (p ++ (b ∷ [])) n run l)

-- ---- the plan

after_none : (q : Planned) (run : Run) → after_plan q run [] ≡ []
unfolding steps_text
after_none (Err w) run = refl
after_none (Ok p) run = refl

plan_alone : (x : Option Row) → plan_say 1 x ≡ plan_row_text x []
plan_alone None = refl
plan_alone (Some (Row.Plan n k r b)) = rw (after_none (start_of n k r b).planned (start_of n k r b).run, append-nil) refl
plan_alone (Some (Row.Step s)) = refl

start_text : (q : Planned) (run : Run) (l : List ℕ) → text_from (mach (Line []) (start_phase q) 2 run) l ≡ after_plan q run (rows_from [] l)
start_text (Err w) run l = text_ended (Line []) 2 run l
start_text (Ok p) run l = text_running [] 2 run l

plan_then : (x : Option Row) (run : Run) (l : List ℕ)
    → plan_say 1 x ++ text_from (mach (Line []) (plan_phase x) 2 (plan_run run x)) l ≡ plan_row_text x (rows_from [] l)
plan_then None run l = rw (text_ended (Line []) 2 run l, append-nil) refl
plan_then (Some (Row.Plan n k r b)) run l = rw (start_text (start_of n k r b).planned (start_of n k r b).run l) refl
plan_then (Some (Row.Step s)) run l = rw (text_ended (Line []) 2 run l, append-nil) refl

planning_end : (run : Run) (q : List ℕ) → text_from (mach (holds q) Phase.Planning 1 run) [] ≡ after_header (last_row q)
unfolding text_from end_by say_line
planning_end run [] = refl
planning_end run (b ∷ q) = rw (end_some Phase.Planning 1 run b q, row_end (b ∷ q)) (plan_alone (row_of (b ∷ q)))

planning_row : (p : List ℕ) (run : Run) (l : List ℕ)
    → say_line Phase.Planning 1 run (short (holds p)) ++ text_from
    (mach (Line []) (next_phase Phase.Planning (short (holds p))) (next_row Phase.Planning 1) (next_run Phase.Planning run (short (holds p))))
    l
    ≡ plan_row_text (row_of (unended p)) (rows_from [] l)
unfolding say_line next_phase next_row next_run
planning_row p run l = rw (row_lf p) (plan_then (row_of (unended p)) run l)

text_planning : (p : List ℕ) (run : Run) (l : List ℕ) → text_from (mach (holds p) Phase.Planning 1 run) l ≡ after_header (rows_from p l)
unfolding rows_from
text_planning p run [] = planning_end run p
text_planning p run (b ∷ l) =
    text_byte p Phase.Planning 1 run b l
    ∙ pick after_header (eqb b 10) _ _ _ _ (planning_row p run l) (text_planning (p ++ (b ∷ [])) run l)

-- ---- the header row

header_none : false ≡ is_header []
unfolding is_header
header_none = same_lengths [] header (λ e. omega arith)

head_then : (t : Bool) (run : Run) (l : List ℕ)
    → (head_text ++ cond t [] no_header_text) ++ text_from (mach (Line []) (cond t Phase.Planning Phase.Ended) 1 run) l ≡ head_text ++ cond t
    (after_header (rows_from [] l)) no_header_text
head_then true run l = rw (append-nil head_text, text_planning [] run l) refl
head_then false run l = rw (text_ended (Line []) 1 run l, append-nil) refl

header_end : (run : Run) (q : List ℕ) → text_from (mach (holds q) Phase.Header 1 run) [] ≡ rows_text (last_row q)
unfolding text_from end_by say_line
header_end run [] = rw (← header_none) refl
header_end run (b ∷ q) = rw (end_some Phase.Header 1 run b q, head_end (b ∷ q)) refl

header_row : (p : List ℕ) (run : Run) (l : List ℕ)
    → say_line Phase.Header 1 run (short (holds p)) ++ text_from
    (mach (Line []) (next_phase Phase.Header (short (holds p))) (next_row Phase.Header 1) (next_run Phase.Header run (short (holds p)))) l
    ≡ head_text ++ cond (is_header (unended p)) (after_header (rows_from [] l)) no_header_text
unfolding say_line next_phase next_row next_run
header_row p run l = rw (head_lf p) (head_then (is_header (unended p)) run l)

text_header : (p : List ℕ) (run : Run) (l : List ℕ) → text_from (mach (holds p) Phase.Header 1 run) l ≡ rows_text (rows_from p l)
unfolding rows_from
text_header p run [] = header_end run p
text_header p run (b ∷ l) =
    text_byte p Phase.Header 1 run b l ∙ pick rows_text (eqb b 10) _ _ _ _ (header_row p run l) (text_header (p ++ (b ∷ [])) run l)

-- ---- the whole

-- what the machine says of an input, and at its end, is the transcript
transcript_is : (l : List ℕ) → text_from start l ≡ transcript l
unfolding transcript
transcript_is l = text_header [] (start_of 2 0 0 0).run l

-- however the input is cut into parts, what is said part by part, and at the end, is the transcript of the whole
pub parts : (cs : List (List ℕ)) → said_by start cs ≡ transcript (joined cs)
parts cs = parts_from start cs ∙ transcript_is (joined cs)

-- after a refusal that ends the rehearsal, nothing is said of what follows, so it need not be read
pub ended_says_nothing : (h : Held) (n : ℕ) (run : Run) (l : List ℕ) → text_from (mach h Phase.Ended n run) l ≡ []
ended_says_nothing h n run l = text_ended h n run l

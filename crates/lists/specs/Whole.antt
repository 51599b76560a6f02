-- A list of steps in one go: clauses S12.16 and S21.1 to S21.5 of docs/SCOPE.md.
use Rattle.std.specs.Prelude.{ℕ, Bool, cond, ◌&&◌, List, [], ◌∷◌, ◌++◌, map, leb, length, take, drop}
use Rattle.types.specs.Answers.{answer_number}
use Rattle.run.specs.Lists.{run_all}
use Rattle.run.specs.Steps.{step_of}
use Rattle.lists.specs.Names.{Answer, Err, Listed, Ok, Run, Step, Whole}

-- S21.1: the steps that a list may have
abbrev pub most_listed : ℕ
most_listed = 256

-- S12.0, S12.16: the number that comes back for the whole list
abbrev pub whole_number : Whole → ℕ
whole_number (Ok u) = 0
whole_number (Err w) = 16

-- S12.16, S21.2: not too many steps, and a place for the answer of each
abbrev pub fits : ℕ → ℕ → Bool
fits count places = leb count most_listed && leb count places

-- S21.3: the answers of the steps, taken singly
abbrev pub answers_all : Run → List Step → List Answer
answers_all run [] = []
answers_all run (s ∷ ss) = (step_of run s).answer ∷ answers_all (step_of run s).run ss

-- S21.3: their numbers
unfoldable pub numbers_of : Run → List Step → List ℕ
numbers_of run ss = map answer_number (answers_all run ss)

-- S21.3, S21.4: the numbers take the first places, and those behind are as they were
unfoldable pub in_front : List ℕ → List ℕ → List ℕ
in_front numbers table = numbers ++ drop (length numbers) table

-- S21.3: what comes back and the table afterwards, where the steps are taken: the run is the one after all of them
unfoldable pub taken_of : Run → List Step → List ℕ → Listed × List ℕ
taken_of run ss table = (record { whole = Ok tt; run = run_all run ss }, in_front (numbers_of run ss) table)

-- S21.2: the same where none is taken
unfoldable pub untaken_of : Run → List ℕ → Listed × List ℕ
untaken_of run table = (record { whole = Err (record {}); run = run }, table)

-- S21.1, S21.2: of a list
unfoldable pub list_of : Run → List Step → List ℕ → Listed × List ℕ
list_of run steps table = cond (fits (length steps) (length table)) (taken_of run steps table) (untaken_of run table)

-- S21.1, S21.2: of the first `count` of the steps at hand
unfoldable pub first_list_of : Run → List Step → ℕ → List ℕ → Listed × List ℕ
first_list_of run steps count table = cond (fits count (length table)) (taken_of run (take count steps) table) (untaken_of run table)

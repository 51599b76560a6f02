-- A list of steps over a lent table, each taken by `lent_of`: clause S21.6 of docs/SCOPE.md.
use Rattle.std.specs.Prelude.{ℕ, cond, List, [], ◌∷◌, ◌++◌, map, length, take, drop}
use Rattle.desk.specs.Desk.{lent_number, lent_of, table_of}
use Rattle.lists.specs.Whole.{fits, in_front}
use Rattle.desk_lists.specs.Names.{Cabinet, Err, Lent, Listed, Local, Ok, Run, Step}

-- S14.4: the run after the list
abbrev pub lent_run : Run → List Cabinet → List Step → Run
lent_run run records [] = run
lent_run run records (s ∷ ss) = lent_run (lent_of run records s).run (table_of run records s) ss

-- S14.3: the records after the list
abbrev pub lent_table : Run → List Cabinet → List Step → List Cabinet
lent_table run records [] = records
lent_table run records (s ∷ ss) = lent_table (lent_of run records s).run (table_of run records s) ss

-- S14.2: the answers of the steps, taken singly
abbrev pub lent_answers : Run → List Cabinet → List Step → List Lent
lent_answers run records [] = []
lent_answers run records (s ∷ ss) = (lent_of run records s).answer ∷ lent_answers (lent_of run records s).run (table_of run records s) ss

-- S21.6: their numbers; S12.14: 14 to each where the table has another length
abbrev pub lent_numbers : Run → List Cabinet → List Step → List ℕ
lent_numbers run records ss = map lent_number (lent_answers run records ss)

-- S21.6: what comes back, the records and the table of answers, where the steps are taken
unfoldable pub lent_taken_of : Run → List Cabinet → List Step → List ℕ → Listed × List Cabinet × List ℕ
lent_taken_of run records ss table =
    (record { whole = Ok tt; run = lent_run run records ss }, lent_table run records ss, in_front (lent_numbers run records ss) table)

-- S21.2: the same where none is taken
unfoldable pub lent_untaken_of : Run → List Cabinet → List ℕ → Listed × List Cabinet × List ℕ
lent_untaken_of run records table = (record { whole = Err (record {}); run = run }, records, table)

-- S12.16, S21.6: 16 before 14
unfoldable pub lent_list_of : Run → List Cabinet → List Step → List ℕ → Listed × List Cabinet × List ℕ
lent_list_of run records steps table =
    cond (fits (length steps) (length table)) (lent_taken_of run records steps table) (lent_untaken_of run records table)

-- S12.16, S21.1, S21.6: of the first `count` of the steps at hand
unfoldable pub lent_first_of : Run → List Cabinet → List Step → ℕ → List ℕ → Listed × List Cabinet × List ℕ
lent_first_of run records steps count table =
    cond (fits count (length table)) (lent_taken_of run records (take count steps) table) (lent_untaken_of run records table)

-- S21.6: the first `len` records of an array are lent, and the others stay as they are
abbrev pub packed : List Cabinet → Listed × List Cabinet × List ℕ → Local × List ℕ
packed behind z = (record { listed = z.0; table = z.1 ++ behind }, z.2)

-- S21.6: out of an array
unfoldable pub local_list_of : Run → List Cabinet → ℕ → List Step → List ℕ → Local × List ℕ
local_list_of run array len steps table = packed (drop len array) (lent_list_of run (take len array) steps table)

-- S21.1, S21.6: the same out of an array
unfoldable pub local_first_of : Run → List Cabinet → ℕ → List Step → ℕ → List ℕ → Local × List ℕ
local_first_of run array len steps count table = packed (drop len array) (lent_first_of run (take len array) steps count table)

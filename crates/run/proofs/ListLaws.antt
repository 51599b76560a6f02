-- Lists of steps: one list behind another, and one step more. Assumes nothing.
use Rattle.std.proofs.Common.{List, [], ◌∷◌, ◌++◌, ◌≡◌, refl}
use Rattle.run.specs.Lists.{run_all}
use Rattle.run.specs.Names.{Run, Step}
use Rattle.run.specs.Steps.{step_of}

pub run_append : (run : Run) (xs ys : List Step) → run_all run (xs ++ ys) ≡ run_all (run_all run xs) ys
unfolding run_all
run_append run [] ys = refl
run_append run (x ∷ xs) ys = run_append (step_of run x).run xs ys

pub run_more : (run : Run) (xs : List Step) (x : Step) → run_all run (xs ++ (x ∷ [])) ≡ (step_of (run_all run xs) x).run
unfolding run_all
run_more run xs x = run_append run xs (x ∷ [])

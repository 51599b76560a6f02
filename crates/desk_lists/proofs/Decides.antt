-- Each public contract decides, and it asks nothing of its caller: any two outcomes that it allows for the same run, table, steps and answers agree
-- on the result, on every part of the next run, on every record and on every place of the answers at exit, and what it requires always holds
-- (`emp`). All are cited from where the checker reads their contracts: `list_lent_says`, `lent_first_says` and `list_local_says` hold the contract
-- that the checker reads in src/ to the fact stated here, and a weaker contract is refused there; `list_lent_any`, `lent_first_any` and
-- `list_local_any` refuse one that asks for something. Assumes nothing.
use Prim.Native.Nat.{ℕ, min}
use mathlib.Core.Path.{◌≡◌, refl, sym, ap, ◌∙◌}
use mathlib.Core.List.{List, ◌++◌}
use lib.ListN.{length, take, drop}
use seplogic.Ra.Ura.{Ura}
use base.Logic.{SProp, emp}
use prog.Memory.{Memory}
use prog.Routine.{Routine}
use types.Logic.{Logic}
use contract.Monad.{Fun, fact}
use Rattle.desk_lists.specs.Names.{Cabinet, Listed, Local, Run, Step, Whole}
use Rattle.desk_lists.specs.Lent.{lent_list_of, lent_first_of, packed, local_list_of, local_first_of}
use Rattle.limits.specs.Limits.{most_cabinets}
use Rattle.desk.proofs.LendLaws.{cap_take, cap_drop}
use Rattle.desk_lists.specs.contracts.array.list_local as list-local
use Rattle.desk_lists.specs.contracts.lent_first as lent-first
use Rattle.desk_lists.specs.contracts.list_lent as list-lent

-- what the contract says of the result r, the records and the answers at exit
abbrev pub ListPost : Run → List Cabinet → List Step → List ℕ → Listed → List Cabinet → List ℕ → Type 0
ListPost run records steps answers r after said = (r, after, said) ≡ lent_list_of run records steps answers

pub list_lent_says : {M : Type 1} {𝓤 : Ura M} (𝓛 : Logic 𝓤) (at_mem : Memory → SProp 𝓤) (run : Routine → Fun 𝓤) (κs : _) (a : _) (g : _)
    (r : Whole) (e : _)
    → (list-lent.clauses 𝓛 at_mem run κs a).ensures g r e
    ≡ fact 𝓤 (ListPost a.0.now a.1.0.now a.1.1.0.now a.1.1.1.0.now (record { whole = r; run = e.0.now }) e.1.0.now e.1.1.1.0.now)
list_lent_says 𝓛 at_mem run κs a g r e = refl

pub list_lent_decides : (run : Run) (records : List Cabinet) (steps : List Step) (answers : List ℕ)
    (r r' : Listed) (after after' : List Cabinet) (said said' : List ℕ)
    → ListPost run records steps answers r after said → ListPost run records steps answers r' after' said'
    → (r ≡ r') × (after ≡ after') × (said ≡ said')
list_lent_decides run records steps answers r r' after after' said said' p q =
    let e = p ∙ sym q in (
      ap (λ (z : Listed × List Cabinet × List ℕ). z.0) e,
      ap (λ (z : Listed × List Cabinet × List ℕ). z.1) e,
      ap (λ (z : Listed × List Cabinet × List ℕ). z.2) e,
    )

pub list_lent_any : {M : Type 1} {𝓤 : Ura M} (𝓛 : Logic 𝓤) (at_mem : Memory → SProp 𝓤) (run : Routine → Fun 𝓤) (κs : _) (a : _) (g : _)
    → (list-lent.clauses 𝓛 at_mem run κs a).requires g ≡ emp 𝓤
list_lent_any 𝓛 at_mem run κs a g = refl

-- of the first of the steps at hand
abbrev pub FirstPost : Run → List Cabinet → List Step → ℕ → List ℕ → Listed → List Cabinet → List ℕ → Type 0
FirstPost run records steps count answers r after said = (r, after, said) ≡ lent_first_of run records steps count answers

pub lent_first_says : {M : Type 1} {𝓤 : Ura M} (𝓛 : Logic 𝓤) (at_mem : Memory → SProp 𝓤) (run : Routine → Fun 𝓤) (κs : _) (a : _) (g : _)
    (r : Whole) (e : _)
    → (lent-first.clauses 𝓛 at_mem run κs a).ensures g r e
    ≡ fact 𝓤 (FirstPost a.0.now a.1.0.now a.1.1.0.now a.1.1.1.0 a.1.1.1.1.0.now (record { whole = r; run = e.0.now }) e.1.0.now e.1.1.1.1.0.now)
lent_first_says 𝓛 at_mem run κs a g r e = refl

pub lent_first_decides : (run : Run) (records : List Cabinet) (steps : List Step) (count : ℕ) (answers : List ℕ)
    (r r' : Listed) (after after' : List Cabinet) (said said' : List ℕ)
    → FirstPost run records steps count answers r after said → FirstPost run records steps count answers r' after' said'
    → (r ≡ r') × (after ≡ after') × (said ≡ said')
lent_first_decides run records steps count answers r r' after after' said said' p q =
    let e = p ∙ sym q in (
      ap (λ (z : Listed × List Cabinet × List ℕ). z.0) e,
      ap (λ (z : Listed × List Cabinet × List ℕ). z.1) e,
      ap (λ (z : Listed × List Cabinet × List ℕ). z.2) e,
    )

pub lent_first_any : {M : Type 1} {𝓤 : Ura M} (𝓛 : Logic 𝓤) (at_mem : Memory → SProp 𝓤) (run : Routine → Fun 𝓤) (κs : _) (a : _) (g : _)
    → (lent-first.clauses 𝓛 at_mem run κs a).requires g ≡ emp 𝓤
lent_first_any 𝓛 at_mem run κs a g = refl

-- of the first of the steps at hand, out of an array
abbrev pub LocalPost : Run → List Cabinet → ℕ → List Step → ℕ → List ℕ → Local → List ℕ → Type 0
LocalPost run array len steps count answers r said = (r, said) ≡ local_first_of run array len steps count answers

pub list_local_says : {M : Type 1} {𝓤 : Ura M} (𝓛 : Logic 𝓤) (at_mem : Memory → SProp 𝓤) (run : Routine → Fun 𝓤) (κs : _) (a : _) (g : _)
    (r : Whole) (e : _)
    → (list-local.clauses 𝓛 at_mem run κs a).ensures g r e
    ≡ fact 𝓤 (LocalPost a.0.now a.1.0.now a.1.1.0 a.1.1.1.0.now a.1.1.1.1.0 a.1.1.1.1.1.0.now
    (record { listed = record { whole = r; run = e.0.now }; table = e.1.0.now }) e.1.1.1.1.1.0.now)
list_local_says 𝓛 at_mem run κs a g r e = refl

pub list_local_decides : (run : Run) (array : List Cabinet) (len : ℕ) (steps : List Step) (count : ℕ) (answers : List ℕ)
    (r r' : Local) (said said' : List ℕ)
    → LocalPost run array len steps count answers r said → LocalPost run array len steps count answers r' said' → (r ≡ r') × (said ≡ said')
list_local_decides run array len steps count answers r r' said said' p q =
    let e = p ∙ sym q in
    (ap (λ (z : Local × List ℕ). z.0) e, ap (λ (z : Local × List ℕ). z.1) e)

pub list_local_any : {M : Type 1} {𝓤 : Ura M} (𝓛 : Logic 𝓤) (at_mem : Memory → SProp 𝓤) (run : Routine → Fun 𝓤) (κs : _) (a : _) (g : _)
    → (list-local.clauses 𝓛 at_mem run κs a).requires g ≡ emp 𝓤
list_local_any 𝓛 at_mem run κs a g = refl

-- ---- the call over a lent table, at part of an array

-- of a whole list out of an array
abbrev pub LentLocalPost : Run → List Cabinet → ℕ → List Step → List ℕ → Local → List ℕ → Type 0
LentLocalPost run array len steps answers r said = (r, said) ≡ local_list_of run array len steps answers

-- the first `len` records are lent: the call at that part of the array gives `local_list_of`, with the rest of the array as it was
pub lent_list_local_says : (run : Run) (array : List Cabinet) (len : ℕ) (steps : List Step) (answers : List ℕ)
    (r : Listed) (after : List Cabinet) (said : List ℕ)
    → ListPost run (take len array) steps answers r after said
    → LentLocalPost run array len steps answers (record { listed = r; table = after ++ drop len array }) said
unfolding local_list_of
lent_list_local_says run array len steps answers r after said p = ap (packed (drop len array)) p

pub lent_list_local_decides : (run : Run) (array : List Cabinet) (len : ℕ) (steps : List Step) (answers : List ℕ)
    (r r' : Local) (said said' : List ℕ)
    → LentLocalPost run array len steps answers r said → LentLocalPost run array len steps answers r' said' → (r ≡ r') × (said ≡ said')
lent_list_local_decides run array len steps answers r r' said said' p q =
    let e = p ∙ sym q in
    (ap (λ (z : Local × List ℕ). z.0) e, ap (λ (z : Local × List ℕ). z.1) e)

-- of an array of nine no more than nine are lent
pub lent_list_local_capped : (run : Run) (array : List Cabinet) (len : ℕ) (steps : List Step) (answers : List ℕ) → length array ≡ most_cabinets
    → local_list_of run array (min len most_cabinets) steps answers ≡ local_list_of run array len steps answers
unfolding local_list_of
lent_list_local_capped run array len steps answers nine = rw (cap_take len array nine, cap_drop len array nine)

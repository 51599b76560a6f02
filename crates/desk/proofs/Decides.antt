-- Each public contract decides, and it asks nothing of its caller: any two outcomes that it allows for the same run, table and step agree on the
-- answer, on every part of the next run and on every record of the table at exit, and what it requires always holds (`emp`). Both entrances
-- are cited from where the checker reads their contracts: `step_lent_says` and `step_local_says` hold the contract that the checker reads in src/ to the
-- fact stated here, and a weaker contract is refused there; `step_lent_any` and `step_local_any` refuse one that asks for something.
-- Assumes nothing.
use Prim.Native.Nat.{ℕ, min}
use mathlib.Core.Path.{◌≡◌, refl, sym, ◌∙◌}
use lib.ListN.{length, take, drop}
use mathlib.Core.List.{List, ◌++◌}
use seplogic.Ra.Ura.{Ura}
use base.Logic.{SProp, emp}
use prog.Memory.{Memory}
use prog.Routine.{Routine}
use types.Logic.{Logic}
use contract.Monad.{Fun, fact}
use Rattle.limits.specs.Limits.{most_cabinets}
use Rattle.desk.specs.Names.{Cabinet, Lent, Local, Run, Served, Step}
use Rattle.desk.specs.Desk.{lent_of, table_of, local_of}
use Rattle.desk.specs.contracts.array.step_local as step-local
use Rattle.desk.specs.contracts.entrance.step_lent as step-lent
use Rattle.desk.proofs.LendLaws.{local_capped, local_says}
use Rattle.desk.proofs.entrance.lend.Reads as lend
use Rattle.desk.proofs.entrance.give_back.Reads as give-back
use Rattle.desk.proofs.U8FromWrongLength.from.Reads as wrong-length-number

-- what the contract says of the result r and the table at exit
abbrev pub LentPost : Run → List Cabinet → Step → Served → List Cabinet → Type 0
LentPost run table s r after = (r ≡ lent_of run table s) × (after ≡ table_of run table s)

pub step_lent_says : {M : Type 1} {𝓤 : Ura M} (𝓛 : Logic 𝓤) (at_mem : Memory → SProp 𝓤) (run : Routine → Fun 𝓤) (κs : _) (a : _) (g : _)
    (r : Lent) (e : _)
    → (step-lent.clauses 𝓛 at_mem run κs a).ensures g r e ≡ fact 𝓤
    (LentPost a.0.now a.1.0.now a.1.1.0 (record { answer = r; run = e.0.now }) e.1.0.now)
step_lent_says 𝓛 at_mem run κs a g r e = refl

pub step_lent_decides : (run : Run) (table : List Cabinet) (s : Step) (r r' : Served) (after after' : List Cabinet)
    → LentPost run table s r after → LentPost run table s r' after' → (r ≡ r') × (after ≡ after')
step_lent_decides run table s r r' after after' p q = (p.0 ∙ sym q.0, p.1 ∙ sym q.1)

pub step_lent_any : {M : Type 1} {𝓤 : Ura M} (𝓛 : Logic 𝓤) (at_mem : Memory → SProp 𝓤) (run : Routine → Fun 𝓤) (κs : _) (a : _) (g : _)
    → (step-lent.clauses 𝓛 at_mem run κs a).requires g ≡ emp 𝓤
step_lent_any 𝓛 at_mem run κs a g = refl

pub step_local_says : {M : Type 1} {𝓤 : Ura M} (𝓛 : Logic 𝓤) (at_mem : Memory → SProp 𝓤) (run : Routine → Fun 𝓤) (κs : _) (a : _) (g : _)
    (r : Lent) (e : _)
    → (step-local.clauses 𝓛 at_mem run κs a).ensures g r e ≡ fact 𝓤
    (◌≡◌ {A = Local} (record { served = record { answer = r; run = e.0.now }; table = e.1.0.now }) (local_of a.0.now a.1.0.now a.1.1.0 a.1.1.1.0))
step_local_says 𝓛 at_mem run κs a g r e = refl

pub step_local_decides : (run : Run) (table : List Cabinet) (len : ℕ) (s : Step) (r r' : Local)
    → r ≡ local_of run table len s → r' ≡ local_of run table len s → r ≡ r'
step_local_decides run table len s r r' p q = p ∙ sym q

pub step_local_any : {M : Type 1} {𝓤 : Ura M} (𝓛 : Logic 𝓤) (at_mem : Memory → SProp 𝓤) (run : Routine → Fun 𝓤) (κs : _) (a : _) (g : _)
    → (step-local.clauses 𝓛 at_mem run κs a).requires g ≡ emp 𝓤
step_local_any 𝓛 at_mem run κs a g = refl

-- the entrance over a lent table at the first `len` records of an array gives `local_of` too, with the rest of the array as it was
pub lent_local_says : (run : Run) (array : List Cabinet) (len : ℕ) (s : Step) (r : Served) (after : List Cabinet)
    → LentPost run (take len array) s r after → ◌≡◌ {A = Local} (record { served = r; table = after ++ drop len array }) (local_of run array len s)
lent_local_says run array len s r after p = local_says run array len s r after p.0 p.1

-- of an array of nine no more than nine are lent
pub lent_local_capped : (run : Run) (array : List Cabinet) (len : ℕ) (s : Step) → length array ≡ most_cabinets
    → local_of run array (min len most_cabinets) s ≡ local_of run array len s
lent_local_capped run array len s nine = local_capped len array nine run s

-- ---- what a list over a lent table uses too

pub lend_decides : (κs : _) (a : _) (x y : List Cabinet) (s s' : _) → lend.Post κs a x s → lend.Post κs a y s' → (x ≡ y) × (s.0.now ≡ s'.0.now)
lend_decides κs a x y s s' p q = (p.0 ∙ sym q.0, p.1 ∙ sym q.1)

pub lend_any : (κs : _) (a : _) → lend.Pre κs a
lend_any κs a = tt

pub give_back_decides : (κs : _) (a : _) (x y : _) (s s' : _) → give-back.Post κs a x s → give-back.Post κs a y s'
    → (s.0.now ≡ s'.0.now) × (s.1.0.now ≡ s'.1.0.now)
give_back_decides κs a x y s s' p q = (p.1 ∙ sym q.1, p.0 ∙ sym q.0)

pub give_back_any : (κs : _) (a : _) → give-back.Pre κs a
give_back_any κs a = tt

-- ---- the number of a table of another length

pub wrong_length_number_decides : (κs : _) (a : _) (x y : ℕ) (s s' : _)
    → wrong-length-number.Post κs a x s → wrong-length-number.Post κs a y s' → x ≡ y
wrong_length_number_decides κs a x y s s' p q = p ∙ sym q

pub wrong_length_number_any : (κs : _) (a : _) → wrong-length-number.Pre κs a
wrong_length_number_any κs a = tt

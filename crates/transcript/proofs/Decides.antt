-- What the public contracts decide: any two outcomes that one allows for the same arguments agree on it. `new` and `goes_on` decide their
-- results, and ask nothing of their callers. `feed` decides every byte of the buffer, where its text ends, the phase, the next row's number, the
-- run and what is held of a row. `finish` decides its result and every byte of the buffer, and is lent nothing else. Not decided, of `feed` alone: of
-- a row that is too long, by which length above `most_line` it says so; and the bytes of the row's array that are not held of a row. `Post` and
-- `Pre` are the contract as the checker reads it in src/, so a weaker one is refused here, and for `new` and `goes_on` one that asks for something.
-- Assumes nothing.
use Prim.Native.Nat.{ℕ, ◌≤◌}
use native.Mathlib.Omega.{arith}
use mathlib.Core.Bool.{Bool, true, false, cond}
use mathlib.Core.List.{List}
use mathlib.Core.Path.{◌≡◌, refl, sym, ◌∙◌, ap}
use lib.ListN.{length, take}
use lib.Seq.{length-take-le}
use lib.Dec.{leb}
use borrow.Author.Tests.{le-leb, leb-true}
use Rattle.print.proofs.PutLaws.{agree}
use Rattle.transcript.specs.Names.{Rehearsal}
use Rattle.transcript.specs.Machine.{Line, Over, Mach, held_of, most_line}
use Rattle.transcript.proofs.Rehearsal.feed.Reads as feed
use Rattle.transcript.proofs.Rehearsal.finish.Reads as finish
use Rattle.transcript.proofs.Rehearsal.goes_on.Reads as goes_on
use Rattle.transcript.proofs.Rehearsal.new.Reads as new

pub new_decides : (κs : _) (a : _) (x y : Rehearsal) (s s' : _) → new.Post κs a x s → new.Post κs a y s' → x ≡ y
new_decides κs a x y s s' p q = p ∙ sym q

pub new_any : (κs : _) (a : _) → new.Pre κs a
new_any κs a = tt

pub goes_on_decides : (κs : _) (a : _) (x y : Bool) (s s' : _) → goes_on.Post κs a x s → goes_on.Post κs a y s' → x ≡ y
goes_on_decides κs a x y s s' p q = p ∙ sym q

pub goes_on_any : (κs : _) (a : _) → goes_on.Pre κs a
goes_on_any κs a = tt

pub feed_decides : (κs : _) (a : _) (r r' : ℕ) (s s' : _) → feed.Post κs a r s → feed.Post κs a r' s'
    → (r ≡ r')
    × (s.0.now.phase ≡ s'.0.now.phase)
    × (s.0.now.row ≡ s'.0.now.row)
    × (s.0.now.run ≡ s'.0.now.run)
    × (held_of s.0.now.len s.0.now.line ≡ held_of s'.0.now.len s'.0.now.line)
    × (s.1.1.0.now ≡ s'.1.1.0.now)
feed_decides κs a r r' s s' p q =
    let m = p.0 ∙ sym q.0 in
    let w = agree _ _ _ (p.1.0, p.1.1.0) (q.1.0, q.1.1.0) in
    (w.0, ap (λ (x : Mach). x.phase) m, ap (λ (x : Mach). x.row) m, ap (λ (x : Mach). x.run) m, ap (λ (x : Mach). x.held) m, w.1)

-- what is held decides a row that is not too long: its length and its bytes
pub held_same : (n n' : ℕ) (l l' : List ℕ) → length l ≡ most_line → length l' ≡ most_line → n ≤ most_line → held_of n l ≡ held_of n' l'
    → (n ≡ n') × (take n l ≡ take n' l')
unfolding held_of
held_same n n' l l' size size' few e = go (leb n' most_line) refl (rw (le-leb n most_line few) at e)
  where
    go : (t : Bool) → leb n' most_line ≡ t → Line (take n l) ≡ cond t (Line (take n' l')) Over → (n ≡ n') × (take n l ≡ take n' l')
    go true h f =
        let z : take n l ≡ take n' l' = cc in
        let few' : n' ≤ most_line = leb-true n' most_line h in
        (omega (arith, ap length z, length-take-le n l (omega arith), length-take-le n' l' (omega arith)), z)
    go false h f = absurd (let z : ◌≡◌ {A = ℕ} 0 1 = cc in omega arith)

pub finish_decides : (κs : _) (a : _) (r r' : ℕ) (s s' : _)
    → finish.Post κs a r s → finish.Post κs a r' s' → (r ≡ r') × (s.1.0.now ≡ s'.1.0.now)
finish_decides κs a r r' s s' p q = agree _ _ _ (p.0, p.1.0) (q.0, q.1.0)

-- What the call answers and leaves, by what the two buffers hold. Assumes nothing.
use Prim.Native.Nat.{ℕ}
use mathlib.Core.Path.{◌≡◌, refl, sym, ◌∙◌}
use mathlib.Core.Bool.{Bool, true, false, cond}
use mathlib.Core.List.{List}
use lib.Dec.{eqb}
use lib.ListN.{length}
use borrow.Author.Tests.{eqb-true}
use Rattle.std.specs.Prelude.{Option, Some, None}
use Rattle.firmware.specs.Names.{Entry, Verdict}
use Rattle.firmware.specs.Layout.{entry_of, entry_with, reading_of, int_at, hyper_at}
use Rattle.firmware.specs.Offer.{verdict_on, number_of, answer_of, held_after}

-- a buffer that holds an entry has 20 bytes
twenty : (s : List ℕ) (m : Entry) → entry_of s ≡ Some m → length s ≡ 20
unfolding entry_of
twenty s m = go _ refl
  where
    go : (t : Bool) → eqb (length s) 20 ≡ t
        → cond t (entry_with (hyper_at s 0) (int_at s 8) (reading_of (int_at s 12) (int_at s 16))) None ≡ Some m
        → length s ≡ 20
    go true e h = eqb-true (length s) 20 e
    go false e h = cc

-- taken only from one entry to another, so that both buffers have its 20 bytes
pub both_twenty : (h o : List ℕ) → verdict_on (entry_of h) (entry_of o) ≡ Verdict.Taken → (length h ≡ 20) × (length o ≡ 20)
both_twenty h o = go _ _ refl refl
  where
    go : (m t : Option Entry) → entry_of h ≡ m → entry_of o ≡ t → verdict_on m t ≡ Verdict.Taken → (length h ≡ 20) × (length o ≡ 20)
    go None t d f e = cc
    go (Some m) None d f e = cc
    go (Some m) (Some t) d f e = (twenty h m d, twenty o t f)

module _ (h o : List ℕ) (mine theirs : Option Entry) (verdict : Verdict)
    (d : mine ≡ entry_of h) (f : theirs ≡ entry_of o) (j : verdict ≡ verdict_on mine theirs) where
  pub answered : number_of verdict ≡ answer_of h o
  unfolding answer_of
  answered = rw (j, d, f)

  pub taken : verdict ≡ Verdict.Taken → o ≡ held_after h o
  unfolding held_after
  taken t = rw (← answered, t)

  pub not_taken : (verdict ≡ Verdict.Taken → ⊥) → h ≡ held_after h o
  unfolding held_after
  not_taken n = rw (← answered) (go verdict n)
    where
      go : (v : Verdict) → (v ≡ Verdict.Taken → ⊥) → h ≡ cond (eqb (number_of v) 20) o h
      go Verdict.Taken n = absurd (n refl)
      go Verdict.Kept n = refl
      go Verdict.Refused n = refl

  -- taken only from one entry to another, so that the buffers are equally long
  pub taken_length : verdict ≡ Verdict.Taken → length h ≡ length o
  taken_length t = go mine theirs d f (sym j ∙ t)
    where
      go : (m t : Option Entry) → m ≡ entry_of h → t ≡ entry_of o → verdict_on m t ≡ Verdict.Taken → length h ≡ length o
      go None t d f e = cc
      go (Some m) None d f e = cc
      go (Some m) (Some t) d f e = twenty h m (sym d) ∙ sym (twenty o t (sym f))

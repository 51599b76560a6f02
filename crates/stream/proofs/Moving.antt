-- Laws of what was read and written: of nothing, of one part, of one turn after another, and of the input's end. Assumes nothing.
use Rattle.std.proofs.Common.{◌≡◌, ℕ, ◌+◌, List, [], ◌∷◌, ◌++◌, Result, Ok, Err, refl, sym, ap, subst, ◌∙◌, append-nil, length, take, drop, arith}
use Rattle.std.specs.declared.option.Option.{Option}
use Rattle.std.specs.Prelude.{OnOk}
use Rattle.std.specs.Io.KnownBytes.{Appends, Consumes}
use Rattle.std.proofs.KnownBytes.{Consumes-nil, Appends-nil, Consumes-trans, Appends-trans}
use lib.Seq.{take-append_seam}
use Rattle.print.specs.Put.{put}
use Rattle.transcript.specs.Machine.{Mach, run_m, say_all, end_text, start, fresh, held_of, mach_of}
use Rattle.transcript.specs.Rehearsal.{transcript}
use Rattle.transcript.proofs.RowLaws.{run_append, say_append}
use Rattle.transcript.proofs.RehearsalLaws.{parts}
use Rattle.stream.specs.Moved.{Turned, Rehearsed}

-- before the first byte
fresh_start : mach_of fresh ≡ start
unfolding held_of
fresh_start = refl

-- bytes were read, fed, and what is said of them written: what `Turned` says where no write failed
abbrev pub Passed : Option (List ℕ) → Option (List ℕ) → Option (List ℕ) → Option (List ℕ) → Mach → Mach → Type 0
Passed a b p q m n = (bytes : List ℕ) × Consumes a b bytes × (n ≡ run_m m bytes) × Appends p q (say_all m bytes)

-- no byte
pub passed_none : (a p : Option (List ℕ)) (m : Mach) → Passed a a p p m m
unfolding run_m say_all
passed_none a p m = ([], Consumes-nil a, refl, Appends-nil p)

-- a read of no byte
pub passed_end : (a b p : Option (List ℕ)) (m : Mach) (n : ℕ) (s : List ℕ) → n ≡ 0 → Consumes a b (take n s) → Passed a b p p m m
unfolding run_m say_all
passed_end a b p m n s e h = ([], subst (λ (k : ℕ). Consumes a b (take k s)) e h, refl, Appends-nil p)

-- what was put at a buffer's beginning is what stands there
said : (d s : List ℕ) (k : ℕ) → k ≡ 0 + length s → take k (put d 0 s) ≡ s
unfolding put
said d s k f =
    let none : 0 + length s ≡ length s = omega arith in
    let g : k ≡ length s = omega arith in
    rw (none, g) (take-append_seam s (drop (length s) d))

-- a part that was fed, and what was said of it
pub passed_part : (a b p q : Option (List ℕ)) (m n : Mach) (s d d' : List ℕ) (k : ℕ) → Consumes a b s → n ≡ run_m m s
    → d' ≡ put d 0 (say_all m s) → k ≡ 0 + length (say_all m s) → Appends p q (take k d') → Passed a b p q m n
passed_part a b p q m n s d d' k h e f g x =
    (s, h, e, subst (λ (l : List ℕ). Appends p q l) (ap (take k) f ∙ said d (say_all m s) k g) x)

appended : {A E : Type 0} (p q r : Option (List ℕ)) (k l : List ℕ) (t : Result A E) → Appends p q k → OnOk t (Appends q r l)
    → OnOk t (Appends p r (k ++ l))
appended p q r k l (Ok u) x y = Appends-trans p q r k l x y
appended p q r k l (Err e) x y = tt

-- one turn after others that went through
pub turned_more : {A E : Type 0} (a b c p q r : Option (List ℕ)) (m n o : Mach) (t : Result A E)
    → Passed a b p q m n → Turned b c q r n o t → Turned a c p r m o t
turned_more a b c p q r m n o t x y = (
  x.0 ++ y.0,
  Consumes-trans a b c x.0 y.0 x.1 y.1,
  y.2 ∙ ap (λ (z : Mach). run_m z y.0) x.2 ∙ sym (run_append m x.0 y.0),
  subst (λ (l : List ℕ). OnOk t (Appends p r l))
      (ap (λ (z : Mach). say_all m x.0 ++ say_all z y.0) x.2 ∙ sym (say_append m x.0 y.0))
      (appended p q r _ _ t x.3 y.3),
)

pub passed_more : (a b c p q r : Option (List ℕ)) (m n o : Mach) → Passed a b p q m n → Passed b c q r n o → Passed a c p r m o
passed_more a b c p q r m n o x y = turned_more {A = Unit {0}} {E = Unit {0}} a b c p q r m n o (Ok tt) x y

-- what is said of all bytes, and at their end, is their transcript
all_said : (l : List ℕ) → say_all start l ++ end_text (run_m start l) ≡ transcript l
all_said l = parts (l ∷ []) ∙ ap transcript (append-nil l)

-- the input's end
pub rehearsed : {A E : Type 0} (a b p q r : Option (List ℕ)) (m n : Mach) (d d' : List ℕ) (k : ℕ) (t : Result A E)
    → m ≡ mach_of fresh → Passed a b p q m n → d' ≡ put d 0 (end_text n) → k ≡ 0 + length (end_text n)
    → OnOk t (Appends q r (take k d')) → Rehearsed a b p r t
rehearsed a b p q r m n d d' k t begins x f g y =
    let e : m ≡ start = begins ∙ fresh_start in (
      x.0,
      x.1,
      subst (λ (l : List ℕ). OnOk t (Appends p r l))
          (ap (λ (z : Mach). say_all m x.0 ++ end_text z) x.2 ∙ ap (λ (z : Mach). say_all z x.0 ++ end_text (run_m z x.0)) e ∙ all_said x.0)
          (appended p q r _ _ t x.3 (subst (λ (l : List ℕ). OnOk t (Appends q r l)) (ap (take k) f ∙ said d (end_text n) k g) y)),
    )

-- Laws of the texts of rows: what is written part by part is the row. Assumes nothing.
use Prim.Native.Nat.{ℕ, ◌<◌}
use native.Mathlib.Omega.{arith}
use mathlib.Core.List.{List, ◌∷◌, ◌++◌, append_assoc}
use mathlib.Core.Path.{◌≡◌, refl, ap}
use Rattle.print.specs.Numbers.{decimal, digits_by}
use Rattle.print.specs.Rows.{fields, row_text, refused, no_header_text, accepted_fields}
use Rattle.types.specs.Texts.{bytes}
use Rattle.print.proofs.NumberLaws.{decimal_one}

-- fields one after another

pub field_behind : (w a : List ℕ) (fs : List (List ℕ)) → w ++ (bytes "," ++ a) ++ fields fs ≡ w ++ fields (a ∷ fs)
field_behind w a fs = grind (arith, append_assoc)

pub three_fields : (a b c : List ℕ) (fs : List (List ℕ))
    → (bytes "," ++ a) ++ (bytes "," ++ b) ++ (bytes "," ++ c) ++ fields fs ≡ fields (a ∷ b ∷ c ∷ fs)
three_fields a b c fs = grind (arith, append_assoc)

-- the row number and then the rest

pub row_accepted : (row : ℕ) (fs : List (List ℕ)) → decimal row ++ accepted_fields fs ≡ row_text row (decimal 0 ∷ fs)
unfolding row_text
row_accepted row fs = let h : 0 < 10 = omega arith in ap (λ (z : List ℕ). decimal row ++ (bytes "," ++ z ++ fields fs)) (decimal_one 0 h)

pub row_refused : (row n m : ℕ) → n ≡ m → decimal row ++ fields (refused n) ≡ row_text row (refused m)
unfolding row_text
row_refused row n m e = ap (λ (k : ℕ). decimal row ++ fields (refused k)) e

pub no_header_said : bytes "0,13,refused,,,,\n" ≡ no_header_text
unfolding no_header_text row_text decimal digits_by
no_header_said = refl

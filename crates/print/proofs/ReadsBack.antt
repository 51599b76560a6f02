-- A number's text is that number, "decimal without leading zeros": read back it is worth the number, every byte is a digit, and only 0
-- begins with the digit 0. Twenty digits are enough for every number of 64 bits. Assumes nothing.
use Prim.Native.Nat.{ℕ, zero, suc, ◌+◌, ◌*◌, ◌-◌, ◌/◌, ◌^◌, ◌<◌}
use native.Mathlib.Omega.{arith}
use native.Mathlib.Nat.{pow-suc}
use mathlib.Core.List.{List, [], ◌∷◌, ◌++◌}
use mathlib.Core.Path.{◌≡◌, refl}
use lib.ListN.{length, get_or, length-append, get_or-append}
use Rattle.print.specs.Numbers.{digit, digits_by, decimal, value_from, value, Digits}

value_last : (v : ℕ) (l : List ℕ) (b : ℕ) → value_from v (l ++ (b ∷ [])) ≡ value_from v l * 10 + (b - 48)
unfolding value_from
value_last v [] b = refl
value_last v (x ∷ l) b = value_last (v * 10 + (x - 48)) l b

value_one : (n : ℕ) → value_from 0 (digit n ∷ []) ≡ n
unfolding value_from
value_one n = omega arith

value_by : (k n : ℕ) → n < 10 ^ k → value_from 0 (digits_by k n) ≡ n
unfolding digits_by value_from
value_by zero n h = grind arith
value_by (suc k) n h = grind (arith, pow-suc 10 k, value_by k (n / 10), value_one, value_last)

pub value_decimal : (n : ℕ) → n < 10 ^ 20 → value (decimal n) ≡ n
unfolding decimal
value_decimal n h = value_by 20 n h

-- every byte is a digit

digits_append : (l m : List ℕ) → Digits l → Digits m → Digits (l ++ m)
digits_append [] m p q = q
digits_append (b ∷ l) m p q = (p.0, digits_append l m p.1 q)

digits_by_are : (k n : ℕ) → Digits (digits_by k n)
unfolding digits_by
digits_by_are zero n = tt
digits_by_are (suc k) n = grind (arith, digits_by_are k (n / 10), digits_append)

pub decimal_digits : (n : ℕ) → Digits (decimal n)
unfolding decimal
decimal_digits n = digits_by_are 20 n

-- no leading zero

leads_by : (k n : ℕ) → 0 < n → n < 10 ^ k → (0 < length (digits_by k n)) × (48 < get_or (digits_by k n) 0 0)
unfolding digits_by
leads_by zero n h g = omega arith
leads_by (suc k) n h g = grind (arith, pow-suc 10 k, leads_by k (n / 10), length-append, get_or-append)

pub decimal_leads : (n : ℕ) → 0 < n → n < 10 ^ 20 → 48 < get_or (decimal n) 0 0
unfolding decimal
decimal_leads n h g = (leads_by 20 n h g).1

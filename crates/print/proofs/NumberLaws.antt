-- Laws of a number's digits: they can be written two and four at a time, and how many there are. Assumes nothing.
use Prim.Native.Nat.{ℕ, zero, suc, ◌/◌, ◌%◌, ◌^◌, ◌<◌, ◌≤◌}
use native.Mathlib.Omega.{arith}
use native.Mathlib.Nat.{pow-suc}
use mathlib.Core.List.{[], ◌∷◌, ◌++◌, append_assoc}
use mathlib.Core.Path.{◌≡◌}
use lib.ListN.{length, length-append}
use borrow.Author.Tests.{lt-ltb, le-ltb}
use Rattle.print.specs.Numbers.{digit, digits_by, decimal, pair, four}

-- one digit more is not used

enough : (k n : ℕ) → n < 10 ^ suc k → digits_by (suc k) n ≡ digits_by (suc (suc k)) n
unfolding digits_by
enough zero n h = grind (arith, pow-suc 10 0)
enough (suc k) n h = grind (arith, pow-suc 10 (suc k), enough k (n / 10))

digits_one : (k n : ℕ) → n < 10 → digit n ∷ [] ≡ digits_by (suc k) n
unfolding digits_by
digits_one k n h = rw (lt-ltb _ _ h)

digits_more : (k n : ℕ) → 10 ≤ n → digits_by k (n / 10) ++ (digit (n % 10) ∷ []) ≡ digits_by (suc k) n
unfolding digits_by
digits_more k n h = rw (le-ltb _ _ h)

pub decimal_one : (n : ℕ) → n < 10 → digit n ∷ [] ≡ decimal n
unfolding decimal
decimal_one n h = digits_one 19 n h

decimal_last : (n : ℕ) → 10 ≤ n → n < 10 ^ 20 → decimal (n / 10) ++ (digit (n % 10) ∷ []) ≡ decimal n
unfolding decimal
decimal_last n h k = grind (arith, enough 18 (n / 10), digits_more 19 n)

-- two and four digits at a time

decimal_then_pair : (n : ℕ) → 100 ≤ n → n < 10 ^ 20 → decimal (n / 100) ++ pair (n % 100) ≡ decimal n
decimal_then_pair n h k = grind (arith, decimal_last n, decimal_last (n / 10), append_assoc)

pub decimal_two : (n : ℕ) → 10 ≤ n → n < 100 → pair n ≡ decimal n
decimal_two n h k = grind (arith, decimal_last n, decimal_one (n / 10))

pub decimal_three : (n : ℕ) → 100 ≤ n → n < 1000 → (digit (n / 100) ∷ []) ++ pair (n % 100) ≡ decimal n
decimal_three n h k = grind (arith, decimal_then_pair n, decimal_one (n / 100))

pub decimal_four : (n : ℕ) → 1000 ≤ n → n < 10000 → four n ≡ decimal n
unfolding four
decimal_four n h k = grind (arith, decimal_then_pair n, decimal_two (n / 100))

pub decimal_then_four : (n : ℕ) → 10000 ≤ n → n < 10 ^ 20 → decimal (n / 10000) ++ four (n % 10000) ≡ decimal n
unfolding four
decimal_then_four n h k = grind (arith, decimal_then_pair n, decimal_then_pair (n / 100), append_assoc)

-- how many digits there are

length_by : (m k n : ℕ) → n < 10 ^ suc k → length (digits_by m n) ≤ suc k
unfolding digits_by
length_by zero k n h = omega arith
length_by (suc m) zero n h = grind (arith, pow-suc 10 0)
length_by (suc m) (suc k) n h = grind (arith, length-append, pow-suc 10 (suc k), length_by m k (n / 10))

pub length_decimal : (k n : ℕ) → n < 10 ^ suc k → length (decimal n) ≤ suc k
unfolding decimal
length_decimal k n h = length_by 20 k n h

-- The nine records that stand in the run while it is lent a table, as the code puts them there. Assumes nothing.
use Rattle.std.proofs.Common.{ℕ, zero, suc, ◌-◌, min, ◌≡◌, List, ◌++◌, length, take, drop, replicate, arith}
use Rattle.limits.specs.Limits.{most_cabinets}
use Rattle.cabinet.specs.Cabinets.{fresh_cabinet}
use Rattle.desk.specs.Names.{Cabinet}
use Rattle.desk.specs.Desk.{nine_of, given_back}

drop_replicate : {A : Type 0} (n k : ℕ) (a : A) → drop k (replicate n a) ≡ replicate (n - k) a
drop_replicate n zero a = let e : n - 0 ≡ n = omega arith in rw e
drop_replicate zero (suc k) a = let e : 0 - suc k ≡ 0 = omega arith in rw e
drop_replicate (suc n) (suc k) a = let e : suc n - suc k ≡ n - k = omega arith in rw e (drop_replicate n k a)

-- `few` of the table are copied over as many of nine fresh cabinets
pub nine_is : (table front : List Cabinet) (few : ℕ) (k : Cabinet) → few ≡ min (length table) most_cabinets → front ≡ take few table → k ≡ fresh_cabinet
    → front ++ drop few (replicate most_cabinets k) ≡ nine_of table
unfolding nine_of
nine_is table front few k f e g =
    let past : most_cabinets - few ≡ most_cabinets - length table = omega arith in
    rw (e, drop_replicate most_cabinets few k, past, f, g)

-- and copied back
pub back_is : (table records front : List Cabinet) (few : ℕ) → few ≡ min (length table) most_cabinets → front ≡ take few records
    → front ++ drop few table ≡ given_back records table
unfolding given_back
back_is table records front few f e = rw (e, f)

-- The contract of `cabinet_offer` decides its answer and every byte that it may change, and it asks nothing of its caller: any two outcomes that
-- it allows for the same buffers agree on both, and any two buffers, of whatever length, get an answer. The offered buffer is lent as `&`, so it
-- cannot change. `Post` and `Pre` are the contract as the checker reads it in src/, so a weaker one is refused here, and one that asks for
-- something. Assumes nothing.
use Prim.Native.Nat.{ℕ}
use mathlib.Core.Path.{◌≡◌, sym, ◌∙◌}
use Rattle.firmware.proofs.cabinet_offer.Reads as reads

pub cabinet_offer_decides : (κs : _) (a : _) (r r' : ℕ) (s s' : _)
    → reads.Post κs a r s → reads.Post κs a r' s' → (r ≡ r') × (s.0.now ≡ s'.0.now)
cabinet_offer_decides κs a r r' s s' p q = (p.0 ∙ sym q.0, p.1 ∙ sym q.1)

pub cabinet_offer_any : (κs : _) (a : _) → reads.Pre κs a
cabinet_offer_any κs a = tt

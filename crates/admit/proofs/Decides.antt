-- The public contract decides, and it asks nothing of its caller: any two results that it allows for the same arguments are equal, and it
-- requires nothing. `Post` and `Pre` are the contract as the checker reads it in src/, so a weaker one is refused here, and one that asks for
-- something. Assumes nothing.
use Rattle.std.proofs.Common.{◌≡◌, sym, ◌∙◌}
use Rattle.admit.specs.Names.{Asked, Refusal, Result}
use Rattle.admit.proofs.admission.admit.Reads as admit

pub admit_decides : (κs : _) (a : _) (x y : Result Asked Refusal) (s s' : _) → admit.Post κs a x s → admit.Post κs a y s' → x ≡ y
admit_decides κs a x y s s' p q = p ∙ sym q

pub admit_any : (κs : _) (a : _) → admit.Pre κs a
admit_any κs a = tt

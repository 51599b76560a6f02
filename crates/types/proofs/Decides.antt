-- Each public contract decides, and it asks nothing of its caller: any two results that it allows for the same arguments are equal, and it
-- requires nothing. `Post` and `Pre` are the contract as the checker reads it in src/, so a weaker one is refused here, and one that asks for
-- something. Assumes nothing.
use Rattle.std.proofs.Common.{◌≡◌, ℕ, sym, ◌∙◌}
use Rattle.types.proofs.answer.U8FromRefusal.from.Reads as refusal-number
use Rattle.types.proofs.answer.answer_number.Reads as answer-number

pub refusal_number_decides : (κs : _) (a : _) (x y : ℕ) (s s' : _) → refusal-number.Post κs a x s → refusal-number.Post κs a y s' → x ≡ y
refusal_number_decides κs a x y s s' p q = p ∙ sym q

pub refusal_number_any : (κs : _) (a : _) → refusal-number.Pre κs a
refusal_number_any κs a = tt

pub answer_number_decides : (κs : _) (a : _) (x y : ℕ) (s s' : _) → answer-number.Post κs a x s → answer-number.Post κs a y s' → x ≡ y
answer_number_decides κs a x y s s' p q = p ∙ sym q

pub answer_number_any : (κs : _) (a : _) → answer-number.Pre κs a
answer_number_any κs a = tt

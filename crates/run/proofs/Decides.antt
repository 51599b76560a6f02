-- Each public contract decides, and it asks nothing of its caller: any two results that it allows for the same arguments are equal, the answer
-- and every part of the next run, and it requires nothing. `Post` and `Pre` are the contract as the checker reads it in src/, so a weaker one is
-- refused here, and one that asks for something. Assumes nothing.
use Rattle.std.proofs.Common.{ℕ, ◌≡◌, sym, ap, ◌∙◌, Bool}
use Rattle.run.specs.Names.{Answer, Sight, Started, Stepped}
use Rattle.run.proofs.fresh.start.Reads as start
use Rattle.run.proofs.gather.is_empty.Reads as is-empty
use Rattle.run.proofs.gather.others_marked.Reads as others-marked
use Rattle.run.proofs.gather.sight.Reads as sight
use Rattle.run.proofs.Run.undamaged.Reads as undamaged
use Rattle.run.proofs.Run.go.Reads as go
use Rattle.run.proofs.Run.take.Reads as take

pub start_decides : (κs : _) (a : _) (x y : Started) (s s' : _) → start.Post κs a x s → start.Post κs a y s' → x ≡ y
start_decides κs a x y s s' p q = p ∙ sym q

pub start_any : (κs : _) (a : _) → start.Pre κs a
start_any κs a = tt

pub undamaged_decides : (κs : _) (a : _) (x y : Bool) (s s' : _) → undamaged.Post κs a x s → undamaged.Post κs a y s' → x ≡ y
undamaged_decides κs a x y s s' p q = p ∙ sym q

pub undamaged_any : (κs : _) (a : _) → undamaged.Pre κs a
undamaged_any κs a = tt

pub take_decides : (κs : _) (a : _) (x y : Answer) (s s' : _) → take.Post κs a x s → take.Post κs a y s'
    → (x ≡ y) × (s.0.now ≡ s'.0.now)
take_decides κs a x y s s' p q = let same = p ∙ sym q in (ap Stepped.answer same, ap Stepped.run same)

pub take_any : (κs : _) (a : _) → take.Pre κs a
take_any κs a = tt

pub go_decides : (κs : _) (a : _) (x y : Answer) (s s' : _) → go.Post κs a x s → go.Post κs a y s'
    → (x ≡ y) × (s.0.now ≡ s'.0.now)
go_decides κs a x y s s' p q = let same = p ∙ sym q in (ap Stepped.answer same, ap Stepped.run same)

pub is_empty_decides : (κs : _) (a : _) (x y : Bool) (s s' : _) → is-empty.Post κs a x s → is-empty.Post κs a y s' → x ≡ y
is_empty_decides κs a x y s s' p q = p ∙ sym q

pub is_empty_any : (κs : _) (a : _) → is-empty.Pre κs a
is_empty_any κs a = tt

pub others_marked_decides : (κs : _) (a : _) (x y : ℕ) (s s' : _) → others-marked.Post κs a x s → others-marked.Post κs a y s' → x ≡ y
others_marked_decides κs a x y s s' p q = p ∙ sym q

pub others_marked_any : (κs : _) (a : _) → others-marked.Pre κs a
others_marked_any κs a = tt

pub sight_decides : (κs : _) (a : _) (x y : Sight) (s s' : _) → sight.Post κs a x s → sight.Post κs a y s' → x ≡ y
sight_decides κs a x y s s' p q = p ∙ sym q

pub sight_any : (κs : _) (a : _) → sight.Pre κs a
sight_any κs a = tt

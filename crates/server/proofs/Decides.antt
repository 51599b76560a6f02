-- Each public contract decides, and it asks nothing of its caller: any two results that it allows for the same arguments are equal, and it
-- requires nothing. That of `answer` says only which decision its answer stands for, whatever the slot; no two answers stand for the same
-- decision. `Post` and `Pre` are the contract as the checker reads it in src/, so a weaker one is refused here, and one that asks for something.
-- Assumes nothing.
use Prim.Native.Nat.{ℕ}
use mathlib.Core.Path.{◌≡◌, sym, ◌∙◌, ap}
use mathlib.Core.Bool.{Bool}
use Rattle.server.specs.Names.{Back, Body, Held, Message, Slot}
use Rattle.server.specs.Requests.{reply_slot, back_as}
use Rattle.server.proofs.request.answer.Reads as answer
use Rattle.server.proofs.deed.forgets.Reads as forgets
use Rattle.server.proofs.deed.is_down.Reads as is_down
use Rattle.server.proofs.deed.may_roll.Reads as may-roll
use Rattle.server.proofs.request.reply.Reads as reply

abbrev body_in : Held → Body
body_in Held.Empty = Body.Acknowledge
body_in (Held.Request m) = m.body
body_in (Held.Reply m) = m.body

-- two answers that stand for the same decision are the same
pub back_same : (j : ℕ) (m : Message) (x y : Back) → back_as j m x ≡ back_as j m y → x ≡ y
back_same j m Back.Silent Back.Silent e = cc
back_same j m Back.Silent (Back.Says c) e = cc
back_same j m Back.Silent (Back.Weighs g) e = cc
back_same j m (Back.Says b) Back.Silent e = cc
back_same j m (Back.Says b) (Back.Says c) e = let r : reply_slot m b ≡ reply_slot m c = cc in ap (λ (t : Slot). Back.Says (body_in t.held)) r
back_same j m (Back.Says b) (Back.Weighs g) e = cc
back_same j m (Back.Weighs f) Back.Silent e = cc
back_same j m (Back.Weighs f) (Back.Says c) e = cc
back_same j m (Back.Weighs f) (Back.Weighs g) e = cc

pub answer_decides : (κs : _) (a : _) (x y : Back) (s s' : _) → answer.Post κs a x s → answer.Post κs a y s' → x ≡ y
answer_decides κs a x y s s' p q = back_same 0 a.0.now x y (sym (p 0) ∙ q 0)

pub answer_any : (κs : _) (a : _) → answer.Pre κs a
answer_any κs a = tt

pub is_down_decides : (κs : _) (a : _) (x y : Bool) (s s' : _) → is_down.Post κs a x s → is_down.Post κs a y s' → x ≡ y
is_down_decides κs a x y s s' p q = p ∙ sym q

pub is_down_any : (κs : _) (a : _) → is_down.Pre κs a
is_down_any κs a = tt

pub may_roll_decides : (κs : _) (a : _) (x y : Bool) (s s' : _) → may-roll.Post κs a x s → may-roll.Post κs a y s' → x ≡ y
may_roll_decides κs a x y s s' p q = p ∙ sym q

pub may_roll_any : (κs : _) (a : _) → may-roll.Pre κs a
may_roll_any κs a = tt

pub forgets_decides : (κs : _) (a : _) (x y : Bool) (s s' : _) → forgets.Post κs a x s → forgets.Post κs a y s' → x ≡ y
forgets_decides κs a x y s s' p q = p ∙ sym q

pub forgets_any : (κs : _) (a : _) → forgets.Pre κs a
forgets_any κs a = tt

pub reply_decides : (κs : _) (a : _) (x y : Slot) (s s' : _) → reply.Post κs a x s → reply.Post κs a y s' → x ≡ y
reply_decides κs a x y s s' p q = p ∙ sym q

pub reply_any : (κs : _) (a : _) → reply.Pre κs a
reply_any κs a = tt

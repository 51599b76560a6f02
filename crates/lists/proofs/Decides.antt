-- Each public contract decides, and it asks nothing of its caller: any two outcomes that it allows for the same arguments agree on the answer,
-- on every part of the next run and on every place of the table at exit. `Post` and `Pre` are the contract as the checker reads it in src/, so
-- a weaker one is refused here, and one that asks for something. Assumes nothing.
use Prim.Native.Nat.{ℕ}
use mathlib.Core.Bool.{Bool}
use mathlib.Core.List.{List}
use mathlib.Core.Path.{◌≡◌, sym, ap, ◌∙◌}
use Rattle.lists.specs.Names.{Listed, Whole}
use Rattle.lists.proofs.fill.Reads as fill
use Rattle.lists.proofs.fits.Reads as fits
use Rattle.lists.proofs.take_list.Reads as take-list
use Rattle.lists.proofs.take_first.Reads as take-first
use Rattle.lists.proofs.U8FromNoRoom.from.Reads as no-room-number

pub take_list_decides : (κs : _) (a : _) (r r' : Whole) (s s' : _) → take-list.Post κs a r s → take-list.Post κs a r' s'
    → (r ≡ r') × (s.0.now ≡ s'.0.now) × (s.1.1.0.now ≡ s'.1.1.0.now)
take_list_decides κs a r r' s s' p q =
    let e = p ∙ sym q in
    (ap (λ (z : Listed × List ℕ). z.0.whole) e, ap (λ (z : Listed × List ℕ). z.0.run) e, ap (λ (z : Listed × List ℕ). z.1) e)

pub take_list_any : (κs : _) (a : _) → take-list.Pre κs a
take_list_any κs a = tt

pub take_first_decides : (κs : _) (a : _) (r r' : Whole) (s s' : _) → take-first.Post κs a r s → take-first.Post κs a r' s'
    → (r ≡ r') × (s.0.now ≡ s'.0.now) × (s.1.1.1.0.now ≡ s'.1.1.1.0.now)
take_first_decides κs a r r' s s' p q =
    let e = p ∙ sym q in
    (ap (λ (z : Listed × List ℕ). z.0.whole) e, ap (λ (z : Listed × List ℕ). z.0.run) e, ap (λ (z : Listed × List ℕ). z.1) e)

pub take_first_any : (κs : _) (a : _) → take-first.Pre κs a
take_first_any κs a = tt

pub fits_decides : (κs : _) (a : _) (x y : Bool) (s s' : _) → fits.Post κs a x s → fits.Post κs a y s' → x ≡ y
fits_decides κs a x y s s' p q = p ∙ sym q

pub fits_any : (κs : _) (a : _) → fits.Pre κs a
fits_any κs a = tt

pub fill_decides : (κs : _) (a : _) (r r' : _) (s s' : _) → fill.Post κs a r s → fill.Post κs a r' s' → s.0.now ≡ s'.0.now
fill_decides κs a r r' s s' p q = p ∙ sym q

pub no_room_number_decides : (κs : _) (a : _) (x y : ℕ) (s s' : _) → no-room-number.Post κs a x s → no-room-number.Post κs a y s' → x ≡ y
no_room_number_decides κs a x y s s' p q = p ∙ sym q

pub no_room_number_any : (κs : _) (a : _) → no-room-number.Pre κs a
no_room_number_any κs a = tt

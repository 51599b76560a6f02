-- Each public contract decides, and but for that of `find` it asks nothing of its caller: any two results that it allows for the same arguments
-- are equal, and it requires nothing. `Post` and `Pre` are the contract as the checker reads it in src/, so a weaker one is refused here, and one
-- that asks for something. Assumes nothing.
use Prim.Native.Nat.{ℕ}
use mathlib.Core.List.{List}
use denote.Bor.{Bor}
use Rattle.std.specs.Prelude.{Option}
use mathlib.Core.Path.{◌≡◌, sym, ◌∙◌}
use mathlib.Core.Bool.{Bool}
use Rattle.text.specs.Names.{Found, Row, Step}
use Rattle.text.proofs.EndLaws.{found_one}
use Rattle.text.proofs.row.parse.Reads as parse
use Rattle.text.proofs.row.is_header.Reads as is-header
use Rattle.text.proofs.whole.find.Reads as find
use Rattle.text.proofs.whole.step_of.Reads as step-of
use Rattle.text.proofs.whole.trim.Reads as trim

pub parse_decides : (κs : _) (a : _) (x y : Option Row) (s s' : _) → parse.Post κs a x s → parse.Post κs a y s' → x ≡ y
parse_decides κs a x y s s' p q = p ∙ sym q

pub parse_any : (κs : _) (a : _) → parse.Pre κs a
parse_any κs a = tt

pub is_header_decides : (κs : _) (a : _) (x y : Bool) (s s' : _) → is-header.Post κs a x s → is-header.Post κs a y s' → x ≡ y
is_header_decides κs a x y s s' p q = p ∙ sym q

pub is_header_any : (κs : _) (a : _) → is-header.Pre κs a
is_header_any κs a = tt

pub trim_decides : (κs : _) (a : _) (x y : Bor (List ℕ)) (s s' : _) → trim.Post κs a x s → trim.Post κs a y s' → x.now ≡ y.now
trim_decides κs a x y s s' p q = p ∙ sym q

pub trim_any : (κs : _) (a : _) → trim.Pre κs a
trim_any κs a = tt

pub step_of_decides : (κs : _) (a : _) (x y : Step) (s s' : _) → step-of.Post κs a x s → step-of.Post κs a y s' → x ≡ y
step_of_decides κs a x y s s' p q = p ∙ sym q

pub step_of_any : (κs : _) (a : _) → step-of.Pre κs a
step_of_any κs a = tt

pub find_decides : (κs : _) (a : _) (x y : Option Found) (s s' : _) → find.Pre κs a → find.Post κs a x s → find.Post κs a y s' → x ≡ y
find_decides κs a x y s s' h p q = found_one _ _ h x y p q

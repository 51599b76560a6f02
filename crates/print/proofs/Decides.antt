-- Each public contract decides: any two outcomes that it allows for the same buffer and arguments agree on the place behind the row and on
-- every byte of the buffer. `Post` is the contract as the checker reads it in src/, so a weaker contract is refused here. Assumes nothing.
use Prim.Native.Nat.{ℕ}
use mathlib.Core.Path.{◌≡◌}
use Rattle.print.proofs.PutLaws.{agree}
use Rattle.print.proofs.row.put_step.Reads as put_step
use Rattle.print.proofs.row.put_plan.Reads as put-plan
use Rattle.print.proofs.row.put_refusal.Reads as put-refusal
use Rattle.print.proofs.row.put_head.Reads as put-head
use Rattle.print.proofs.row.put_no_header.Reads as put-no-header

pub put_step_decides : (κs : _) (a : _) (r r' : ℕ) (s s' : _)
    → put_step.Post κs a r s → put_step.Post κs a r' s' → (r ≡ r') × (s.0.now ≡ s'.0.now)
put_step_decides κs a r r' s s' p q = agree _ _ _ p.0 q.0

pub put_plan_decides : (κs : _) (a : _) (r r' : ℕ) (s s' : _)
    → put-plan.Post κs a r s → put-plan.Post κs a r' s' → (r ≡ r') × (s.0.now ≡ s'.0.now)
put_plan_decides κs a r r' s s' p q = agree _ _ _ p.0 q.0

pub put_refusal_decides : (κs : _) (a : _) (r r' : ℕ) (s s' : _)
    → put-refusal.Post κs a r s → put-refusal.Post κs a r' s' → (r ≡ r') × (s.0.now ≡ s'.0.now)
put_refusal_decides κs a r r' s s' p q = agree _ _ _ p.0 q.0

pub put_head_decides : (κs : _) (a : _) (r r' : ℕ) (s s' : _)
    → put-head.Post κs a r s → put-head.Post κs a r' s' → (r ≡ r') × (s.0.now ≡ s'.0.now)
put_head_decides κs a r r' s s' p q = agree _ _ _ p.0 q.0

pub put_no_header_decides : (κs : _) (a : _) (r r' : ℕ) (s s' : _)
    → put-no-header.Post κs a r s → put-no-header.Post κs a r' s' → (r ≡ r') × (s.0.now ≡ s'.0.now)
put_no_header_decides κs a r r' s s' p q = agree _ _ _ p.0 q.0

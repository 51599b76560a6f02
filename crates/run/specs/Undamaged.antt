-- Whether a run is damaged: clauses S13.1 to S13.3 of docs/SCOPE.md, over those of crate guard.
use Rattle.std.specs.Prelude.{Bool, ◌&&◌, leb}
use Rattle.limits.specs.Limits.{most_steps}
use Rattle.plan.specs.Rule.{is_ruled}
use Rattle.guard.specs.All.{all_from}
use Rattle.guard.specs.Damage.{cabinet_sound, client_sound, slot_sound}
use Rattle.run.specs.Names.{Run}

-- S13.2, S13.3: the plan and the accepted steps, then clients and slots: all but the cabinets
unfoldable pub rest_sound : Run → Bool
rest_sound run =
    is_ruled run.plan
    && (leb run.steps most_steps
    && (all_from (client_sound run.plan run.steps) 0 run.clients && all_from (slot_sound run.plan.n run.steps) 0 run.slots))

-- S13.1: every clause holds; S13.16: no other is asked
unfoldable pub undamaged : Run → Bool
undamaged run = rest_sound run && all_from (cabinet_sound run.plan run.steps) 0 run.cabinets

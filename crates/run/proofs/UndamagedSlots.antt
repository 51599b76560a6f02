-- A request that is sent and a reply to it are sound messages. Assumes nothing.
use Rattle.std.proofs.Common.{ℕ, ◌+◌, ◌<◌, Bool, true, ◌≡◌, arith}
use Rattle.std.proofs.lemmas.Bool.Decides.{nat_tests}
use Rattle.limits.specs.Limits.{most_clients}
use Rattle.run.specs.Names.{Body, Client, Entry, Held, Message, Plan, Sight, Standing, Work}
use Rattle.client.specs.Begin.{standing_of, part_of, request_body, request_slot, sends_of}
use Rattle.server.specs.Requests.{reply_slot, answers_by, answers_of}
use Rattle.guard.specs.Damage.{entry_sound, address_sound, slot_sound, client_sound}
use Rattle.guard.proofs.DamageLaws.{stamp_mono, entry_says, entry_mono, client_says}
use Rattle.guard.proofs.MessageLaws.{Asks, Tells, address_says, address_made, slot_made}
use Rattle.run.specs.Steps.{loses_by}
use Rattle.run.proofs.UndamagedChanges.{Keeps, refused, of_slot, of_offering, empty_sound}

-- ---- a request

-- what an open part asks
open_asks : (steps : ℕ) (w : Work) (e : Entry) → entry_sound steps e ≡ true → standing_of w ≡ Standing.Busy
    → Asks steps (part_of w) (request_body w e)
open_asks steps w e h b = grind arith

pub sends_keeps : (plan : Plan) (steps i p : ℕ) (c : Client) (free : ℕ) → i < most_clients → p < plan.n → client_sound plan steps i c ≡ true
    → Keeps plan (steps + 1) (sends_of i p c free)
unfolding sends_of
sends_keeps plan steps i p c free who line h = grind (arith, nat_tests, refused, of_slot, request)
  where
    request : standing_of c.work ≡ Standing.Busy → slot_sound plan.n (steps + 1) free (request_slot i p c) ≡ true
    request b = grind (arith, client_says, slot_made, address_made, open_asks, entry_mono)

-- ---- a reply

module _ (plan : Plan) (steps j : ℕ) (m : Message) (k : Sight) (address : address_sound plan.n steps m ≡ true) (present : entry_sound steps k.present ≡ true) where
  -- the reply goes back where the request came from
  reply_sound : (b : Body) → Tells (steps + 1) m.part b → slot_sound plan.n (steps + 1) j (reply_slot m b) ≡ true
  reply_sound b t = grind (arith, address_says, slot_made, address_made)

  answers_by_keeps : (b : Body) (stale : Bool) → Asks steps m.part b → Keeps plan (steps + 1) (answers_by b stale j m k)
  answers_by_keeps b stale a = grind (arith, of_slot, of_offering, empty_sound, reply_sound, stamp_mono, entry_mono, entry_says, address_says)

  pub answers_keeps : Asks steps m.part m.body → Keeps plan (steps + 1) (answers_of j m k)
  unfolding answers_of
  answers_keeps a = grind (arith, of_slot, empty_sound, answers_by_keeps)

pub loses_keeps : (plan : Plan) (steps j : ℕ) (h : Held) → Keeps plan steps (loses_by h j)
loses_keeps plan steps j h = grind (arith, refused, of_slot, empty_sound)

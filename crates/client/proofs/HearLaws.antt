-- Laws of the hearing of a reply: which are awaited, which entry is the best, which reply ends its part. Assumes nothing.
use Rattle.std.proofs.Common.{ℕ, ◌≤◌, arith, Bool, true, false, ◌≡◌}
use Rattle.std.proofs.lemmas.Bool.Decides.{nat_tests}
use Rattle.client.specs.Names.{Client, Decision, Ending, Entry, Heard, Message, None, Option, Plan, Reading, Told, Work}
use Rattle.cabinet.specs.Entries.{factory_entry, takes}
use Rattle.heard.specs.Heard.{has_of, with_of, count_of}
use Rattle.client.specs.Begin.{part_of}
use Rattle.client.specs.Hear.{told_of, best_of, chosen_by, ended, first_write, first_read, second, hear_by, hears_of}

-- ---- which replies the open part awaits

module _ (c : Client) (m : Message) where
  pub await_other : (c.operation ≡ m.operation → ⊥) → None ≡ told_of c m
  unfolding told_of
  await_other h = grind (arith, nat_tests)

  module _ (part : ℕ) (same : c.operation ≡ m.operation) (ep : part ≡ part_of c.work) where
    pub await_past : (part ≡ m.part → ⊥) → None ≡ told_of c m
    unfolding told_of
    await_past h = grind (arith, nat_tests)

    module _ (now : part ≡ m.part) (has : Bool) (eh : has ≡ has_of c.heard m.cabinet) where
      pub await_again : has ≡ true → None ≡ told_of c m
      unfolding told_of
      await_again h = grind (arith, nat_tests)

-- ---- the best entry heard

module _ (n : ℕ) (best e : Entry) where
  pub best_first : n ≡ 1 → e ≡ best_of n best e
  unfolding best_of
  best_first h = grind (arith, nat_tests)

  module _ (ne : n ≡ 1 → ⊥) (t : Bool) (et : t ≡ takes best e) where
    pub best_greater : t ≡ true → e ≡ best_of n best e
    unfolding best_of
    best_greater h = grind (arith, nat_tests)

    pub best_stays : t ≡ false → best ≡ best_of n best e
    unfolding best_of
    best_stays h = grind (arith, nat_tests)

-- ---- whether a reply ends its part

module _ (plan : Plan) (i j : ℕ) (c : Client) (heard : Heard) (n : ℕ) (en : n ≡ count_of heard) where
  module _ (r : Reading) (best : Entry) where
    pub write_chosen : (d : Decision) → d ≡ ended i j c.operation Ending.Chosen (chosen_by i best r) Work.SecondWrite (chosen_by i best r)
        → plan.read ≤ n → d ≡ first_write plan i j c heard r best
    unfolding first_write
    write_chosen d ed h = grind (arith, nat_tests)

  module _ (best : Entry) where
    pub read_found : (d : Decision) → d ≡ ended i j c.operation Ending.Found best Work.SecondRead best → plan.read ≤ n
        → d ≡ first_read plan i j c heard best
    unfolding first_read
    read_found d ed h = grind (arith, nat_tests)

  module _ (how : Ending) where
    pub second_done : (d : Decision) → d ≡ ended i j c.operation how c.best Work.Idle factory_entry → plan.write ≤ n
        → d ≡ second plan i j c heard how
    unfolding second
    second_done d ed h = grind (arith, nat_tests)

-- ---- a reply heard

-- `heard` is the set with the reply's cabinet, `s` what the reply says
module _ (plan : Plan) (j : ℕ) (c : Client) (m : Message) (heard : Heard) (s : Option Told) (eh : heard ≡ with_of c.heard m.cabinet) (es : s ≡ told_of c m) where
  pub hear_at : (t : Option Told) → s ≡ t → hear_by t plan m.client j c heard ≡ hears_of plan j c m
  unfolding hears_of
  hear_at t g = cc

-- What holds in every run that is reached from a fresh one, as far as the promise needs it, from the laws of crate run. Assumes nothing.
use Prim.Native.Nat.{ℕ, ◌+◌, ◌≤◌, ◌<◌}
use mathlib.Core.Path.{◌≡◌, refl, ap, sym, ◌∙◌}
use mathlib.Core.Bool.{false, cond, not}
use mathlib.Core.List.{List, [], ◌∷◌}
use native.Mathlib.Omega.{arith}
use lib.ListN.{get_or, length}
use borrow.Author.Tests.{le-ltb}
use Rattle.limits.specs.Limits.{most_cabinets}
use Rattle.promise.specs.Names.{Cabinet, Ok, Plan, Profile, Run, Step}
use Rattle.plan.specs.Rule.{plan_of}
use Rattle.plan.proofs.RuleLaws.{forgetful_meet, forgetful_stores, store_meet}
use Rattle.plan.proofs.RuledLaws.{ruled_accepted}
use Rattle.heard.specs.Heard.{how_many}
use Rattle.types.specs.Parts.{no_cabinet, stored_in}
use Rattle.run.specs.Start.{fresh_run}
use Rattle.run.specs.Steps.{cabinet_at, step_of}
use Rattle.run.proofs.FitLaws.{cabinets_range}
use Rattle.promise.proofs.MarkedLaws.{marked_in, step_marked}
use Rattle.run.proofs.ShapeLaws.{fresh_shaped}
use Rattle.run.proofs.SoundLaws.{undamaged_says}
use Rattle.run.proofs.UndamagedLaws.{Whole, step_whole, fresh_undamaged}
use Rattle.promise.proofs.Count.{many_none, many_or, many_past, many_more, many_front}
use Rattle.promise.proofs.SimView.{weak_in, view}

-- the numbers I16 and I17 are those of docs/PROMISE.md
pub record Good (run : Run) : Type 0 where
  -- I16: the run is undamaged, and its arrays have their lengths
  pub whole : Whole run
  -- I17: at most r cabinets are marked
  pub few : marked_in run.cabinets ≤ run.plan.r

pub good_step : (run : Run) (s : Step) → Good run → Good (step_of run s).run
good_step run s G = record { whole = step_whole run s G.whole; few = step_marked run s G.few }

pub good_fresh : (n k r b : ℕ) (p : Plan) → plan_of n k r b ≡ Ok p → Good (fresh_run p)
unfolding fresh_run marked_in
good_fresh n k r b p e = record { whole = record { shaped = fresh_shaped p; sound = fresh_undamaged n k r b p e }; few = omega arith }

-- the marked ones, counted by their places
marked_many : (l : List Cabinet) → marked_in l ≡ how_many (length l) (λ q. (get_or l q no_cabinet).marked)
unfolding marked_in how_many
marked_many [] = refl
marked_many (k ∷ l) =
    ap (λ (m : ℕ). cond k.marked 1 0 + m) (marked_many l) ∙ sym (many_front (length l) (λ q. (get_or (k ∷ l) q no_cabinet).marked))

module _ {run : Run} (G : Good run) where
  pub most : run.plan.n ≤ most_cabinets
  most = (cabinets_range run G.whole.sound).1

  accepted : plan_of run.plan.n run.plan.k run.plan.r run.plan.b ≡ Ok run.plan
  accepted = ruled_accepted run.plan (undamaged_says run G.whole.sound).ruled

  -- a forgetful line has no store
  pub no_store : run.plan.profile ≡ Profile.Forgetful → (q : ℕ) → stored_in run.plan q ≡ false
  no_store e q = let p = run.plan in le-ltb q p.stores (omega (arith, forgetful_stores p.n p.k p.r p.b p accepted e))

  marks : how_many most_cabinets (λ q. (cabinet_at run q).marked) ≤ run.plan.r
  unfolding cabinet_at
  marks =
      let there : marked_in run.cabinets ≡ how_many most_cabinets (λ q. (get_or run.cabinets q no_cabinet).marked) =
      marked_many run.cabinets ∙ ap (λ (n : ℕ). how_many n (λ q. (get_or run.cabinets q no_cabinet).marked)) G.whole.shaped.cabinets in
      omega (arith, G.few, there)

  -- the counting at the heart: a write quorum and a read quorum are more than the line and its weak cabinets together
  pub outnumbers : run.plan.n + how_many run.plan.n (view run).weak < run.plan.write + run.plan.read
  unfolding view
  outnumbers = go run.plan.profile refl
    where
      go : (f : Profile) → run.plan.profile ≡ f
          → run.plan.n + how_many run.plan.n (λ q. weak_in f (stored_in run.plan q) (cabinet_at run q)) < run.plan.write + run.plan.read
      go Profile.Forgetful e =
          let p = run.plan in omega (arith, many_none p.n, forgetful_meet p.n p.k p.r p.b p accepted e)
      go Profile.Store e =
          let p = run.plan in
          omega (
            arith,
            store_meet p.n p.k p.r p.b p accepted e,
            many_past p.n p.stores,
            many_or p.n (λ q. not (stored_in p q)) (λ q. (cabinet_at run q).marked),
            many_more p.n most_cabinets (λ q. (cabinet_at run q).marked) most,
            marks,
          )

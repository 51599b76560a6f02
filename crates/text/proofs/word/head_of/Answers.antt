-- `head_of` meets its contract. Assumes nothing.
use mathlib.Core.Path.{sym, ◌∙◌}
use native.Mathlib.Omega.{arith}
use Rattle.text.proofs.WordLaws.{by_lead, by_none, by_empty}
use Rattle.text.specs.Pieces.{head_in, lead_by}
use Rattle.text.specs.Words.{kinds}
use Rattle.text.proofs.word.head_of.Goals as goal

pub returns-in_err-first : goal.returns-in_err-first
returns-in_err-first c = c.from_residual.ensures ∙ by_empty _ (sym c.in_err-first.ensures.value)

pub returns-in-100 : goal.returns-in-100
unfolding head_in lead_by
returns-in-100 c = c.head_if.ensures ∙ by_lead kinds _ 100 (cc (c.in_ok-first.ensures.value))

pub returns-in-108 : goal.returns-in-108
returns-in-108 c = c.head_l.ensures ∙ by_lead kinds _ 108 (cc (c.in_ok-first.ensures.value))

pub returns-in-112 : goal.returns-in-112
unfolding head_in lead_by
returns-in-112 c = c.head_if-in-112.ensures ∙ by_lead kinds _ 112 (cc (c.in_ok-first.ensures.value))

pub returns-in-114 : goal.returns-in-114
returns-in-114 c = c.head_r.ensures ∙ by_lead kinds _ 114 (cc (c.in_ok-first.ensures.value))

pub returns-in-115 : goal.returns-in-115
returns-in-115 c = c.head_s.ensures ∙ by_lead kinds _ 115 (cc (c.in_ok-first.ensures.value))

pub returns-in-119 : goal.returns-in-119
unfolding head_in lead_by
returns-in-119 c = c.head_if-in-119.ensures ∙ by_lead kinds _ 119 (cc (c.in_ok-first.ensures.value))

pub returns-in_default : goal.returns-in_default
returns-in_default c =
    by_none _ _ (sym c.in_ok-first.ensures.value) (λ e. omega arith) (λ e. omega arith) (λ e. omega arith) (λ e. omega arith) (λ e. omega arith) (λ e. omega arith)

-- Rows of docs/SCOPE.md (S17.11, S17.12) as the definitions have them, and the longest row there is. Assumes nothing.
use mathlib.Core.List.{◌++◌}
use mathlib.Core.Path.{◌≡◌, refl}
use lib.ListN.{length}
use Rattle.print.specs.Names.{Ending, Err, Ok, Outcome, Reading, Refusal}
use Rattle.plan.specs.Rule.{in_range, chosen, plan_of}
use Rattle.print.specs.Numbers.{digits_by, decimal}
use Rattle.print.specs.Rows.{row_text, step_text, plan_text, refusal_text, no_header_text, head_text, room}
use Rattle.types.specs.Texts.{bytes}

-- the whole output of case R1
pub r1_output
    : head_text
    ++ plan_text 1 (plan_of 3 1 0 0)
    ++ step_text 2 (Ok Outcome.Begun)
    ++ step_text 3 (Ok (Outcome.Sent 1))
    ++ step_text 4 (Ok (Outcome.Answered 1))
    ++ step_text 5 (Ok (Outcome.Counted 1))
    ++ step_text 6 (Ok Outcome.Restarted)
    ++ step_text 7 (Ok (Outcome.Sent 1))
    ++ step_text 8 (Ok (Outcome.Unanswered 1))
    ++ step_text 9 (Err Refusal.NoMessage)
    ≡ bytes "row,answer,outcome,slot,counter,writer,entry\n"
    ++ bytes "1,0,forgetful,,,,\n"
    ++ bytes "2,0,begun,,,,\n"
    ++ bytes "3,0,sent,1,,,\n"
    ++ bytes "4,0,answered,1,,,\n"
    ++ bytes "5,0,counted,1,,,\n"
    ++ bytes "6,0,restarted,,,,\n"
    ++ bytes "7,0,sent,1,,,\n"
    ++ bytes "8,0,unanswered,1,,,\n"
    ++ bytes "9,8,refused,,,,\n"
unfolding head_text plan_text step_text row_text decimal digits_by plan_of in_range chosen
r1_output = refl

-- plan P6, a row of another form, a missing header, and a part that ended
pub other_rows
    : (plan_text 1 (plan_of 3 1 1 1) ≡ bytes "1,12,refused,,,,\n")
    × (refusal_text 10 ≡ bytes "10,2,refused,,,,\n")
    × (no_header_text ≡ bytes "0,13,refused,,,,\n")
    × (step_text 12 (Ok (Outcome.Ended Ending.Chosen 3 (record { stamp = record { counter = 1; writer = 1 }; reading = Reading.Open 6 })))
    ≡ bytes "12,0,chosen,3,1,1,open 6\n")
unfolding plan_text refusal_text no_header_text step_text row_text decimal digits_by plan_of in_range chosen
other_rows = (refl, refl, refl, refl)

-- the room that each function requires is needed: this row takes all of it
pub longest_row
    : length (step_text 18446744073709551615 (Ok (Outcome.Ended Ending.Written 255
    (record { stamp = record { counter = 18446744073709551615; writer = 255 }; reading = Reading.Open 255 }))))
    ≡ room
unfolding step_text row_text decimal digits_by
longest_row = refl

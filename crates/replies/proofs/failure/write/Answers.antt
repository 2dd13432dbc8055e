use Rattle.replies.proofs.WriteLaws.{first_fell, second_fell, third_fell, fourth_fell, all_put}
use Rattle.replies.proofs.failure.write.Goals as goal

pub returns-in_err-at : goal.returns-in_err-at
returns-in_err-at c = first_fell _ c.args.recipient c.args.reason _ c.requires c.in_err-at.ensures.answer

pub returns-in_err-at-2 : goal.returns-in_err-at-2
returns-in_err-at-2 c =
    second_fell _ c.args.recipient c.args.reason _ c.requires _ _ c.in_ok-at.ensures.answer c.put_u8.ensures.bytes c.in_err-at-2.ensures.answer

pub returns-in_err-at-3 : goal.returns-in_err-at-3
returns-in_err-at-3 c =
    third_fell _ c.args.recipient _ _ c.requires _ _ c.in_ok-at.ensures.answer c.put_u8.ensures.bytes _ _ c.in_ok-at-2.ensures.answer
    c.put_u32.ensures.bytes c.in_err-at-3.ensures.answer

pub returns-in_err-at-4 : goal.returns-in_err-at-4
returns-in_err-at-4 c =
    fourth_fell _ c.args.recipient _ _ c.requires _ _ c.in_ok-at.ensures.answer c.put_u8.ensures.bytes _ _ c.in_ok-at-2.ensures.answer
    c.put_u32.ensures.bytes _ _ c.in_ok-at-3.ensures.answer c.put_u32-2.ensures.bytes c.in_err-at-4.ensures.answer

pub returns : goal.returns
returns c =
    let all = all_put _ _ _ _ c.requires _ _ c.in_ok-at.ensures.answer c.put_u8.ensures.bytes _ _ c.in_ok-at-2.ensures.answer
    c.put_u32.ensures.bytes _ _ c.in_ok-at-3.ensures.answer c.put_u32-2.ensures.bytes _ _ c.in_ok-at-4.ensures.answer
    c.put_string.ensures.bytes _ _ c.put_string-2.ensures.answer c.put_string-2.ensures.bytes
    _ c.from.ensures in
    record { answer = all.0; bytes = all.1 }

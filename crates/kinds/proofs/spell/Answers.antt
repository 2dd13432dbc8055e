use Rattle.put.proofs.WriterLaws.{handed_put}
use Rattle.kinds.proofs.KindLaws.{kind_off, kind_put}
use Rattle.kinds.proofs.spell.Goals as goal

pub returns-in_err-of : goal.returns-in_err-of
returns-in_err-of c =
    let both = handed_put _ _ _ _ _ c.from_residual.ensures (kind_off _ _ _ c.in_err-of.ensures) in record { answer = both.0; bytes = both.1 }

pub returns : goal.returns
returns c =
    let both = kind_put _ _ _ _ _ _ c.in_ok-of.ensures (c.put_name.ensures.answer, c.put_name.ensures.bytes) in record { answer = both.0; bytes = both.1 }

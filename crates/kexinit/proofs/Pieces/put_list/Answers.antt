-- The rows that are shown, put at once. Assumes nothing.
use Rattle.kexinit.specs.Pieces.{once}
use Rattle.put.proofs.RunLaws.{run_last}
use Rattle.kexinit.proofs.Pieces.put_list.Goals as goal

pub returns : goal.returns
unfolding once
returns c =
    let d = c.deref.ensures.0 in
    run_last _ _ _ _ _ _ (rw d at c.put_rows.ensures.answer, rw d at c.put_rows.ensures.bytes) c.after.ensures

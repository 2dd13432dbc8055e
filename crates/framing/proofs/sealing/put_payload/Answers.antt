use Rattle.std.proofs.Common.{arith, length-take}
use Rattle.framing.proofs.SealingLaws.{payload_laws}
use Rattle.framing.proofs.sealing.put_payload.Goals as goal

pub returns-then-x-lt32 : goal.returns-then-x-lt32
returns-then-x-lt32 c = search payload_laws

pub slice_bounds-put_bytes-end : goal.slice_bounds-put_bytes-end
slice_bounds-put_bytes-end c = simp length-take (omega arith)

pub returns : goal.returns
returns c = search payload_laws

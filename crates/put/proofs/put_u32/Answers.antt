-- Each answer by the law of its end; where `lacks` said no, there is the room that the stores ask for. Assumes nothing.
use Rattle.put.proofs.CodeLaws.{code, room}
use Rattle.put.proofs.put_u32.Goals as goal

pub returns-then-lacks : goal.returns-then-lacks
returns-then-lacks c = search code

pub store_u32-requires : goal.store_u32-requires
store_u32-requires c = search room

pub returns : goal.returns
returns c = search code

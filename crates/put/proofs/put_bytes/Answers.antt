-- Each answer by the law of its end; where `lacks` said no, there is the room that the copy asks for. Assumes nothing.
use Rattle.put.proofs.CodeLaws.{code, room}
use Rattle.put.proofs.put_bytes.Goals as goal

pub returns-then-lacks : goal.returns-then-lacks
returns-then-lacks c = search code

pub store_bytes-requires : goal.store_bytes-requires
store_bytes-requires c = search room

pub returns : goal.returns
returns c = search code

-- Laws of the failure payload (specs/Failure.antt). Assumes nothing.
use mathlib.Core.Path.{◌≡◌}
use mathlib.Core.List.{List}
use Prim.Native.Nat.{ℕ, ◌+◌, ◌≤◌, ◌<◌}
use native.Mathlib.Omega.{arith}
use borrow.Author.Tests.{le-leb, lt-leb}
use lib.ListN.{length, length-append}
use Rattle.answer.specs.Answer.{done, refuse, ◌>>=◌}
use Rattle.answer.proofs.Laws.{pass, stop, un_done}
use Rattle.put.specs.Written.{word}
use Rattle.replies.specs.Failure.{failure, payload, unknown_type}

-- a text of up to 1,024 bytes is written, a longer one refused with 1
pub failure_short : (recipient reason : ℕ) (text : List ℕ) → length text ≤ 1024
    → failure recipient reason text ≡ done (payload recipient reason text)
unfolding failure
failure_short recipient reason text h = pass 1 _ _ (le-leb (length text) 1024 h)

pub failure_long : (recipient reason : ℕ) (text : List ℕ) → 1024 < length text → failure recipient reason text ≡ refuse 1
unfolding failure
failure_long recipient reason text h = stop 1 _ _ (lt-leb (length text) 1024 h)

-- the payload has 19 bytes more than its text: the number, two uint32, the text's length, and "en" with its own
pub payload_length : (recipient reason : ℕ) (text : List ℕ) → length (payload recipient reason text) ≡ 19 + length text
unfolding payload word
payload_length recipient reason text = simp length-append (omega arith)

-- "The failure for an unknown type has 39 bytes."
pub unknown_type_length : (recipient : ℕ) (x : List ℕ) → unknown_type recipient ≡ done x → length x ≡ 39
unfolding failure payload word ◌>>=◌
unknown_type_length recipient x e = let f = un_done e in rw (← f)

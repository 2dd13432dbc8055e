-- What `write_kex` promises, read off its contract: which inputs are refused and with what, and how long a payload is.
-- Assumes nothing.
use mathlib.Core.Path.{◌≡◌, sym, ◌∙◌}
use mathlib.Core.Bool.{Bool, true, ◌&&◌}
use mathlib.Core.List.{List, ◌++◌}
use Prim.Native.Nat.{ℕ, ◌≤◌, ◌<◌}
use native.Mathlib.Nat.{zero-add}
use borrow.Author.Tests.{eqb-true}
use lib.Dec.{eqb}
use lib.ListN.{length, drop}
use Rattle.answer.specs.Answer.{done, refuse}
use Rattle.answer.proofs.Laws.{split, and_left, and_right, stop, un_done, not_both}
use Rattle.put.specs.Written.{written, buffer}
use Rattle.put.proofs.PutLaws.{written_fits, written_full, front}
use Rattle.judging.specs.Tables.{Tables, valid}
use Rattle.negotiation.specs.Written.{kex_init, write_kex}
use Rattle.negotiation.proofs.KexInitLaws.{write_valid, kex_fits}

-- a payload comes of valid tables and a cookie of 16 bytes, and of these always
module _ (t : Tables) (cookie : List ℕ) where
  abbrev tested : Bool
  tested = valid t && eqb (length cookie) 16

  pub written_only : (x : List ℕ) → write_kex t cookie ≡ done x → (valid t ≡ true) × (length cookie ≡ 16) × (x ≡ kex_init t cookie)
  unfolding write_kex
  written_only x e =
      split tested
      (λ h.
      let v = and_left (valid t) (eqb (length cookie) 16) h in
      let k = eqb-true (length cookie) 16 (and_right (valid t) (eqb (length cookie) 16) h) in
      (v, k, un_done (sym e ∙ write_valid t cookie v k)))
      (λ h. absurd (not_both (sym e ∙ stop 9 tested _ h)))

  -- so none is longer than 3,702 bytes, which every packet carries and every reader takes: 1 and 4 cannot occur
  pub written_most : (x : List ℕ) → write_kex t cookie ≡ done x → length x ≤ 3702
  written_most x e = let w = written_only x e in rw w.2 (kex_fits t w.0 cookie w.1)

  -- the answer is the payload's length, and the payload stands in front of the bytes that keep their values
  module _ (v : valid t ≡ true) (k : length cookie ≡ 16) (out : List ℕ) where
    pub answer_whole : length (kex_init t cookie) ≤ length out → written out 0 (write_kex t cookie) ≡ done (length (kex_init t cookie))
    answer_whole h =
        rw (write_valid t cookie v k, written_fits out 0 (kex_init t cookie) (rw zero-add h), zero-add)

    pub buffer_whole : length (kex_init t cookie) ≤ length out
        → buffer out 0 (write_kex t cookie) ≡ kex_init t cookie ++ drop (length (kex_init t cookie)) out
    buffer_whole h =
        rw (write_valid t cookie v k, front out 0 (kex_init t cookie) (rw zero-add h), zero-add)

    pub answer_short : length out < length (kex_init t cookie) → written out 0 (write_kex t cookie) ≡ refuse 8
    answer_short h = rw (write_valid t cookie v k) (written_full out 0 (kex_init t cookie) (rw zero-add h))

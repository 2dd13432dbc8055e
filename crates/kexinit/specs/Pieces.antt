-- A KEXINIT as the code writes it: measured first, then put piece by piece. Over any names of rows, and over own lists of
-- any numbers, so that no put asks anything of its caller.
use Rattle.std.specs.Prelude.{List, [], ◌∷◌, ◌++◌, ℕ, ◌+◌, ◌*◌, ltb, length}
use Rattle.answer.specs.Answer.{Out, done, refuse, pick}
use Rattle.put.specs.Written.{word}
use Rattle.put.specs.Runs.{ended, filled}
use Rattle.lists.specs.Lists.{list_by}
use Rattle.lists.specs.Texts.{length_by}
use Rattle.preferred.specs.declared.Own.{Own}
use Rattle.filters.specs.Made.{shown}

-- two empty language lists, byte 0, uint32 0
unfoldable pub ending : List (Out (List ℕ))
ending = done (word 0) ∷ done (word 0) ∷ done (0 ∷ []) ∷ done (word 0) ∷ []

module _ (name : ℕ → Out (List ℕ)) where
  unfoldable pub once : List ℕ → List (Out (List ℕ))
  once rows = list_by name rows ∷ []

  unfoldable pub twice : List ℕ → List (Out (List ℕ))
  twice rows = once rows ++ once rows

  -- 20, cookie, kex, key
  unfoldable pub head : Own → List ℕ → List (Out (List ℕ))
  head own cookie = done (20 ∷ []) ∷ done cookie ∷ (once (shown own.kex_written) ++ once (shown own.key))

  unfoldable pub pieces : Own → List ℕ → List (Out (List ℕ))
  pieces own cookie =
      head own cookie
      ++ (twice (shown own.cipher) ++ (twice (shown own.mac) ++ (twice (shown own.compression) ++ ending)))

  -- all but the names: 20, cookie, ten lengths, byte, uint32
  unfoldable pub size : Own → ℕ
  size own =
      62
      + (length_by name (shown own.kex_written) + length_by name (shown own.key))
      + 2 * (length_by name (shown own.cipher) + length_by name (shown own.mac) + length_by name (shown own.compression))

  -- the answer, and the buffer
  unfoldable pub answered : List ℕ → Own → List ℕ → Out ℕ
  answered out own cookie = pick (ltb (length out) (size own)) (refuse 8) (done (ended out 0 (pieces own cookie)))

  unfoldable pub left : List ℕ → Own → List ℕ → List ℕ
  left out own cookie = pick (ltb (length out) (size own)) out (filled out 0 (pieces own cookie))

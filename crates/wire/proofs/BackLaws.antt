-- What is written reads back, with any bytes after it, wherever the reader is. Assumes nothing.
use mathlib.Core.Path.{◌≡◌, refl}
use mathlib.Core.Bool.{true}
use mathlib.Core.List.{List, [], ◌∷◌, ◌++◌}
use Prim.Native.Nat.{ℕ, suc, ◌+◌, ◌/◌, ◌%◌, ◌<◌}
use native.Mathlib.Omega.{arith}
use borrow.Author.Tests.{le-leb}
use lib.ListN.{length, length-append}
use lib.Seq.{take-append_seam, drop-append_seam}
use Rattle.answer.specs.Answer.{done, ◌>>=◌}
use Rattle.put.specs.Written.{word as encoded}
use Rattle.text.specs.Utf8.{utf8}
use Rattle.wire.specs.Fields.{byte, word, run, string, end, big_endian}

module _ (i : ℕ) where
  pub byte_back : (b : ℕ) (r : List ℕ) → byte (record { at = i; left = b ∷ r }) ≡ done (b, record { at = i + 1; left = r })
  unfolding byte ◌>>=◌
  byte_back b r = rw (le-leb 1 (length (b ∷ r)) (omega arith))

  pub word_back : (n : ℕ) (r : List ℕ) → n < 4294967296 → word (record { at = i; left = encoded n ++ r }) ≡ done (n, record { at = i + 4; left = r })
  unfolding word encoded ◌>>=◌
  word_back n r h =
      let e : big_endian (n / 256 / 256 / 256 % 256) (n / 256 / 256 % 256) (n / 256 % 256) (n % 256) ≡ n = omega arith in
      rw (le-leb 4 (suc (suc (suc (suc (length r))))) (omega arith), e)

  pub run_back : (x r : List ℕ) → length x < 4294967296
      → run (record { at = i; left = encoded (length x) ++ (x ++ r) })
      ≡ done (record { place = record { start = i + 4; len = length x }; bytes = x }, record { at = i + 4 + length x; left = r })
  unfolding run ◌>>=◌
  run_back x r h =
      rw (
        word_back (length x) (x ++ r) h,
        le-leb (length x) (length (x ++ r)) (simp length-append (omega arith)),
        take-append_seam x r,
        drop-append_seam x r,
      )

  pub string_back : (x r : List ℕ) → length x < 4294967296 → utf8 x ≡ true
      → string (record { at = i; left = encoded (length x) ++ (x ++ r) })
      ≡ done (record { place = record { start = i + 4; len = length x }; bytes = x }, record { at = i + 4 + length x; left = r })
  unfolding string ◌>>=◌
  string_back x r h u = rw (run_back x r h, u)

pub end_back : (i : ℕ) → end (record { at = i; left = [] }) ≡ done tt
unfolding end
end_back i = refl

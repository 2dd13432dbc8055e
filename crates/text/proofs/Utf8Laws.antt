-- Laws of UTF-8. Assumes nothing.
use mathlib.Core.Bool.{true}
use mathlib.Core.List.{List, [], ◌∷◌}
use mathlib.Core.Path.{◌≡◌, refl}
use Prim.Native.Nat.{ℕ, ◌<◌}
use native.Mathlib.Omega.{arith}
use lib.Dec.{ltb}
use borrow.Author.Tests.{ltb-true, lt-ltb}
use Rattle.text.specs.Same.{ascii, highest}
use Rattle.text.specs.Utf8.{more, opened, rows, next, octets, utf8}
use Rattle.text.proofs.TableLaws.{span}
use Rattle.text.proofs.SameLaws.{low_ascii}
use Rattle.answer.proofs.Laws.{and_left, and_right}

one_byte : (b : ℕ) → b < 128 → next (more []) b ≡ more []
unfolding next rows
one_byte b h = span (opened rows) (more []) 0 128 refl b (omega arith) (omega arith)

-- US-ASCII is UTF-8
pub ascii_utf8 : (s : List ℕ) → ascii s ≡ true → utf8 s ≡ true
unfolding ascii utf8 octets
ascii_utf8 [] e = refl
ascii_utf8 (b ∷ s) e =
    let h : b < 128 = ltb-true b 128 (and_left (ltb b 128) (ascii s) e) in
    rw (one_byte b h) (ascii_utf8 s (and_right (ltb b 128) (ascii s) e))

-- text whose highest byte is under 128 is UTF-8
pub low_utf8 : (s : List ℕ) (m : ℕ) → m ≡ highest 0 s → m < 128 → ltb m 128 ≡ utf8 s
low_utf8 s m e h = rw (lt-ltb m 128 h, ascii_utf8 s (low_ascii s (rw e at h)))

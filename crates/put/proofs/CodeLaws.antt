-- From what the code of a put tells on its way to an answer to what its contract says of that answer: a law for each, whose
-- premises are a test's outcome and what a callee ensures, and `code`, all of them. Assumes nothing.
use mathlib.Core.Path.{◌≡◌, refl, sym, ◌∙◌}
use mathlib.Core.List.{List, ◌++◌}
use mathlib.Core.Bool.{Bool, true, false}
use Prim.Native.Nat.{ℕ, ◌+◌, ◌-◌, ◌/◌, ◌%◌, ◌≤◌, ◌<◌}
use native.Mathlib.Numerals.{add-one, add-two, add-three}
use native.Mathlib.Omega.{arith}
use borrow.Author.Tests.{lt-ltb, le-ltb, ltb-true, ltb-false}
use lib.Dec.{ltb}
use lib.ListN.{length, take, get_or, set, length-append}
use lib.Seq.{sets, take-suc, length-take-le}
use Rattle.answer.specs.Answer.{done, ◌>>=◌, refuse}
use Rattle.answer.proofs.Laws.{split}
use Rattle.put.specs.Written.{written, buffer, word, string}
use Rattle.put.proofs.PutLaws.{sets_append, written_fits, written_full, buffer_fits, buffer_full, word_length, string_short, string_long}

-- a test by a difference is the test by the sum
pub by_difference : (len at need : ℕ) → at ≤ len → ltb (len - at) need ≡ ltb len (at + need)
by_difference len at need h =
    split (ltb (len - at) need)
    (λ e. e ∙ sym (lt-ltb len (at + need) (omega (arith, ltb-true (len - at) need e))))
    (λ e. e ∙ sym (le-ltb len (at + need) (omega (arith, ltb-false (len - at) need e))))

-- nothing has room past the end
pub past : (len at need : ℕ) → len < at → true ≡ ltb len (at + need)
past len at need h = sym (lt-ltb len (at + need) (omega arith))

-- one turn of the copy
pub copied : (d out x : List ℕ) (at j : ℕ) → j < length x → out ≡ sets d at (take j x)
    → set out (at + j) (get_or x j 0) ≡ sets d at (take (j + 1) x)
copied d out x at j h e =
    let le : j ≤ length x = omega arith in
    rw (e, add-one, take-suc x j 0, sets_append, length-take-le j x)

-- the four stores of a uint32
pub stored_word : (d : List ℕ) (at n : ℕ)
    → set (set (set (set d at (n / 256 / 256 / 256 % 256)) (at + 1) (n / 256 / 256 % 256)) (at + 2) (n / 256 % 256)) (at + 3) (n % 256)
    ≡ sets d at (word n)
unfolding word
stored_word d at n = simp (add-one, add-two, add-three)

-- the room that there is where `lacks` said no
pub room : (out : List ℕ) (at n : ℕ) (full : Bool) → full ≡ ltb (length out) (at + n) → full ≡ false → at + n ≤ length out
room out at n full told e = ltb-false (length out) (at + n) (sym told ∙ e)

-- the four ends of a put of x, whose n bytes `lacks` was asked about: refused and not changed, or answered and stored
module _ (out x : List ℕ) (at n : ℕ) (full : Bool) (told : full ≡ ltb (length out) (at + n)) (sized : n ≡ length x) where
  over : full ≡ true → length out < at + length x
  over e = rw (← sized) (ltb-true (length out) (at + n) (sym told ∙ e))

  within : full ≡ false → at + length x ≤ length out
  within e = rw (← sized) (room out at n full told e)

  pub no_room : full ≡ true → refuse 8 ≡ written out at (done x)
  no_room e = rw (written_full out at x (over e))

  pub not_changed : full ≡ true → out ≡ buffer out at (done x)
  not_changed e = rw (buffer_full out at x (over e))

  pub next : (m : ℕ) → full ≡ false → m ≡ at + n → done m ≡ written out at (done x)
  next m e k = rw (k, sized, written_fits out at x (within e))

  pub stored : (out' : List ℕ) → full ≡ false → out' ≡ sets out at x → out' ≡ buffer out at (done x)
  stored out' e k = rw (k, buffer_fits out at x (within e))

-- the n of a uint32
pub four : (n : ℕ) → 4 ≡ length (word n)
four n = sym (word_length n)

-- a string that is too long: refused and not changed
module _ (out x : List ℕ) (at : ℕ) (long : 4294967295 < length x) where
  pub too_long : refuse 1 ≡ written out at (string x)
  unfolding written ◌>>=◌
  too_long = rw (string_long x long)

  pub too_long_kept : out ≡ buffer out at (string x)
  unfolding buffer
  too_long_kept = rw (string_long x long)

-- the n of a string
string_size : (x : List ℕ) → 4 + length x ≡ length (word (length x) ++ x)
string_size x = rw (length-append, word_length)

-- the four ends for any other string: its length is stored first, and its bytes from `body` on
module _ (out x : List ℕ) (at : ℕ) (full : Bool) (short : length x ≤ 4294967295) (told : full ≡ ltb (length out) (at + (4 + length x))) where
  pub string_no_room : full ≡ true → refuse 8 ≡ written out at (string x)
  string_no_room e = rw (string_short x short) (no_room out (word (length x) ++ x) at (4 + length x) full told (string_size x) e)

  pub string_kept : full ≡ true → out ≡ buffer out at (string x)
  string_kept e = rw (string_short x short) (not_changed out (word (length x) ++ x) at (4 + length x) full told (string_size x) e)

  pub string_next : (body m : ℕ) → full ≡ false → body ≡ at + 4 → m ≡ body + length x → done m ≡ written out at (string x)
  string_next body m e h k = rw (string_short x short) (next out (word (length x) ++ x) at (4 + length x) full told (string_size x) m e (omega arith))

  pub string_stored : (out₁ out₂ : List ℕ) (body : ℕ) → full ≡ false → out₁ ≡ sets out at (word (length x)) → body ≡ at + 4
      → out₂ ≡ sets out₁ body x → out₂ ≡ buffer out at (string x)
  string_stored out₁ out₂ body e f h k =
      rw (string_short x short)
      (stored out (word (length x) ++ x) at (4 + length x) full told (string_size x) out₂ e
      (rw (sets_append, word_length, ← h, ← f) k))

pub ruleset code = (refl, no_room, not_changed, next, stored, four, too_long, too_long_kept, string_no_room, string_kept, string_next, string_stored)

-- Laws of the fields: one for each answer that the code gives, in the words of the code's tests. Assumes nothing.
use mathlib.Core.Path.{◌≡◌, ◌∙◌}
use mathlib.Core.Bool.{true, false}
use mathlib.Core.List.{List}
use Prim.Native.Nat.{ℕ, ◌+◌, ◌-◌, ◌≤◌, ◌<◌, min}
use native.Mathlib.Omega.{arith}
use native.Mathlib.Nat.{add-zero}
use borrow.Author.Tests.{le-leb, lt-leb, leb-true, leb-false}
use lib.Dec.{leb}
use lib.ListN.{length, get_or, take, drop, length-drop, drop_of_length-le}
use lib.Seq.{drop-drop, get_or-drop, take_all}
use Rattle.answer.specs.Answer.{refused, done, ◌>>=◌}
use Rattle.answer.specs.declared.Cause.TheVariants.{PastEnd, Trailing}
use Rattle.answer.specs.declared.Refusal.{Refusal as Answered}
use Rattle.answer.specs.Refusal.{told}
use Rattle.answer.proofs.Laws.{NoAt, split}
use Rattle.wire.specs.Fields.{At, here, skip, byte, word, end, big_endian}

module _ (s : List ℕ) (i : ℕ) where
  -- enough is left, or not, by what is left of the slice
  pub long : (n : ℕ) → i + n ≤ length s → leb n (length (drop i s)) ≡ true
  long n h = le-leb n (length (drop i s)) (simp length-drop (omega arith))

  pub short : (n : ℕ) → length s - i < n → leb n (length (drop i s)) ≡ false
  short n h = lt-leb n (length (drop i s)) (simp length-drop (omega arith))

  pub moved : (n : ℕ) → ◌≡◌ {A = At} (skip n (here s i)) (here s (i + n))
  moved n = rw drop-drop

  pub byte_past : (r : Answered) → length s ≤ i → NoAt PastEnd i r → refused (told r) ≡ byte (here s i)
  unfolding byte ◌>>=◌
  byte_past r h e = rw (short 1 (omega arith), e)

  pub byte_at : i < length s → done (get_or s i 0, here s (i + 1)) ≡ byte (here s i)
  unfolding byte ◌>>=◌
  byte_at h = rw (long 1 (omega arith), drop-drop, get_or-drop, add-zero)

  word_past : (r : Answered) → length s - i < 4 → NoAt PastEnd i r → refused (told r) ≡ word (here s i)
  unfolding word ◌>>=◌
  word_past r h e = rw (short 4 h, e)

  pub word_short : (r : Answered) → length s < 4 → NoAt PastEnd i r → refused (told r) ≡ word (here s i)
  word_short r h e = word_past r (omega arith) e

  pub word_late : (r : Answered) → length s - 4 < i → NoAt PastEnd i r → refused (told r) ≡ word (here s i)
  word_late r h e = word_past r (omega arith) e

  pub word_at : (n : ℕ) → 4 ≤ length s → i ≤ length s - 4
      → n ≡ big_endian (get_or s i 0) (get_or s (i + 1) 0) (get_or s (i + 2) 0) (get_or s (i + 3) 0)
      → done (n, here s (i + 4)) ≡ word (here s i)
  unfolding word ◌>>=◌
  word_at n h k e = simp (e, long 4 (omega arith), drop-drop, get_or-drop, add-zero)

  pub end_past : length s ≤ i → done tt ≡ end (here s i)
  unfolding end
  end_past h = rw (le-leb (length (drop i s)) 0 (simp length-drop (omega arith)))

  pub end_before : (r : Answered) → i < length s → NoAt Trailing i r → refused (told r) ≡ end (here s i)
  unfolding end
  end_before r h e = rw (lt-leb (length (drop i s)) 0 (simp length-drop (omega arith)), e)

-- what is left, as a part of the slice, from the cursor or from the end
pub rest_part : (s : List ℕ) (i : ℕ) → take (length s - i) (drop i s) ≡ drop i s
rest_part s i = take_all (length s - i) (drop i s) (simp length-drop (omega arith))

pub rest_min : (s : List ℕ) (i j : ℕ) → j ≡ min i (length s) → take (length s - j) (drop j s) ≡ drop i s
rest_min s i j e =
    rest_part s j ∙ split (leb i (length s))
    (λ t. let h = leb-true i (length s) t in let k : j ≡ i = omega arith in rw k)
    (λ t.
    let h = leb-false i (length s) t in
    let k : j ≡ length s = omega arith in
    rw (k, drop_of_length-le s {i = length s} (omega arith), drop_of_length-le s {i = i} (omega arith)))

pub ruleset field_laws = (byte_past, byte_at, word_short, word_late, word_at, end_past, end_before, arith)

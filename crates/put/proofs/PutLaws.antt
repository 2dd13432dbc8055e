-- Laws of what a writer answers and of what the lent buffer then holds. Assumes nothing.
use mathlib.Core.Path.{◌≡◌, refl, ◌∙◌}
use mathlib.Core.List.{List, [], ◌∷◌, ◌++◌}
use Prim.Native.Nat.{ℕ, zero, suc, ◌+◌, ◌*◌, ◌/◌, ◌%◌, ◌≤◌, ◌<◌}
use native.Mathlib.Nat.{add-zero, add-suc, suc-add, add_assoc}
use native.Mathlib.Omega.{arith}
use borrow.Author.Tests.{le-leb, lt-leb}
use lib.Dec.{leb}
use lib.ListN.{length, take, drop, get_or, set, length-append}
use lib.Seq.{sets, sets-eq, length-sets}
use Rattle.std.specs.Prelude.{Result, Ok, Err}
use Rattle.answer.specs.declared.Cause.{Cause}
use Rattle.answer.specs.declared.Cause.TheVariants.{NoRoom}
use Rattle.answer.specs.Refusal.{Refusal}
use Rattle.answer.specs.Answer.{Out, refused, done, refuse, ◌>>=◌}
use Rattle.answer.proofs.Laws.{split, pass, stop, answered_unique}
use Rattle.put.specs.Written.{written, buffer, put, word, string}

-- two runs of stores, the second from where the first ended, are one run
pub sets_append : (d : List ℕ) (i : ℕ) (a b : List ℕ) → sets d i (a ++ b) ≡ sets (sets d i a) (i + length a) b
sets_append d i [] b = rw add-zero
sets_append d i (x ∷ a) b = rw (add-suc, ← (suc-add i (length a))) (sets_append (set d i x) (suc i) a b)

module _ (out : List ℕ) (at : ℕ) (x : List ℕ) where
  -- where there is room, the answer is the position after what was written
  pub written_fits : at + length x ≤ length out → written out at (done x) ≡ done (at + length x)
  unfolding written ◌>>=◌
  written_fits h = rw (le-leb (at + length x) (length out) h)

  -- where there is none, the answer is refusal 8
  pub written_full : length out < at + length x → written out at (done x) ≡ refuse 8
  unfolding written ◌>>=◌
  written_full h = rw (lt-leb (at + length x) (length out) h)

  -- where there is room, what is written is stored from the position on
  pub buffer_fits : at + length x ≤ length out → buffer out at (done x) ≡ sets out at x
  unfolding buffer
  buffer_fits h = rw (le-leb (at + length x) (length out) h)

  -- where there is none, no byte changes
  pub buffer_full : length out < at + length x → buffer out at (done x) ≡ out
  unfolding buffer
  buffer_full h = rw (lt-leb (at + length x) (length out) h)

  -- the bytes before and after what is written keep their values
  pub front : at + length x ≤ length out → buffer out at (done x) ≡ take at out ++ x ++ drop (at + length x) out
  front h = buffer_fits h ∙ sets-eq x out at h

-- a refusal changes nothing
pub refusal_keeps : (out : List ℕ) (at : ℕ) (what : Out (List ℕ)) (r : Refusal) → written out at what ≡ refused r → buffer out at what ≡ out
unfolding buffer written ◌>>=◌
refusal_keeps out at (refused q) r e = refl
refusal_keeps out at (done x) r e = split (leb (at + length x) (length out)) (λ t. cc (rw t at e)) (λ f. rw f)

-- no writer changes the buffer's length
pub buffer_length : (out : List ℕ) (at : ℕ) (what : Out (List ℕ)) → length (buffer out at what) ≡ length out
unfolding buffer
buffer_length out at (refused r) = refl
buffer_length out at (done x) = split (leb (at + length x) (length out)) (λ t. rw t (length-sets out at x)) (λ f. rw f)

-- two puts in a row are one put: the last answer ..
pub both_written : (out : List ℕ) (at : ℕ) (x y : List ℕ) → written (buffer out at (done x)) (at + length x) (done y) ≡ written out at (done (x ++ y))
unfolding written ◌>>=◌
both_written out at x y = simp (buffer_length, length-append, ← add_assoc)

-- .. and the buffer
pub both : (out : List ℕ) (at : ℕ) (x y : List ℕ) → at + length (x ++ y) ≤ length out
    → buffer (buffer out at (done x)) (at + length x) (done y) ≡ buffer out at (done (x ++ y))
both out at x y h =
    let h₁ : at + length x ≤ length out = omega (arith, length-append x y) in
    let h₂ : at + length x + length y ≤ length (sets out at x) = rw length-sets (omega (arith, length-append x y)) in
    rw (buffer_fits out at x h₁, buffer_fits (sets out at x) (at + length x) y h₂, buffer_fits out at (x ++ y) h, sets_append)

-- a uint32 is four bytes,
pub word_length : (n : ℕ) → length (word n) ≡ 4
unfolding word
word_length n = refl

-- each of them a byte,
pub word_bytes : (n k : ℕ) → get_or (word n) k 0 < 256
unfolding word
word_bytes n zero = omega arith
word_bytes n (suc zero) = omega arith
word_bytes n (suc (suc zero)) = omega arith
word_bytes n (suc (suc (suc zero))) = omega arith
word_bytes n (suc (suc (suc (suc k)))) = omega arith

-- and they give the number back, the first byte the highest
pub word_back : (n a b c d : ℕ) → n < 4294967296 → word n ≡ a ∷ b ∷ c ∷ d ∷ [] → ((a * 256 + b) * 256 + c) * 256 + d ≡ n
unfolding word
word_back n a b c d h e =
    let p : n / 256 / 256 / 256 % 256 ≡ a = cc in
    let q : n / 256 / 256 % 256 ≡ b = cc in
    let r : n / 256 % 256 ≡ c = cc in
    let s : n % 256 ≡ d = cc in
    omega arith

-- a string is its length and its bytes
pub string_short : (x : List ℕ) → length x ≤ 4294967295 → string x ≡ done (word (length x) ++ x)
unfolding string
string_short x h = pass 1 _ _ (le-leb (length x) 4294967295 h)

-- one that is longer than a uint32 can say is refused with 1
pub string_long : (x : List ℕ) → 4294967295 < length x → string x ≡ refuse 1
unfolding string
string_long x h = stop 1 _ _ (lt-leb (length x) 4294967295 h)

-- no two answers have one meaning
pub put_unique : (a b : Result ℕ Cause) → ◌≡◌ {A = Out ℕ} (put a) (put b) → a ≡ b
put_unique a b e = answered_unique a b e

module _ (p : Result ℕ Cause) (out : List ℕ) (at : ℕ) (x : List ℕ) (told : put p ≡ written out at (done x)) where
  -- so where there is room, a put has one answer only ..
  pub put_fits : at + length x ≤ length out → p ≡ Ok (at + length x)
  put_fits h = put_unique p (Ok (at + length x)) (told ∙ written_fits out at x h)

  -- .. and where there is none, one too
  pub put_full : length out < at + length x → p ≡ Err NoRoom
  put_full h = put_unique p (Err NoRoom) (told ∙ written_full out at x h)

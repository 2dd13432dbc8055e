-- Laws of what is written: the padding, the largest payload, and when each answer is given. Assumes nothing.
use Rattle.std.proofs.Common.{◌≡◌, ℕ, ◌+◌, ◌-◌, ◌%◌, ◌<◌, ◌≤◌, ltb, leb, List, ◌++◌, length, drop, refl, ap, sym, arith, length-append, ltb-false, ltb-true, le-leb, leb-false, leb-true}
use borrow.Author.Tests.{lt-leb}
use lib.ListN.{length-replicate}
use lib.Seq.{sets-eq}
use Rattle.std.specs.Prelude.{Result, Ok, Err}
use Rattle.answer.specs.declared.Cause.{Cause}
use Rattle.answer.specs.Refusal.{Refusal}
use Rattle.answer.specs.Answer.{Out, done, refuse, ◌>>=◌}
use Rattle.answer.proofs.Laws.{split, un_done, un_refused, number_unique, not_both}
use Rattle.put.proofs.PutLaws.{word_length}
use Rattle.put.specs.Written.{written, buffer}
use Rattle.framing.specs.declared.Counters.{Counters}
use Rattle.framing.specs.declared.Sealed.{Sealed}
use Rattle.framing.specs.Answers.{wrote, sealing}
use Rattle.framing.specs.Clear.{counted, most_length, most_payload, padding_length, packet_length, judged_length, frame, packet_of}

module _ (n : ℕ) where
  -- a packet has from 4 to 11 bytes of padding,
  pub padding_least : 4 ≤ padding_length n
  unfolding padding_length
  padding_least =
      split (ltb (8 - (5 + n) % 8) 4) (λ t. rw t (omega arith)) (λ t. rw t (ltb-false (8 - (5 + n) % 8) 4 t))

  pub padding_most : padding_length n ≤ 11
  unfolding padding_length
  padding_most =
      split (ltb (8 - (5 + n) % 8) 4)
      (λ t. rw t (let h = ltb-true (8 - (5 + n) % 8) 4 t in omega arith))
      (λ t. rw t (omega arith))

  -- which make the whole a multiple of 8 bytes,
  pub whole_eights : (4 + packet_length n) % 8 ≡ 0
  unfolding padding_length
  whole_eights = split (ltb (8 - (5 + n) % 8) 4) (λ t. rw t (omega arith)) (λ t. rw t (omega arith))

  -- and no other padding does
  pub padding_only : (p : ℕ) → 4 ≤ p → p ≤ 11 → (5 + n + p) % 8 ≡ 0 → p ≡ padding_length n
  padding_only p l m e = let a = padding_least in let b = padding_most in let c = whole_eights in omega arith

-- the bytes of a packet are its length and the four that say it
pub frame_length : (x : List ℕ) → length (frame x) ≡ packet_length (length x) + 4
unfolding frame
frame_length x =
    simp (length-append, length-replicate, word_length) (omega arith)

module _ (x : List ℕ) where
  -- a payload of at most 262,167 bytes is written,
  pub short_written : length x ≤ most_payload → packet_of x ≡ done (frame x)
  unfolding packet_of judged_length ◌>>=◌
  short_written h =
      let l : packet_length (length x) ≤ most_length = omega (arith, padding_most (length x), whole_eights (length x)) in
      rw (le-leb (packet_length (length x)) most_length l)

  -- a longer one is refused with 4
  pub long_refused : most_payload < length x → packet_of x ≡ refuse 4
  unfolding packet_of judged_length ◌>>=◌
  long_refused h =
      let l : most_length < packet_length (length x) = omega (arith, padding_least (length x), whole_eights (length x)) in
      rw (lt-leb (packet_length (length x)) most_length l)

-- The three answers of a writer, each with all that leads to it and with what the lent output then holds.
pub each_sealing : (P : Out (ℕ × Counters) → List ℕ → Type 0) (out x : List ℕ) (k : Counters) → (most_payload < length x → P (refuse 4) out)
    → (length x ≤ most_payload → length out < packet_length (length x) + 4 → P (refuse 8) out)
    → (length x ≤ most_payload → packet_length (length x) + 4 ≤ length out
    → P (done (packet_length (length x) + 4, counted (length x) k)) (frame x ++ drop (packet_length (length x) + 4) out))
    → P (sealing out x k) (buffer out 0 (packet_of x))
unfolding sealing written buffer ◌>>=◌
each_sealing P out x k long full fits =
    let size : 0 + length (frame x) ≡ packet_length (length x) + 4 = omega (arith, frame_length x) in
    split (leb (length x) most_payload)
    (λ a.
    let h = leb-true (length x) most_payload a in
    split (leb (packet_length (length x) + 4) (length out))
    (λ b.
    let g = leb-true (packet_length (length x) + 4) (length out) b in
    rw (short_written x h, size, b, sets-eq (frame x) out 0 (rw size g), size) (fits h g))
    (λ b. rw (short_written x h, size, b) (full h (leb-false (packet_length (length x) + 4) (length out) b))))
    (λ a. let h = leb-false (length x) most_payload a in rw (long_refused x h) (long h))

-- the packet of the largest payload has 262,176 bytes
pub largest_total : packet_length most_payload + 4 ≡ 262176
unfolding padding_length
largest_total = refl

-- no two answers have one meaning
pub wrote_unique : (a b : Result Sealed Cause) → wrote a ≡ wrote b → a ≡ b
wrote_unique (Ok s) (Ok t) e = let d = un_done e in λ i. Ok (record { total = (d i).0; counters = (d i).1 })
wrote_unique (Ok s) (Err r) e = absurd (not_both e)
wrote_unique (Err q) (Ok t) e = absurd (not_both (sym e))
wrote_unique (Err q) (Err r) e = ap Err (number_unique q r (ap (λ (z : Refusal). z.number) (un_refused e)))

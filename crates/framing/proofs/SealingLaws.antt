-- Laws of writing: one for each answer that the code gives, in the words of the code's tests. Assumes nothing.
use Rattle.std.proofs.Common.{◌≡◌, ℕ, ◌+◌, ◌-◌, ◌*◌, ◌/◌, ◌<◌, ◌≤◌, true, leb, List, [], ◌∷◌, ◌++◌, length, take, drop, replicate, sym, refl, ap, ◌∙◌, arith, length-append, length-drop, length-take, leb-true}
use lib.ListN.{length-replicate, replicate-append-replicate}
use lib.Seq.{sets, length-sets}
use Rattle.std.specs.Prelude.{Result}
use Rattle.std.specs.Result.{IsErr, IsErrAnd}
use Rattle.std.proofs.lemmas.Result.{err_from_is_err_and}
use Rattle.answer.specs.declared.Cause.{Cause}
use Rattle.answer.specs.Refusal.{number}
use Rattle.answer.specs.Answer.{done, refuse, ◌>>=◌}
use Rattle.answer.proofs.Laws.{split, not_both}
use Rattle.put.specs.Written.{written, buffer, word}
use Rattle.put.proofs.PutLaws.{sets_append, buffer_fits, buffer_full, buffer_length, written_fits, written_full, word_length}
use Rattle.wire.proofs.FieldLaws.{rest_part}
use Rattle.framing.specs.declared.Counters.{Counters}
use Rattle.framing.specs.declared.Sealed.{Sealed}
use Rattle.framing.specs.Clear.{most_length, padding_length, packet_length, judged_length, frame, packet_of, counted}
use Rattle.framing.specs.Answers.{wrote, sealing}
use Rattle.framing.proofs.OpeningLaws.{length_went, length_out}
use Rattle.framing.proofs.StoreLaws.{over, twice, whole}
use Rattle.framing.proofs.WriteLaws.{padding_least, padding_most, whole_eights, frame_length}

-- at least 12 bytes follow the length, so that as many zeros as padding can be fit before the end of a packet
module _ (len n from k : ℕ) (l : len ≡ packet_length n) (few : leb k (from + 12) ≡ true) where
  pub zeros_start : k ≤ from + len
  zeros_start = omega (arith, padding_least n, whole_eights n, leb-true k (from + 12) few)

  pub zeros_end : (m : ℕ) → 4 + packet_length n ≤ m → leb from 4 ≡ true → from + len - k + k ≤ m
  zeros_end m room h = omega (arith, zeros_start, leb-true from 4 h)

pub ruleset zeros_laws = (zeros_start, zeros_end)

-- of as many zeros as padding can be a payload leaves its padding
filled : (d x : List ℕ) (padding at k : ℕ) → padding ≤ 11 → at + 11 ≡ k + padding → 0 + length x ≡ k
    → sets (sets d at (replicate 11 0)) 0 x ≡ sets (sets d 0 x) k (replicate padding 0)
filled d x padding at k h e f =
    let zeros : ℕ → List ℕ = λ m. replicate m 0 in
    let n : 11 - padding + padding ≡ 11 = omega arith in
    ap (λ v. sets (sets d at v) 0 x) (sym (replicate-append-replicate (11 - padding) padding 0 ∙ ap zeros n))
    ∙ over x (zeros (11 - padding)) (zeros padding) d 0 at k (omega arith) (rw length-replicate (omega arith)) f

-- the stores of a payload, in one copy or in two
module _ (out x : List ℕ) (room : 5 + length x ≤ length out) where
  pub short_put : (out₁ : List ℕ) → out₁ ≡ buffer out 5 (done x) → out₁ ≡ sets out 5 x
  short_put out₁ e = e ∙ buffer_fits out 5 x room

  pub long_put : (out₁ out₂ none piece : List ℕ) → out₂ ≡ buffer out₁ (5 + (length x - 32)) (done piece)
      → out₁ ≡ buffer out 5 (done (take (length x / 32 * 32) x))
      → piece ≡ buffer none 0 (done (take (length x - (length x - 32)) (drop (length x - 32) x)))
      → length none ≡ 32 → 32 ≤ length x
      → out₂ ≡ sets out 5 x
  long_put out₁ out₂ none piece g e f s h =
      let last = length x - 32 in
      let w = length x / 32 * 32 in
      let n : length (drop last x) ≡ 32 = rw length-drop (omega arith) in
      let f₁ = buffer_fits out 5 (take w x) (rw length-take (omega arith)) in
      let n₁ : length out₁ ≡ length out = rw e (buffer_length out 5 (done (take w x))) in
      let p : piece ≡ drop last x =
      f ∙ rw rest_part (buffer_fits none 0 (drop last x) (omega arith) ∙ whole none (drop last x) (omega arith))
      in
      let f₂ = buffer_fits out₁ (5 + last) (drop last x) (omega arith) in
      rw (g, p, f₂, e, f₁) (twice out x 5 last w (omega arith))

pub ruleset payload_laws = (short_put, long_put)

-- the four stores of a packet
pub sealed : (out out₁ out₂ out₃ out₄ payload : List ℕ) (padding len : ℕ) → padding ≡ padding_length (length payload)
    → len ≡ packet_length (length payload) → 4 + packet_length (length payload) ≤ length out
    → out₁ ≡ sets out (4 + len - 11) (replicate 11 0) → out₂ ≡ buffer out₁ 0 (done (word len))
    → out₃ ≡ buffer out₂ 4 (done (padding ∷ [])) → out₄ ≡ sets out₃ 5 payload
    → out₄ ≡ sets out 0 (frame payload)
unfolding frame
sealed out out₁ out₂ out₃ out₄ payload padding len p l room e₁ e₂ e₃ e₄ =
    let n₁ : length out₁ ≡ length out = rw e₁ (length-sets out (4 + len - 11) (replicate 11 0)) in
    let n₂ : length out₂ ≡ length out₁ = rw e₂ (buffer_length out₁ 0 (done (word len))) in
    let f₂ = buffer_fits out₁ 0 (word len) (rw word_length (omega arith)) in
    let f₃ = buffer_fits out₂ 4 (padding ∷ []) (omega arith) in
    let h : 0 + length (word len ++ padding ∷ payload) ≡ 5 + length payload =
    omega (arith, length-append (word len) (padding ∷ payload), word_length len)
    in
    let z =
    filled out (word len ++ padding ∷ payload) padding (4 + len - 11) (5 + length payload)
    (omega (arith, padding_most (length payload))) (omega (arith, zeros_start len (length payload) 4 11 l refl)) h
    in
    rw (← l, ← p, sets_append, h, ← z, sets_append, word_length, e₄, e₃, f₃, e₂, f₂, e₁)

-- the answers of the writer
module _ (out payload : List ℕ) (padding : ℕ) (padded : padding ≡ padding_length (length payload)) where
  abbrev len : ℕ
  len = 1 + length payload + padding

  refused_of : (n : ℕ) → judged_length len ≡ refuse n → packet_of payload ≡ refuse n
  unfolding packet_of ◌>>=◌
  refused_of n h = rw (← padded, h)

  module _ (fine : judged_length len ≡ done tt) where
    frame_of : packet_of payload ≡ done (frame payload)
    unfolding packet_of ◌>>=◌
    frame_of = rw (← padded, fine)

    size : 0 + length (frame payload) ≡ len + 4
    size = omega (arith, frame_length payload)

    pub length_fits : len < 4294967296
    unfolding judged_length
    length_fits =
        split (leb len most_length)
        (λ t. let h = leb-true len most_length t in omega arith)
        (λ t. absurd (not_both (sym (rw t at fine))))

    pub full_kept : length out < len + 4 → out ≡ buffer out 0 (packet_of payload)
    full_kept h = rw (frame_of, buffer_full out 0 (frame payload) (rw size h))

    pub bytes_are : (out' : List ℕ) → len + 4 ≤ length out → out' ≡ sets out 0 (frame payload) → out' ≡ buffer out 0 (packet_of payload)
    bytes_are out' h f = rw (frame_of, buffer_fits out 0 (frame payload) (rw size h), f)

    module _ (k : Counters) where
      pub write_full : length out < len + 4 → refuse 8 ≡ sealing out payload k
      unfolding sealing ◌>>=◌
      write_full h = rw (frame_of, written_full out 0 (frame payload) (rw size h))

      pub write_done : (k' : Counters) → len + 4 ≤ length out → k' ≡ counted (length payload) k → done (len + 4, k') ≡ sealing out payload k
      unfolding sealing ◌>>=◌
      write_done k' h f = rw (frame_of, written_fits out 0 (frame payload) (rw size h), f, size)

  module _ (x : Cause) (stop : judged_length len ≡ refuse (number x)) where
    pub stop_kept : out ≡ buffer out 0 (packet_of payload)
    unfolding buffer
    stop_kept = rw (refused_of (number x) stop)

    pub write_stop : (k : Counters) (r : Result Sealed Cause) → IsErr r × IsErrAnd r (λ y. y ≡ x) → wrote r ≡ sealing out payload k
    unfolding sealing written ◌>>=◌
    write_stop k r h = let p = err_from_is_err_and r h.1 in rw (p.1, p.2, refused_of (number x) stop)

pub ruleset write_laws = (length_went, length_out, length_fits, full_kept, bytes_are, write_full, write_done, stop_kept, write_stop, arith)

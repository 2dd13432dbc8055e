-- Laws of reading: one for each answer that the code gives, in the words of the code's tests. Assumes nothing.
use Rattle.std.proofs.Common.{◌≡◌, ℕ, ◌+◌, ◌-◌, ◌<◌, ◌≤◌, leb, List, length, sym, ap, arith, le-ltb, lt-ltb, leb-false, leb-true}
use Rattle.std.specs.Prelude.{Result, Ok, Err}
use Rattle.std.specs.Result.{IsErr, IsErrAnd, result_from_control_flow}
use Rattle.std.proofs.Common.{Continue, Break}
use Rattle.std.proofs.lemmas.Result.{err_from_is_err_and}
use Rattle.answer.specs.declared.Cause.{Cause}
use Rattle.answer.specs.declared.Refusal.{Refusal as Answered}
use Rattle.answer.specs.Refusal.{number, IsAtFront}
use Rattle.answer.specs.Answer.{done, refuse, answered, ◌>>=◌}
use Rattle.answer.proofs.Laws.{split, un_done, not_both}
use Rattle.wire.specs.declared.cursor.Cursor.{Cursor}
use Rattle.wire.specs.Fields.{At, here, word}
use Rattle.wire.specs.Answers.{got_word, checked}
use Rattle.framing.specs.declared.Counters.{Counters}
use Rattle.framing.specs.declared.Packet.{Packet}
use Rattle.framing.specs.declared.Opened.{Opened}
use Rattle.framing.specs.Clear.{need, packet, announced, padding_of, packet_at, whole_packet, read_packet, judged_length, judged_padding, counted}
use Rattle.framing.specs.Answers.{got_packet}

pub packet_is : (len padding size : ℕ) (k k' : Counters) → size ≡ len - padding - 1 → k' ≡ counted size k
    → ◌≡◌ {A = Packet}
    (record { payload = record { start = len - padding + 4 - size; len = size }; end = len - padding + 4; taken = len + 4; counters = k' })
    (packet_at len padding k)
unfolding packet_at
packet_is len padding size k k' e f = rw (f, e)

-- a length that was judged: what the `?` made of it
module _ (len : ℕ) (j : Result (Unit {0}) Cause) (judged : answered j ≡ judged_length len) (b : _) (was : j ≡ result_from_control_flow b) where
  pub length_went : (u : Unit {0}) → b ≡ Continue u → judged_length len ≡ done tt
  length_went u e = sym (rw (was, e) at judged)

  pub length_out : (e : _) → b ≡ Break e → judged_length len ≡ refuse (number e.0)
  length_out e f = sym (rw (was, f) at judged)

module _ (s : List ℕ) (w : Result (ℕ × Cursor) Answered) (seen : got_word s w ≡ word (here s 0)) where
  -- no length is read exactly where fewer than four bytes are there
  under_four : (x : Answered) → w ≡ Err x → length s < 4
  unfolding word ◌>>=◌
  under_four x e = split (leb 4 (length s)) (λ t. absurd (not_both (sym (rw (e, t) at seen)))) (λ t. leb-false 4 (length s) t)

  four : (n : ℕ) (c : Cursor) → w ≡ Ok (n, c) → 4 ≤ length s
  unfolding word ◌>>=◌
  four n c e = split (leb 4 (length s)) (λ t. leb-true 4 (length s) t) (λ t. absurd (not_both (rw (e, t) at seen)))

  announced_is : (n : ℕ) (c : Cursor) → w ≡ Ok (n, c) → announced s ≡ n
  unfolding word announced ◌>>=◌
  announced_is n c e =
      split (leb 4 (length s))
      (λ t. sym (ap (λ (x : ℕ × At). x.0) (un_done (rw (e, t) at seen))))
      (λ t. absurd (not_both (rw (e, t) at seen)))

  module _ (k : Counters) where
    pub read_short : (x : Answered) → w ≡ Err x → done (need 4) ≡ read_packet s k
    unfolding read_packet
    read_short x e = rw (lt-ltb (length s) 4 (under_four x e))

    module _ (n : ℕ) (c : Cursor) (e : w ≡ Ok (n, c)) where
      pub read_stop : (x : Cause) (r : Result Opened Answered) → judged_length n ≡ refuse (number x)
          → IsErr r × IsErrAnd r (λ y. IsAtFront x y) → got_packet r ≡ read_packet s k
      unfolding read_packet ◌>>=◌
      read_stop x r f h =
          let p = err_from_is_err_and r h.1 in
          rw (le-ltb (length s) 4 (four n c e), announced_is n c e, f, p.1, p.2)

      pub read_more : judged_length n ≡ done tt → length s < n + 4 → done (need (n + 4)) ≡ read_packet s k
      unfolding read_packet ◌>>=◌
      read_more f h = rw (le-ltb (length s) 4 (four n c e), announced_is n c e, f, lt-ltb (length s) (n + 4) h)

      pub read_whole : (g : Result Opened Answered) → judged_length n ≡ done tt → n + 4 ≤ length s → got_packet g ≡ whole_packet s n k
          → got_packet g ≡ read_packet s k
      unfolding read_packet ◌>>=◌
      read_whole g f h o = rw (le-ltb (length s) 4 (four n c e), announced_is n c e, f, le-ltb (length s) (n + 4) h) o

pub ruleset read_laws = (length_went, length_out, read_short, read_stop, read_more, read_whole, arith)

-- a packet that is whole, once its padding was judged
module _ (s : List ℕ) (len padding : ℕ) (k : Counters) (told : padding ≡ padding_of s len) (j : Result (Unit {0}) Answered)
    (judged : checked j ≡ judged_padding len padding) (b : _) (was : j ≡ result_from_control_flow b) where
  pub padding_within : (u : Unit {0}) → b ≡ Continue u → padding ≤ len
  unfolding judged_padding
  padding_within u e =
      split (leb padding len) (λ t. leb-true padding len t) (λ t. absurd (not_both (rw (was, e, t) at judged)))

  pub open_whole : (u : Unit {0}) (p : Packet) → b ≡ Continue u → p ≡ packet_at len padding k → done (packet p) ≡ whole_packet s len k
  unfolding whole_packet ◌>>=◌
  open_whole u p e f = rw (← told, ← judged, was, e, f)

  pub open_stop : (e : _) (r : Result Opened Answered) → b ≡ Break e → IsErr r × IsErrAnd r (λ y. y ≡ e.0)
      → got_packet r ≡ whole_packet s len k
  unfolding whole_packet ◌>>=◌
  open_stop e r f h = let p = err_from_is_err_and r h.1 in rw (← told, ← judged, was, f, p.1, p.2)

pub ruleset open_laws = (padding_within, open_whole, open_stop, arith)

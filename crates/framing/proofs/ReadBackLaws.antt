-- What is written reads back as exactly the payload, whatever follows it. Assumes nothing.
use Rattle.std.proofs.Common.{◌≡◌, ℕ, ◌+◌, ◌-◌, ◌≤◌, leb, List, ◌++◌, length, take, drop, replicate, sym, refl, ap, ◌∙◌, append_assoc, arith, length-append, take_at, le-ltb, ne_eqb, le-leb, leb-true}
use Rattle.answer.specs.Answer.{done, ◌>>=◌}
use Rattle.answer.proofs.Laws.{split, un_done, not_both}
use Rattle.put.specs.Written.{word, buffer}
use Rattle.put.proofs.PutLaws.{word_back}
use Rattle.wire.specs.Shown.{shown}
use Rattle.wire.proofs.ShowLaws.{inside}
use Rattle.framing.specs.declared.Counters.{Counters}
use Rattle.framing.specs.declared.Packet.{Packet}
use Rattle.framing.specs.Clear.{most_length, padding_length, packet_length, judged_length, judged_padding, counted, frame, packet_of, packet, announced, padding_of, packet_at, whole_packet, read_packet}
use Rattle.framing.specs.Answers.{sealing}
use Rattle.framing.proofs.WriteLaws.{frame_length, short_written, each_sealing}

-- s starts with a packet of n bytes whose payload is x
pub record Reads (s x : List ℕ) (n : ℕ) (k : Counters) : Type 0 where
  pub got : Packet
  pub read : read_packet s k ≡ done (packet got)
  pub payload : shown s got.payload ≡ done x
  pub taken : got.taken ≡ n
  pub counters : got.counters ≡ counted (length x) k

-- the packet of a payload of n bytes
abbrev framed : ℕ → Counters → Packet
framed n k = record { payload = record { start = 5; len = n }; end = 5 + n; taken = packet_length n + 4; counters = counted n k }

packet_framed : (n : ℕ) (k : Counters) → packet_at (packet_length n) (padding_length n) k ≡ framed n k
unfolding packet_at
packet_framed n k =
    let a : packet_length n - padding_length n - 1 ≡ n = omega arith in
    let b : packet_length n - padding_length n + 4 ≡ 5 + n = omega arith in
    let c : 5 + n - n ≡ 5 = omega arith in
    rw (a, b, c)

module _ (x rest : List ℕ) (short : packet_length (length x) ≤ most_length) where
  announces : announced (frame x ++ rest) ≡ packet_length (length x)
  unfolding frame word announced
  announces = word_back (packet_length (length x)) _ _ _ _ (omega arith) refl

  pads : padding_of (frame x ++ rest) (packet_length (length x)) ≡ padding_length (length x)
  unfolding frame word padding_of
  pads = let h : packet_length (length x) ≡ 0 → ⊥ = λ e. omega arith in rw (ne_eqb (packet_length (length x)) 0 h)

  spans : packet_length (length x) + 4 ≤ length (frame x ++ rest)
  spans = omega (arith, frame_length x, length-append (frame x) rest)

  reads : (k : Counters) → read_packet (frame x ++ rest) k ≡ done (packet (framed (length x) k))
  unfolding read_packet whole_packet judged_length judged_padding ◌>>=◌
  reads k =
      let l : 4 ≤ length (frame x ++ rest) = omega (arith, spans) in
      let p : padding_length (length x) ≤ packet_length (length x) = omega arith in
      rw (
        le-ltb (length (frame x ++ rest)) 4 l,
        announces,
        le-leb (packet_length (length x)) most_length short,
        le-ltb (length (frame x ++ rest)) (packet_length (length x) + 4) spans,
        pads,
        le-leb (padding_length (length x)) (packet_length (length x)) p,
        packet_framed (length x) k,
      )

  bytes : take (length x) (drop 5 (frame x ++ rest)) ≡ x
  unfolding frame word
  bytes =
      let zeros : List ℕ = replicate (padding_length (length x)) 0 in
      ap (take (length x)) (append_assoc x zeros rest) ∙ take_at x (zeros ++ rest) (length x) refl

  shows : shown (frame x ++ rest) (record { start = 5; len = length x }) ≡ done x
  shows = inside (frame x ++ rest) (record { start = 5; len = length x }) (omega (arith, spans)) ∙ ap done bytes

  frame_back : (k : Counters) → Reads (frame x ++ rest) x (length (frame x)) k
  frame_back k =
      record { got = framed (length x) k; read = reads k; payload = shows; taken = sym (frame_length x); counters = refl }

-- what is written reads back, with any bytes after it
pub read_back : (x w rest : List ℕ) (k : Counters) → packet_of x ≡ done w → Reads (w ++ rest) x (length w) k
unfolding packet_of judged_length ◌>>=◌
read_back x w rest k e =
    split (leb (packet_length (length x)) most_length)
    (λ t. rw (← (un_done (rw t at e))) (frame_back x rest (leb-true (packet_length (length x)) most_length t) k))
    (λ t. absurd (not_both (sym (rw t at e))))

-- where a writer answers with a total, the lent output then starts with that packet: `read` takes what `write` wrote
pub written_back : (out x : List ℕ) (n : ℕ) (j j' k : Counters) → sealing out x j ≡ done (n, j') → Reads (buffer out 0 (packet_of x)) x n k
written_back out x n j j' k =
    each_sealing (λ a b. a ≡ done (n, j') → Reads b x n k) out x j
    (λ h e. absurd (not_both (sym e)))
    (λ h g e. absurd (not_both (sym e)))
    (λ h g e.
    let m : packet_length (length x) + 4 ≡ n = ap (λ (y : ℕ × Counters). y.0) (un_done e) in
    rw (← m, ← (frame_length x)) (read_back x (frame x) (drop (length (frame x)) out) k (short_written x h)))

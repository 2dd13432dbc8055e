-- Laws of what is read: when each answer is given, and what a caller may rely on. Assumes nothing.
use Rattle.std.proofs.Common.{◌≡◌, ℕ, ◌+◌, ◌<◌, ◌≤◌, ltb, leb, List, length, sym, arith, ltb-false, ltb-true, leb-false, leb-true}
use Rattle.answer.specs.Answer.{Out, done, refuse, refuse_at, ◌>>=◌}
use Rattle.std.specs.Prelude.{Result}
use Rattle.answer.specs.declared.Refusal.{Refusal as Answered}
use Rattle.answer.proofs.Laws.{split, not_both, outcome_unique}
use Rattle.wire.specs.Shown.{shown, part}
use Rattle.wire.proofs.ShowLaws.{inside}
use Rattle.framing.specs.declared.Counters.{Counters}
use Rattle.framing.specs.declared.Packet.{Packet}
use Rattle.framing.specs.declared.Opened.{Opened}
use Rattle.framing.specs.declared.Opened.TheVariants.{Need, Whole}
use Rattle.framing.specs.Clear.{most_length, Read, need, packet, announced, padding_of, packet_at, whole_packet, read_packet, judged_length, judged_padding}
use Rattle.framing.specs.Answers.{opened, got_packet}

-- The five answers, each with all that leads to it: what holds of each of them holds of whatever is read.
pub each_answer : (P : Out Read → Type 0) (s : List ℕ) (k : Counters) → (length s < 4 → P (done (need 4)))
    → (4 ≤ length s → most_length < announced s → P (refuse 4))
    → (announced s ≤ most_length → length s < announced s + 4 → P (done (need (announced s + 4))))
    → (announced s ≤ most_length → announced s + 4 ≤ length s → announced s < padding_of s (announced s) → P (refuse_at 7 4))
    → (announced s ≤ most_length → announced s + 4 ≤ length s → padding_of s (announced s) ≤ announced s
    → P (done (packet (packet_at (announced s) (padding_of s (announced s)) k))))
    → P (read_packet s k)
unfolding read_packet whole_packet judged_length judged_padding ◌>>=◌
each_answer P s k few long more over whole =
    split (ltb (length s) 4)
    (λ a. rw a (few (ltb-true (length s) 4 a)))
    (λ a.
    rw a
    (split (leb (announced s) most_length)
    (λ b.
    rw b
    (split (ltb (length s) (announced s + 4))
    (λ c. rw c (more (leb-true (announced s) most_length b) (ltb-true (length s) (announced s + 4) c)))
    (λ c.
    rw c
    (split (leb (padding_of s (announced s)) (announced s))
    (λ d. rw d (whole (leb-true _ _ b) (ltb-false _ _ c) (leb-true _ _ d)))
    (λ d. rw d (over (leb-true _ _ b) (ltb-false _ _ c) (leb-false _ _ d)))))))
    (λ b. rw b (long (ltb-false (length s) 4 a) (leb-false (announced s) most_length b)))))

-- who is told to wait waits for more than there is, and never for more than 262,181 bytes
pub need_bounds : (s : List ℕ) (k : Counters) (n : ℕ) → read_packet s k ≡ done (need n) → (length s < n) × (n ≤ most_length + 4)
need_bounds s k n =
    each_answer (λ o. o ≡ done (need n) → (length s < n) × (n ≤ most_length + 4)) s k
    (λ h e. let m : 4 ≡ n = cc in omega arith)
    (λ h g e. absurd (not_both (sym e)))
    (λ g h e. let m : announced s + 4 ≡ n = cc in omega arith)
    (λ g h f e. absurd (not_both (sym e)))
    (λ g h f e. let z : ◌≡◌ {A = ℕ} 0 1 = cc in absurd (omega arith))

-- a packet that was read lies inside the slice, its payload before its end
pub record Inside (s : List ℕ) (p : Packet) : Type 0 where
  pub ends : p.payload.start + p.payload.len ≡ p.end
  pub within : p.end ≤ p.taken
  pub taken : p.taken ≤ length s

pub packet_inside : (s : List ℕ) (k : Counters) (p : Packet) → read_packet s k ≡ done (packet p) → Inside s p
unfolding packet_at
packet_inside s k p =
    each_answer (λ o. o ≡ done (packet p) → Inside s p) s k
    (λ h e. let z : ◌≡◌ {A = ℕ} 0 1 = cc in absurd (omega arith))
    (λ h g e. absurd (not_both (sym e)))
    (λ g h e. let z : ◌≡◌ {A = ℕ} 0 1 = cc in absurd (omega arith))
    (λ g h f e. absurd (not_both (sym e)))
    (λ g h f e.
    let q : packet_at (announced s) (padding_of s (announced s)) k ≡ p = cc in
    rw (← q) (record { ends = omega arith; within = omega arith; taken = omega arith }))

-- so `payload` shows it
pub payload_shown : (s : List ℕ) (k : Counters) (p : Packet) → read_packet s k ≡ done (packet p)
    → shown s p.payload ≡ done (part p.payload s)
payload_shown s k p e = let h = packet_inside s k p e in inside s p.payload (omega arith)

-- no two answers have one meaning
opened_unique : (a b : Opened) → opened a ≡ opened b → a ≡ b
opened_unique (Need m) (Need n) e = cc
opened_unique (Need m) (Whole q) e = cc
opened_unique (Whole p) (Need n) e = cc
opened_unique (Whole p) (Whole q) e = cc

pub got_unique : (a b : Result Opened Answered) → got_packet a ≡ got_packet b → a ≡ b
got_unique a b e = outcome_unique opened opened_unique a b e

-- Each reader. Assumes nothing.
use mathlib.Core.Path.{◌≡◌, refl}
use mathlib.Core.Bool.{Bool, true, false, not}
use mathlib.Core.List.{List, [], ◌∷◌}
use Prim.Native.Nat.{ℕ, ◌+◌}
use native.Mathlib.Omega.{arith}
use borrow.Author.Tests.{leb-true}
use lib.Dec.{leb, eqb}
use lib.ListN.{length}
use Rattle.answer.specs.Refusal.{Refusal}
use Rattle.answer.specs.Answer.{Out, refused, pick}
use Rattle.answer.proofs.Laws.{un_refused, not_both}
use Rattle.text.specs.Literal.{bytes}
use Rattle.text.specs.Same.{same}
use Rattle.wire.specs.declared.place.Place.{Place}
use Rattle.wire.specs.Fields.{At, Run, here}
use Rattle.wire.specs.Shown.{shown}
use Rattle.framing.specs.declared.Counters.{Counters}
use Rattle.framing.specs.Clear.{read_packet}
use Rattle.framing.proofs.ReadLaws.{each_answer}
use Rattle.replies.specs.Confirmation.{most_body, read_confirmation, offer as granted}
use Rattle.layouts.specs.declared.ChannelType.{ChannelType}
use Rattle.layouts.specs.declared.ChannelType.TheVariants.{Session, DirectTcpip, ForwardedTcpIp, AgentForward}
use Rattle.layouts.specs.declared.TcpChannelInfo.{TcpChannelInfo}
use Rattle.layouts.specs.Types.{exact, x11, tcpip, direct_stream_local, forwarded_stream_local, openssh_type, channel_type}
use Rattle.channels.specs.Open.{read_open}
use Rattle.choice.specs.Choice.{chosen}
use Rattle.choice.specs.Rows.{spelled_rows}
use Rattle.judging.specs.Tables.{Tables, valid}
use Rattle.filters.specs.Picked.{member}
use Rattle.preferred.specs.Own.{chosen_kex}
use Rattle.negotiation.specs.Written.{key_list, cipher_list, mac_list, compression_list}
use Rattle.negotiation.specs.Read.{most_kex_init, read_kex}
use Rattle.refusals.specs.Refusals.{Within, Refuses, EachReader}
use Rattle.refusals.proofs.EndsLaws.{Ends, gives, next, test, of_refused}
use Rattle.refusals.proofs.FieldLaws.{On, start, fault, Goes, byte_goes, word_goes, string_goes, offer_goes, end_ends, settle_ends, mac_ends}

-- whatever value it gives
abbrev Value : {A : Type 0} → List ℕ → ℕ → Out A → Type 0
Value {A} ns n m = Ends (Within ns n) (λ (a : A). Unit {0}) m

-- KEXINIT: of a payload of at least 17 bytes the lists start at 17
abbrev kex_numbers : List ℕ
kex_numbers = 1 ∷ 2 ∷ 3 ∷ 5 ∷ 6 ∷ 9 ∷ 10 ∷ 11 ∷ 12 ∷ 13 ∷ 14 ∷ []

module _ (t : Tables) (b : Bool) (p : List ℕ) where
  abbrev n : ℕ
  n = length p

  kex_ends : Value kex_numbers n (read_kex t b p)
  unfolding read_kex member
  kex_ends =
      next _ _ (test 9 0 (valid t) (fault kex_numbers n 9 0 refl (omega arith))) (λ _ _.
      next _ _ (test 1 0 (leb n most_kex_init) (fault kex_numbers n 1 0 refl (omega arith))) (λ _ _.
      next _ _ (test 6 0 (leb 17 n) (fault kex_numbers n 6 0 refl (omega arith))) (λ _ l.
      let o : On n (here p 17) = start p 17 (leb-true 17 n l) in
      next _ _ (offer_goes kex_numbers n refl refl (here p 17) o) (λ kexes o₁.
      next _ _ (settle_ends kex_numbers n 10 refl (here p 17) o (chosen t.side (spelled_rows (chosen_kex t)) kexes.0)) (λ kex _.
      next _ _ (offer_goes kex_numbers n refl refl _ o₁) (λ keys o₂.
      next _ _ (settle_ends kex_numbers n 11 refl kexes.1 o₁ (chosen t.side (key_list t) keys.0)) (λ key _.
      next _ _ (offer_goes kex_numbers n refl refl _ o₂) (λ ciphers o₃.
      next _ _ (settle_ends kex_numbers n 12 refl keys.1 o₂ (chosen t.side (cipher_list t) ciphers.0)) (λ cipher _.
      next _ _ (string_goes kex_numbers n refl refl _ o₃) (λ s o₄.
      next _ _ (offer_goes kex_numbers n refl refl _ o₄) (λ macs o₅.
      next _ _ (mac_ends kex_numbers n refl cipher s.1 o₄ (chosen t.side (mac_list t) macs.0)) (λ client_mac _.
      next _ _ (offer_goes kex_numbers n refl refl _ o₅) (λ macs' o₆.
      next _ _ (mac_ends kex_numbers n refl cipher macs.1 o₅ (chosen t.side (mac_list t) macs'.0)) (λ server_mac _.
      next _ _ (offer_goes kex_numbers n refl refl _ o₆) (λ comps o₇.
      next _ _ (settle_ends kex_numbers n 14 refl macs'.1 o₆ (chosen t.side (compression_list t) comps.0)) (λ _ _.
      next _ _ (offer_goes kex_numbers n refl refl _ o₇) (λ comps' o₈.
      next _ _ (settle_ends kex_numbers n 14 refl comps.1 o₇ (chosen t.side (compression_list t) comps'.0)) (λ _ _.
      next _ _ (string_goes kex_numbers n refl refl _ o₈) (λ _ o₉.
      next _ _ (string_goes kex_numbers n refl refl _ o₉) (λ _ o₁₀.
      next _ _ (byte_goes kex_numbers n refl _ o₁₀) (λ _ o₁₁.
      next _ _ (word_goes kex_numbers n refl _ o₁₁) (λ _ o₁₂.
      next _ _ (end_ends kex_numbers n refl _ o₁₂) (λ _ _.
      gives tt)))))))))))))))))))))))

-- what an opening and a confirmation share
granted_goes : (ns : List ℕ) (n : ℕ) → member 2 ns ≡ true → member 6 ns ≡ true → (c : At) → On n c → Goes ns n (granted c)
unfolding granted
granted_goes ns n two six c o =
    next _ _ (word_goes ns n two c o) (λ _ o₁.
    next _ _ (word_goes ns n two _ o₁) (λ w o₂.
    next _ _ (word_goes ns n two w.1 o₂) (λ x o₃.
    next _ _ (test 6 w.1.at (not (eqb x.0 0)) (fault ns n 6 w.1.at six (omega arith))) (λ _ _.
    gives o₃))))

confirmation_ends : (b : List ℕ) → Value (1 ∷ 2 ∷ 6 ∷ []) (length b) (read_confirmation b)
unfolding read_confirmation member
confirmation_ends b =
    next _ _ (test 1 0 (leb (length b) most_body) (fault _ _ 1 0 refl (omega arith))) (λ _ _.
    next _ _ (word_goes _ _ refl (here b 0) (start b 0 (omega arith))) (λ _ o.
    next _ _ (granted_goes _ _ refl refl _ o) (λ _ _.
    gives tt)))

-- an opening's type
abbrev open_numbers : List ℕ
open_numbers = 1 ∷ 2 ∷ 3 ∷ 5 ∷ 6 ∷ []

module _ (n : ℕ) where
  abbrev Types : Out ChannelType → Type 0
  Types m = Value open_numbers n m

  abbrev Has : ℕ → Type 0
  Has k = member k open_numbers ≡ true

  module _ (two : Has 2) (three : Has 3) (five : Has 5) where
    exact_ends : (t : ChannelType) (c : At) → On n c → Types (exact t c)
    unfolding exact
    exact_ends t c o = next _ _ (end_ends open_numbers n five c o) (λ _ _. gives tt)

    x11_ends : (c : At) → On n c → Types (x11 c)
    unfolding x11
    x11_ends c o =
        next _ _ (string_goes open_numbers n two three c o) (λ _ o₁.
        next _ _ (word_goes open_numbers n two _ o₁) (λ _ o₂. exact_ends _ _ o₂))

    tcpip_ends : (made : TcpChannelInfo → ChannelType) (c : At) → On n c → Types (tcpip made c)
    unfolding tcpip
    tcpip_ends made c o =
        next _ _ (string_goes open_numbers n two three c o) (λ _ o₁.
        next _ _ (word_goes open_numbers n two _ o₁) (λ _ o₂.
        next _ _ (string_goes open_numbers n two three _ o₂) (λ _ o₃.
        next _ _ (word_goes open_numbers n two _ o₃) (λ _ o₄. exact_ends _ _ o₄))))

    direct_ends : (c : At) → On n c → Types (direct_stream_local c)
    unfolding direct_stream_local
    direct_ends c o =
        next _ _ (string_goes open_numbers n two three c o) (λ _ o₁.
        next _ _ (string_goes open_numbers n two three _ o₁) (λ _ o₂.
        next _ _ (word_goes open_numbers n two _ o₂) (λ _ o₃. exact_ends _ _ o₃)))

    forwarded_ends : (c : At) → On n c → Types (forwarded_stream_local c)
    unfolding forwarded_stream_local
    forwarded_ends c o =
        next _ _ (string_goes open_numbers n two three c o) (λ _ o₁.
        next _ _ (string_goes open_numbers n two three _ o₁) (λ _ o₂. exact_ends _ _ o₂))

    picks : (b : Bool) (x y : Out ChannelType) → Types x → Types y → Types (pick b x y)
    picks true x y p q = p
    picks false x y p q = q

    type_ends : (t : Run) (c : At) → On n c → Types (channel_type t c)
    unfolding channel_type openssh_type
    type_ends t c o =
        picks (same t.bytes (bytes "session")) _ _ (exact_ends Session c o)
        (picks (same t.bytes (bytes "x11")) _ _ (x11_ends c o)
        (picks (same t.bytes (bytes "direct-tcpip")) _ _ (tcpip_ends DirectTcpip c o)
        (picks (same t.bytes (bytes "forwarded-tcpip")) _ _ (tcpip_ends ForwardedTcpIp c o)
        (picks (same t.bytes (bytes "direct-streamlocal@openssh.com")) _ _ (direct_ends c o)
        (picks (same t.bytes (bytes "forwarded-streamlocal@openssh.com")) _ _ (forwarded_ends c o)
        (picks (same t.bytes (bytes "auth-agent@openssh.com")) _ _ (exact_ends AgentForward c o) (gives tt)))))))

open_ends : (b : List ℕ) → Value open_numbers (length b) (read_open b)
unfolding read_open member
open_ends b =
    next _ _ (test 1 0 (leb (length b) most_body) (fault _ _ 1 0 refl (omega arith))) (λ _ _.
    next _ _ (string_goes _ _ refl refl (here b 0) (start b 0 (omega arith))) (λ t o.
    next _ _ (granted_goes _ _ refl refl _ o) (λ _ o'.
    next _ _ (type_ends _ refl refl refl t.0 _ o') (λ _ _.
    gives tt))))

packet_refuses : (s : List ℕ) (k : Counters) → Refuses (4 ∷ 7 ∷ []) s (read_packet s k)
unfolding member
packet_refuses s k =
    each_answer (λ o. (r : Refusal) → o ≡ refused r → Within (4 ∷ 7 ∷ []) (length s) r) s k
    (λ h r e. absurd (not_both e))
    (λ h g r e. rw (un_refused e) at (fault (4 ∷ 7 ∷ []) (length s) 4 0 refl (omega arith)))
    (λ g h r e. absurd (not_both e))
    (λ g h f r e. rw (un_refused e) at (fault (4 ∷ 7 ∷ []) (length s) 7 4 refl (omega arith)))
    (λ g h f r e. absurd (not_both e))

place_ends : (s : List ℕ) (p : Place) → Value (2 ∷ []) (length s) (shown s p)
unfolding shown member
place_ends s p = next _ _ (test 2 0 (leb (p.start + p.len) (length s)) (fault _ _ 2 0 refl (omega arith))) (λ _ _. gives tt)

pub each_reader : EachReader
each_reader =
    record {
      packet = packet_refuses;
      kex_init = λ t b p. of_refused (kex_ends t b p);
      opening = λ b. of_refused (open_ends b);
      confirmation = λ b. of_refused (confirmation_ends b);
      place = λ s p. of_refused (place_ends s p);
    }

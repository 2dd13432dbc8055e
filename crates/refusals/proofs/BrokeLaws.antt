-- Each reader of a message, beside itself on the cut input. Assumes nothing.
use mathlib.Core.Path.{◌≡◌, refl, ap, ◌∙◌}
use mathlib.Core.Bool.{Bool, true, false, not}
use mathlib.Core.List.{List, [], ◌∷◌}
use Prim.Native.Nat.{ℕ, ◌≤◌}
use native.Mathlib.Omega.{arith}
use borrow.Author.Tests.{leb-true, le-leb}
use lib.Dec.{leb, eqb}
use lib.ListN.{length, take, length-take}
use Rattle.answer.specs.Refusal.{Refusal}
use Rattle.answer.specs.Answer.{Out, refused, done, refuse_at, guard_at, pick, ◌>>=◌}
use Rattle.text.specs.Literal.{bytes}
use Rattle.text.specs.Same.{same}
use Rattle.wire.specs.Fields.{At, Run, here, byte, word, string}
use Rattle.replies.specs.declared.offer.Offer.{Offer}
use Rattle.replies.specs.Confirmation.{most_body, read_confirmation, offer as granted}
use Rattle.layouts.specs.declared.ChannelType.{ChannelType}
use Rattle.layouts.specs.declared.ChannelType.TheVariants.{Session, DirectTcpip, ForwardedTcpIp, AgentForward}
use Rattle.layouts.specs.declared.TcpChannelInfo.{TcpChannelInfo}
use Rattle.layouts.specs.Types.{exact, x11, tcpip, direct_stream_local, forwarded_stream_local, openssh_type, channel_type}
use Rattle.channels.specs.Open.{read_open}
use Rattle.choice.specs.Choice.{chosen}
use Rattle.choice.specs.Rows.{spelled_rows}
use Rattle.judging.specs.Tables.{Tables, valid}
use Rattle.filters.specs.Picked.{member}
use Rattle.preferred.specs.Own.{chosen_kex}
use Rattle.negotiation.specs.KexInit.{offer}
use Rattle.negotiation.specs.Written.{key_list, cipher_list, mac_list, compression_list}
use Rattle.negotiation.specs.Read.{most_kex_init, settle, settle_mac, read_kex}
use Rattle.refusals.specs.Refusals.{Broke, EachBroke}
use Rattle.refusals.proofs.CutLaws.{clip, byte_field, word_field, string_field, offer_field}
use Rattle.refusals.proofs.WhereLaws.{clip_here, Later, settle_judges, mac_judges, test_judges, value_later, named_later, gate, made_later, field_later, judged_later, end_later}

abbrev kex_numbers : List ℕ
kex_numbers = 2 ∷ 3 ∷ 10 ∷ 11 ∷ 12 ∷ 13 ∷ 14 ∷ []

-- a cut input is no longer
shorter : (s : List ℕ) (n most : ℕ) → leb (length s) most ≡ true → leb (length (take n s)) most ≡ true
shorter s n most h = le-leb (length (take n s)) most (let l = leb-true (length s) most h in simp length-take (omega arith))

-- and no shorter than what stands before the cut
as_long : (s : List ℕ) (k n : ℕ) → k ≤ length s → k ≤ n → leb k (length (take n s)) ≡ true
as_long s k n h l = le-leb k (length (take n s)) (simp length-take (omega arith))

module _ (t : Tables) (b : Bool) (no5 : member 5 kex_numbers ≡ false) (r : Refusal) (p : ℕ) (behind : r.offset ≤ p) where
  abbrev After : {A : Type 0} → ℕ → Out A → Out A → Type 0
  After a m m' = Later kex_numbers no5 r p behind a m m'

  -- a list, and the choice from it
  list_later : {B : Type 0} (n : ℕ) → (n ≡ 5 → ⊥) → (own : List (List ℕ)) (c : At) (K : List ℕ → List (List ℕ) × At → Out B)
      → ((y : List ℕ) (x : List (List ℕ)) (d : At) → After d.at (K y (x, d)) (K y (x, clip p d)))
      → After c.at (offer c >>= λ x. settle n c.at (chosen t.side own x.0) >>= λ y. K y x) (offer (clip p c) >>= λ x. settle n c.at (chosen t.side own x.0) >>= λ y. K y x)
  list_later n z own c K k =
      judged_later kex_numbers no5 r p behind offer offer_field c (λ names. settle n c.at (chosen t.side own names))
      (λ names. settle_judges n c.at z (chosen t.side own names)) K k

  mac_later : {B : Type 0} (cipher : List ℕ) (c : At) (K : List ℕ → List (List ℕ) × At → Out B)
      → ((y : List ℕ) (x : List (List ℕ)) (d : At) → After d.at (K y (x, d)) (K y (x, clip p d)))
      → After c.at (offer c >>= λ x. settle_mac cipher c.at (chosen t.side (mac_list t) x.0) >>= λ y. K y x)
      (offer (clip p c) >>= λ x. settle_mac cipher c.at (chosen t.side (mac_list t) x.0) >>= λ y. K y x)
  mac_later cipher c K k =
      judged_later kex_numbers no5 r p behind offer offer_field c (λ names. settle_mac cipher c.at (chosen t.side (mac_list t) names))
      (λ names. mac_judges cipher c.at (chosen t.side (mac_list t) names)) K k

  kex_later : (s : List ℕ) → After 0 (read_kex t b s) (read_kex t b (take p s))
  unfolding read_kex member
  kex_later s =
      gate kex_numbers no5 r p behind 9 (valid t) (valid t) 0 _ _ refl (λ z. omega arith) (λ _ e. e) (λ _.
      gate kex_numbers no5 r p behind 1 (leb (length s) most_kex_init) (leb (length (take p s)) most_kex_init) 0 _ _ refl (λ z. omega arith)
      (λ _ e. shorter s p most_kex_init e) (λ _.
      gate kex_numbers no5 r p behind 6 (leb 17 (length s)) (leb 17 (length (take p s))) 17 _ _ refl (λ z. omega arith)
      (λ l e. as_long s 17 p (leb-true 17 (length s) e) (omega (arith, behind, l))) (λ e.
      named_later kex_numbers no5 r p behind 17 _ _ _ (λ l. rw (clip_here s 17 p (leb-true 17 (length s) e) (omega (arith, behind, l))))
      (list_later 10 (λ z. omega arith) (spelled_rows (chosen_kex t)) (here s 17) _ (λ kex kexes c₁.
      list_later 11 (λ z. omega arith) (key_list t) c₁ _ (λ key keys c₂.
      list_later 12 (λ z. omega arith) (cipher_list t) c₂ _ (λ cipher ciphers c₃.
      field_later kex_numbers no5 r p behind string string_field c₃ _ (λ _ c₄.
      mac_later cipher c₄ _ (λ client_mac macs c₅.
      mac_later cipher c₅ _ (λ server_mac macs' c₆.
      list_later 14 (λ z. omega arith) (compression_list t) c₆ _ (λ _ _ c₇.
      list_later 14 (λ z. omega arith) (compression_list t) c₇ _ (λ _ _ c₈.
      field_later kex_numbers no5 r p behind string string_field c₈ _ (λ _ c₉.
      field_later kex_numbers no5 r p behind string string_field c₉ _ (λ _ c₁₀.
      field_later kex_numbers no5 r p behind byte byte_field c₁₀ _ (λ _ c₁₁.
      field_later kex_numbers no5 r p behind word word_field c₁₁ _ (λ _ c₁₂.
      end_later kex_numbers no5 r p behind c₁₂ _ _ refl))))))))))))))))

-- what an opening and a confirmation share, and what follows it
assoc : {A B C : Type 0} (m : Out A) (f : A → Out B) (g : B → Out C) → ((m >>= f) >>= g) ≡ (m >>= λ a. f a >>= g)
unfolding ◌>>=◌
assoc (refused q) f g = refl
assoc (done a) f g = refl

given : {A B : Type 0} (a : A) (f : A → Out B) → (done a >>= f) ≡ f a
unfolding ◌>>=◌
given a f = refl

module _ {B : Type 0} (c : At) (K : Offer × At → Out B) where
  abbrev flat : Out B
  flat =
      word c >>= λ a. word a.1 >>= λ w. word w.1 >>= λ x. guard_at 6 w.1.at (not (eqb x.0 0)) >>= λ u.
      K (record { sender_channel = a.0; initial_window_size = w.0; maximum_packet_size = x.0 }, x.1)

  granted_flat : (granted c >>= K) ≡ flat
  unfolding granted
  granted_flat = simp (assoc, given)

module _ (ns : List ℕ) (no5 : member 5 ns ≡ false) (r : Refusal) (p : ℕ) (behind : r.offset ≤ p) where
  granted_later : {B : Type 0} (c : At) (K : Offer × At → Out B)
      → ((x : Offer) (d : At) → Later ns no5 r p behind d.at (K (x, d)) (K (x, clip p d)))
      → Later ns no5 r p behind c.at (granted c >>= K) (granted (clip p c) >>= K)
  granted_later c K k =
      rw (granted_flat c K, granted_flat (clip p c) K)
      (field_later ns no5 r p behind word word_field c _ (λ a c₁.
      field_later ns no5 r p behind word word_field c₁ _ (λ w c₂.
      judged_later ns no5 r p behind word word_field c₂ (λ most. guard_at 6 c₂.at (not (eqb most 0)))
      (λ most. test_judges 6 c₂.at (λ z. omega arith) (not (eqb most 0))) _ (λ u x d. k _ d))))

module _ (no5 : member 5 (2 ∷ 6 ∷ []) ≡ false) (r : Refusal) (p : ℕ) (behind : r.offset ≤ p) where
  confirmation_later : (b : List ℕ) → Later (2 ∷ 6 ∷ []) no5 r p behind 0 (read_confirmation b) (read_confirmation (take p b))
  unfolding read_confirmation member
  confirmation_later b =
      gate (2 ∷ 6 ∷ []) no5 r p behind 1 (leb (length b) most_body) (leb (length (take p b)) most_body) 0 _ _ refl (λ z. omega arith)
      (λ _ e. shorter b p most_body e) (λ _.
      named_later (2 ∷ 6 ∷ []) no5 r p behind 0 _ _ _ (λ l. rw (clip_here b 0 p (omega arith) (omega arith)))
      (field_later (2 ∷ 6 ∷ []) no5 r p behind word word_field (here b 0) _ (λ _ c.
      granted_later (2 ∷ 6 ∷ []) no5 r p behind c _ (λ _ d. value_later (2 ∷ 6 ∷ []) no5 r p behind d.at _ _))))

-- an opening, by its type
abbrev open_numbers : List ℕ
open_numbers = 2 ∷ 3 ∷ 6 ∷ []

module _ (no5 : member 5 open_numbers ≡ false) (r : Refusal) (p : ℕ) (behind : r.offset ≤ p) where
  abbrev Opens : (At → Out ChannelType) → Type 0
  Opens f = (c : At) → Later open_numbers no5 r p behind c.at (f c) (f (clip p c))

  abbrev text : {B : Type 0} (c : At) (K : Run × At → Out B) → ((x : Run) (d : At) → Later open_numbers no5 r p behind d.at (K (x, d)) (K (x, clip p d)))
      → Later open_numbers no5 r p behind c.at (string c >>= K) (string (clip p c) >>= K)
  text c K k = field_later open_numbers no5 r p behind string string_field c K k

  abbrev count : {B : Type 0} (c : At) (K : ℕ × At → Out B) → ((x : ℕ) (d : At) → Later open_numbers no5 r p behind d.at (K (x, d)) (K (x, clip p d)))
      → Later open_numbers no5 r p behind c.at (word c >>= K) (word (clip p c) >>= K)
  count c K k = field_later open_numbers no5 r p behind word word_field c K k

  exact_later : (t : ChannelType) → Opens (exact t)
  unfolding exact
  exact_later t c = end_later open_numbers no5 r p behind c _ t refl

  x11_later : Opens x11
  unfolding x11
  x11_later c = text c _ (λ _ c₁. count c₁ _ (λ _ c₂. exact_later _ c₂))

  tcpip_later : (made : TcpChannelInfo → ChannelType) → Opens (tcpip made)
  unfolding tcpip
  tcpip_later made c = text c _ (λ _ c₁. count c₁ _ (λ _ c₂. text c₂ _ (λ _ c₃. count c₃ _ (λ _ c₄. exact_later _ c₄))))

  direct_later : Opens direct_stream_local
  unfolding direct_stream_local
  direct_later c = text c _ (λ _ c₁. text c₁ _ (λ _ c₂. count c₂ _ (λ _ c₃. exact_later _ c₃)))

  forwarded_later : Opens forwarded_stream_local
  unfolding forwarded_stream_local
  forwarded_later c = text c _ (λ _ c₁. text c₁ _ (λ _ c₂. exact_later _ c₂))

  picks : (b : Bool) (a : ℕ) (x y x' y' : Out ChannelType) → Later open_numbers no5 r p behind a x x' → Later open_numbers no5 r p behind a y y'
      → Later open_numbers no5 r p behind a (pick b x y) (pick b x' y')
  picks true a x y x' y' p q = p
  picks false a x y x' y' p q = q

  type_later : (t : Run) → Opens (channel_type t)
  unfolding channel_type openssh_type
  type_later t c =
      picks (same t.bytes (bytes "session")) _ _ _ _ _ (exact_later Session c)
      (picks (same t.bytes (bytes "x11")) _ _ _ _ _ (x11_later c)
      (picks (same t.bytes (bytes "direct-tcpip")) _ _ _ _ _ (tcpip_later DirectTcpip c)
      (picks (same t.bytes (bytes "forwarded-tcpip")) _ _ _ _ _ (tcpip_later ForwardedTcpIp c)
      (picks (same t.bytes (bytes "direct-streamlocal@openssh.com")) _ _ _ _ _ (direct_later c)
      (picks (same t.bytes (bytes "forwarded-streamlocal@openssh.com")) _ _ _ _ _ (forwarded_later c)
      (picks (same t.bytes (bytes "auth-agent@openssh.com")) _ _ _ _ _ (exact_later AgentForward c)
      (value_later open_numbers no5 r p behind c.at _ _)))))))

  open_later : (b : List ℕ) → Later open_numbers no5 r p behind 0 (read_open b) (read_open (take p b))
  unfolding read_open member
  open_later b =
      gate open_numbers no5 r p behind 1 (leb (length b) most_body) (leb (length (take p b)) most_body) 0 _ _ refl (λ z. omega arith)
      (λ _ e. shorter b p most_body e) (λ _.
      named_later open_numbers no5 r p behind 0 _ _ _ (λ l. rw (clip_here b 0 p (omega arith) (omega arith)))
      (text (here b 0) _ (λ t c.
      granted_later open_numbers no5 r p behind c _ (λ o d.
      made_later open_numbers no5 r p behind _ d.at (channel_type t d) (channel_type t (clip p d)) (type_later t d)))))

-- what is so at every cut, and so at the offset itself
module _ {A : Type 0} (ns : List ℕ) (no5 : member 5 ns ≡ false) (f : List ℕ → Out A)
    (later : (r : Refusal) (p : ℕ) (behind : r.offset ≤ p) (s : List ℕ) → Later ns no5 r p behind 0 (f s) (f (take p s))) where
  broke : Broke ns f
  broke =
      record {
        lacks = λ s r e k.
            let w = ((later r r.offset (omega arith) s).met e).1.stays k in
            w.1 ∙ ap (λ (n : ℕ). refuse_at n r.offset) (w.2 refl);
        stays = λ s r e k p l. let w = ((later r p l s).met e).1.stays k in (w.0, w.1);
        accepts = λ s r e k. ((later r r.offset (omega arith) s).met e).1.accepts k refl;
      }

pub each_broke : EachBroke
unfolding member
each_broke =
    record {
      kex_init = λ t b. broke kex_numbers refl (read_kex t b) (kex_later t b refl);
      opening = broke open_numbers refl read_open (open_later refl);
      confirmation = broke (2 ∷ 6 ∷ []) refl read_confirmation (confirmation_later refl);
    }

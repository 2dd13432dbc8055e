-- What the one block over shared names comes to, category by category. Assumes nothing.
use mathlib.Core.Path.{◌≡◌, refl, sym, ap, ◌∙◌}
use mathlib.Core.Bool.{Bool, true, false, ◌||◌, and-false, true≢false}
use mathlib.Core.List.{List}
use mathlib.Core.Logic.{◌⊎◌, inl, inr}
use mathlib.Core.Option.{Option, some}
use Prim.Native.Nat.{ℕ, ◌<◌, ◌≤◌}
use native.Mathlib.Omega.{arith}
use borrow.Author.Tests.{not-true}
use Rattle.answer.specs.Refusal.{Refusal}
use Rattle.answer.specs.Answer.{Out, refused, done, refuse, ◌>>=◌}
use Rattle.answer.proofs.Laws.{split, and_left, and_right}
use Rattle.text.specs.Same.{same}
use Rattle.text.proofs.SameLaws.{same_equal}
use Rattle.choice.specs.Choice.{listed, First, NoneShared}
use Rattle.judging.specs.Tables.{Tables}
use Rattle.negotiation.specs.declared.Names.{Names}
use Rattle.negotiation.specs.Written.{key_list, cipher_list, mac_list, compression_list}
use Rattle.negotiation.specs.Read.{needs_mac, no_mac, settle, settle_mac, Choices}
use Rattle.agreement.specs.Protected.{protecting}
use Rattle.agreement.specs.Both.{settling, kex_offer, both_strict, both}
use Rattle.agreement.specs.Ended.{MacOf, Accepted, Lacks, FirstLacking}
use Rattle.judging.proofs.ValidLaws.{Valid}
use Rattle.agreement.proofs.NumberLaws.{made_of}
use Rattle.choice.proofs.SharedLaws.{Judged, nothing, first, judge, first_one, first_client, not_both_shared}

-- a MAC that a protecting side shares is not `none`
lists_none : (t : Tables) (mac : List ℕ) → protecting t ≡ true → listed mac (mac_list t) ≡ true → same mac no_mac ≡ false
unfolding protecting
lists_none t mac p l =
    split (same mac no_mac)
    (λ e. let n : listed no_mac (mac_list t) ≡ false = not-true _ (search (and_left, and_right)) in
    absurd (true≢false (sym l ∙ ap (λ (m : List ℕ). listed m (mac_list t)) (same_equal mac no_mac e) ∙ n)))
    (λ e. e)

module _ (tc ts : Tables) where
  pub mac_not_none : (protecting tc || protecting ts) ≡ true → (mac : List ℕ) → First (mac_list tc) (mac_list ts) mac → same mac no_mac ≡ false
  mac_not_none p mac f =
      split (protecting tc)
      (λ e. lists_none tc mac e (first_client (mac_list tc) (mac_list ts) mac f))
      (λ e. lists_none ts mac (rw e at p) f.lists)

  -- the MAC rule, beside a chosen cipher
  data MacSettled (cipher : List ℕ) (o : Option (List ℕ)) : Type 0 where
    settles : (mac : List ℕ) → settle_mac cipher 0 o ≡ done mac → MacOf (mac_list tc) (mac_list ts) cipher mac → MacSettled cipher o
    lacking : settle_mac cipher 0 o ≡ refuse 13 → needs_mac cipher ≡ true → NoneShared (mac_list tc) (mac_list ts) → MacSettled cipher o

  settle_mac_lem : (protecting tc || protecting ts) ≡ true → (cipher : List ℕ) {o : Option (List ℕ)}
      → Judged (mac_list tc) (mac_list ts) o → MacSettled cipher o
  unfolding settle_mac
  settle_mac_lem p cipher (nothing h) =
      split (needs_mac cipher) (λ e. lacking (rw e) e h) (λ e. settles no_mac (rw e) (MacOf.not_needed h e refl))
  settle_mac_lem p cipher (first {name = mac} f) =
      settles mac (rw (mac_not_none p mac f, and-false (needs_mac cipher))) (MacOf.shared f)

  -- no category before this one lacks a name
  earlier_than : (n : ℕ) → n ≤ 14
      → (10 < n → NoneShared (kex_offer tc) (kex_offer ts) → ⊥)
      → (11 < n → NoneShared (key_list tc) (key_list ts) → ⊥)
      → (12 < n → NoneShared (cipher_list tc) (cipher_list ts) → ⊥)
      → (13 < n → (cipher : List ℕ) → First (cipher_list tc) (cipher_list ts) cipher → needs_mac cipher ≡ true
      → NoneShared (mac_list tc) (mac_list ts) → ⊥)
      → (m : ℕ) → m < n → Lacks tc ts m → ⊥
  earlier_than n w x k c a m l (Lacks.kex h) = x l h
  earlier_than n w x k c a m l (Lacks.key h) = k l h
  earlier_than n w x k c a m l (Lacks.cipher h) = c l h
  earlier_than n w x k c a m l (Lacks.mac d f e h) = a l d f e h
  earlier_than n w x k c a m l (Lacks.compression h) = omega arith

  pub not_mac : (cipher mac : List ℕ) → First (cipher_list tc) (cipher_list ts) cipher → MacOf (mac_list tc) (mac_list ts) cipher mac
      → (d : List ℕ) → First (cipher_list tc) (cipher_list ts) d → needs_mac d ≡ true → NoneShared (mac_list tc) (mac_list ts) → ⊥
  not_mac cipher mac f (MacOf.shared g) d f' e h = not_both_shared (mac_list tc) (mac_list ts) mac g h
  not_mac cipher mac f (MacOf.not_needed n e q) d f' e' h =
      true≢false (sym e' ∙ ap needs_mac (first_one (cipher_list tc) (cipher_list ts) d cipher f' f) ∙ e)

module _ (tc ts : Tables) (b : Bool) where
  -- one of two
  pub data Came : Out Names → Type 0 where
    came_done : {n : Names} → Accepted tc ts b n → Came (done n)
    came_refused : {r : Refusal} → FirstLacking tc ts r.number → Came (refused r)

module _ (tc ts : Tables) (b : Bool) (v : Valid tc) {kex key cipher : List ℕ} (f : First (kex_offer tc) (kex_offer ts) kex)
    (g : First (key_list tc) (key_list ts) key) (h : First (cipher_list tc) (cipher_list ts) cipher) where
  mac_known : {mac : List ℕ} → MacOf (mac_list tc) (mac_list ts) cipher mac → (listed mac (mac_list tc) ≡ true) ⊎ (mac ≡ no_mac)
  mac_known {mac} (MacOf.shared m) = inl (first_client (mac_list tc) (mac_list ts) mac m)
  mac_known (MacOf.not_needed u e q) = inr q

  -- from the MACs on
  macs_come : {mac compression : Option (List ℕ)} → MacSettled tc ts cipher mac
      → Judged (compression_list tc) (compression_list ts) compression
      → Came tc ts b
      (settling (record { kex = some kex; key = some key; cipher = some cipher; mac = mac; compression = compression }) (both_strict tc ts b))
  unfolding settling settle ◌>>=◌
  macs_come (lacking e n u) z =
      rw e
      (came_refused
      (record {
        lacks = Lacks.mac cipher h n u;
        earlier =
            earlier_than tc ts 13 (omega arith) (λ l. not_both_shared (kex_offer tc) (kex_offer ts) kex f)
            (λ l. not_both_shared (key_list tc) (key_list ts) key g) (λ l. not_both_shared (cipher_list tc) (cipher_list ts) cipher h)
            (λ l. absurd (omega arith));
      }))
  macs_come (settles mac e m) (nothing u) =
      rw e
      (came_refused
      (record {
        lacks = Lacks.compression u;
        earlier =
            earlier_than tc ts 14 (omega arith) (λ l. not_both_shared (kex_offer tc) (kex_offer ts) kex f)
            (λ l. not_both_shared (key_list tc) (key_list ts) key g) (λ l. not_both_shared (cipher_list tc) (cipher_list ts) cipher h)
            (λ l. not_mac tc ts cipher mac h m);
      }))
  macs_come (settles mac e m) (first {name = compression} z) =
      rw e
      (came_done
      (let names : Choices =
      record {
        kex = kex;
        key = key;
        cipher = cipher;
        client_mac = mac;
        server_mac = mac;
        client_compression = compression;
        server_compression = compression;
      } in
      let shared = first_client (compression_list tc) (compression_list ts) compression z in
      record {
        names = names;
        kex_first = f;
        key_first = g;
        cipher_first = h;
        client_mac_of = m;
        server_mac_of = m;
        client_compression_first = z;
        server_compression_first = z;
        made =
            made_of tc v names
            (record {
              kex = first_client (kex_offer tc) (kex_offer ts) kex f;
              key = first_client (key_list tc) (key_list ts) key g;
              cipher = first_client (cipher_list tc) (cipher_list ts) cipher h;
              client_mac = mac_known m;
              server_mac = mac_known m;
              client_compression = shared;
              server_compression = shared;
            })
            (both_strict tc ts b);
      }))

module _ (tc ts : Tables) (b : Bool) (v : Valid tc) (p : (protecting tc || protecting ts) ≡ true) where
  come : {kex key cipher mac compression : Option (List ℕ)}
      → Judged (kex_offer tc) (kex_offer ts) kex
      → Judged (key_list tc) (key_list ts) key
      → Judged (cipher_list tc) (cipher_list ts) cipher
      → Judged (mac_list tc) (mac_list ts) mac
      → Judged (compression_list tc) (compression_list ts) compression
      → Came tc ts b
      (settling (record { kex = kex; key = key; cipher = cipher; mac = mac; compression = compression }) (both_strict tc ts b))
  unfolding settling settle ◌>>=◌
  come (nothing u) k c m z =
      came_refused
      (record {
        lacks = Lacks.kex u;
        earlier =
            earlier_than tc ts 10 (omega arith) (λ l. absurd (omega arith)) (λ l. absurd (omega arith)) (λ l. absurd (omega arith))
            (λ l. absurd (omega arith));
      })
  come (first {name = kex} f) (nothing u) c m z =
      came_refused
      (record {
        lacks = Lacks.key u;
        earlier =
            earlier_than tc ts 11 (omega arith) (λ l. not_both_shared (kex_offer tc) (kex_offer ts) kex f) (λ l. absurd (omega arith))
            (λ l. absurd (omega arith)) (λ l. absurd (omega arith));
      })
  come (first {name = kex} f) (first {name = key} g) (nothing u) m z =
      came_refused
      (record {
        lacks = Lacks.cipher u;
        earlier =
            earlier_than tc ts 12 (omega arith) (λ l. not_both_shared (kex_offer tc) (kex_offer ts) kex f)
            (λ l. not_both_shared (key_list tc) (key_list ts) key g) (λ l. absurd (omega arith)) (λ l. absurd (omega arith));
      })
  come (first f) (first g) (first {name = cipher} h) m z = macs_come tc ts b v f g h (settle_mac_lem tc ts p cipher m) z

  pub both_come : Came tc ts b (both tc ts b)
  unfolding both
  both_come =
      come (judge (kex_offer tc) (kex_offer ts)) (judge (key_list tc) (key_list ts)) (judge (cipher_list tc) (cipher_list ts))
      (judge (mac_list tc) (mac_list ts)) (judge (compression_list tc) (compression_list ts))

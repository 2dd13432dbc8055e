-- The names that are chosen have numbers, and the record holds them. Assumes nothing.
use mathlib.Core.Path.{◌≡◌, refl}
use mathlib.Core.Bool.{Bool, true, false, or-true}
use mathlib.Core.List.{List, [], ◌∷◌, ◌++◌, map-append}
use mathlib.Core.Logic.{◌⊎◌, inl, inr, ⊎_elim}
use mathlib.Core.Option.{Option, some, none}
use Prim.Native.Nat.{ℕ}
use Rattle.answer.specs.Answer.{pick}
use Rattle.answer.proofs.Laws.{split, never}
use Rattle.text.specs.Same.{same}
use Rattle.names.specs.Tables.{names_of, mac_names}
use Rattle.names.specs.Lookup.{number_of, place_from}
use Rattle.names.specs.declared.Kind.{Kind}
use Rattle.names.specs.declared.Kind.TheVariants.{Kex, Key, Certificate, Cipher, Mac, Compression}
use Rattle.choice.specs.declared.Side.{Side}
use Rattle.choice.specs.declared.Side.TheVariants.{Client, Server}
use Rattle.choice.specs.Choice.{listed}
use Rattle.choice.specs.Rows.{spelled_rows}
use Rattle.judging.specs.Tables.{Tables, good_list}
use Rattle.filters.specs.Picked.{without, held, certificates}
use Rattle.preferred.specs.Own.{rows, extensions, chosen_kex, keys_of, key_of}
use Rattle.preferred.proofs.OwnLaws.{good_without, good_held, good_certificates}
use Rattle.judging.proofs.ValidLaws.{Valid}
use Rattle.negotiation.specs.Written.{key_list, cipher_list, mac_list, compression_list}
use Rattle.negotiation.specs.Read.{number, no_mac, is_certificate, is_some, key_number, Choices, settled, or_zero}
use Rattle.agreement.specs.Both.{kex_offer}
use Rattle.agreement.specs.Ended.{MadeOf}
use Rattle.agreement.proofs.NameLaws.{Known, known, known_number}
use Rattle.agreement.proofs.ApartLaws.{apart_kex}

-- a name with a number: the record's is that
numbered : (k : Kind) (name : List ℕ) → Known k name → number_of k name ≡ some (number k name)
numbered k name r = rw (known_number k name r) r.found

none_number : number_of Mac no_mac ≡ some (number Mac no_mac)
unfolding number number_of place_from names_of mac_names same
none_number = refl

listed_append : (name : List ℕ) (xs ys : List (List ℕ)) → listed name (xs ++ ys) ≡ true → (listed name xs ≡ true) ⊎ (listed name ys ≡ true)
unfolding listed
listed_append name [] ys h = inr h
listed_append name (x ∷ xs) ys h =
    split (same x name) (λ e. inl (rw e))
    (λ e. ⊎_elim (λ l. inl (rw (l) (or-true (same x name)))) (λ l. inr l) (listed_append name xs ys (rw e at h)))

either : (name cs ks : List ℕ) → good_list Certificate cs ≡ true → good_list Key ks ≡ true
    → listed name (spelled_rows (rows Certificate cs ++ rows Key ks)) ≡ true → Known Certificate name ⊎ Known Key name
either name cs ks g k l =
    ⊎_elim (λ c. inl (known Certificate cs name g c)) (λ c. inr (known Key ks name k c))
    (listed_append name (spelled_rows (rows Certificate cs)) (spelled_rows (rows Key ks)) (rw map-append at l))

module _ (t : Tables) (v : Valid t) where
  kex_known : (name : List ℕ) → listed name (kex_offer t) ≡ true → Known Kex name
  unfolding chosen_kex
  kex_known name h =
      known Kex (without (extensions Client ++ extensions Server) t.kex) name
      (good_without Kex (extensions Client ++ extensions Server) t.kex v.kex) (rw (apart_kex t v.kex) at h)

  -- a name of the key list is a certificate's or a key's
  key_known : (name : List ℕ) → listed name (key_list t) ≡ true → Known Certificate name ⊎ Known Key name
  unfolding keys_of
  key_known name h = go t.side h
    where
      go : (side : Side) → listed name (spelled_rows (key_of side t)) ≡ true → Known Certificate name ⊎ Known Key name
      go Client l = either name t.certificate t.key v.certificate v.key l
      go Server l =
          either name (certificates [] t.key t.key_ids t.cert_kinds t.cert_ids) (held t.key_kinds t.key)
          (good_certificates t.key t.key_ids t.cert_kinds t.cert_ids v.key) (good_held Key t.key_kinds t.key v.key) l

  key_number_lem : (name : List ℕ) → listed name (key_list t) ≡ true
      → number_of (pick (is_certificate name) Certificate Key) name ≡ some (key_number name)
  unfolding key_number is_certificate number
  key_number_lem name h =
      split (is_some (number_of Certificate name))
      (λ e. rw e (found (number_of Certificate name) e))
      (λ e. rw e (⊎_elim (λ c. never (cc c.found)) (λ k. numbered Key name k) (key_known name h)))
    where
      found : (o : Option ℕ) → is_some o ≡ true → o ≡ some (or_zero o)
      found none e = never (cc)
      found (some n) e = refl

  mac_number : (mac : List ℕ) → (listed mac (mac_list t) ≡ true) ⊎ (mac ≡ no_mac) → number_of Mac mac ≡ some (number Mac mac)
  mac_number mac m = ⊎_elim (λ l. numbered Mac mac (known Mac t.mac mac v.mac l)) (λ e. rw e none_number) m

  compression_number : (name : List ℕ) → listed name (compression_list t) ≡ true → number_of Compression name ≡ some (number Compression name)
  compression_number name z = numbered Compression name (known Compression t.compression name v.compression z)

  -- names of the own lists, or the MAC `none`
  pub record Own (c : Choices) : Type 0 where
    pub kex : listed c.kex (kex_offer t) ≡ true
    pub key : listed c.key (key_list t) ≡ true
    pub cipher : listed c.cipher (cipher_list t) ≡ true
    pub client_mac : (listed c.client_mac (mac_list t) ≡ true) ⊎ (c.client_mac ≡ no_mac)
    pub server_mac : (listed c.server_mac (mac_list t) ≡ true) ⊎ (c.server_mac ≡ no_mac)
    pub client_compression : listed c.client_compression (compression_list t) ≡ true
    pub server_compression : listed c.server_compression (compression_list t) ≡ true

  pub made_of : (c : Choices) → Own c → (is_strict : Bool) → MadeOf c is_strict (settled c false is_strict)
  unfolding settled
  made_of c own is_strict =
      record {
        kex_number = numbered Kex c.kex (kex_known c.kex own.kex);
        key_number = key_number_lem c.key own.key;
        cipher_number = numbered Cipher c.cipher (known Cipher t.cipher c.cipher v.cipher own.cipher);
        client_mac_number = mac_number c.client_mac own.client_mac;
        server_mac_number = mac_number c.server_mac own.server_mac;
        client_compression_number = compression_number c.client_compression own.client_compression;
        server_compression_number = compression_number c.server_compression own.server_compression;
        ignore_guessed = refl;
        strict_kex = refl;
      }

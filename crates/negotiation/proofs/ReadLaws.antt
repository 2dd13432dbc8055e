-- The stages of the code, one after the other, are `read_kex`. Assumes nothing.
use mathlib.Core.Path.{◌≡◌, refl, sym, ◌∙◌}
use mathlib.Core.Bool.{Bool, true, not, ◌&&◌, ◌||◌}
use mathlib.Core.List.{List}
use Prim.Native.Nat.{ℕ, ◌≤◌, ◌<◌}
use borrow.Author.Tests.{le-leb}
use lib.Dec.{eqb, lit≤}
use lib.ListN.{length}
use Rattle.answer.specs.Answer.{Out, done, ◌>>=◌}
use Rattle.answer.proofs.WalkLaws.{on}
use Rattle.wire.specs.Fields.{At, Run, here, byte, word, string, end}
use Rattle.commas.specs.Cut.{cut}
use Rattle.namelist.specs.Judged.{name_list}
use Rattle.namelist.proofs.JudgeLaws.{list_run}
use Rattle.names.specs.Tables.{first_row}
use Rattle.names.specs.declared.Kind.TheVariants.{Key, Cipher, Mac, Compression}
use Rattle.choice.specs.declared.Side.{Side}
use Rattle.choice.specs.declared.Side.TheVariants.{Client, Server}
use Rattle.choice.specs.Choice.{chosen, both_first}
use Rattle.choice.specs.Rows.{spells_name, row_spelled, spelled_rows}
use Rattle.choice.proofs.ChoiceLaws.{in_table, offered_listed}
use Rattle.judging.specs.Tables.{Tables, valid}
use Rattle.filters.specs.Picked.{member}
use Rattle.preferred.specs.Own.{rows, chosen_kex, key_list_rows, strict_name, other}
use Rattle.preferred.proofs.RangeLaws.{chosen_within, keys_within, ciphers_within, macs_within, compressions_within}
use Rattle.negotiation.specs.declared.Names.{Names}
use Rattle.stages.specs.declared.Rows.{Rows}
use Rattle.negotiation.specs.Written.{key_list, cipher_list, mac_list, compression_list}
use Rattle.negotiation.specs.KexInit.{offer}
use Rattle.negotiation.specs.Read.{settle, settle_mac, Choices, settled, strict, read_kex, most_kex_init}
use Rattle.picking.specs.Picking.{stands_in}
use Rattle.stages.specs.Stages.{last_fields, languages, compressions, macs, other_cipher, keys, read_rows}
use Rattle.negotiation.specs.Rows.{recorded, in_names}
use Rattle.negotiation.proofs.NameLaws.{kex_number, key_number_lem, key_certificate, cipher_number, mac_number, compression_number}
use Rattle.negotiation.proofs.StagedLaws.{in_bind, in_done, needed, mac_needed}

-- rows of each kind; a kex row is one of a method, since the extension names are not chosen
pub record Kinds (k : Rows) : Type 0 where
  pub kex : (0 ≤ k.kex) × (k.kex < 9)
  pub key : (first_row Key ≤ k.key) × (k.key < first_row Cipher)
  pub cipher : (first_row Cipher ≤ k.cipher) × (k.cipher < first_row Mac)
  pub client_mac : (first_row Mac ≤ k.client_mac) × (k.client_mac < first_row Compression)
  pub server_mac : (first_row Mac ≤ k.server_mac) × (k.server_mac < first_row Compression)
  pub client_compression : (first_row Compression ≤ k.client_compression) × (k.client_compression < 44)
  pub server_compression : (first_row Compression ≤ k.server_compression) × (k.server_compression < 44)

abbrev spelled : Rows → Choices
spelled k =
    record {
      kex = row_spelled k.kex;
      key = row_spelled k.key;
      cipher = row_spelled k.cipher;
      client_mac = row_spelled k.client_mac;
      server_mac = row_spelled k.server_mac;
      client_compression = row_spelled k.client_compression;
      server_compression = row_spelled k.server_compression;
    }

-- the record of the rows is the record of their names
record_named : (k : Rows) → Kinds k → (follows : Bool) → recorded k follows ≡ settled (spelled k) (follows && not k.guessed) k.strict
unfolding recorded settled
record_named k i follows =
    rw (
      kex_number k.kex i.kex.0 i.kex.1,
      key_number_lem k.key i.key.0 i.key.1,
      key_certificate k.key i.key.0 i.key.1,
      cipher_number k.cipher i.cipher.0 i.cipher.1,
      mac_number k.client_mac i.client_mac.0 i.client_mac.1,
      mac_number k.server_mac i.server_mac.0 i.server_mac.1,
      compression_number k.client_compression i.client_compression.0 i.client_compression.1,
      compression_number k.server_compression i.server_compression.0 i.server_compression.1,
    )

module _ (t : Tables) (v : valid t ≡ true) (strict_agreed : Bool) where
  -- the rest of `read_kex` from the language strings on, from the compressions, the MACs, the keys and the kex methods on
  abbrev ending : Choices → List (List ℕ) → List (List ℕ) → At → Out Names
  ending names kexes keys c =
      string c >>= λ a. string a.1 >>= λ b. byte b.1 >>= λ f. word f.1 >>= λ w. end w.1 >>= λ u.
      done
      (settled names
      (not (eqb f.0 0) && not (both_first (spelled_rows (chosen_kex t)) kexes && both_first (key_list t) keys))
      (strict t strict_agreed kexes))

  abbrev compressing : List ℕ → List ℕ → List ℕ → List ℕ → List ℕ → List (List ℕ) → List (List ℕ) → At → Out Names
  compressing kex key cipher client_mac server_mac kexes keys c =
      offer c >>= λ x. settle 14 c.at (chosen t.side (compression_list t) x.0) >>= λ client_compression.
      offer x.1 >>= λ y. settle 14 x.1.at (chosen t.side (compression_list t) y.0) >>= λ server_compression.
      ending
      (record {
        kex = kex;
        key = key;
        cipher = cipher;
        client_mac = client_mac;
        server_mac = server_mac;
        client_compression = client_compression;
        server_compression = server_compression;
      })
      kexes keys y.1

  abbrev macing : List ℕ → List ℕ → List ℕ → List (List ℕ) → List (List ℕ) → At → Out Names
  macing kex key cipher kexes keys c =
      offer c >>= λ x. settle_mac cipher c.at (chosen t.side (mac_list t) x.0) >>= λ client_mac.
      offer x.1 >>= λ y. settle_mac cipher x.1.at (chosen t.side (mac_list t) y.0) >>= λ server_mac.
      compressing kex key cipher client_mac server_mac kexes keys y.1

  abbrev keying : List ℕ → List (List ℕ) → At → Out Names
  keying kex kexes c =
      offer c >>= λ x. settle 11 c.at (chosen t.side (key_list t) x.0) >>= λ key.
      offer x.1 >>= λ y. settle 12 x.1.at (chosen t.side (cipher_list t) y.0) >>= λ cipher.
      string y.1 >>= λ o. macing kex key cipher kexes x.0 o.1

  abbrev listing : At → Out Names
  listing c =
      offer c >>= λ x. settle 10 c.at (chosen t.side (spelled_rows (chosen_kex t)) x.0) >>= λ kex. keying kex x.0 x.1

  ended : (k : Rows) → Kinds k → (kexes keys : List (List ℕ))
      → k.guessed ≡ (both_first (spelled_rows (chosen_kex t)) kexes && both_first (key_list t) keys) → k.strict ≡ strict t strict_agreed kexes → (c : At)
      → in_names (languages k c) ≡ ending (spelled k) kexes keys c
  unfolding languages last_fields
  ended k i kexes keys g s c = simp (in_bind, in_done, record_named k i, g, s)

  module _ (kexes keyed : List (List ℕ)) (s : Bool) (st : s ≡ strict t strict_agreed kexes) (g : Bool)
      (gu : g ≡ (both_first (spelled_rows (chosen_kex t)) kexes && both_first (key_list t) keyed)) (kex key cipher : ℕ)
      (ik : (0 ≤ kex) × (kex < 9)) (iy : (first_row Key ≤ key) × (key < first_row Cipher)) (ic : (first_row Cipher ≤ cipher) × (cipher < first_row Mac)) where
    -- the rows up to the MACs, and the compressions to come
    abbrev so_far : ℕ → ℕ → ℕ → ℕ → Rows
    so_far cm sm cc sc =
        record { kex = kex; key = key; cipher = cipher; client_mac = cm; server_mac = sm; client_compression = cc; server_compression = sc; guessed = g; strict = s }

    compressed : (cm sm cc sc : ℕ) → (first_row Mac ≤ cm) × (cm < first_row Compression) → (first_row Mac ≤ sm) × (sm < first_row Compression) → (c : At)
        → in_names (compressions spells_name t.side (rows Compression t.compression) (so_far cm sm cc sc) c)
        ≡ compressing (row_spelled kex) (row_spelled key) (row_spelled cipher) (row_spelled cm) (row_spelled sm) kexes keyed c
    unfolding compressions
    compressed cm sm cc sc a b c =
        let w = compressions_within t v in
        needed t.side (rows Compression t.compression) (first_row Compression) 44 w (lit≤ tt) 14 _ _ c
        (λ q d e r h l.
        needed t.side (rows Compression t.compression) (first_row Compression) 44 w (lit≤ tt) 14 _ _ d
        (λ q' d' e' r' h' l'.
        ended (so_far cm sm r r')
        (record { kex = ik; key = iy; cipher = ic; client_mac = a; server_mac = b; client_compression = (h, l); server_compression = (h', l') })
        kexes keyed gu st d'))

    maced : (c : At) → in_names (macs spells_name t.side (rows Mac t.mac) (rows Compression t.compression) (so_far 0 0 0 0) c)
        ≡ macing (row_spelled kex) (row_spelled key) (row_spelled cipher) kexes keyed c
    unfolding macs
    maced c =
        let w = macs_within t v in
        mac_needed t.side (rows Mac t.mac) w cipher ic.0 ic.1 _ _ c
        (λ q d e r h l.
        mac_needed t.side (rows Mac t.mac) w cipher ic.0 ic.1 _ _ d
        (λ q' d' e' r' h' l'. compressed r r' 0 0 (h, l) (h', l') d'))

    passed : (c : At) → in_names (other_cipher spells_name t.side (rows Mac t.mac) (rows Compression t.compression) (so_far 0 0 0 0) c)
        ≡ (string c >>= λ o. macing (row_spelled kex) (row_spelled key) (row_spelled cipher) kexes keyed o.1)
    unfolding other_cipher
    passed c = in_bind (string c) _ ∙ on (string c) (λ o. maced o.1)

  -- the key and cipher lists
  module _ (kexes : List (List ℕ)) (s : Bool) (st : s ≡ strict t strict_agreed kexes) (f : Bool) (fu : f ≡ both_first (spelled_rows (chosen_kex t)) kexes)
      (kex : ℕ) (ik : (0 ≤ kex) × (kex < 9)) where
    keyed : (c : At)
        → in_names (keys spells_name t.side (key_list_rows t) (rows Cipher t.cipher) (rows Mac t.mac) (rows Compression t.compression) kex f s c)
        ≡ keying (row_spelled kex) kexes c
    unfolding keys
    keyed c =
        needed t.side (key_list_rows t) (first_row Key) (first_row Cipher) (keys_within t v) (lit≤ tt) 11 _ _ c
        (λ q d e r h l.
        needed t.side (rows Cipher t.cipher) (first_row Cipher) (first_row Mac) (ciphers_within t v) (lit≤ tt) 12 _ _ d
        (λ q' d' e' r' h' l'. passed kexes (cut q.bytes) s st (f && both_first (key_list t) (cut q.bytes)) (rw fu) kex r r' ik (h, l) (h', l') d'))

  abbrev asked : Bool
  asked = member (strict_name t.side) t.kex

  abbrev offered_row : ℕ
  offered_row = strict_name (other t.side)

  strict_in : (side : Side) → in_table (strict_name side) ≡ true
  strict_in Client = refl
  strict_in Server = refl

  stricted : (c : At) (q : Run) (d : At) → name_list c ≡ done (q, d)
      → (asked && stands_in spells_name offered_row c || strict_agreed) ≡ strict t strict_agreed (cut q.bytes)
  unfolding strict stands_in
  stricted c q d e = rw (list_run c (q, d) e, offered_listed (cut q.bytes) offered_row (strict_in (other t.side)))

  -- all lists
  listed_all : (c : At)
      → in_names (read_rows spells_name t.side (chosen_kex t) (key_list_rows t) (rows Cipher t.cipher) (rows Mac t.mac) (rows Compression t.compression) asked offered_row strict_agreed c)
      ≡ listing c
  unfolding read_rows
  listed_all c =
      needed t.side (chosen_kex t) 0 9 (chosen_within t v) (lit≤ tt) 10 _ _ c
      (λ q d e r h l.
      keyed (cut q.bytes) (asked && stands_in spells_name offered_row c || strict_agreed) (stricted c q d e)
      (both_first (spelled_rows (chosen_kex t)) (cut q.bytes)) refl r (h, l) d)

  guarded : (p : List ℕ) → length p ≤ most_kex_init → 17 ≤ length p → read_kex t strict_agreed p ≡ listing (here p 17)
  unfolding read_kex ◌>>=◌
  guarded p a b = rw (v, le-leb (length p) most_kex_init a, le-leb 17 (length p) b)

  -- by rows, from the first list on, what `read_kex` says
  pub staged : (p : List ℕ) → length p ≤ most_kex_init → 17 ≤ length p
      → in_names (read_rows spells_name t.side (chosen_kex t) (key_list_rows t) (rows Cipher t.cipher) (rows Mac t.mac) (rows Compression t.compression) asked offered_row strict_agreed (here p 17))
      ≡ read_kex t strict_agreed p
  staged p a b = listed_all (here p 17) ∙ sym (guarded p a b)

-- What a side writes is short: no list has more names than its preference lists, and no name is longer than the longest of
-- its kind. So a written list is read as it was written. Assumes nothing.
use mathlib.Core.Path.{◌≡◌, refl}
use mathlib.Core.Bool.{Bool, true}
use mathlib.Core.List.{List, [], ◌∷◌, ◌++◌, append_assoc, map-append}
use Prim.Native.Nat.{ℕ, suc, ◌+◌, ◌-◌, ◌*◌, ◌≤◌, ◌<◌}
use native.Mathlib.Nat.{suc-mul, mul-le-mul_right}
use native.Mathlib.Omega.{arith}
use lib.Dec.{ltb, leb, lit≤}
use lib.ListN.{length, length-append, length-map}
use borrow.Author.Tests.{ltb-true, leb-true}
use Rattle.answer.specs.Answer.{done, ◌>>=◌}
use Rattle.answer.proofs.Laws.{and_left, and_right}
use Rattle.text.specs.Same.{ascii}
use Rattle.text.specs.Utf8.{utf8}
use Rattle.text.proofs.Utf8Laws.{ascii_utf8}
use Rattle.commas.specs.Cut.{join, listable, nameable, every}
use Rattle.commas.proofs.CutLaws.{every_so, names_back, join_ascii}
use Rattle.wire.specs.Fields.{string}
use Rattle.wire.proofs.BackLaws.{string_back}
use Rattle.namelist.proofs.BackLaws.{list_back}
use Rattle.names.specs.Tables.{names_of, all_names, first_row, kex_names, key_names, certificate_names, cipher_names, mac_names, compression_names}
use Rattle.names.specs.declared.Kind.{Kind}
use Rattle.names.specs.declared.Kind.TheVariants.{Kex, Key, Certificate, Cipher, Mac, Compression}
use Rattle.names.proofs.PlaceLaws.{every_at}
use Rattle.names.proofs.TableLaws.{plain, tables_right, row_of}
use Rattle.choice.specs.declared.Side.{Side}
use Rattle.choice.specs.declared.Side.TheVariants.{Client, Server}
use Rattle.choice.specs.Rows.{row_spelled, spelled_rows}
use Rattle.judging.specs.Tables.{Tables, most_entries, below, good_list, valid}
use Rattle.filters.specs.Made.{most_own}
use Rattle.filters.specs.Picked.{held, certificates}
use Rattle.preferred.specs.Own.{rows, extensions, other, keys_of, key_of, written_kex, key_list_rows}
use Rattle.judging.proofs.ValidLaws.{good_below, valid_parts}
use Rattle.preferred.proofs.OwnLaws.{rows_short, good_without, good_held, good_certificates}
use Rattle.preferred.proofs.RangeLaws.{table_rows_lem, written_within, written_short, keys_within, keys_short, ciphers_within, ciphers_short, macs_within, macs_short, compressions_within, compressions_short}
use Rattle.negotiation.specs.KexInit.{text_field, list_field, offer}
use Rattle.negotiation.specs.Written.{kex_list, key_list, cipher_list, mac_list, compression_list}

-- the bytes of a kind's longest name
abbrev longest : Kind → ℕ
longest Kex = 36
longest Key = 19
longest Certificate = 40
longest Cipher = 29
longest Mac = 29
longest Compression = 4

abbrev up_to : ℕ → List ℕ → Bool
up_to n name = leb (length name) n

kind_longest : (k : Kind) → every (up_to (longest k)) (names_of k) ≡ true
unfolding names_of kex_names key_names certificate_names cipher_names mac_names compression_names
kind_longest Kex = refl
kind_longest Key = refl
kind_longest Certificate = refl
kind_longest Cipher = refl
kind_longest Mac = refl
kind_longest Compression = refl

-- names of at most so many bytes each, joined by commas: one byte more for each name but the last
join_up_to : (m : ℕ) (n : List ℕ) (ns : List (List ℕ)) → every (up_to m) (n ∷ ns) ≡ true
    → length (join (n ∷ ns)) + 1 ≤ suc (length ns) * (m + 1)
unfolding join
join_up_to m n [] h =
    let l = leb-true (length n) m (and_left (up_to m n) true h) in
    rw suc-mul (omega arith)
join_up_to m n (n' ∷ ns) h =
    let l = leb-true (length n) m (and_left (up_to m n) (every (up_to m) (n' ∷ ns)) h) in
    let ih = join_up_to m n' ns (and_right (up_to m n) (every (up_to m) (n' ∷ ns)) h) in
    rw (suc-mul (suc (length ns)) (m + 1), length-append) (omega arith)

join_most : (m c : ℕ) (ns : List (List ℕ)) → every (up_to m) ns ≡ true → length ns ≤ c → length (join ns) ≤ c * (m + 1) - 1
unfolding join
join_most m c [] h l = omega arith
join_most m c (n ∷ ns) h l =
    let j = join_up_to m n ns h in
    let k : suc (length ns) * (m + 1) ≤ c * (m + 1) = mul-le-mul_right (m + 1) l in
    omega arith

join_append : (a b : List (List ℕ)) → length (join (a ++ b)) ≤ length (join a) + 1 + length (join b)
unfolding join
join_append [] b = omega arith
join_append (n ∷ []) [] = omega arith
join_append (n ∷ []) (m ∷ b) = rw length-append (omega arith)
join_append (n ∷ (m ∷ a)) b = let ih = join_append (m ∷ a) b in simp length-append (omega arith)

-- what is so of every name of a kind is so of every name of a list of that kind
kind_every : (k : Kind) (f : List ℕ → Bool) → every f (names_of k) ≡ true → (ns : List ℕ) → below (length (names_of k)) ns ≡ true
    → every f (spelled_rows (rows k ns)) ≡ true
unfolding row_spelled below
kind_every k f a [] h = refl
kind_every k f a (n ∷ ns) h =
    let count = length (names_of k) in
    let l = ltb-true n count (and_left (ltb n count) (below count ns) h) in
    rw (row_of k n l, every_at f (names_of k) a n l) (kind_every k f a ns (and_right (ltb n count) (below count ns) h))

-- so the names of a good list have no more bytes than as many of the longest
kind_bytes : (k : Kind) (ns : List ℕ) → good_list k ns ≡ true
    → length (join (spelled_rows (rows k ns))) ≤ most_entries * (longest k + 1) - 1
kind_bytes k ns g =
    join_most (longest k) most_entries (spelled_rows (rows k ns))
    (kind_every k (up_to (longest k)) (kind_longest k) ns (good_below k ns g))
    (rw (length-map (rows k ns) row_spelled) (rows_short k ns g))

abbrev pub is_row : ℕ → Bool
is_row r = ltb r (length all_names)

-- rows of the table, no more of them than two preference lists, and their names no longer than a reader takes
pub record Few (rs : List ℕ) : Type 0 where
  pub in_table : every is_row rs ≡ true
  pub count : length rs ≤ most_own
  pub bytes : length (join (spelled_rows rs)) ≤ 16384

-- a name of the table may stand in a list
all_nameable : every nameable all_names ≡ true
all_nameable = every_so plain nameable (λ x h. and_left (nameable x) (leb (length x) 255) h) all_names tables_right.rows

all_ascii : every ascii all_names ≡ true
all_ascii = every_so nameable ascii (λ x h. and_right (listable x) (ascii x) h) all_names all_nameable

-- what is so of every name of the table is so of every name of such a list
spelled_every : (f : List ℕ → Bool) (rs : List ℕ) → every f all_names ≡ true → every is_row rs ≡ true → every f (spelled_rows rs) ≡ true
unfolding row_spelled
spelled_every f [] a h = refl
spelled_every f (r ∷ rs) a h =
    let l = ltb-true r (length all_names) (and_left (is_row r) (every is_row rs) h) in
    rw (every_at f all_names a r l) (spelled_every f rs a (and_right (is_row r) (every is_row rs) h))

-- a string is read as it was written
pub text_back : (i : ℕ) (x r : List ℕ) → length x < 4294967296 → utf8 x ≡ true
    → string (record { at = i; left = text_field x ++ r })
    ≡ done (record { place = record { start = i + 4; len = length x }; bytes = x }, record { at = i + 4 + length x; left = r })
unfolding text_field
text_back i x r h u = rw append_assoc (string_back i x r h u)

module _ (rs : List ℕ) (few : Few rs) where
  -- a written list is read as it was written
  pub offer_back : (i : ℕ) (r : List ℕ)
      → offer (record { at = i; left = list_field (spelled_rows rs) ++ r })
      ≡ done (spelled_rows rs, record { at = i + 4 + length (join (spelled_rows rs)); left = r })
  unfolding offer text_field ◌>>=◌
  offer_back i r =
      let h = spelled_every nameable rs all_nameable few.in_table in
      rw (
        append_assoc,
        list_back (spelled_rows rs) h i r (rw (length-map rs row_spelled) (omega (arith, few.count))) (omega (arith, few.bytes)),
        names_back (spelled_rows rs) h,
      )

  -- so is one that is read as a string
  pub string_few : (i : ℕ) (r : List ℕ)
      → string (record { at = i; left = list_field (spelled_rows rs) ++ r })
      ≡ done (
        record { place = record { start = i + 4; len = length (join (spelled_rows rs)) }; bytes = join (spelled_rows rs) },
        record { at = i + 4 + length (join (spelled_rows rs)); left = r },
      )
  string_few i r =
      text_back i (join (spelled_rows rs)) r (omega (arith, few.bytes))
      (ascii_utf8 _ (join_ascii (spelled_rows rs) (spelled_every ascii rs all_ascii few.in_table)))

-- the lists of valid tables are such
module _ (t : Tables) (v : valid t ≡ true) where
  pub kex_bytes : length (join (kex_list t)) ≤ 37 * most_entries - 1
  unfolding written_kex
  kex_bytes = kind_bytes Kex _ (good_without Kex (extensions (other t.side)) t.kex (valid_parts t v).kex)

  pub key_bytes : length (join (key_list t)) ≤ 61 * most_entries - 1
  unfolding keys_of
  key_bytes = go t.side
    where
      two : (cs ks : List ℕ) → good_list Certificate cs ≡ true → good_list Key ks ≡ true
          → length (join (spelled_rows (rows Certificate cs ++ rows Key ks))) ≤ 61 * most_entries - 1
      two cs ks g h =
          let a = kind_bytes Certificate cs g in
          let b = kind_bytes Key ks h in
          let j = join_append (spelled_rows (rows Certificate cs)) (spelled_rows (rows Key ks)) in
          rw map-append (omega arith)

      go : (side : Side) → length (join (spelled_rows (key_of side t))) ≤ 61 * most_entries - 1
      go Client = two t.certificate t.key (valid_parts t v).certificate (valid_parts t v).key
      go Server =
          two (certificates [] t.key t.key_ids t.cert_kinds t.cert_ids) (held t.key_kinds t.key)
          (good_certificates t.key t.key_ids t.cert_kinds t.cert_ids (valid_parts t v).key)
          (good_held Key t.key_kinds t.key (valid_parts t v).key)

  pub cipher_bytes : length (join (cipher_list t)) ≤ 30 * most_entries - 1
  cipher_bytes = kind_bytes Cipher t.cipher (valid_parts t v).cipher

  pub mac_bytes : length (join (mac_list t)) ≤ 30 * most_entries - 1
  mac_bytes = kind_bytes Mac t.mac (valid_parts t v).mac

  pub compression_bytes : length (join (compression_list t)) ≤ 5 * most_entries - 1
  compression_bytes = kind_bytes Compression t.compression (valid_parts t v).compression

  pub kexes : Few (written_kex t)
  kexes =
      record {
        in_table = table_rows_lem (first_row Kex) (first_row Key) (written_kex t) (lit≤ tt) (written_within t v);
        count = omega (arith, written_short t v);
        bytes = omega (arith, kex_bytes);
      }

  pub keys : Few (key_list_rows t)
  keys =
      record {
        in_table = table_rows_lem (first_row Key) (first_row Cipher) (key_list_rows t) (lit≤ tt) (keys_within t v);
        count = keys_short t v;
        bytes = omega (arith, key_bytes);
      }

  pub ciphers : Few (rows Cipher t.cipher)
  ciphers =
      record {
        in_table = table_rows_lem (first_row Cipher) (first_row Mac) (rows Cipher t.cipher) (lit≤ tt) (ciphers_within t v);
        count = omega (arith, ciphers_short t v);
        bytes = omega (arith, cipher_bytes);
      }

  pub macs : Few (rows Mac t.mac)
  macs =
      record {
        in_table = table_rows_lem (first_row Mac) (first_row Compression) (rows Mac t.mac) (lit≤ tt) (macs_within t v);
        count = omega (arith, macs_short t v);
        bytes = omega (arith, mac_bytes);
      }

  pub compressions : Few (rows Compression t.compression)
  compressions =
      record {
        in_table = table_rows_lem (first_row Compression) 44 (rows Compression t.compression) (lit≤ tt) (compressions_within t v);
        count = omega (arith, compressions_short t v);
        bytes = omega (arith, compression_bytes);
      }

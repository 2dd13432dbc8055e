-- What holds of the own lists of valid tables: how long they are, and between which rows of the name table theirs lie.
-- Assumes nothing.
use mathlib.Core.Path.{◌≡◌, refl}
use mathlib.Core.Bool.{Bool, true, false, ◌&&◌}
use mathlib.Core.List.{List, [], ◌∷◌, ◌++◌, map}
use Prim.Native.Nat.{ℕ, zero, suc, ◌+◌, ◌≤◌, ◌<◌}
use native.Mathlib.Omega.{arith}
use borrow.Author.Tests.{ltb-true, leb-true, lt-ltb, le-leb, eqb-false}
use lib.Dec.{leb, ltb, eqb, lit≤}
use lib.ListN.{length, get_or, length-append}
use Rattle.answer.proofs.Laws.{split, and_left, and_right}
use Rattle.commas.specs.Cut.{every}
use Rattle.names.specs.declared.Kind.{Kind}
use Rattle.names.specs.declared.Kind.TheVariants.{Kex, Key, Certificate, Cipher, Mac, Compression}
use Rattle.names.specs.Tables.{all_names, first_row}
use Rattle.names.proofs.TableLaws.{count_of, count_kind, row_count}
use Rattle.choice.specs.declared.Side.{Side}
use Rattle.choice.specs.declared.Side.TheVariants.{Client, Server}
use Rattle.judging.specs.Tables.{Tables, most_entries, below, good_list, valid}
use Rattle.choice.specs.Choice.{kept}
use Rattle.filters.specs.Made.{most_own}
use Rattle.filters.specs.Picked.{member, without, held, certificates}
use Rattle.preferred.specs.Own.{rows, extensions, other, written_kex, chosen_kex, keys_of, key_list_rows}
use Rattle.judging.proofs.ValidLaws.{good_below, valid_parts}
use Rattle.preferred.proofs.OwnLaws.{good_without, good_held, good_certificates, rows_short}

-- every row of these is at least `from` and below `to`
unfoldable pub within : ℕ → ℕ → List ℕ → Bool
within from to rs = every (λ r. leb from r && ltb r to) rs

within_more : (from to from' to' : ℕ) → from' ≤ from → to ≤ to' → (rs : List ℕ) → within from to rs ≡ true → within from' to' rs ≡ true
unfolding within
within_more from to from' to' a b [] h = refl
within_more from to from' to' a b (r ∷ rs) h =
    let c = and_left (leb from r && ltb r to) (within from to rs) h in
    let d = leb-true from r (and_left (leb from r) (ltb r to) c) in
    let e = ltb-true r to (and_right (leb from r) (ltb r to) c) in
    rw (le-leb from' r (omega arith), lt-ltb r to' (omega arith)) (within_more from to from' to' a b rs (and_right (leb from r && ltb r to) (within from to rs) h))

within_both : (from to : ℕ) (rs ss : List ℕ) → within from to rs ≡ true → within from to ss ≡ true → within from to (rs ++ ss) ≡ true
unfolding within
within_both from to [] ss h k = k
within_both from to (r ∷ rs) ss h k =
    rw (and_left (leb from r && ltb r to) (within from to rs) h) (within_both from to rs ss (and_right (leb from r && ltb r to) (within from to rs) h) k)

rows_within : (first count : ℕ) (ns : List ℕ) → below count ns ≡ true → within first (first + count) (map (λ n. first + n) ns) ≡ true
unfolding within below
rows_within first count [] h = refl
rows_within first count (n ∷ ns) h =
    let a = ltb-true n count (and_left (ltb n count) (below count ns) h) in
    rw (le-leb first (first + n) (omega arith), lt-ltb (first + n) (first + count) (omega arith)) (rows_within first count ns (and_right (ltb n count) (below count ns) h))

-- the row after a kind's last one
abbrev pub end_row : Kind → ℕ
end_row k = first_row k + count_of k

good_within : (k : Kind) (ns : List ℕ) → good_list k ns ≡ true → within (first_row k) (end_row k) (rows k ns) ≡ true
good_within k ns g = rows_within (first_row k) (count_of k) ns (rw (← count_kind k) at (good_below k ns g))

-- rows that end by the last kind's end are rows of the name table
pub table_rows_lem : (from to : ℕ) (rs : List ℕ) → to ≤ end_row Compression → within from to rs ≡ true → every (λ r. ltb r (length all_names)) rs ≡ true
unfolding within
table_rows_lem from to [] b h = refl
table_rows_lem from to (r ∷ rs) b h =
    let c = and_left (leb from r && ltb r to) (within from to rs) h in
    let e = ltb-true r to (and_right (leb from r) (ltb r to) c) in
    rw (lt-ltb r (length all_names) (omega (arith, row_count))) (table_rows_lem from to rs b (and_right (leb from r && ltb r to) (within from to rs) h))

-- what stands at each place of such a list
pub within_at : (from to : ℕ) (rs : List ℕ) → within from to rs ≡ true → (i : ℕ) → i < length rs → (from ≤ get_or rs i 0) × (get_or rs i 0 < to)
unfolding within
within_at from to [] h i l = absurd (omega arith)
within_at from to (r ∷ rs) h zero l =
    let c = and_left (leb from r && ltb r to) (within from to rs) h in
    (leb-true from r (and_left (leb from r) (ltb r to) c), ltb-true r to (and_right (leb from r) (ltb r to) c))
within_at from to (r ∷ rs) h (suc i) l =
    within_at from to rs (and_right (leb from r && ltb r to) (within from to rs) h) i (omega arith)

apart : (n m : ℕ) (ms : List ℕ) → member n (m ∷ ms) ≡ false → (m ≡ n → ⊥) × (member n ms ≡ false)
unfolding member
apart n m ms h =
    split (eqb m n)
    (λ e. let z : ◌≡◌ {A = ℕ} 0 1 = let q = rw e at h in cc in absurd (omega arith))
    (λ e. (eqb-false m n e, rw e at h))

-- the four extension names are the last of the kex names
abbrev all_extensions : List ℕ
all_extensions = extensions Client ++ extensions Server

methods_below : (ns : List ℕ) → below (count_of Kex) ns ≡ true → below 9 (without all_extensions ns) ≡ true
unfolding below without kept
methods_below [] h = refl
methods_below (n ∷ ns) h =
    let a = ltb-true n (count_of Kex) (and_left (ltb n (count_of Kex)) (below (count_of Kex) ns) h) in
    let b = methods_below ns (and_right (ltb n (count_of Kex)) (below (count_of Kex) ns) h) in
    split (member n all_extensions)
    (λ e. rw e b)
    (λ e.
    let p = apart n 9 (11 ∷ 10 ∷ 12 ∷ []) e in
    let q = apart n 11 (10 ∷ 12 ∷ []) p.1 in
    let r = apart n 10 (12 ∷ []) q.1 in
    let s = apart n 12 [] r.1 in
    let l : n < 9 = omega (arith, p.0, q.0, r.0, s.0) in
    rw (e, lt-ltb n 9 l) b)

keys_inside : (side : Side) (key certificate kinds ids ks is : List ℕ) → good_list Key key ≡ true → good_list Certificate certificate ≡ true
    → within (first_row Key) (end_row Certificate) (keys_of side key certificate kinds ids ks is) ≡ true
unfolding keys_of
keys_inside Client key certificate kinds ids ks is g h =
    within_both (first_row Key) (end_row Certificate) (rows Certificate certificate) (rows Key key)
    (within_more (first_row Certificate) (end_row Certificate) (first_row Key) (end_row Certificate) (lit≤ tt) (lit≤ tt) (rows Certificate certificate) (good_within Certificate certificate h))
    (within_more (first_row Key) (end_row Key) (first_row Key) (end_row Certificate) (lit≤ tt) (lit≤ tt) (rows Key key) (good_within Key key g))
keys_inside Server key certificate kinds ids ks is g h =
    let certs = certificates [] key ids ks is in
    within_both (first_row Key) (end_row Certificate) (rows Certificate certs) (rows Key (held kinds key))
    (within_more (first_row Certificate) (end_row Certificate) (first_row Key) (end_row Certificate) (lit≤ tt) (lit≤ tt) (rows Certificate certs) (good_within Certificate certs (good_certificates key ids ks is g)))
    (within_more (first_row Key) (end_row Key) (first_row Key) (end_row Certificate) (lit≤ tt) (lit≤ tt) (rows Key (held kinds key)) (good_within Key (held kinds key) (good_held Key kinds key g)))

keys_fit : (side : Side) (key certificate kinds ids ks is : List ℕ) → good_list Key key ≡ true → good_list Certificate certificate ≡ true
    → length (keys_of side key certificate kinds ids ks is) ≤ most_own
unfolding keys_of
keys_fit Client key certificate kinds ids ks is g h =
    let a = rows_short Certificate certificate h in
    let b = rows_short Key key g in
    rw (length-append (rows Certificate certificate) (rows Key key)) (omega arith)
keys_fit Server key certificate kinds ids ks is g h =
    let a = rows_short Certificate (certificates [] key ids ks is) (good_certificates key ids ks is g) in
    let b = rows_short Key (held kinds key) (good_held Key kinds key g) in
    rw (length-append (rows Certificate (certificates [] key ids ks is)) (rows Key (held kinds key))) (omega arith)

module _ (t : Tables) (v : valid t ≡ true) where
  -- kex names that are written: rows 0 to 12
  pub written_within : within (first_row Kex) (end_row Kex) (written_kex t) ≡ true
  unfolding written_kex
  written_within = good_within Kex (without (extensions (other t.side)) t.kex) (good_without Kex (extensions (other t.side)) t.kex (valid_parts t v).kex)

  -- kex names that are chosen from: rows 0 to 8, so no extension name
  pub chosen_within : within 0 9 (chosen_kex t) ≡ true
  unfolding chosen_kex
  chosen_within = rows_within 0 9 (without all_extensions t.kex) (methods_below t.kex (rw (← count_kind Kex) at (good_below Kex t.kex (valid_parts t v).kex)))

  -- host key names: rows 13 to 26, key names, then certificate names
  pub keys_within : within (first_row Key) (end_row Certificate) (key_list_rows t) ≡ true
  keys_within = keys_inside t.side t.key t.certificate t.key_kinds t.key_ids t.cert_kinds t.cert_ids (valid_parts t v).key (valid_parts t v).certificate

  -- ciphers: rows 27 to 37
  pub ciphers_within : within (first_row Cipher) (end_row Cipher) (rows Cipher t.cipher) ≡ true
  ciphers_within = good_within Cipher t.cipher (valid_parts t v).cipher

  -- MACs: rows 38 to 42
  pub macs_within : within (first_row Mac) (end_row Mac) (rows Mac t.mac) ≡ true
  macs_within = good_within Mac t.mac (valid_parts t v).mac

  -- compression: row 43
  pub compressions_within : within (first_row Compression) (end_row Compression) (rows Compression t.compression) ≡ true
  compressions_within = good_within Compression t.compression (valid_parts t v).compression

  -- no list but the key list is longer than a preference list, and that fits too
  pub written_short : length (written_kex t) ≤ most_entries
  unfolding written_kex
  written_short = rows_short Kex (without (extensions (other t.side)) t.kex) (good_without Kex (extensions (other t.side)) t.kex (valid_parts t v).kex)

  pub chosen_short : length (chosen_kex t) ≤ most_entries
  unfolding chosen_kex
  chosen_short = rows_short Kex (without all_extensions t.kex) (good_without Kex all_extensions t.kex (valid_parts t v).kex)

  pub keys_short : length (key_list_rows t) ≤ most_own
  keys_short = keys_fit t.side t.key t.certificate t.key_kinds t.key_ids t.cert_kinds t.cert_ids (valid_parts t v).key (valid_parts t v).certificate

  pub ciphers_short : length (rows Cipher t.cipher) ≤ most_entries
  ciphers_short = rows_short Cipher t.cipher (valid_parts t v).cipher

  pub macs_short : length (rows Mac t.mac) ≤ most_entries
  macs_short = rows_short Mac t.mac (valid_parts t v).mac

  pub compressions_short : length (rows Compression t.compression) ≤ most_entries
  compressions_short = rows_short Compression t.compression (valid_parts t v).compression

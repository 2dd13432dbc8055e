-- What valid tables are. Assumes nothing.
use mathlib.Core.Path.{◌≡◌}
use mathlib.Core.Bool.{Bool, true, ◌&&◌}
use mathlib.Core.List.{List, [], ◌∷◌}
use Prim.Native.Nat.{ℕ, zero, suc, ◌≤◌, ◌<◌}
use native.Mathlib.Omega.{arith}
use borrow.Author.Tests.{leb-true, le-leb, ltb-true}
use lib.Dec.{leb, ltb}
use lib.ListN.{length, get_or}
use Rattle.answer.proofs.Laws.{and_left, and_right}
use Rattle.names.specs.Tables.{names_of}
use Rattle.names.specs.declared.Kind.{Kind}
use Rattle.names.specs.declared.Kind.TheVariants.{Kex, Key, Certificate, Cipher, Mac, Compression}
use Rattle.judging.specs.Tables.{Tables, most_entries, all, below, good_list, good_row_table, consistent, may_lend, good_lists, good_tables, valid}

module _ (b : Bool) (bs : List Bool) (h : all (b ∷ bs) ≡ true) where
  pub all_head : b ≡ true
  unfolding all
  all_head = and_left b (all bs) h

  pub all_tail : all bs ≡ true
  unfolding all
  all_tail = and_right b (all bs) h

-- valid tables, test by test
pub record Valid (t : Tables) : Type 0 where
  pub kex : good_list Kex t.kex ≡ true
  pub key : good_list Key t.key ≡ true
  pub certificate : good_list Certificate t.certificate ≡ true
  pub cipher : good_list Cipher t.cipher ≡ true
  pub mac : good_list Mac t.mac ≡ true
  pub compression : good_list Compression t.compression ≡ true
  pub key_row_table : good_row_table t.key_kinds t.key_ids ≡ true
  pub cert_row_table : good_row_table t.cert_kinds t.cert_ids ≡ true
  pub keys_agree : consistent t.key_kinds t.key_ids t.key_kinds t.key_ids ≡ true
  pub tables_agree : consistent t.key_kinds t.key_ids t.cert_kinds t.cert_ids ≡ true
  pub certs_agree : consistent t.cert_kinds t.cert_ids t.cert_kinds t.cert_ids ≡ true
  pub client : may_lend t.side t.key_kinds t.cert_kinds ≡ true

pub valid_parts : (t : Tables) → valid t ≡ true → Valid t
unfolding valid good_lists good_tables
valid_parts t h =
    let l = all_head _ _ h in
    let l₂ = all_tail _ _ l in
    let l₃ = all_tail _ _ l₂ in
    let l₄ = all_tail _ _ l₃ in
    let l₅ = all_tail _ _ l₄ in
    let m = all_tail _ _ h in
    let r = all_head _ _ m in
    let r₂ = all_tail _ _ r in
    let r₃ = all_tail _ _ r₂ in
    let r₄ = all_tail _ _ r₃ in
    record {
      kex = all_head _ _ l;
      key = all_head _ _ l₂;
      certificate = all_head _ _ l₃;
      cipher = all_head _ _ l₄;
      mac = all_head _ _ l₅;
      compression = all_head _ _ (all_tail _ _ l₅);
      key_row_table = all_head _ _ r;
      cert_row_table = all_head _ _ r₂;
      keys_agree = all_head _ _ r₃;
      tables_agree = all_head _ _ r₄;
      certs_agree = all_head _ _ (all_tail _ _ r₄);
      client = all_head _ _ (all_tail _ _ m);
    }

below_at : (count : ℕ) (ns : List ℕ) → below count ns ≡ true → (i : ℕ) → i < length ns → get_or ns i 0 < count
unfolding below
below_at count [] h i l = absurd (omega arith)
below_at count (n ∷ ns) h zero l = ltb-true n count (and_left (ltb n count) _ h)
below_at count (n ∷ ns) h (suc i) l = below_at count ns (and_right (ltb n count) _ h) i (omega arith)

-- a good list is short, and its numbers are of its table
module _ (k : Kind) (ns : List ℕ) where
  pub good_short : good_list k ns ≡ true → length ns ≤ most_entries
  unfolding good_list all
  good_short g = leb-true (length ns) most_entries (and_left (leb (length ns) most_entries) (below (length (names_of k)) ns && true) g)

  pub good_below : good_list k ns ≡ true → below (length (names_of k)) ns ≡ true
  unfolding good_list all
  good_below g = and_left (below (length (names_of k)) ns) true (and_right (leb (length ns) most_entries) (below (length (names_of k)) ns && true) g)

  pub good : length ns ≤ most_entries → below (length (names_of k)) ns ≡ true → good_list k ns ≡ true
  unfolding good_list all
  good h b = rw (le-leb (length ns) most_entries h, b)

  pub good_at : good_list k ns ≡ true → (i : ℕ) → i < length ns → get_or ns i 0 < length (names_of k)
  good_at g i h = below_at (length (names_of k)) ns (good_below g) i h

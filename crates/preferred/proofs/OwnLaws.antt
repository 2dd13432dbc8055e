-- The lists as they are put together, of lists that were judged. Assumes nothing.
use mathlib.Core.Path.{◌≡◌, refl, sym, ap, ◌∙◌}
use mathlib.Core.Bool.{Bool, true, false, not}
use mathlib.Core.List.{List, [], ◌∷◌, ◌++◌}
use Prim.Native.Nat.{ℕ, ◌+◌, ◌≤◌, ◌<◌}
use native.Mathlib.Omega.{arith}
use native.Mathlib.Nat.{zero-add}
use lib.ListN.{length, get_or, drop, length-map, drop_of_length-le}
use Rattle.filters.specs.Items.{Items}
use Rattle.answer.specs.Answer.{Out, done, refuse}
use Rattle.names.specs.declared.Kind.{Kind}
use Rattle.names.specs.declared.Kind.TheVariants.{Kex, Key, Certificate, Cipher, Mac, Compression}
use Rattle.names.specs.Tables.{names_of, first_row}
use Rattle.names.proofs.TableLaws.{count_kind}
use Rattle.choice.specs.declared.Side.TheVariants.{Client, Server}
use Rattle.preferred.specs.declared.Own.{Own}
use Rattle.judging.specs.Tables.{Tables, good_list, most_entries, valid}
use Rattle.choice.specs.Choice.{kept}
use Rattle.filters.specs.Made.{most_own, row_list, shown, pushed, joined, certified}
use Rattle.filters.specs.Picked.{member, without, held, kind_of, certificates}
use Rattle.preferred.specs.Own.{rows, extensions, other, written_kex, chosen_kex, keys_of, key_list_rows, lists_of, own_of}
use Rattle.filters.proofs.FitLaws.{joined_list, certified_list}
use Rattle.judging.proofs.JudgeLaws.{next}
use Rattle.judging.proofs.ValidLaws.{valid_parts, good, good_short, good_below, good_at}
use Rattle.filters.proofs.RoomLaws.{kept_short, kept_below, certificates_short, certificates_numbers}

-- the walk over a list whose numbers become rows
module _ (k : Kind) (ns : List ℕ) (i : ℕ) where
  pub row_known : good_list k ns ≡ true → i < length ns → get_or ns i 0 < length (names_of k)
  row_known g h = good_at k ns g i h

  module _ (whole l : Items) (left : whole ≡ joined l (rows k (drop i ns))) where
    pub rows_end : length ns ≤ i → l ≡ whole
    unfolding joined
    rows_end h = sym (rw (drop_of_length-le ns h) at left)

    pub rows_on : i < length ns → (x : ℕ) → x ≡ first_row k + get_or ns i 0 → whole ≡ joined (pushed l x) (rows k (drop (i + 1) ns))
    unfolding joined
    rows_on h x e = rw e (left ∙ rw (next ns i h))

-- what is kept of a good list is good
pub good_kept : (k : Kind) (f : ℕ → Bool) (ns : List ℕ) → good_list k ns ≡ true → good_list k (kept f ns) ≡ true
good_kept k f ns g =
    let l : length (kept f ns) ≤ most_entries = let a = kept_short f ns in let b = good_short k ns g in omega arith in
    good k (kept f ns) l (kept_below f (length (names_of k)) ns (good_below k ns g))

pub good_without : (k : Kind) (dropped ns : List ℕ) → good_list k ns ≡ true → good_list k (without dropped ns) ≡ true
unfolding without
good_without k dropped ns g = good_kept k (λ n. not (member n dropped)) ns g

pub good_held : (k : Kind) (kinds ns : List ℕ) → good_list k ns ≡ true → good_list k (held kinds ns) ≡ true
unfolding held
good_held k kinds ns g = good_kept k (λ n. member (kind_of n) kinds) ns g

-- a certificate's number is its key's
pub good_certificates : (key ids ks is : List ℕ) → good_list Key key ≡ true → good_list Certificate (certificates [] key ids ks is) ≡ true
good_certificates key ids ks is g =
    let l : length (certificates [] key ids ks is) ≤ most_entries = let a = certificates_short key ids ks is in let b = good_short Key key g in omega arith in
    let e : length (names_of Key) ≡ length (names_of Certificate) = sym (count_kind Key) ∙ count_kind Certificate in
    good Certificate (certificates [] key ids ks is) l (certificates_numbers key ids (length (names_of Certificate)) ks is (rw e at (good_below Key key g)))

-- a kex number is its row
pub kex_rows_lem : (ns : List ℕ) → rows Kex ns ≡ ns
kex_rows_lem [] = refl
kex_rows_lem (n ∷ ns) = rw (zero-add n, kex_rows_lem ns)

pub kex_list_lem : (ns : List ℕ) → good_list Kex ns ≡ true → (r : Items) (dropped : List ℕ) → r ≡ joined (row_list []) (without dropped ns)
    → r ≡ row_list (rows Kex (without dropped ns))
kex_list_lem ns g r dropped e =
    let l : length (without dropped ns) ≤ most_entries = good_short Kex (without dropped ns) (good_without Kex dropped ns g) in
    let m : length {A = ℕ} [] + length (without dropped ns) ≤ most_own = omega arith in
    e ∙ joined_list [] (without dropped ns) m ∙ rw (kex_rows_lem (without dropped ns))

pub rows_short : (k : Kind) (ns : List ℕ) → good_list k ns ≡ true → length (rows k ns) ≤ most_entries
rows_short k ns g = rw (length-map ns (λ (n : ℕ). first_row k + n)) (good_short k ns g)

module _ (k : Kind) (ns : List ℕ) (g : good_list k ns ≡ true) where
  pub rows_list : (l : Items) → l.items ≡ [] → (r : Items) → r ≡ joined l (rows k ns) → r ≡ row_list (rows k ns)
  rows_list l e r q =
      let m : length {A = ℕ} [] + length (rows k ns) ≤ most_own = let h = rows_short k ns g in omega arith in
      q ∙ ap (λ xs. joined (row_list xs) (rows k ns)) e ∙ joined_list [] (rows k ns) m

  pub rows_after : (k' : Kind) (ns' : List ℕ) → good_list k' ns' ≡ true → (l : Items) → l ≡ row_list (rows k ns) → (r : Items)
      → r ≡ joined l (rows k' ns') → r ≡ row_list (rows k ns ++ rows k' ns')
  rows_after k' ns' g' l e r q =
      let m : length (rows k ns) + length (rows k' ns') ≤ most_own = let h = rows_short k ns g in let h' = rows_short k' ns' g' in omega arith in
      q ∙ rw e (joined_list (rows k ns) (rows k' ns') m)

module _ (t : Tables) (v : valid t ≡ true) where
  -- a server's lists, as they are lent
  module _ (l : Items) (made : l ≡ certified (row_list []) t.key t.key_ids t.cert_kinds t.cert_ids) (xs : List ℕ) (lent : xs ≡ shown l) where
    pub certs_lent : xs ≡ certificates [] t.key t.key_ids t.cert_kinds t.cert_ids
    certs_lent =
        let m : length (certificates [] t.key t.key_ids t.cert_kinds t.cert_ids) ≤ most_own =
        let a = certificates_short t.key t.key_ids t.cert_kinds t.cert_ids in let b = good_short Key t.key (valid_parts t v).key in omega arith in
        lent ∙ rw (made, certified_list t.key t.key_ids [] t.cert_kinds t.cert_ids m)

    pub certs_good : good_list Certificate xs ≡ true
    certs_good = rw certs_lent (good_certificates t.key t.key_ids t.cert_kinds t.cert_ids (valid_parts t v).key)

  module _ (h : Items) (made : h ≡ joined (row_list []) (held t.key_kinds t.key)) (ys : List ℕ) (lent : ys ≡ shown h) where
    pub keys_lent : ys ≡ held t.key_kinds t.key
    keys_lent =
        let m : length {A = ℕ} [] + length (held t.key_kinds t.key) ≤ most_own =
        let a = good_short Key (held t.key_kinds t.key) (good_held Key t.key_kinds t.key (valid_parts t v).key) in omega arith in
        lent ∙ rw (made, joined_list [] (held t.key_kinds t.key) m)

    pub keys_good : good_list Key ys ≡ true
    keys_good = rw keys_lent (good_held Key t.key_kinds t.key (valid_parts t v).key)

  -- the key list of each side
  module _ (r : Items) where
    pub client_list : t.side ≡ Client → r ≡ row_list (rows Certificate t.certificate ++ rows Key t.key) → r ≡ row_list (key_list_rows t)
    unfolding keys_of
    client_list s e = rw s e

    pub server_list : t.side ≡ Server → (xs ys : List ℕ) → xs ≡ certificates [] t.key t.key_ids t.cert_kinds t.cert_ids → ys ≡ held t.key_kinds t.key
        → r ≡ row_list (rows Certificate xs ++ rows Key ys) → r ≡ row_list (key_list_rows t)
    unfolding keys_of
    server_list s xs ys e f q = rw (s, ← e, ← f) q

-- everything together
module _ (t : Tables) where
  pub own_refused : valid t ≡ false → refuse 9 ≡ own_of t
  unfolding own_of
  own_refused h = rw h

  pub own_made : valid t ≡ true → (a b c d e f : Items) → a ≡ row_list (rows Kex (without (extensions (other t.side)) t.kex))
      → b ≡ row_list (rows Kex (without (extensions Client ++ extensions Server) t.kex))
      → c ≡ row_list (key_list_rows t)
      → d ≡ row_list (rows Cipher t.cipher)
      → e ≡ row_list (rows Mac t.mac)
      → f ≡ row_list (rows Compression t.compression)
      → ◌≡◌ {A = Out Own} (done (record { kex_written = a; kex_chosen = b; key = c; cipher = d; mac = e; compression = f })) (own_of t)
  unfolding own_of lists_of written_kex chosen_kex
  own_made h a b c d e f p q r s u w = rw (h, p, q, r, s, u, w)

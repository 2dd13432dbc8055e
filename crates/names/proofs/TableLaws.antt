-- The tables of document 01: one computed test over all of them, and what it says at every number.
-- Assumes nothing.
use mathlib.Core.Path.{◌≡◌, refl, sym, ap, ◌∙◌}
use mathlib.Core.Bool.{Bool, true, ◌&&◌}
use mathlib.Core.List.{List, [], ◌∷◌, ◌++◌, map}
use mathlib.Core.Option.{some}
use Prim.Native.Nat.{ℕ, zero, suc, ◌+◌, ◌≤◌, ◌<◌}
use native.Mathlib.Nat.{zero-add, sub-zero, le_of_suc-le-suc}
use native.Mathlib.Omega.{arith}
use lib.Dec.{leb, lit≤}
use lib.ListN.{length, get_or, take, drop}
use lib.Seq.{get_or-take, get_or-drop}
use borrow.Author.Tests.{leb-true}
use Rattle.answer.proofs.Laws.{and_left, and_right}
use Rattle.text.specs.Same.{same, ascii}
use Rattle.commas.specs.Cut.{every, nameable}
use Rattle.names.specs.declared.Kind.{Kind}
use Rattle.names.specs.declared.Kind.TheVariants.{Kex, Key, Certificate, Cipher, Mac, Compression}
use Rattle.names.specs.Tables.{bytes, kex_names, key_names, certificate_names, cipher_names, mac_names, compression_names, names_of, all_names, first_row}
use Rattle.names.specs.Lookup.{number_of}
use Rattle.names.proofs.PlaceLaws.{every_at, distinct, distinct_front, distinct_back, place_back, place_found}

-- fit to stand in a name-list and in a row
abbrev pub plain : List ℕ → Bool
plain name = nameable name && leb (length name) 255

-- Everything that is computed of the tables. Key and certificate names stand in one list, so they are distinct together.
pub record Right : Type 0 where
  pub rows : every plain all_names ≡ true
  pub kex : distinct kex_names ≡ true
  pub host_keys : distinct (key_names ++ certificate_names) ≡ true
  pub ciphers : distinct cipher_names ≡ true
  pub macs : distinct mac_names ≡ true
  pub compressions : distinct compression_names ≡ true

pub tables_right : Right
unfolding same ascii all_names kex_names key_names certificate_names cipher_names mac_names compression_names
tables_right = record { rows = refl; kex = refl; host_keys = refl; ciphers = refl; macs = refl; compressions = refl }

pub distinct_kind : (k : Kind) → distinct (names_of k) ≡ true
unfolding names_of
distinct_kind Kex = tables_right.kex
distinct_kind Key = distinct_front key_names certificate_names tables_right.host_keys
distinct_kind Certificate = distinct_back key_names certificate_names tables_right.host_keys
distinct_kind Cipher = tables_right.ciphers
distinct_kind Mac = tables_right.macs
distinct_kind Compression = tables_right.compressions

-- every name of the table is non-empty US-ASCII without a comma,
pub name_nameable : (n : ℕ) → n < length all_names → nameable (get_or all_names n []) ≡ true
name_nameable n h =
    and_left (nameable (get_or all_names n [])) (leb (length (get_or all_names n [])) 255) (every_at plain all_names tables_right.rows n h)

-- and at most 255 bytes long
pub name_short : (n : ℕ) → n < length all_names → length (get_or all_names n []) ≤ 255
name_short n h =
    leb-true (length (get_or all_names n [])) 255
    (and_right (nameable (get_or all_names n [])) (leb (length (get_or all_names n [])) 255) (every_at plain all_names tables_right.rows n h))

-- the names of a kind are its part of the one table
pub kind_part : (k : Kind) → take (length (names_of k)) (drop (first_row k) all_names) ≡ names_of k
unfolding names_of all_names kex_names key_names certificate_names cipher_names mac_names compression_names
kind_part Kex = refl
kind_part Key = refl
kind_part Certificate = refl
kind_part Cipher = refl
kind_part Mac = refl
kind_part Compression = refl

abbrev pub count_of : Kind → ℕ
count_of Kex = 13
count_of Key = 7
count_of Certificate = 7
count_of Cipher = 11
count_of Mac = 5
count_of Compression = 1

pub count_kind : (k : Kind) → count_of k ≡ length (names_of k)
unfolding names_of kex_names key_names certificate_names cipher_names mac_names compression_names
count_kind Kex = refl
count_kind Key = refl
count_kind Certificate = refl
count_kind Cipher = refl
count_kind Mac = refl
count_kind Compression = refl

pub row_count : length all_names ≡ 44
unfolding all_names kex_names key_names certificate_names cipher_names mac_names compression_names
row_count = refl

-- a kind's rows are rows of the table
rows_in : (k : Kind) → first_row k + count_of k ≤ 44
rows_in Kex = lit≤ tt
rows_in Key = lit≤ tt
rows_in Certificate = lit≤ tt
rows_in Cipher = lit≤ tt
rows_in Mac = lit≤ tt
rows_in Compression = lit≤ tt

pub kind_rows : (k : Kind) → first_row k + length (names_of k) ≤ 44
kind_rows k = rw (← count_kind k) (rows_in k)

pub row_of : (k : Kind) (n : ℕ) → n < length (names_of k) → get_or all_names (first_row k + n) [] ≡ get_or (names_of k) n []
row_of k n h =
    sym (get_or-drop (first_row k) all_names n [])
    ∙ sym (get_or-take (length (names_of k)) (drop (first_row k) all_names) n [] h)
    ∙ ap (λ (l : List (List ℕ)). get_or l n []) (kind_part k)

-- the look-up of a spelled name gives its number back
pub number_back : (k : Kind) (n : ℕ) → n < length (names_of k) → number_of k (get_or (names_of k) n []) ≡ some n
unfolding number_of
number_back k n h = rw zero-add at (place_back (names_of k) (distinct_kind k) 0 n h)

-- what the look-up finds is spelled so
pub number_found : (k : Kind) (name : List ℕ) (n : ℕ) → number_of k name ≡ some n
    → (n < length (names_of k)) × (get_or (names_of k) n [] ≡ name)
unfolding number_of
number_found k name n h =
    let s = place_found name (names_of k) 0 n h in
    (rw sub-zero at s.below, rw sub-zero at s.spelt)

map_in : (f : List ℕ → List ℕ) (xs : List (List ℕ)) (n : ℕ) → n < length xs → get_or (map f xs) n [] ≡ f (get_or xs n [])
map_in f [] n h = absurd (omega arith)
map_in f (x ∷ xs) zero h = refl
map_in f (x ∷ xs) (suc n) h = map_in f xs n (le_of_suc-le-suc h)

-- "The certificate name is the key name followed by -cert-v01@openssh.com."
pub certificate_name : (n : ℕ) → n < length (names_of Key)
    → get_or (names_of Certificate) n [] ≡ get_or (names_of Key) n [] ++ bytes "-cert-v01@openssh.com"
unfolding names_of certificate_names
certificate_name n h = map_in (λ name. name ++ bytes "-cert-v01@openssh.com") key_names n h

-- The look-up over the rows of a kind is the look-up among its names. Assumes nothing.
use mathlib.Core.Path.{◌≡◌, refl, ap, ◌∙◌}
use mathlib.Core.Bool.{true}
use mathlib.Core.List.{List, [], ◌++◌}
use mathlib.Core.Option.{Option, some, none}
use Prim.Native.Nat.{ℕ, ◌+◌, ◌-◌, ◌≤◌, ◌<◌}
use native.Mathlib.Omega.{arith}
use lib.Dec.{lit≤}
use lib.ListN.{length}
use Rattle.std.specs.Bool.{◌==◌}
use Rattle.std.proofs.lemmas.Bool.{eqb-true}
use Rattle.std.proofs.lemmas.List.{nil_from_length}
use Rattle.text.specs.Same.{same}
use Rattle.names.specs.declared.Kind.{Kind}
use Rattle.names.specs.declared.Kind.TheVariants.{Kex, Key, Certificate, Cipher, Mac, Compression}
use Rattle.names.specs.Tables.{names_of, all_names, first_row, kex_names, key_names, certificate_names, cipher_names, mac_names, compression_names}
use Rattle.names.specs.Lookup.{number_of, place_from, row_from, onward}
use Rattle.names.proofs.ColumnLaws.{flat, starts, lengths, row_place}
use Rattle.names.proofs.PlaceLaws.{place_from_lem}
use Rattle.names.proofs.TableLaws.{kind_part, kind_rows, row_count, number_found}

-- the one table's columns, and the first of n of its rows from i on that spells a name
abbrev pub table_from : List ℕ → ℕ → ℕ → Option ℕ
table_from name i n = row_from (flat all_names) (starts 0 all_names) (lengths all_names) name i n

-- the rows of keys and certificates together
pub host_key_row : (name : List ℕ) → table_from name 13 14 ≡ place_from 13 name (key_names ++ certificate_names)
unfolding all_names kex_names key_names certificate_names cipher_names mac_names compression_names
host_key_row name = row_place all_names name 14 13 (lit≤ tt)

pub kind_row : (k : Kind) (name : List ℕ) (from count : ℕ) → from ≡ first_row k → count ≡ length (names_of k)
    → table_from name from (from + count - from) ≡ onward (first_row k) (number_of k name)
unfolding number_of
kind_row k name from count p q =
    let e : from + count - from ≡ count = omega arith in
    let h : first_row k + length (names_of k) ≤ length all_names = rw row_count (kind_rows k) in
    rw (e, p, q)
    (row_place all_names name (length (names_of k)) (first_row k) h
    ∙ ap (place_from (first_row k) name) (kind_part k)
    ∙ place_from_lem name (names_of k) (first_row k))

pub kind_room : (k : Kind) (from count : ℕ) → from ≡ first_row k → count ≡ length (names_of k) → from + count ≤ 44
kind_room k from count p q = rw (p, q) (kind_rows k)

-- no kind has an empty name
unnamed_kind : (k : Kind) → none ≡ number_of k []
unfolding number_of place_from names_of kex_names key_names certificate_names cipher_names mac_names compression_names same
unnamed_kind Kex = refl
unnamed_kind Key = refl
unnamed_kind Certificate = refl
unnamed_kind Cipher = refl
unnamed_kind Mac = refl
unnamed_kind Compression = refl

pub unnamed : (k : Kind) (name : List ℕ) → (length name == 0) ≡ true → none ≡ number_of k name
unnamed k name e = rw (nil_from_length name (eqb-true (length name) 0 e)) (unnamed_kind k)

-- the number of a row that was found fits a byte
module _ (k : Kind) (name : List ℕ) (first n : ℕ) (at : first ≡ first_row k) where
  small : (o : Option ℕ) → number_of k name ≡ o → some n ≡ onward (first_row k) o → n - first < 256
  small none e h = let z : ◌≡◌ {A = ℕ} 0 1 = cc in absurd (omega arith)
  small (some m) e h =
      let b = (number_found k name m e).0 in
      let f : n ≡ first_row k + m = cc in
      omega (arith, kind_rows k)

  pub number_small : some n ≡ onward (first_row k) (number_of k name) → n - first < 256
  number_small h = small (number_of k name) refl h

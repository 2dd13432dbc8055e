-- Rows of the one table spell the names of the kinds. Assumes nothing.
use mathlib.Core.Path.{◌≡◌}
use mathlib.Core.List.{List, []}
use Prim.Native.Nat.{ℕ, ◌+◌, ◌≤◌, ◌<◌}
use native.Mathlib.Omega.{arith}
use lib.ListN.{length}
use Rattle.answer.specs.Answer.{Out, refuse}
use Rattle.names.specs.declared.Kind.{Kind}
use Rattle.names.specs.Tables.{names_of, all_names, first_row}
use Rattle.names.specs.Spelled.{row_name, spelled}
use Rattle.put.proofs.WriterLaws.{Puts, refused_put}
use Rattle.names.proofs.RowLaws.{entry_in, entry_out}
use Rattle.names.proofs.ColumnLaws.{flat, starts, lengths, row_name_lem}
use Rattle.names.proofs.TableLaws.{kind_rows, row_of, row_count}

-- the columns of the one table
abbrev pub table_row : ℕ → Out (List ℕ)
table_row n = row_name (flat all_names) (starts 0 all_names) (lengths all_names) n

module _ (k : Kind) (number n : ℕ) (e : n ≡ number) (count : ℕ) (c : count ≡ length (names_of k)) where
  pub refuses : (out : List ℕ) (at : ℕ) → count ≤ n → Puts out at (spelled k number) (refuse 9) out
  refuses out at h =
      let l : length (names_of k) ≤ number = omega arith in
      refused_put out at (spelled k number) 9 (entry_out [] (names_of k) number l)

  module _ (first : ℕ) (f : first ≡ first_row k) (h : n < count) where
    pub row_fits : first + n < 44
    row_fits = omega (arith, kind_rows k)

    pub row_spells : table_row (first + n) ≡ spelled k number
    row_spells =
        let l : number < length (names_of k) = omega arith in
        let m : first_row k + number < length all_names = omega (arith, kind_rows k, row_count) in
        rw (
          e,
          f,
          row_name_lem all_names (first_row k + number),
          entry_in [] all_names (first_row k + number) m,
          row_of k number l,
          entry_in [] (names_of k) number l,
        )

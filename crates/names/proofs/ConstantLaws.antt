-- The constants compute to the columns of the definition's names. Assumes nothing.
use mathlib.Core.Path.{◌≡◌}
use mathlib.Core.List.{List}
use Prim.Native.Nat.{ℕ}
use Rattle.names.specs.declared.rows.Columns.{Columns}
use Rattle.names.specs.Tables.{all_names, kex_names, key_names, certificate_names, cipher_names, mac_names, compression_names}
use Rattle.names.specs.Spelled.{spelled_by}
use Rattle.names.specs.Lookup.{row_from}
use Rattle.names.specs.Constant.{AreConstant}
use Rattle.names.proofs.LookupLaws.{table_from}
use Rattle.names.proofs.SpellLaws.{table_row}

module _ (t : Columns) (c : AreConstant t) where
  pub constant_row : (n : ℕ) → spelled_by t n ≡ table_row n
  unfolding all_names kex_names key_names certificate_names cipher_names mac_names compression_names
  constant_row n = rw (c.spellings, c.starts, c.lengths)

  pub constant_from : (name : List ℕ) (i n : ℕ) → row_from t.spellings.now t.starts.now t.lengths.now name i n ≡ table_from name i n
  unfolding all_names kex_names key_names certificate_names cipher_names mac_names compression_names
  constant_from name i n = rw (c.spellings, c.starts, c.lengths)

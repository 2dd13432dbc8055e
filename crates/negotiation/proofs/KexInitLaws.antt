-- The KEXINIT that a side writes: valid tables and a cookie of 16 bytes give one, and it is short, so that every packet
-- carries it and every reader takes it. Assumes nothing.
use mathlib.Core.Path.{◌≡◌, refl}
use mathlib.Core.Bool.{true, ◌&&◌}
use mathlib.Core.List.{List, [], flatten}
use Prim.Native.Nat.{ℕ, ◌+◌, ◌*◌, ◌≤◌}
use native.Mathlib.Omega.{arith}
use borrow.Author.Tests.{eq-eqb}
use lib.Dec.{eqb}
use lib.ListN.{length, length-append, replicate}
use Rattle.answer.specs.Answer.{done}
use Rattle.answer.proofs.Laws.{pass}
use Rattle.put.proofs.PutLaws.{word_length}
use Rattle.commas.specs.Cut.{join}
use Rattle.names.specs.Tables.{names_of, all_names, kex_names, key_names, certificate_names, cipher_names, mac_names, compression_names}
use Rattle.choice.specs.declared.Side.TheVariants.{Client}
use Rattle.choice.specs.Rows.{row_spelled}
use Rattle.judging.specs.Tables.{Tables, most_entries, all, below, good_list, good_lists, good_row_table, good_tables, each_key_row, agrees, consistent, may_lend, valid}
use Rattle.choice.specs.Choice.{kept}
use Rattle.filters.specs.Picked.{member, without}
use Rattle.preferred.specs.Own.{written_kex, keys_of}
use Rattle.negotiation.specs.KexInit.{text_field, encoded}
use Rattle.negotiation.specs.Written.{kex_list, key_list, cipher_list, mac_list, compression_list, kex_init, write_kex}
use Rattle.negotiation.proofs.FewLaws.{kex_bytes, key_bytes, cipher_bytes, mac_bytes, compression_bytes}

pub write_valid : (t : Tables) (cookie : List ℕ) → valid t ≡ true → length cookie ≡ 16
    → write_kex t cookie ≡ done (kex_init t cookie)
unfolding write_kex
write_valid t cookie v k = pass 9 (valid t && eqb (length cookie) 16) _ (rw (v, eq-eqb (length cookie) 16 k))

-- how long it is
pub kex_length : (t : Tables) (cookie : List ℕ) → length cookie ≡ 16
    → length (kex_init t cookie)
    ≡ 62
    + (length (join (kex_list t)) + length (join (key_list t)))
    + 2 * (length (join (cipher_list t)) + length (join (mac_list t)) + length (join (compression_list t)))
unfolding kex_init encoded flatten text_field
kex_length t cookie k = simp (length-append, word_length) (omega arith)

-- no valid tables give a longer one than this,
pub kex_fits : (t : Tables) → valid t ≡ true → (cookie : List ℕ) → length cookie ≡ 16 → length (kex_init t cookie) ≤ 3702
kex_fits t v cookie k =
    omega (arith, kex_length t cookie k, kex_bytes t v, key_bytes t v, cipher_bytes t v, mac_bytes t v, compression_bytes t v)

-- and these give it: every list full of its longest names
abbrev pub fullest : Tables
fullest =
    record {
      side = Client;
      kex = replicate most_entries 3;
      key = replicate most_entries 1;
      certificate = replicate most_entries 1;
      cipher = replicate most_entries 10;
      mac = replicate most_entries 1;
      compression = replicate most_entries 0;
      key_kinds = [];
      key_ids = [];
      cert_kinds = [];
      cert_ids = [];
    }

pub fullest_valid : valid fullest ≡ true
unfolding valid good_lists good_tables good_list good_row_table each_key_row agrees consistent below all may_lend names_of kex_names key_names certificate_names cipher_names mac_names compression_names
fullest_valid = refl

pub kex_reached : (cookie : List ℕ) → length cookie ≡ 16 → length (kex_init fullest cookie) ≡ 3702
unfolding written_kex without kept member keys_of row_spelled join all_names names_of kex_names key_names certificate_names cipher_names mac_names compression_names
kex_reached cookie k = kex_length fullest cookie k

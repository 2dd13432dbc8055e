-- The KEXINIT that a side writes (document 01, "KEXINIT", Writing; RFC 4253 section 7.1).
use Rattle.std.specs.Prelude.{◌&&◌, List, [], ℕ, eqb, length}
use Rattle.answer.specs.Answer.{Out, done, guard, ◌>>=◌}
use Rattle.names.specs.declared.Kind.TheVariants.{Cipher, Mac, Compression}
use Rattle.choice.specs.Rows.{spelled_rows}
use Rattle.judging.specs.Tables.{Tables, valid}
use Rattle.preferred.specs.Own.{rows, written_kex, key_list_rows}
use Rattle.negotiation.specs.KexInit.{Offers, encoded}

-- the lists as written, in names
abbrev pub kex_list : Tables → List (List ℕ)
kex_list t = spelled_rows (written_kex t)

abbrev pub key_list : Tables → List (List ℕ)
key_list t = spelled_rows (key_list_rows t)

abbrev pub cipher_list : Tables → List (List ℕ)
cipher_list t = spelled_rows (rows Cipher t.cipher)

abbrev pub mac_list : Tables → List (List ℕ)
mac_list t = spelled_rows (rows Mac t.mac)

abbrev pub compression_list : Tables → List (List ℕ)
compression_list t = spelled_rows (rows Compression t.compression)

-- what a side offers: cipher, MAC and compression lists "twice, two empty language lists, byte 0, u32 0"
abbrev pub as_written : Tables → Offers
as_written t =
    record {
      kex = kex_list t;
      key = key_list t;
      client_cipher = cipher_list t;
      server_cipher = cipher_list t;
      client_mac = mac_list t;
      server_mac = mac_list t;
      client_compression = compression_list t;
      server_compression = compression_list t;
      client_languages = [];
      server_languages = [];
      follows = 0;
      reserved = 0;
    }

-- the payload; a list may be empty (docs/DIFFERENCES.md, R11)
unfoldable pub kex_init : Tables → List ℕ → List ℕ
kex_init t cookie = encoded cookie (as_written t)

-- "9 [..] a cookie not of 16 bytes"; 1 and 4 cannot occur, and 8 is the lent output's
unfoldable pub write_kex : Tables → List ℕ → Out (List ℕ)
write_kex t cookie = do
  _ ← guard 9 (valid t && eqb (length cookie) 16)
  done (kex_init t cookie)

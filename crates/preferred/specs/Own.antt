-- The lists that a side writes into its KEXINIT and chooses from, as rows of the name table and as names (document 01,
-- "KEXINIT"; src/negotiation.rs).
use Rattle.std.specs.Prelude.{List, [], ◌∷◌, ◌++◌, map, ℕ, ◌+◌, Result, Ok, Err}
use Rattle.answer.specs.declared.Cause.{Cause}
use Rattle.answer.specs.Refusal.{number}
use Rattle.answer.specs.Answer.{Out, done, refuse, pick}
use Rattle.names.specs.Tables.{first_row}
use Rattle.names.specs.declared.Kind.{Kind}
use Rattle.names.specs.declared.Kind.TheVariants.{Kex, Key, Certificate, Cipher, Mac, Compression}
use Rattle.choice.specs.declared.Side.{Side}
use Rattle.choice.specs.declared.Side.TheVariants.{Client, Server}
use Rattle.judging.specs.Tables.{Tables, valid}
use Rattle.filters.specs.Picked.{without, held, certificates}
use Rattle.filters.specs.Made.{row_list}
use Rattle.preferred.specs.declared.Own.{Own}

-- a number's row in the one table
abbrev pub rows : Kind → List ℕ → List ℕ
rows k ns = map (λ n. first_row k + n) ns

-- ext-info-c and kex-strict-c-v00@openssh.com; ext-info-s and kex-strict-s-v00@openssh.com
abbrev pub extensions : Side → List ℕ
extensions Client = 9 ∷ 11 ∷ []
extensions Server = 10 ∷ 12 ∷ []

abbrev pub strict_name : Side → ℕ
strict_name Client = 11
strict_name Server = 12

abbrev pub other : Side → Side
other Client = Server
other Server = Client

-- "A server's kex list drops ext-info-c and kex-strict-c; a client's drops the -s pair."
unfoldable pub written_kex : Tables → List ℕ
written_kex t = rows Kex (without (extensions (other t.side)) t.kex)

-- "For kex, the extension names are removed [..] first" from the own list (and from that alone: docs/DIFFERENCES.md, C1
-- and R24)
unfoldable pub chosen_kex : Tables → List ℕ
chosen_kex t = rows Kex (without (extensions Client ++ extensions Server) t.kex)

-- "Key list of a client: certificate names, then key names. Of a server: certificate names, then the preferred key names
-- whose kind it holds."
unfoldable pub keys_of : Side → List ℕ → List ℕ → List ℕ → List ℕ → List ℕ → List ℕ → List ℕ
keys_of Client key certificate key_kinds key_ids cert_kinds cert_ids = rows Certificate certificate ++ rows Key key
keys_of Server key certificate key_kinds key_ids cert_kinds cert_ids =
    rows Certificate (certificates [] key key_ids cert_kinds cert_ids) ++ rows Key (held key_kinds key)

abbrev pub key_of : Side → Tables → List ℕ
key_of side t = keys_of side t.key t.certificate t.key_kinds t.key_ids t.cert_kinds t.cert_ids

abbrev pub key_list_rows : Tables → List ℕ
key_list_rows t = key_of t.side t

unfoldable pub lists_of : Tables → Own
lists_of t =
    record {
      kex_written = row_list (written_kex t);
      kex_chosen = row_list (chosen_kex t);
      key = row_list (key_list_rows t);
      cipher = row_list (rows Cipher t.cipher);
      mac = row_list (rows Mac t.mac);
      compression = row_list (rows Compression t.compression);
    }

-- tables that are not valid are refused with 9: "A refusal returns its number and nothing else."
unfoldable pub own_of : Tables → Out Own
own_of t = pick (valid t) (done (lists_of t)) (refuse 9)

-- lists that nothing was put into
abbrev pub no_lists : Own
no_lists =
    record {
      kex_written = row_list [];
      kex_chosen = row_list [];
      key = row_list [];
      cipher = row_list [];
      mac = row_list [];
      compression = row_list [];
    }

-- what it means that lists were filled, or not
abbrev pub filled_own : Own → Result (Unit {0}) Cause → Out Own
filled_own own (Ok u) = done own
filled_own own (Err c) = refuse (number c)

-- The local tables, all lent (document 01, "Names and their numbers"), and when they are refused with 9.
use Rattle.std.specs.Prelude.{Bool, true, not, ◌&&◌, ◌||◌, List, [], ◌∷◌, ℕ, leb, ltb, eqb, length}
use Rattle.commas.specs.Cut.{every}
use Rattle.names.specs.Tables.{names_of}
use Rattle.names.specs.declared.Kind.{Kind}
use Rattle.names.specs.declared.Kind.TheVariants.{Kex, Key, Certificate, Cipher, Mac, Compression}
use Rattle.choice.specs.declared.Side.{Side}
use Rattle.choice.specs.declared.Side.TheVariants.{Client, Server}
use Rattle.judging.specs.declared.Tables.{Tables as Lent}

-- "Six preference lists of numbers (kex, key, client certificate, cipher, MAC, compression) [..]; a server also lends up
-- to 8 key rows (kind; identity number) and up to 8 certificate rows." Here such rows are key rows, and the two columns
-- that hold them a row table; a row alone is one of the name table.
pub record Tables : Type 0 where
  pub side : Side
  pub kex : List ℕ
  pub key : List ℕ
  pub certificate : List ℕ
  pub cipher : List ℕ
  pub mac : List ℕ
  pub compression : List ℕ
  pub key_kinds : List ℕ
  pub key_ids : List ℕ
  pub cert_kinds : List ℕ
  pub cert_ids : List ℕ

abbrev pub most_entries : ℕ
most_entries = 16

-- of each row table
abbrev pub most_key_rows : ℕ
most_key_rows = 8

-- Ed25519, P256, P384, P521, RSA
abbrev pub kinds : ℕ
kinds = 5

-- all of these hold
unfoldable pub all : List Bool → Bool
all [] = true
all (b ∷ bs) = b && all bs

-- no number is as high as the count
unfoldable pub below : ℕ → List ℕ → Bool
below count ns = every (λ n. ltb n count) ns

-- "each of 0 to 16 entries", and no "local number outside its table" (docs/DIFFERENCES.md, R11 and X5)
unfoldable pub good_list : Kind → List ℕ → Bool
good_list k ns = all (leb (length ns) most_entries ∷ below (length (names_of k)) ns ∷ [])

-- a row table: two columns of one length, up to 8 key rows, each of a kind that there is
unfoldable pub good_row_table : List ℕ → List ℕ → Bool
good_row_table ks ids = all (eqb (length ks) (length ids) ∷ leb (length ks) most_key_rows ∷ below kinds ks ∷ [])

-- what holds of each key row, by its kind and its identity
unfoldable pub each_key_row : (ℕ → ℕ → Bool) → List ℕ → List ℕ → Bool
each_key_row f [] ids = true
each_key_row f (k ∷ ks) [] = true
each_key_row f (k ∷ ks) (i ∷ ids) = f k i && each_key_row f ks ids

-- no key row of the second table has the identity of this one but another kind
unfoldable pub agrees : ℕ → ℕ → List ℕ → List ℕ → Bool
agrees k id ks ids = each_key_row (λ l i. not (eqb i id) || eqb l k) ks ids

-- no "two rows of equal identity but different kind", one of each table (docs/DIFFERENCES.md, X7)
unfoldable pub consistent : List ℕ → List ℕ → List ℕ → List ℕ → Bool
consistent ks ids ks' ids' = each_key_row (λ k i. agrees k i ks' ids') ks ids

-- the six preference lists
unfoldable pub good_lists : List ℕ → List ℕ → List ℕ → List ℕ → List ℕ → List ℕ → Bool
good_lists kex key certificate cipher mac compression =
    all
    (good_list Kex kex
    ∷ good_list Key key
    ∷ good_list Certificate certificate
    ∷ good_list Cipher cipher
    ∷ good_list Mac mac
    ∷ good_list Compression compression
    ∷ [])

-- the two row tables, each by itself and the one beside the other
unfoldable pub good_tables : List ℕ → List ℕ → List ℕ → List ℕ → Bool
good_tables keys ids certs ids' =
    all
    (good_row_table keys ids
    ∷ good_row_table certs ids'
    ∷ consistent keys ids keys ids
    ∷ consistent keys ids certs ids'
    ∷ consistent certs ids' certs ids'
    ∷ [])

-- "A client lends no rows."
unfoldable pub may_lend : Side → List ℕ → List ℕ → Bool
may_lend Client keys certs = eqb (length keys) 0 && eqb (length certs) 0
may_lend Server keys certs = true

-- what is not refused with 9 (docs/DIFFERENCES.md, X5)
unfoldable pub valid : Tables → Bool
valid t =
    all
    (good_lists t.kex t.key t.certificate t.cipher t.mac t.compression
    ∷ good_tables t.key_kinds t.key_ids t.cert_kinds t.cert_ids
    ∷ may_lend t.side t.key_kinds t.cert_kinds
    ∷ [])

-- the tables as the code is lent them
abbrev pub lent : Lent → Tables
lent t =
    record {
      side = t.side;
      kex = t.kex.now;
      key = t.key.now;
      certificate = t.certificate.now;
      cipher = t.cipher.now;
      mac = t.mac.now;
      compression = t.compression.now;
      key_kinds = t.key_kinds.now;
      key_ids = t.key_ids.now;
      cert_kinds = t.cert_kinds.now;
      cert_ids = t.cert_ids.now;
    }

-- the same, by its columns
abbrev pub tables : Side → List ℕ → List ℕ → List ℕ → List ℕ → List ℕ → List ℕ → List ℕ → List ℕ → List ℕ → List ℕ → Tables
tables side kex key certificate cipher mac compression key_kinds key_ids cert_kinds cert_ids =
    record {
      side = side;
      kex = kex;
      key = key;
      certificate = certificate;
      cipher = cipher;
      mac = mac;
      compression = compression;
      key_kinds = key_kinds;
      key_ids = key_ids;
      cert_kinds = cert_kinds;
      cert_ids = cert_ids;
    }

-- Number 9 at each limit from both sides (document 01, "Local tables" and row 9 of the numbers): tables that are taken, and
-- beside them tables that differ in the one thing that is refused.
use Rattle.std.specs.Prelude.{false, List, [], ◌∷◌, ◌++◌, ℕ, replicate}
use Rattle.choice.specs.declared.Side.{Side}
use Rattle.choice.specs.declared.Side.TheVariants.{Client, Server}
use Rattle.judging.specs.Tables.{Tables, tables}
use Rattle.negotiation.specs.Written.{write_kex}
use Rattle.negotiation.specs.Read.{read_kex}
use Rattle.tried.specs.Row.{Row, row}
use Rattle.tried.specs.Trials.{refuses, refuses_at, gives, answered, cookie}

-- tables put to the writer, whatever it then writes
abbrev judged : Tables → List ℕ
judged t = answered (λ (p : List ℕ). gives []) (write_kex t cookie)

abbrev taken : List ℕ
taken = gives []

abbrev bad : List ℕ
bad = refuses 9

-- a client with these lists: kex, key, certificate, cipher, MAC, compression
abbrev lists : List ℕ → List ℕ → List ℕ → List ℕ → List ℕ → List ℕ → List ℕ
lists kex key certificate cipher mac compression =
    judged (tables Client kex key certificate cipher mac compression [] [] [] [])

-- a side with these rows: the key rows' kinds and identities, then the certificate rows'
abbrev rows_at : Side → List ℕ → List ℕ → List ℕ → List ℕ → List ℕ
rows_at side key_kinds key_ids cert_kinds cert_ids = judged (tables side [] [] [] [] [] [] key_kinds key_ids cert_kinds cert_ids)

-- n entries
abbrev zeros : ℕ → List ℕ
zeros n = replicate n 0

-- "each of 0 to 16 entries, repeats allowed"
unfoldable pub entry_rows : List Row
entry_rows =
    row "no entry in any list" (lists [] [] [] [] [] []) taken
    ∷ row "16 in each" (lists (zeros 16) (zeros 16) (zeros 16) (zeros 16) (zeros 16) (zeros 16)) taken
    ∷ row "17 kex numbers" (lists (zeros 17) [] [] [] [] []) bad
    ∷ row "17 key numbers" (lists [] (zeros 17) [] [] [] []) bad
    ∷ row "17 certificate numbers" (lists [] [] (zeros 17) [] [] []) bad
    ∷ row "17 cipher numbers" (lists [] [] [] (zeros 17) [] []) bad
    ∷ row "17 MAC numbers" (lists [] [] [] [] (zeros 17) []) bad
    ∷ row "17 compression numbers" (lists [] [] [] [] [] (zeros 17)) bad
    ∷ []

-- "a local number outside its table": 13 kex names, 7 keys, 7 certificates, 11 ciphers, 5 MACs, 1 compression
unfoldable pub number_rows : List Row
number_rows =
    row "the last number of each kind" (lists (12 ∷ []) (6 ∷ []) (6 ∷ []) (10 ∷ []) (4 ∷ []) (0 ∷ [])) taken
    ∷ row "kex 13" (lists (13 ∷ []) [] [] [] [] []) bad
    ∷ row "key 7" (lists [] (7 ∷ []) [] [] [] []) bad
    ∷ row "certificate 7" (lists [] [] (7 ∷ []) [] [] []) bad
    ∷ row "cipher 11" (lists [] [] [] (11 ∷ []) [] []) bad
    ∷ row "MAC 5" (lists [] [] [] [] (5 ∷ []) []) bad
    ∷ row "compression 1" (lists [] [] [] [] [] (1 ∷ [])) bad
    ∷ row "kex 13 after 12" (lists (12 ∷ 13 ∷ []) [] [] [] [] []) bad
    ∷ []

-- "up to 8 key rows [..] and up to 8 certificate rows"; "kind: Ed25519, P256, P384, P521 or RSA"; columns of one length
unfoldable pub column_rows : List Row
column_rows =
    row "a server without rows" (rows_at Server [] [] [] []) taken
    ∷ row "8 key rows and 8 certificate rows" (rows_at Server (zeros 8) (zeros 8) (zeros 8) (zeros 8)) taken
    ∷ row "9 key rows" (rows_at Server (zeros 9) (zeros 9) [] []) bad
    ∷ row "9 certificate rows" (rows_at Server [] [] (zeros 9) (zeros 9)) bad
    ∷ row "kind 4 in both" (rows_at Server (4 ∷ []) (1 ∷ []) (4 ∷ []) (1 ∷ [])) taken
    ∷ row "a key row of kind 5" (rows_at Server (5 ∷ []) (1 ∷ []) [] []) bad
    ∷ row "a certificate row of kind 5" (rows_at Server [] [] (5 ∷ []) (1 ∷ [])) bad
    ∷ row "a key row without an identity" (rows_at Server (0 ∷ 1 ∷ []) (1 ∷ []) [] []) bad
    ∷ row "a key row without a kind" (rows_at Server (0 ∷ []) (1 ∷ 2 ∷ []) [] []) bad
    ∷ row "a certificate row without an identity" (rows_at Server [] [] (0 ∷ 1 ∷ []) (1 ∷ [])) bad
    ∷ row "a certificate row without a kind" (rows_at Server [] [] (0 ∷ []) (1 ∷ 2 ∷ [])) bad
    ∷ []

-- "two rows of equal identity but different kind"
unfoldable pub identity_rows : List Row
identity_rows =
    row "keys: one identity, one kind" (rows_at Server (2 ∷ 2 ∷ []) (7 ∷ 7 ∷ []) [] []) taken
    ∷ row "keys: two identities, two kinds" (rows_at Server (2 ∷ 3 ∷ []) (7 ∷ 8 ∷ []) [] []) taken
    ∷ row "keys: one identity, two kinds" (rows_at Server (2 ∷ 3 ∷ []) (7 ∷ 7 ∷ []) [] []) bad
    ∷ row "certificates: one identity, one kind" (rows_at Server [] [] (2 ∷ 2 ∷ []) (7 ∷ 7 ∷ [])) taken
    ∷ row "certificates: two identities, two kinds" (rows_at Server [] [] (2 ∷ 3 ∷ []) (7 ∷ 8 ∷ [])) taken
    ∷ row "certificates: one identity, two kinds" (rows_at Server [] [] (2 ∷ 3 ∷ []) (7 ∷ 7 ∷ [])) bad
    ∷ row "a key and a certificate: one identity, one kind" (rows_at Server (2 ∷ []) (7 ∷ []) (2 ∷ []) (7 ∷ [])) taken
    ∷ row "a key and a certificate: two identities, two kinds" (rows_at Server (2 ∷ []) (7 ∷ []) (3 ∷ []) (8 ∷ [])) taken
    ∷ row "a key and a certificate: one identity, two kinds" (rows_at Server (2 ∷ []) (7 ∷ []) (3 ∷ []) (7 ∷ [])) bad
    ∷ []

-- "A client lends no rows."
unfoldable pub client_rows : List Row
client_rows =
    row "a client without rows" (rows_at Client [] [] [] []) taken
    ∷ row "a client with a key row" (rows_at Client (0 ∷ []) (1 ∷ []) [] []) bad
    ∷ row "a server with it" (rows_at Server (0 ∷ []) (1 ∷ []) [] []) taken
    ∷ row "a client with a certificate row" (rows_at Client [] [] (0 ∷ []) (1 ∷ [])) bad
    ∷ row "a server with it" (rows_at Server [] [] (0 ∷ []) (1 ∷ [])) taken
    ∷ row "a client with a key's identity alone" (rows_at Client [] (1 ∷ []) [] []) bad
    ∷ row "a client with a certificate's identity alone" (rows_at Client [] [] [] (1 ∷ [])) bad
    ∷ []

-- "a cookie not of 16 bytes"
abbrev with_cookie : ℕ → List ℕ
with_cookie n = answered (λ (p : List ℕ). gives []) (write_kex (tables Client [] [] [] [] [] [] [] [] [] []) (zeros n))

unfoldable pub cookie_rows : List Row
cookie_rows =
    row "a cookie of 15" (with_cookie 15) bad
    ∷ row "of 16" (with_cookie 16) taken
    ∷ row "of 17" (with_cookie 17) bad
    ∷ []

-- The reader judges the same tables, before it looks at the payload: 9 before 6.
abbrev read_with : Side → List ℕ → List ℕ
read_with side kex = answered (λ n. gives []) (read_kex (tables side kex [] [] [] [] [] [] [] [] []) false [])

unfoldable pub reader_rows : List Row
reader_rows =
    row "an empty payload read with kex 12" (read_with Client (12 ∷ [])) (refuses_at 6 0)
    ∷ row "with kex 13" (read_with Client (13 ∷ [])) (refuses_at 9 0)
    ∷ row "by a server with kex 13" (read_with Server (13 ∷ [])) (refuses_at 9 0)
    ∷ []

abbrev pub table_rows : List Row
table_rows = entry_rows ++ (number_rows ++ (column_rows ++ (identity_rows ++ (client_rows ++ (cookie_rows ++ reader_rows)))))

-- P1 to P12 of document 01, "Tried bytes", as one table: what was tried, and document 01's answer, a refusal with the offset
-- of document 02's No. 6. Each answer that a constant could give has its contrast beside it.
use Rattle.std.specs.Prelude.{List, [], ◌∷◌, ◌++◌, ℕ, replicate}
use Rattle.text.specs.Literal.{bytes}
use Rattle.negotiation.specs.Written.{kex_init}
use Rattle.tried.specs.Row.{Row, row}
use Rattle.tried.specs.Trials.{refuses_at, needs, gives, writes, reads, opens, client, server, cookie, kex_init_of, settles_macs, ignores_guess}

-- P10's body: `session`, 0, 2097152 and a maximum packet of 256 times m; then what follows
abbrev pub session : ℕ → List ℕ → List ℕ
session m more =
    0x00 ∷ 0x00 ∷ 0x00 ∷ 0x07 ∷ 0x73 ∷ 0x65 ∷ 0x73 ∷ 0x73 ∷ 0x69 ∷ 0x6F ∷ 0x6E
    ∷ 0x00 ∷ 0x00 ∷ 0x00 ∷ 0x00
    ∷ 0x00 ∷ 0x20 ∷ 0x00 ∷ 0x00
    ∷ 0x00 ∷ 0x00 ∷ m ∷ 0x00
    ∷ more

-- the numbers of aes128-ctr, chacha20, curve25519-sha256; of the MACs none, hmac-sha2-512, hmac-sha2-256
abbrev ctr : List ℕ
ctr = 2 ∷ []

abbrev chacha20 : List ℕ
chacha20 = 10 ∷ []

abbrev curve : List ℕ
curve = 1 ∷ []

abbrev none_first : List ℕ
none_first = 0 ∷ 4 ∷ []

abbrev none_last : List ℕ
none_last = 4 ∷ 0 ∷ []

-- what a client and a server with these ciphers and these MACs each make of the other's KEXINIT
abbrev at_client : List ℕ → List ℕ → List ℕ → List ℕ
at_client cipher mac mac' = settles_macs (client curve cipher mac) (kex_init (server curve cipher mac') cookie)

abbrev at_server : List ℕ → List ℕ → List ℕ → List ℕ
at_server cipher mac mac' = settles_macs (server curve cipher mac') (kex_init (client curve cipher mac) cookie)

-- P12's client, by its kex names and its follows byte, at P12's server; the one key name is the first of both lists
abbrev guessed : List (List ℕ) → ℕ → List ℕ
guessed kex follows =
    ignores_guess (server curve chacha20 (4 ∷ []))
    (kex_init_of kex (bytes "ssh-ed25519" ∷ []) (bytes "chacha20-poly1305@openssh.com" ∷ []) (bytes "hmac-sha2-256" ∷ [])
    (bytes "none" ∷ []) follows)

-- The table, in parts that are each small enough for the check to show a wrong row.
unfoldable pub packet_rows : List Row
packet_rows =
    row "P1: payload 0: padding 11, total 16" (writes 0) (gives (11 ∷ 16 ∷ []))
    ∷ row "P2: payload 7: 4, 16" (writes 7) (gives (4 ∷ 16 ∷ []))
    ∷ row "P3: payload 8: 11, 24" (writes 8) (gives (11 ∷ 24 ∷ []))
    ∷ row "P4: 00 00 00 01 01: end 4, payload 0, takes 5" (reads (0 ∷ 0 ∷ 0 ∷ 1 ∷ 1 ∷ [])) (gives (4 ∷ 0 ∷ 5 ∷ []))
    ∷ row "P5: 00 00 00 01 02: 7" (reads (0 ∷ 0 ∷ 0 ∷ 1 ∷ 2 ∷ [])) (refuses_at 7 4)
    ∷ row "P6: 00 00 00 00: end 4, takes 4" (reads (0 ∷ 0 ∷ 0 ∷ 0 ∷ [])) (gives (4 ∷ 0 ∷ 4 ∷ []))
    ∷ row "P7: 00 04 00 21 alone: need 262181" (reads (0x00 ∷ 0x04 ∷ 0x00 ∷ 0x21 ∷ [])) (needs 262181)
    ∷ row "P8: 00 04 00 22: 4" (reads (0x00 ∷ 0x04 ∷ 0x00 ∷ 0x22 ∷ [])) (refuses_at 4 0)
    ∷ []

unfoldable pub short_rows : List Row
short_rows =
    row "P9: KEXINIT of 16 bytes: 6" (settles_macs (server curve ctr none_last) (20 ∷ replicate 15 7)) (refuses_at 6 0)
    ∷ row "P9: of 17: 2" (settles_macs (server curve ctr none_last) (20 ∷ replicate 16 7)) (refuses_at 2 17)
    ∷ row "P10: 23 bytes: accepted" (opens (session 0x80 [])) (gives (1 ∷ 0 ∷ 2097152 ∷ 32768 ∷ []))
    ∷ row "P10: with a byte more: 5" (opens (session 0x80 (0 ∷ []))) (refuses_at 5 23)
    ∷ row "P10: that with maximum 0: 6" (opens (session 0x00 (0 ∷ []))) (refuses_at 6 19)
    ∷ []

-- the client-to-server MAC list stands at 81: 17, and 4 + 17 of kex, 4 + 11 of key, 4 + 10 of each cipher list
unfoldable pub ctr_rows : List Row
ctr_rows =
    row "P11: aes128-ctr: 13, at the client" (at_client ctr none_first none_last) (refuses_at 13 81)
    ∷ row "P11: aes128-ctr: 13, at the server" (at_server ctr none_first none_last) (refuses_at 13 81)
    ∷ []

unfoldable pub chacha20_rows : List Row
chacha20_rows =
    row "P11: chacha20: none, at the client" (at_client chacha20 none_first none_last) (gives (0 ∷ 0 ∷ []))
    ∷ row "P11: chacha20: none, at the server" (at_server chacha20 none_first none_last) (gives (0 ∷ 0 ∷ []))
    ∷ []

-- P11's contrast: the client's list the other way round
unfoldable pub reversed_rows : List Row
reversed_rows =
    row "P11 reversed: hmac-sha2-256, at the client" (at_client ctr none_last none_first) (gives (4 ∷ 4 ∷ []))
    ∷ row "P11 reversed: hmac-sha2-256, at the server" (at_server ctr none_last none_first) (gives (4 ∷ 4 ∷ []))
    ∷ []

-- "MAC: no shared name gives `none` if the cipher needs no MAC, else 13"
unfoldable pub unshared_rows : List Row
unshared_rows =
    row "no shared MAC, aes128-ctr: 13" (at_server ctr (4 ∷ []) (3 ∷ [])) (refuses_at 13 81)
    ∷ row "no shared MAC, chacha20: none" (at_server chacha20 (4 ∷ []) (3 ∷ [])) (gives (0 ∷ 0 ∷ []))
    ∷ []

-- Document 01 says "does not" of the second list, and lets src/kex/mod.rs decide: the answer turns (docs/DIFFERENCES.md, C1).
unfoldable pub ignored_rows : List Row
ignored_rows =
    row "P12: foo,curve25519-sha256: ignored" (guessed (bytes "foo" ∷ bytes "curve25519-sha256" ∷ []) 1) (gives (1 ∷ []))
    ∷ row "P12: ext-info-c,curve25519-sha256: ignored" (guessed (bytes "ext-info-c" ∷ bytes "curve25519-sha256" ∷ []) 1) (gives (1 ∷ []))
    ∷ []

-- P12's contrasts
unfoldable pub kept_rows : List Row
kept_rows =
    row "P12: curve25519-sha256 first on both: kept" (guessed (bytes "curve25519-sha256" ∷ []) 1) (gives (0 ∷ []))
    ∷ row "P12: foo,curve25519-sha256, follows 0: kept" (guessed (bytes "foo" ∷ bytes "curve25519-sha256" ∷ []) 0) (gives (0 ∷ []))
    ∷ []

abbrev pub rows : List Row
rows = packet_rows ++ (short_rows ++ (ctr_rows ++ (chacha20_rows ++ (reversed_rows ++ (unshared_rows ++ (ignored_rows ++ kept_rows))))))

-- Where a KEXINIT is refused (document 02, No. 6), on document 01's of 182 bytes: it cut before and behind each field's first
-- byte, and with one list changed. Lengths and offsets are counted by hand.
use Rattle.std.specs.Prelude.{false, List, [], ◌∷◌, ◌++◌, ℕ, take, replicate}
use Prim.Native.String.{String}
use Rattle.text.specs.Literal.{bytes}
use Rattle.negotiation.specs.Read.{read_kex}
use Rattle.tried.specs.Row.{Row, row}
use Rattle.tried.specs.Trials.{refuses_at, gives, answered, server, cookie}

-- a string of n bytes, n under 256
abbrev pub field : ℕ → String → List ℕ
field n s = 0 ∷ 0 ∷ 0 ∷ n ∷ bytes s

-- a list that is the one byte FF
abbrev pub high_field : List ℕ
high_field = 0 ∷ 0 ∷ 0 ∷ 1 ∷ 0xFF ∷ []

-- the fields of document 01's KEXINIT: kex at 17, key at 38; with chacha20 its ciphers at 53 and 86, its MACs at 119 and 136
abbrev front : List ℕ
front = 20 ∷ cookie

abbrev curve : List ℕ
curve = field 17 "curve25519-sha256"

abbrev ed25519 : List ℕ
ed25519 = field 11 "ssh-ed25519"

abbrev chacha20 : List ℕ
chacha20 = field 29 "chacha20-poly1305@openssh.com"

abbrev ctr : List ℕ
ctr = field 10 "aes128-ctr"

abbrev hmac : List ℕ
hmac = field 13 "hmac-sha2-256"

abbrev no_name : List ℕ
no_name = field 4 "none"

abbrev foo : List ℕ
foo = field 3 "foo"

-- the languages at 169 and 173, follows at 177, reserved at 178
abbrev back : List ℕ
back = replicate 13 0

-- up to 53, 86, 119 and 153
abbrev names : List ℕ
names = front ++ (curve ++ ed25519)

abbrev one_cipher : List ℕ
one_cipher = names ++ chacha20

abbrev ciphers : List ℕ
ciphers = one_cipher ++ chacha20

abbrev macs : List ℕ
macs = ciphers ++ (hmac ++ hmac)

-- up to 169
abbrev lists : List ℕ
lists = macs ++ (no_name ++ no_name)

abbrev whole : List ℕ
whole = lists ++ back

-- a server with curve25519-sha256, an Ed25519 key, the cipher of that number, hmac-sha2-256 and none
abbrev read_with : ℕ → List ℕ → List ℕ
read_with cipher p = answered (λ n. gives []) (read_kex (server (1 ∷ []) (cipher ∷ []) (4 ∷ [])) false p)

abbrev reads : List ℕ → List ℕ
reads p = read_with 10 p

-- the first n bytes
abbrev cut : String → ℕ → List ℕ → Row
cut what n expected = row what (reads (take n whole)) expected

unfoldable pub cut_front_rows : List Row
cut_front_rows =
    cut "cut to 16" 16 (refuses_at 6 0)
    ∷ cut "to 17: no kex list" 17 (refuses_at 2 17)
    ∷ cut "to 20: not even its length" 20 (refuses_at 2 17)
    ∷ cut "to 21: nothing but its length" 21 (refuses_at 2 17)
    ∷ cut "to 37: it lacks a byte" 37 (refuses_at 2 17)
    ∷ cut "to 38: no key list" 38 (refuses_at 2 38)
    ∷ cut "to 41" 41 (refuses_at 2 38)
    ∷ cut "to 52" 52 (refuses_at 2 38)
    ∷ cut "to 53: no cipher list" 53 (refuses_at 2 53)
    ∷ cut "to 85" 85 (refuses_at 2 53)
    ∷ []

unfoldable pub cut_cipher_rows : List Row
cut_cipher_rows =
    cut "to 86: no second cipher list" 86 (refuses_at 2 86)
    ∷ cut "to 118" 118 (refuses_at 2 86)
    ∷ cut "to 119: no MAC list" 119 (refuses_at 2 119)
    ∷ cut "to 135" 135 (refuses_at 2 119)
    ∷ cut "to 136: no second MAC list" 136 (refuses_at 2 136)
    ∷ cut "to 152" 152 (refuses_at 2 136)
    ∷ []

unfoldable pub cut_compression_rows : List Row
cut_compression_rows =
    cut "to 153: no compression list" 153 (refuses_at 2 153)
    ∷ cut "to 160" 160 (refuses_at 2 153)
    ∷ cut "to 161: no second compression list" 161 (refuses_at 2 161)
    ∷ cut "to 168" 168 (refuses_at 2 161)
    ∷ cut "to 169: no language list" 169 (refuses_at 2 169)
    ∷ cut "to 172" 172 (refuses_at 2 169)
    ∷ []

unfoldable pub cut_back_rows : List Row
cut_back_rows =
    cut "to 173: no second language list" 173 (refuses_at 2 173)
    ∷ cut "to 176" 176 (refuses_at 2 173)
    ∷ cut "to 177: no follows byte" 177 (refuses_at 2 177)
    ∷ cut "to 178: no reserved word" 178 (refuses_at 2 178)
    ∷ cut "to 181" 181 (refuses_at 2 178)
    ∷ cut "to 182: the whole" 182 (gives [])
    ∷ row "and a byte more" (reads (whole ++ (0 ∷ []))) (refuses_at 5 182)
    ∷ row "and two" (reads (whole ++ (0 ∷ 0 ∷ []))) (refuses_at 5 182)
    ∷ []

-- one name of so many bytes is not ours, and a list may have 16,384
unfoldable pub long_list_rows : List Row
long_list_rows =
    row "kex of 16,384 bytes" (reads (front ++ (0 ∷ 0 ∷ 0x40 ∷ 0x00 ∷ replicate 16384 97))) (refuses_at 10 17)
    ∷ row "of 16,385" (reads (front ++ (0 ∷ 0 ∷ 0x40 ∷ 0x01 ∷ replicate 16385 97))) (refuses_at 2 17)
    ∷ []

-- A bad or unknown name is refused where its list stands, not where it stands itself.
unfoldable pub name_rows : List Row
name_rows =
    row "kex `foo`" (reads (front ++ foo)) (refuses_at 10 17)
    ∷ row "kex `a,,b`" (reads (front ++ field 4 "a,,b")) (refuses_at 3 17)
    ∷ row "kex FF" (reads (front ++ high_field)) (refuses_at 3 17)
    ∷ row "key `foo`" (reads (front ++ (curve ++ foo))) (refuses_at 11 38)
    ∷ row "key `ssh-ed25519,,`" (reads (front ++ (curve ++ field 13 "ssh-ed25519,,"))) (refuses_at 3 38)
    ∷ row "cipher `foo`" (reads (names ++ foo)) (refuses_at 12 53)
    ∷ row "cipher FF" (reads (names ++ high_field)) (refuses_at 3 53)
    ∷ row "the second cipher FF" (reads (one_cipher ++ high_field)) (refuses_at 3 86)
    ∷ []

unfoldable pub mac_rows : List Row
mac_rows =
    row "MAC FF" (reads (ciphers ++ high_field)) (refuses_at 3 119)
    ∷ row "the second MAC FF" (reads (ciphers ++ (hmac ++ high_field))) (refuses_at 3 136)
    ∷ row "aes128-ctr, MAC `none`" (read_with 2 (names ++ (ctr ++ (ctr ++ no_name)))) (refuses_at 13 81)
    ∷ row "aes128-ctr, the second MAC `none`" (read_with 2 (names ++ (ctr ++ (ctr ++ (hmac ++ no_name))))) (refuses_at 13 98)
    ∷ []

unfoldable pub compression_rows : List Row
compression_rows =
    row "compression `zlib`, both" (reads (macs ++ (field 4 "zlib" ++ field 4 "zlib"))) (refuses_at 14 153)
    ∷ row "the second `zlib`" (reads (macs ++ (no_name ++ field 4 "zlib"))) (refuses_at 14 161)
    ∷ row "a language FF" (reads (lists ++ high_field)) (refuses_at 3 169)
    ∷ row "the second language FF" (reads (lists ++ (field 0 "" ++ high_field))) (refuses_at 3 173)
    ∷ []

abbrev pub kex_offset_rows : List Row
kex_offset_rows = cut_front_rows ++ (cut_cipher_rows ++ (cut_compression_rows ++ (cut_back_rows ++ (long_list_rows ++ (name_rows ++ (mac_rows ++ compression_rows))))))

-- Every spelling of document 01 ("Names and their numbers") as a literal beside its number, both ways; and the columns of
-- the ciphers, by name.
use Rattle.std.specs.Prelude.{List, [], ◌∷◌, ◌++◌, ℕ}
use Rattle.std.proofs.Math.Option.{Option, some, none}
use Prim.Native.String.{String}
use Rattle.answer.specs.Answer.{done, ◌>>=◌}
use Rattle.text.specs.Literal.{bytes}
use Rattle.names.specs.declared.Kind.{Kind}
use Rattle.names.specs.declared.Kind.TheVariants.{Kex, Key, Certificate, Cipher, Mac, Compression}
use Rattle.names.specs.Spelled.{spelled, needs_mac, built_in_integrity}
use Rattle.names.specs.Lookup.{number_of}
use Rattle.tried.specs.Row.{Row, row}
use Rattle.tried.specs.Trials.{refuses, gives, answered, flag}

-- a number's name
abbrev spells : Kind → ℕ → List ℕ
spells k n = answered (λ (name : List ℕ). gives name) (spelled k n)

-- a name's number, or nothing
abbrev of_found : Option ℕ → List ℕ
of_found none = gives []
of_found (some n) = gives (n ∷ [])

abbrev finds : Kind → String → List ℕ
finds k name = of_found (number_of k (bytes name))

-- one name: the number gives it, and it gives the number
abbrev named : Kind → ℕ → String → Row
named k n name = row name (spells k n ++ finds k name) (gives (bytes name) ++ gives (n ∷ []))

unfoldable pub kex_rows : List Row
kex_rows =
    named Kex 0 "mlkem768x25519-sha256"
    ∷ named Kex 1 "curve25519-sha256"
    ∷ named Kex 2 "curve25519-sha256@libssh.org"
    ∷ named Kex 3 "diffie-hellman-group-exchange-sha256"
    ∷ named Kex 4 "diffie-hellman-group18-sha512"
    ∷ named Kex 5 "diffie-hellman-group17-sha512"
    ∷ named Kex 6 "diffie-hellman-group16-sha512"
    ∷ named Kex 7 "diffie-hellman-group15-sha512"
    ∷ named Kex 8 "diffie-hellman-group14-sha256"
    ∷ named Kex 9 "ext-info-c"
    ∷ named Kex 10 "ext-info-s"
    ∷ named Kex 11 "kex-strict-c-v00@openssh.com"
    ∷ named Kex 12 "kex-strict-s-v00@openssh.com"
    ∷ row "kex 13: 9" (spells Kex 13) (refuses 9)
    ∷ row "kex `none`: unknown" (finds Kex "none") (gives [])
    ∷ []

unfoldable pub key_name_rows : List Row
key_name_rows =
    named Key 0 "ssh-ed25519"
    ∷ named Key 1 "ecdsa-sha2-nistp256"
    ∷ named Key 2 "ecdsa-sha2-nistp384"
    ∷ named Key 3 "ecdsa-sha2-nistp521"
    ∷ named Key 4 "rsa-sha2-512"
    ∷ named Key 5 "rsa-sha2-256"
    ∷ named Key 6 "ssh-rsa"
    ∷ row "key 7: 9" (spells Key 7) (refuses 9)
    ∷ row "key `ssh-dss`: unknown" (finds Key "ssh-dss") (gives [])
    ∷ row "a certificate's name is no key's" (finds Key "ssh-rsa-cert-v01@openssh.com") (gives [])
    ∷ []

unfoldable pub certificate_rows : List Row
certificate_rows =
    named Certificate 0 "ssh-ed25519-cert-v01@openssh.com"
    ∷ named Certificate 1 "ecdsa-sha2-nistp256-cert-v01@openssh.com"
    ∷ named Certificate 2 "ecdsa-sha2-nistp384-cert-v01@openssh.com"
    ∷ named Certificate 3 "ecdsa-sha2-nistp521-cert-v01@openssh.com"
    ∷ named Certificate 4 "rsa-sha2-512-cert-v01@openssh.com"
    ∷ named Certificate 5 "rsa-sha2-256-cert-v01@openssh.com"
    ∷ named Certificate 6 "ssh-rsa-cert-v01@openssh.com"
    ∷ row "certificate 7: 9" (spells Certificate 7) (refuses 9)
    ∷ row "a key's name is no certificate's" (finds Certificate "ssh-rsa") (gives [])
    ∷ []

unfoldable pub cipher_rows : List Row
cipher_rows =
    named Cipher 0 "clear"
    ∷ named Cipher 1 "none"
    ∷ named Cipher 2 "aes128-ctr"
    ∷ named Cipher 3 "aes192-ctr"
    ∷ named Cipher 4 "aes256-ctr"
    ∷ named Cipher 5 "aes128-gcm@openssh.com"
    ∷ named Cipher 6 "aes256-gcm@openssh.com"
    ∷ named Cipher 7 "aes128-cbc"
    ∷ named Cipher 8 "aes192-cbc"
    ∷ named Cipher 9 "aes256-cbc"
    ∷ named Cipher 10 "chacha20-poly1305@openssh.com"
    ∷ row "cipher 11: 9" (spells Cipher 11) (refuses 9)
    ∷ row "cipher `3des-cbc`: unknown" (finds Cipher "3des-cbc") (gives [])
    ∷ []

unfoldable pub mac_rows : List Row
mac_rows =
    named Mac 0 "none"
    ∷ named Mac 1 "hmac-sha2-512-etm@openssh.com"
    ∷ named Mac 2 "hmac-sha2-256-etm@openssh.com"
    ∷ named Mac 3 "hmac-sha2-512"
    ∷ named Mac 4 "hmac-sha2-256"
    ∷ row "MAC 5: 9" (spells Mac 5) (refuses 9)
    ∷ row "MAC `hmac-sha1`: unknown" (finds Mac "hmac-sha1") (gives [])
    ∷ named Compression 0 "none"
    ∷ row "compression 1: 9" (spells Compression 1) (refuses 9)
    ∷ row "compression `zlib`: unknown" (finds Compression "zlib") (gives [])
    ∷ []

-- a cipher by its number: whether it needs a MAC, whether it has integrity built in
abbrev columns : ℕ → List ℕ
columns n = answered (λ (values : List ℕ). gives values) do
  need ← needs_mac n
  integrity ← built_in_integrity n
  done (flag need ∷ flag integrity ∷ [])

-- and by its name
abbrev of_cipher : Option ℕ → List ℕ
of_cipher none = gives []
of_cipher (some n) = columns n

abbrev cipher : String → List ℕ → Row
cipher name expected = row name (of_cipher (number_of Cipher (bytes name))) (gives expected)

abbrev neither : List ℕ
neither = 0 ∷ 0 ∷ []

abbrev needs : List ℕ
needs = 1 ∷ 0 ∷ []

abbrev built_in : List ℕ
built_in = 0 ∷ 1 ∷ []

-- "The ctr and cbc names need a MAC; the others do not, and of those gcm and chacha20 have built-in integrity."
unfoldable pub cipher_column_rows : List Row
cipher_column_rows =
    cipher "clear" neither
    ∷ cipher "none" neither
    ∷ cipher "aes128-ctr" needs
    ∷ cipher "aes192-ctr" needs
    ∷ cipher "aes256-ctr" needs
    ∷ cipher "aes128-gcm@openssh.com" built_in
    ∷ cipher "aes256-gcm@openssh.com" built_in
    ∷ cipher "aes128-cbc" needs
    ∷ cipher "aes192-cbc" needs
    ∷ cipher "aes256-cbc" needs
    ∷ cipher "chacha20-poly1305@openssh.com" built_in
    ∷ row "cipher 11: 9" (columns 11) (refuses 9)
    ∷ []

abbrev pub name_rows : List Row
name_rows = kex_rows ++ (key_name_rows ++ (certificate_rows ++ (cipher_rows ++ (mac_rows ++ cipher_column_rows))))

-- The names of document 01, "Names and their numbers": a name's number is its place in its kind, from 0. The Rust's other
-- names, and those that RFC 4253 requires, are unknown here (docs/DIFFERENCES.md, X8, R27).
use Rattle.std.specs.Prelude.{Bool, true, false, ◌&&◌, ◌||◌, List, [], ◌∷◌, ◌++◌, map, ℕ, eqb}
pub use Rattle.text.specs.Literal.{bytes}
use Rattle.names.specs.declared.Kind.{Kind}
use Rattle.names.specs.declared.Kind.TheVariants.{Kex, Key, Certificate, Cipher, Mac, Compression}

unfoldable pub kex_names : List (List ℕ)
kex_names =
    bytes "mlkem768x25519-sha256"
    ∷ bytes "curve25519-sha256"
    ∷ bytes "curve25519-sha256@libssh.org"
    ∷ bytes "diffie-hellman-group-exchange-sha256"
    ∷ bytes "diffie-hellman-group18-sha512"
    ∷ bytes "diffie-hellman-group17-sha512"
    ∷ bytes "diffie-hellman-group16-sha512"
    ∷ bytes "diffie-hellman-group15-sha512"
    ∷ bytes "diffie-hellman-group14-sha256"
    ∷ bytes "ext-info-c"
    ∷ bytes "ext-info-s"
    ∷ bytes "kex-strict-c-v00@openssh.com"
    ∷ bytes "kex-strict-s-v00@openssh.com"
    ∷ []

unfoldable pub key_names : List (List ℕ)
key_names =
    bytes "ssh-ed25519"
    ∷ bytes "ecdsa-sha2-nistp256"
    ∷ bytes "ecdsa-sha2-nistp384"
    ∷ bytes "ecdsa-sha2-nistp521"
    ∷ bytes "rsa-sha2-512"
    ∷ bytes "rsa-sha2-256"
    ∷ bytes "ssh-rsa"
    ∷ []

-- "The certificate name is the key name followed by -cert-v01@openssh.com."
unfoldable pub certificate_names : List (List ℕ)
unfolding key_names
certificate_names = map (λ name. name ++ bytes "-cert-v01@openssh.com") key_names

-- `clear` is no name of an RFC (R26)
unfoldable pub cipher_names : List (List ℕ)
cipher_names =
    bytes "clear"
    ∷ bytes "none"
    ∷ bytes "aes128-ctr"
    ∷ bytes "aes192-ctr"
    ∷ bytes "aes256-ctr"
    ∷ bytes "aes128-gcm@openssh.com"
    ∷ bytes "aes256-gcm@openssh.com"
    ∷ bytes "aes128-cbc"
    ∷ bytes "aes192-cbc"
    ∷ bytes "aes256-cbc"
    ∷ bytes "chacha20-poly1305@openssh.com"
    ∷ []

-- a word stands in a name: at its very start, or further on
abbrev pub opens : List ℕ → List ℕ → Bool
opens [] s = true
opens (a ∷ w) [] = false
opens (a ∷ w) (b ∷ s) = eqb a b && opens w s

abbrev pub has : List ℕ → List ℕ → Bool
has w [] = opens w []
has w (b ∷ s) = opens w (b ∷ s) || has w s

-- "The ctr and cbc names need a MAC; the others do not, and of those gcm and chacha20 have built-in integrity."
unfoldable pub need_mac : List Bool
unfolding cipher_names
need_mac = map (λ name. has (bytes "ctr") name || has (bytes "cbc") name) cipher_names

unfoldable pub built_in : List Bool
unfolding cipher_names
built_in = map (λ name. has (bytes "gcm") name || has (bytes "chacha20") name) cipher_names

unfoldable pub mac_names : List (List ℕ)
mac_names =
    bytes "none"
    ∷ bytes "hmac-sha2-512-etm@openssh.com"
    ∷ bytes "hmac-sha2-256-etm@openssh.com"
    ∷ bytes "hmac-sha2-512"
    ∷ bytes "hmac-sha2-256"
    ∷ []

unfoldable pub compression_names : List (List ℕ)
compression_names = bytes "none" ∷ []

-- the names of a kind
unfoldable pub names_of : Kind → List (List ℕ)
names_of Kex = kex_names
names_of Key = key_names
names_of Certificate = certificate_names
names_of Cipher = cipher_names
names_of Mac = mac_names
names_of Compression = compression_names

-- The one table that the code has: the kinds one after the other. A name's row is its place there.
unfoldable pub all_names : List (List ℕ)
all_names = kex_names ++ key_names ++ certificate_names ++ cipher_names ++ mac_names ++ compression_names

-- the row at which a kind starts
abbrev pub first_row : Kind → ℕ
first_row Kex = 0
first_row Key = 13
first_row Certificate = 20
first_row Cipher = 27
first_row Mac = 38
first_row Compression = 43

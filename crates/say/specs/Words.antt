-- A settled record as numbers and as words.
use Rattle.std.specs.Prelude.{Bool, true, false, List, [], ◌∷◌, ◌++◌, ℕ, take, replicate}
use Rattle.std.specs.Fmt.{decimal}
use Rattle.answer.specs.declared.Refusal.{Refusal}
use Rattle.answer.specs.Refusal.{number}
use Rattle.answer.specs.Answer.{Out, done, pick}
use Rattle.put.specs.Runs.{ended, filled}
use Rattle.text.specs.Literal.{bytes}
use Rattle.names.specs.Spelled.{spelled}
use Rattle.names.specs.declared.Kind.{Kind}
use Rattle.names.specs.declared.Kind.TheVariants.{Kex, Key, Certificate, Cipher, Mac, Compression}
use Rattle.negotiation.specs.declared.Flags.{Flags}
use Rattle.negotiation.specs.declared.Names.{Names}

abbrev pub bit_of : Bool → ℕ
bit_of b = pick b 1 0

abbrev pub numbers_of : Names → List ℕ
numbers_of n =
    n.kex.0
    ∷ n.key.0
    ∷ n.cipher.0
    ∷ n.client_mac.0
    ∷ n.server_mac.0
    ∷ n.client_compression.0
    ∷ n.server_compression.0
    ∷ bit_of n.flags.host_key_is_certificate
    ∷ bit_of n.flags.ignore_guessed
    ∷ bit_of n.flags.strict_kex
    ∷ []

-- a key's name, or its certificate's
abbrev pub key_kind : Bool → Kind
key_kind true = Certificate
key_kind false = Key

-- what stands before it, its label, its value
unfoldable pub item : List ℕ → List ℕ → Out (List ℕ) → List (Out (List ℕ))
item before label value = done before ∷ done label ∷ value ∷ []

abbrev pub yes_or_no : Bool → List ℕ
yes_or_no true = bytes "yes"
yes_or_no false = bytes "no"

abbrev pub flag_item : List ℕ → List ℕ → Bool → List (Out (List ℕ))
flag_item before label flag = item before label (done (yes_or_no flag))

unfoldable pub algorithms : List ℕ → Names → List (Out (List ℕ))
algorithms before n =
    item before (bytes "kex ") (spelled Kex n.kex.0)
    ++ (item before (bytes "key ") (spelled (key_kind n.flags.host_key_is_certificate) n.key.0)
    ++ item before (bytes "cipher ") (spelled Cipher n.cipher.0))

unfoldable pub directions : List ℕ → Names → List (Out (List ℕ))
directions before n =
    item before (bytes "mac to server ") (spelled Mac n.client_mac.0)
    ++ (item before (bytes "mac to client ") (spelled Mac n.server_mac.0)
    ++ (item before (bytes "compression to server ") (spelled Compression n.client_compression.0)
    ++ item before (bytes "compression to client ") (spelled Compression n.server_compression.0)))

unfoldable pub flag_items : List ℕ → Flags → List (Out (List ℕ))
flag_items before flags =
    flag_item before (bytes "certificate ") flags.host_key_is_certificate
    ++ (flag_item before (bytes "ignore guess ") flags.ignore_guessed
    ++ flag_item before (bytes "strict ") flags.strict_kex)

-- the whole record, put piece by piece: a piece without room is left out
unfoldable pub words : List ℕ → Names → List (Out (List ℕ))
words before n = algorithms before n ++ (directions before n ++ flag_items before n.flags)

-- the record as it is printed: what is put of it in a room of 1,024 bytes
abbrev pub room : List ℕ
room = replicate 1024 0

abbrev pub settled_text : List ℕ → Names → List ℕ
settled_text before n = take (ended room 0 (words before n)) (filled room 0 (words before n))

-- a reader's refusal as it is printed: its number, and where
abbrev pub refusal_text : Refusal → List ℕ
refusal_text r = decimal (number r.cause) ++ (bytes " at byte " ++ decimal r.offset)

-- Number 8 (document 01: "the lent output is shorter than what is to be written"), at each writer from both sides: an
-- output with a byte more, where that byte keeps its value, one of the very length, and one that lacks a byte, where each
-- byte keeps its value. `#` (35) stands in the output before.
use Rattle.std.specs.Prelude.{List, [], ◌∷◌, ◌++◌, ℕ, replicate}
use Rattle.answer.specs.Answer.{Out}
use Rattle.text.specs.Literal.{bytes}
use Rattle.put.specs.Written.{written, buffer}
use Rattle.names.specs.declared.Kind.TheVariants.{Key}
use Rattle.names.specs.Spelled.{spelled}
use Rattle.choice.specs.declared.Side.TheVariants.{Client}
use Rattle.judging.specs.Tables.{tables}
use Rattle.framing.specs.Clear.{packet_of}
use Rattle.replies.specs.Failure.{failure, unknown_type}
use Rattle.negotiation.specs.Written.{write_kex}
use Rattle.tried.specs.Row.{Row, row}
use Rattle.tried.specs.Trials.{refuses, gives, answered}

abbrev marks : ℕ → List ℕ
marks n = replicate n 35

-- written into an output of n bytes: the answer, then the output
abbrev into : ℕ → Out (List ℕ) → List ℕ
into n what = answered (λ (m : ℕ). gives (m ∷ [])) (written (marks n) 0 what) ++ buffer (marks n) 0 what

-- what document 01 wants of a writer of n bytes: they stand in front, and what is past them stays
abbrev wrote : ℕ → List ℕ → ℕ → List ℕ
wrote n what more = gives (n ∷ []) ++ (what ++ marks more)

abbrev no_room : ℕ → List ℕ
no_room n = refuses 8 ++ marks n

-- 92, recipient 258, reason 4, "why", "en"
abbrev why : List ℕ
why = 92 ∷ 0 ∷ 0 ∷ 1 ∷ 2 ∷ 0 ∷ 0 ∷ 0 ∷ 4 ∷ 0 ∷ 0 ∷ 0 ∷ 3 ∷ 119 ∷ 104 ∷ 121 ∷ 0 ∷ 0 ∷ 0 ∷ 2 ∷ 101 ∷ 110 ∷ []

unfoldable pub failure_rows : List Row
failure_rows =
    row "a failure of 22 bytes into 23" (into 23 (failure 258 4 (bytes "why"))) (wrote 22 why 1)
    ∷ row "into 22" (into 22 (failure 258 4 (bytes "why"))) (wrote 22 why 0)
    ∷ row "into 21" (into 21 (failure 258 4 (bytes "why"))) (no_room 21)
    ∷ row "into 0" (into 0 (failure 258 4 (bytes "why"))) (no_room 0)
    ∷ row "a text of 1,025 into 0: 1 before 8" (into 0 (failure 258 4 (replicate 1025 0))) (refuses 1)
    ∷ []

-- reason 3, "Unknown channel type"
abbrev unknown : List ℕ
unknown = 92 ∷ 0 ∷ 0 ∷ 1 ∷ 2 ∷ 0 ∷ 0 ∷ 0 ∷ 3 ∷ 0 ∷ 0 ∷ 0 ∷ 20 ∷ (bytes "Unknown channel type" ++ (0 ∷ 0 ∷ 0 ∷ 2 ∷ bytes "en"))

unfoldable pub unknown_type_rows : List Row
unknown_type_rows =
    row "the failure for an unknown type into 40" (into 40 (unknown_type 258)) (wrote 39 unknown 1)
    ∷ row "into 39" (into 39 (unknown_type 258)) (wrote 39 unknown 0)
    ∷ row "into 38" (into 38 (unknown_type 258)) (no_room 38)
    ∷ []

-- length 12, padding 4, the payload, four zeros
unfoldable pub packet_room_rows : List Row
packet_room_rows =
    row "the packet of `payload` into 17" (into 17 (packet_of (bytes "payload")))
    (wrote 16 (0 ∷ 0 ∷ 0 ∷ 12 ∷ 4 ∷ (bytes "payload" ++ (0 ∷ 0 ∷ 0 ∷ 0 ∷ []))) 1)
    ∷ row "into 16" (into 16 (packet_of (bytes "payload")))
    (wrote 16 (0 ∷ 0 ∷ 0 ∷ 12 ∷ 4 ∷ (bytes "payload" ++ (0 ∷ 0 ∷ 0 ∷ 0 ∷ []))) 0)
    ∷ row "into 15" (into 15 (packet_of (bytes "payload"))) (no_room 15)
    ∷ []

unfoldable pub spelling_rows : List Row
spelling_rows =
    row "`ssh-rsa` into 8" (into 8 (spelled Key 6)) (wrote 7 (bytes "ssh-rsa") 1)
    ∷ row "into 7" (into 7 (spelled Key 6)) (wrote 7 (bytes "ssh-rsa") 0)
    ∷ row "into 6" (into 6 (spelled Key 6)) (no_room 6)
    ∷ row "a key that there is not, into 0: 9 before 8" (into 0 (spelled Key 7)) (refuses 9)
    ∷ []

-- a client with empty lists: 20, the cookie, ten empty lists, byte 0, u32 0
abbrev empty : ℕ → Out (List ℕ)
empty kex = write_kex (tables Client (replicate kex 13) [] [] [] [] [] [] [] [] []) (bytes "sixteen of them.")

unfoldable pub kex_init_room_rows : List Row
kex_init_room_rows =
    row "an empty KEXINIT into 63" (into 63 (empty 0)) (wrote 62 (20 ∷ (bytes "sixteen of them." ++ replicate 45 0)) 1)
    ∷ row "into 62" (into 62 (empty 0)) (wrote 62 (20 ∷ (bytes "sixteen of them." ++ replicate 45 0)) 0)
    ∷ row "into 61" (into 61 (empty 0)) (no_room 61)
    ∷ row "with kex 13 into 0: 9 before 8" (into 0 (empty 1)) (refuses 9)
    ∷ []

abbrev pub room_rows : List Row
room_rows = failure_rows ++ (unknown_type_rows ++ (packet_room_rows ++ (spelling_rows ++ kex_init_room_rows)))

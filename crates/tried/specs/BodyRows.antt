-- Where an opening or a confirmation body is refused (document 02, No. 6). Lengths and offsets are counted by hand.
use Rattle.std.specs.Prelude.{List, [], ◌∷◌, ◌++◌, ℕ, take, replicate}
use Prim.Native.String.{String}
use Rattle.replies.specs.Confirmation.{read_confirmation}
use Rattle.tried.specs.Row.{Row, row}
use Rattle.tried.specs.Rows.{session}
use Rattle.tried.specs.Trials.{refuses_at, gives, answered, opens}
use Rattle.tried.specs.OffsetRows.{field, high_field}

-- P10's body, its first n bytes: type at 0, sender at 11, window at 15, maximum at 19
abbrev cut : ℕ → List ℕ
cut n = opens (take n (session 0x80 []))

unfoldable pub session_rows : List Row
session_rows =
    row "an empty body" (opens []) (refuses_at 2 0)
    ∷ row "P10's cut to 10" (cut 10) (refuses_at 2 0)
    ∷ row "to 11: no sender" (cut 11) (refuses_at 2 11)
    ∷ row "to 14" (cut 14) (refuses_at 2 11)
    ∷ row "to 15: no window" (cut 15) (refuses_at 2 15)
    ∷ row "to 18" (cut 18) (refuses_at 2 15)
    ∷ row "to 19: no maximum" (cut 19) (refuses_at 2 19)
    ∷ row "to 22" (cut 22) (refuses_at 2 19)
    ∷ row "with a byte more" (opens (session 0x80 (0 ∷ []))) (refuses_at 5 23)
    ∷ row "with two" (opens (session 0x80 (0 ∷ 0 ∷ []))) (refuses_at 5 23)
    ∷ row "with maximum 0" (opens (session 0 [])) (refuses_at 6 19)
    ∷ row "a type FF" (opens high_field) (refuses_at 3 0)
    ∷ []

-- sender 0, window 0, maximum 1
abbrev offer : List ℕ
offer = replicate 11 0 ++ (1 ∷ [])

-- host at 28, its port at 41, originator at 45, its port at 57: 22 and 1234
abbrev direct : List ℕ → List ℕ
direct host = field 12 "direct-tcpip" ++ (offer ++ host)

abbrev to_originator : List ℕ → List ℕ
to_originator originator = direct (field 9 "localhost" ++ (0 ∷ 0 ∷ 0 ∷ 22 ∷ originator))

abbrev tcpip : List ℕ → List ℕ
tcpip more = to_originator (field 8 "10.0.0.1" ++ (0 ∷ 0 ∷ 4 ∷ 210 ∷ more))

abbrev cut_tcpip : ℕ → List ℕ
cut_tcpip n = opens (take n (tcpip []))

unfoldable pub tcpip_rows : List Row
tcpip_rows =
    row "direct-tcpip, host FF" (opens (direct high_field)) (refuses_at 3 28)
    ∷ row "host localhost, originator FF" (opens (to_originator high_field)) (refuses_at 3 45)
    ∷ row "the 61 bytes cut to 28" (cut_tcpip 28) (refuses_at 2 28)
    ∷ row "to 40" (cut_tcpip 40) (refuses_at 2 28)
    ∷ row "to 41: no port" (cut_tcpip 41) (refuses_at 2 41)
    ∷ row "to 44" (cut_tcpip 44) (refuses_at 2 41)
    ∷ row "to 45: no originator" (cut_tcpip 45) (refuses_at 2 45)
    ∷ row "to 56" (cut_tcpip 56) (refuses_at 2 45)
    ∷ row "to 57: no port of it" (cut_tcpip 57) (refuses_at 2 57)
    ∷ row "to 60" (cut_tcpip 60) (refuses_at 2 57)
    ∷ row "to 61: the whole" (cut_tcpip 61) (gives (0 ∷ 0 ∷ 0 ∷ 1 ∷ []))
    ∷ row "with a byte more" (opens (tcpip (0 ∷ []))) (refuses_at 5 61)
    ∷ []

-- an opening of that type, whose own fields start 16 behind its name's length
abbrev opening : ℕ → String → List ℕ → List ℕ
opening n typ more = opens (field n typ ++ (offer ++ more))

abbrev direct_path : List ℕ → List ℕ
direct_path more = opening 30 "direct-streamlocal@openssh.com" (field 2 "/a" ++ more)

abbrev forwarded_path : List ℕ → List ℕ
forwarded_path more = opening 33 "forwarded-streamlocal@openssh.com" (field 2 "/a" ++ more)

unfoldable pub type_rows : List Row
type_rows =
    row "x11, originator FF" (opening 3 "x11" high_field) (refuses_at 3 19)
    ∷ row "originator `x`, no port" (opening 3 "x11" (field 1 "x")) (refuses_at 2 24)
    ∷ row "a byte behind it" (opening 3 "x11" (field 1 "x" ++ replicate 5 0)) (refuses_at 5 28)
    ∷ row "forwarded-tcpip, host FF" (opening 15 "forwarded-tcpip" high_field) (refuses_at 3 31)
    ∷ row "auth-agent, a byte behind it" (opening 22 "auth-agent@openssh.com" (0 ∷ [])) (refuses_at 5 38)
    ∷ row "direct-streamlocal, reserved FF" (direct_path high_field) (refuses_at 3 52)
    ∷ row "no reserved word" (direct_path (field 0 "")) (refuses_at 2 56)
    ∷ row "a byte behind it" (direct_path (replicate 9 0)) (refuses_at 5 60)
    ∷ row "forwarded-streamlocal, reserved FF" (forwarded_path high_field) (refuses_at 3 55)
    ∷ row "a byte behind it" (forwarded_path (replicate 5 0)) (refuses_at 5 59)
    ∷ []

-- a confirmation's body of n zeros, then what follows
abbrev confirms : ℕ → List ℕ → List ℕ
confirms n more = answered (λ c. gives []) (read_confirmation (replicate n 0 ++ more))

unfoldable pub confirmation_rows : List Row
confirmation_rows =
    row "a confirmation without a byte" (confirms 0 []) (refuses_at 2 0)
    ∷ row "of 3 zeros" (confirms 3 []) (refuses_at 2 0)
    ∷ row "of 4" (confirms 4 []) (refuses_at 2 4)
    ∷ row "of 8" (confirms 8 []) (refuses_at 2 8)
    ∷ row "of 11" (confirms 11 []) (refuses_at 2 8)
    ∷ row "of 12" (confirms 12 []) (refuses_at 2 12)
    ∷ row "of 15" (confirms 15 []) (refuses_at 2 12)
    ∷ row "of 16" (confirms 16 []) (refuses_at 6 12)
    ∷ row "of 17" (confirms 17 []) (refuses_at 6 12)
    ∷ row "of 15 and a 1" (confirms 15 (1 ∷ [])) (gives [])
    ∷ []

abbrev pub body_rows : List Row
body_rows = session_rows ++ (tcpip_rows ++ (type_rows ++ confirmation_rows))

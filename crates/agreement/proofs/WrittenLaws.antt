-- A written KEXINIT reads back as the lists as written: reading it is choosing from them. Assumes nothing.
use mathlib.Core.Path.{◌≡◌, refl, ap, ◌∙◌}
use mathlib.Core.Bool.{Bool, true}
use mathlib.Core.List.{List, [], flatten}
use Prim.Native.Nat.{ℕ}
use native.Mathlib.Omega.{arith}
use lib.ListN.{length}
use lib.Seq.{drop_at}
use borrow.Author.Tests.{le-leb}
use Rattle.answer.specs.Answer.{done, guard, placed}
use Rattle.answer.proofs.WalkLaws.{read}
use Rattle.text.specs.Utf8.{utf8, octets}
use Rattle.wire.specs.Fields.{here}
use Rattle.wire.proofs.BackLaws.{byte_back, word_back, end_back}
use Rattle.choice.specs.declared.Side.{Side}
use Rattle.choice.specs.Choice.{chosen}
use Rattle.choice.specs.Rows.{spelled_rows}
use Rattle.judging.specs.Tables.{Tables, valid}
use Rattle.preferred.specs.Own.{chosen_kex}
use Rattle.negotiation.specs.KexInit.{fields, encoded, offer, offers}
use Rattle.negotiation.specs.Written.{kex_list, key_list, cipher_list, mac_list, compression_list, as_written, kex_init}
use Rattle.negotiation.specs.Read.{most_kex_init, strict, read_kex}
use Rattle.agreement.specs.Both.{Shared, settling}
use Rattle.agreement.proofs.PlacedLaws.{read_on, step_on}
use Rattle.agreement.proofs.SharedLaws.{settle_placed, mac_placed}
use Rattle.negotiation.proofs.KexInitLaws.{kex_length, kex_fits}
use Rattle.negotiation.proofs.FewLaws.{text_back, offer_back, string_few, kexes, keys, ciphers, macs, compressions}

-- the fields start at 17
start : (t : Tables) (cookie : List ℕ) → length cookie ≡ 16
    → here (kex_init t cookie) 17 ≡ record { at = 17; left = flatten (fields (as_written t)) }
unfolding kex_init encoded
start t cookie k = rw (drop_at cookie (flatten (fields (as_written t))) 16 k)

none_utf8 : utf8 [] ≡ true
unfolding utf8 octets
none_utf8 = refl

-- the lists come back as they were written
pub written_back : (t : Tables) (cookie : List ℕ) → valid t ≡ true → length cookie ≡ 16 → offers (kex_init t cookie) ≡ done (as_written t)
unfolding offers flatten
written_back t cookie v k =
    read _ (ap offer (start t cookie k) ∙ offer_back _ (kexes t v) _ _)
    (read _ (offer_back _ (keys t v) _ _)
    (read _ (offer_back _ (ciphers t v) _ _)
    (read _ (offer_back _ (ciphers t v) _ _)
    (read _ (offer_back _ (macs t v) _ _)
    (read _ (offer_back _ (macs t v) _ _)
    (read _ (offer_back _ (compressions t v) _ _)
    (read _ (offer_back _ (compressions t v) _ _)
    (read _ (text_back _ [] _ (omega arith) none_utf8)
    (read _ (text_back _ [] _ (omega arith) none_utf8)
    (read _ (byte_back _ 0 _)
    (read _ (word_back _ 0 [] (omega arith))
    (read _ (end_back _) refl))))))))))))

-- reading is choosing from the lists as written, offsets apart
abbrev pub chosen_all : Side → Tables → Tables → Shared
chosen_all side t u =
    record {
      kex = chosen side (spelled_rows (chosen_kex t)) (kex_list u);
      key = chosen side (key_list t) (key_list u);
      cipher = chosen side (cipher_list t) (cipher_list u);
      mac = chosen side (mac_list t) (mac_list u);
      compression = chosen side (compression_list t) (compression_list u);
    }

pub reads : (t u : Tables) (b : Bool) (cookie : List ℕ) → valid t ≡ true → valid u ≡ true → length cookie ≡ 16
    → placed 0 (read_kex t b (kex_init u cookie)) ≡ settling (chosen_all t.side t u) (strict t b (kex_list u))
unfolding read_kex settling flatten
reads t u b cookie tv v k =
    let n = length (kex_init u cookie) in
    read_on 0 _ (ap (guard 9) tv)
    (read_on 0 _ (ap (guard 1) (le-leb n most_kex_init (omega (arith, kex_fits u v cookie k))))
    (read_on 0 _ (ap (guard 6) (le-leb 17 n (omega (arith, kex_length u cookie k))))
    (read_on 0 _ (ap offer (start u cookie k) ∙ offer_back _ (kexes u v) _ _)
    (step_on 0 _ _ _ _ (settle_placed 10 _ _) (λ kex.
    read_on 0 _ (offer_back _ (keys u v) _ _)
    (step_on 0 _ _ _ _ (settle_placed 11 _ _) (λ key.
    read_on 0 _ (offer_back _ (ciphers u v) _ _)
    (step_on 0 _ _ _ _ (settle_placed 12 _ _) (λ cipher.
    read_on 0 _ (string_few _ (ciphers u v) _ _)
    (read_on 0 _ (offer_back _ (macs u v) _ _)
    (step_on 0 _ _ _ _ (mac_placed _ _ _) (λ client_mac.
    read_on 0 _ (offer_back _ (macs u v) _ _)
    (step_on 0 _ _ _ _ (mac_placed _ _ _) (λ server_mac.
    read_on 0 _ (offer_back _ (compressions u v) _ _)
    (step_on 0 _ _ _ _ (settle_placed 14 _ _) (λ client_compression.
    read_on 0 _ (offer_back _ (compressions u v) _ _)
    (step_on 0 _ _ _ _ (settle_placed 14 _ _) (λ server_compression.
    read_on 0 _ (text_back _ [] _ (omega arith) none_utf8)
    (read_on 0 _ (text_back _ [] _ (omega arith) none_utf8)
    (read_on 0 _ (byte_back _ 0 _)
    (read_on 0 _ (word_back _ 0 [] (omega arith))
    (read_on 0 _ (end_back _) refl))))))))))))))))))))))

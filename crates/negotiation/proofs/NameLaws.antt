-- From rows to names: what a row of the name table says as a number, a flag and a rule. Each fact is computed at every row
-- of its kind. Assumes nothing.
use mathlib.Core.Path.{◌≡◌, refl, sym}
use mathlib.Core.Bool.{Bool, true, false, beq}
use Prim.Native.Nat.{ℕ, ◌-◌, ◌≤◌, ◌<◌}
use borrow.Author.Tests.{eqb-true}
use lib.Dec.{eqb}
use Rattle.answer.specs.Answer.{pick}
use Rattle.text.specs.Same.{same}
use Rattle.text.proofs.TableLaws.{span}
use Rattle.names.specs.Tables.{first_row, names_of, all_names, kex_names, key_names, certificate_names, cipher_names, mac_names, compression_names}
use Rattle.names.specs.Lookup.{place_from, number_of}
use Rattle.names.specs.declared.Kind.TheVariants.{Kex, Key, Cipher, Mac, Compression}
use Rattle.choice.specs.Rows.{row_spelled}
use Rattle.picking.specs.Picking.{none_row, mac_rule}
use Rattle.picking.specs.declared.Rule.TheVariants.{Protected, Optional}
use Rattle.negotiation.specs.Read.{number, is_certificate, key_number, needs_mac, no_mac}
use Rattle.negotiation.specs.Rows.{is_certificate_row, key_place}

beq_true : (a b : Bool) → beq a b ≡ true → a ≡ b
beq_true true true h = refl
beq_true true false h = sym h
beq_true false true h = h
beq_true false false h = refl

pub kex_number : (r : ℕ) → 0 ≤ r → r < 9 → number Kex (row_spelled r) ≡ r
unfolding number number_of place_from names_of all_names kex_names key_names certificate_names cipher_names mac_names compression_names row_spelled same
kex_number r h l = eqb-true _ _ (span (λ r. eqb (number Kex (row_spelled r)) r) true 0 9 refl r h l)

pub key_number_lem : (r : ℕ) → first_row Key ≤ r → r < first_row Cipher → key_number (row_spelled r) ≡ key_place r
unfolding number number_of place_from names_of all_names kex_names key_names certificate_names cipher_names mac_names compression_names row_spelled same key_number is_certificate key_place
key_number_lem r h l = eqb-true _ _ (span (λ r. eqb (key_number (row_spelled r)) (key_place r)) true (first_row Key) 14 refl r h l)

pub key_certificate : (r : ℕ) → first_row Key ≤ r → r < first_row Cipher → is_certificate (row_spelled r) ≡ is_certificate_row r
unfolding number_of place_from names_of all_names kex_names key_names certificate_names cipher_names mac_names compression_names row_spelled same is_certificate
key_certificate r h l = beq_true _ _ (span (λ r. beq (is_certificate (row_spelled r)) (is_certificate_row r)) true (first_row Key) 14 refl r h l)

pub cipher_number : (r : ℕ) → first_row Cipher ≤ r → r < first_row Mac → number Cipher (row_spelled r) ≡ r - first_row Cipher
unfolding number number_of place_from names_of all_names kex_names key_names certificate_names cipher_names mac_names compression_names row_spelled same
cipher_number r h l = eqb-true _ _ (span (λ r. eqb (number Cipher (row_spelled r)) (r - first_row Cipher)) true (first_row Cipher) 11 refl r h l)

pub mac_number : (r : ℕ) → first_row Mac ≤ r → r < first_row Compression → number Mac (row_spelled r) ≡ r - first_row Mac
unfolding number number_of place_from names_of all_names kex_names key_names certificate_names cipher_names mac_names compression_names row_spelled same
mac_number r h l = eqb-true _ _ (span (λ r. eqb (number Mac (row_spelled r)) (r - first_row Mac)) true (first_row Mac) 5 refl r h l)

pub compression_number : (r : ℕ) → first_row Compression ≤ r → r < 44 → number Compression (row_spelled r) ≡ r - first_row Compression
unfolding number number_of place_from names_of all_names kex_names key_names certificate_names cipher_names mac_names compression_names row_spelled same
compression_number r h l = eqb-true _ _ (span (λ r. eqb (number Compression (row_spelled r)) (r - first_row Compression)) true (first_row Compression) 1 refl r h l)

-- the rule of a cipher's row is that of its name
pub mac_rule_lem : (r : ℕ) → first_row Cipher ≤ r → r < first_row Mac → mac_rule (r - first_row Cipher) ≡ pick (needs_mac (row_spelled r)) Protected Optional
unfolding mac_rule needs_mac
mac_rule_lem r h l = rw (cipher_number r h l)

-- `none` is the first MAC, and no other row of a MAC
pub no_mac_lem : row_spelled none_row ≡ no_mac
unfolding all_names kex_names key_names certificate_names cipher_names mac_names compression_names row_spelled
no_mac_lem = refl

pub is_no_mac : (r : ℕ) → first_row Mac ≤ r → r < first_row Compression → same (row_spelled r) no_mac ≡ eqb r none_row
unfolding all_names kex_names key_names certificate_names cipher_names mac_names compression_names row_spelled same
is_no_mac r h l = beq_true _ _ (span (λ r. beq (same (row_spelled r) no_mac) (eqb r none_row)) true (first_row Mac) 5 refl r h l)

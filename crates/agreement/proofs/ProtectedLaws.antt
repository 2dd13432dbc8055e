-- A side with protecting lists accepts nothing unprotected, whatever bytes it reads. Assumes nothing.
use mathlib.Core.Path.{◌≡◌, refl, sym, ap, ◌∙◌}
use mathlib.Core.Bool.{Bool, true, false, ◌||◌, or-false}
use mathlib.Core.List.{List, []}
use mathlib.Core.Option.{Option, some, none}
use Prim.Native.Nat.{ℕ}
use lib.ListN.{get_or}
use borrow.Author.Tests.{not-true}
use Rattle.answer.specs.Answer.{done}
use Rattle.answer.proofs.Laws.{split, and_left, and_right, un_done, never}
use Rattle.answer.proofs.WalkLaws.{Post, go_on, at_end, of_accepted, passed}
use Rattle.text.specs.Same.{same}
use Rattle.text.specs.Literal.{bytes}
use Rattle.text.proofs.SameLaws.{same_equal, same_differ}
use Rattle.commas.specs.Cut.{every}
use Rattle.names.specs.Tables.{cipher_names, mac_names, names_of, need_mac, built_in}
use Rattle.names.specs.Lookup.{number_of, place_from}
use Rattle.names.specs.declared.Kind.TheVariants.{Cipher, Mac}
use Rattle.names.proofs.PlaceLaws.{every_at}
use Rattle.choice.specs.Choice.{listed, chosen}
use Rattle.judging.specs.Tables.{Tables, valid}
use Rattle.judging.proofs.ValidLaws.{Valid, valid_parts}
use Rattle.negotiation.specs.declared.Names.{Names}
use Rattle.negotiation.specs.Written.{cipher_list, mac_list}
use Rattle.negotiation.specs.Read.{number, needs_mac, has_integrity, no_mac, settle_mac, settled, read_kex}
use Rattle.agreement.specs.Protected.{protecting, Protected}
use Rattle.choice.proofs.SharedLaws.{chosen_own}
use Rattle.agreement.proofs.SharedLaws.{settle_some}
use Rattle.agreement.proofs.NameLaws.{known, known_number}

-- every cipher but `clear` and `none` needs a MAC or has built-in integrity
abbrev sound : List ℕ → Bool
sound name = same name (bytes "clear") || same name (bytes "none") || needs_mac name || has_integrity name

ciphers_sound : every sound (names_of Cipher) ≡ true
unfolding names_of cipher_names same needs_mac has_integrity number number_of place_from need_mac built_in
ciphers_sound = refl

-- a MAC that a cipher needs is a shared one, and not `none`
mac_needed : (cipher mac : List ℕ) (i : ℕ) (o : Option (List ℕ)) → settle_mac cipher i o ≡ done mac → needs_mac cipher ≡ true
    → (o ≡ some mac) × (same mac no_mac ≡ false)
unfolding settle_mac
mac_needed cipher mac i none h m = never (cc)
mac_needed cipher mac i (some x) h m =
    split (same x no_mac) (λ e. never (cc))
    (λ e. let d : done x ≡ done mac = rw (m, e) at h in let q : x ≡ mac = un_done d in (ap some q, rw q at e))

-- the bytes of a name that is listed
listed_same : (name : List ℕ) (w : List ℕ) (ns : List (List ℕ)) → listed name ns ≡ true → listed w ns ≡ false → same name w ≡ false
listed_same name w ns l n = split (same name w) (λ e. never (cc (same_equal name w e))) (λ e. e)

first_mac : get_or (names_of Mac) 0 [] ≡ no_mac
unfolding names_of mac_names
first_mac = refl

module _ (t : Tables) (safe : protecting t ≡ true) where
  not_none : listed (bytes "none") (cipher_list t) ≡ false
  unfolding protecting
  not_none = not-true _ (search (and_left, and_right))

  not_clear : listed (bytes "clear") (cipher_list t) ≡ false
  unfolding protecting
  not_clear = not-true _ (search (and_left, and_right))

  module _ (v : Valid t) (cipher : List ℕ) (own : listed cipher (cipher_list t) ≡ true) where
    -- so the cipher, if it has no integrity of its own, needs a MAC
    needs : has_integrity cipher ≡ false → needs_mac cipher ≡ true
    needs i =
        let c = known Cipher t.cipher cipher v.cipher own in
        let s = rw c.spelt at (every_at sound (names_of Cipher) ciphers_sound c.place c.inside) in
        rw (
          listed_same cipher (bytes "clear") (cipher_list t) own not_clear,
          listed_same cipher (bytes "none") (cipher_list t) own not_none,
          i,
          or-false,
        ) at s

    -- one direction
    guarded : (mac : List ℕ) (i : ℕ) (peer : List (List ℕ)) → settle_mac cipher i (chosen t.side (mac_list t) peer) ≡ done mac
        → has_integrity cipher ≡ false → number Mac mac ≡ 0 → ⊥
    guarded mac at peer s i z =
        let n = mac_needed cipher mac at (chosen t.side (mac_list t) peer) s (needs i) in
        let m = known Mac t.mac mac v.mac (chosen_own t.side (mac_list t) peer mac n.0) in
        let e : get_or (names_of Mac) 0 [] ≡ mac = rw (sym (known_number Mac mac m) ∙ z) at m.spelt in
        same_differ mac no_mac n.1 (sym e ∙ first_mac)

  walk : (b : Bool) (p : List ℕ) → Post Protected (read_kex t b p)
  unfolding read_kex settled has_integrity
  walk b p =
      go_on _ _ (λ u v.
      go_on _ _ (λ _ _.
      go_on _ _ (λ _ _.
      go_on _ _ (λ kexes _.
      go_on _ _ (λ kex _.
      go_on _ _ (λ keys _.
      go_on _ _ (λ key _.
      go_on _ _ (λ ciphers _.
      go_on _ _ (λ cipher chose.
      go_on _ _ (λ _ _.
      go_on _ _ (λ macs _.
      go_on _ _ (λ client_mac chose-c.
      go_on _ _ (λ macs' _.
      go_on _ _ (λ server_mac chose-s.
      go_on _ _ (λ _ _.
      go_on _ _ (λ _ _.
      go_on _ _ (λ _ _.
      go_on _ _ (λ _ _.
      go_on _ _ (λ _ _.
      go_on _ _ (λ _ _.
      go_on _ _ (λ _ _.
      go_on _ _ (λ _ _.
      go_on _ _ (λ _ _.
      at_end (let own = chosen_own t.side (cipher_list t) ciphers.0 cipher (settle_some 12 _ _ cipher chose) in
      let good = valid_parts t (passed 9 0 (valid t) u v) in
      record {
        client_to_server = λ u. guarded good cipher own client_mac _ macs.0 chose-c u.integrity u.none;
        server_to_client = λ u. guarded good cipher own server_mac _ macs'.0 chose-s u.integrity u.none;
      }))))))))))))))))))))))))

pub never_unprotected : (t : Tables) → protecting t ≡ true → (b : Bool) (p : List ℕ) (n : Names) → read_kex t b p ≡ done n → Protected n
never_unprotected t safe b p n e = of_accepted n (walk t safe b p) e

-- What the code writes, piece by piece, of the own lists of valid tables is the definition's KEXINIT. Assumes nothing.
use mathlib.Core.Path.{◌≡◌, refl, sym, ◌∙◌}
use mathlib.Core.Bool.{true, false, ◌&&◌}
use mathlib.Core.List.{List, [], ◌∷◌, map, flatten}
use Prim.Native.Nat.{ℕ, ◌+◌, ◌≤◌}
use native.Mathlib.Nat.{zero-add}
use borrow.Author.Tests.{ne_eqb, ltb-true, ltb-false}
use lib.Dec.{ltb, eqb}
use lib.ListN.{length}
use Rattle.std.specs.Prelude.{Result}
use Rattle.std.specs.Result.{IsErr, IsErrAnd}
use Rattle.answer.specs.declared.Cause.{Cause}
use Rattle.answer.specs.Refusal.{number}
use Rattle.answer.specs.Answer.{Out, done, refuse}
use Rattle.answer.proofs.Laws.{split, stop}
use Rattle.put.specs.Written.{word, put}
use Rattle.names.specs.Tables.{all_names}
use Rattle.names.specs.declared.rows.Columns.{Columns}
use Rattle.names.specs.Spelled.{name_at, spelled_by}
use Rattle.names.specs.Constant.{AreConstant}
use Rattle.names.proofs.ColumnLaws.{row_name_lem}
use Rattle.names.proofs.ConstantLaws.{constant_row}
use Rattle.put.proofs.WriterLaws.{Puts, refused_put, handed_put, full_put, stored_put}
use Rattle.preferred.specs.declared.Own.{Own}
use Rattle.judging.specs.Tables.{Tables, valid}
use Rattle.preferred.specs.Own.{lists_of, own_of}
use Rattle.preferred.proofs.HandedLaws.{lists_valid, lists_own, refusal_invalid, refusal_number}
use Rattle.negotiation.specs.KexInit.{text_field, fields, encoded}
use Rattle.negotiation.specs.Written.{as_written, kex_init, write_kex}
use Rattle.negotiation.proofs.FewLaws.{kexes, keys, ciphers, macs, compressions}
use Rattle.negotiation.proofs.KexInitLaws.{write_valid, kex_length}
use Rattle.kexinit.specs.Pieces.{once, head, twice, ending, pieces, size, answered, left}
use Rattle.put.proofs.RunLaws.{run_all}
use Rattle.kexinit.proofs.TableLaws.{list_handed, length_handed}

-- the pieces of the definition
abbrev parts : Tables → List ℕ → List (List ℕ)
parts t cookie = (20 ∷ []) ∷ cookie ∷ fields (as_written t)

parts_whole : (t : Tables) (cookie : List ℕ) → flatten (parts t cookie) ≡ kex_init t cookie
unfolding kex_init encoded flatten
parts_whole t cookie = refl

module _ (t : Tables) (v : valid t ≡ true) where
  pieces_parts : (cookie : List ℕ) → pieces (name_at all_names) (lists_of t) cookie ≡ map done (parts t cookie)
  unfolding pieces once head twice ending lists_of text_field word
  pieces_parts cookie =
      rw (list_handed _ (kexes t v), list_handed _ (keys t v), list_handed _ (ciphers t v), list_handed _ (macs t v), list_handed _ (compressions t v))

  size_length : (cookie : List ℕ) → length cookie ≡ 16 → size (name_at all_names) (lists_of t) ≡ length (kex_init t cookie)
  unfolding size lists_of
  size_length cookie k =
      rw (kex_length t cookie k, length_handed _ (kexes t v), length_handed _ (keys t v), length_handed _ (ciphers t v), length_handed _ (macs t v), length_handed _ (compressions t v))

-- the constant columns give the table's names
constant_names : (names : Columns) → AreConstant names → spelled_by names ≡ name_at all_names
constant_names names k = λ i n. (constant_row names k n ∙ row_name_lem all_names n) i

module _ (t : Tables) (cookie out : List ℕ) where
  write_refused : (valid t && eqb (length cookie) 16) ≡ false → write_kex t cookie ≡ refuse 9
  unfolding write_kex
  write_refused h = stop 9 _ _ h

  pub kex_tables : (c : Cause) (r : Result ℕ Cause) → refuse (number c) ≡ own_of t → IsErr r × IsErrAnd r (λ y. y ≡ c)
      → Puts out 0 (write_kex t cookie) (put r) out
  kex_tables c r e h =
      handed_put out 0 _ c r h (write_refused (rw (refusal_invalid t (number c) e)) ∙ rw (refusal_number t (number c) e))

  pub kex_cookie : (length cookie ≡ 16 → ⊥) → Puts out 0 (write_kex t cookie) (refuse 9) out
  kex_cookie h =
      refused_put out 0 _ 9 (write_refused (rw (ne_eqb (length cookie) 16 h) (split (valid t) (λ e. rw e) (λ e. rw e))))

  pub kex_put : (own : Own) → done own ≡ own_of t → length cookie ≡ 16 → (names : Columns) → AreConstant names
      → (r : Out ℕ) (out' : List ℕ)
      → (r ≡ answered (spelled_by names) out own cookie) × (out' ≡ left (spelled_by names) out own cookie)
      → Puts out 0 (write_kex t cookie) r out'
  unfolding answered left
  kex_put own made k names constant r out' h =
      let v : valid t ≡ true = lists_valid t own made in
      let g = rw (lists_own t own made, constant_names names constant, size_length t v cookie k, pieces_parts t v cookie) at h in
      let d = write_valid t cookie v k in
      split (ltb (length out) (length (kex_init t cookie)))
      (λ e.
      let f = rw e at g in
      rw (f.0, f.1) (full_put out 0 _ (kex_init t cookie) d (rw zero-add (ltb-true _ _ e))))
      (λ e.
      let f = rw e at g in
      let l : 0 + length (kex_init t cookie) ≤ length out = rw zero-add (ltb-false _ _ e) in
      let a = run_all out 0 (parts t cookie) (kex_init t cookie) (parts_whole t cookie) l in
      rw (f.0, f.1) (stored_put out 0 _ (kex_init t cookie) _ _ d l (sym a.0, sym a.1)))

-- A list judged and measured is the list that the definition gives. Assumes nothing.
use mathlib.Core.Path.{◌≡◌, refl, sym, ap, ◌∙◌}
use mathlib.Core.Bool.{Bool, true, false}
use mathlib.Core.List.{List, [], ◌∷◌, ◌++◌}
use Prim.Native.Nat.{ℕ, ◌+◌, ◌-◌, ◌≤◌, ◌<◌, min}
use native.Mathlib.Omega.{arith}
use lib.ListN.{length, length-append}
use lib.Seq.{sets}
use Rattle.answer.specs.Answer.{Out, done, refuse, ◌>>=◌}
use Rattle.answer.proofs.Laws.{split}
use Rattle.put.specs.Written.{string, word}
use Rattle.put.proofs.PutLaws.{string_short, string_long, word_length}
use Rattle.commas.specs.Cut.{join}
use Rattle.names.specs.Tables.{all_names}
use Rattle.names.specs.declared.rows.Columns.{Columns}
use Rattle.names.specs.Spelled.{there, row_name, spelled_by, name_at}
use Rattle.put.proofs.WriterLaws.{Puts, full_put, stored_put}
use Rattle.names.proofs.RowLaws.{shown, row_outside}
use Rattle.names.proofs.ColumnLaws.{flat, starts, lengths, row_name_lem}
use Rattle.lists.specs.Lists.{names_by, list_by}
use Rattle.lists.specs.Texts.{named, texts, most, size_from, length_by}

-- the columns of the one table give the list of its names
pub table_list : (rows : List ℕ) → list_by (row_name (flat all_names) (starts 0 all_names) (lengths all_names)) rows ≡ list_by (name_at all_names) rows
table_list rows = ap (λ (name : ℕ → Out (List ℕ)). list_by name rows) (λ i n. row_name_lem all_names n i)

-- how long names are with a comma after each
abbrev ends : List (List ℕ) → ℕ
ends [] = 0
ends (x ∷ xs) = (length x + 1) + ends xs

size_ends : (t : ℕ) (xs : List (List ℕ)) → t ≤ most → size_from t xs ≡ min (t + ends xs) most
unfolding size_from
size_ends t [] h = omega arith
size_ends t (x ∷ xs) h =
    let ih = size_ends (min (t + (length x + 1)) most) xs (omega arith) in
    ih ∙ omega arith

join_ends : (xs : List (List ℕ)) → length (join xs) ≡ ends xs - 1
unfolding join
join_ends [] = refl
join_ends (x ∷ []) = omega arith
join_ends (x ∷ (y ∷ ys)) =
    let ih = join_ends (y ∷ ys) in
    length-append x (44 ∷ join (y ∷ ys)) ∙ omega arith

-- a list that is measured
pub measured_length : (name : ℕ → Out (List ℕ)) (rows : List ℕ) (total len : ℕ) → total ≡ size_from 0 (texts name rows) → len ≡ total - 1
    → len ≡ length_by name rows
measured_length name rows total len e f =
    omega (arith, size_ends 0 (texts name rows) (omega arith), join_ends (texts name rows))

module _ (t : Columns) (rows : List ℕ) where
  abbrev name : ℕ → Out (List ℕ)
  name = spelled_by t

  names_none : (ns : List ℕ) → named name ns ≡ false → names_by name ns ≡ refuse 9
  unfolding named names_by ◌>>=◌
  names_none [] h = cc
  names_none (n ∷ ns) h =
      split (there (name n))
      (λ e. rw (shown (name n) e, names_none ns (rw e at h)))
      (λ e. rw (row_outside t.spellings.now t.starts.now t.lengths.now n e))

  names_all : (ns : List ℕ) → named name ns ≡ true → names_by name ns ≡ done (texts name ns)
  unfolding named names_by texts ◌>>=◌
  names_all [] h = refl
  names_all (n ∷ ns) h =
      split (there (name n))
      (λ e. rw (shown (name n) e, names_all ns (rw e at h)))
      (λ e. let z : true ≡ false = rw e at (sym h) in cc)

  -- what the code tells on its way
  module _ (all : Bool) (judged : all ≡ named name rows) where
    pub list_unnamed : all ≡ false → list_by name rows ≡ refuse 9
    unfolding list_by ◌>>=◌
    list_unnamed h = rw (names_none rows (sym judged ∙ h))

    module _ (h : all ≡ true) (total : ℕ) (measured : total ≡ size_from 0 (texts name rows)) where
      sized : total ≡ min (ends (texts name rows)) most
      sized = measured ∙ size_ends 0 (texts name rows) (omega arith) ∙ omega arith

      listed : list_by name rows ≡ string (join (texts name rows))
      unfolding list_by ◌>>=◌
      listed = rw (names_all rows (sym judged ∙ h))

      pub list_long : most ≤ total → list_by name rows ≡ refuse 1
      list_long l = listed ∙ string_long (join (texts name rows)) (omega (arith, sized, join_ends (texts name rows)))

      pub list_length : total < most → total - 1 ≡ length (join (texts name rows))
      list_length l = omega (arith, sized, join_ends (texts name rows))

      pub list_short : total < most → list_by name rows ≡ done (word (length (join (texts name rows))) ++ join (texts name rows))
      list_short l = listed ∙ string_short (join (texts name rows)) (omega (arith, sized, join_ends (texts name rows)))

      -- the length that is told, and the ends of a put
      module _ (l : total < most) (len : ℕ) (e : len ≡ total - 1) where
        pub is_length : len ≡ length (join (texts name rows))
        is_length = e ∙ list_length l

        list_size : length (word (length (join (texts name rows))) ++ join (texts name rows)) ≡ 4 + len
        list_size = rw (length-append, word_length, is_length)

        pub list_full : (out : List ℕ) (at : ℕ) → length out < at + (4 + len) → Puts out at (list_by name rows) (refuse 8) out
        list_full out at h = full_put out at (list_by name rows) _ (list_short l) (rw list_size h)

        pub list_put : (out : List ℕ) (at : ℕ) (out' : List ℕ) (r : ℕ) → at + (4 + len) ≤ length out
            → (r ≡ at + (4 + length (join (texts name rows)))) × (out' ≡ sets out at (word len ++ join (texts name rows)))
            → Puts out at (list_by name rows) (done r) out'
        list_put out at out' r h s =
            stored_put out at (list_by name rows) _ out' r (list_short l) (rw list_size h)
            (rw (list_size, is_length) s.0, rw (← is_length) s.1)

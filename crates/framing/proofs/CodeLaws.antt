-- From what the code tells on its way to an answer to what its contract says of that answer: judging, counting and
-- padding. Assumes nothing.
use Rattle.std.proofs.Common.{◌≡◌, ℕ, ◌+◌, ◌-◌, ◌%◌, ◌^◌, ◌<◌, ◌≤◌, min, List, get_or, set, replicate, arith, le-ltb, lt-ltb, eq-eqb, ne_eqb, le-leb}
use borrow.Author.Tests.{lt-leb}
use lib.ListN.{length-replicate, replicate-append-replicate}
use lib.Seq.{sets}
use Rattle.answer.specs.declared.Cause.TheVariants.{Padding}
use Rattle.answer.specs.declared.Refusal.{Refusal as Answered}
use Rattle.answer.specs.Refusal.{told}
use Rattle.answer.specs.Answer.{refused, done, refuse}
use Rattle.answer.proofs.Laws.{NoAt}
use Rattle.put.proofs.PutLaws.{sets_append}
use Rattle.framing.specs.Clear.{most_length, judged_length, judged_padding, padding_length, padding_of}

module _ (len : ℕ) where
  pub length_over : most_length < len → refuse 4 ≡ judged_length len
  unfolding judged_length
  length_over h = rw (lt-leb len most_length h)

  pub length_fine : len ≤ most_length → done tt ≡ judged_length len
  unfolding judged_length
  length_fine h = rw (le-leb len most_length h)

  pub padding_over : (padding : ℕ) (r : Answered) → len < padding → NoAt Padding 4 r → refused (told r) ≡ judged_padding len padding
  unfolding judged_padding
  padding_over padding r h e = rw (lt-leb padding len h, e)

  pub padding_fine : (padding : ℕ) → padding ≤ len → done tt ≡ judged_padding len padding
  unfolding judged_padding
  padding_fine padding h = rw (le-leb padding len h)

pub ruleset judge_laws = (length_over, length_fine, padding_over, padding_fine)

-- the padding that is written
module _ (n : ℕ) where
  pub padding_short : 8 - (5 + n) % 8 < 4 → 8 - (5 + n) % 8 + 8 ≡ padding_length n
  unfolding padding_length
  padding_short h = rw (lt-ltb (8 - (5 + n) % 8) 4 h)

  pub padding_enough : 4 ≤ 8 - (5 + n) % 8 → 8 - (5 + n) % 8 ≡ padding_length n
  unfolding padding_length
  padding_enough h = rw (le-ltb (8 - (5 + n) % 8) 4 h)

pub ruleset padding_laws = (padding_short, padding_enough, arith)

-- the padding that is read
module _ (s : List ℕ) (len : ℕ) where
  pub padding_none : len ≡ 0 → 0 ≡ padding_of s len
  unfolding padding_of
  padding_none h = rw (eq-eqb len 0 h)

  pub padding_byte : (b : ℕ) → b ≡ get_or s 4 0 → (len ≡ 0 → ⊥) → b ≡ padding_of s len
  unfolding padding_of
  padding_byte b e h = rw (ne_eqb len 0 h) e

pub ruleset byte_laws = (padding_none, padding_byte)

-- one turn of the zero padding
pub zeroed : (d out : List ℕ) (at j : ℕ) → out ≡ sets d at (replicate j 0) → set out (at + j) 0 ≡ sets d at (replicate (j + 1) 0)
zeroed d out at j e = rw (e, ← (replicate-append-replicate {A = ℕ} j 1 0), sets_append, length-replicate)

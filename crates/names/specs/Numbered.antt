-- A kind of names by its number, as include/harupesat.h counts them; any other number is "outside its table": 9.
use Rattle.std.specs.Prelude.{ℕ, eqb, ◌≡◌, Result}
use Rattle.answer.specs.declared.Cause.{Cause}
use Rattle.answer.specs.Answer.{Out, refuse, done, pick, answered}
use Rattle.names.specs.declared.Kind.{Kind}
use Rattle.names.specs.declared.Kind.TheVariants.{Kex, Key, Certificate, Cipher, Mac, Compression}

unfoldable pub kind_of : ℕ → Out Kind
kind_of n =
    pick (eqb n 0) (done Kex)
    (pick (eqb n 1) (done Key)
    (pick (eqb n 2) (done Certificate)
    (pick (eqb n 3) (done Cipher)
    (pick (eqb n 4) (done Mac)
    (pick (eqb n 5) (done Compression)
    (refuse 9))))))

-- what a number of a kind is read as
abbrev pub Numbers : ℕ → Result Kind Cause → Type 0
Numbers n r = ◌≡◌ {A = Out Kind} (answered r) (kind_of n)

-- One step of a reader at a time: a law for each way on, in the words of the code's tests. Assumes nothing.
use mathlib.Core.Path.{◌≡◌}
use mathlib.Core.Bool.{Bool, true, false}
use mathlib.Core.List.{List}
use Prim.Native.Nat.{ℕ}
use lib.ListN.{length, drop}
use Rattle.std.specs.Prelude.{Result, Ok, Err, IsOkAnd, MatchResult}
use Rattle.std.specs.Result.{IsErr, IsErrAnd, result_from_control_flow}
use Rattle.std.proofs.Common.{Continue, Break}
use Rattle.std.proofs.lemmas.Result.{err_from_is_err_and}
use Rattle.answer.specs.declared.Refusal.{Refusal as Answered}
use Rattle.answer.specs.Answer.{Out, done, pick, outcome, ◌>>=◌}
use Rattle.text.specs.Same.{same}
use Rattle.wire.specs.declared.place.Place.{Place}
use Rattle.wire.specs.Fields.{At, here, end}
use Rattle.wire.specs.Answers.{checked}
use Rattle.wire.proofs.StepLaws.{field_steps}
use Rattle.layouts.specs.declared.ChannelType.{ChannelType}
use Rattle.layouts.specs.declared.ChannelType.TheVariants.{Unknown}
use Rattle.layouts.specs.declared.TcpChannelInfo.{TcpChannelInfo}
use Rattle.layouts.specs.Types.{exact, left_at, tcpip, got_type}

-- the type that a known one's fields were read for
pub exact_as : (t u : ChannelType) (c : At) (m : Out ChannelType) → m ≡ exact t c → t ≡ u → m ≡ exact u c
exact_as t u c m k e = rw (← e) k

-- the last step of what is made of the fields of a type
pub exact_on : (t : ChannelType) (c : At) (w : Result (Unit {0}) Answered) → checked w ≡ end c → (b : _)
    → w ≡ result_from_control_flow b → (u : Unit {0}) → b ≡ Continue u → done t ≡ exact t c
unfolding exact ◌>>=◌
exact_on t c w seen b was u e = rw (← seen, was, e)

pub exact_out : {A : Type 0} (of : A → ChannelType) (t : ChannelType) (c : At) (w : Result (Unit {0}) Answered) → checked w ≡ end c → (b : _)
    → w ≡ result_from_control_flow b → (e : _) (r : Result A Answered) → b ≡ Break e → IsErr r × IsErrAnd r (λ y. y ≡ e.0)
    → outcome of r ≡ exact t c
unfolding exact ◌>>=◌
exact_out of t c w seen b was e r f h = let p = err_from_is_err_and r h.1 in rw (← seen, was, f, p.1, p.2)

pub ruleset steps = (field_steps, exact_as)

-- a type name that was compared
module _ {B : Type 0} (t u : List ℕ) (b : Bool) (told : b ≡ same t u) (x y m : Out B) where
  pub named : b ≡ true → m ≡ x → m ≡ pick (same t u) x y
  named h k = rw (← told, h) k

  pub not_named : b ≡ false → m ≡ y → m ≡ pick (same t u) x y
  not_named h k = rw (← told, h) k

-- what is left of the body
pub left_as : (s x : List ℕ) (i : ℕ) → x ≡ drop i s → ◌≡◌ {A = Place} (record { start = i; len = length x }) (left_at (here s i))
left_as s x i e = rw e

-- no known name: the type is kept with it
pub kept : (p r s : Place) → r ≡ s → ◌≡◌ {A = Out ChannelType} (done (Unknown p r)) (done (Unknown p s))
kept p r s e = rw e

-- what the two types of one layout carry, made the one or the other
pub mapped : (c : At) (w : Result TcpChannelInfo Answered) (r : Result ChannelType Answered) (of : TcpChannelInfo → ChannelType)
    → ((made : TcpChannelInfo → ChannelType) → outcome made w ≡ tcpip made c)
    → MatchResult w (λ i. IsOkAnd r (λ t. t ≡ of i)) (λ e. r ≡ Err e) → got_type r ≡ tcpip of c
mapped c (Ok i) (Ok t) of told m = rw m (told of)
mapped c (Ok i) (Err e) of told m = absurd m
mapped c (Err e) r of told m = rw m (told of)

pub ruleset names = (named, not_named, kept)
